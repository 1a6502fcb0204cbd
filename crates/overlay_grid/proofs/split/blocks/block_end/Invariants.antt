use Rattle.std.proofs.Common.{◌≡◌, ◌+◌, ◌-◌, drop}
use Rattle.std.specs.Prelude.{count_by}
use Rattle.overlay_grid.specs.FragmentOf.{fragment_of, fragments_of}
use Rattle.overlay_grid.specs.ColumnLooks.{is_reached}
use Rattle.overlay_grid.proofs.split.blocks.block_end.Given as goal

abbrev pub invariant-loop-end : goal.invariant-loop-end
invariant-loop-end g l =
    count_by (λ f. is_reached l.axis (fragment_of g.I.OverlayInt.whole l.fragment) f) (drop l.later (fragments_of g.I.OverlayInt.whole l.group))
    ≡ l.end - l.later + count_by (λ f. is_reached l.axis (fragment_of g.I.OverlayInt.whole l.fragment) f) (drop l.end (fragments_of g.I.OverlayInt.whole l.group))
