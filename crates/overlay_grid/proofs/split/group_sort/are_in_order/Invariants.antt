use Rattle.std.proofs.Common.{ℕ, ◌+◌, ◌<◌, ◌≡◌, get_or, false}
use Rattle.std.specs.Ordering.{int_cmp, is_lt}
use Rattle.overlay_grid.specs.declared.split.fragment.Fragment.{Fragment}
use Rattle.overlay_grid.proofs.laws.grid.GridGroups.{begins}
use Rattle.overlay_grid.proofs.split.group_sort.are_in_order.Given as goal

abbrev pub invariant-loop-place : goal.invariant-loop-place
invariant-loop-place g l =
    (i : ℕ) → (d : Fragment _) → i + 1 < l.place → is_lt (int_cmp (begins g.I.OverlayInt.whole l.axis (get_or l.group (i + 1) d)) (begins g.I.OverlayInt.whole l.axis (get_or l.group i d))) ≡ false
