use Rattle.std.proofs.Common.{◌≡◌, ◌+◌, ◌-◌, ◌<◌, ◌≤◌, ◌∙◌, sym, subst, arith, drop, length, ℕ}
use Rattle.std.specs.Prelude.{count_by, ◌<ℤ◌}
use Rattle.std.specs.List.{AllByRecursion}
use Rattle.overlay_grid.specs.FragmentOf.{fragment_of, fragments_of, least_along, greatest_along}
use Rattle.overlay_grid.specs.ColumnLooks.{is_reached}
use Rattle.overlay_grid.proofs.laws.grid.FoundFragments.{fragments-next, fragments-none}
use Rattle.overlay_grid.proofs.laws.grid.FoundBlocks.{counted-more, all_past}
use Rattle.overlay_grid.proofs.split.blocks.block_end.Goals as goal
use Rattle.overlay_grid.proofs.split.blocks.block_end.Goals.{then-group-later-lt-BLOCK, else-group-later-lt-BLOCK}

pub loop-end-preserved : goal.loop-end-preserved
loop-end-preserved g c =
    let lt : c.loop-end.end < length c.args.group.now = elim c.if-group-later-lt-BLOCK.branch [ then-group-later-lt-BLOCK w ↦ omega arith | else-group-later-lt-BLOCK w ↦ omega arith ] in
    let here = fragments-next g.I.OverlayInt.whole c.args.group.now c.loop-end.end c.index-group-end.result lt c.index-group-end.is in
    counted-more c.args.axis (fragment_of g.I.OverlayInt.whole c.args.fragment.now) (fragment_of g.I.OverlayInt.whole c.index-group-end.result) (fragments_of g.I.OverlayInt.whole c.args.group.now) c.args.later c.loop-end.end
    c.loop-end.auto.end c.loop-end.invariant here (sym c.begins_past.ensures ∙ c.if-begins_past.false)

pub returns-then-begins_past-clause-past : goal.returns-then-begins_past-clause-past
returns-then-begins_past-clause-past g c few =
    let lt : c.loop-end.end < length c.args.group.now = elim c.if-group-later-lt-BLOCK.branch [ then-group-later-lt-BLOCK w ↦ omega arith | else-group-later-lt-BLOCK w ↦ omega arith ] in
    let here = fragments-next g.I.OverlayInt.whole c.args.group.now c.loop-end.end c.index-group-end.result lt c.index-group-end.is in
    all_past c.args.axis (fragment_of g.I.OverlayInt.whole c.args.fragment.now) (fragment_of g.I.OverlayInt.whole c.index-group-end.result) (fragments_of g.I.OverlayInt.whole c.args.group.now) c.loop-end.end
    c.requires.sorted here (sym c.begins_past.ensures ∙ c.if-begins_past.true)

pub returns-clause-looks : goal.returns-clause-looks
returns-clause-looks g c =
    let fs = fragments_of g.I.OverlayInt.whole c.args.group.now in
    let f = fragment_of g.I.OverlayInt.whole c.args.fragment.now in
    let order : c.args.later ≤ c.if-group-later-lt-BLOCK.most = elim c.if-group-later-lt-BLOCK.branch [ then-group-later-lt-BLOCK w ↦ omega arith | else-group-later-lt-BLOCK w ↦ omega arith ] in
    let upto = c.loop-end.auto.end-end order in
    let past = c.loop-end-test.false in
    let last : c.loop-end.end ≡ c.if-group-later-lt-BLOCK.most = omega arith in
    subst (λ (n : ℕ). count_by (λ u. is_reached c.args.axis f u) (drop c.args.later fs) ≡ n - c.args.later + count_by (λ u. is_reached c.args.axis f u) (drop n fs)) last c.loop-end.invariant

pub returns-clause-past : goal.returns-clause-past
returns-clause-past g c few = elim c.if-group-later-lt-BLOCK.branch [
  | then-group-later-lt-BLOCK w ↦
      subst (AllByRecursion (λ u. greatest_along c.args.axis (fragment_of g.I.OverlayInt.whole c.args.fragment.now) <ℤ least_along c.args.axis u))
      (sym (fragments-none g.I.OverlayInt.whole c.args.group.now c.if-group-later-lt-BLOCK.most (omega arith))) tt
  | else-group-later-lt-BLOCK w ↦ absurd (omega arith)
]
