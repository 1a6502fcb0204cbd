use Rattle.std.proofs.Common.{◌≡◌, ◌≤◌, ◌+◌, subst, sym, arith, ℕ}
use Rattle.std.specs.Prelude.{IfNone}
use Rattle.overlay_base.specs.Segments.{pairs}
use Rattle.overlay_base.specs.SegmentOf.{segments_of}
use Rattle.overlay_grid.specs.GroupsOf.{grid_of}
use Rattle.overlay_grid.proofs.laws.grid.GridAdding.{on_ok}
use Rattle.overlay_grid.proofs.laws.grid.FragmentCounts.{tree_within, columns_within, both_within}
use Rattle.overlay_cuts.proofs.split.finder.find_over_grid.Goals as goal
use Rattle.overlay_cuts.proofs.split.finder.find_over_grid.Goals.{then-fragments-segments+in_ok-found+in_default+in_ok-found-2+in_default-found, else-fragments-segments}

pub returns-in-Some-clause-looked : goal.returns-in-Some-clause-looked
returns-in-Some-clause-looked g c =
    let n = c.count_fragments-fragments.result in
    let most = c.min-most.ensures in
    let row = c.in_ok-found.ensures.looked in
    tree_within (grid_of c.args.grid.now) (pairs (segments_of c.args.segments.now)) n c.args.looked.now c.find_in_row.new.looked c.count_fragments-fragments.ensures (omega (arith, most, row))

pub returns-in-Some-found-clause-looked : goal.returns-in-Some-found-clause-looked
returns-in-Some-found-clause-looked g c =
    let n = c.count_fragments-fragments.result in
    let tree = c.in_ok-found-2.ensures.looked in
    let same : c.find_in_row.new.looked ≡ c.args.looked.now = subst (λ o. IfNone o (c.find_in_row.new.looked ≡ c.args.looked.now)) c.in_default.is c.in_ok-found.ensures.given_up in
    tree_within (grid_of c.args.grid.now) (pairs (segments_of c.args.segments.now)) n c.args.looked.now c.find_marks_within.new.looked c.count_fragments-fragments.ensures (omega (arith, same, tree))

pub returns-then-are_narrow-clause-looked : goal.returns-then-are_narrow-clause-looked
returns-then-are_narrow-clause-looked g c =
    let l = grid_of c.args.grid.now in
    let ps = pairs (segments_of c.args.segments.now) in
    on_ok c.find_marks.result _ _ (λ k. columns_within l ps c.args.looked.now c.find_marks.new.looked k) c.find_marks.ensures.looked

pub returns-clause-looked : goal.returns-clause-looked
returns-clause-looked g c =
    let l = grid_of c.args.grid.now in
    let ps = pairs (segments_of c.args.segments.now) in
    let n = c.count_fragments-fragments.result in
    let spent : c.if-fragments-segments.looked ≤ c.args.looked.now + n = elim c.if-fragments-segments.branch [
      | then-fragments-segments+in_ok-found+in_default+in_ok-found-2+in_default-found w ↦ subst (λ (m : ℕ). m ≤ c.args.looked.now + n) (sym w.looked-is) (let tree = w.in_ok-found-2.ensures.looked in let same : w.find_in_row.new.looked ≡ c.args.looked.now = subst (λ o. IfNone o (w.find_in_row.new.looked ≡ c.args.looked.now)) w.in_default.is w.in_ok-found.ensures.given_up in omega (arith, same, tree))
      | else-fragments-segments w ↦ subst (λ (m : ℕ). m ≤ c.args.looked.now + n) (sym w.looked-is) (omega arith)
    ] in
    on_ok c.find_marks-2.result _ _ (λ k. both_within l ps n c.args.looked.now c.if-fragments-segments.looked c.find_marks-2.new.looked c.count_fragments-fragments.ensures spent k) c.find_marks-2.ensures.looked
