use Rattle.std.proofs.Common.{◌≡◌, ◌≤◌, ◌+◌, ◌*◌, ℕ, arith, subst, sym, List, length}
use Rattle.std.proofs.lemmas.Result.{on_ok_weaker}
use Rattle.overlay_geometry.specs.Points.{Pair}
use Rattle.overlay_base.specs.SegmentOf.{pairs_in}
use Rattle.overlay_intersections.specs.Looked.{tree_looks, capped_sum, count_twos, x_ranges_meet}
use Rattle.overlay_tree.specs.TreeLooks.{sweep_looks}
use Rattle.overlay_tree.proofs.laws.tree.LookCounts.{sweep_looks-most}
use Rattle.overlay_tree.proofs.laws.tree.Sweeps.{length-pairs}
use Rattle.overlay_cuts.proofs.split.finder.find_without_grid.Goals as goal
use Rattle.overlay_cuts.proofs.split.finder.find_without_grid.Goals.{in-Some+else-are_few_in_reach+in_ok-found+in_default-found, in_default}

-- what is left to the tree by columns, and what a list may take
within_columns : (ps : List Pair) (count old new : ℕ) → length ps ≡ count → new ≤ old + 24 * count → new ≤ old + tree_looks ps
within_columns ps count old new n h = let most = sweep_looks-most ps in omega (arith, n, h, most)

within_both : (ps : List Pair) (count old middle new : ℕ) → length ps ≡ count → middle ≤ old + 24 * count → new ≤ middle + sweep_looks ps → new ≤ old + tree_looks ps
within_both ps count old middle new n h k = let most = sweep_looks-most ps in omega (arith, n, h, k, most)

within_list : (ps : List Pair) (count most twos old new : ℕ) → length ps ≡ count → most ≤ 32 * count → twos ≤ most → new ≡ capped_sum old twos → new ≤ old + tree_looks ps
unfolding tree_looks
within_list ps count most twos old new n h k e = omega (arith, n, h, k, e)

pub returns-then-are_few_in_reach-clause-looked : goal.returns-then-are_few_in_reach-clause-looked
returns-then-are_few_in_reach-clause-looked g c =
    let ps = pairs_in c.args.segments.now in
    let count = length-pairs c.args.segments.now in
    let most : c.saturating_mul-most.result ≤ 32 * length c.args.segments.now = let is = c.saturating_mul-most.ensures in omega (arith, is) in
    on_ok_weaker c.find_marks.result (λ h. within_list ps (length c.args.segments.now) c.saturating_mul-most.result (count_twos x_ranges_meet ps) c.args.looked.now c.find_marks.new.looked count most (c.are_few_in_reach.ensures c.if-are_few_in_reach.true) h) c.find_marks.ensures.looked

pub returns-in-Some-found-clause-looked : goal.returns-in-Some-found-clause-looked
returns-in-Some-found-clause-looked g c =
    within_columns (pairs_in c.args.segments.now) (length c.args.segments.now) c.args.looked.now c.find_in_few_columns.new.looked (length-pairs c.args.segments.now) c.in_ok-found.ensures.looked

pub returns-clause-looked : goal.returns-clause-looked
returns-clause-looked g c =
    let ps = pairs_in c.args.segments.now in
    let count = length c.args.segments.now in
    let spent : c.match-few.looked ≤ c.args.looked.now + 24 * count = elim c.match-few.branch [
      | in-Some+else-are_few_in_reach+in_ok-found+in_default-found w ↦ subst (λ (m : ℕ). m ≤ c.args.looked.now + 24 * count) (sym w.looked-is) w.in_ok-found.ensures.looked
      | in_default w ↦ subst (λ (m : ℕ). m ≤ c.args.looked.now + 24 * count) (sym w.looked-is) (omega arith)
    ] in
    on_ok_weaker c.find_marks-2.result (λ h. within_both ps count c.args.looked.now c.match-few.looked c.find_marks-2.new.looked (length-pairs c.args.segments.now) spent h) c.find_marks-2.ensures.looked
