-- Every pair of a pass lies near one of the pairs before it, and every pair of a run near one of those given.
use Rattle.std.proofs.Common.{◌≡◌, ⊎_elim, refl, subst, arith, ℕ, zero, suc, ◌+◌, ◌-◌, ◌≤◌, List, true, false}
use Rattle.std.specs.Prelude.{IsTrue, IsFalse, length, nat_le}
use Rattle.std.proofs.lemmas.Bool.{and_parts, and_cases, both_ways, cond_both, le-leb}
use Rattle.std.proofs.lemmas.List.Elements.{All-from_recursion, recursion_from_All, All-contains}
use Rattle.std.proofs.Math.Nat.{add_comm}
use Rattle.overlay_geometry.specs.Points.{Pair}
use Rattle.overlay_base.specs.Segments.{WholeSegment, pairs, are_ordered}
use Rattle.overlay_base.specs.Join.{join}
use Rattle.overlay_geometry.proofs.laws.lists.Lists.{AllByRecursion-weaker, AllByRecursion-from_Has, Has-map}
use Rattle.overlay_base.proofs.laws.joins.Maps.{are_ordered-map}
use Rattle.overlay_intersections.specs.Marks.{Placing}
use Rattle.overlay_cuts.specs.Pass.{pass}
use Rattle.overlay_intersections.specs.PassMarks.{marks_on, is_rounded}
use Rattle.overlay_cuts.specs.Run.{Settings, placing_of_pass, after_passes, goes_on}
use Rattle.overlay_cuts.specs.Nearness.{LiesNear, LieNear, reach, reach_of_pass, reach_of_run, reach_of_passes}
use Rattle.overlay_split.specs.Laws.{PassStaysNear, ReachIsBounded, LastPassReachesNothing, ExactInputReachesNothing}
use Rattle.overlay_cuts.proofs.laws.paths.Cuts.{AllByRecursion-join}
use Rattle.overlay_cuts.proofs.laws.paths.Maps.{is_map-after_passes}
use Rattle.overlay_cuts.proofs.laws.planar.ExactInputs.{exact_means, join_not_rounded}
use Rattle.overlay_cuts.proofs.laws.nearness.Distances.{LiesNear-trans, LiesNear-itself}
use Rattle.overlay_cuts.proofs.laws.nearness.NearMarks.{marks_of_pass_are_near}
use Rattle.overlay_geometry.proofs.laws.lists.Elements.{Contains-from_Has}
use Rattle.overlay_cuts.proofs.laws.nearness.Nearness.{HasNear, LieNear-to, near_pairs}

-- ---- a pass

pub pass_stays_near : PassStaysNear
unfolding pass
pass_stays_near placing segments ordered = near_pairs (reach_of_pass placing segments) (marks_on placing segments) segments (marks_of_pass_are_near placing segments ordered)

-- ---- a run

HasNear-trans : (h k : ℕ) (given before : List Pair) (r : Pair) → LieNear h given before → HasNear k before r → HasNear (h + k) given r
HasNear-trans h k given before r near (s, i, on) =
    let first = All-contains (HasNear h given) before s near i in
    (first.0, first.1, subst (λ (n : ℕ). LiesNear n r first.0) (add_comm k h) (LiesNear-trans k h r s first.0 on first.2))

pub LieNear-trans : (h k : ℕ) (given before result : List Pair) → LieNear h given before → LieNear k before result → LieNear (h + k) given result
LieNear-trans h k given before result first second =
    All-from_recursion (HasNear (h + k) given) result
    (AllByRecursion-weaker (HasNear k before) (HasNear (h + k) given) (λ r on. HasNear-trans h k given before r first on) result (recursion_from_All (HasNear k before) result second))

-- the pairs of the join are given
join_stays : (given : List WholeSegment) → LieNear 0 (pairs given) (pairs (join given))
join_stays given =
    LieNear-to 0 (pairs given) (join given)
    (AllByRecursion-join (HasNear 0 (pairs given)) given
    (AllByRecursion-from_Has (λ (s : WholeSegment). HasNear 0 (pairs given) s.pair) given (λ s i. (s.pair, Contains-from_Has (pairs given) s.pair (Has-map (λ (t : WholeSegment). t.pair) given s i), LiesNear-itself s.pair))))

-- what is left after k passes lies near what is given
pub run_lies_near : (settings : Settings) (given : List WholeSegment) (k : ℕ) → IsTrue (are_ordered given) → LieNear (reach_of_run settings given k) (pairs given) (pairs (after_passes settings given k))
unfolding after_passes reach_of_run
run_lies_near settings given zero ordered = join_stays given
run_lies_near settings given (suc k) ordered =
    let before = after_passes settings given k in
    LieNear-trans (reach_of_run settings given k) (reach_of_pass (placing_of_pass settings (suc k)) before) (pairs given) (pairs before) (pairs (pass (placing_of_pass settings (suc k)) before))
    (run_lies_near settings given k ordered)
    (pass_stays_near (placing_of_pass settings (suc k)) before (are_ordered-map before (is_map-after_passes settings given k ordered)))

-- ---- how far that is

pub reach_of_pass-bounded : (placing : Placing) (segments : List WholeSegment) → reach_of_pass placing segments ≤ reach placing
unfolding reach_of_pass
reach_of_pass-bounded placing segments = cond_both (is_rounded segments) (reach placing) 0 (λ (h : ℕ). h ≤ reach placing) (λ _. omega arith) (λ _. omega arith)

reach_of_pass-exact : (placing : Placing) (segments : List WholeSegment) → IsFalse (is_rounded segments) → reach_of_pass placing segments ≡ 0
unfolding reach_of_pass
reach_of_pass-exact placing segments exact = rw exact refl

pub reach_is_bounded : ReachIsBounded
unfolding reach_of_run reach_of_passes
reach_is_bounded settings given zero = omega arith
reach_is_bounded settings given (suc k) = let here = reach_of_pass-bounded (placing_of_pass settings (suc k)) (after_passes settings given k) in omega (arith, reach_is_bounded settings given k, here)

pub exact_input_reaches_nothing : ExactInputReachesNothing
unfolding after_passes goes_on reach_of_run
exact_input_reaches_nothing settings given result zero flag ordered exact run = refl
exact_input_reaches_nothing settings given result (suc zero) flag ordered exact run = let none = reach_of_pass-exact (placing_of_pass settings 1) (join given) (join_not_rounded given (exact_means given exact)) in omega (arith, none)
exact_input_reaches_nothing settings given result (suc (suc k)) flag ordered exact run =
    absurd (both_ways (is_rounded (join given)) (join_not_rounded given (exact_means given exact)) (and_parts (nat_le 2 (length (after_passes settings given 1))) (is_rounded (join given)) (run.count.made 1 (omega arith))).1)

-- where two segments or more are left the last pass was exact
pub last_pass_reaches_nothing : LastPassReachesNothing
unfolding goes_on reach_of_run
last_pass_reaches_nothing settings given result zero flag run some = omega arith
last_pass_reaches_nothing settings given result (suc k) flag run some =
    let few = nat_le 2 (length (after_passes settings given (suc k))) in
    let left : few ≡ true = le-leb 2 _ (subst (λ (l : List WholeSegment). 2 ≤ length l) run.arrangement some) in
    let exact : IsFalse (is_rounded (after_passes settings given k)) = ⊎_elim (λ (none : few ≡ false). absurd (both_ways few none left)) (λ e. e) (and_cases few (is_rounded (after_passes settings given k)) run.count.no_more) in
    let last : suc k - 1 ≡ k = omega arith in
    rw last (omega (arith, reach_is_bounded settings given k, reach_of_pass-exact (placing_of_pass settings (suc k)) (after_passes settings given k) exact))
