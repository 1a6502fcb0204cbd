-- A run changes no winding at a place that is farther from the given segments than it reaches.
use Rattle.std.proofs.Common.{◌≡◌, inl, sym, ap, subst, ◌∙◌, arith, ℕ, zero, suc, ◌+◌, List}
use Rattle.std.specs.Prelude.{◌≤◌, Contains, ℤ, pos, ◌+ℤ◌, ◌*ℤ◌, IsTrue}
use Rattle.std.specs.List.{AllByRecursion}
use Rattle.std.proofs.lemmas.Bool.{and_from}
use Rattle.std.proofs.lemmas.List.Elements.{All-contains}
use Rattle.std.proofs.Math.Nat.{add_comm}
use Rattle.overlay_geometry.specs.Points.{Pair}
use Rattle.overlay_base.specs.Windings.{Winding}
use Rattle.overlay_base.specs.Segments.{WholeSegment, pairs, are_ordered}
use Rattle.overlay_base.specs.Sums.{weighed}
use Rattle.overlay_geometry.proofs.laws.lists.Lists.{AllByRecursion-weaker}
use Rattle.overlay_base.proofs.laws.joins.Maps.{are_ordered-map}
use Rattle.overlay_intersections.specs.Marks.{Placing}
use Rattle.overlay_cuts.specs.Pass.{pass}
use Rattle.overlay_intersections.specs.PassMarks.{marks_on}
use Rattle.overlay_cuts.specs.Run.{placing_of_pass, after_passes}
use Rattle.overlay_base.specs.Places.{RationalPoint, spans, runs_below, winding_below}
use Rattle.overlay_cuts.specs.Nearness.{point_along, IsNear, LiesNear, LieNear, reach_of_pass, reach_of_run}
use Rattle.overlay_cuts.specs.Places.{IsFar}
use Rattle.overlay_split.specs.Laws.{PassOnOneSide, PassKeepsWinding, RunKeepsWinding, ExactInputKeepsWinding}
use Rattle.overlay_cuts.proofs.laws.paths.Maps.{is_map-after_passes}
use Rattle.overlay_cuts.proofs.laws.nearness.Distances.{IsNear-weaker, IsNear-from_point}
use Rattle.overlay_cuts.proofs.laws.nearness.NearMarks.{marks_of_pass_are_near}
use Rattle.overlay_split.proofs.laws.nearness.Nearness.{run_lies_near, exact_input_reaches_nothing}
use Rattle.overlay_cuts.proofs.laws.nearness.OneSide.{one_side}
use Rattle.overlay_cuts.proofs.laws.nearness.Places.{IsApartFrom, far_from, join_keeps_winding, pass_by_winds}

pub pass_on_one_side : PassOnOneSide
pass_on_one_side h p s r t far near_r near_t below met = and_from (spans t p) (runs_below t p) met (one_side h p s r t far near_r near_t below met)

-- ---- counts that do not wind

-- nor does a pass
pub pass_winds : (placing : Placing) (segments : List WholeSegment) (p : RationalPoint) → IsTrue (are_ordered segments) → IsApartFrom (reach_of_pass placing segments) p segments → winding_below (pass placing segments) p ≡ winding_below segments p
unfolding pass
pass_winds placing segments p ordered apart = pass_by_winds (reach_of_pass placing segments) (marks_on placing segments) segments p ordered (marks_of_pass_are_near placing segments ordered) apart

pub pass_keeps_winding : PassKeepsWinding
pass_keeps_winding placing segments p ordered far = pass_winds placing segments p ordered (λ s i. inl (far_from (reach_of_pass placing segments) p segments far s i))

-- ---- a run

pub IsFar-nearer : (h k : ℕ) (p : RationalPoint) (list : List Pair) → h ≤ k → IsFar k p list → IsFar h p list
IsFar-nearer h k p list l far (s, i, near) = far (s, i, IsNear-weaker h k p s l near)

-- what is far from the given segments is far from those that lie near them
pub IsFar-result : (h k : ℕ) (p : RationalPoint) (given result : List Pair) → LieNear h given result → IsFar (h + k) p given → IsFar k p result
IsFar-result h k p given result near far (r, i, (f, within)) =
    let first = All-contains (λ t. (s : Pair) × Contains given s × LiesNear h t s) result r near i in
    let on = first.2 f in
    far (first.0, first.1, subst (λ (n : ℕ). IsNear n p first.0) (add_comm k h) (IsNear-from_point k h p (point_along r f) first.0 f.positive within on))

pub run_keeps_winding : RunKeepsWinding
unfolding after_passes reach_of_run
run_keeps_winding settings given zero ordered p far = join_keeps_winding given p
run_keeps_winding settings given (suc k) ordered p far =
    let before_it = after_passes settings given k in
    let placing = placing_of_pass settings (suc k) in
    let so_far = reach_of_run settings given k in
    let more = reach_of_pass placing before_it in
    pass_keeps_winding placing before_it p (are_ordered-map before_it (is_map-after_passes settings given k ordered))
    (IsFar-result so_far more p (pairs given) (pairs before_it) (run_lies_near settings given k ordered) far)
    ∙ run_keeps_winding settings given k ordered p (IsFar-nearer so_far (so_far + more) p (pairs given) (omega arith) far)

pub exact_input_keeps_winding : ExactInputKeepsWinding
exact_input_keeps_winding settings given result passes flag p ordered exact run far =
    ap (λ (segments : List WholeSegment). winding_below segments p) run.arrangement
    ∙ run_keeps_winding settings given passes ordered p (subst (λ (h : ℕ). IsFar h p (pairs given)) (sym (exact_input_reaches_nothing settings given result passes flag ordered exact run)) far)
