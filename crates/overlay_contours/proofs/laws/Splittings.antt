-- What splittings leave, whichever they are.
use Rattle.std.proofs.Common.{◌≡◌, refl, sym, ap, ap₂, subst, ◌∙◌, ℕ, ◌≤◌, Bool, true, false, if◌then◌else◌, ◌&&◌, IsTrue, List, arith, inl, inr}
use Rattle.std.specs.Prelude.{ℤ}
use Rattle.std.proofs.lemmas.Bool.{and_parts}
use Rattle.overlay_geometry.specs.Points.{Point}
use Rattle.overlay_base.specs.Balance.{KeepsBalance}
use Rattle.overlay_base.specs.Join.{join}
use Rattle.overlay_base.specs.Places.{RationalPoint, winding_below}
use Rattle.overlay_base.specs.Planar.{is_planar, is_arranged, is_splittable}
use Rattle.overlay_base.specs.Radius.{exponent_cap}
use Rattle.overlay_base.specs.Segments.{WholeSegment, pairs, is_map}
use Rattle.overlay_base.specs.declared.overlay_core.solver.Solver.{Solver}
use Rattle.overlay_base.specs.declared.segm.fault.Fault.{Fault}
use Rattle.overlay_base.specs.declared.segm.fault.Fault.TheVariants.{Memory, CountOutOfRange}
use Rattle.overlay_intersections.specs.PassMarks.{is_rounded}
use Rattle.overlay_cuts.proofs.laws.planar.ExactInputs.{join_not_rounded, exact_means}
use Rattle.overlay_split.proofs.laws.planar.PlanarRuns.{run_is_one}
use Rattle.overlay_cuts.specs.ExactInput.{is_exact_input}
use Rattle.overlay_cuts.specs.Nearness.{LieNear, StaysNear, reach_of_run, reach_of_passes}
use Rattle.overlay_cuts.specs.Places.{IsFar, KeepsWinding}
use Rattle.overlay_cuts.specs.Run.{Settings, IsRun, after_passes, has_changed}
use Rattle.overlay_split.specs.SettingsOf.{snap_limit_of, settings_of}
use Rattle.overlay_split.specs.declared.split.solver.SplitSolver.{SplitSolver}
use Rattle.overlay_snapping.proofs.laws.chains.Paths.{snapped_is_one}
use Rattle.overlay_snapping.specs.Chains.{IsSnapped}
use Rattle.overlay_snapping.specs.SnapOf.{reach_of_snap}
use Rattle.overlay_sweep.specs.ChainWindings.{tops_leave_range}
use Rattle.overlay_contours.specs.ContourSegments.{overlay_segments}
use Rattle.overlay_contours.specs.Refusals.{IsReason}
use Rattle.overlay_contours.specs.Splittings.{Splitting, by_passes, by_snapping, settings_for, IsLeftBy, SumsLeaveRange, IsArrangement}

pub settings_are : {I : Type 0} (bits : ℕ) (solver : Solver) (splitter : SplitSolver I) → snap_limit_of splitter ≡ 256 → settings_of bits solver splitter ≡ settings_for bits solver
settings_are bits solver splitter e = ap (λ (n : ℕ). record { start = solver.precision.start; progression = solver.precision.progression; cap = exponent_cap bits; limit = n }) e

-- an arrangement is a planar map
planar_map : (least greatest : ℤ) (segments : List WholeSegment) → IsTrue (is_arranged least greatest segments) → IsTrue (is_map segments && is_planar segments)
unfolding is_arranged
planar_map least greatest segments arranged =
    let outer = and_parts (is_map segments && is_splittable least greatest segments) (is_planar segments) arranged in
    let inner = and_parts (is_map segments) (is_splittable least greatest segments) outer.0 in
    ap₂ (λ (a b : Bool). a && b) inner.0 outer.1

-- ---- what each leaves

pub left_by_passes : (settings : Settings) (given segments : List WholeSegment) (passes halves : ℕ) (flag : Bool) (least greatest : ℤ) → IsRun settings given segments passes flag → IsTrue (is_arranged least greatest segments) → KeepsBalance given segments
    → StaysNear settings given segments passes → KeepsWinding settings given segments passes → halves ≡ reach_of_run settings given passes → halves ≤ reach_of_passes settings passes → (IsTrue (is_exact_input given) → halves ≡ 0)
    → IsArrangement (by_passes settings) given segments passes halves
left_by_passes settings given segments passes halves flag least greatest run arranged kept near winding is bound exact = record {
  left = record { count = run.count; arrangement = run.arrangement; reach = is };
  planar = planar_map least greatest segments arranged;
  kept = kept;
  near = subst (λ (n : ℕ). LieNear n (pairs given) (pairs segments)) (sym is) near.result_is_near;
  winding = λ p far. winding p (subst (λ (n : ℕ). IsFar n p (pairs given)) is far);
  reach = bound;
  exact = exact;
}

-- nothing is moved by more than a half, and nothing at all where each crossing is whole
pub at_most_one : (given : List WholeSegment) → reach_of_snap given ≤ 1
unfolding reach_of_snap
at_most_one given = by (is_rounded (join given))
  where
    by : (b : Bool) → (if b then 1 else 0) ≤ 1
    by true = omega arith
    by false = omega arith

pub none_where_exact : (given : List WholeSegment) → IsTrue (is_exact_input given) → reach_of_snap given ≡ 0
unfolding reach_of_snap
none_where_exact given exact = ap (λ (b : Bool). if b then 1 else 0) (join_not_rounded given (exact_means given exact))

pub left_by_snapping : (given segments : List WholeSegment) (halves : ℕ) (least greatest : ℤ) → IsSnapped (join given) segments → IsTrue (is_arranged least greatest segments) → KeepsBalance given segments → LieNear (reach_of_snap given) (pairs given) (pairs segments)
    → ((p : RationalPoint) → IsFar (reach_of_snap given) p (pairs given) → winding_below segments p ≡ winding_below given p) → halves ≡ reach_of_snap given → IsArrangement by_snapping given segments 1 halves
left_by_snapping given segments halves least greatest snapped arranged kept near winding is = record {
  left = record { count = refl; snapped = snapped; reach = is };
  planar = planar_map least greatest segments arranged;
  kept = kept;
  near = subst (λ (n : ℕ). LieNear n (pairs given) (pairs segments)) (sym is) near;
  winding = λ p far. winding p (subst (λ (n : ℕ). IsFar n p (pairs given)) is far);
  reach = subst (λ (n : ℕ). n ≤ 1) (sym is) (at_most_one given);
  exact = λ exact. is ∙ none_where_exact given exact;
}

-- ---- a splitting leaves one list, after one number of passes, moved by one number of halves

pub left_is_one : (splitting : Splitting) (given first second : List WholeSegment) (passes others halves more : ℕ) → IsLeftBy splitting given first passes halves → IsLeftBy splitting given second others more → (first ≡ second) × (passes ≡ others) × (halves ≡ more)
left_is_one (by_passes settings) given first second passes others halves more a b =
    let same = run_is_one settings given first second passes others (has_changed settings given passes) (has_changed settings given others) (record { count = a.count; arrangement = a.arrangement; changed = refl }) (record { count = b.count; arrangement = b.arrangement; changed = refl }) in
    let counts : passes ≡ others = same.1 in
    (same.0, counts, a.reach ∙ ap (λ (n : ℕ). reach_of_run settings given n) counts ∙ sym b.reach)
left_is_one by_snapping given first second passes others halves more a b =
    (snapped_is_one.1 (join given) first second a.snapped b.snapped, a.count ∙ sym b.count, a.reach ∙ sym b.reach)

-- ---- refusals

-- a sum that is too large on the way
pub too_large_on_way : (splitting : Splitting) (subject clip : List (List Point)) (given : List WholeSegment) (fault : Fault) → given ≡ overlay_segments subject clip → (fault ≡ CountOutOfRange → SumsLeaveRange splitting given) → IsReason splitting subject clip fault
too_large_on_way splitting subject clip given Memory e large = tt
too_large_on_way splitting subject clip given CountOutOfRange e large = inl (subst (SumsLeaveRange splitting) e (large refl))

-- or the top of a segment of what is left
pub too_large_above : (splitting : Splitting) (subject clip : List (List Point)) (segments : List WholeSegment) (passes halves : ℕ) (fault : Fault) → IsLeftBy splitting (overlay_segments subject clip) segments passes halves
    → (fault ≡ CountOutOfRange → IsTrue (tops_leave_range segments)) → IsReason splitting subject clip fault
too_large_above splitting subject clip segments passes halves Memory left large = tt
too_large_above splitting subject clip segments passes halves CountOutOfRange left large = inr (segments, passes, halves, left, large refl)
