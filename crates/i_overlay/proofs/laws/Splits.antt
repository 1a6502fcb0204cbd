-- What a split by either rounding leaves, from what its splitter ensures.
use Rattle.std.proofs.Common.{◌≡◌, ◌⊎◌, sym, ap, subst, ◌∙◌, ℕ, ◌+◌, ◌≤◌, ◌*◌, Bool, ◌&&◌, List, length}
use Rattle.std.specs.Prelude.{ℤ, IsTrue, nat_lt, Contains}
use Rattle.std.specs.List.{list_all}
use Rattle.std.proofs.lemmas.Bool.{and_parts}
use Rattle.overlay_geometry.specs.Points.{Pair, is_within_box_of}
use Rattle.overlay_geometry.specs.Coordinates.{is_pair_in_range}
use Rattle.overlay_geometry.proofs.laws.lists.Lists.{list_all-at, list_all-from_Has}
use Rattle.overlay_base.specs.Windings.{is_count_in_range, is_valid, is_not_empty}
use Rattle.overlay_base.specs.Segments.{WholeSegment, pairs, ends, are_ordered}
use Rattle.overlay_base.specs.Join.{join}
use Rattle.overlay_base.specs.Places.{RationalPoint, winding_below}
use Rattle.overlay_base.specs.Planar.{is_arranged, is_splittable}
use Rattle.overlay_base.specs.Balance.{KeepsBalance}
use Rattle.overlay_cuts.specs.Run.{Settings, IsRun, after_passes}
use Rattle.overlay_cuts.specs.ExactInput.{is_exact_input, KeepsCounts}
use Rattle.overlay_cuts.specs.Nearness.{Fraction, point_along, LieNear, IsNearSome, IsNearCancelled, StaysNear, LinesStayNear, reach_of_run, reach_of_passes}
use Rattle.overlay_cuts.specs.Places.{IsFar, that_wind, KeepsWinding}
use Rattle.overlay_cuts.specs.Potential.{potential}
use Rattle.overlay_split.proofs.laws.nearness.NearLines.{run_keeps_winding_near_lines}
use Rattle.overlay_split.proofs.laws.nearness.NearMasks.{run_keeps_lines}
use Rattle.overlay_snapping.specs.Chains.{IsSnapped}
use Rattle.overlay_snapping.specs.Counts.{chain_points}
use Rattle.overlay_snapping.specs.SnapOf.{reach_of_snap, IsNearCancelledInSnap}
use Rattle.overlay_contours.specs.Splittings.{Splitting, by_passes, by_snapping, IsLeftBy}
use Rattle.overlay_contours.proofs.laws.Splittings.{left_by_passes, left_by_snapping}
use Rattle.i_overlay.specs.BesideLines.{WindsBeyondPolygons}
use Rattle.i_overlay.specs.Headline.{IsSplitBy, IsSplit, LinesStayWithin}
use Rattle.i_overlay.proofs.laws.SnapLines.{snap_winds_beyond_polygons, snap_keeps_lines}

-- ---- what each rounding leaves

pub split_by_passes : (settings : Settings) (given segments : List WholeSegment) (passes halves : ℕ) (flag : Bool) (least greatest : ℤ) → IsRun settings given segments passes flag → IsTrue (is_arranged least greatest segments) → KeepsBalance given segments
    → IsTrue (list_all (λ p. is_within_box_of (ends (pairs (join given))) p) (ends (pairs segments))) → StaysNear settings given segments passes → KeepsWinding settings given segments passes → (IsTrue (is_exact_input given) → KeepsCounts given segments)
    → passes ≤ settings.limit + potential (after_passes settings given settings.limit) + 1
    → halves ≡ reach_of_run settings given passes → halves ≤ reach_of_passes settings passes → (IsTrue (is_exact_input given) → halves ≡ 0) → IsSplitBy (record { splitting = by_passes settings; passes = passes; halves = halves }) given segments
split_by_passes settings given segments passes halves flag least greatest run arranged kept in_box near winding exact_input bound is most exact = record {
  arrangement = left_by_passes settings given segments passes halves flag least greatest run arranged kept near winding is most exact;
  given_near = λ s i f. subst (λ (n : ℕ). IsNearSome n (point_along s f) (pairs segments) ⊎ IsNearCancelled settings given passes (point_along s f)) (sym is) (near.given_is_near s i f);
  in_box = in_box;
  exact_input = exact_input;
  bound = bound;
}

-- the same by how far the run reaches
pub split_from : (settings : Settings) (given segments : List WholeSegment) (passes halves : ℕ) (flag : Bool) (least greatest : ℤ) → IsRun settings given segments passes flag → IsTrue (is_arranged least greatest segments) → KeepsBalance given segments
    → IsTrue (list_all (λ p. is_within_box_of (ends (pairs (join given))) p) (ends (pairs segments))) → StaysNear settings given segments passes → KeepsWinding settings given segments passes → (IsTrue (is_exact_input given) → KeepsCounts given segments)
    → passes ≤ settings.limit + potential (after_passes settings given settings.limit) + 1
    → (halves ≡ reach_of_run settings given passes) × (halves ≤ reach_of_passes settings passes) → (IsTrue (is_exact_input given) → halves ≡ 0) → IsSplit settings given segments passes
split_from settings given segments passes halves flag least greatest run arranged kept in_box near winding exact_input bound reach exact =
    subst (λ (n : ℕ). IsSplitBy (record { splitting = by_passes settings; passes = passes; halves = n }) given segments) reach.0
    (split_by_passes settings given segments passes halves flag least greatest run arranged kept in_box near winding exact_input bound reach.0 reach.1 exact)

pub split_by_snapping : (given segments : List WholeSegment) (halves : ℕ) (least greatest : ℤ) → IsSnapped (join given) segments → IsTrue (is_arranged least greatest segments) → KeepsBalance given segments
    → IsTrue (list_all (λ p. is_within_box_of (ends (pairs (join given))) p) (ends (pairs segments))) → LieNear (reach_of_snap given) (pairs given) (pairs segments)
    → ((s : Pair) → Contains (pairs given) s → (f : Fraction) → IsNearSome (reach_of_snap given) (point_along s f) (pairs segments) ⊎ IsNearCancelledInSnap given (point_along s f))
    → ((p : RationalPoint) → IsFar (reach_of_snap given) p (pairs given) → winding_below segments p ≡ winding_below given p) → (IsTrue (is_exact_input given) → KeepsCounts given segments) → length segments ≤ 3 * length (chain_points (pairs (join given)))
    → halves ≡ reach_of_snap given → IsSplitBy (record { splitting = by_snapping; passes = 1; halves = halves }) given segments
split_by_snapping given segments halves least greatest snapped arranged kept in_box near given_near winding exact_input few is = record {
  arrangement = left_by_snapping given segments halves least greatest snapped arranged kept near winding is;
  given_near = λ s i f. subst (λ (n : ℕ). IsNearSome n (point_along s f) (pairs segments) ⊎ IsNearCancelledInSnap given (point_along s f)) (sym is) (given_near s i f);
  in_box = in_box;
  exact_input = exact_input;
  bound = few;
}

-- ---- beside lines

pub winds_beyond_polygons : (splitting : Splitting) (given segments : List WholeSegment) (passes halves : ℕ) → IsTrue (are_ordered given) → IsLeftBy splitting given segments passes halves → WindsBeyondPolygons halves given segments
winds_beyond_polygons (by_passes settings) given segments passes halves ordered left = λ p far.
    ap (λ (l : List WholeSegment). winding_below l p) left.arrangement
    ∙ run_keeps_winding_near_lines settings given passes ordered p (subst (λ (n : ℕ). IsFar n p (pairs (that_wind given))) left.reach far)
winds_beyond_polygons by_snapping given segments passes halves ordered left = λ p far.
    snap_winds_beyond_polygons given segments ordered left.snapped p (subst (λ (n : ℕ). IsFar n p (pairs (that_wind given))) left.reach far)

pub keeps_lines_within : (splitting : Splitting) (given segments : List WholeSegment) (passes halves : ℕ) → IsTrue (are_ordered given) → IsTrue (list_all (λ s. nat_lt s.count.mask 4) given) → IsLeftBy splitting given segments passes halves → LinesStayWithin halves given segments
keeps_lines_within (by_passes settings) given segments passes halves ordered small left =
    let stay = subst (λ (l : List WholeSegment). LinesStayNear settings given l passes) (sym left.arrangement) (run_keeps_lines settings given passes ordered small) in
    let within : LinesStayWithin (reach_of_run settings given passes) given segments = record { result_is_near = stay.result_is_near; given_is_near = stay.given_is_near } in
    subst (λ (n : ℕ). LinesStayWithin n given segments) (sym left.reach) within
keeps_lines_within by_snapping given segments passes halves ordered small left =
    subst (λ (n : ℕ). LinesStayWithin n given segments) (sym left.reach) (snap_keeps_lines given segments ordered left.snapped small)

-- the masks of what may be split have two bits
pub small_masks : (least greatest : ℤ) (given : List WholeSegment) → IsTrue (is_splittable least greatest given) → IsTrue (list_all (λ s. nat_lt s.count.mask 4) given)
unfolding is_splittable
small_masks least greatest given h =
    list_all-from_Has (λ s. nat_lt s.count.mask 4) given (λ s i.
    let here = list_all-at (λ s. is_pair_in_range least greatest s.pair && is_valid s.count && is_not_empty s.count) given s h i in
    (and_parts (is_count_in_range s.count) (nat_lt s.count.mask 4) (and_parts _ _ (and_parts _ _ here).0).1).1)
