-- Every point of a given segment lies near the result of a run, where counts do not cancel.
use Rattle.std.proofs.Common.{◌≡◌, ◌⊎◌, inl, inr, refl, subst, arith, ℕ, zero, suc, ◌-◌, List}
use Rattle.std.specs.Prelude.{IsTrue, Contains}
use Rattle.overlay_geometry.specs.Points.{Pair}
use Rattle.overlay_base.specs.Segments.{WholeSegment, pairs, are_ordered}
use Rattle.overlay_base.specs.Join.{join}
use Rattle.overlay_base.proofs.laws.joins.Maps.{are_ordered-map}
use Rattle.overlay_cuts.specs.Path.{piece}
use Rattle.overlay_cuts.specs.Pass.{pass}
use Rattle.overlay_intersections.specs.PassMarks.{marks_on}
use Rattle.overlay_cuts.specs.Run.{Settings, placing_of_pass, after_passes}
use Rattle.overlay_base.specs.Places.{RationalPoint}
use Rattle.overlay_cuts.specs.Nearness.{Fraction, point_along, IsNearSome, IsNearCancelled, reach_of_pass, reach_of_run, joined_in}
use Rattle.overlay_split.specs.Laws.{PiecesStayNear, RunStaysNear}
use Rattle.overlay_cuts.proofs.laws.nearness.Distances.{IsNear-from_point, LiesNear-itself}
use Rattle.overlay_cuts.proofs.laws.nearness.NearMarks.{marks_of_pass_are_near}
use Rattle.overlay_split.proofs.laws.nearness.Nearness.{run_lies_near}
use Rattle.overlay_cuts.proofs.laws.paths.Maps.{is_map-after_passes}
use Rattle.overlay_cuts.proofs.laws.nearness.Coverings.{cut_covers, joined_or_cancels}

-- ---- a pass

pub pieces_stay_near : PiecesStayNear
pieces_stay_near placing segments s ordered i f =
    cut_covers (reach_of_pass placing segments) (marks_on placing segments) segments s (marks_of_pass_are_near placing segments ordered) ordered i f

-- ---- a run

-- what is joined in the k-th join of a run
pub joined_is : (settings : Settings) (given : List WholeSegment) (k : ℕ) → join (joined_in settings given k) ≡ after_passes settings given k
unfolding joined_in after_passes pass
joined_is settings given zero = refl
joined_is settings given (suc k) = refl

-- after k passes p is near some pair, or near one that cancelled
abbrev pub IsKeptNear : Settings → List WholeSegment → ℕ → RationalPoint → Type 0
IsKeptNear settings given k p = IsNearSome (reach_of_run settings given k) p (pairs (after_passes settings given k)) ⊎ IsNearCancelled settings given k p

-- near a pair that is joined in the k-th join
kept_after_join : (settings : Settings) (given : List WholeSegment) (k : ℕ) (p : RationalPoint) → IsNearSome (reach_of_run settings given k) p (pairs (joined_in settings given k)) → IsKeptNear settings given k p
kept_after_join settings given k p (r, i, near) =
    elim (joined_or_cancels (joined_in settings given k) r i) [
      | inl kept ↦ inl (r, subst (λ (l : List WholeSegment). Contains (pairs l) r) (joined_is settings given k) kept, near)
      | inr gone ↦ inr (k, omega arith, r, gone, near)
    ]

pub run_keeps_near : (settings : Settings) (given : List WholeSegment) (k : ℕ) (s : Pair) → IsTrue (are_ordered given) → Contains (pairs given) s → (f : Fraction) → IsKeptNear settings given k (point_along s f)
unfolding joined_in reach_of_run
run_keeps_near settings given zero s ordered i f = kept_after_join settings given zero (point_along s f) (s, i, LiesNear-itself s f)
run_keeps_near settings given (suc k) s ordered i f =
    let before = after_passes settings given k in
    let placing = placing_of_pass settings (suc k) in
    let here = reach_of_run settings given k in
    let more = reach_of_pass placing before in
    let p = point_along s f in
    elim (run_keeps_near settings given k s ordered i f) [
      | inl (r, j, (g, within)) ↦
          let piece = pieces_stay_near placing before r (are_ordered-map before (is_map-after_passes settings given k ordered)) j g in
          kept_after_join settings given (suc k) p (piece.0, piece.1, IsNear-from_point here more p (point_along r g) piece.0 g.positive within piece.2)
      | inr (j, l, r, gone, near) ↦ inr (j, omega (arith, l), r, gone, near)
    ]

pub run_stays_near : RunStaysNear
run_stays_near settings given k ordered = record {
  result_is_near = run_lies_near settings given k ordered;
  given_is_near = λ s i f. run_keeps_near settings given k s ordered i f;
}
