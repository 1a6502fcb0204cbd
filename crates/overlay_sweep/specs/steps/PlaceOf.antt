-- A place among live segments, in their order from below.
use Rattle.std.specs.Prelude.{ℤ, pos, int_lt, Bool, not}
use Rattle.std.specs.Ordering.{is_lt}
use Rattle.overlay_geometry.specs.Points.{Pair, turn}
use Rattle.overlay_geometry.specs.Below.{under_segment_order}
use Rattle.overlay_geometry.specs.PointOf.{point_of}
use Rattle.overlay_geometry.specs.VSegmentOf.{v_pair_of, IsVSegmentInRange}
use Rattle.overlay_geometry.specs.InRange.{IsPointInRange}
use Rattle.overlay_sweep.specs.declared.build.place.Place.{Place}
use Rattle.overlay_sweep.specs.declared.build.place.Place.TheVariants.{Point, Segment}

-- whether a segment comes before the place: below the point, or where the segment does not run below it
abbrev pub stands_before : {I : Type 0} → (I → ℤ) → Place I → Pair → Bool
stands_before whole place s =
    elim place [
      | Point p ↦ int_lt (pos 0) (turn s.a s.b (point_of whole p))
      | Segment t ↦ not (is_lt (under_segment_order (v_pair_of whole t) s))
    ]

abbrev pub IsPlaceInRange : {I : Type 0} → (I → ℤ) → I → I → Place I → Type 0
IsPlaceInRange whole least greatest place = elim place [ Point p ↦ IsPointInRange whole least greatest p | Segment t ↦ IsVSegmentInRange whole least greatest t ]
