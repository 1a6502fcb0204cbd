-- The segments of contours: one for each edge, with a count that says which way its step runs.
use Rattle.std.specs.Prelude.{◌≡◌, ℕ, ℤ, Bool, IsTrue, IsFalse, if◌then◌else◌, List, ◌∷◌, ◌++◌, map, filter, length}
use Rattle.std.specs.List.{list_all}
use Rattle.overlay_geometry.specs.Points.{Point, Pair, point_lt}
use Rattle.overlay_geometry.specs.Coordinates.{is_point_in_range}
use Rattle.overlay_base.specs.Places.{RationalPoint}
use Rattle.overlay_base.specs.Windings.{Winding}
use Rattle.overlay_base.specs.Segments.{WholeSegment}
use Rattle.overlay_base.specs.BooleanWinding.{boolean_made}
use Rattle.overlay_base.specs.ShapeWindings.{direct_winding, inverted_winding}
use Rattle.overlay_base.specs.declared.segm.shape_type.ShapeType.{ShapeType}
use Rattle.overlay_base.specs.declared.segm.shape_type.ShapeType.TheVariants.{Subject, Clip}
use Rattle.overlay_contours.specs.Contours.{steps, turned, is_edge, winding_number}

-- the segment of a step: its ends in order, and a count of one that says which way it ran
abbrev pub step_segment : ShapeType → Pair → WholeSegment
step_segment shape_type s =
    if point_lt s.a s.b
    then record { pair = s; count = direct_winding boolean_made shape_type }
    else record { pair = turned s; count = inverted_winding boolean_made shape_type }

-- the segments of some steps of a shape, without those between equal points
abbrev pub step_segments : ShapeType → List Pair → List WholeSegment
step_segments shape_type list = map (step_segment shape_type) (filter is_edge list)

-- the segments of a shape's contours
unfoldable pub contour_segments : ShapeType → List (List Point) → List WholeSegment
contour_segments shape_type contours = step_segments shape_type (steps contours)

-- the segments of an overlay: those of the subject, then those of the clip
unfoldable pub overlay_segments : List (List Point) → List (List Point) → List WholeSegment
overlay_segments subject clip = contour_segments Subject subject ++ contour_segments Clip clip

-- how the contours of the subject, and those of the clip, run around p
abbrev pub overlay_winding : List (List Point) → List (List Point) → RationalPoint → Winding
overlay_winding subject clip p = boolean_made (winding_number subject p) (winding_number clip p)

-- whether each point of the contours lies between the least and the greatest coordinate
abbrev pub are_in_range : ℤ → ℤ → List (List Point) → Bool
are_in_range least greatest contours = list_all (λ contour. list_all (is_point_in_range least greatest) contour) contours

-- The point at an index is out of range, and those before it are not.
pub record IsFirstPointOutside (least greatest : ℤ) (points : List Point) (index : ℕ) : Type 0 where
  pub earlier : List Point
  pub point : Point
  pub later : List Point
  pub points_are : points ≡ earlier ++ point ∷ later
  pub place : index ≡ length earlier
  pub in_range : IsTrue (list_all (is_point_in_range least greatest) earlier)
  pub out_of_range : IsFalse (is_point_in_range least greatest point)

-- Of the contour at an index the point at an index is out of range, and no point before that is, nor one of a contour before.
pub record IsFirstOutside (least greatest : ℤ) (contours : List (List Point)) (index point_index : ℕ) : Type 0 where
  pub earlier : List (List Point)
  pub contour : List Point
  pub later : List (List Point)
  pub contours_are : contours ≡ earlier ++ contour ∷ later
  pub place : index ≡ length earlier
  pub in_range : IsTrue (are_in_range least greatest earlier)
  pub outside : IsFirstPointOutside least greatest contour point_index
