-- Boxes over halves of a list of points, over halves of these, and so on; and what a query finds in a part of the list.
use Rattle.std.specs.Prelude.{◌≡◌, ℕ, zero, suc, ◌/◌, ℤ, int_le, Bool, true, if◌then◌else◌, ◌&&◌, ◌||◌, ◌%◌, false, int_lt, Option, None, Some, List, [], length, map, filter, take, drop}
use Rattle.std.specs.Int.{int_min, int_max, int_shr}
use Rattle.std.specs.List.{enumerate_from, list_all}
use Rattle.std.specs.List.Sorted.{IsPartitionPoint}
use Rattle.std.specs.Ordering.{int_cmp, int_eq, ordering_then}
use Rattle.std.specs.declared.cmp.Ordering.{Ordering}
use Rattle.overlay_geometry.specs.Points.{Point, Pair}
use Rattle.overlay_geometry.specs.PointOf.{point_of}
use Rattle.overlay_geometry.specs.Sorting.{is_strictly_sorted}
use Rattle.overlay_geometry.specs.declared.geom.point.IntPoint.{IntPoint}
use Rattle.overlay_geometry.specs.Ranges.{Rect}
use Rattle.overlay_geometry.specs.Coordinates.{is_point_in_range}
use Rattle.overlay_snapping.specs.Pixels.{meets_pixel}

-- the places of the points whose pixels s meets, where the first is at place n
unfoldable pub met_places_from : ℕ → Pair → List Point → List ℕ
met_places_from n s points = map (λ e. e.0) (filter (λ e. meets_pixel s e.1) (enumerate_from n points))

-- whether c lies in a rectangle, borders included
abbrev pub is_in_rect : Rect → Point → Bool
is_in_rect r c = int_le r.min_x c.x && int_le c.x r.max_x && int_le r.min_y c.y && int_le c.y r.max_y

abbrev pub is_rect_in_range : ℤ → ℤ → Rect → Bool
is_rect_in_range least greatest r =
    is_point_in_range least greatest (record { x = r.min_x; y = r.min_y }) && is_point_in_range least greatest (record { x = r.max_x; y = r.max_y })

-- the corners of a rectangle that lie farthest to the right, and to the left, of a vector that does not point left: it falls or not
abbrev pub right_corner : Bool → Rect → Point
right_corner falls r = record { x = if falls then r.min_x else r.max_x; y = r.min_y }

abbrev pub left_corner : Bool → Rect → Point
left_corner falls r = record { x = if falls then r.max_x else r.min_x; y = r.max_y }

-- Whether the box in the middle holds all points, and so in the parts of both lists before and after the middle, down to a depth.
unfoldable pub are_boxes : ℕ → List Rect → List Point → Bool
are_boxes zero boxes points = true
are_boxes (suc n) boxes points =
    list_all (λ r. list_all (is_in_rect r) points) (take 1 (drop (length points / 2) boxes))
    && (are_boxes n (take (length points / 2) boxes) (take (length points / 2) points)
    && are_boxes n (drop (suc (length points / 2)) boxes) (drop (suc (length points / 2)) points))

-- a tree of boxes over points, all in range
pub record HoldPoints (least greatest : ℤ) (boxes : List Rect) (points : List Point) : Type 0 where
  pub one_each : length boxes ≡ length points
  pub points_in_range : list_all (is_point_in_range least greatest) points ≡ true
  pub boxes_in_range : list_all (is_rect_in_range least greatest) boxes ≡ true
  pub bounded : (depth : ℕ) → are_boxes depth boxes points ≡ true

-- ---- how a tree is made

-- the rectangle of one point
abbrev pub rect_at : Point → Rect
rect_at p = record { min_x = p.x; max_x = p.x; min_y = p.y; max_y = p.y }

-- the least rectangle around a rectangle and another, if there is one
abbrev pub rect_with : Rect → Option Rect → Rect
rect_with r None = r
rect_with r (Some s) = record { min_x = int_min r.min_x s.min_x; max_x = int_max r.max_x s.max_x; min_y = int_min r.min_y s.min_y; max_y = int_max r.max_y s.max_y }

-- a rectangle in range that holds all points; none, if there are none
abbrev pub IsBoxOf : ℤ → ℤ → Option Rect → List Point → Type 0
IsBoxOf least greatest None points = points ≡ []
IsBoxOf least greatest (Some r) points = (is_rect_in_range least greatest r ≡ true) × (list_all (is_in_rect r) points ≡ true)

-- the column of a number along x, of columns that are a power of two wide
abbrev pub column_of : ℕ → ℤ → ℤ
column_of shift x = int_shr x (shift % 64)

-- what points are sorted by: the column, and then upward
abbrev pub tile_key : ℕ → Point → ℤ × ℤ × ℤ
tile_key shift p = (column_of shift p.x, p.y, p.x)

-- the order of these keys
abbrev pub tile_cmp : ℕ → Point → Point → Ordering
tile_cmp shift p q = ordering_then (ordering_then (int_cmp (column_of shift p.x) (column_of shift q.x)) (int_cmp p.y q.y)) (int_cmp p.x q.x)

-- points of code column by column, and upward in each
abbrev pub AreByColumns : {I : Type 0} → (I → ℤ) → ℕ → List (IntPoint I) → Type 0
AreByColumns whole shift points = is_strictly_sorted (tile_cmp shift) (map (point_of whole) points) ≡ true

-- whether p is in an earlier column, or in that column and lower than a height
abbrev pub is_before : ℕ → ℤ → ℤ → Point → Bool
is_before shift column height p = int_lt (column_of shift p.x) column || (int_eq (column_of shift p.x) column && int_lt p.y height)

-- whether p is in that column or an earlier one
abbrev pub is_up_to : ℕ → ℤ → Point → Bool
is_up_to shift column p = int_le (column_of shift p.x) column

-- the first place from which on a test fails
abbrev pub IsFirstFailing : {I : Type 0} → (I → ℤ) → (Point → Bool) → List (IntPoint I) → ℕ → Type 0
IsFirstFailing whole test points = IsPartitionPoint (λ p. test (point_of whole p) ≡ true) (λ p. test (point_of whole p) ≡ false) points
