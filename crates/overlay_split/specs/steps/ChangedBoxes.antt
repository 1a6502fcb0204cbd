-- Rectangles that hold all that the last pass changed, and the part of a list that is near them.
use Rattle.std.specs.Prelude.{◌≡◌, ◌≢◌, ◌≤ℤ◌, ℕ, suc, ℤ, Bool, false, ◌&&◌, if◌then◌else◌, IsTrue, List, [], ◌∷◌, map, Contains, slice_index_or, IsSortedByKey, Option, Some, None, Vec, ⊤}
use Rattle.std.specs.Global.{Global}
use Rattle.std.specs.Int.{int_min, int_max}
use Rattle.std.specs.List.{list_any, AllByRecursion}
use Rattle.std.specs.Ordering.{int_cmp}
use Rattle.overlay_geometry.specs.Meeting.{are_apart}
use Rattle.overlay_geometry.specs.Points.{Point, Pair}
use Rattle.overlay_geometry.specs.RangeOf.{rect_of}
use Rattle.overlay_geometry.specs.Ranges.{Rect, do_rects_meet}
use Rattle.overlay_geometry.specs.declared.geom.rect.IntRect.{IntRect}
use Rattle.overlay_base.specs.Segments.{WholeSegment, pairs}
use Rattle.overlay_intersections.specs.MarkOf.{Mark}

-- the least rectangle around a pair in order
abbrev pub box_of : Pair → Rect
box_of s = record { min_x = s.a.x; max_x = s.b.x; min_y = int_min s.a.y s.b.y; max_y = int_max s.a.y s.b.y }

-- the rectangles of code
abbrev pub rects_of : {I : Type 0} → (I → ℤ) → List (IntRect I) → List Rect
rects_of whole boxes = map (rect_of whole) boxes

-- whether one of some rectangles meets another
abbrev pub meets_one : List Rect → Rect → Bool
meets_one rects around = list_any (λ r. do_rects_meet r around) rects

-- whether one of them meets the box of a pair
unfoldable pub is_near : List Rect → Pair → Bool
is_near rects s = meets_one rects (box_of s)

-- a point lies in a rectangle
pub record LiesIn (r : Rect) (p : Point) : Type 0 where
  pub left : r.min_x ≤ℤ p.x
  pub right : p.x ≤ℤ r.max_x
  pub low : r.min_y ≤ℤ p.y
  pub high : p.y ≤ℤ r.max_y

-- a pair lies in a rectangle, with some points
pub record LiesInWith (r : Rect) (s : Pair) (points : List Point) : Type 0 where
  pub a : LiesIn r s.a
  pub b : LiesIn r s.b
  pub others : AllByRecursion (LiesIn r) points

-- each pair that has marks lies in one of the rectangles, with its marks
abbrev pub AreAround : (Pair → List Point) → List Pair → List Rect → Type 0
AreAround on ps rects = (s : Pair) → Contains ps s → on s ≢ [] → (r : Rect) × Contains rects r × LiesInWith r s (on s)

-- two pairs that are not both near the rectangles are apart
abbrev pub AreApartElsewhere : List Rect → List Pair → Type 0
AreApartElsewhere rects ps = (s t : Pair) → Contains ps s → Contains ps t → (is_near rects s && is_near rects t) ≡ false → IsTrue (are_apart s t)

-- rectangles in order of their left borders
abbrev pub AreFromLeft : List Rect → Type 0
AreFromLeft rects = IsSortedByKey (λ r. r.min_x) int_cmp rects

-- where rectangles are known, they are in order, and two segments that are not both near them are apart
abbrev pub BoundChange : {I : Type 0} → (I → ℤ) → Option (Vec (IntRect I) Global) → List WholeSegment → Type 0
BoundChange whole None segments = ⊤
BoundChange whole (Some boxes) segments = AreFromLeft (rects_of whole boxes.items) × AreApartElsewhere (rects_of whole boxes.items) (pairs segments)

-- the indexes of the pairs that are near, the first one's index given
unfoldable pub near_from : List Rect → ℕ → List Pair → List ℕ
near_from rects i [] = []
near_from rects i (s ∷ ss) = if is_near rects s then i ∷ near_from rects (suc i) ss else near_from rects (suc i) ss

-- a mark of a part of a list, at the index in the list
abbrev pub renamed : List ℕ → Mark → Mark
renamed indexes m = record { index = slice_index_or indexes m.index 0; point = m.point }
