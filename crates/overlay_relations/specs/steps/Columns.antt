-- Boxes in columns, and which of them share a point with a box.
use Rattle.std.specs.Prelude.{◌≡◌, ℕ, ℤ, ◌≤ℤ◌, List, [], map, filter, flat_map, All, Option, Some, None}
use Rattle.overlay_geometry.specs.declared.geom.rect.IntRect.{IntRect}
use Rattle.overlay_geometry.specs.RangeOf.{rect_of}
use Rattle.overlay_geometry.specs.Ranges.{Rect, do_rects_meet}
use Rattle.overlay_relations.specs.declared.columns.Column.{Column}
use Rattle.overlay_relations.specs.declared.columns.NumberedBox.{NumberedBox}

-- The first box lies in the second, borders included.
pub record IsBoxWithin (inner outer : Rect) : Type 0 where
  pub left : outer.min_x ≤ℤ inner.min_x
  pub right : inner.max_x ≤ℤ outer.max_x
  pub below : outer.min_y ≤ℤ inner.min_y
  pub above : inner.max_y ≤ℤ outer.max_y

-- the boxes of all columns
abbrev pub members_of : {I : Type 0} → List (Column I) → List (NumberedBox I)
members_of columns = flat_map (λ column. column.members.items) columns

-- A box is around boxes, or there are none.
abbrev pub HoldsBoxes : {I : Type 0} → (I → ℤ) → List (NumberedBox I) → Option (IntRect I) → Type 0
HoldsBoxes whole boxes None = boxes ≡ []
HoldsBoxes whole boxes (Some bounds) = All (λ numbered. IsBoxWithin (rect_of whole numbered.bounds) (rect_of whole bounds)) boxes

-- The box of a column is around its members.
abbrev pub AreAround : {I : Type 0} → (I → ℤ) → Column I → Type 0
AreAround whole column = All (λ numbered. IsBoxWithin (rect_of whole numbered.bounds) (rect_of whole column.bounds)) column.members.items

-- the numbers of those boxes that share a point with a box
abbrev pub numbers_meeting : {I : Type 0} → (I → ℤ) → Rect → List (NumberedBox I) → List ℕ
numbers_meeting whole bounds boxes = map (λ numbered. numbered.number) (filter (λ numbered. do_rects_meet (rect_of whole numbered.bounds) bounds) boxes)
