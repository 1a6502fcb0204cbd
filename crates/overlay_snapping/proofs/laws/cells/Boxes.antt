-- The cells of the points in the box of a segment.
use Rattle.std.proofs.Common.{◌≡◌, sym, subst, ℕ, ◌%◌, true, ◌&&◌, arith}
use Rattle.std.specs.Prelude.{ℤ, pos, int_le, ◌≤ℤ◌, ◌<ℤ◌, ◌+ℤ◌}
use Rattle.std.specs.Int.{w64, int_min, int_max}
use Rattle.std.specs.Int.RustNames.{FitsSigned}
use Rattle.std.proofs.lemmas.Bool.{and_parts, and_from}
use Rattle.std.proofs.lemmas.Int.{ints}
use Rattle.std.proofs.lemmas.Nat.{shr_le}
use Rattle.overlay_geometry.specs.Coordinates.{greatest_coordinate, is_point_in_range}
use Rattle.overlay_geometry.specs.Points.{Point, Pair, is_ordered, is_between, is_in_box}
use Rattle.overlay_snapping.specs.steps.PointTrees.{column_of}
use Rattle.overlay_snapping.specs.steps.Cells.{is_among, has_cell, least_corner, greatest_corner}
use Rattle.overlay_snapping.specs.declared.snap.cells.CellSize.{CellSize}
use Rattle.overlay_snapping.specs.declared.snap.cells.CellBox.{CellBox}
use Rattle.overlay_snapping.proofs.laws.point_trees.ColumnSearches.{columns_rise}
use Rattle.overlay_snapping.proofs.laws.point_trees.MissedBoxes.{ordered_in_x}

pub among_from : (first end z : ℤ) → first ≤ℤ z → z <ℤ end → is_among first end z ≡ true
among_from first end z h k = grind (arith, ints, h, k)

pub among_parts : (first end z : ℤ) → is_among first end z ≡ true → (first ≤ℤ z) × (z <ℤ end)
among_parts first end z h = (grind (arith, ints, h), grind (arith, ints, h))

-- a column is no farther right than the coordinates go
pub column_within : (shift : ℕ) (x : ℤ) → x ≤ℤ greatest_coordinate → column_of shift x ≤ℤ greatest_coordinate
column_within shift x h =
    let rise = columns_rise shift x greatest_coordinate h in
    let less = shr_le 1073741823 (shift % 64) in
    omega (arith, ints, rise, less)

pub next_fits : (z : ℤ) → FitsSigned w64 z → z ≤ℤ greatest_coordinate → FitsSigned w64 (z +ℤ pos 1)
next_fits z f h = grind (arith, ints, f, h)

from_least : (u v z : ℤ) → is_between u v z ≡ true → int_min u v ≤ℤ z
from_least u v z e = grind (arith, ints)

to_greatest : (u v z : ℤ) → is_between u v z ≡ true → z ≤ℤ int_max u v
to_greatest u v z e = grind (arith, ints)

from_first : (u v z : ℤ) → u ≤ℤ v → is_between u v z ≡ true → u ≤ℤ z
from_first u v z h e = grind (arith, ints)

to_second : (u v z : ℤ) → u ≤ℤ v → is_between u v z ≡ true → z ≤ℤ v
to_second u v z h e = grind (arith, ints)

within_next : (a b c : ℤ) → a ≤ℤ b → c ≡ b +ℤ pos 1 → a <ℤ c
within_next a b c h e = omega (arith, ints, h, e)

-- the upper corner of a pair in range
corner_in_range : (least greatest : ℤ) (p q : Point) → greatest ≤ℤ greatest_coordinate → is_point_in_range least greatest p ≡ true → is_point_in_range least greatest q ≡ true →
    (q.x ≤ℤ greatest_coordinate) × (int_max p.y q.y ≤ℤ greatest_coordinate)
corner_in_range least greatest p q h a b = (grind (arith, ints, h, b), grind (arith, ints, h, a, b))

pub right_fits : (least greatest : ℤ) (s : Pair) → greatest ≤ℤ greatest_coordinate → is_point_in_range least greatest s.a ≡ true → is_point_in_range least greatest s.b ≡ true →
    (size : CellSize) (corner : Point) (z : ℤ) → FitsSigned w64 z → corner ≡ greatest_corner s → z ≡ column_of size.width corner.x → FitsSigned w64 (z +ℤ pos 1)
right_fits least greatest s h a b size corner z f e k =
    next_fits z f (subst (λ (x : ℤ). x ≤ℤ greatest_coordinate) (sym k) (column_within size.width corner.x (subst (λ (q : Point). q.x ≤ℤ greatest_coordinate) (sym e) (corner_in_range least greatest s.a s.b h a b).0)))

pub top_fits : (least greatest : ℤ) (s : Pair) → greatest ≤ℤ greatest_coordinate → is_point_in_range least greatest s.a ≡ true → is_point_in_range least greatest s.b ≡ true →
    (size : CellSize) (corner : Point) (z : ℤ) → FitsSigned w64 z → corner ≡ greatest_corner s → z ≡ column_of size.height corner.y → FitsSigned w64 (z +ℤ pos 1)
top_fits least greatest s h a b size corner z f e k =
    next_fits z f (subst (λ (x : ℤ). x ≤ℤ greatest_coordinate) (sym k) (column_within size.height corner.y (subst (λ (q : Point). q.y ≤ℤ greatest_coordinate) (sym e) (corner_in_range least greatest s.a s.b h a b).1)))

-- the cell of a point in the box of an ordered pair is among those from that of the one corner to that of the other
pub has_cell-from_box : (size : CellSize) (cells : CellBox) (s : Pair) → is_ordered s ≡ true →
    cells.left ≡ column_of size.width (least_corner s).x → cells.right ≡ column_of size.width (greatest_corner s).x +ℤ pos 1 →
    cells.bottom ≡ column_of size.height (least_corner s).y → cells.top ≡ column_of size.height (greatest_corner s).y +ℤ pos 1 →
    (p : Point) → is_in_box s p ≡ true → has_cell cells size p ≡ true
unfolding is_in_box
has_cell-from_box size cells s o l r b t p h =
    let parts = and_parts (is_between s.a.x s.b.x p.x) (is_between s.a.y s.b.y p.y) h in
    let across = ordered_in_x s o in
    let low = columns_rise size.width s.a.x p.x (from_first s.a.x s.b.x p.x across parts.0) in
    let high = columns_rise size.width p.x s.b.x (to_second s.a.x s.b.x p.x across parts.0) in
    let below = columns_rise size.height (int_min s.a.y s.b.y) p.y (from_least s.a.y s.b.y p.y parts.1) in
    let above = columns_rise size.height p.y (int_max s.a.y s.b.y) (to_greatest s.a.y s.b.y p.y parts.1) in
    and_from (is_among cells.left cells.right (column_of size.width p.x)) (is_among cells.bottom cells.top (column_of size.height p.y))
    (among_from cells.left cells.right (column_of size.width p.x) (subst (λ z. z ≤ℤ column_of size.width p.x) (sym l) low) (within_next (column_of size.width p.x) (column_of size.width s.b.x) cells.right high r))
    (among_from cells.bottom cells.top (column_of size.height p.y) (subst (λ z. z ≤ℤ column_of size.height p.y) (sym b) below) (within_next (column_of size.height p.y) (column_of size.height (int_max s.a.y s.b.y)) cells.top above t))

-- between the ends of an ordered pair, from left to right
pub between_across : (s : Pair) → is_ordered s ≡ true → (x : ℤ) → (int_le s.a.x x && int_le x s.b.x) ≡ is_between s.a.x s.b.x x
between_across s o x = let across = ordered_in_x s o in grind (arith, ints, across)
