-- Worked examples of windings, fills and the order of a sweep. Each holds by computation.
use Rattle.std.specs.Prelude.{◌≡◌, refl, ℕ, pos, negsuc, ℤ, Bool, true, false, not, ◌&&◌, ◌||◌, List, [], ◌∷◌, map}
use Rattle.std.specs.List.{list_all}
use Rattle.std.specs.declared.cmp.Ordering.TheVariants.{Less}
use Rattle.overlay_geometry.specs.Points.{Point, Pair, is_vertical}
use Rattle.overlay_base.specs.Windings.{winding_eq}
use Rattle.overlay_base.specs.Segments.{WholeSegment}
use Rattle.overlay_base.specs.EdgeData.{DataSegment}
use Rattle.overlay_geometry.specs.Below.{under_point_order}
use Rattle.overlay_base.specs.declared.overlay_core.fill_rule.FillRule.{FillRule}
use Rattle.overlay_base.specs.declared.overlay_core.fill_rule.FillRule.TheVariants.{EvenOdd, NonZero, Positive, Negative}
use Rattle.overlay_sweep.specs.ColumnWindings.{spans_column, column_bottom, column_top, right_winding, left_winding}
use Rattle.overlay_sweep.specs.ChainWindings.{bottom, top, tops_leave_range}
use Rattle.overlay_sweep.specs.Sweep.{fill_of, visits}
use Rattle.overlay_sweep.specs.LiveRows.{is_below_or_from}
use Rattle.overlay_sweep.proofs.examples.Computing.{computing}

abbrev pub pair : ℤ → ℤ → ℤ → ℤ → Pair
pair ax ay bx by = record { a = record { x = ax; y = ay }; b = record { x = bx; y = by } }

abbrev pub seg : ℤ → ℤ → ℤ → ℤ → ℤ → ℤ → WholeSegment
seg ax ay bx by subj clip = record { pair = pair ax ay bx by; count = record { subj = subj; clip = clip; mask = 0 } }

abbrev fills : FillRule → List WholeSegment → List ℕ
fills rule segments = map (λ s. fill_of rule segments s) segments

abbrev with_data : WholeSegment → DataSegment (Unit {0})
with_data s = record { pair = s.pair; count = s.count; edge_data = tt }

-- the indexes in the order of the visits
abbrev order : List WholeSegment → List ℕ
order segments = map (λ v. v.index) (visits NonZero (map with_data segments))

abbrev columns_agree : List WholeSegment → List ℤ → Bool
columns_agree segments xs =
    list_all (λ x. list_all (λ s. not (spans_column x s.pair) || (winding_eq (column_bottom segments x s) (bottom segments s) && winding_eq (column_top segments x s) (top segments s))) segments) xs

abbrev verticals_agree : List WholeSegment → Bool
verticals_agree segments =
    list_all (λ s. not (is_vertical s.pair) || (winding_eq (right_winding segments s) (bottom segments s) && winding_eq (left_winding segments s) (top segments s))) segments

-- the arrangement of a subject square with corners (0, 0) and (4, 4) and a clip square with corners (2, 2) and (6, 6)
abbrev pub twelve : List WholeSegment
twelve = seg (pos 0) (pos 0) (pos 0) (pos 4) (negsuc 0) (pos 0) ∷ seg (pos 0) (pos 0) (pos 4) (pos 0) (pos 1) (pos 0) ∷ seg (pos 0) (pos 4) (pos 2) (pos 4) (negsuc 0) (pos 0) ∷ seg (pos 2) (pos 2) (pos 2) (pos 4) (pos 0) (negsuc 0) ∷ seg (pos 2) (pos 2) (pos 4) (pos 2) (pos 0) (pos 1) ∷ seg (pos 2) (pos 4) (pos 2) (pos 6) (pos 0) (negsuc 0) ∷ seg (pos 2) (pos 4) (pos 4) (pos 4) (negsuc 0) (pos 0) ∷ seg (pos 2) (pos 6) (pos 6) (pos 6) (pos 0) (negsuc 0) ∷ seg (pos 4) (pos 0) (pos 4) (pos 2) (pos 1) (pos 0) ∷ seg (pos 4) (pos 2) (pos 4) (pos 4) (pos 1) (pos 0) ∷ seg (pos 4) (pos 2) (pos 6) (pos 2) (pos 0) (pos 1) ∷ seg (pos 6) (pos 2) (pos 6) (pos 6) (pos 0) (pos 1) ∷ []

-- a clockwise subject square
abbrev clockwise : List WholeSegment
clockwise = seg (pos 0) (pos 0) (pos 0) (pos 4) (pos 1) (pos 0) ∷ seg (pos 0) (pos 0) (pos 4) (pos 0) (negsuc 0) (pos 0) ∷ seg (pos 0) (pos 4) (pos 4) (pos 4) (pos 1) (pos 0) ∷ seg (pos 4) (pos 0) (pos 4) (pos 4) (negsuc 0) (pos 0) ∷ []

-- a line, and a shorter one above it
abbrev over : List WholeSegment
over = seg (pos 0) (pos 0) (pos 4) (pos 0) (pos 1) (pos 0) ∷ seg (pos 1) (pos 1) (pos 3) (pos 1) (pos 1) (pos 0) ∷ []

-- a line that ends below the start of another
abbrev beside : List WholeSegment
beside = seg (pos 0) (pos 0) (pos 4) (pos 0) (pos 1) (pos 0) ∷ seg (pos 4) (pos 1) (pos 6) (pos 1) (pos 1) (pos 0) ∷ []

-- two lines whose counts leave the range together
abbrev greatest_counts : List WholeSegment
greatest_counts = seg (pos 0) (pos 0) (pos 4) (pos 0) (pos 2147483647) (pos 0) ∷ seg (pos 0) (pos 1) (pos 4) (pos 1) (pos 2147483647) (pos 0) ∷ []

fills_of_squares : fills NonZero twelve ≡ (2 ∷ 1 ∷ 2 ∷ 11 ∷ 7 ∷ 8 ∷ 14 ∷ 8 ∷ 1 ∷ 13 ∷ 4 ∷ 4 ∷ [])
unfolding computing
fills_of_squares = refl

clockwise_non_zero : fills NonZero clockwise ≡ (2 ∷ 1 ∷ 2 ∷ 1 ∷ [])
unfolding computing
clockwise_non_zero = refl

clockwise_even_odd : fills EvenOdd clockwise ≡ (2 ∷ 1 ∷ 2 ∷ 1 ∷ [])
unfolding computing
clockwise_even_odd = refl

clockwise_negative : fills Negative clockwise ≡ (2 ∷ 1 ∷ 2 ∷ 1 ∷ [])
unfolding computing
clockwise_negative = refl

clockwise_positive : fills Positive clockwise ≡ (0 ∷ 0 ∷ 0 ∷ 0 ∷ [])
unfolding computing
clockwise_positive = refl

over_even_odd : fills EvenOdd over ≡ (1 ∷ 2 ∷ [])
unfolding computing
over_even_odd = refl

over_non_zero : fills NonZero over ≡ (1 ∷ 3 ∷ [])
unfolding computing
over_non_zero = refl

-- a segment that ends at x is no longer there at x
beside_even_odd : fills EvenOdd beside ≡ (1 ∷ 1 ∷ [])
unfolding computing
beside_even_odd = refl

counts_leave_range : tops_leave_range greatest_counts ≡ true
unfolding computing
counts_leave_range = refl

-- a vertical one comes last at its start
order_of_squares : order twelve ≡ (1 ∷ 0 ∷ 2 ∷ 4 ∷ 3 ∷ 6 ∷ 5 ∷ 7 ∷ 8 ∷ 10 ∷ 9 ∷ 11 ∷ [])
unfolding computing
order_of_squares = refl

-- in every column that a segment spans the chain has the windings of the column; beside a vertical one those to its right and left
columns_of_squares : columns_agree twelve (pos 0 ∷ pos 1 ∷ pos 2 ∷ pos 3 ∷ pos 4 ∷ pos 5 ∷ []) ≡ true
unfolding computing
columns_of_squares = refl

verticals_of_squares : verticals_agree twelve ≡ true
unfolding computing
verticals_of_squares = refl

columns_of_clockwise : columns_agree clockwise (pos 0 ∷ pos 1 ∷ pos 2 ∷ pos 3 ∷ []) ≡ true
unfolding computing
columns_of_clockwise = refl

verticals_of_clockwise : verticals_agree clockwise ≡ true
unfolding computing
verticals_of_clockwise = refl

level_runs_under_point : under_point_order (pair (negsuc 9) (negsuc 9) (pos 10) (negsuc 9)) (record { x = negsuc 9; y = pos 10 }) ≡ Less
unfolding computing
level_runs_under_point = refl

abbrev point : ℤ → ℤ → Point
point x y = record { x = x; y = y }

-- a cursor's point lies above a segment, at its start, and on it further right
below_or_from : map (λ p. is_below_or_from p (pair (pos 0) (pos 0) (pos 4) (pos 0))) (point (pos 1) (pos 1) ∷ point (pos 0) (pos 0) ∷ point (pos 1) (pos 0) ∷ []) ≡ (true ∷ true ∷ false ∷ [])
unfolding computing
below_or_from = refl
