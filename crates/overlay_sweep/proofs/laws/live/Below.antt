-- The orders of a sweep: a segment and a point, and two segments that are live at one x.
use Rattle.std.proofs.Common.{◌≡◌, ◌∙◌, arith}
use Rattle.std.specs.Prelude.{ℤ, pos, int_lt, neg_ℤ}
use Rattle.std.specs.Ordering.{is_lt}
use Rattle.std.proofs.lemmas.Int.{ints}
use Rattle.overlay_geometry.specs.Points.{Point, turn}
use Rattle.overlay_geometry.specs.Turns.{clock_order}
use Rattle.overlay_geometry.proofs.laws.geometry.Points.{turn_swaps_last}
use Rattle.overlay_sweep.proofs.laws.columns.Heights.{is_lt-cmp}

opposite_test : (m n : ℤ) → m ≡ neg_ℤ n → int_lt m (pos 0) ≡ int_lt (pos 0) n
opposite_test m n e = grind (arith, ints)

-- what runs below a point turns to it on the left
pub is_below_point : (a b p : Point) → is_lt (clock_order a p b) ≡ int_lt (pos 0) (turn a b p)
is_below_point a b p = is_lt-cmp (turn a p b) (pos 0) ∙ opposite_test (turn a p b) (turn a b p) (turn_swaps_last a p b)
