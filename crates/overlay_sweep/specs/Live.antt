-- The segments that are live in a sweep, with the sums kept on them as counts.
use Rattle.std.specs.Prelude.{◌≡◌, ◌↔◌, ℤ, ◌≤ℤ◌, IsTrue, List}
use Rattle.std.specs.List.{Contains}
use Rattle.std.specs.Option.{option_map_or}
use Rattle.overlay_geometry.specs.Points.{Point}
use Rattle.overlay_base.specs.Windings.{Winding}
use Rattle.overlay_base.specs.Segments.{WholeSegment}
use Rattle.overlay_geometry.specs.Meeting.{are_apart}
use Rattle.overlay_sweep.specs.ChainWindings.{is_live, directly_below}

-- from x on the same sums are live
abbrev pub HoldSameFrom : ℤ → List WholeSegment → List WholeSegment → Type 0
HoldSameFrom x xs ys = (s : WholeSegment) (y : ℤ) → x ≤ℤ y → IsTrue (is_live y s.pair) → Contains xs s ↔ Contains ys s

-- those that are live at x meet at most in common ends, and no pair has two sums
pub record AreFreeAt (x : ℤ) (sums : List WholeSegment) : Type 0 where
  pub apart : (s t : WholeSegment) → Contains sums s → Contains sums t → IsTrue (is_live x s.pair) → IsTrue (is_live x t.pair) → IsTrue (are_apart s.pair t.pair)
  pub one_sum : (s t : WholeSegment) → Contains sums s → Contains sums t → IsTrue (is_live x s.pair) → IsTrue (is_live x t.pair) → s.pair ≡ t.pair → s ≡ t

-- The sums kept during a sweep are the counts of their segments: what is stored with the live one directly below p, or the default.
unfoldable pub sum_below : List WholeSegment → Point → Winding → Winding
sum_below live p default = option_map_or (λ s. s.count) (directly_below live p) default
