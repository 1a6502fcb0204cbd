-- How many pairs a pass may compare. Ranges meet where they share a number.
use Rattle.std.specs.Prelude.{ℕ, ◌+◌, ◌*◌, ℤ, int_le, Bool, ◌&&◌, List, [], ◌∷◌, length, count_by, ◌-◌, ◌^◌, min}
use Rattle.std.specs.Int.{int_min, int_max}
use Rattle.overlay_geometry.specs.Points.{Pair}

-- how many pairs of elements, each before the other in the list, pass
unfoldable pub count_twos : {X : Type 0} → (X → X → Bool) → List X → ℕ
count_twos test [] = 0
count_twos test (x ∷ xs) = count_by (λ y. test x y) xs + count_twos test xs

unfoldable pub ranges_meet : ℤ → ℤ → ℤ → ℤ → Bool
ranges_meet u v u' v' = int_le (int_max (int_min u v) (int_min u' v')) (int_min (int_max u v) (int_max u' v'))

unfoldable pub boxes_meet : Pair → Pair → Bool
boxes_meet s t = ranges_meet s.a.x s.b.x t.a.x t.b.x && ranges_meet s.a.y s.b.y t.a.y t.b.y

-- whether the ranges in x alone meet
unfoldable pub x_ranges_meet : Pair → Pair → Bool
x_ranges_meet s t = ranges_meet s.a.x s.b.x t.a.x t.b.x

-- a pass of the list compares each pair whose ranges in x meet
unfoldable pub list_looks : List Pair → ℕ
list_looks segments = count_twos x_ranges_meet segments

-- What a pass over no grid compares at most, where it is not bound to a list: 64 times as many as there are segments and pairs
-- whose boxes meet.
unfoldable pub tree_looks : List Pair → ℕ
tree_looks segments = 64 * (length segments + count_twos boxes_meet segments)

-- two counts added, up to the greatest number that a count of pairs has
abbrev pub capped_sum : ℕ → ℕ → ℕ
capped_sum n k = min (n + k) (2 ^ 128 - 1)
