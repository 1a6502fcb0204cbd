-- Distances along one axis as unsigned numbers, so that one comparison tests several.
use Rattle.std.specs.Prelude.{◌<◌, ◌^◌, ◌&&◌, ◌-ℤ◌, ℕ, ℤ, neg_ℤ, unsigned_abs, nat_lt, nat_le, Bool, if◌then◌else◌}
use Rattle.std.specs.Int.{w64, cast_unsigned}

-- no coordinate is greater
abbrev pub IsSmall : ℤ → Type 0
IsSmall z = unsigned_abs z < 2 ^ 31

-- a height, negated where a segment falls
abbrev pub turned : Bool → ℤ → ℤ
turned falls y = if falls then neg_ℤ y else y

-- how far it is up to a number, and a great number where that is less
abbrev pub distance : ℤ → ℤ → ℕ
distance from to = cast_unsigned w64 (to -ℤ from)

-- whether two numbers are neither 0 nor great
abbrev pub are_inside : ℕ → ℕ → Bool
are_inside a b = (nat_lt 0 a && nat_le a (2 ^ 63)) && (nat_lt 0 b && nat_le b (2 ^ 63))
