-- Rays from a place straight up, to the left and to the right, and how segments wind around the place by what they meet.
-- The ray straight down is that of `Places`.
use Rattle.std.specs.Prelude.{ℤ, pos, ◌-ℤ◌, ◌*ℤ◌, int_le, int_lt, Bool, not, ◌&&◌, List, filter}
use Rattle.std.specs.List.{list_all}
use Rattle.std.specs.Ordering.{int_eq}
use Rattle.overlay_geometry.specs.Points.{Pair, is_between}
use Rattle.overlay_geometry.specs.Below.{width}
use Rattle.overlay_base.specs.Windings.{Winding, add, inverse}
use Rattle.overlay_base.specs.Segments.{WholeSegment, total_weight}
use Rattle.overlay_base.specs.Places.{RationalPoint, spans, height_at}

-- The turn from b to p as seen from a, times the bottom of p: positive where p lies to the left of the way from a to b, negative to the right, 0 on the line.
abbrev pub place_turn : Pair → RationalPoint → ℤ
place_turn s p = width s *ℤ (p.y -ℤ s.a.y *ℤ pos p.bottom) -ℤ (s.b.y -ℤ s.a.y) *ℤ (p.x -ℤ s.a.x *ℤ pos p.bottom)

-- whether p lies on s, ends included
unfoldable pub goes_through : Pair → RationalPoint → Bool
goes_through s p =
    int_eq (place_turn s p) (pos 0) && is_between (s.a.x *ℤ pos p.bottom) (s.b.x *ℤ pos p.bottom) p.x
    && is_between (s.a.y *ℤ pos p.bottom) (s.b.y *ℤ pos p.bottom) p.y

abbrev pub is_on_none : List WholeSegment → RationalPoint → Bool
is_on_none segments p = list_all (λ s. not (goes_through s.pair p)) segments

-- ---- straight up

abbrev pub lies_above : Pair → RationalPoint → Bool
lies_above s p = spans s p && int_lt (p.y *ℤ width s) (height_at s p)

-- The winding at p by the segments above it. One that runs to the right has the ray straight up cross it from its right side to its left
-- one, so it counts the other way.
unfoldable pub winding_above : List WholeSegment → RationalPoint → Winding
winding_above segments p = inverse (total_weight (filter (λ s. lies_above s.pair p) segments))

-- ---- to the left and to the right

-- Whether s passes the height of p on its way up from a to b, or on its way down. The lower end counts as part of it and the upper end
-- does not. A horizontal segment does neither.
abbrev pub rises_past : Pair → RationalPoint → Bool
rises_past s p = int_le (s.a.y *ℤ pos p.bottom) p.y && int_lt p.y (s.b.y *ℤ pos p.bottom)

abbrev pub falls_past : Pair → RationalPoint → Bool
falls_past s p = int_le (s.b.y *ℤ pos p.bottom) p.y && int_lt p.y (s.a.y *ℤ pos p.bottom)

-- on which side of the way from a to b the place lies
abbrev pub has_on_left : Pair → RationalPoint → Bool
has_on_left s p = int_lt (pos 0) (place_turn s p)

abbrev pub has_on_right : Pair → RationalPoint → Bool
has_on_right s p = int_lt (place_turn s p) (pos 0)

-- What rises past p and has it on the right side runs to the left of p, as what falls past it and has it on the left side does.
abbrev pub rises_left_of : Pair → RationalPoint → Bool
rises_left_of s p = rises_past s p && has_on_right s p

abbrev pub falls_left_of : Pair → RationalPoint → Bool
falls_left_of s p = falls_past s p && has_on_left s p

abbrev pub rises_right_of : Pair → RationalPoint → Bool
rises_right_of s p = rises_past s p && has_on_left s p

abbrev pub falls_right_of : Pair → RationalPoint → Bool
falls_right_of s p = falls_past s p && has_on_right s p

-- the winding at p by the segments to the left of it: of those that fall, less those that rise
unfoldable pub winding_left : List WholeSegment → RationalPoint → Winding
winding_left segments p =
    add (total_weight (filter (λ s. falls_left_of s.pair p) segments)) (inverse (total_weight (filter (λ s. rises_left_of s.pair p) segments)))

-- and by those to the right: of those that rise, less those that fall
unfoldable pub winding_right : List WholeSegment → RationalPoint → Winding
winding_right segments p =
    add (total_weight (filter (λ s. rises_right_of s.pair p) segments)) (inverse (total_weight (filter (λ s. falls_right_of s.pair p) segments)))
