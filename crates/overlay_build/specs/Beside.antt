-- Which places lie directly beside a segment, with no other segment between, and that they wind as its sides say.
use Rattle.std.specs.Prelude.{◌≡◌, ◌<◌, pos, ◌*ℤ◌, int_lt, Bool, IsTrue, not, ◌&&◌, ◌||◌, List}
use Rattle.std.specs.List.{list_all}
use Rattle.overlay_geometry.specs.Points.{Pair, pair_eq, is_vertical}
use Rattle.overlay_geometry.specs.Below.{width}
use Rattle.overlay_base.specs.Segments.{WholeSegment}
use Rattle.overlay_base.specs.Places.{RationalPoint, spans, height_at, runs_below, lies_below, winding_below}
use Rattle.overlay_base.specs.Rays.{lies_above, is_on_none, rises_left_of, falls_left_of, rises_right_of, falls_right_of}
use Rattle.overlay_base.specs.declared.overlay_core.fill_rule.FillRule.{FillRule}
use Rattle.overlay_sweep.specs.ColumnWindings.{side_bottom, side_top}
use Rattle.overlay_sweep.specs.Fill.{fill_byte}
use Rattle.overlay_build.specs.Values.{tells_apart}
use Rattle.overlay_build.specs.Sides.{has_sides_apart, with_sides}

-- ---- above and below a segment that is not vertical

-- whether s is lower than t at the x of p
abbrev pub is_lower_at : RationalPoint → Pair → Pair → Bool
is_lower_at p s t = int_lt (height_at s p *ℤ width t) (height_at t p *ℤ width s)

-- s lies below p, and each other segment that does is lower there than s.
unfoldable pub is_directly_above : List WholeSegment → Pair → RationalPoint → Bool
is_directly_above segments s p = lies_below s p && list_all (λ t. pair_eq t.pair s || not (lies_below t.pair p) || is_lower_at p t.pair s) segments

-- s lies above p, and each other segment that meets the line through p lies below p or is higher there than s.
unfoldable pub is_directly_below : List WholeSegment → Pair → RationalPoint → Bool
is_directly_below segments s p = lies_above s p && list_all (λ t. pair_eq t.pair s || not (spans t.pair p) || runs_below t.pair p || is_lower_at p s t.pair) segments

-- ---- to the left and to the right of a vertical segment

-- the place on a vertical segment that has the height of p
abbrev pub foot : Pair → RationalPoint → RationalPoint
foot s p = record { x = s.a.x *ℤ pos p.bottom; y = p.y; bottom = p.bottom }

-- p has a height strictly between those of the ends of s
abbrev pub is_level_with : Pair → RationalPoint → Bool
is_level_with s p = int_lt (s.a.y *ℤ pos p.bottom) p.y && int_lt p.y (s.b.y *ℤ pos p.bottom)

abbrev pub runs_left_of : Pair → RationalPoint → Bool
runs_left_of s p = rises_left_of s p || falls_left_of s p

abbrev pub runs_right_of : Pair → RationalPoint → Bool
runs_right_of s p = rises_right_of s p || falls_right_of s p

-- s is vertical and runs to the right of p, no segment goes through p, and each that runs to the left of s at the height of p runs to the left of p.
unfoldable pub is_directly_left : List WholeSegment → Pair → RationalPoint → Bool
is_directly_left segments s p =
    is_vertical s && is_level_with s p && int_lt p.x (s.a.x *ℤ pos p.bottom) && is_on_none segments p
    && list_all (λ t. not (runs_left_of t.pair (foot s p)) || runs_left_of t.pair p) segments

-- The same on the other side.
unfoldable pub is_directly_right : List WholeSegment → Pair → RationalPoint → Bool
is_directly_right segments s p =
    is_vertical s && is_level_with s p && int_lt (s.a.x *ℤ pos p.bottom) p.x && is_on_none segments p
    && list_all (λ t. not (runs_right_of t.pair (foot s p)) || runs_right_of t.pair p) segments

-- ---- on the two sides of any segment

-- directly above, or to the left of a vertical one
abbrev pub is_on_top_of : List WholeSegment → Pair → RationalPoint → Bool
is_on_top_of segments s p = is_directly_above segments s p || is_directly_left segments s p

-- directly below, or to the right of a vertical one
abbrev pub is_at_bottom_of : List WholeSegment → Pair → RationalPoint → Bool
is_at_bottom_of segments s p = is_directly_below segments s p || is_directly_right segments s p

-- There is a place on each side of s.
pub record HasPlacesBeside (segments : List WholeSegment) (s : Pair) : Type 0 where
  pub top : (p : RationalPoint) × (0 < p.bottom) × IsTrue (is_on_top_of segments s p)
  pub bottom : (p : RationalPoint) × (0 < p.bottom) × IsTrue (is_at_bottom_of segments s p)

-- The windings of the two sides of s are those of the places directly beside it.
pub record TellsPlaces (segments : List WholeSegment) (s : WholeSegment) : Type 0 where
  pub top : (p : RationalPoint) → 0 < p.bottom → IsTrue (is_on_top_of segments s.pair p) → winding_below segments p ≡ side_top segments s
  pub bottom : (p : RationalPoint) → 0 < p.bottom → IsTrue (is_at_bottom_of segments s.pair p) → winding_below segments p ≡ side_bottom segments s

-- So its fill is that of the windings at two such places, and its sides differ under a rule where these do.
pub record FillTellsPlaces (rule : Bool → Bool → Bool) (fill_rule : FillRule) (segments : List WholeSegment) (s : WholeSegment) (p q : RationalPoint) : Type 0 where
  pub fill : (with_sides fill_rule segments s).fill ≡ fill_byte fill_rule (winding_below segments q) (winding_below segments p) s.count.mask
  pub kept : has_sides_apart rule fill_rule segments s ≡ tells_apart rule fill_rule (winding_below segments q) (winding_below segments p)
