-- How two different segments meet.
use Rattle.std.specs.Prelude.{ℤ, pos, int_lt, Bool, true, false, if◌then◌else◌, ◌&&◌, ◌||◌}
use Rattle.std.specs.Ordering.{int_eq}
use Rattle.overlay_geometry.specs.Points.{Pair, turn, is_strictly_inside}

pub data Meeting : Type 0 where
  crossing touch overlap apart : Meeting

abbrev pub have_opposite_signs : ℤ → ℤ → Bool
have_opposite_signs u v = (int_lt u (pos 0) && int_lt (pos 0) v) || (int_lt (pos 0) u && int_lt v (pos 0))

-- whether the ends of t lie strictly on the two sides of the line through s
unfoldable pub separates : Pair → Pair → Bool
separates s t = have_opposite_signs (turn s.a s.b t.a) (turn s.a s.b t.b)

-- whether each separates the ends of the other, so that they cross at a point strictly inside both
unfoldable pub do_cross : Pair → Pair → Bool
do_cross s t = separates s t && separates t s

-- whether the four ends lie on one line
unfoldable pub are_collinear : Pair → Pair → Bool
are_collinear s t = int_eq (turn s.a s.b t.a) (pos 0) && int_eq (turn s.a s.b t.b) (pos 0)

-- whether an end of t lies strictly inside s
unfoldable pub has_end_inside : Pair → Pair → Bool
has_end_inside s t = is_strictly_inside s t.a || is_strictly_inside s t.b

-- Where an end of one lies strictly inside the other, they overlap on one line, and else touch. Two that are apart share at most a common end.
unfoldable pub meeting : Pair → Pair → Meeting
meeting s t =
    if do_cross s t then crossing
    else if has_end_inside s t || has_end_inside t s then (if are_collinear s t then overlap else touch)
    else apart

unfoldable pub are_apart : Pair → Pair → Bool
are_apart s t = elim (meeting s t) [ apart ↦ true | _ ↦ false ]
