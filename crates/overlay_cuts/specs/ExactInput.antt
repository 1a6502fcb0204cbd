-- Input whose crossings all lie at whole points. There a split changes no count anywhere along a segment.
use Rattle.std.specs.Prelude.{◌≡◌, IsTrue, Bool, cond, not, ◌&&◌, List, ◌++◌, filter, map, flat_map}
use Rattle.std.specs.List.{list_any, list_all}
use Rattle.overlay_geometry.specs.Points.{Point, Pair, point_eq, lies_on, is_ordered, is_strictly_inside}
use Rattle.overlay_base.specs.Windings.{Winding, empty, total}
use Rattle.overlay_base.specs.Segments.{WholeSegment, pairs, counts, ends, is_map, winding_at}
use Rattle.overlay_base.specs.Join.{join}
use Rattle.overlay_geometry.specs.Meeting.{do_cross}
use Rattle.overlay_intersections.specs.Crossing.{snapping_point}
use Rattle.overlay_intersections.specs.PassMarks.{is_rounded}

-- no two segments cross at a point that is not exact
unfoldable pub is_exact_input : List WholeSegment → Bool
is_exact_input given = not (is_rounded given)

-- the ends of the segments and the points where two of them cross
unfoldable pub special_points : List Pair → List Point
special_points segments =
    ends segments ++ flat_map (λ s. map (λ t. snapping_point s t) (filter (λ t. do_cross s t) segments)) segments

abbrev pub has_point : List Point → Point → Bool
has_point points p = list_any (λ q. point_eq p q) points

-- whether both ends of e lie on s
unfoldable pub contains_pair : Pair → Pair → Bool
contains_pair s e = lies_on s e.a && lies_on s e.b

-- two special points on one given segment, with no further one strictly between them
unfoldable pub is_elementary : List WholeSegment → Pair → Bool
is_elementary given e =
    let points : List Point = special_points (pairs given) in
    is_ordered e && has_point points e.a && has_point points e.b
    && list_any (λ s. contains_pair s e) (pairs given)
    && not (list_any (λ p. is_strictly_inside e p) points)

-- the counts of the segments that contain e, joined
unfoldable pub count_along : List WholeSegment → Pair → Winding
count_along segments e = total (counts (filter (λ s. contains_pair s.pair e) segments))

-- each segment of the result lies on a given one, and ends at special points
unfoldable pub lies_on_input : List WholeSegment → List WholeSegment → Bool
lies_on_input given result =
    list_all (λ r. list_any (λ s. contains_pair s r) (pairs given) && has_point (special_points (pairs given)) r.a && has_point (special_points (pairs given)) r.b) (pairs result)

-- along each elementary pair the result counts what the given segments count there, and it lies on them
abbrev pub KeepsCounts : List WholeSegment → List WholeSegment → Type 0
KeepsCounts given result = ((e : Pair) → IsTrue (is_elementary given e) → count_along result e ≡ count_along given e) × IsTrue (lies_on_input given result)

-- The result for exact input, without passes: a map in which each elementary pair of the join has what the given segments count along it,
-- and no other pair has a count.
abbrev pub IsExactAnswer : List WholeSegment → List WholeSegment → Type 0
IsExactAnswer given result = IsTrue (is_map result) × ((e : Pair) → winding_at result e ≡ cond (is_elementary (join given) e) (count_along given e) empty)
