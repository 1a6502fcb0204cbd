-- The marks that two segments put on one another: the points at which a pass splits them.
use Rattle.std.specs.Prelude.{ℕ, nat_lt, nat_le, Bool, not, if◌then◌else◌, ◌&&◌, List, [], ◌∷◌, filter}
use Rattle.overlay_geometry.specs.Points.{Point, Pair, pair_lt, is_end, is_strictly_inside, sqr_distance}
use Rattle.overlay_geometry.specs.Meeting.{do_cross}
use Rattle.overlay_intersections.specs.Crossing.{is_exact, snapping_point, settling_point}

-- How a pass places crossings that are not exact: it snaps to an end within a squared radius, or it settles.
pub data Placing : Type 0 where
  snapping : ℕ → Placing
  settling : Placing

-- the end of s that is nearer to p; b where both are as near
unfoldable pub nearer_end : Point → Pair → Point
nearer_end p s = if nat_lt (sqr_distance s.a p) (sqr_distance s.b p) then s.a else s.b

-- the nearest of the four ends; the target's where the other has one as near
unfoldable pub nearest_end : Point → Pair → Pair → Point
nearest_end p target other =
    if nat_le (sqr_distance (nearer_end p target) p) (sqr_distance (nearer_end p other) p) then nearer_end p target else nearer_end p other

-- the end e where it lies within the radius of p, else p
unfoldable pub snapped_to : Point → ℕ → Point → Point
snapped_to e r2 p = if nat_le (sqr_distance e p) r2 then e else p

-- Where a crossing is marked. An exact one is marked where it is.
unfoldable pub crossing_mark : Placing → Pair → Pair → Point
crossing_mark (snapping r2) target other =
    let p = snapping_point target other in
    if is_exact target other then p else snapped_to (nearest_end p target other) r2 p
crossing_mark settling target other = settling_point target other

-- the same for two pairs; the one that comes first is the target
unfoldable pub ordered_mark : Placing → Pair → Pair → Point
ordered_mark placing s t = if pair_lt s t then crossing_mark placing s t else crossing_mark placing t s

-- The marks that the meeting with t puts on s. A crossing marks s unless its point is an end of s;
-- a touch or an overlap marks s at those ends of t that lie strictly inside it.
unfoldable pub marks_by : Placing → Pair → Pair → List Point
marks_by placing s t =
    if do_cross s t then filter (λ p. not (is_end s p)) (ordered_mark placing s t ∷ [])
    else filter (λ p. is_strictly_inside s p) (t.a ∷ t.b ∷ [])

-- whether the two cross at a point that is not exact
unfoldable pub cross_inexactly : Pair → Pair → Bool
cross_inexactly s t = do_cross s t && not (is_exact s t)
