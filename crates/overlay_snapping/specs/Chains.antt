-- Snap rounding of a list of segments, by hot pixels: which points are hot, which segments move, and the chain of each.
-- A segment that moves goes through all points that it meets, every other one stays in place.
use Rattle.std.specs.Prelude.{◌≡◌, ◌⊎◌, ◌↔◌, ⊤, IsTrue, IsFalse, Bool, not, ◌&&◌, int_lt, if◌then◌else◌, List, [], ◌∷◌, ◌++◌, flat_map, map, filter, Contains}
use Rattle.std.specs.Ordering.{int_cmp, is_lt, ordering_then}
use Rattle.std.specs.declared.cmp.Ordering.{Ordering}
use Rattle.overlay_geometry.specs.Points.{Point, Pair, point_cmp, point_lt, is_end, lies_on}
use Rattle.overlay_geometry.specs.Meeting.{do_cross}
use Rattle.overlay_geometry.specs.Sorting.{is_strictly_sorted}
use Rattle.overlay_base.specs.Segments.{WholeSegment, pairs, ends}
use Rattle.overlay_base.specs.Join.{join}
use Rattle.overlay_intersections.specs.Crossing.{is_exact, settling_point}
use Rattle.overlay_intersections.specs.Marks.{cross_inexactly}
use Rattle.overlay_cuts.specs.Path.{pieces_along}
use Rattle.overlay_snapping.specs.Pixels.{meets_pixel}

-- ---- points

-- the points to which crossings are rounded, of two segments that pass a test: the settling point, the floor of each coordinate plus one half
unfoldable pub crossings_by : (Pair → Pair → Bool) → List Pair → List Point
crossings_by test segments = flat_map (λ s. map (λ t. settling_point s t) (filter (λ t. test s t) segments)) segments

-- where crossings are rounded that are no whole points
abbrev pub rounded_crossings : List Pair → List Point
rounded_crossings segments = crossings_by cross_inexactly segments

-- the crossings that are whole points
abbrev pub whole_crossings : List Pair → List Point
whole_crossings segments = crossings_by (λ s t. do_cross s t && is_exact s t) segments

-- the points at which segments are cut where none moves
abbrev pub given_points : List Pair → List Point
given_points segments = ends segments ++ whole_crossings segments

-- s meets the pixel of c, and c does not lie on it
abbrev pub passes_by : Pair → Point → Bool
passes_by s c = meets_pixel s c && not (lies_on s c)

-- ---- what is hot, and what moves

-- The least sets such that
--   a point to which a crossing is rounded is hot,
--   so is an end or a whole crossing by which a segment passes that moves,
--   and a segment moves that passes by a hot point.
mutual
  pub data IsHot (segments : List Pair) : Point → Type 0 where
    rounded : {c : Point} → Contains (rounded_crossings segments) c → IsHot segments c
    passed : {c : Point} {s : Pair} → Contains (given_points segments) c → Moves segments s → IsTrue (passes_by s c) → IsHot segments c

  pub data Moves (segments : List Pair) : Pair → Type 0 where
    passes : {c : Point} {s : Pair} → Contains segments s → IsHot segments c → IsTrue (passes_by s c) → Moves segments s

-- ---- chains

-- the points through which chains go: the hot points, the ends and the whole crossings
abbrev pub IsChainPoint : List Pair → Point → Type 0
IsChainPoint segments c = IsHot segments c ⊎ Contains (given_points segments) c

-- A segment that moves is cut at each such point that it meets, any other at each that lies on it.
pub data IsCutAt (segments : List Pair) (s : Pair) (c : Point) : Type 0 where
  moving : Moves segments s → IsChainPoint segments c → IsTrue (meets_pixel s c) → IsCutAt segments s c
  staying : (Moves segments s → ⊥) → IsChainPoint segments c → IsTrue (lies_on s c) → IsCutAt segments s c

-- the order of points along s, which is in order: by x, then by y, falling where s falls
abbrev pub along_cmp : Pair → Point → Point → Ordering
along_cmp s p q = ordering_then (int_cmp p.x q.x) (if int_lt s.b.y s.a.y then int_cmp q.y p.y else int_cmp p.y q.y)

-- p comes before q along s
abbrev pub comes_before : Pair → Point → Point → Bool
comes_before s p q = is_lt (along_cmp s p q)

-- s is cut at c and at d, one after the other along it, and at no point between them
pub record IsPiece (segments : List Pair) (s : Pair) (c d : Point) : Type 0 where
  pub first : IsCutAt segments s c
  pub last : IsCutAt segments s d
  pub in_order : IsTrue (comes_before s c d)
  pub none_between : (e : Point) → IsCutAt segments s e → IsTrue (comes_before s e c) ⊎ (e ≡ c) ⊎ (e ≡ d) ⊎ IsTrue (comes_before s d e)

-- the pair of two points that differ
abbrev pub pair_between : Point → Point → Pair
pair_between c d = if point_lt c d then record { a = c; b = d } else record { a = d; b = c }

-- the points at which s is cut, in their order along it
pub record IsChain (segments : List Pair) (s : Pair) (points : List Point) : Type 0 where
  pub in_order : IsTrue (is_strictly_sorted (along_cmp s) points)
  pub complete : (c : Point) → Contains points c ↔ IsCutAt segments s c

-- the points between the ends of s at which it is cut, in order of points
pub record AreCutsBetween (segments : List Pair) (s : Pair) (marks : List Point) : Type 0 where
  pub in_order : IsTrue (is_strictly_sorted point_cmp marks)
  pub complete : (c : Point) → Contains marks c ↔ (IsCutAt segments s c × IsFalse (is_end s c))

-- so for each segment of a list, where a function names these points for each pair
abbrev pub AreSnapCuts : List WholeSegment → (Pair → List Point) → Type 0
AreSnapCuts segments on = (s : Pair) → Contains (pairs segments) s → AreCutsBetween (pairs segments) s (on s)

-- each segment moves or does not
abbrev pub AreDecided : List WholeSegment → Type 0
AreDecided segments = (s : Pair) → Contains (pairs segments) s → Moves (pairs segments) s ⊎ (Moves (pairs segments) s → ⊥)

-- a chain for each segment
abbrev pub AreChains : List Pair → List Pair → List (List Point) → Type 0
AreChains segments [] [] = ⊤
AreChains segments (s ∷ rest) (chain ∷ chains) = IsChain segments s chain × AreChains segments rest chains
AreChains segments _ _ = ⊥

-- the pieces along the chains, each with the count of its segment, which is inverted where a piece runs backward
unfoldable pub chain_pieces : List WholeSegment → List (List Point) → List WholeSegment
chain_pieces (s ∷ rest) (chain ∷ chains) = pieces_along s.count chain ++ chain_pieces rest chains
chain_pieces _ _ = []

-- the result of snap rounding: the join of the pieces
abbrev pub IsSnapped : List WholeSegment → List WholeSegment → Type 0
IsSnapped segments result = (chains : List (List Point)) × AreChains (pairs segments) (pairs segments) chains × (result ≡ join (chain_pieces segments chains))
