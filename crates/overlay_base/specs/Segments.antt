-- Segments: pairs with counts. A list of segments is a bag; in order, without repeats and empty counts, it is an arrangement.
use Rattle.std.specs.Prelude.{◌==◌, Bool, ◌&&◌, List, [], ◌∷◌, map, flat_map, filter}
use Rattle.std.specs.List.{list_all}
use Rattle.overlay_geometry.specs.Points.{Point, Pair, pair_cmp, pair_eq, is_ordered}
use Rattle.overlay_geometry.specs.Sorting.{is_strictly_sorted}
use Rattle.overlay_base.specs.Windings.{Winding, is_not_empty, total, weight}

pub record WholeSegment : Type 0 where
  pub pair : Pair
  pub count : Winding

abbrev pub pairs : List WholeSegment → List Pair
pairs segments = map (λ s. s.pair) segments

abbrev pub counts : List WholeSegment → List Winding
counts segments = map (λ s. s.count) segments

abbrev pub ends : List Pair → List Point
ends segments = flat_map (λ s. s.a ∷ s.b ∷ []) segments

abbrev pub are_ordered : List WholeSegment → Bool
are_ordered segments = list_all (λ s. is_ordered s.pair) segments

-- the counts of polygons have no mask
abbrev pub are_polygons : List WholeSegment → Bool
are_polygons segments = list_all (λ s. s.count.mask == 0) segments

-- the segments of a bag on one pair, as they are
abbrev pub segments_at : List WholeSegment → Pair → List WholeSegment
segments_at segments pair = filter (λ s. pair_eq s.pair pair) segments

-- The counts of a bag at one pair, added. In an arrangement: the count of that pair, or the empty one where it is not there.
unfoldable pub winding_at : List WholeSegment → Pair → Winding
winding_at segments pair = total (counts (segments_at segments pair))

-- the weights of a bag, added
unfoldable pub total_weight : List WholeSegment → Winding
total_weight segments = total (map (λ s. weight s.count) segments)

-- whether a list is an arrangement: a finite map from pairs to counts that are not empty, in strict order
unfoldable pub is_map : List WholeSegment → Bool
is_map segments = is_strictly_sorted pair_cmp (pairs segments) && list_all (λ s. is_ordered s.pair && is_not_empty s.count) segments
