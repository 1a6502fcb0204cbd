-- Planar arrangements, and the lists of segments that may be split or swept.
use Rattle.std.specs.Prelude.{Bool, ◌&&◌, List, ℤ}
use Rattle.std.specs.List.{list_all}
use Rattle.overlay_geometry.specs.Coordinates.{is_pair_in_range}
use Rattle.overlay_base.specs.Windings.{is_valid, is_not_empty}
use Rattle.overlay_base.specs.Segments.{WholeSegment, pairs, is_map}
use Rattle.overlay_geometry.specs.Meeting.{are_apart}

-- Every two segments are apart. A segment is apart from itself.
unfoldable pub is_planar : List WholeSegment → Bool
is_planar segments = list_all (λ s. list_all (λ t. are_apart s t) (pairs segments)) (pairs segments)

-- in range, with valid counts that are not empty
unfoldable pub is_splittable : ℤ → ℤ → List WholeSegment → Bool
is_splittable least greatest segments = list_all (λ s. is_pair_in_range least greatest s.pair && is_valid s.count && is_not_empty s.count) segments

-- a planar arrangement, in range and with valid counts
unfoldable pub is_arranged : ℤ → ℤ → List WholeSegment → Bool
is_arranged least greatest segments = is_map segments && is_splittable least greatest segments && is_planar segments
