-- How many points the segments of a list end at, and which points chains go through.
use Rattle.std.specs.Prelude.{ℕ, List, ◌++◌, length}
use Rattle.overlay_geometry.specs.Meeting.{do_cross}
use Rattle.overlay_geometry.specs.Points.{Point, Pair, point_cmp}
use Rattle.overlay_geometry.specs.Sorting.{distinct_in_order}
use Rattle.overlay_base.specs.Segments.{WholeSegment, pairs, ends}
use Rattle.overlay_snapping.specs.Chains.{crossings_by}

-- how many points are ends of segments of a list
unfoldable pub end_count : List WholeSegment → ℕ
end_count segments = length (distinct_in_order point_cmp (ends (pairs segments)))

-- the points of chains, each once: the ends, and the points to which crossings are rounded
unfoldable pub chain_points : List Pair → List Point
chain_points segments = distinct_in_order point_cmp (ends segments ++ crossings_by do_cross segments)
