-- How many pairs a sweep over the tree may compare.
use Rattle.std.specs.Prelude.{ℕ, ◌+◌, ◌*◌, List, length}
use Rattle.overlay_geometry.specs.Points.{Pair}
use Rattle.overlay_intersections.specs.Looked.{boxes_meet, count_twos}

-- What a sweep compares at most: 40 times as many as there are segments, and 9 times as many as there are pairs whose boxes
-- meet. Where fewer than 32 segments are live each of them is compared. In the tree so is each one of a small subtree.
unfoldable pub sweep_looks : List Pair → ℕ
sweep_looks segments = 40 * length segments + 9 * count_twos boxes_meet segments
