-- Opens every definition: a proof under the line `unfolding computing` computes with all of them.
use Rattle.std.specs.Prelude.{⊤}
use Rattle.overlay_geometry.specs.Points.{turn, sqr_distance, is_in_box, lies_on, is_strictly_inside, is_within_box_of}
use Rattle.overlay_geometry.specs.Sorting.{distinct_in_order, is_strictly_sorted, has_repeat, insert_before_ties, stably_sorted, greatest}
use Rattle.overlay_base.specs.Windings.{total}
use Rattle.overlay_base.specs.Segments.{winding_at, total_weight, is_map}
use Rattle.overlay_base.specs.Join.{summed, join, sums_from, running_sums, join_leaves_range}
use Rattle.overlay_geometry.specs.Meeting.{separates, do_cross, are_collinear, has_end_inside, meeting, are_apart}
use Rattle.overlay_base.specs.Planar.{is_planar, is_splittable, is_arranged}
use Rattle.overlay_base.specs.Balance.{balance}
use Rattle.overlay_base.specs.BalanceTest.{end_counts}
use Rattle.overlay_base.specs.Places.{winding_below}
use Rattle.overlay_base.specs.Rays.{goes_through, winding_above, winding_left, winding_right}
use Rattle.overlay_base.specs.EdgeData.{data_piece, merged, merge_runs, merge_sorted, data_join}

unfoldable pub computing : Type 0
unfolding turn sqr_distance is_in_box lies_on is_strictly_inside is_within_box_of distinct_in_order is_strictly_sorted has_repeat insert_before_ties stably_sorted greatest total winding_at total_weight is_map summed join sums_from running_sums join_leaves_range separates do_cross are_collinear has_end_inside meeting are_apart is_planar is_splittable is_arranged balance end_counts winding_below goes_through winding_above winding_left winding_right data_piece merged merge_runs merge_sorted data_join
computing = ⊤
