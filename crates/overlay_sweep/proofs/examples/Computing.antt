-- Opens every definition: a proof under the line `unfolding computing` computes with all of them.
use Rattle.std.specs.Prelude.{⊤}
use Rattle.overlay_base.proofs.examples.Computing.{computing as base_computing}
use Rattle.overlay_geometry.specs.Below.{scaled_height, height_cmp, angle_cmp}
use Rattle.overlay_sweep.specs.ColumnWindings.{is_below_in_column, column_bottom, column_top, weights_up_to, right_winding, left_winding, side_bottom, side_top}
use Rattle.overlay_sweep.specs.ChainWindings.{neighbor_at_start, directly_below, support, top_within, top, bottom, tops_leave_range}
use Rattle.overlay_sweep.specs.Fill.{fill_byte}
use Rattle.overlay_sweep.specs.Sweep.{visits, handled, visited, visits_leave_range}
use Rattle.overlay_sweep.specs.Live.{sum_below}

unfoldable pub computing : Type 0
unfolding base_computing scaled_height height_cmp angle_cmp is_below_in_column column_bottom column_top weights_up_to right_winding left_winding side_bottom side_top neighbor_at_start directly_below support top_within top bottom tops_leave_range fill_byte visits handled visited visits_leave_range sum_below
computing = ⊤
