-- Opens every definition: a proof under the line `unfolding computing` computes with all of them.
use Rattle.std.specs.Prelude.{⊤}
use Rattle.overlay_cuts.specs.Path.{onto_columns, columns_in_order, columns_of, next_point, last_point, column_path, path_from, path, piece, pieces_along, pieces}
use Rattle.overlay_cuts.specs.Pass.{cut_by, pass}
use Rattle.overlay_cuts.specs.Run.{placing_of_pass, after_passes, goes_on, has_marked, has_changed, leaves_range_within}
use Rattle.overlay_cuts.specs.Potential.{spread, potential}
use Rattle.overlay_cuts.specs.DataPass.{data_pieces, data_pieces_of_each, data_cut_by, data_pass, data_after_passes, data_joined_in, data_store_before}
use Rattle.overlay_cuts.specs.Nearness.{root, reach_of_pass, reach_of_run, reach_of_passes, joined_in}
use Rattle.overlay_base.specs.Places.{winding_below}
use Rattle.overlay_cuts.specs.ExactInput.{is_exact_input, special_points, contains_pair, is_elementary, count_along, lies_on_input}
use Rattle.overlay_intersections.proofs.examples.Computing.{computing as marks_computing}

unfoldable pub computing : Type 0
unfolding marks_computing onto_columns columns_in_order columns_of next_point last_point column_path path_from path piece pieces_along pieces cut_by pass placing_of_pass after_passes goes_on has_marked has_changed leaves_range_within spread potential data_pieces data_pieces_of_each data_cut_by data_pass data_after_passes data_joined_in data_store_before is_exact_input special_points contains_pair is_elementary count_along lies_on_input root reach_of_pass reach_of_run reach_of_passes joined_in winding_below
computing = ⊤
