-- Opens every definition: a proof under the line `unfolding computing` computes with all of them.
use Rattle.std.specs.Prelude.{⊤}
use Rattle.overlay_sweep.proofs.examples.Computing.{computing as sweep_computing}
use Rattle.overlay_base.specs.Places.{winding_below}
use Rattle.overlay_base.specs.Rules.{top_value, bottom_value, keeps_fill}
use Rattle.overlay_build.specs.Graph.{filled, node_points, indexes_where, links_at, nodes_of_pairs, node_number, graph_of, graph_by, data_by, is_valid_graph, has_even_nodes}
use Rattle.overlay_build.specs.Values.{value_at, tells_apart}
use Rattle.overlay_build.specs.Boundary.{direction, directed_links, directed_count, boundary, times_round}
use Rattle.overlay_build.specs.ShapedBoundary.{in_shape}
use Rattle.overlay_build.specs.Sides.{has_sides_apart, with_sides, overlay_graph}
use Rattle.overlay_build.specs.Beside.{is_directly_above, is_directly_below, is_directly_left, is_directly_right}

unfoldable pub computing : Type 0
unfolding sweep_computing top_value bottom_value keeps_fill filled node_points indexes_where links_at nodes_of_pairs node_number graph_of graph_by data_by is_valid_graph has_even_nodes value_at tells_apart has_sides_apart with_sides overlay_graph winding_below direction directed_links directed_count boundary times_round in_shape is_directly_above is_directly_below is_directly_left is_directly_right
computing = ⊤
