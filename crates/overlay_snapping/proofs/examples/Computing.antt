-- Opens every definition: a proof under the line `unfolding computing` computes with all of them.
use Rattle.std.specs.Prelude.{⊤}
use Rattle.overlay_snapping.specs.Pixels.{meets_pixel, met_places}
use Rattle.overlay_snapping.specs.steps.PointTrees.{are_boxes}
use Rattle.overlay_snapping.specs.Chains.{crossings_by, chain_pieces}
use Rattle.overlay_snapping.specs.Counts.{end_count, chain_points}
use Rattle.overlay_snapping.specs.SnapOf.{reach_of_snap}
use Rattle.overlay_cuts.proofs.examples.Computing.{computing as split_computing}

unfoldable pub computing : Type 0
unfolding split_computing meets_pixel met_places are_boxes crossings_by chain_pieces end_count chain_points reach_of_snap
computing = ⊤
