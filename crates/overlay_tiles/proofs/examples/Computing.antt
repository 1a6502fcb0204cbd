-- Opens every definition of tiles: a proof under the line `unfolding computing` computes with all of them.
use Rattle.std.specs.Prelude.{⊤}
use Rattle.overlay_contours.specs.Contours.{winding_number}
use Rattle.overlay_intersections.proofs.examples.Computing.{computing as crossings_computing}
use Rattle.overlay_tiles.specs.Tiles.{parts, height_at, cut, refined, cut_path, without_last, clipped, is_beside, thinned_from, thinned}

unfoldable pub computing : Type 0
unfolding crossings_computing winding_number parts height_at cut refined cut_path without_last clipped is_beside thinned_from thinned
computing = ⊤
