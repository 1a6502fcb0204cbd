use Rattle.overlay_split.proofs.laws.paths.Masks.{run_keeps_polygons}
use Rattle.overlay_split.proofs.split.laws.polygon_laws.Goals as goal

pub returns : goal.returns
returns c = run_keeps_polygons
