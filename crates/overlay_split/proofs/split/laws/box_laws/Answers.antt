use Rattle.overlay_cuts.proofs.laws.paths.Boxes.{stays_in_box}
use Rattle.overlay_split.proofs.split.laws.box_laws.Goals as goal

pub returns : goal.returns
returns c = stays_in_box
