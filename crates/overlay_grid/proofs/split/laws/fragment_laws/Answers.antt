use Rattle.overlay_grid.proofs.laws.grid.GridFragments.{fragments_enclose}
use Rattle.overlay_grid.proofs.split.laws.fragment_laws.Goals as goal

pub returns : goal.returns
returns c = fragments_enclose
