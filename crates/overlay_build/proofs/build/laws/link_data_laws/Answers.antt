use Rattle.overlay_build.proofs.laws.graphs.LinkData.{filter_gives_data}
use Rattle.overlay_build.proofs.build.laws.link_data_laws.Goals as goal

pub returns : goal.returns
returns g c = filter_gives_data
