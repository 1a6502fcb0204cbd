use Rattle.overlay_build.proofs.laws.sides.LineSides.{fills_tell_lines, clip_graphs_are_exact}
use Rattle.overlay_build.proofs.build.laws.line_laws.Goals as goal

pub returns-clause-fills : goal.returns-clause-fills
returns-clause-fills c = fills_tell_lines

pub returns-clause-exact : goal.returns-clause-exact
returns-clause-exact c = clip_graphs_are_exact
