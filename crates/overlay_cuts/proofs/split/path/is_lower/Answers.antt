use Rattle.std.proofs.Common.{arith}
use Rattle.std.proofs.lemmas.Int.{ints}
use Rattle.std.proofs.lemmas.Grind.{common_steps}
use Rattle.overlay_cuts.proofs.split.path.is_lower.Goals as goal

pub returns : goal.returns
returns g c = grind (arith, ints, common_steps, g.met.I.Ord.matches_partial_cmp, g.met.I.OverlayInt.ordered)
