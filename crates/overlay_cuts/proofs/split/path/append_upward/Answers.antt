use Rattle.std.proofs.Common.{rules}
use Rattle.std.proofs.lemmas.Iterator.{YieldsList-from_slice, YieldsList-from_map}
use Rattle.std.proofs.lemmas.Iterator.Adapters.{items_from_extend}
use Rattle.overlay_cuts.proofs.split.path.append_upward.Goals as goal

pub returns : goal.returns
returns g c = let h = items_from_extend c.extend.result c.extend.ensures.ran (YieldsList-from_map _ (λ m. m.point) (YieldsList-from_slice c.args.column.now cc) c.map.ensures.closure (λ x r q k. search rules)) in search rules
