use Rattle.std.proofs.Common.{◌≡◌, ap₂, arith}
use Rattle.std.proofs.lemmas.Int.{ints}
use Rattle.std.proofs.lemmas.Grind.{common_steps}
use Rattle.std.specs.Prelude.{◌&&◌, int_le}
use Rattle.overlay_tree.proofs.split.solver_list.do_meet.Goals as goal

pub returns : goal.returns
returns g c =
    let whole = g.I.OverlayInt.whole in
    let one : c.le.result ≡ int_le (whole c.args.first.now.min) (whole c.args.second.now.max) = grind (arith, ints, common_steps, g.met.I.Ord.matches_partial_cmp, g.met.I.OverlayInt.ordered, c.le.ensures) in
    let two : c.le-2.result ≡ int_le (whole c.args.second.now.min) (whole c.args.first.now.max) = grind (arith, ints, common_steps, g.met.I.Ord.matches_partial_cmp, g.met.I.OverlayInt.ordered, c.le-2.ensures) in
    ap₂ ◌&&◌ one two
