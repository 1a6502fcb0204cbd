use Rattle.std.proofs.Common.{◌≡◌, ap, ◌∙◌, arith}
use Rattle.std.specs.Prelude.{int_le}
use Rattle.std.proofs.lemmas.Int.{ints}
use Rattle.std.proofs.lemmas.Grind.{common_steps}
use Rattle.overlay_geometry.specs.declared.geom.x_segment.XSegment.{XSegment}
use Rattle.overlay_tree.proofs.split.solver_list.begins_by.Goals as goal

pub returns : goal.returns
returns g c =
    let whole = g.I.OverlayInt.whole in
    let test : c.le.result ≡ int_le (whole c.x_segment.result.a.x) (whole c.args.x) = grind (arith, ints, common_steps, g.met.I.Ord.matches_partial_cmp, g.met.I.OverlayInt.ordered, c.le.ensures) in
    test ∙ ap (λ (s : XSegment _). int_le (whole s.a.x) (whole c.args.x)) c.x_segment.ensures
