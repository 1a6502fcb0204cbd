use Rattle.std.proofs.Common.{sym, ap, subst, ◌∙◌, IsTrue}
use Rattle.std.specs.Prelude.{ℤ}
use Rattle.overlay_geometry.specs.PairOf.{pair_of}
use Rattle.overlay_geometry.specs.PointOf.{point_of}
use Rattle.overlay_geometry.specs.Points.{Point, is_in_box}
use Rattle.overlay_tiles.specs.Tiles.{parts, cut}
use Rattle.overlay_tiles.specs.steps.LineOf.{line_of}
use Rattle.overlay_tiles.proofs.laws.Heights.{in_box_by_x, in_box_by_y}
use Rattle.overlay_tiles.proofs.line.Line.cut.Goals as goal

pub height_at-requires-clause-amid : goal.height_at-requires-clause-amid
unfolding parts
height_at-requires-clause-amid g c =
    let whole = g.I.OverlayInt.whole in
    subst (λ l. IsTrue (parts (line_of whole l) (point_of whole c.args.step.now.a) (point_of whole c.args.step.now.b))) c.in-Upright.is c.requires.crossed

pub height_at-requires-in-Level-clause-amid : goal.height_at-requires-in-Level-clause-amid
unfolding parts
height_at-requires-in-Level-clause-amid g c =
    let whole = g.I.OverlayInt.whole in
    subst (λ l. IsTrue (parts (line_of whole l) (point_of whole c.args.step.now.a) (point_of whole c.args.step.now.b))) c.in-Level.is c.requires.crossed

pub returns-in-Upright-clause-cut : goal.returns-in-Upright-clause-cut
unfolding cut
returns-in-Upright-clause-cut g c =
    let whole = g.I.OverlayInt.whole in
    c.new.ensures
    ∙ ap (λ (y : ℤ). let q : Point = record { x = whole c.in-Upright.x; y = y } in q) c.height_at.ensures.height
    ∙ sym (ap (λ l. cut (pair_of whole c.args.step.now) (line_of whole l)) c.in-Upright.is)

pub returns-in-Upright-clause-in_box : goal.returns-in-Upright-clause-in_box
unfolding parts
returns-in-Upright-clause-in_box g c =
    let whole = g.I.OverlayInt.whole in
    let crossed = subst (λ l. IsTrue (parts (line_of whole l) (point_of whole c.args.step.now.a) (point_of whole c.args.step.now.b))) c.in-Upright.is c.requires.crossed in
    subst (λ (p : Point). IsTrue (is_in_box (pair_of whole c.args.step.now) p)) (sym c.new.ensures) (in_box_by_x (pair_of whole c.args.step.now) _ _ crossed c.height_at.ensures.between)

pub returns-in-Level-clause-cut : goal.returns-in-Level-clause-cut
unfolding cut
returns-in-Level-clause-cut g c =
    let whole = g.I.OverlayInt.whole in
    c.new-in-Level.ensures
    ∙ ap (λ (x : ℤ). let q : Point = record { x = x; y = whole c.in-Level.y } in q) c.height_at-in-Level.ensures.height
    ∙ sym (ap (λ l. cut (pair_of whole c.args.step.now) (line_of whole l)) c.in-Level.is)

pub returns-in-Level-clause-in_box : goal.returns-in-Level-clause-in_box
unfolding parts
returns-in-Level-clause-in_box g c =
    let whole = g.I.OverlayInt.whole in
    let crossed = subst (λ l. IsTrue (parts (line_of whole l) (point_of whole c.args.step.now.a) (point_of whole c.args.step.now.b))) c.in-Level.is c.requires.crossed in
    subst (λ (p : Point). IsTrue (is_in_box (pair_of whole c.args.step.now) p)) (sym c.new-in-Level.ensures) (in_box_by_y (pair_of whole c.args.step.now) _ _ c.height_at-in-Level.ensures.between crossed)
