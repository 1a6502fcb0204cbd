use Rattle.std.proofs.Common.{◌≡◌, Bool, true, List}
use Rattle.std.specs.Prelude.{◌↔◌}
use Rattle.std.proofs.lemmas.Result.{IfOk-weaker}
use Rattle.overlay_geometry.specs.Points.{Point}
use Rattle.overlay_base.specs.declared.overlay_core.overlay_rule.OverlayRule.TheVariants.{Intersect}
use Rattle.overlay_contours.specs.ContoursOf.{contours_of}
use Rattle.overlay_relations.specs.Relations.{HoldsSomewhere, InteriorsMeet}
use Rattle.overlay_relations.proofs.laws.Outcomes.{meeting}
use Rattle.overlay_relations.proofs.predicates.interiors_meet.Goals as goal

pub returns-clause-meet : goal.returns-clause-meet
returns-clause-meet g c =
    let subject : List (List Point) = contours_of g.I.OverlayInt.whole c.args.subject.now in
    let clip : List (List Point) = contours_of g.I.OverlayInt.whole c.args.clip.now in
    IfOk-weaker c.holds_somewhere.result (λ (found : Bool). (found ≡ true) ↔ HoldsSomewhere Intersect c.args.fill_rule c.args.fill_rule subject clip) (λ (found : Bool). (found ≡ true) ↔ InteriorsMeet c.args.fill_rule c.args.fill_rule subject clip)
    (meeting c.args.fill_rule c.args.fill_rule subject clip) c.holds_somewhere.ensures.holds
