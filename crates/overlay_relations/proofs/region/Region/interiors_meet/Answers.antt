use Rattle.std.proofs.Common.{Bool, sym, ◌∙◌}
use Rattle.std.proofs.lemmas.Result.{IfOk-weaker}
use Rattle.overlay_base.specs.declared.overlay_core.overlay_rule.OverlayRule.TheVariants.{Intersect}
use Rattle.overlay_relations.specs.Regions.{boundary_of, DecidesMeeting}
use Rattle.overlay_relations.specs.steps.Outcomes.{DecidesBetween}
use Rattle.overlay_relations.proofs.laws.Outcomes.{meeting}
use Rattle.overlay_relations.proofs.laws.ApartRegions.{apart_meeting}
use Rattle.overlay_relations.proofs.region.Region.interiors_meet.Goals as goal

pub returns-then-not-is_near-clause-meet : goal.returns-then-not-is_near-clause-meet
returns-then-not-is_near-clause-meet g c = apart_meeting c.args.self.now c.args.other.now (sym c.is_near.ensures ∙ c.if-not-is_near.true)

pub returns-clause-meet : goal.returns-clause-meet
returns-clause-meet g c =
    let first = boundary_of c.args.self.now in
    let second = boundary_of c.args.other.now in
    IfOk-weaker c.holds_between.result (DecidesBetween Intersect first second) (λ (found : Bool). DecidesMeeting c.args.self.now c.args.other.now found)
    (λ found decides subject_rule clip_rule subject clip a b. meeting subject_rule clip_rule subject clip found (decides subject_rule clip_rule subject clip a b))
    c.holds_between.ensures.holds
