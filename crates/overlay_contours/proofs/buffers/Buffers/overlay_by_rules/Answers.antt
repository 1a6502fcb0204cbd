use Rattle.std.proofs.Common.{[], subst, sym}
use Rattle.std.proofs.lemmas.List.Elements.{All-push}
use Rattle.overlay_contours.specs.ContoursIn.{LieInRange}
use Rattle.overlay_contours.specs.ContoursOf.{contours_of}
use Rattle.overlay_contours.specs.ShapesOf.{ShapesLieInRange}
use Rattle.overlay_contours.specs.Splittings.{splitting_for}
use Rattle.overlay_contours.proofs.laws.Arrangements.{no_memory, stays_of}
use Rattle.overlay_contours.proofs.laws.SeveralRules.{rule_at}
use Rattle.overlay_contours.proofs.buffers.Buffers.overlay_by_rules.Goals as goal

pub contours-requires : goal.contours-requires
contours-requires g c = ∣ (_, _, _, _, c.loop-overlay_rule.invariant.arranged) ∣₁

pub loop-overlay_rule-preserved : goal.loop-overlay_rule-preserved
loop-overlay_rule-preserved g c =
    let I = g.I.OverlayInt in
    let whole = I.whole in
    let e = c.in_ok-contours.ensures in
    record {
      polygons =
          rule_at (splitting_for c.args.rounding I.BITS c.args.solver.now) c.args.fill_rule (contours_of whole c.args.subject.now) (contours_of whole c.args.clip.now) (λ contours. contours_of whole contours.items) c.args.overlay_rules.now c.loop-overlay_rule.overlay_rule-index
          c.overlay_rule-item.result c.loop-overlay_rule.overlays.items c.push.new.self.items c.in_ok-contours.contours c.loop-overlay_rule-test.true c.overlay_rule-item.is c.in_ok-push.ensures.items c.loop-overlay_rule.invariant.polygons (e.polygons _ _ _ _ c.loop-overlay_rule.invariant.arranged);
      in_range = subst (ShapesLieInRange whole I.MIN_COORD I.MAX_COORD) (sym c.in_ok-push.ensures.items) (All-push (λ s. LieInRange whole I.MIN_COORD I.MAX_COORD s.items) c.loop-overlay_rule.overlays.items c.in_ok-contours.contours c.loop-overlay_rule.invariant.in_range e.in_range);
      arranged = stays_of _ _ _ _ _ _ c.contours.ensures.kept c.loop-overlay_rule.invariant.arranged;
    }
