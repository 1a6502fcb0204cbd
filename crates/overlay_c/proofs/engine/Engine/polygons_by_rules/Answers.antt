use Rattle.std.proofs.Common.{ap, ◌∙◌, length, map}
use Rattle.overlay_contours.specs.ContoursOf.{contours_of_each}
use Rattle.overlay_contours.specs.Shapes.{all_contours}
use Rattle.overlay_contours.specs.ShapesOf.{shapes_of}
use Rattle.overlay_c.proofs.Overlays.{same_splitting, same_laid, same_rules, same_report}
use Rattle.overlay_c.proofs.engine.Engine.polygons_by_rules.Goals as goal

pub returns-clause-kept : goal.returns-clause-kept
returns-clause-kept c =
    let set = c.set_rounding.ensures in
    let es = same_splitting c.args.settings.now c.solver-solver.result _ (set.rounding ∙ c.rounding.ensures) c.solver-solver.ensures.start c.solver-solver.ensures.progression in
    let ef = c.fill_rule-fill_rule.ensures in
    let told = c.in_ok-overlays.ensures in
    let kept = c.in_ok-keep_shapes.ensures in
    let rules = c.in_ok-rules.rules.items in
    let overlays = c.in_ok-overlays.overlays.items in
    let e = ap (λ ss. shapes_of (λ z. z) ss) c.deref-2.ensures.value in
    let are = same_rules _ _ _ _ _ _ _ _ es ef set.subject set.clip _ _ told.polygons in (
      rules,
      c.in_ok-rules.ensures,
      record {
        overlays = contours_of_each (λ z. z) overlays;
        are = rw c.deref.ensures.value at are;
        counts = kept.counts ∙ ap (map length) e;
        kept = same_laid _ _ _ _ (ap all_contours e) kept.lengths kept.points;
        report = same_report _ _ _ _ _ _ _ _ es ef set.subject set.clip _ _ told.splitting;
      },
    )
