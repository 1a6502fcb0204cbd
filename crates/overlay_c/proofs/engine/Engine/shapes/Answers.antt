use Rattle.std.proofs.Common.{ap, ◌∙◌, length, map}
use Rattle.overlay_contours.specs.Shapes.{all_contours}
use Rattle.overlay_contours.specs.ShapesOf.{shapes_of}
use Rattle.overlay_c.proofs.Overlays.{same_splitting, same_laid, same_shapes, same_shapes_beyond, same_report, same_bound, same_exact}
use Rattle.overlay_c.proofs.engine.Engine.shapes.Goals as goal

pub returns-clause-kept : goal.returns-clause-kept
returns-clause-kept c =
    let set = c.set_rounding.ensures in
    let es = same_splitting c.args.settings.now c.solver-solver.result _ (set.rounding ∙ c.rounding.ensures) c.solver-solver.ensures.start c.solver-solver.ensures.progression in
    let ef = c.fill_rule-fill_rule.ensures in
    let told = c.in_ok-shapes.ensures in
    let kept = c.in_ok-keep_shapes.ensures in
    let e = ap (λ ss. shapes_of (λ z. z) ss) c.deref.ensures.value in
    record {
      shapes = shapes_of (λ z. z) c.in_ok-shapes.shapes.items;
      overlay = same_shapes _ _ _ _ _ _ _ _ es ef set.subject set.clip _ _ told.shapes;
      counts = kept.counts ∙ ap (map length) e;
      kept = same_laid _ _ _ _ (ap all_contours e) kept.lengths kept.points;
      beyond = same_shapes_beyond _ _ _ _ _ _ _ _ es ef set.subject set.clip _ _ _ told.overlay;
      report = record {
        splitting = same_report _ _ _ _ _ _ _ _ es ef set.subject set.clip _ _ told.splitting;
        bounded = same_bound _ _ _ _ _ _ _ _ es ef set.subject set.clip _ _ told.reach;
        exact = same_exact _ _ _ _ _ _ _ _ es ef set.subject set.clip _ told.exact;
      };
    }
