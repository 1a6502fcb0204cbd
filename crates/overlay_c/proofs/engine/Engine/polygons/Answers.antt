use Rattle.std.proofs.Common.{ap, ◌∙◌, rules}
use Rattle.overlay_contours.specs.ContoursOf.{contours_of}
use Rattle.overlay_c.proofs.Overlays.{same_splitting, same_laid, same_polygons, same_beyond, same_report, same_bound, same_exact}
use Rattle.overlay_c.proofs.engine.Engine.polygons.Goals as goal

pub returns-clause-kept : goal.returns-clause-kept
returns-clause-kept c =
    let set = c.set_rounding.ensures in
    let es = same_splitting c.args.settings.now c.solver-solver.result _ (set.rounding ∙ c.rounding.ensures) c.solver-solver.ensures.start c.solver-solver.ensures.progression in
    let ef = c.fill_rule-fill_rule.ensures in
    let told = c.in_ok-contours.ensures in
    record {
      contours = contours_of (λ z. z) c.in_ok-contours.contours.items;
      overlay = same_polygons _ _ _ _ _ _ _ _ es ef set.subject set.clip _ _ told.polygons;
      kept = same_laid _ _ _ _ (ap (λ cs. contours_of (λ z. z) cs) c.deref.ensures.value) c.in_ok-keep_contours.ensures.lengths c.in_ok-keep_contours.ensures.points;
      no_shapes = search rules;
      beyond = same_beyond _ _ _ _ _ _ _ _ es ef set.subject set.clip _ _ _ told.overlay;
      report = record {
        splitting = same_report _ _ _ _ _ _ _ _ es ef set.subject set.clip _ _ told.splitting;
        bounded = same_bound _ _ _ _ _ _ _ _ es ef set.subject set.clip _ _ told.reach;
        exact = same_exact _ _ _ _ _ _ _ _ es ef set.subject set.clip _ told.exact;
      };
    }
