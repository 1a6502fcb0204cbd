use Rattle.std.proofs.lemmas.Grind.{common_steps}
use Rattle.overlay_geometry.specs.Points.{Point}
use Rattle.std.proofs.Common.{List, arith, rules}
use Rattle.overlay_contours.specs.ContoursOf.{contours_of}
use Rattle.overlay_contours.specs.Kept.{subject_of, clip_of, splitting_of}
use Rattle.overlay_contours.proofs.laws.Beyond.{reach_bounded, exact_reach, overlay_beyond}
use Rattle.overlay_contours.proofs.overlay.Overlay.overlay.Goals as goal

-- ---- by the distance that is reported

pub returns-clause-splitting : goal.returns-clause-splitting
returns-clause-splitting g c = rw (c.deref.ensures.value, c.deref-2.ensures.value) at c.in_ok-answer.ensures.splitting

pub returns-clause-reach : goal.returns-clause-reach
returns-clause-reach g c =
    let after = c.overlay.new.self in
    let answer : List (List Point) = contours_of g.I.OverlayInt.whole c.in_ok-answer.answer.items in
    reach_bounded (splitting_of c.args.solver.now c.args.self.now) (subject_of c.args.self.now) (clip_of c.args.self.now) after.arranged.passes after.arranged.reach (returns-clause-splitting g c) c.args.overlay_rule c.args.fill_rule answer (rw (c.deref.ensures.value, c.deref-2.ensures.value) at c.in_ok-answer.ensures.polygons)

pub returns-clause-exact : goal.returns-clause-exact
returns-clause-exact g c =
    let after = c.overlay.new.self in
    let answer : List (List Point) = contours_of g.I.OverlayInt.whole c.in_ok-answer.answer.items in
    exact_reach (splitting_of c.args.solver.now c.args.self.now) (subject_of c.args.self.now) (clip_of c.args.self.now) after.arranged.passes after.arranged.reach (returns-clause-splitting g c) c.args.overlay_rule c.args.fill_rule answer (rw (c.deref.ensures.value, c.deref-2.ensures.value) at c.in_ok-answer.ensures.polygons)

pub returns-clause-overlay : goal.returns-clause-overlay
returns-clause-overlay g c =
    let after = c.overlay.new.self in
    let answer : List (List Point) = contours_of g.I.OverlayInt.whole c.in_ok-answer.answer.items in
    overlay_beyond (splitting_of c.args.solver.now c.args.self.now) (subject_of c.args.self.now) (clip_of c.args.self.now) after.arranged.passes after.arranged.reach (returns-clause-splitting g c) c.args.overlay_rule c.args.fill_rule answer (rw (c.deref.ensures.value, c.deref-2.ensures.value) at c.in_ok-answer.ensures.polygons)

pub returns-clause-clip : goal.returns-clause-clip
returns-clause-clip g c = search rules

pub returns-clause-polygons : goal.returns-clause-polygons
returns-clause-polygons g c = search rules

pub returns-in_err-answer-clause-refused : goal.returns-in_err-answer-clause-refused
returns-in_err-answer-clause-refused g c = grind (arith, common_steps)
