use Rattle.std.proofs.lemmas.Grind.{common_steps}
use Rattle.overlay_geometry.specs.Points.{Point}
use Rattle.std.proofs.Common.{List, arith, rules}
use Rattle.overlay_contours.specs.Shapes.{all_contours}
use Rattle.overlay_contours.specs.ShapesOf.{shapes_of}
use Rattle.overlay_contours.specs.Kept.{subject_of, clip_of, splitting_of}
use Rattle.overlay_contours.proofs.laws.Beyond.{reach_bounded, exact_reach, shapes_beyond}
use Rattle.overlay_contours.proofs.overlay.Overlay.overlay_shapes.Goals as goal

-- ---- by the distance that is reported

pub returns-clause-splitting : goal.returns-clause-splitting
returns-clause-splitting g c = rw (c.deref.ensures.value, c.deref-2.ensures.value) at c.in_ok-in_shapes.ensures.splitting

pub returns-clause-reach : goal.returns-clause-reach
returns-clause-reach g c =
    let after = c.overlay_shapes.new.self in
    let shapes : List (List (List Point)) = shapes_of g.I.OverlayInt.whole c.in_ok-in_shapes.in_shapes.items in
    let shape_overlay = rw (c.deref.ensures.value, c.deref-2.ensures.value) at c.in_ok-in_shapes.ensures.shapes in
    reach_bounded (splitting_of c.args.solver.now c.args.self.now) (subject_of c.args.self.now) (clip_of c.args.self.now) after.arranged.passes after.arranged.reach (returns-clause-splitting g c) c.args.overlay_rule c.args.fill_rule (all_contours shapes) shape_overlay.overlay

pub returns-clause-exact : goal.returns-clause-exact
returns-clause-exact g c =
    let after = c.overlay_shapes.new.self in
    let shapes : List (List (List Point)) = shapes_of g.I.OverlayInt.whole c.in_ok-in_shapes.in_shapes.items in
    let shape_overlay = rw (c.deref.ensures.value, c.deref-2.ensures.value) at c.in_ok-in_shapes.ensures.shapes in
    exact_reach (splitting_of c.args.solver.now c.args.self.now) (subject_of c.args.self.now) (clip_of c.args.self.now) after.arranged.passes after.arranged.reach (returns-clause-splitting g c) c.args.overlay_rule c.args.fill_rule (all_contours shapes) shape_overlay.overlay

pub returns-clause-overlay : goal.returns-clause-overlay
returns-clause-overlay g c =
    let after = c.overlay_shapes.new.self in
    let shapes : List (List (List Point)) = shapes_of g.I.OverlayInt.whole c.in_ok-in_shapes.in_shapes.items in
    let shape_overlay = rw (c.deref.ensures.value, c.deref-2.ensures.value) at c.in_ok-in_shapes.ensures.shapes in
    shapes_beyond (splitting_of c.args.solver.now c.args.self.now) (subject_of c.args.self.now) (clip_of c.args.self.now) after.arranged.passes after.arranged.reach (returns-clause-splitting g c) c.args.overlay_rule c.args.fill_rule shapes shape_overlay

pub returns-clause-shapes : goal.returns-clause-shapes
returns-clause-shapes g c = search rules

pub returns-in_err-in_shapes-clause-refused : goal.returns-in_err-in_shapes-clause-refused
returns-in_err-in_shapes-clause-refused g c = grind (arith, common_steps)
