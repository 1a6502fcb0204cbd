use Rattle.std.proofs.Common.{sym, ◌∙◌, to_z-of_z, arith}
use Rattle.std.specs.Prelude.{ℤ, pos, ◌≤ℤ◌, unsigned_abs}
use Rattle.std.proofs.lemmas.Int.{ints}
use Rattle.overlay_geometry.specs.PairOf.{pair_of}
use Rattle.overlay_intersections.specs.Marks.{snapping}
use Rattle.overlay_intersections.proofs.laws.crossings.AnswerMarks.{answer_of_crossing}
use Rattle.overlay_intersections.proofs.split.cross_solver.CrossSolver.cross.Goals as goal

positive : (z : ℤ) → pos 1 ≤ℤ z → pos 0 ≤ℤ z
positive z h = omega (arith, ints)

pub returns-in-Crossing : goal.returns-in-Crossing
returns-in-Crossing g c =
    let radius_fits = c.ranges.radius_squared in
    let value = simp to_z-of_z at c.snapped.ensures in
    sym (answer_of_crossing (snapping (unsigned_abs c.args.radius_squared)) (pair_of g.I.OverlayInt.whole c.args.target.now) (pair_of g.I.OverlayInt.whole c.args.other.now) c.in-Crossing.ensures ∙ value)

pub contact_of-requires-clause-target : goal.contact_of-requires-clause-target
contact_of-requires-clause-target g c = c.requires.target

pub contact_of-requires-clause-other : goal.contact_of-requires-clause-other
contact_of-requires-clause-other g c = c.requires.other

pub contact_of-requires-clause-target_apart : goal.contact_of-requires-clause-target_apart
contact_of-requires-clause-target_apart g c = c.requires.target_apart

pub contact_of-requires-clause-other_apart : goal.contact_of-requires-clause-other_apart
contact_of-requires-clause-other_apart g c = c.requires.other_apart

pub snapped-requires-clause-target : goal.snapped-requires-clause-target
snapped-requires-clause-target g c = c.requires.target

pub snapped-requires-clause-other : goal.snapped-requires-clause-other
snapped-requires-clause-other g c = c.requires.other

pub snapped-requires-clause-crossing : goal.snapped-requires-clause-crossing
snapped-requires-clause-crossing g c = c.in-Crossing.ensures

pub snapped-requires-clause-radius : goal.snapped-requires-clause-radius
snapped-requires-clause-radius g c =
    let radius_fits = c.ranges.radius_squared in
    simp to_z-of_z (positive _ c.requires.radius)

pub returns-in-Apart : goal.returns-in-Apart
returns-in-Apart g c = sym (c.in-Apart.ensures (snapping (unsigned_abs c.args.radius_squared)))

pub returns-in-At : goal.returns-in-At
returns-in-At g c = sym (c.in-At.ensures (snapping (unsigned_abs c.args.radius_squared)))
