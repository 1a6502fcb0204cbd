use Rattle.std.proofs.Common.{arith}
use Rattle.overlay_intersections.specs.Marks.{settling}
use Rattle.overlay_grid.proofs.laws.grid.ApartGroups.{no_marks_apart}
use Rattle.overlay_grid.proofs.split.reach.are_apart_upward.Goals as goal

pub returns-clause-marks : goal.returns-clause-marks
returns-clause-marks g c is placing = (no_marks_apart g.I.OverlayInt.whole placing c.args.group.now (λ i d low. c.loop-place.invariant i d (let past = c.loop-place-test.false in omega (arith, low)))).0

pub returns-clause-rounded : goal.returns-clause-rounded
returns-clause-rounded g c is = (no_marks_apart g.I.OverlayInt.whole settling c.args.group.now (λ i d low. c.loop-place.invariant i d (let past = c.loop-place-test.false in omega (arith, low)))).1
