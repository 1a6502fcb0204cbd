use Rattle.std.proofs.Common.{arith}
use Rattle.std.proofs.lemmas.Bool.{false≢true}
use Rattle.overlay_grid.proofs.laws.grid.GridGroups.{IsSortedAlong-from_sort}
use Rattle.overlay_grid.proofs.split.group_sort.are_in_order.Goals as goal

pub loop-place-init : goal.loop-place-init
loop-place-init g c i d low = absurd (omega (arith, low))

pub overflow_sub-before : goal.overflow_sub-before
overflow_sub-before g c = c.loop-place.auto.place

pub offset_bounds-group-place : goal.offset_bounds-group-place
offset_bounds-group-place g c = omega (arith, c.loop-place-test.true)

pub bounds-group-place : goal.bounds-group-place
bounds-group-place g c = omega (arith, c.loop-place-test.true)

pub offset_bounds-group-place-in-loop-place : goal.offset_bounds-group-place-in-loop-place
offset_bounds-group-place-in-loop-place g c = omega (arith, c.loop-place-test.true)

pub bounds-group-place-in-loop-place : goal.bounds-group-place-in-loop-place
bounds-group-place-in-loop-place g c = c.loop-place-test.true

pub least-requires : goal.least-requires
least-requires g c κs kept = kept

pub least-requires-in-loop-place : goal.least-requires-in-loop-place
least-requires-in-loop-place g c κs kept = kept

pub lt-requires : goal.lt-requires
lt-requires g c κs kept = kept

pub returns-then-lt : goal.returns-then-lt
returns-then-lt g c is_true = absurd (false≢true is_true)

pub loop-place-smaller : goal.loop-place-smaller
loop-place-smaller g c = omega (arith, c.loop-place-test.true)

pub returns : goal.returns
returns g c is_true = IsSortedAlong-from_sort g.I.OverlayInt.whole c.args.axis c.args.group.now (λ k d low lt. c.loop-place.invariant k d (let past = c.loop-place-test.false in omega arith))
