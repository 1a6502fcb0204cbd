use Rattle.std.proofs.Common.{arith}
use Rattle.overlay_grid.proofs.laws.grid.GroupSorts.{picked-more, picked-end}
use Rattle.overlay_grid.proofs.split.group_sort.pick.Goals as goal

pub offset_bounds-group-keys : goal.offset_bounds-group-keys
offset_bounds-group-keys g c = omega (arith, c.requires.places c.loop-at.at 0 c.loop-at-test.true)

pub bounds-group-keys : goal.bounds-group-keys
bounds-group-keys g c = c.requires.places c.loop-at.at 0 c.loop-at-test.true

pub bounds-keys-at : goal.bounds-keys-at
bounds-keys-at g c = c.loop-at-test.true

pub loop-at-smaller : goal.loop-at-smaller
loop-at-smaller g c = omega (arith, c.loop-at-test.true)

pub loop-at-preserved : goal.loop-at-preserved
loop-at-preserved g c =
    picked-more c.args.group.now c.args.keys.now c.loop-at.at c.index-group-keys.result c.loop-at.row.items c.push.new.self.items c.loop-at.invariant c.loop-at-test.true
    (c.requires.places c.loop-at.at 0 c.loop-at-test.true) c.index-group-keys.is c.in_ok-push.ensures.items

pub returns : goal.returns
returns g c = picked-end c.args.group.now c.args.keys.now c.loop-at.at c.loop-at.row.items c.loop-at.invariant c.loop-at-test.false
