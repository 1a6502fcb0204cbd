use Rattle.overlay_grid.proofs.laws.grid.GroupSorts.{keys-more}
use Rattle.overlay_grid.proofs.split.group_sort.list_keys.Goals as goal

pub loop-place-preserved : goal.loop-place-preserved
loop-place-preserved g c = keys-more c.loop-place.keys.items c.push.new.self.items c.key_of.result c.loop-place.place c.loop-place.invariant c.key_of.ensures c.in_ok-push.ensures.items
