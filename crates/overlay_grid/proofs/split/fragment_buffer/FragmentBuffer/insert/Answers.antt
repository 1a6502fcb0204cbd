use Rattle.overlay_grid.proofs.laws.grid.GridGroups.{group_in-pushed}
use Rattle.overlay_grid.proofs.split.fragment_buffer.FragmentBuffer.insert.Goals as goal

pub returns-clause-added : goal.returns-clause-added
returns-clause-added g c other =
    group_in-pushed g.I.OverlayInt.whole c.args.self.now.groups.items c.args.column c.index_mut.result.now c.push.new.self c.args.fragment other c.requires c.index_mut.ensures.value c.in_ok-push.ensures.items
