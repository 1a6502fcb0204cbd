use Rattle.overlay_upstream.proofs.laws.tree.TreeRemovals.{sound_within, right_sound, top_is_last, next_joinable, top_removed}
use Rattle.overlay_upstream.proofs.build.tree_shape.TreeShape.remove_top.Goals as goal

pub index-node-requires : goal.index-node-requires
index-node-requires c = rw c.args.self.now.nodes.ok.0 (sound_within _ _ c.requires.sound c.requires.some)

pub returns-then-node : goal.returns-then-node
returns-then-node c j = top_is_last _ _ j c.requires.some _ c.index-node.ensures c.if-node.true

pub remove_first-next-requires-clause-sound : goal.remove_first-next-requires-clause-sound
remove_first-next-requires-clause-sound c = right_sound _ _ c.requires.sound c.requires.some _ c.index-node.ensures

pub join-requires : goal.join-requires
join-requires c = next_joinable _ _ c.requires.sound c.requires.some _ c.index-node.ensures _ _ _ (c.remove_first-next.ensures (right_sound _ _ c.requires.sound c.requires.some _ c.index-node.ensures))

pub returns : goal.returns
returns c j =
    let f = c.remove_first-next.ensures (right_sound _ _ j c.requires.some _ c.index-node.ensures) in
    top_removed _ _ j c.requires.some _ c.index-node.ensures _ _ _ f _ _ (c.join.ensures (next_joinable _ _ j c.requires.some _ c.index-node.ensures _ _ _ f))
