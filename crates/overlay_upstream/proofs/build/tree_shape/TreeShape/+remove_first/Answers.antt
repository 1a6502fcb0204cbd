use Rattle.std.proofs.Common.{arith}
use Rattle.overlay_upstream.proofs.laws.tree.TreeRemovals.{sound_within, left_sound, first_is_top, first_joinable, first_removed, left_height_less}
use Rattle.overlay_upstream.proofs.build.tree_shape.TreeShape.+remove_first.Goals as goal

pub index-node-requires : goal.index-node-requires
index-node-requires t c = rw c.args.self.now.nodes.ok.0 (sound_within _ _ c.requires.sound c.requires.some)

pub returns-then-node : goal.returns-then-node
returns-then-node t c j = first_is_top _ _ j c.requires.some _ c.index-node.ensures c.if-node.true

pub remove_first-first-requires : goal.remove_first-first-requires
remove_first-first-requires t c = (omega (arith, left_height_less _ _ c.requires.sound c.requires.some _ c.index-node.ensures, c.decreases), (left_sound _ _ c.requires.sound c.requires.some _ c.index-node.ensures, c.if-node.false))

pub join-requires : goal.join-requires
join-requires t c = first_joinable _ _ c.requires.sound c.requires.some _ c.index-node.ensures _ _ _ (c.remove_first-first.ensures (left_sound _ _ c.requires.sound c.requires.some _ c.index-node.ensures))

pub returns : goal.returns
returns t c j =
    let f = c.remove_first-first.ensures (left_sound _ _ j c.requires.some _ c.index-node.ensures) in
    first_removed _ _ j c.requires.some _ c.index-node.ensures _ _ _ f _ _ (c.join.ensures (first_joinable _ _ j c.requires.some _ c.index-node.ensures _ _ _ f))
