use Rattle.std.proofs.Common.{refl}
use Rattle.std.proofs.lemmas.Bool.{eq-eqb, ne_eqb}
use Rattle.overlay_base.proofs.overlay_core.link.OverlayLink.other.Goals as goal

pub returns-then-self-node_id : goal.returns-then-self-node_id
returns-then-self-node_id g c = rw (eq-eqb c.args.self.now.a.id c.args.node_id c.if-self-node_id.true) refl

pub returns-else-self-node_id : goal.returns-else-self-node_id
returns-else-self-node_id g c = rw (ne_eqb c.args.self.now.a.id c.args.node_id c.if-self-node_id.false) refl
