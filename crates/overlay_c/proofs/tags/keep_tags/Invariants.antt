use Rattle.std.proofs.Common.{◌≡◌, map, take}
use Rattle.overlay_c.proofs.tags.keep_tags.Given as goal

abbrev pub invariant-loop-link : goal.invariant-loop-link
invariant-loop-link g l = l.kept.items ≡ map (λ k. k.edge_data) (take l.link-index l.links)
