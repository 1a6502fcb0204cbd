use Rattle.std.proofs.Common.{◌≡◌, map, take}
use Rattle.overlay_build.specs.GraphOf.{link_of}
use Rattle.overlay_c.proofs.cores.keep_links.Given as goal

abbrev pub invariant-loop-each : goal.invariant-loop-each
invariant-loop-each g l = map (link_of g.I.OverlayInt.whole) l.kept.items ≡ map (link_of g.I.OverlayInt.whole) (take l.each-index l.links)
