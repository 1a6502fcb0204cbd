use Rattle.std.proofs.Common.{◌≡◌, map, take, length}
use Rattle.overlay_build.specs.GraphOf.{link_of}
use Rattle.overlay_c.specs.Records.{link_by}
use Rattle.overlay_c.proofs.records.write_links.Given as goal

abbrev pub invariant-loop-index : goal.invariant-loop-index
invariant-loop-index g l =
    (length l.out ≡ length l.links) × (map link_by (take l.index l.out) ≡ map (link_of g.I.OverlayInt.whole) (take l.index l.links))
