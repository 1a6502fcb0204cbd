use Rattle.std.proofs.Common.{map}
use Rattle.overlay_build.specs.steps.LinksOf.{starts_of}
use Rattle.overlay_build.proofs.laws.graphs.LinkViews.{length-viewed_starts, start_in_range, viewed_start}
use Rattle.overlay_build.proofs.laws.graphs.StartKeys.{key-there, key-none}
use Rattle.overlay_build.proofs.build.link_ends.links_left.Goals as goal

pub packed-requires : goal.packed-requires
packed-requires g c = start_in_range g.L.NumberedLink.link g.L.Coordinate.OverlayInt.whole c.args.links.now _ _ c.args.from c.index-links-from.result _ c.requires c.if-from-links.false c.index-links-from.is c.start.ensures

pub returns-then-from-links-clause-key : goal.returns-then-from-links-clause-key
returns-then-from-links-clause-key g c =
    let whole = g.L.Coordinate.OverlayInt.whole in
    let view = g.L.NumberedLink.link in
    key-none (starts_of whole (map view c.args.links.now)) c.args.from (rw (length-viewed_starts view whole c.args.links.now) c.if-from-links.true)

pub returns-clause-key : goal.returns-clause-key
returns-clause-key g c =
    let whole = g.L.Coordinate.OverlayInt.whole in
    let view = g.L.NumberedLink.link in
    key-there (starts_of whole (map view c.args.links.now)) c.args.from _ (rw (length-viewed_starts view whole c.args.links.now) c.if-from-links.false)
    (λ d. viewed_start view whole c.args.links.now c.args.from c.index-links-from.result _ _ d c.if-from-links.false c.index-links-from.is c.start.ensures c.packed.ensures)
