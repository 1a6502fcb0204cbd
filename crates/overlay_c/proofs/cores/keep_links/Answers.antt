use Rattle.std.proofs.Common.{◌∙◌, ◌++◌, ◌∷◌, [], ap, ap₂, sym, map, List}
use Rattle.std.proofs.lemmas.List.{map-append}
use Rattle.overlay_build.specs.Graph.{Link}
use Rattle.overlay_build.specs.GraphOf.{link_of}
use Rattle.overlay_build.proofs.laws.graphs.NodeLists.{map-take_next}
use Rattle.overlay_c.proofs.cores.keep_links.Goals as goal

pub loop-each-preserved : goal.loop-each-preserved
loop-each-preserved g c =
    ap (λ links. map (link_of g.I.OverlayInt.whole) links) c.in_ok-push.ensures.items
    ∙ map-append (link_of g.I.OverlayInt.whole) c.loop-each.kept.items (c.bare.result ∷ [])
    ∙ ap₂ (λ (xs : List Link) (l : Link). xs ++ l ∷ []) c.loop-each.invariant c.bare.ensures
    ∙ sym (map-take_next (link_of g.I.OverlayInt.whole) c.args.links.now c.loop-each.each-index c.each-item.result c.loop-each-test.true c.each-item.is)
