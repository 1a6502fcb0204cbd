use Rattle.std.proofs.Common.{◌∙◌, ◌++◌, ◌∷◌, [], flat_map, take, sym, ap, List, ℕ, string_bytes}
use Rattle.std.proofs.lemmas.List.{flat_map_more, take_more}
use Rattle.overlay_build.specs.GraphOf.{link_of}
use Rattle.arrange.specs.GraphText.{link_line}
use Rattle.arrange.proofs.graph_output.write_links.Goals as goal

pub loop-link-preserved : goal.loop-link-preserved
loop-link-preserved g c =
    let whole = g.I.OverlayInt.whole in
    let links = c.args.links.now in
    let index : ℕ = c.loop-link.link-index in
    let item = c.link-item.result in
    let more = take_more links index item c.loop-link-test.true ∙ ap (λ x. take index links ++ x ∷ []) (sym c.link-item.is) in
    c.in_ok-write_link.ensures
    ∙ ap (λ (bytes : List ℕ). bytes ++ link_line (link_of whole item)) c.loop-link.invariant
    ∙ flat_map_more (λ k. link_line (link_of whole k)) (string_bytes c.args.text.now) (take index links) item
    ∙ ap (λ l. string_bytes c.args.text.now ++ flat_map (λ k. link_line (link_of whole k)) l) (sym more)
