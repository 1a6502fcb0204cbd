use Rattle.std.proofs.Common.{◌∙◌, arith, ap, sym, map, List, [], ◌∷◌, ◌++◌, append_assoc}
use Rattle.std.proofs.lemmas.List.{length-map, map-append}
use Rattle.overlay_geometry.specs.PointOf.{point_of}
use Rattle.overlay_base.specs.declared.overlay_core.link.OverlayLink.{OverlayLink}
use Rattle.overlay_build.specs.steps.EndOf.{WholeEnd, end_of, ends_of}
use Rattle.overlay_build.specs.GraphOf.{link_of}
use Rattle.overlay_build.proofs.laws.graphs.NodeLists.{numbered-all, numbered-more}
use Rattle.overlay_build.proofs.laws.graphs.LinkViews.{end_in_range, viewed_at, viewed_within}
use Rattle.overlay_build.proofs.build.link_ends.append_ends.Goals as goal

pub packed-key-requires : goal.packed-key-requires
packed-key-requires g c = end_in_range g.L.NumberedLink.link g.L.Coordinate.OverlayInt.whole c.args.links.now _ _ c.loop-index.index c.index-links-index.result _ c.requires c.loop-index-test.true c.index-links-index.is c.end.ensures

pub loop-index-preserved : goal.loop-index-preserved
loop-index-preserved g c =
    let whole = g.L.Coordinate.OverlayInt.whole in
    let view = g.L.NumberedLink.link in
    let pushed : WholeEnd = record { index = c.loop-index.index; point = point_of whole (view c.index-links-index.result).b.point } in
    record {
      ends =
          ap ends_of c.in_ok-push.ensures.items
          ∙ map-append end_of c.loop-index.ends.items _
          ∙ ap (λ p. ends_of c.loop-index.ends.items ++ record { index = c.loop-index.index; point = p } ∷ []) (c.packed-key.ensures ∙ ap (point_of whole) c.end.ensures)
          ∙ ap (λ (l : List WholeEnd). l ++ pushed ∷ []) c.loop-index.invariant.ends
          ∙ append_assoc (ends_of c.args.ends.now.items) _ (pushed ∷ [])
          ∙ ap (λ (l : List WholeEnd). ends_of c.args.ends.now.items ++ l) (sym (numbered-more (λ s. s.b) (λ (l : OverlayLink _ _). (link_of whole l).pair) (map view c.args.links.now) c.loop-index.index (view c.index-links-index.result) (viewed_within view c.args.links.now c.loop-index.index c.loop-index-test.true)
          (viewed_at view c.args.links.now c.loop-index.index c.index-links-index.result c.loop-index-test.true c.index-links-index.is)));
      few = let so_far = c.loop-index.invariant.few in grind (arith, so_far);
    }

pub returns-clause-ends : goal.returns-clause-ends
returns-clause-ends g c =
    let whole = g.L.Coordinate.OverlayInt.whole in
    c.loop-index.invariant.ends
    ∙ ap (λ (l : List WholeEnd). ends_of c.args.ends.now.items ++ l) (numbered-all (λ s. s.b) (λ (l : OverlayLink _ _). (link_of whole l).pair) (map g.L.NumberedLink.link c.args.links.now) c.loop-index.index (rw length-map c.loop-index-test.false))
