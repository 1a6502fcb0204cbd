use Rattle.std.proofs.Common.{◌∙◌, ap, sym, map, List, [], ◌∷◌, ◌++◌, append_assoc}
use Rattle.std.specs.Bool.{beq}
use Rattle.std.proofs.lemmas.List.{length-map, map-append}
use Rattle.overlay_geometry.specs.PointOf.{point_of}
use Rattle.overlay_geometry.specs.Points.{Pair}
use Rattle.overlay_base.specs.declared.overlay_core.link.OverlayLink.{OverlayLink}
use Rattle.overlay_build.specs.steps.EndOf.{WholeEnd, end_of, ends_of}
use Rattle.overlay_build.specs.GraphOf.{link_of}
use Rattle.overlay_build.proofs.laws.graphs.DealtEnds.{first_ends_where-taken, first_ends_where-passed, first_ends_where-all}
use Rattle.overlay_build.proofs.laws.graphs.LinkViews.{end_in_range, viewed_at, viewed_within}
use Rattle.overlay_build.proofs.build.link_ends.append_ends_where.Goals as goal
use Rattle.overlay_build.proofs.build.link_ends.append_ends_where.Goals.{then-is_vertical-are_vertical+in_ok-push, else-is_vertical-are_vertical}

pub packed-requires : goal.packed-requires
packed-requires g c = end_in_range g.L.NumberedLink.link g.L.Coordinate.OverlayInt.whole c.args.links.now _ _ c.loop-index.index c.index-links-index.result _ c.requires c.loop-index-test.true c.index-links-index.is c.end.ensures

pub loop-index-preserved : goal.loop-index-preserved
loop-index-preserved g c =
    let whole = g.L.Coordinate.OverlayInt.whole in
    let view = g.L.NumberedLink.link in
    let links = map view c.args.links.now in
    let pair : OverlayLink g.row.L-Coordinate.Denot g.row.L-Data.Denot → Pair = λ l. (link_of whole l).pair in
    let i = c.loop-index.index in
    let link = c.index-links-index.result in
    let within = viewed_within view c.args.links.now i c.loop-index-test.true in
    let here = viewed_at view c.args.links.now i link c.loop-index-test.true c.index-links-index.is in
    let test = ap (λ b. beq b c.args.are_vertical) (sym c.is_vertical.ensures) in
    let pushed : WholeEnd = record { index = i; point = point_of whole (view link).b.point } in
    let old : List WholeEnd = ends_of c.args.ends.now.items in
    elim c.if-is_vertical-are_vertical.branch [
      | then-is_vertical-are_vertical+in_ok-push w ↦ rw w.ends-is (
          ap ends_of w.in_ok-push.ensures.items
          ∙ map-append end_of c.loop-index.ends.items _
          ∙ ap (λ p. ends_of c.loop-index.ends.items ++ record { index = i; point = p } ∷ []) (w.packed.ensures ∙ ap (point_of whole) w.end.ensures)
          ∙ ap (λ (l : List WholeEnd). l ++ pushed ∷ []) c.loop-index.invariant
          ∙ append_assoc old _ (pushed ∷ [])
          ∙ ap (λ (l : List WholeEnd). old ++ l) (sym (first_ends_where-taken pair links i (view link) c.args.are_vertical within here (test ∙ w.if-is_vertical-are_vertical.true))))
      | else-is_vertical-are_vertical w ↦ rw w.ends-is (
          c.loop-index.invariant
          ∙ ap (λ (l : List WholeEnd). old ++ l) (sym (first_ends_where-passed pair links i (view link) c.args.are_vertical within here (test ∙ w.if-is_vertical-are_vertical.false))))
    ]

pub returns-clause-ends : goal.returns-clause-ends
returns-clause-ends g c =
    let whole = g.L.Coordinate.OverlayInt.whole in
    c.loop-index.invariant
    ∙ ap (λ (l : List WholeEnd). ends_of c.args.ends.now.items ++ l) (first_ends_where-all (λ (l : OverlayLink _ _). (link_of whole l).pair) (map g.L.NumberedLink.link c.args.links.now) c.loop-index.index c.args.are_vertical (rw length-map c.loop-index-test.false))
