use Rattle.std.proofs.Common.{◌≡◌, ◌∙◌, ap, sym, refl, map, filter, drop, List, [], ◌∷◌, ◌++◌, ◌+◌, true, false}
use Rattle.std.proofs.lemmas.List.{drop_all, map-append}
use Rattle.overlay_geometry.specs.PointOf.{point_of}
use Rattle.overlay_base.specs.SegmentOf.{segment_of, data_segment_of, edge_data_of}
use Rattle.overlay_geometry.specs.declared.geom.id_point.IdPoint.{IdPoint}
use Rattle.overlay_geometry.specs.declared.geom.x_segment.XSegment.{XSegment}
use Rattle.overlay_base.specs.declared.overlay_core.link.OverlayLink.{OverlayLink}
use Rattle.overlay_build.specs.Graph.{Filled}
use Rattle.overlay_build.specs.GraphOf.{kept_of, link_of}
use Rattle.overlay_build.specs.Graph.{without_nodes}
use Rattle.overlay_build.specs.steps.LinkRules.{keeps_by}
use Rattle.overlay_build.proofs.laws.graphs.NodeLists.{rest-next}
use Rattle.overlay_build.proofs.laws.graphs.KeptLinks.{kept_more, kept_skip, kept_over, fill_in, filled_in, fill_at, kept_are_filled, kept_data}
use Rattle.std.proofs.lemmas.Result.{IfOk-from_err}
use Rattle.overlay_build.proofs.build.kept_links.collect_links.Goals as goal
use Rattle.overlay_build.proofs.build.kept_links.collect_links.Goals.{then-is_kept+in_ok-push, else-is_kept}

pub loop-index-preserved : goal.loop-index-preserved
loop-index-preserved g c = λ fill_rule e.
    let whole = g.I.OverlayInt.whole in
    let keeps = keeps_by c.args.rule in
    let fill = fill_at segment_of data_segment_of (λ x. refl) keeps fill_rule c.args.segments.now c.args.fills.now c.loop-index.index c.index-segments-index.result 0 e c.loop-index-test.true c.index-segments-index.is in
    let rest = rest-next c.args.segments.now c.loop-index.index c.index-segments-index.result c.loop-index-test.true c.index-segments-index.is in
    let inv = c.loop-index.invariant fill_rule e in
    let later = filter (λ s. keeps (fill_in segment_of data_segment_of (λ x. refl) keeps fill_rule c.args.segments.now s)) (drop (c.loop-index.index + 1) c.args.segments.now) in
    elim c.if-is_kept.branch [
      | then-is_kept+in_ok-push w ↦
          let kept : keeps (fill_in segment_of data_segment_of (λ x. refl) keeps fill_rule c.args.segments.now c.index-segments-index.result) ≡ true = ap keeps (sym fill) ∙ sym c.is_kept.ensures ∙ w.if-is_kept.true in
          let a = ap (λ (p : IdPoint g.row.I.Denot). point_of whole p.point) w.new_with_data.ensures.a ∙ ap (point_of whole) w.new-a.ensures.point ∙ ap (λ (s : XSegment g.row.I.Denot). point_of whole s.a) w.x_segment-ends.ensures in
          let b = ap (λ (p : IdPoint g.row.I.Denot). point_of whole p.point) w.new_with_data.ensures.b ∙ ap (point_of whole) w.new-b.ensures.point ∙ ap (λ (s : XSegment g.row.I.Denot). point_of whole s.b) w.x_segment-ends.ensures in
          let f = w.new_with_data.ensures.fill ∙ fill in
          let made : without_nodes (link_of whole w.new_with_data.result) ≡ filled_in segment_of data_segment_of (λ x. refl) keeps fill_rule c.args.segments.now c.index-segments-index.result = λ i. record { pair = record { a = a i; b = b i }; fill = f i } in
          rw w.links-is (
            ap (λ (l : List Filled). l ++ map (filled_in segment_of data_segment_of (λ x. refl) keeps fill_rule c.args.segments.now) later) (ap (kept_of whole) w.in_ok-push.ensures.items ∙ map-append (λ (l : OverlayLink g.row.I.Denot g.row.D.Denot). without_nodes (link_of whole l)) c.loop-index.links.items (w.new_with_data.result ∷ []) ∙ ap (λ (v : Filled). kept_of whole c.loop-index.links.items ++ v ∷ []) made)
                ∙ kept_more _ _ _ _ _ _ c.index-segments-index.result rest kept inv.0,
            ap (λ (l : List g.row.D.Denot). l ++ map edge_data_of later) (ap (map (λ (l : OverlayLink g.row.I.Denot g.row.D.Denot). l.edge_data)) w.in_ok-push.ensures.items ∙ map-append (λ (l : OverlayLink g.row.I.Denot g.row.D.Denot). l.edge_data) c.loop-index.links.items (w.new_with_data.result ∷ []) ∙ ap (λ (v : g.row.D.Denot). map (λ (l : OverlayLink g.row.I.Denot g.row.D.Denot). l.edge_data) c.loop-index.links.items ++ v ∷ []) (w.new_with_data.ensures.edge_data ∙ w.edge_data.ensures))
                ∙ kept_more _ _ _ _ _ _ c.index-segments-index.result rest kept inv.1,
          )
      | else-is_kept w ↦
          let dropped : keeps (fill_in segment_of data_segment_of (λ x. refl) keeps fill_rule c.args.segments.now c.index-segments-index.result) ≡ false = ap keeps (sym fill) ∙ sym c.is_kept.ensures ∙ w.if-is_kept.false in
          rw w.links-is (kept_skip _ _ _ _ _ _ c.index-segments-index.result rest dropped inv.0, kept_skip _ _ _ _ _ _ c.index-segments-index.result rest dropped inv.1)
    ]

pub returns-clause-kept : goal.returns-clause-kept
returns-clause-kept g c = λ fill_rule e.
    kept_over _ _ _ _ _ (drop_all c.loop-index.index c.args.segments.now c.loop-index-test.false) (c.loop-index.invariant fill_rule e).0
    ∙ kept_are_filled segment_of data_segment_of (λ x. refl) (keeps_by c.args.rule) fill_rule c.args.segments.now

pub returns-clause-data : goal.returns-clause-data
returns-clause-data g c = λ fill_rule e.
    kept_over _ _ _ _ _ (drop_all c.loop-index.index c.args.segments.now c.loop-index-test.false) (c.loop-index.invariant fill_rule e).1
    ∙ kept_data segment_of data_segment_of (λ x. refl) (keeps_by c.args.rule) fill_rule c.args.segments.now

pub returns-in_err-reserve-clause-kept : goal.returns-in_err-reserve-clause-kept
returns-in_err-reserve-clause-kept g c = IfOk-from_err c.from_residual.result _ c.from_residual.ensures.0

pub returns-in_err-reserve-clause-data : goal.returns-in_err-reserve-clause-data
returns-in_err-reserve-clause-data g c = IfOk-from_err c.from_residual.result _ c.from_residual.ensures.0

pub returns-in_err-push-clause-kept : goal.returns-in_err-push-clause-kept
returns-in_err-push-clause-kept g c = IfOk-from_err c.from_residual-in_err-push.result _ c.from_residual-in_err-push.ensures.0

pub returns-in_err-push-clause-data : goal.returns-in_err-push-clause-data
returns-in_err-push-clause-data g c = IfOk-from_err c.from_residual-in_err-push.result _ c.from_residual-in_err-push.ensures.0

pub bounds-segments-index : goal.bounds-segments-index
bounds-segments-index g c = c.loop-index-test.true

pub bounds-fills-index : goal.bounds-fills-index
bounds-fills-index g c = rw c.requires c.loop-index-test.true
