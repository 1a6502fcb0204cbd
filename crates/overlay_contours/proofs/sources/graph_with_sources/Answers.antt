use Rattle.std.proofs.Common.{◌≡◌, refl, subst, ℕ, Bool, true, List, map}
use Rattle.std.specs.Prelude.{All}
use Rattle.std.specs.List.{AllByRecursion}
use Rattle.std.proofs.lemmas.Bool.{or_left}
use Rattle.std.proofs.lemmas.List.Elements.{All-from_recursion}
use Rattle.std.proofs.lemmas.Result.{IfErr-weaker}
use Rattle.overlay_geometry.specs.Points.{Point, Pair}
use Rattle.overlay_base.specs.Rules.{holds, keeps_fill}
use Rattle.overlay_base.specs.Segments.{WholeSegment}
use Rattle.overlay_base.specs.SegmentOf.{segment_of, segments_of, data_segments_of}
use Rattle.overlay_base.specs.declared.segm.fault.Fault.{Fault}
use Rattle.overlay_base.specs.declared.segm.fault.Fault.TheVariants.{CountOutOfRange}
use Rattle.overlay_base.proofs.laws.joins.Views.{segments_of-bare}
use Rattle.overlay_snapping.specs.SnapOf.{reach_of_snap}
use Rattle.overlay_sweep.specs.ChainWindings.{tops_leave_range}
use Rattle.overlay_build.specs.Graph.{graph_by, data_by}
use Rattle.overlay_build.specs.GraphOf.{link_of, HoldGraph}
use Rattle.overlay_build.specs.NodeIndexes.{indexes_of, is_canonical_node}
use Rattle.overlay_build.proofs.laws.graphs.BuiltGraphs.{graph_with_kept, polygons_from}
use Rattle.overlay_contours.specs.ContoursOf.{contours_of}
use Rattle.overlay_contours.specs.Refusals.{IsReason}
use Rattle.overlay_contours.specs.Sources.{LiesNearSource}
use Rattle.overlay_contours.specs.Splittings.{by_snapping, IsArrangement}
use Rattle.overlay_contours.specs.declared.sources.SourceEdge.{SourceEdge}
use Rattle.overlay_contours.specs.steps.SourceGraphs.{IsSourceGraph}
use Rattle.overlay_contours.proofs.laws.NamedLinks.{held_of_links, IfOk-both}
use Rattle.overlay_contours.proofs.laws.Overlays.{sides_of, refused_as}
use Rattle.overlay_contours.proofs.laws.Sources.{names_one, names, all_name_one, all_lie_on_named, near_sources}
use Rattle.overlay_contours.proofs.laws.Splittings.{left_by_snapping, too_large_on_way, too_large_above}
use Rattle.overlay_contours.proofs.sources.graph_with_sources.Goals as goal

pub returns-in_err-split_segments-clause-refused : goal.returns-in_err-split_segments-clause-refused
returns-in_err-split_segments-clause-refused g c =
    let whole = g.I.OverlayInt.whole in
    let subject : List (List Point) = contours_of whole c.args.subject.now in
    let clip : List (List Point) = contours_of whole c.args.clip.now in
    let fault : Fault = c.in_err-split_segments.field-0.0 in
    refused_as c.from_residual-in_err-split_segments.result (IsReason by_snapping subject clip) fault c.from_residual-in_err-split_segments.ensures.1
    (too_large_on_way by_snapping subject clip (segments_of c.in_ok-sides.sides.items) fault c.in_ok-sides.ensures.segments c.in_err-split_segments.ensures.refused)

pub returns-clause-refused : goal.returns-clause-refused
returns-clause-refused g c =
    let I = g.I.OverlayInt in
    let whole = I.whole in
    let subject : List (List Point) = contours_of whole c.args.subject.now in
    let clip : List (List Point) = contours_of whole c.args.clip.now in
    let given : List WholeSegment = segments_of c.in_ok-sides.sides.items in
    let segments : List WholeSegment = segments_of c.split_segments.new.list.items in
    let halves : ℕ = reach_of_snap given in
    let e = c.in_ok-split_segments.ensures in
    let made = left_by_snapping given segments halves (I.whole I.MIN_COORD) (I.whole I.MAX_COORD) e.snapped e.arranged e.balance e.near e.winding refl in
    let a = subst (λ (l : List WholeSegment). IsArrangement by_snapping l segments 1 halves) c.in_ok-sides.ensures.segments made in
    IfErr-weaker c.build_boolean_overlay.result (λ fault. fault ≡ CountOutOfRange → tops_leave_range segments ≡ true) (IsReason by_snapping subject clip)
    (λ fault large. too_large_above by_snapping subject clip segments 1 halves fault a.left large)
    (rw c.deref.ensures.value at c.build_boolean_overlay.ensures.out_of_range)

pub returns-clause-graph : goal.returns-clause-graph
returns-clause-graph g c =
    let I = g.I.OverlayInt in
    let whole = I.whole in
    let subject : List (List Point) = contours_of whole c.args.subject.now in
    let clip : List (List Point) = contours_of whole c.args.clip.now in
    let given = c.in_ok-sides.sides.items in
    let items = c.split_segments.new.list.items in
    let segments : List WholeSegment = segments_of items in
    let halves : ℕ = reach_of_snap (segments_of given) in
    let e = c.in_ok-split_segments.ensures in
    let rule = c.args.overlay_rule in
    let keeps : ℕ → Bool = keeps_fill (holds rule) in
    let fill_rule = c.args.fill_rule in
    let given_is = c.in_ok-sides.ensures.segments in
    let made = left_by_snapping (segments_of given) segments halves (I.whole I.MIN_COORD) (I.whole I.MAX_COORD) e.snapped e.arranged e.balance e.near e.winding refl in
    let near : AllByRecursion (λ r. LiesNearSource halves subject clip r.pair r.edge_data) (data_segments_of items) =
    near_sources subject clip halves (data_segments_of items)
    (e.kept_data (names_one subject clip) (record { reversed = λ d store h. h; split = λ call store h. (h, h); merge = λ call store h k. h }) (all_name_one subject clip (data_segments_of given) c.in_ok-sides.ensures.sources))
    (e.named_data (names subject clip) (record { reversed = λ d store s h. h; split_first = λ call store s h. h; split_rest = λ call store s h. h; merge = λ call store s h. or_left _ _ h }) (all_lie_on_named subject clip (data_segments_of given) c.in_ok-sides.ensures.sources)) in
    IfOk-both {P = λ built. HoldGraph indexes_of is_canonical_node whole built.nodes.now built.links.now (graph_by keeps fill_rule segments)}
    {Q = λ built. map (λ l. l.edge_data) built.links.now ≡ data_by keeps fill_rule (data_segments_of items)}
    {R = λ built. IsSourceGraph rule fill_rule subject clip built}
    c.build_boolean_overlay.result
    (λ built held carried.
    let same = graph_with_kept indexes_of is_canonical_node whole built.nodes.now built.links.now keeps fill_rule segments held in
    record {
      segments = segments;
      arrangement = subst (λ (l : List WholeSegment). IsArrangement by_snapping l segments 1 (reach_of_snap l)) given_is made;
      arranged = e.arranged;
      polygons = polygons_from segment_of (λ s. refl) items;
      graph_is = same;
      sides = sides_of whole by_snapping fill_rule (holds rule) (segments_of given) segments 1 halves built.links.now made c.in_ok-sides.ensures.balanced same (rw c.deref.ensures.value at c.build_boolean_overlay.ensures.balanced);
      near =
          subst (λ (l : List WholeSegment). All (λ k. LiesNearSource (reach_of_snap l) subject clip (link_of whole k).pair k.edge_data) built.links.now) given_is
          (All-from_recursion (λ k. LiesNearSource halves subject clip (link_of whole k).pair k.edge_data) built.links.now
          (held_of_links indexes_of is_canonical_node whole built.nodes.now built.links.now keeps fill_rule (λ (p : Pair) (d : SourceEdge). LiesNearSource halves subject clip p d) (data_segments_of items) near (rw (← segments_of-bare items) held) carried));
    })
    (rw c.deref.ensures.value at c.build_boolean_overlay.ensures.graph)
    (rw c.deref.ensures.value at c.build_boolean_overlay.ensures.edge_data)
