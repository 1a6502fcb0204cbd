use Rattle.std.proofs.Common.{◌≡◌, ◌∙◌, sym, ap, subst, List, length, ◌<◌}
use Rattle.std.specs.Prelude.{IsTrue}
use Rattle.overlay_base.specs.Windings.{is_valid}
use Rattle.overlay_cuts.proofs.laws.passes.CutSteps.{All-at}
use Rattle.overlay_geometry.specs.PointOf.{point_of}
use Rattle.overlay_geometry.specs.Points.{Point, Pair}
use Rattle.overlay_cuts.specs.CutOf.{AreMarksBy}
use Rattle.overlay_cuts.specs.DataPass.{data_cut_by}
use Rattle.overlay_base.specs.HooksOf.{hooks_of}
use Rattle.overlay_base.specs.SegmentOf.{segments_of, data_segments_of, data_segment_of, winding_of, ends_of}
use Rattle.overlay_intersections.specs.MarkOf.{mark_of, marks_of, points_of, mark_points_of}
use Rattle.overlay_base.proofs.laws.joins.Views.{segments_of-bare}
use Rattle.overlay_cuts.proofs.laws.passes.Ready.{IsReady-list}
use Rattle.overlay_cuts.proofs.laws.passes.CutWalks.{IsAtMark-from, IsCutSoFar-start, path_collected, path_steps, path_is, IsCutSoFar-end, fewer_left}
use Rattle.overlay_cuts.proofs.laws.passes.Columns.{none_left}
use Rattle.overlay_cuts.proofs.laws.passes.CutLists.{path_at}
use Rattle.overlay_cuts.specs.steps.PathSteps.{IsPathOf}
use Rattle.overlay_cuts.specs.steps.DataCutAt.{data_cut_at}
use Rattle.std.proofs.lemmas.List.{length-map}
use Rattle.overlay_base.specs.EdgeData.IsMadeFrom.{no_call}
use Rattle.overlay_base.proofs.laws.joins.Stores.{made_further}
use Rattle.overlay_cuts.proofs.split.pass.cut_at.Goals as goal

pub loop-first-init : goal.loop-first-init
loop-first-init g c =
    let items = c.args.list.now.items in
    rw c.reserve_exact.ensures.items (record {
      cut = λ on are. IsCutSoFar-start on (segments_of items) (data_segments_of items) (segments_of-bare items) _ are _ c.args.store.now;
      made = no_call;
    })

pub index-requires : goal.index-requires
index-requires g c =
    let at = IsAtMark-from _ _ _ _ data_segment_of (mark_of g.I.OverlayInt.whole) (IsReady-list c.args.list.now.items _ _ c.requires.splittable _ c.requires.marks c.requires.marks.on c.requires.marks.are) c.loop-first.list.items c.loop-first.rest.now c.loop-first.store (c.loop-first.invariant.cut c.requires.marks.on c.requires.marks.are)
    c.in-Some.first.now (sym c.in-Some.ensures.value) c.index_len.result c.index_len.ensures.within c.index_len.ensures.own c.index_len.ensures.later in
    subst (λ n. c.in-Some.first.now.index < n) (sym c.loop-first.list.ok.0) at.inside

pub cut_segment-requires-clause-index : goal.cut_segment-requires-clause-index
cut_segment-requires-clause-index g c =
    let at = IsAtMark-from _ _ _ _ data_segment_of (mark_of g.I.OverlayInt.whole) (IsReady-list c.args.list.now.items _ _ c.requires.splittable _ c.requires.marks c.requires.marks.on c.requires.marks.are) c.loop-first.list.items c.loop-first.rest.now c.loop-first.store (c.loop-first.invariant.cut c.requires.marks.on c.requires.marks.are)
    c.in-Some.first.now (sym c.in-Some.ensures.value) c.index_len.result c.index_len.ensures.within c.index_len.ensures.own c.index_len.ensures.later in
    at.inside

pub cut_segment-requires-clause-valid : goal.cut_segment-requires-clause-valid
cut_segment-requires-clause-valid g c =
    let at = IsAtMark-from _ _ _ _ data_segment_of (mark_of g.I.OverlayInt.whole) (IsReady-list c.args.list.now.items _ _ c.requires.splittable _ c.requires.marks c.requires.marks.on c.requires.marks.are) c.loop-first.list.items c.loop-first.rest.now c.loop-first.store (c.loop-first.invariant.cut c.requires.marks.on c.requires.marks.are)
    c.in-Some.first.now (sym c.in-Some.ensures.value) c.index_len.result c.index_len.ensures.within c.index_len.ensures.own c.index_len.ensures.later in
    let items = c.loop-first.list.items in
    let here = at.here c.index.result.now c.index.ensures in
    All-at (λ s. IsTrue (is_valid (winding_of s))) items c.in-Some.first.now.index c.index.result.now at.inside c.index.ensures (subst (λ s. IsTrue (is_valid s.count)) (sym here) at.ready.usable.1)

pub cut_segment-requires-clause-steps : goal.cut_segment-requires-clause-steps
cut_segment-requires-clause-steps g c =
    let at = IsAtMark-from _ _ _ _ data_segment_of (mark_of g.I.OverlayInt.whole) (IsReady-list c.args.list.now.items _ _ c.requires.splittable _ c.requires.marks c.requires.marks.on c.requires.marks.are) c.loop-first.list.items c.loop-first.rest.now c.loop-first.store (c.loop-first.invariant.cut c.requires.marks.on c.requires.marks.are)
    c.in-Some.first.now (sym c.in-Some.ensures.value) c.index_len.result c.index_len.ensures.within c.index_len.ensures.own c.index_len.ensures.later in
    let whole = g.I.OverlayInt.whole in
    let f = point_of whole in
    let hooks = hooks_of g.C.WindingCount.counted g.D.OverlayEdgeData in
    let given = data_segments_of c.args.list.now.items in
    let here = at.here c.index.result.now c.index.ensures in
    let own : c.requires.marks.on at.segment.pair ≡ mark_points_of whole c.split_at.result.0.now = at.own ∙ sym (ap (mark_points_of whole) c.split_at.ensures.front) in
    let road : points_of whole c.as_slice.result.now ≡ path_at hooks c.requires.marks.on at.segment = ap (points_of whole) c.as_slice.ensures.value
    ∙ path_collected hooks c.requires.marks.on at.segment at.ready _ own (f c.x_segment-a.result.a) (f c.x_segment-a.result.b) (points_of whole c.collect_path.new.path.items)
    (ap (λ s. f s.a) c.x_segment-a.ensures ∙ ap (λ s. s.pair.a) here) (ap (λ s. f s.b) c.x_segment-a.ensures ∙ ap (λ s. s.pair.b) here) c.in_ok-collect_path.ensures in
    let some : 0 < length (mark_points_of whole c.split_at.result.0.now) = subst (λ n. 0 < n) (ap length (sym at.own ∙ own)) at.some in
    subst (λ n. 1 < n) (sym (ap length road) ∙ length-map c.as_slice.result.now f) (path_steps hooks c.requires.marks.on at.segment at.ready _ own some)

pub cut_segment-requires-clause-path : goal.cut_segment-requires-clause-path
cut_segment-requires-clause-path g c =
    let at = IsAtMark-from _ _ _ _ data_segment_of (mark_of g.I.OverlayInt.whole) (IsReady-list c.args.list.now.items _ _ c.requires.splittable _ c.requires.marks c.requires.marks.on c.requires.marks.are) c.loop-first.list.items c.loop-first.rest.now c.loop-first.store (c.loop-first.invariant.cut c.requires.marks.on c.requires.marks.are)
    c.in-Some.first.now (sym c.in-Some.ensures.value) c.index_len.result c.index_len.ensures.within c.index_len.ensures.own c.index_len.ensures.later in
    let whole = g.I.OverlayInt.whole in
    let f = point_of whole in
    let hooks = hooks_of g.C.WindingCount.counted g.D.OverlayEdgeData in
    let given = data_segments_of c.args.list.now.items in
    let here = at.here c.index.result.now c.index.ensures in
    let own : c.requires.marks.on at.segment.pair ≡ mark_points_of whole c.split_at.result.0.now = at.own ∙ sym (ap (mark_points_of whole) c.split_at.ensures.front) in
    let road : points_of whole c.as_slice.result.now ≡ path_at hooks c.requires.marks.on at.segment = ap (points_of whole) c.as_slice.ensures.value
    ∙ path_collected hooks c.requires.marks.on at.segment at.ready _ own (f c.x_segment-a.result.a) (f c.x_segment-a.result.b) (points_of whole c.collect_path.new.path.items)
    (ap (λ s. f s.a) c.x_segment-a.ensures ∙ ap (λ s. s.pair.a) here) (ap (λ s. f s.b) c.x_segment-a.ensures ∙ ap (λ s. s.pair.b) here) c.in_ok-collect_path.ensures in
    let is = subst (IsPathOf at.segment.pair) (sym road) (path_is hooks c.requires.marks.on at.segment at.ready _ own) in
    All-at (λ s. IsPathOf (ends_of s) (points_of whole c.as_slice.result.now)) c.loop-first.list.items c.in-Some.first.now.index c.index.result.now at.inside c.index.ensures
    (subst (λ s. IsPathOf s.pair (points_of whole c.as_slice.result.now)) (sym here) is)

pub loop-first-smaller : goal.loop-first-smaller
loop-first-smaller g c =
    let at = IsAtMark-from _ _ _ _ data_segment_of (mark_of g.I.OverlayInt.whole) (IsReady-list c.args.list.now.items _ _ c.requires.splittable _ c.requires.marks c.requires.marks.on c.requires.marks.are) c.loop-first.list.items c.loop-first.rest.now c.loop-first.store (c.loop-first.invariant.cut c.requires.marks.on c.requires.marks.are)
    c.in-Some.first.now (sym c.in-Some.ensures.value) c.index_len.result c.index_len.ensures.within c.index_len.ensures.own c.index_len.ensures.later in
    rw (c.split_at.ensures.back) (fewer_left (λ y. (mark_of g.I.OverlayInt.whole y).point) c.index_len.result c.loop-first.rest.now at.some)

pub loop-first-preserved : goal.loop-first-preserved
loop-first-preserved g c =
    let whole = g.I.OverlayInt.whole in
    let f = point_of whole in
    let hooks = hooks_of g.C.WindingCount.counted g.D.OverlayEdgeData in
    let index = c.in-Some.first.now.index in
    let path = points_of whole c.as_slice.result.now in
    let put : (data_segments_of c.cut_segment.new.list.items, c.cut_segment.new.store) ≡ data_cut_at hooks index path (data_segments_of c.loop-first.list.items) c.loop-first.store =
    λ i. (c.in_ok-cut_segment.ensures.segments i, c.in_ok-cut_segment.ensures.store i) in
    record {
      cut = rw (c.split_at.ensures.back) (λ on are.
          let at = IsAtMark-from _ _ _ _ data_segment_of (mark_of whole) (IsReady-list c.args.list.now.items _ _ c.requires.splittable _ c.requires.marks on are) c.loop-first.list.items c.loop-first.rest.now c.loop-first.store (c.loop-first.invariant.cut on are)
          c.in-Some.first.now (sym c.in-Some.ensures.value) c.index_len.result c.index_len.ensures.within c.index_len.ensures.own c.index_len.ensures.later in
          let here = at.here c.index.result.now c.index.ensures in
          let own : on at.segment.pair ≡ mark_points_of whole c.split_at.result.0.now = at.own ∙ sym (ap (mark_points_of whole) c.split_at.ensures.front) in
          let road : path ≡ path_at hooks on at.segment = ap (points_of whole) c.as_slice.ensures.value
          ∙ path_collected hooks on at.segment at.ready _ own (f c.x_segment-a.result.a) (f c.x_segment-a.result.b) (points_of whole c.collect_path.new.path.items)
          (ap (λ s. f s.a) c.x_segment-a.ensures ∙ ap (λ s. s.pair.a) here) (ap (λ s. f s.b) c.x_segment-a.ensures ∙ ap (λ s. s.pair.b) here) c.in_ok-collect_path.ensures in
          at.next c.cut_segment.new.list.items c.cut_segment.new.store (put ∙ ap (λ l. data_cut_at hooks index l (data_segments_of c.loop-first.list.items) c.loop-first.store) road));
      made = made_further hooks c.loop-first.invariant.made c.in_ok-cut_segment.ensures.store_made;
    }

-- where no mark is left the list is cut
done : (g : _) (c : goal.In_default g) (on : Pair → List Point) → AreMarksBy on (segments_of c.args.list.now.items) (marks_of g.I.OverlayInt.whole c.args.marks.now) →
    (data_segments_of c.loop-first.list.items, c.loop-first.store) ≡ data_cut_by (hooks_of g.C.WindingCount.counted g.D.OverlayEdgeData) on (data_segments_of c.args.list.now.items) c.args.store.now
done g c on are =
    let hooks = hooks_of g.C.WindingCount.counted g.D.OverlayEdgeData in
    let items = c.args.list.now.items in
    let none = ap (marks_of g.I.OverlayInt.whole) (none_left c.loop-first.rest.now (sym c.in_default.ensures.value)) in
    IsCutSoFar-end hooks on (data_segments_of items) c.args.store.now (IsReady-list items _ _ c.requires.splittable _ c.requires.marks on are) _ none _ _ (c.loop-first.invariant.cut on are)

pub returns-clause-edge_data : goal.returns-clause-edge_data
returns-clause-edge_data g c = λ on are. ap (λ v. v.0) (done g c on are)

pub returns-clause-store : goal.returns-clause-store
returns-clause-store g c = λ on are. ap (λ v. v.1) (done g c on are)

pub returns-in_err-reserve_exact-clause-store_made : goal.returns-in_err-reserve_exact-clause-store_made
returns-in_err-reserve_exact-clause-store_made g c = no_call

pub returns-in_err-collect_path-clause-store_made : goal.returns-in_err-collect_path-clause-store_made
returns-in_err-collect_path-clause-store_made g c = c.loop-first.invariant.made

pub returns-in_err-cut_segment-clause-store_made : goal.returns-in_err-cut_segment-clause-store_made
returns-in_err-cut_segment-clause-store_made g c =
    made_further (hooks_of g.C.WindingCount.counted g.D.OverlayEdgeData) c.loop-first.invariant.made c.in_err-cut_segment.ensures.store_made

pub returns-clause-store_made : goal.returns-clause-store_made
returns-clause-store_made g c = c.loop-first.invariant.made
