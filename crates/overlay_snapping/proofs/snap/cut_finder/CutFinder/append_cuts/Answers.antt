use Rattle.std.proofs.Common.{◌∙◌, refl, sym, subst, List, [], map, append-nil, arith}
use Rattle.std.specs.Vec.{vec_len}
use Rattle.std.proofs.lemmas.List.{length-map, nil_from_length}
use Rattle.std.proofs.lemmas.Bool.{eqb-true}
use Rattle.overlay_geometry.specs.Points.{Point, Pair}
use Rattle.overlay_geometry.specs.PointOf.{point_of}
use Rattle.overlay_geometry.specs.PairOf.{pair_of}
use Rattle.overlay_base.specs.SegmentOf.{segment_of, segments_of}
use Rattle.overlay_geometry.specs.declared.geom.point.IntPoint.{IntPoint}
use Rattle.overlay_base.specs.Segments.{pairs}
use Rattle.overlay_snapping.specs.steps.Recorded.{AreRecorded}
use Rattle.overlay_snapping.specs.HotOf.{AreHotPoints}
use Rattle.overlay_base.proofs.laws.joins.Maps.{are_ordered-map}
use Rattle.overlay_snapping.specs.PointFinderOf.{points_in}
use Rattle.overlay_snapping.specs.steps.Cutting.{points_along}
use Rattle.overlay_snapping.specs.steps.Met.{AddsAllMet}
use Rattle.overlay_snapping.proofs.laws.chains.MarkLists.{pair_at}
use Rattle.overlay_snapping.proofs.laws.cuts.Between.{cut_at, are_between, none_between, cuts_at, added_more, added_all}
use Rattle.overlay_snapping.proofs.laws.cuts.Ranges.{own_in_range}
use Rattle.overlay_snapping.proofs.laws.cuts.Reads.{segment_pair, segment_there}
use Rattle.overlay_snapping.proofs.laws.cells.Recorded.{nothing_recorded}
use Rattle.overlay_snapping.proofs.snap.cut_finder.CutFinder.append_cuts.Goals as goal

pub collect_along-requires-clause-in_range : goal.collect_along-requires-clause-in_range
collect_along-requires-clause-in_range g c = rw (c.x_segment-segment.ensures, c.index-segments-index.is) (c.requires.in_range c.args.index c.index-segments-index.result c.requires.index)

pub collect_along-requires-clause-own : goal.collect_along-requires-clause-own
collect_along-requires-clause-own g c = own_in_range c.args.segments.now c.requires.in_range c.args.index c.args.own.now c.requires.index c.requires.own

pub loop-point-init : goal.loop-point-init
loop-point-init g c = sym (append-nil c.args.cuts.now.items)

pub loop-point-preserved : goal.loop-point-preserved
loop-point-preserved g c =
    added_more c.args.index c.args.cuts.now.items c.loop-point.cuts.items c.push.new.self.items c.deref-point-items.result.now c.loop-point.point-index c.point-item.result c.loop-point-test.true c.point-item.is
    c.in_ok-push.ensures.items c.loop-point.invariant

pub returns-clause-cuts : goal.returns-clause-cuts
returns-clause-cuts g c =
    let whole = g.I.OverlayInt.whole in
    let xs = c.args.segments.now in
    let index = c.args.index in
    let kept = c.dedup.new.self.items in
    let listed = c.append_hot.new.between.items in
    let points = points_in c.args.self.now.hot in
    let own = c.args.own.now in
    let long = length-map xs (λ s. segment_of s) in
    let within = c.requires.index in
    let order = simp g.met.I.OverlayInt.ordered at c.in_ok-sort.ensures.sorted in (
      map (cut_at index) kept,
      added_all index c.args.cuts.now.items c.loop-point.cuts.items c.deref-point-items.result.now kept c.loop-point.point-index c.deref-point-items.ensures.value c.loop-point-test.false c.loop-point.invariant,
      cuts_at xs index kept (λ d.
          are_between g.I.PartialEq.eq g.I.Ord.cmp whole g.met.I.Ord.matches_eq g.met.I.OverlayInt.ordered g.met.I.OverlayInt.injective (segments_of xs) (are_ordered-map (segments_of xs) c.requires.map) points
          c.requires.known.hot c.requires.known.decided _ (pair_at (segments_of xs) index d (omega (arith, within, long))) own (c.requires.own d) listed c.sort.new.self.items kept
          (subst (λ (s : Pair). AddsAllMet s points (points_along whole s own) (map (point_of whole) listed))
          (sym (segment_pair xs index c.index-segments-index.result c.x_segment-segment.result within c.index-segments-index.is c.x_segment-segment.ensures d))
          (subst (λ (l : List Point). AddsAllMet (pair_of whole c.x_segment-segment.result) points l (map (point_of whole) listed)) c.in_ok-collect_along.ensures c.in_ok-append_hot.ensures.met))
          c.in_ok-sort.ensures.permutation order c.dedup.ensures.filtered),
    )

pub returns-then-is_empty-clause-cuts : goal.returns-then-is_empty-clause-cuts
returns-then-is_empty-clause-cuts g c =
    let whole = g.I.OverlayInt.whole in
    let xs = c.args.segments.now in
    let index = c.args.index in
    let listed = c.append_hot.new.between.items in
    let points = points_in c.args.self.now.hot in
    let own = c.args.own.now in
    let long = length-map xs (λ s. segment_of s) in
    let within = c.requires.index in (
      [],
      sym (append-nil c.args.cuts.now.items),
      cuts_at xs index [] (λ d.
          none_between g.I.PartialEq.eq g.I.Ord.cmp whole g.met.I.Ord.matches_eq g.met.I.OverlayInt.ordered g.met.I.OverlayInt.injective (segments_of xs) (are_ordered-map (segments_of xs) c.requires.map) points
          c.requires.known.hot c.requires.known.decided _ (pair_at (segments_of xs) index d (omega (arith, within, long))) own (c.requires.own d) listed
          (subst (λ (s : Pair). AddsAllMet s points (points_along whole s own) (map (point_of whole) listed))
          (sym (segment_pair xs index c.index-segments-index.result c.x_segment-segment.result within c.index-segments-index.is c.x_segment-segment.ensures d))
          (subst (λ (l : List Point). AddsAllMet (pair_of whole c.x_segment-segment.result) points l (map (point_of whole) listed)) c.in_ok-collect_along.ensures c.in_ok-append_hot.ensures.met))
          (nil_from_length listed (sym c.append_hot.new.between.ok.0 ∙ eqb-true (vec_len c.append_hot.new.between) 0 (sym c.is_empty.ensures ∙ c.if-is_empty.true)))),
    )

pub returns-then-is_empty-clause-known : goal.returns-then-is_empty-clause-known
returns-then-is_empty-clause-known g c = record {
  hot = subst (λ (l : List (IntPoint _)). AreHotPoints (pairs (segments_of c.args.segments.now)) (map (point_of g.I.OverlayInt.whole) l)) (sym c.append_hot.ensures.same) c.requires.known.hot;
  decided = c.requires.known.decided;
  recorded = subst (λ (l : List (IntPoint _)). AreRecorded (pairs (segments_of c.args.segments.now)) (map (point_of g.I.OverlayInt.whole) l) c.args.self.now.closure.meetings) (sym c.append_hot.ensures.same) c.requires.known.recorded;
}

pub returns-in_err-sort-clause-known : goal.returns-in_err-sort-clause-known
returns-in_err-sort-clause-known g c = record {
  hot = subst (λ (l : List (IntPoint _)). AreHotPoints (pairs (segments_of c.args.segments.now)) (map (point_of g.I.OverlayInt.whole) l)) (sym c.append_hot.ensures.same) c.requires.known.hot;
  decided = c.requires.known.decided;
  recorded = subst (λ (l : List (IntPoint _)). AreRecorded (pairs (segments_of c.args.segments.now)) (map (point_of g.I.OverlayInt.whole) l) c.args.self.now.closure.meetings) (sym c.append_hot.ensures.same) c.requires.known.recorded;
}

pub returns-in_err-push-clause-known : goal.returns-in_err-push-clause-known
returns-in_err-push-clause-known g c = record {
  hot = subst (λ (l : List (IntPoint _)). AreHotPoints (pairs (segments_of c.args.segments.now)) (map (point_of g.I.OverlayInt.whole) l)) (sym c.append_hot.ensures.same) c.requires.known.hot;
  decided = c.requires.known.decided;
  recorded = subst (λ (l : List (IntPoint _)). AreRecorded (pairs (segments_of c.args.segments.now)) (map (point_of g.I.OverlayInt.whole) l) c.args.self.now.closure.meetings) (sym c.append_hot.ensures.same) c.requires.known.recorded;
}

pub returns-clause-known : goal.returns-clause-known
returns-clause-known g c = record {
  hot = subst (λ (l : List (IntPoint _)). AreHotPoints (pairs (segments_of c.args.segments.now)) (map (point_of g.I.OverlayInt.whole) l)) (sym c.append_hot.ensures.same) c.requires.known.hot;
  decided = c.requires.known.decided;
  recorded = subst (λ (l : List (IntPoint _)). AreRecorded (pairs (segments_of c.args.segments.now)) (map (point_of g.I.OverlayInt.whole) l) c.args.self.now.closure.meetings) (sym c.append_hot.ensures.same) c.requires.known.recorded;
}

pub returns-in_err-append_hot-clause-known : goal.returns-in_err-append_hot-clause-known
returns-in_err-append_hot-clause-known g c = record {
  hot = subst (λ (l : List (IntPoint _)). AreHotPoints (pairs (segments_of c.args.segments.now)) (map (point_of g.I.OverlayInt.whole) l)) (sym c.append_hot.ensures.same) c.requires.known.hot;
  decided = c.requires.known.decided;
  recorded = subst (λ (l : List (IntPoint _)). AreRecorded (pairs (segments_of c.args.segments.now)) (map (point_of g.I.OverlayInt.whole) l) c.args.self.now.closure.meetings) (sym c.append_hot.ensures.same) c.requires.known.recorded;
}

pub append_hot-requires-clause-in_range : goal.append_hot-requires-clause-in_range
append_hot-requires-clause-in_range g c = rw (c.x_segment-segment.ensures, c.index-segments-index.is) (c.requires.in_range c.args.index c.index-segments-index.result c.requires.index)

pub returns-then-is_untouched-clause-cuts : goal.returns-then-is_untouched-clause-cuts
returns-then-is_untouched-clause-cuts g c =
    let whole = g.I.OverlayInt.whole in
    let xs = c.args.segments.now in
    let index = c.args.index in
    let points = points_in c.args.self.now.hot in
    let own = c.args.own.now in
    let long = length-map xs (λ s. segment_of s) in
    let within = c.requires.index in
    let none = c.is_untouched.ensures c.if-is_untouched.true in
    let there = segment_there xs index c.index-segments-index.result c.x_segment-segment.result within c.index-segments-index.is c.x_segment-segment.ensures in
    let met = nothing_recorded whole (pair_of whole c.x_segment-segment.result) points own none.0 (c.requires.known.recorded index (pair_of whole c.x_segment-segment.result) there [] none.1) in (
      [],
      sym (append-nil c.args.cuts.now.items),
      cuts_at xs index [] (λ d.
          none_between g.I.PartialEq.eq g.I.Ord.cmp whole g.met.I.Ord.matches_eq g.met.I.OverlayInt.ordered g.met.I.OverlayInt.injective (segments_of xs) (are_ordered-map (segments_of xs) c.requires.map) points
          c.requires.known.hot c.requires.known.decided _ (pair_at (segments_of xs) index d (omega (arith, within, long))) own (c.requires.own d) []
          (subst (λ (s : Pair). AddsAllMet s points (points_along whole s own) [])
          (sym (segment_pair xs index c.index-segments-index.result c.x_segment-segment.result within c.index-segments-index.is c.x_segment-segment.ensures d))
          met)
          refl),
    )

pub append_hot-requires-clause-recorded : goal.append_hot-requires-clause-recorded
append_hot-requires-clause-recorded g c =
    let whole = g.I.OverlayInt.whole in
    c.requires.known.recorded c.args.index (pair_of whole c.x_segment-segment.result)
    (segment_there c.args.segments.now c.args.index c.index-segments-index.result c.x_segment-segment.result c.requires.index c.index-segments-index.is c.x_segment-segment.ensures)
