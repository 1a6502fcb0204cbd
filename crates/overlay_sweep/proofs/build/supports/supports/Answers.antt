use Rattle.std.proofs.Common.{◌≡◌, ◌∙◌, ◌<◌, ◌≤◌, ap, sym, refl, subst, arith, length}
use Rattle.std.specs.Prelude.{ℤ, pos, ◌≤ℤ◌, List, ◌∷◌, None, true}
use Rattle.std.proofs.lemmas.List.{length-map}
use Rattle.std.proofs.lemmas.Result.{IfOk-from_err}
use Rattle.overlay_geometry.specs.Points.{Point}
use Rattle.overlay_geometry.specs.PairOf.{pair_of}
use Rattle.overlay_geometry.specs.PointOf.{point_of}
use Rattle.overlay_base.specs.BooleanWinding.{boolean_winding}
use Rattle.overlay_base.specs.EdgeData.{DataSegment, without_data}
use Rattle.overlay_base.specs.Planar.{is_arranged}
use Rattle.overlay_base.specs.SegmentOf.{ends_of as pair_of_segment, segment_of, segments_of, data_segment_of, data_segments_of}
use Rattle.overlay_base.specs.declared.overlay_core.fill_rule.FillRule.TheVariants.{EvenOdd}
use Rattle.overlay_base.specs.declared.segm.segment.Segment.{Segment}
use Rattle.overlay_base.proofs.laws.joins.Views.{segments_of-bare}
use Rattle.overlay_sweep.specs.Live.{HoldSameFrom, AreFreeAt, sum_below}
use Rattle.overlay_sweep.specs.Supports.{AreSupports}
use Rattle.overlay_sweep.specs.steps.Numbered.{numbered}
use Rattle.overlay_sweep.specs.steps.WayOf.{way_of, ways_of, ways_between, by_angle}
use Rattle.overlay_sweep.proofs.laws.columns.Members.{IsArranged}
use Rattle.overlay_sweep.proofs.laws.visits.Arrangements.{whole_arranged, usable_at, usable_item, start_is, segment_is, index_within}
use Rattle.overlay_sweep.proofs.laws.visits.SweepStates.{start_at, block_at}
use Rattle.overlay_sweep.proofs.laws.visits.Standing.{coded, code_counts, before_all, free_before, come_to, way_place, start_is_over, free_with, gone_on, gone_past, all_told}
use Rattle.overlay_sweep.proofs.build.supports.supports.Goals as goal

same_list : {C I D : Type 0} {m : _} {w : _} {o : _} {e : _} {p : _} (list : List (Segment C I D m w o e p)) → without_data (data_segments_of list) ≡ segments_of list
same_list list = sym (segments_of-bare list)

arranged_list : {C I D : Type 0} {m : _} {w : _} {o : _} {e : _} {p : _} (least greatest : ℤ) (list : List (Segment C I D m w o e p)) → is_arranged least greatest (segments_of list) ≡ true → IsArranged (without_data (data_segments_of list))
arranged_list least greatest list h = whole_arranged least greatest _ _ (same_list list) h

pub loop-index-init : goal.loop-index-init
loop-index-init g c = (
  (λ arranged. before_all EvenOdd (data_segments_of c.args.segments.now) arranged (g.S.LiveSegments.sums c.clear.new.self) c.in_ok-supports.supports.items (g.S.LiveSegments.may_go_on_at c.clear.new.self) c.clear.ensures.sums c.clear.ensures.time
      (sym c.in_ok-supports.supports.ok.0 ∙ c.in_ok-supports.ensures.len ∙ sym (length-map c.args.segments.now data_segment_of))),
  omega arith,
)

pub collect_ways-requires-clause-in_range : goal.collect_ways-requires-clause-in_range
collect_ways-requires-clause-in_range g c =
    λ k d l. let usable = usable_at segment_of c.args.segments.now (g.I.OverlayInt.whole g.I.OverlayInt.MIN_COORD) (g.I.OverlayInt.whole g.I.OverlayInt.MAX_COORD) c.requires.arranged k d l in
    record { a_in_range = usable.a; b_in_range = usable.b }

pub sum_below-below-requires-clause-point : goal.sum_below-below-requires-clause-point
sum_below-below-requires-clause-point g c =
    let usable = usable_item segment_of c.args.segments.now (g.I.OverlayInt.whole g.I.OverlayInt.MIN_COORD) (g.I.OverlayInt.whole g.I.OverlayInt.MAX_COORD) c.requires.arranged c.loop-index.index c.index-segments-index.result c.loop-index-test.true c.index-segments-index.is in
    rw c.x_segment.ensures usable.a

pub sum_below-below-requires-clause-time : goal.sum_below-below-requires-clause-time
sum_below-below-requires-clause-time g c =
    let arr = arranged_list (g.I.OverlayInt.whole g.I.OverlayInt.MIN_COORD) (g.I.OverlayInt.whole g.I.OverlayInt.MAX_COORD) c.args.segments.now c.requires.arranged in
    let list = data_segments_of c.args.segments.now in
    let filled : length list ≡ length c.args.segments.now = length-map c.args.segments.now data_segment_of in
    let state = c.loop-index.invariant.0 arr in
    let start : start_at (without_data list) c.loop-index.index ≡ point_of g.I.OverlayInt.whole c.x_segment.result.a = start_is segment_of c.args.segments.now (without_data list) (same_list c.args.segments.now) c.loop-index.index c.index-segments-index.result c.loop-index-test.true c.index-segments-index.is ∙ ap (λ v. (pair_of g.I.OverlayInt.whole v).a) (sym c.x_segment.ensures) in
    let low : c.loop-index.index < length list = subst (λ n. c.loop-index.index < n) (sym filled) c.loop-index-test.true in
    state.time (g.I.OverlayInt.whole c.x_segment.result.a.x) (subst (λ (p : Point). state.x ≤ℤ p.x) start (state.reaches low))

pub sum_below-below-requires-clause-free : goal.sum_below-below-requires-clause-free
sum_below-below-requires-clause-free g c =
    let arr = arranged_list (g.I.OverlayInt.whole g.I.OverlayInt.MIN_COORD) (g.I.OverlayInt.whole g.I.OverlayInt.MAX_COORD) c.args.segments.now c.requires.arranged in
    let list = data_segments_of c.args.segments.now in
    let filled : length list ≡ length c.args.segments.now = length-map c.args.segments.now data_segment_of in
    let state = c.loop-index.invariant.0 arr in
    let start : start_at (without_data list) c.loop-index.index ≡ point_of g.I.OverlayInt.whole c.x_segment.result.a = start_is segment_of c.args.segments.now (without_data list) (same_list c.args.segments.now) c.loop-index.index c.index-segments-index.result c.loop-index-test.true c.index-segments-index.is ∙ ap (λ v. (pair_of g.I.OverlayInt.whole v).a) (sym c.x_segment.ensures) in
    let low : c.loop-index.index < length list = subst (λ n. c.loop-index.index < n) (sym filled) c.loop-index-test.true in
    subst (λ (p : Point). AreFreeAt p.x (g.S.LiveSegments.sums c.loop-index.live)) start
    (free_before EvenOdd list arr c.loop-index.index (g.S.LiveSegments.sums c.loop-index.live) c.loop-index.supports.items (g.S.LiveSegments.may_go_on_at c.loop-index.live) low state)

pub loop-way-init : goal.loop-way-init
loop-way-init g c =
    let arr = arranged_list (g.I.OverlayInt.whole g.I.OverlayInt.MIN_COORD) (g.I.OverlayInt.whole g.I.OverlayInt.MAX_COORD) c.args.segments.now c.requires.arranged in
    let list = data_segments_of c.args.segments.now in
    let filled : length list ≡ length c.args.segments.now = length-map c.args.segments.now data_segment_of in
    let state = c.loop-index.invariant.0 arr in
    let start : start_at (without_data list) c.loop-index.index ≡ point_of g.I.OverlayInt.whole c.x_segment.result.a = start_is segment_of c.args.segments.now (without_data list) (same_list c.args.segments.now) c.loop-index.index c.index-segments-index.result c.loop-index-test.true c.index-segments-index.is ∙ ap (λ v. (pair_of g.I.OverlayInt.whole v).a) (sym c.x_segment.ensures) in
    let low : c.loop-index.index < length list = subst (λ n. c.loop-index.index < n) (sym filled) c.loop-index-test.true in
    let order : c.loop-index.index < c.start_point_end-next.result = c.start_point_end-next.ensures.after in
    let within : c.start_point_end-next.result ≤ length list = subst (λ n. c.start_point_end-next.result ≤ n) (sym filled) c.start_point_end-next.ensures.within in (
      (λ arranged.
          let before = c.loop-index.invariant.0 arranged in
          let block = block_at (λ (h : Unit {0}) v. (h, None)) (λ (h : Unit {0}). h) EvenOdd list arranged tt (segments_of c.args.segments.now) (same_list c.args.segments.now) c.loop-index.index c.start_point_end-next.result order within before.boundary c.start_point_end-next.ensures.same
          (λ d l. c.start_point_end-next.ensures.other d (subst (λ n. c.start_point_end-next.result < n) filled l)) in
          come_to EvenOdd list arranged c.loop-index.index c.start_point_end-next.result (g.S.LiveSegments.sums c.loop-index.live) (g.S.LiveSegments.sums c.sum_below-below.new.self) c.loop-index.supports.items (g.S.LiveSegments.may_go_on_at c.loop-index.live) (g.S.LiveSegments.may_go_on_at c.sum_below-below.new.self) (boolean_winding c.sum_below-below.result) order within block before
          (subst (λ (p : Point). HoldSameFrom p.x (g.S.LiveSegments.sums c.sum_below-below.new.self) (g.S.LiveSegments.sums c.loop-index.live)) (sym start) c.sum_below-below.ensures.sums)
          (c.sum_below-below.ensures.sum ∙ ap (λ p. sum_below (g.S.LiveSegments.sums c.loop-index.live) p (record { subj = pos 0; clip = pos 0; mask = 0 })) (sym start))
          (λ y l. c.sum_below-below.ensures.time y (subst (λ (p : Point). p.x ≤ℤ y) start l))),
      ap ways_of c.deref-way-items.ensures.value ∙ c.in_ok-collect_ways.ensures ∙ ap (λ l. by_angle (ways_between l c.loop-index.index c.start_point_end-next.result)) (sym (same_list c.args.segments.now)),
    )

pub number_or-requires-clause-subj : goal.number_or-requires-clause-subj
number_or-requires-clause-subj g c =
    let arr = arranged_list (g.I.OverlayInt.whole g.I.OverlayInt.MIN_COORD) (g.I.OverlayInt.whole g.I.OverlayInt.MAX_COORD) c.args.segments.now c.requires.arranged in
    let list = data_segments_of c.args.segments.now in
    let filled : length list ≡ length c.args.segments.now = length-map c.args.segments.now data_segment_of in
    let state = c.loop-way.invariant.0 arr in
    (code_counts EvenOdd list arr (boolean_winding c.loop-way.below) state.on state.code).0

pub number_or-requires-clause-clip : goal.number_or-requires-clause-clip
number_or-requires-clause-clip g c =
    let arr = arranged_list (g.I.OverlayInt.whole g.I.OverlayInt.MIN_COORD) (g.I.OverlayInt.whole g.I.OverlayInt.MAX_COORD) c.args.segments.now c.requires.arranged in
    let list = data_segments_of c.args.segments.now in
    let filled : length list ≡ length c.args.segments.now = length-map c.args.segments.now data_segment_of in
    let state = c.loop-way.invariant.0 arr in
    (code_counts EvenOdd list arr (boolean_winding c.loop-way.below) state.on state.code).1

pub index_mut-requires : goal.index_mut-requires
index_mut-requires g c =
    let arr = arranged_list (g.I.OverlayInt.whole g.I.OverlayInt.MIN_COORD) (g.I.OverlayInt.whole g.I.OverlayInt.MAX_COORD) c.args.segments.now c.requires.arranged in
    let list = data_segments_of c.args.segments.now in
    let filled : length list ≡ length c.args.segments.now = length-map c.args.segments.now data_segment_of in
    let state = c.loop-way.invariant.0 arr in
    let bound : c.way-item.result.index < length c.args.segments.now = way_place EvenOdd list arr c.loop-index.index c.start_point_end-next.result c.loop-way.way-index (boolean_winding c.loop-way.below) (g.S.LiveSegments.sums c.loop-way.live) c.loop-way.supports.items (g.S.LiveSegments.may_go_on_at c.loop-way.live) state way_of c.deref-way-items.result.now c.loop-way.invariant.1 c.loop-way-test.true c.way-item.result c.way-item.is (λ v at e. index_within data_segment_of c.args.segments.now EvenOdd (without_data list) c.way-item.result.index v e at.is) in
    omega (arith, bound, state.standing.each, filled, c.loop-way.supports.ok.0)

pub count_of-below-requires : goal.count_of-below-requires
count_of-below-requires g c =
    let arr = arranged_list (g.I.OverlayInt.whole g.I.OverlayInt.MIN_COORD) (g.I.OverlayInt.whole g.I.OverlayInt.MAX_COORD) c.args.segments.now c.requires.arranged in
    let list = data_segments_of c.args.segments.now in
    let filled : length list ≡ length c.args.segments.now = length-map c.args.segments.now data_segment_of in
    let state = c.loop-way.invariant.0 arr in
    let bound : c.way-item.result.index < length c.args.segments.now = way_place EvenOdd list arr c.loop-index.index c.start_point_end-next.result c.loop-way.way-index (boolean_winding c.loop-way.below) (g.S.LiveSegments.sums c.loop-way.live) c.loop-way.supports.items (g.S.LiveSegments.may_go_on_at c.loop-way.live) state way_of c.deref-way-items.result.now c.loop-way.invariant.1 c.loop-way-test.true c.way-item.result c.way-item.is (λ v at e. index_within data_segment_of c.args.segments.now EvenOdd (without_data list) c.way-item.result.index v e at.is) in
    omega (arith, bound, c.if-count-gt-MOST.false)

pub offset_bounds-segments-way : goal.offset_bounds-segments-way
offset_bounds-segments-way g c =
    let arr = arranged_list (g.I.OverlayInt.whole g.I.OverlayInt.MIN_COORD) (g.I.OverlayInt.whole g.I.OverlayInt.MAX_COORD) c.args.segments.now c.requires.arranged in
    let list = data_segments_of c.args.segments.now in
    let filled : length list ≡ length c.args.segments.now = length-map c.args.segments.now data_segment_of in
    let state = c.loop-way.invariant.0 arr in
    let bound : c.way-item.result.index < length c.args.segments.now = way_place EvenOdd list arr c.loop-index.index c.start_point_end-next.result c.loop-way.way-index (boolean_winding c.loop-way.below) (g.S.LiveSegments.sums c.loop-way.live) c.loop-way.supports.items (g.S.LiveSegments.may_go_on_at c.loop-way.live) state way_of c.deref-way-items.result.now c.loop-way.invariant.1 c.loop-way-test.true c.way-item.result c.way-item.is (λ v at e. index_within data_segment_of c.args.segments.now EvenOdd (without_data list) c.way-item.result.index v e at.is) in
    omega (arith, bound)

pub bounds-segments-way : goal.bounds-segments-way
bounds-segments-way g c =
    let arr = arranged_list (g.I.OverlayInt.whole g.I.OverlayInt.MIN_COORD) (g.I.OverlayInt.whole g.I.OverlayInt.MAX_COORD) c.args.segments.now c.requires.arranged in
    let list = data_segments_of c.args.segments.now in
    let filled : length list ≡ length c.args.segments.now = length-map c.args.segments.now data_segment_of in
    let state = c.loop-way.invariant.0 arr in
    let bound : c.way-item.result.index < length c.args.segments.now = way_place EvenOdd list arr c.loop-index.index c.start_point_end-next.result c.loop-way.way-index (boolean_winding c.loop-way.below) (g.S.LiveSegments.sums c.loop-way.live) c.loop-way.supports.items (g.S.LiveSegments.may_go_on_at c.loop-way.live) state way_of c.deref-way-items.result.now c.loop-way.invariant.1 c.loop-way-test.true c.way-item.result c.way-item.is (λ v at e. index_within data_segment_of c.args.segments.now EvenOdd (without_data list) c.way-item.result.index v e at.is) in
    bound

pub insert_segment-requires-clause-in_range : goal.insert_segment-requires-clause-in_range
insert_segment-requires-clause-in_range g c =
    let arr = arranged_list (g.I.OverlayInt.whole g.I.OverlayInt.MIN_COORD) (g.I.OverlayInt.whole g.I.OverlayInt.MAX_COORD) c.args.segments.now c.requires.arranged in
    let list = data_segments_of c.args.segments.now in
    let filled : length list ≡ length c.args.segments.now = length-map c.args.segments.now data_segment_of in
    let state = c.loop-way.invariant.0 arr in
    let bound : c.way-item.result.index < length c.args.segments.now = way_place EvenOdd list arr c.loop-index.index c.start_point_end-next.result c.loop-way.way-index (boolean_winding c.loop-way.below) (g.S.LiveSegments.sums c.loop-way.live) c.loop-way.supports.items (g.S.LiveSegments.may_go_on_at c.loop-way.live) state way_of c.deref-way-items.result.now c.loop-way.invariant.1 c.loop-way-test.true c.way-item.result c.way-item.is (λ v at e. index_within data_segment_of c.args.segments.now EvenOdd (without_data list) c.way-item.result.index v e at.is) in
    let usable = usable_item segment_of c.args.segments.now (g.I.OverlayInt.whole g.I.OverlayInt.MIN_COORD) (g.I.OverlayInt.whole g.I.OverlayInt.MAX_COORD) c.requires.arranged c.way-item.result.index c.index-segments-way.result bound c.index-segments-way.is in
    record { a_in_range = usable.a; b_in_range = usable.b }

pub insert_segment-requires-clause-time : goal.insert_segment-requires-clause-time
insert_segment-requires-clause-time g c =
    let arr = arranged_list (g.I.OverlayInt.whole g.I.OverlayInt.MIN_COORD) (g.I.OverlayInt.whole g.I.OverlayInt.MAX_COORD) c.args.segments.now c.requires.arranged in
    let list = data_segments_of c.args.segments.now in
    let filled : length list ≡ length c.args.segments.now = length-map c.args.segments.now data_segment_of in
    let state = c.loop-way.invariant.0 arr in
    let bound : c.way-item.result.index < length c.args.segments.now = way_place EvenOdd list arr c.loop-index.index c.start_point_end-next.result c.loop-way.way-index (boolean_winding c.loop-way.below) (g.S.LiveSegments.sums c.loop-way.live) c.loop-way.supports.items (g.S.LiveSegments.may_go_on_at c.loop-way.live) state way_of c.deref-way-items.result.now c.loop-way.invariant.1 c.loop-way-test.true c.way-item.result c.way-item.is (λ v at e. index_within data_segment_of c.args.segments.now EvenOdd (without_data list) c.way-item.result.index v e at.is) in
    way_place EvenOdd list arr c.loop-index.index c.start_point_end-next.result c.loop-way.way-index (boolean_winding c.loop-way.below) (g.S.LiveSegments.sums c.loop-way.live) c.loop-way.supports.items (g.S.LiveSegments.may_go_on_at c.loop-way.live) state way_of c.deref-way-items.result.now c.loop-way.invariant.1 c.loop-way-test.true c.way-item.result c.way-item.is (λ v at e.
    let own : data_segment_of c.index-segments-way.result ≡ v.segment = segment_is data_segment_of c.args.segments.now EvenOdd (without_data list) c.way-item.result.index c.index-segments-way.result v c.index-segments-way.is e at.is in
    λ y l. state.time y (subst (λ (p : Point). p.x ≤ℤ y) (ap (λ (s : DataSegment (Unit {0})). s.pair.a) own ∙ at.start) l))

pub insert_segment-requires-clause-free : goal.insert_segment-requires-clause-free
insert_segment-requires-clause-free g c =
    let arr = arranged_list (g.I.OverlayInt.whole g.I.OverlayInt.MIN_COORD) (g.I.OverlayInt.whole g.I.OverlayInt.MAX_COORD) c.args.segments.now c.requires.arranged in
    let list = data_segments_of c.args.segments.now in
    let filled : length list ≡ length c.args.segments.now = length-map c.args.segments.now data_segment_of in
    let state = c.loop-way.invariant.0 arr in
    let bound : c.way-item.result.index < length c.args.segments.now = way_place EvenOdd list arr c.loop-index.index c.start_point_end-next.result c.loop-way.way-index (boolean_winding c.loop-way.below) (g.S.LiveSegments.sums c.loop-way.live) c.loop-way.supports.items (g.S.LiveSegments.may_go_on_at c.loop-way.live) state way_of c.deref-way-items.result.now c.loop-way.invariant.1 c.loop-way-test.true c.way-item.result c.way-item.is (λ v at e. index_within data_segment_of c.args.segments.now EvenOdd (without_data list) c.way-item.result.index v e at.is) in
    way_place EvenOdd list arr c.loop-index.index c.start_point_end-next.result c.loop-way.way-index (boolean_winding c.loop-way.below) (g.S.LiveSegments.sums c.loop-way.live) c.loop-way.supports.items (g.S.LiveSegments.may_go_on_at c.loop-way.live) state way_of c.deref-way-items.result.now c.loop-way.invariant.1 c.loop-way-test.true c.way-item.result c.way-item.is (λ v at e.
    let own : data_segment_of c.index-segments-way.result ≡ v.segment = segment_is data_segment_of c.args.segments.now EvenOdd (without_data list) c.way-item.result.index c.index-segments-way.result v c.index-segments-way.is e at.is in
    let code : boolean_winding c.count_of-below.result ≡ numbered v.index = c.count_of-below.ensures ∙ ap numbered e in
    let entry : record { pair = pair_of_segment c.index-segments-way.result; count = boolean_winding c.count_of-below.result } ≡ coded EvenOdd list arr v = (λ i. record { pair = (own i).pair; count = code i }) in
    subst (λ (p : Point). AreFreeAt p.x (record { pair = pair_of_segment c.index-segments-way.result; count = boolean_winding c.count_of-below.result } ∷ g.S.LiveSegments.sums c.loop-way.live)) (sym (ap (λ (s : DataSegment (Unit {0})). s.pair.a) own ∙ at.start))
    (subst (λ s. AreFreeAt (start_at (without_data list) c.loop-index.index).x (s ∷ g.S.LiveSegments.sums c.loop-way.live)) (sym entry)
    (free_with EvenOdd list arr c.loop-index.index c.start_point_end-next.result c.loop-way.way-index (boolean_winding c.loop-way.below) (g.S.LiveSegments.sums c.loop-way.live) c.loop-way.supports.items (g.S.LiveSegments.may_go_on_at c.loop-way.live) v at state)))

pub loop-way-preserved : goal.loop-way-preserved
loop-way-preserved g c = (
  (λ arr.
      let list = data_segments_of c.args.segments.now in
      let state = c.loop-way.invariant.0 arr in
      way_place EvenOdd list arr c.loop-index.index c.start_point_end-next.result c.loop-way.way-index (boolean_winding c.loop-way.below) (g.S.LiveSegments.sums c.loop-way.live) c.loop-way.supports.items (g.S.LiveSegments.may_go_on_at c.loop-way.live) state way_of c.deref-way-items.result.now c.loop-way.invariant.1 c.loop-way-test.true c.way-item.result c.way-item.is (λ v at e.
      let own : data_segment_of c.index-segments-way.result ≡ v.segment = segment_is data_segment_of c.args.segments.now EvenOdd (without_data list) c.way-item.result.index c.index-segments-way.result v c.index-segments-way.is e at.is in
      let code : boolean_winding c.count_of-below.result ≡ numbered v.index = c.count_of-below.ensures ∙ ap numbered e in
      let entry : record { pair = pair_of_segment c.index-segments-way.result; count = boolean_winding c.count_of-below.result } ≡ coded EvenOdd list arr v = (λ i. record { pair = (own i).pair; count = code i }) in
      let here : (pair_of_segment c.index-segments-way.result).a ≡ start_at (without_data list) c.loop-index.index = ap (λ (s : DataSegment (Unit {0})). s.pair.a) own ∙ at.start in
      let long : length c.args.segments.now ≡ length list = sym (length-map c.args.segments.now data_segment_of) in
      rw e
      (gone_on EvenOdd list arr c.loop-index.index c.start_point_end-next.result c.loop-way.way-index (boolean_winding c.loop-way.below) (g.S.LiveSegments.sums c.loop-way.live) c.loop-way.supports.items (g.S.LiveSegments.may_go_on_at c.loop-way.live) v at state c.number_or.result (boolean_winding c.count_of-below.result) (g.S.LiveSegments.sums c.insert_segment.new.live) (g.S.LiveSegments.may_go_on_at c.insert_segment.new.live)
      (λ n. c.number_or.ensures.none n ∙ long) c.number_or.ensures.number code
      (subst (λ (p : Point). HoldSameFrom p.x (g.S.LiveSegments.sums c.insert_segment.new.live) (coded EvenOdd list arr v ∷ g.S.LiveSegments.sums c.loop-way.live)) here
      (subst (λ s. HoldSameFrom (pair_of_segment c.index-segments-way.result).a.x (g.S.LiveSegments.sums c.insert_segment.new.live) (s ∷ g.S.LiveSegments.sums c.loop-way.live)) entry c.in_ok-insert_segment.ensures.live))
      (λ y l. c.in_ok-insert_segment.ensures.time y (subst (λ (p : Point). p.x ≤ℤ y) (sym here) l))))),
  c.loop-way.invariant.1,
)

pub loop-index-preserved : goal.loop-index-preserved
loop-index-preserved g c = (
  (λ arranged.
      let state = c.loop-way.invariant.0 arranged in
      gone_past EvenOdd (data_segments_of c.args.segments.now) arranged c.loop-index.index c.start_point_end-next.result c.loop-way.way-index (boolean_winding c.loop-way.below) (g.S.LiveSegments.sums c.loop-way.live) c.loop-way.supports.items (g.S.LiveSegments.may_go_on_at c.loop-way.live) state
      (start_is_over EvenOdd (data_segments_of c.args.segments.now) arranged c.loop-index.index c.start_point_end-next.result c.loop-way.way-index (boolean_winding c.loop-way.below) (g.S.LiveSegments.sums c.loop-way.live) c.loop-way.supports.items (g.S.LiveSegments.may_go_on_at c.loop-way.live) state way_of c.deref-way-items.result.now c.loop-way.invariant.1 c.loop-way-test.false)),
  c.start_point_end-next.ensures.within,
)

pub returns-clause-supports : goal.returns-clause-supports
returns-clause-supports g c =
    let arr = arranged_list (g.I.OverlayInt.whole g.I.OverlayInt.MIN_COORD) (g.I.OverlayInt.whole g.I.OverlayInt.MAX_COORD) c.args.segments.now c.requires.arranged in
    let list = data_segments_of c.args.segments.now in
    let filled : length list ≡ length c.args.segments.now = length-map c.args.segments.now data_segment_of in
    subst (λ l. AreSupports l c.loop-index.supports.items) (same_list c.args.segments.now)
    (all_told EvenOdd list arr c.loop-index.index (g.S.LiveSegments.sums c.loop-index.live) c.loop-index.supports.items (g.S.LiveSegments.may_go_on_at c.loop-index.live) (c.loop-index.invariant.0 arr) (subst (λ n. n ≤ c.loop-index.index) (sym filled) c.loop-index-test.false))

pub returns-in_err-supports-clause-supports : goal.returns-in_err-supports-clause-supports
returns-in_err-supports-clause-supports g c = IfOk-from_err c.from_residual.result _ c.from_residual.ensures.0

pub offset_bounds-segments-index : goal.offset_bounds-segments-index
offset_bounds-segments-index g c = omega (arith, c.loop-index-test.true)

pub bounds-segments-index : goal.bounds-segments-index
bounds-segments-index g c = c.loop-index-test.true

pub start_point_end-next-requires : goal.start_point_end-next-requires
start_point_end-next-requires g c = c.loop-index-test.true

pub collect_ways-requires-clause-order : goal.collect_ways-requires-clause-order
collect_ways-requires-clause-order g c = omega (arith, c.start_point_end-next.ensures.after)

pub collect_ways-requires-clause-within : goal.collect_ways-requires-clause-within
collect_ways-requires-clause-within g c = c.start_point_end-next.ensures.within

pub returns-in_err-collect_ways-clause-supports : goal.returns-in_err-collect_ways-clause-supports
returns-in_err-collect_ways-clause-supports g c = IfOk-from_err c.from_residual-in_err-collect_ways.result _ c.from_residual-in_err-collect_ways.ensures.0

pub sum_below-below-requires-clause-same_x : goal.sum_below-below-requires-clause-same_x
sum_below-below-requires-clause-same_x g c = refl

pub offset_bounds-way-items-way-index : goal.offset_bounds-way-items-way-index
offset_bounds-way-items-way-index g c = omega (arith, c.loop-way-test.true)

pub bounds-way-items-way-index : goal.bounds-way-items-way-index
bounds-way-items-way-index g c = c.loop-way-test.true

pub returns-in_err-insert_segment-clause-supports : goal.returns-in_err-insert_segment-clause-supports
returns-in_err-insert_segment-clause-supports g c = IfOk-from_err c.from_residual-in_err-insert_segment.result _ c.from_residual-in_err-insert_segment.ensures.0

pub loop-way-smaller : goal.loop-way-smaller
loop-way-smaller g c = omega (arith, c.loop-way-test.true)

pub loop-index-smaller : goal.loop-index-smaller
loop-index-smaller g c = omega (arith, c.start_point_end-next.ensures.after, c.start_point_end-next.ensures.within, c.loop-index-test.true)
