use Rattle.std.proofs.Common.{◌≡◌, ◌∙◌, ◌+◌, ◌*◌, ◌<◌, ◌≤◌, ap, ap₂, sym, refl, subst, arith, length}
use Rattle.std.specs.Prelude.{◌≤ℤ◌}
use Rattle.std.proofs.lemmas.List.{length-map}
use Rattle.std.proofs.lemmas.Result.{IfOk-from_err}
use Rattle.overlay_geometry.specs.Points.{Point}
use Rattle.std.specs.Prelude.{ℤ, true, false, List, ◌∷◌}
use Rattle.std.specs.ControlFlow.{break_value}
use Rattle.overlay_base.specs.Windings.{add, weight, is_count_in_range}
use Rattle.overlay_base.specs.EdgeData.{DataSegment, without_data}
use Rattle.overlay_geometry.specs.PairOf.{pair_of}
use Rattle.overlay_base.specs.Planar.{is_arranged}
use Rattle.overlay_base.specs.declared.segm.segment.Segment.{Segment}
use Rattle.overlay_geometry.specs.PointOf.{point_of}
use Rattle.overlay_base.specs.SegmentOf.{segment_of, segments_of, data_segment_of, data_segments_of, winding_of}
use Rattle.overlay_sweep.specs.Sweep.{visits, visited, visits_leave_range}
use Rattle.overlay_sweep.specs.Live.{sum_below}
use Rattle.overlay_sweep.specs.Live.{HoldSameFrom, AreFreeAt}
use Rattle.overlay_sweep.specs.steps.WayOf.{way_of, ways_of, ways_between, by_angle}
use Rattle.overlay_base.proofs.laws.joins.Views.{segments_of-bare}
use Rattle.overlay_sweep.proofs.laws.columns.Members.{IsArranged}
use Rattle.overlay_sweep.proofs.laws.visits.Handling.{refused_as}
use Rattle.overlay_sweep.proofs.laws.visits.Arrangements.{whole_arranged, usable_at, usable_item, start_is, segment_is, index_within}
use Rattle.overlay_sweep.proofs.laws.visits.SweepStates.{start_at, before_first, block_at, free_at_start, enter, leave, finished, finished_in_range, amid_place, point_is_over, step, valid_from, free_here, answered_here, in_range_here, refused_here, visit_is}
use Rattle.overlay_sweep.proofs.laws.visits.LookCosts.{ways_within, none_paid, look_paid, visit_paid, point_paid, sweep_paid}
use Rattle.overlay_sweep.proofs.build.visits.sweep_with_handler.Goals as goal

-- ---- the shared part: the segments with their data are those without it, and arranged

same_list : {C I D : Type 0} {m : _} {w : _} {o : _} {e : _} {p : _} (list : List (Segment C I D m w o e p)) → without_data (data_segments_of list) ≡ segments_of list
same_list list = sym (segments_of-bare list)

arranged_list : {C I D : Type 0} {m : _} {w : _} {o : _} {e : _} {p : _} (least greatest : ℤ) (list : List (Segment C I D m w o e p)) → is_arranged least greatest (segments_of list) ≡ true → IsArranged (without_data (data_segments_of list))
arranged_list least greatest list h = whole_arranged least greatest _ _ (same_list list) h

-- ---- the results

pub loop-index-init : goal.loop-index-init
loop-index-init g c =
    ((λ arranged. before_first g.H.FillHandler.handle_gives g.H.FillHandler.finalize_gives g.F.FillStrategy.rule (data_segments_of c.args.segments.now) arranged c.args.handler (g.S.LiveSegments.sums c.clear.new.self) (g.S.LiveSegments.may_go_on_at c.clear.new.self) c.clear.ensures.sums c.clear.ensures.time), c.requires.takes, omega arith, omega (arith, c.clear.ensures.held), λ d most. none_paid _ d c.clear.ensures.held)

pub collect_ways-requires-clause-in_range : goal.collect_ways-requires-clause-in_range
collect_ways-requires-clause-in_range g c =
    λ k d l. let usable = usable_at segment_of c.args.segments.now (g.I.OverlayInt.whole g.I.OverlayInt.MIN_COORD) (g.I.OverlayInt.whole g.I.OverlayInt.MAX_COORD) c.requires.arranged k d l in
    record { a_in_range = usable.a; b_in_range = usable.b }

pub sum_below-sum-requires-clause-point : goal.sum_below-sum-requires-clause-point
sum_below-sum-requires-clause-point g c =
    let usable = usable_item segment_of c.args.segments.now (g.I.OverlayInt.whole g.I.OverlayInt.MIN_COORD) (g.I.OverlayInt.whole g.I.OverlayInt.MAX_COORD) c.requires.arranged c.loop-index.index c.index-segments-index.result c.loop-index-test.true c.index-segments-index.is in
    rw c.x_segment.ensures usable.a

pub sum_below-sum-requires-clause-time : goal.sum_below-sum-requires-clause-time
sum_below-sum-requires-clause-time g c =
    let arr = arranged_list (g.I.OverlayInt.whole g.I.OverlayInt.MIN_COORD) (g.I.OverlayInt.whole g.I.OverlayInt.MAX_COORD) c.args.segments.now c.requires.arranged in
    let start : start_at (without_data (data_segments_of c.args.segments.now)) c.loop-index.index ≡ point_of g.I.OverlayInt.whole c.x_segment.result.a = start_is segment_of c.args.segments.now (without_data (data_segments_of c.args.segments.now)) (same_list c.args.segments.now) c.loop-index.index c.index-segments-index.result c.loop-index-test.true c.index-segments-index.is ∙ ap (λ v. (pair_of g.I.OverlayInt.whole v).a) (sym c.x_segment.ensures) in
    let filled : c.loop-index.index < length (data_segments_of c.args.segments.now) = subst (λ n. c.loop-index.index < n) (sym (length-map c.args.segments.now data_segment_of)) c.loop-index-test.true in
    let state = c.loop-index.invariant.0 arr in
    state.time (g.I.OverlayInt.whole c.x_segment.result.a.x) (subst (λ (p : Point). state.x ≤ℤ p.x) start (state.reaches filled))

pub sum_below-sum-requires-clause-free : goal.sum_below-sum-requires-clause-free
sum_below-sum-requires-clause-free g c =
    let arr = arranged_list (g.I.OverlayInt.whole g.I.OverlayInt.MIN_COORD) (g.I.OverlayInt.whole g.I.OverlayInt.MAX_COORD) c.args.segments.now c.requires.arranged in
    let start : start_at (without_data (data_segments_of c.args.segments.now)) c.loop-index.index ≡ point_of g.I.OverlayInt.whole c.x_segment.result.a = start_is segment_of c.args.segments.now (without_data (data_segments_of c.args.segments.now)) (same_list c.args.segments.now) c.loop-index.index c.index-segments-index.result c.loop-index-test.true c.index-segments-index.is ∙ ap (λ v. (pair_of g.I.OverlayInt.whole v).a) (sym c.x_segment.ensures) in
    let filled : c.loop-index.index < length (data_segments_of c.args.segments.now) = subst (λ n. c.loop-index.index < n) (sym (length-map c.args.segments.now data_segment_of)) c.loop-index-test.true in
    let state = c.loop-index.invariant.0 arr in
    subst (λ (p : Point). AreFreeAt p.x (g.S.LiveSegments.sums c.loop-index.live)) start
    (free_at_start g.H.FillHandler.handle_gives g.H.FillHandler.finalize_gives g.F.FillStrategy.rule (data_segments_of c.args.segments.now) arr c.args.handler c.loop-index.index c.loop-index.handler (g.S.LiveSegments.sums c.loop-index.live) (g.S.LiveSegments.may_go_on_at c.loop-index.live) filled state)

pub loop-way-init : goal.loop-way-init
loop-way-init g c =
    let arr = arranged_list (g.I.OverlayInt.whole g.I.OverlayInt.MIN_COORD) (g.I.OverlayInt.whole g.I.OverlayInt.MAX_COORD) c.args.segments.now c.requires.arranged in
    let start : start_at (without_data (data_segments_of c.args.segments.now)) c.loop-index.index ≡ point_of g.I.OverlayInt.whole c.x_segment.result.a = start_is segment_of c.args.segments.now (without_data (data_segments_of c.args.segments.now)) (same_list c.args.segments.now) c.loop-index.index c.index-segments-index.result c.loop-index-test.true c.index-segments-index.is ∙ ap (λ v. (pair_of g.I.OverlayInt.whole v).a) (sym c.x_segment.ensures) in
    let order : c.loop-index.index < c.start_point_end-next.result = c.start_point_end-next.ensures.after in
    let within : c.start_point_end-next.result ≤ length (data_segments_of c.args.segments.now) = subst (λ n. c.start_point_end-next.result ≤ n) (sym (length-map c.args.segments.now data_segment_of)) c.start_point_end-next.ensures.within in (
      (λ arranged.
          let state = c.loop-index.invariant.0 arranged in
          let block = block_at g.H.FillHandler.handle_gives g.H.FillHandler.finalize_gives g.F.FillStrategy.rule (data_segments_of c.args.segments.now) arranged c.args.handler (segments_of c.args.segments.now) (same_list c.args.segments.now) c.loop-index.index c.start_point_end-next.result order within state.boundary c.start_point_end-next.ensures.same
          (λ d l. c.start_point_end-next.ensures.other d (subst (λ n. c.start_point_end-next.result < n) (length-map c.args.segments.now data_segment_of) l)) in
          enter g.H.FillHandler.handle_gives g.H.FillHandler.finalize_gives g.F.FillStrategy.rule (data_segments_of c.args.segments.now) arranged c.args.handler c.loop-index.index c.start_point_end-next.result c.loop-index.handler (g.S.LiveSegments.sums c.loop-index.live) (g.S.LiveSegments.sums c.sum_below-sum.new.self) (g.S.LiveSegments.may_go_on_at c.loop-index.live) (g.S.LiveSegments.may_go_on_at c.sum_below-sum.new.self) (g.C.WindingCount.winding c.sum_below-sum.result) order within block state
          (subst (λ (p : Point). HoldSameFrom p.x (g.S.LiveSegments.sums c.sum_below-sum.new.self) (g.S.LiveSegments.sums c.loop-index.live)) (sym start) c.sum_below-sum.ensures.sums)
          (c.sum_below-sum.ensures.sum ∙ ap₂ (sum_below (g.S.LiveSegments.sums c.loop-index.live)) (sym start) (c.new.ensures ∙ g.met.F.FillStrategy.nothing))
          (λ y l. c.sum_below-sum.ensures.time y (subst (λ (p : Point). p.x ≤ℤ y) start l))),
      c.loop-index.invariant.1,
      ap ways_of c.deref-way-items.ensures.value ∙ c.in_ok-collect_ways.ensures ∙ ap (λ l. by_angle (ways_between l c.loop-index.index c.start_point_end-next.result)) (sym (same_list c.args.segments.now)),
      omega arith,
      omega (arith, c.sum_below-sum.ensures.held, c.loop-index.invariant.3),
      (λ d most. look_paid c.loop-index.compared _ (g.S.LiveSegments.asked c.sum_below-sum.new.self) _ _ c.loop-index.index d (c.loop-index.invariant.4 d most) (omega (arith, c.saturating_add.ensures, c.compared.ensures)) (c.sum_below-sum.ensures.most (length c.args.segments.now) d (omega (arith, c.loop-index.invariant.2, c.loop-index.invariant.3)) most)),
    )

pub offset_bounds-segments-way : goal.offset_bounds-segments-way
offset_bounds-segments-way g c =
    let arr = arranged_list (g.I.OverlayInt.whole g.I.OverlayInt.MIN_COORD) (g.I.OverlayInt.whole g.I.OverlayInt.MAX_COORD) c.args.segments.now c.requires.arranged in
    let state = c.loop-way.invariant.0 arr in
    let bound : c.way-item.result.index < length c.args.segments.now = amid_place g.H.FillHandler.handle_gives g.H.FillHandler.finalize_gives g.F.FillStrategy.rule (data_segments_of c.args.segments.now) arr c.args.handler c.loop-index.index c.start_point_end-next.result c.loop-way.way-index (g.C.WindingCount.winding c.loop-way.sum) c.loop-way.handler (g.S.LiveSegments.sums c.loop-way.live) (g.S.LiveSegments.may_go_on_at c.loop-way.live) state way_of c.deref-way-items.result.now c.loop-way.invariant.2 c.loop-way-test.true c.way-item.result c.way-item.is (λ v at e. index_within data_segment_of c.args.segments.now g.F.FillStrategy.rule (without_data (data_segments_of c.args.segments.now)) c.way-item.result.index v e at.is) in
    omega (arith, bound)

pub bounds-segments-way : goal.bounds-segments-way
bounds-segments-way g c =
    let arr = arranged_list (g.I.OverlayInt.whole g.I.OverlayInt.MIN_COORD) (g.I.OverlayInt.whole g.I.OverlayInt.MAX_COORD) c.args.segments.now c.requires.arranged in
    let state = c.loop-way.invariant.0 arr in
    let bound : c.way-item.result.index < length c.args.segments.now = amid_place g.H.FillHandler.handle_gives g.H.FillHandler.finalize_gives g.F.FillStrategy.rule (data_segments_of c.args.segments.now) arr c.args.handler c.loop-index.index c.start_point_end-next.result c.loop-way.way-index (g.C.WindingCount.winding c.loop-way.sum) c.loop-way.handler (g.S.LiveSegments.sums c.loop-way.live) (g.S.LiveSegments.may_go_on_at c.loop-way.live) state way_of c.deref-way-items.result.now c.loop-way.invariant.2 c.loop-way-test.true c.way-item.result c.way-item.is (λ v at e. index_within data_segment_of c.args.segments.now g.F.FillStrategy.rule (without_data (data_segments_of c.args.segments.now)) c.way-item.result.index v e at.is) in
    bound

pub visit-requires-clause-in_range : goal.visit-requires-clause-in_range
visit-requires-clause-in_range g c =
    let arr = arranged_list (g.I.OverlayInt.whole g.I.OverlayInt.MIN_COORD) (g.I.OverlayInt.whole g.I.OverlayInt.MAX_COORD) c.args.segments.now c.requires.arranged in
    let state = c.loop-way.invariant.0 arr in
    let bound : c.way-item.result.index < length c.args.segments.now = amid_place g.H.FillHandler.handle_gives g.H.FillHandler.finalize_gives g.F.FillStrategy.rule (data_segments_of c.args.segments.now) arr c.args.handler c.loop-index.index c.start_point_end-next.result c.loop-way.way-index (g.C.WindingCount.winding c.loop-way.sum) c.loop-way.handler (g.S.LiveSegments.sums c.loop-way.live) (g.S.LiveSegments.may_go_on_at c.loop-way.live) state way_of c.deref-way-items.result.now c.loop-way.invariant.2 c.loop-way-test.true c.way-item.result c.way-item.is (λ v at e. index_within data_segment_of c.args.segments.now g.F.FillStrategy.rule (without_data (data_segments_of c.args.segments.now)) c.way-item.result.index v e at.is) in
    let usable = usable_item segment_of c.args.segments.now (g.I.OverlayInt.whole g.I.OverlayInt.MIN_COORD) (g.I.OverlayInt.whole g.I.OverlayInt.MAX_COORD) c.requires.arranged c.way-item.result.index c.index-segments-way.result bound c.index-segments-way.is in
    record { a_in_range = usable.a; b_in_range = usable.b }

pub visit-requires-clause-count : goal.visit-requires-clause-count
visit-requires-clause-count g c =
    let arr = arranged_list (g.I.OverlayInt.whole g.I.OverlayInt.MIN_COORD) (g.I.OverlayInt.whole g.I.OverlayInt.MAX_COORD) c.args.segments.now c.requires.arranged in
    let state = c.loop-way.invariant.0 arr in
    let bound : c.way-item.result.index < length c.args.segments.now = amid_place g.H.FillHandler.handle_gives g.H.FillHandler.finalize_gives g.F.FillStrategy.rule (data_segments_of c.args.segments.now) arr c.args.handler c.loop-index.index c.start_point_end-next.result c.loop-way.way-index (g.C.WindingCount.winding c.loop-way.sum) c.loop-way.handler (g.S.LiveSegments.sums c.loop-way.live) (g.S.LiveSegments.may_go_on_at c.loop-way.live) state way_of c.deref-way-items.result.now c.loop-way.invariant.2 c.loop-way-test.true c.way-item.result c.way-item.is (λ v at e. index_within data_segment_of c.args.segments.now g.F.FillStrategy.rule (without_data (data_segments_of c.args.segments.now)) c.way-item.result.index v e at.is) in
    let usable = usable_item segment_of c.args.segments.now (g.I.OverlayInt.whole g.I.OverlayInt.MIN_COORD) (g.I.OverlayInt.whole g.I.OverlayInt.MAX_COORD) c.requires.arranged c.way-item.result.index c.index-segments-way.result bound c.index-segments-way.is in
    usable.count

pub visit-requires-clause-bottom : goal.visit-requires-clause-bottom
visit-requires-clause-bottom g c =
    let arr = arranged_list (g.I.OverlayInt.whole g.I.OverlayInt.MIN_COORD) (g.I.OverlayInt.whole g.I.OverlayInt.MAX_COORD) c.args.segments.now c.requires.arranged in
    let state = c.loop-way.invariant.0 arr in
    valid_from (g.C.WindingCount.winding c.loop-way.sum) state.at_point.sum_in_range state.at_point.unmasked

pub visit-requires-clause-takes : goal.visit-requires-clause-takes
visit-requires-clause-takes g c =
    let arr = arranged_list (g.I.OverlayInt.whole g.I.OverlayInt.MIN_COORD) (g.I.OverlayInt.whole g.I.OverlayInt.MAX_COORD) c.args.segments.now c.requires.arranged in
    let state = c.loop-way.invariant.0 arr in
    let bound : c.way-item.result.index < length c.args.segments.now = amid_place g.H.FillHandler.handle_gives g.H.FillHandler.finalize_gives g.F.FillStrategy.rule (data_segments_of c.args.segments.now) arr c.args.handler c.loop-index.index c.start_point_end-next.result c.loop-way.way-index (g.C.WindingCount.winding c.loop-way.sum) c.loop-way.handler (g.S.LiveSegments.sums c.loop-way.live) (g.S.LiveSegments.may_go_on_at c.loop-way.live) state way_of c.deref-way-items.result.now c.loop-way.invariant.2 c.loop-way-test.true c.way-item.result c.way-item.is (λ v at e. index_within data_segment_of c.args.segments.now g.F.FillStrategy.rule (without_data (data_segments_of c.args.segments.now)) c.way-item.result.index v e at.is) in
    c.loop-way.invariant.1 c.way-item.result.index bound

pub visit-requires-clause-time : goal.visit-requires-clause-time
visit-requires-clause-time g c =
    let arr = arranged_list (g.I.OverlayInt.whole g.I.OverlayInt.MIN_COORD) (g.I.OverlayInt.whole g.I.OverlayInt.MAX_COORD) c.args.segments.now c.requires.arranged in
    let state = c.loop-way.invariant.0 arr in
    λ y l. amid_place g.H.FillHandler.handle_gives g.H.FillHandler.finalize_gives g.F.FillStrategy.rule (data_segments_of c.args.segments.now) arr c.args.handler c.loop-index.index c.start_point_end-next.result c.loop-way.way-index (g.C.WindingCount.winding c.loop-way.sum) c.loop-way.handler (g.S.LiveSegments.sums c.loop-way.live) (g.S.LiveSegments.may_go_on_at c.loop-way.live) state way_of c.deref-way-items.result.now c.loop-way.invariant.2 c.loop-way-test.true c.way-item.result c.way-item.is (λ v at e.
    let own : data_segment_of c.index-segments-way.result ≡ v.segment = segment_is data_segment_of c.args.segments.now g.F.FillStrategy.rule (without_data (data_segments_of c.args.segments.now)) c.way-item.result.index c.index-segments-way.result v c.index-segments-way.is e at.is in
    state.time y (subst (λ (p : Point). p.x ≤ℤ y) (ap (λ (s : DataSegment g.row.D.Denot). s.pair.a) own ∙ at.start) l))

pub visit-requires-clause-free : goal.visit-requires-clause-free
visit-requires-clause-free g c =
    let arr = arranged_list (g.I.OverlayInt.whole g.I.OverlayInt.MIN_COORD) (g.I.OverlayInt.whole g.I.OverlayInt.MAX_COORD) c.args.segments.now c.requires.arranged in
    let state = c.loop-way.invariant.0 arr in
    amid_place g.H.FillHandler.handle_gives g.H.FillHandler.finalize_gives g.F.FillStrategy.rule (data_segments_of c.args.segments.now) arr c.args.handler c.loop-index.index c.start_point_end-next.result c.loop-way.way-index (g.C.WindingCount.winding c.loop-way.sum) c.loop-way.handler (g.S.LiveSegments.sums c.loop-way.live) (g.S.LiveSegments.may_go_on_at c.loop-way.live) state way_of c.deref-way-items.result.now c.loop-way.invariant.2 c.loop-way-test.true c.way-item.result c.way-item.is (λ v at e.
    let own : data_segment_of c.index-segments-way.result ≡ v.segment = segment_is data_segment_of c.args.segments.now g.F.FillStrategy.rule (without_data (data_segments_of c.args.segments.now)) c.way-item.result.index c.index-segments-way.result v c.index-segments-way.is e at.is in
    subst (λ (s : DataSegment g.row.D.Denot). AreFreeAt s.pair.a.x (record { pair = s.pair; count = add (weight (g.C.WindingCount.winding c.loop-way.sum)) (weight s.count) } ∷ g.S.LiveSegments.sums c.loop-way.live)) (sym own)
    (subst (λ (p : Point). AreFreeAt p.x (record { pair = v.segment.pair; count = add (weight (g.C.WindingCount.winding c.loop-way.sum)) (weight v.segment.count) } ∷ g.S.LiveSegments.sums c.loop-way.live)) (sym at.start)
    (free_here g.H.FillHandler.handle_gives g.H.FillHandler.finalize_gives g.F.FillStrategy.rule (data_segments_of c.args.segments.now) arr c.args.handler c.loop-index.index c.start_point_end-next.result (start_at (without_data (data_segments_of c.args.segments.now)) c.loop-index.index) state.order state.block c.loop-way.way-index (g.C.WindingCount.winding c.loop-way.sum) c.loop-way.handler (g.S.LiveSegments.sums c.loop-way.live) v at state.at_point)))

pub returns-in-Break-clause-answer : goal.returns-in-Break-clause-answer
returns-in-Break-clause-answer g c =
    let arr = arranged_list (g.I.OverlayInt.whole g.I.OverlayInt.MIN_COORD) (g.I.OverlayInt.whole g.I.OverlayInt.MAX_COORD) c.args.segments.now c.requires.arranged in
    let state = c.loop-way.invariant.0 arr in
    sym (amid_place g.H.FillHandler.handle_gives g.H.FillHandler.finalize_gives g.F.FillStrategy.rule (data_segments_of c.args.segments.now) arr c.args.handler c.loop-index.index c.start_point_end-next.result c.loop-way.way-index (g.C.WindingCount.winding c.loop-way.sum) c.loop-way.handler (g.S.LiveSegments.sums c.loop-way.live) (g.S.LiveSegments.may_go_on_at c.loop-way.live) state way_of c.deref-way-items.result.now c.loop-way.invariant.2 c.loop-way-test.true c.way-item.result c.way-item.is (λ v at e.
    let own : data_segment_of c.index-segments-way.result ≡ v.segment = segment_is data_segment_of c.args.segments.now g.F.FillStrategy.rule (without_data (data_segments_of c.args.segments.now)) c.way-item.result.index c.index-segments-way.result v c.index-segments-way.is e at.is in
    let made = visit_is g.H.FillHandler.handle_gives g.H.FillHandler.finalize_gives g.F.FillStrategy.rule (data_segments_of c.args.segments.now) arr c.args.handler c.loop-index.index c.start_point_end-next.result c.loop-way.way-index (g.C.WindingCount.winding c.loop-way.sum) c.loop-way.handler (g.S.LiveSegments.sums c.loop-way.live) (g.S.LiveSegments.may_go_on_at c.loop-way.live) v at state c.way-item.result.index (data_segment_of c.index-segments-way.result) e own in
    let answers = ap (λ u. (g.H.FillHandler.handle_gives c.loop-way.handler u).1) (sym made) ∙ sym c.in_ok-seen.ensures.answer ∙ ap break_value c.in-Break.is in
    answered_here g.H.FillHandler.handle_gives g.H.FillHandler.finalize_gives g.F.FillStrategy.rule (data_segments_of c.args.segments.now) arr c.args.handler c.loop-index.index c.start_point_end-next.result (start_at (without_data (data_segments_of c.args.segments.now)) c.loop-index.index) state.order state.block c.loop-way.way-index (g.C.WindingCount.winding c.loop-way.sum) c.loop-way.handler (g.S.LiveSegments.sums c.loop-way.live) v at state.at_point c.in-Break.answer answers))

pub returns-in-Break-clause-in_range : goal.returns-in-Break-clause-in_range
returns-in-Break-clause-in_range g c =
    let arr = arranged_list (g.I.OverlayInt.whole g.I.OverlayInt.MIN_COORD) (g.I.OverlayInt.whole g.I.OverlayInt.MAX_COORD) c.args.segments.now c.requires.arranged in
    let state = c.loop-way.invariant.0 arr in
    ap (λ l. visits_leave_range l (visited g.H.FillHandler.handle_gives c.args.handler (visits g.F.FillStrategy.rule (data_segments_of c.args.segments.now)))) (sym (same_list c.args.segments.now))
    ∙ amid_place g.H.FillHandler.handle_gives g.H.FillHandler.finalize_gives g.F.FillStrategy.rule (data_segments_of c.args.segments.now) arr c.args.handler c.loop-index.index c.start_point_end-next.result c.loop-way.way-index (g.C.WindingCount.winding c.loop-way.sum) c.loop-way.handler (g.S.LiveSegments.sums c.loop-way.live) (g.S.LiveSegments.may_go_on_at c.loop-way.live) state way_of c.deref-way-items.result.now c.loop-way.invariant.2 c.loop-way-test.true c.way-item.result c.way-item.is (λ v at e.
    let own : data_segment_of c.index-segments-way.result ≡ v.segment = segment_is data_segment_of c.args.segments.now g.F.FillStrategy.rule (without_data (data_segments_of c.args.segments.now)) c.way-item.result.index c.index-segments-way.result v c.index-segments-way.is e at.is in
    let made = visit_is g.H.FillHandler.handle_gives g.H.FillHandler.finalize_gives g.F.FillStrategy.rule (data_segments_of c.args.segments.now) arr c.args.handler c.loop-index.index c.start_point_end-next.result c.loop-way.way-index (g.C.WindingCount.winding c.loop-way.sum) c.loop-way.handler (g.S.LiveSegments.sums c.loop-way.live) (g.S.LiveSegments.may_go_on_at c.loop-way.live) v at state c.way-item.result.index (data_segment_of c.index-segments-way.result) e own in
    let count : winding_of c.index-segments-way.result ≡ v.segment.count = ap (λ (s : DataSegment g.row.D.Denot). s.count) own in
    let answers = ap (λ u. (g.H.FillHandler.handle_gives c.loop-way.handler u).1) (sym made) ∙ sym c.in_ok-seen.ensures.answer ∙ ap break_value c.in-Break.is in
    in_range_here g.H.FillHandler.handle_gives g.H.FillHandler.finalize_gives g.F.FillStrategy.rule (data_segments_of c.args.segments.now) arr c.args.handler c.loop-index.index c.start_point_end-next.result (start_at (without_data (data_segments_of c.args.segments.now)) c.loop-index.index) state.order state.block c.loop-way.way-index (g.C.WindingCount.winding c.loop-way.sum) c.loop-way.handler (g.S.LiveSegments.sums c.loop-way.live) v at state.at_point c.in-Break.answer answers (subst (λ z. is_count_in_range (add (weight (g.C.WindingCount.winding c.loop-way.sum)) (weight z)) ≡ true) count c.in_ok-seen.ensures.in_range))

pub returns-in_err-seen-clause-out_of_range : goal.returns-in_err-seen-clause-out_of_range
returns-in_err-seen-clause-out_of_range g c =
    let arr = arranged_list (g.I.OverlayInt.whole g.I.OverlayInt.MIN_COORD) (g.I.OverlayInt.whole g.I.OverlayInt.MAX_COORD) c.args.segments.now c.requires.arranged in
    let state = c.loop-way.invariant.0 arr in
    refused_as c.from_residual-in_err-seen.result _ _ c.from_residual-in_err-seen.ensures.1 (λ fault passed h. ap (λ l. visits_leave_range l (visited g.H.FillHandler.handle_gives c.args.handler (visits g.F.FillStrategy.rule (data_segments_of c.args.segments.now)))) (sym (same_list c.args.segments.now))
    ∙ amid_place g.H.FillHandler.handle_gives g.H.FillHandler.finalize_gives g.F.FillStrategy.rule (data_segments_of c.args.segments.now) arr c.args.handler c.loop-index.index c.start_point_end-next.result c.loop-way.way-index (g.C.WindingCount.winding c.loop-way.sum) c.loop-way.handler (g.S.LiveSegments.sums c.loop-way.live) (g.S.LiveSegments.may_go_on_at c.loop-way.live) state way_of c.deref-way-items.result.now c.loop-way.invariant.2 c.loop-way-test.true c.way-item.result c.way-item.is (λ v at e.
    let own : data_segment_of c.index-segments-way.result ≡ v.segment = segment_is data_segment_of c.args.segments.now g.F.FillStrategy.rule (without_data (data_segments_of c.args.segments.now)) c.way-item.result.index c.index-segments-way.result v c.index-segments-way.is e at.is in
    let count : winding_of c.index-segments-way.result ≡ v.segment.count = ap (λ (s : DataSegment g.row.D.Denot). s.count) own in
    refused_here g.H.FillHandler.handle_gives g.H.FillHandler.finalize_gives g.F.FillStrategy.rule (data_segments_of c.args.segments.now) arr c.args.handler c.loop-index.index c.start_point_end-next.result (start_at (without_data (data_segments_of c.args.segments.now)) c.loop-index.index) state.order state.block c.loop-way.way-index (g.C.WindingCount.winding c.loop-way.sum) c.loop-way.handler (g.S.LiveSegments.sums c.loop-way.live) v at state.at_point (subst (λ z. is_count_in_range (add (weight (g.C.WindingCount.winding c.loop-way.sum)) (weight z)) ≡ false) count (c.in_err-seen.ensures.range (sym passed ∙ h)))))

pub loop-way-preserved : goal.loop-way-preserved
loop-way-preserved g c =
    let arr = arranged_list (g.I.OverlayInt.whole g.I.OverlayInt.MIN_COORD) (g.I.OverlayInt.whole g.I.OverlayInt.MAX_COORD) c.args.segments.now c.requires.arranged in
    let state = c.loop-way.invariant.0 arr in
    let bound : c.way-item.result.index < length c.args.segments.now = amid_place g.H.FillHandler.handle_gives g.H.FillHandler.finalize_gives g.F.FillStrategy.rule (data_segments_of c.args.segments.now) arr c.args.handler c.loop-index.index c.start_point_end-next.result c.loop-way.way-index (g.C.WindingCount.winding c.loop-way.sum) c.loop-way.handler (g.S.LiveSegments.sums c.loop-way.live) (g.S.LiveSegments.may_go_on_at c.loop-way.live) state way_of c.deref-way-items.result.now c.loop-way.invariant.2 c.loop-way-test.true c.way-item.result c.way-item.is (λ v at e. index_within data_segment_of c.args.segments.now g.F.FillStrategy.rule (without_data (data_segments_of c.args.segments.now)) c.way-item.result.index v e at.is) in (
      (λ arranged.
          let state = c.loop-way.invariant.0 arranged in
          amid_place g.H.FillHandler.handle_gives g.H.FillHandler.finalize_gives g.F.FillStrategy.rule (data_segments_of c.args.segments.now) arranged c.args.handler c.loop-index.index c.start_point_end-next.result c.loop-way.way-index (g.C.WindingCount.winding c.loop-way.sum) c.loop-way.handler (g.S.LiveSegments.sums c.loop-way.live) (g.S.LiveSegments.may_go_on_at c.loop-way.live) state way_of c.deref-way-items.result.now c.loop-way.invariant.2 c.loop-way-test.true c.way-item.result c.way-item.is (λ v at e.
          let own : data_segment_of c.index-segments-way.result ≡ v.segment = segment_is data_segment_of c.args.segments.now g.F.FillStrategy.rule (without_data (data_segments_of c.args.segments.now)) c.way-item.result.index c.index-segments-way.result v c.index-segments-way.is e at.is in
          let made = visit_is g.H.FillHandler.handle_gives g.H.FillHandler.finalize_gives g.F.FillStrategy.rule (data_segments_of c.args.segments.now) arranged c.args.handler c.loop-index.index c.start_point_end-next.result c.loop-way.way-index (g.C.WindingCount.winding c.loop-way.sum) c.loop-way.handler (g.S.LiveSegments.sums c.loop-way.live) (g.S.LiveSegments.may_go_on_at c.loop-way.live) v at state c.way-item.result.index (data_segment_of c.index-segments-way.result) e own in
          let count : winding_of c.index-segments-way.result ≡ v.segment.count = ap (λ (s : DataSegment g.row.D.Denot). s.count) own in
          let top = rw c.in-Continue.is at c.in_ok-seen.ensures.top in
          let left = rw c.in-Continue.is at c.in_ok-seen.ensures.live in
          let later = rw c.in-Continue.is at c.in_ok-seen.ensures.time in
          step g.H.FillHandler.handle_gives g.H.FillHandler.finalize_gives g.F.FillStrategy.rule (data_segments_of c.args.segments.now) arranged c.args.handler c.loop-index.index c.start_point_end-next.result c.loop-way.way-index (g.C.WindingCount.winding c.loop-way.sum) (g.C.WindingCount.winding c.in-Continue.top) c.loop-way.handler c.visit.new.handler (g.S.LiveSegments.sums c.loop-way.live) (g.S.LiveSegments.sums c.visit.new.live) (g.S.LiveSegments.may_go_on_at c.loop-way.live) (g.S.LiveSegments.may_go_on_at c.visit.new.live) v at state
          (ap (λ u. (g.H.FillHandler.handle_gives c.loop-way.handler u).1) (sym made) ∙ sym c.in_ok-seen.ensures.answer ∙ ap break_value c.in-Continue.is)
          (c.in_ok-seen.ensures.handler ∙ ap (λ u. (g.H.FillHandler.handle_gives c.loop-way.handler u).0) made)
          (top ∙ ap (λ z. add (weight (g.C.WindingCount.winding c.loop-way.sum)) (weight z)) count)
          (subst (λ z. is_count_in_range (add (weight (g.C.WindingCount.winding c.loop-way.sum)) (weight z)) ≡ true) count c.in_ok-seen.ensures.in_range)
          (subst (λ (p : Point). HoldSameFrom p.x (g.S.LiveSegments.sums c.visit.new.live) (record { pair = v.segment.pair; count = add (weight (g.C.WindingCount.winding c.loop-way.sum)) (weight v.segment.count) } ∷ g.S.LiveSegments.sums c.loop-way.live)) at.start
          (subst (λ (s : DataSegment g.row.D.Denot). HoldSameFrom s.pair.a.x (g.S.LiveSegments.sums c.visit.new.live) (record { pair = s.pair; count = add (weight (g.C.WindingCount.winding c.loop-way.sum)) (weight s.count) } ∷ g.S.LiveSegments.sums c.loop-way.live)) own left))
          (λ y l. later y (subst (λ (p : Point). p.x ≤ℤ y) (sym (ap (λ (s : DataSegment g.row.D.Denot). s.pair.a) own ∙ at.start)) l)))),
      (λ k l. subst (λ u. g.H.FillHandler.takes u k) (sym c.in_ok-seen.ensures.handler) (g.met.H.FillHandler.keeps_taking c.loop-way.handler _ k (c.loop-way.invariant.1 c.way-item.result.index bound) (c.loop-way.invariant.1 k l))),
      c.loop-way.invariant.2,
      omega (arith, ways_within way_of c.deref-way-items.result.now (without_data (data_segments_of c.args.segments.now)) c.loop-index.index c.start_point_end-next.result c.loop-way.invariant.2, c.loop-way-test.true),
      omega (arith, c.in_ok-seen.ensures.held, c.loop-way.invariant.4),
      (λ d most. visit_paid c.loop-way.compared c.visit.new.compared (g.S.LiveSegments.held c.loop-way.live) (g.S.LiveSegments.held c.visit.new.live) c.loop-index.index c.loop-way.way-index d (c.loop-way.invariant.5 d most) (c.in_ok-seen.ensures.most (length c.args.segments.now) d (omega (arith, c.loop-way.invariant.4, c.loop-way.invariant.3, c.start_point_end-next.ensures.after, c.start_point_end-next.ensures.within)) most)),
    )

pub loop-index-preserved : goal.loop-index-preserved
loop-index-preserved g c = (
  (λ arranged.
      let state = c.loop-way.invariant.0 arranged in
      leave g.H.FillHandler.handle_gives g.H.FillHandler.finalize_gives g.F.FillStrategy.rule (data_segments_of c.args.segments.now) arranged c.args.handler c.loop-index.index c.start_point_end-next.result c.loop-way.way-index (g.C.WindingCount.winding c.loop-way.sum) c.loop-way.handler (g.S.LiveSegments.sums c.loop-way.live) (g.S.LiveSegments.may_go_on_at c.loop-way.live) state
      (point_is_over g.H.FillHandler.handle_gives g.H.FillHandler.finalize_gives g.F.FillStrategy.rule (data_segments_of c.args.segments.now) arranged c.args.handler c.loop-index.index c.start_point_end-next.result c.loop-way.way-index (g.C.WindingCount.winding c.loop-way.sum) c.loop-way.handler (g.S.LiveSegments.sums c.loop-way.live) (g.S.LiveSegments.may_go_on_at c.loop-way.live) state way_of c.deref-way-items.result.now c.loop-way.invariant.2 c.loop-way-test.false)),
  c.loop-way.invariant.1,
  c.start_point_end-next.ensures.within,
  omega (arith, c.loop-way.invariant.3, c.loop-way.invariant.4, c.start_point_end-next.ensures.after),
  (λ d most. point_paid _ c.loop-index.index c.start_point_end-next.result c.loop-way.way-index d c.start_point_end-next.ensures.after c.loop-way.invariant.3 (c.loop-way.invariant.5 d most)),
)

pub returns-clause-answer : goal.returns-clause-answer
returns-clause-answer g c =
    let arr = arranged_list (g.I.OverlayInt.whole g.I.OverlayInt.MIN_COORD) (g.I.OverlayInt.whole g.I.OverlayInt.MAX_COORD) c.args.segments.now c.requires.arranged in
    let state = c.loop-index.invariant.0 arr in
    let past : length (data_segments_of c.args.segments.now) ≤ c.loop-index.index = subst (λ n. n ≤ c.loop-index.index) (sym (length-map c.args.segments.now data_segment_of)) c.loop-index-test.false in
    c.finalize.ensures ∙ sym (finished g.H.FillHandler.handle_gives g.H.FillHandler.finalize_gives g.F.FillStrategy.rule (data_segments_of c.args.segments.now) arr c.args.handler c.loop-index.index c.loop-index.handler (g.S.LiveSegments.sums c.loop-index.live) (g.S.LiveSegments.may_go_on_at c.loop-index.live) state past)

pub returns-clause-in_range : goal.returns-clause-in_range
returns-clause-in_range g c =
    let arr = arranged_list (g.I.OverlayInt.whole g.I.OverlayInt.MIN_COORD) (g.I.OverlayInt.whole g.I.OverlayInt.MAX_COORD) c.args.segments.now c.requires.arranged in
    let state = c.loop-index.invariant.0 arr in
    let past : length (data_segments_of c.args.segments.now) ≤ c.loop-index.index = subst (λ n. n ≤ c.loop-index.index) (sym (length-map c.args.segments.now data_segment_of)) c.loop-index-test.false in
    ap (λ l. visits_leave_range l (visited g.H.FillHandler.handle_gives c.args.handler (visits g.F.FillStrategy.rule (data_segments_of c.args.segments.now)))) (sym (same_list c.args.segments.now))
    ∙ finished_in_range g.H.FillHandler.handle_gives g.H.FillHandler.finalize_gives g.F.FillStrategy.rule (data_segments_of c.args.segments.now) arr c.args.handler c.loop-index.index c.loop-index.handler (g.S.LiveSegments.sums c.loop-index.live) (g.S.LiveSegments.may_go_on_at c.loop-index.live) state past

pub returns-clause-compared : goal.returns-clause-compared
returns-clause-compared g c = λ d most. sweep_paid c.loop-index.compared (g.S.LiveSegments.held c.loop-index.live * d) (3 * c.loop-index.index) (length c.args.segments.now) d (omega (arith, c.loop-index.invariant.2)) (c.loop-index.invariant.4 d most)

pub returns-in-Break-clause-compared : goal.returns-in-Break-clause-compared
returns-in-Break-clause-compared g c = λ d most.
    let fits = ways_within way_of c.deref-way-items.result.now (without_data (data_segments_of c.args.segments.now)) c.loop-index.index c.start_point_end-next.result c.loop-way.invariant.2 in
    sweep_paid c.visit.new.compared (g.S.LiveSegments.held c.visit.new.live * d) (3 * c.loop-index.index + 1 + 2 * (c.loop-way.way-index + 1)) (length c.args.segments.now) d (omega (arith, fits, c.loop-way-test.true, c.start_point_end-next.ensures.after, c.start_point_end-next.ensures.within))
    (visit_paid c.loop-way.compared c.visit.new.compared (g.S.LiveSegments.held c.loop-way.live) (g.S.LiveSegments.held c.visit.new.live) c.loop-index.index c.loop-way.way-index d (c.loop-way.invariant.5 d most) (c.in_ok-seen.ensures.most (length c.args.segments.now) d (omega (arith, c.loop-way.invariant.4, c.loop-way.invariant.3, c.start_point_end-next.ensures.after, c.start_point_end-next.ensures.within)) most))

pub offset_bounds-segments-index : goal.offset_bounds-segments-index
offset_bounds-segments-index g c = omega (arith, c.loop-index-test.true)

pub bounds-segments-index : goal.bounds-segments-index
bounds-segments-index g c = c.loop-index-test.true

pub start_point_end-next-requires : goal.start_point_end-next-requires
start_point_end-next-requires g c = c.loop-index-test.true

pub collect_ways-requires-clause-order : goal.collect_ways-requires-clause-order
collect_ways-requires-clause-order g c = omega (arith, c.start_point_end-next.ensures.after)

pub collect_ways-requires-clause-within : goal.collect_ways-requires-clause-within
collect_ways-requires-clause-within g c = c.start_point_end-next.ensures.within

pub returns-in_err-collect_ways-clause-answer : goal.returns-in_err-collect_ways-clause-answer
returns-in_err-collect_ways-clause-answer g c = IfOk-from_err c.from_residual.result _ c.from_residual.ensures.0

pub returns-in_err-collect_ways-clause-in_range : goal.returns-in_err-collect_ways-clause-in_range
returns-in_err-collect_ways-clause-in_range g c = IfOk-from_err c.from_residual.result _ c.from_residual.ensures.0

pub returns-in_err-collect_ways-clause-compared : goal.returns-in_err-collect_ways-clause-compared
returns-in_err-collect_ways-clause-compared g c = IfOk-from_err c.from_residual.result _ c.from_residual.ensures.0

pub sum_below-sum-requires-clause-same_x : goal.sum_below-sum-requires-clause-same_x
sum_below-sum-requires-clause-same_x g c = refl

pub offset_bounds-way-items-way-index : goal.offset_bounds-way-items-way-index
offset_bounds-way-items-way-index g c = omega (arith, c.loop-way-test.true)

pub bounds-way-items-way-index : goal.bounds-way-items-way-index
bounds-way-items-way-index g c = c.loop-way-test.true

pub returns-in_err-seen-clause-answer : goal.returns-in_err-seen-clause-answer
returns-in_err-seen-clause-answer g c = IfOk-from_err c.from_residual-in_err-seen.result _ c.from_residual-in_err-seen.ensures.0

pub returns-in_err-seen-clause-in_range : goal.returns-in_err-seen-clause-in_range
returns-in_err-seen-clause-in_range g c = IfOk-from_err c.from_residual-in_err-seen.result _ c.from_residual-in_err-seen.ensures.0

pub returns-in_err-seen-clause-compared : goal.returns-in_err-seen-clause-compared
returns-in_err-seen-clause-compared g c = IfOk-from_err c.from_residual-in_err-seen.result _ c.from_residual-in_err-seen.ensures.0

pub loop-way-smaller : goal.loop-way-smaller
loop-way-smaller g c = omega (arith, c.loop-way-test.true)

pub loop-index-smaller : goal.loop-index-smaller
loop-index-smaller g c = omega (arith, c.start_point_end-next.ensures.after, c.start_point_end-next.ensures.within, c.loop-index-test.true)
