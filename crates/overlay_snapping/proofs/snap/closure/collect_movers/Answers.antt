use Rattle.std.proofs.Common.{◌∙◌, refl, sym, subst, ◌+◌, map, arith, List, []}
use Rattle.std.proofs.lemmas.Bool.{both_ways}
use Rattle.overlay_base.specs.SegmentOf.{pairs_in}
use Rattle.overlay_geometry.specs.PointOf.{point_of}
use Rattle.overlay_geometry.specs.PairOf.{pair_of}
use Rattle.overlay_geometry.specs.declared.geom.point.IntPoint.{IntPoint}
use Rattle.overlay_snapping.specs.PointFinderOf.{points_in}
use Rattle.overlay_snapping.specs.steps.Closing.{PassesSome}
use Rattle.overlay_snapping.specs.steps.Met.{AddsAllMet}
use Rattle.overlay_snapping.specs.steps.Recorded.{AreRecorded}
use Rattle.overlay_snapping.proofs.laws.cells.Recorded.{none_recorded, recorded_at}
use Rattle.overlay_snapping.proofs.laws.closure.Movers.{AreMoversBelow, movers_none, movers_pushed, movers_kept, movers_all}
use Rattle.overlay_snapping.proofs.laws.cuts.Reads.{pairs_long, segment_there}
use Rattle.overlay_snapping.proofs.snap.closure.collect_movers.Goals as goal
use Rattle.overlay_snapping.proofs.snap.closure.collect_movers.Goals.{then-branch+in_ok-push, else-branch, then-len-index+then-points_len-most+in_ok-push-2, else-len-index}

pub loop-index-init : goal.loop-index-init
loop-index-init g c =
    record {
      movers = movers_none (pairs_in c.args.segments.now) (points_in c.args.hot.now) c.clear.new.self.items c.clear.ensures.items;
      recorded = none_recorded (point_of g.I.OverlayInt.whole) (pairs_in c.args.segments.now) (points_in c.args.hot.now) c.args.meetings.now.points.items c.args.meetings.now.parts.items c.requires.none;
      same = refl;
    }

pub passes_some-requires-clause-in_range : goal.passes_some-requires-clause-in_range
passes_some-requires-clause-in_range g c = rw (c.x_segment.ensures, c.index-segments-index.is) (c.requires.in_range c.loop-index.index c.index-segments-index.result c.loop-index-test.true)

pub loop-index-preserved : goal.loop-index-preserved
loop-index-preserved g c =
    let whole = g.I.OverlayInt.whole in
    let xs = c.args.segments.now in
    let i = c.loop-index.index in
    let s = pair_of whole c.x_segment.result in
    let points = points_in c.args.hot.now in
    let at = segment_there xs i c.index-segments-index.result c.x_segment.result c.loop-index-test.true c.index-segments-index.is c.x_segment.ensures in
    let h = c.loop-index.invariant.movers in
    let hot = c.loop-index.invariant.same in
    let movers : AreMoversBelow (pairs_in xs) points (i + 1) c.if-branch.movers.items = elim c.if-branch.branch [
      | then-branch+in_ok-push w ↦
          rw w.movers-is (movers_pushed (pairs_in xs) points i c.loop-index.movers.items h s at w.push.new.self.items w.in_ok-push.ensures.items
          (subst (λ (l : List (IntPoint _)). PassesSome (map (point_of whole) l) s) hot (c.in_ok-passes_some.ensures.passes.0 w.if-branch.true)))
      | else-branch w ↦
          rw w.movers-is (movers_kept (pairs_in xs) points i c.loop-index.movers.items h s at
          (λ p. absurd (both_ways _ w.if-branch.false (c.in_ok-passes_some.ensures.passes.1 (subst (λ (l : List (IntPoint _)). PassesSome (map (point_of whole) l) s) (sym hot) p)))))
    ] in
    let met : AddsAllMet s points [] (map (point_of whole) c.passes_some.new.met.items) = subst (λ (l : List (IntPoint _)). AddsAllMet s (map (point_of whole) l) [] (map (point_of whole) c.passes_some.new.met.items)) hot c.in_ok-passes_some.ensures.met in
    let before = c.loop-index.meetings in
    let recorded : AreRecorded (pairs_in xs) points c.if-len-index.meetings = elim c.if-len-index.branch [
      | then-len-index+then-points_len-most+in_ok-push-2 w ↦
          let now = w.push-then-points_len-most.new.self in
          rw w.meetings-is (recorded_at (point_of whole) (pairs_in xs) points before.points.items now.points.items before.parts.items now.parts.items c.passes_some.new.met.items w.deref.result.now w.deref.ensures.value s i
          c.loop-index.invariant.recorded w.in_ok-push-2.ensures.kept w.in_ok-push-2.ensures.added w.in_ok-push-2.ensures.longer c.len.result c.len.ensures w.if-len-index.true at met)
      | else-len-index w ↦ rw w.meetings-is c.loop-index.invariant.recorded
    ] in
    record { movers = movers; recorded = recorded; same = c.passes_some.ensures.same ∙ hot }

pub returns-clause-movers : goal.returns-clause-movers
returns-clause-movers g c =
    let long = pairs_long c.args.segments.now in
    let past = c.loop-index-test.false in
    movers_all (pairs_in c.args.segments.now) (points_in c.args.hot.now) c.loop-index.index c.loop-index.movers.items (omega (arith, long, past)) c.loop-index.invariant.movers
