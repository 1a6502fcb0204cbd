use Rattle.std.proofs.Common.{◌≡◌, ◌∙◌, ◌∷◌, ◌++◌, [], List, ap, sym, subst, arith}
use Rattle.std.specs.Prelude.{OnOk}
use Rattle.std.proofs.lemmas.List.{map-append}
use Rattle.overlay_base.specs.SegmentOf.{segment_of, segments_of}
use Rattle.overlay_sweep.specs.steps.WayOf.{WholeWay, way_of, ways_of, ways_between, by_angle}
use Rattle.overlay_sweep.proofs.laws.live.StartPoints.{ways_between-more}
use Rattle.overlay_sweep.proofs.build.start_point.collect_ways.Goals as goal

pub loop-at-preserved : goal.loop-at-preserved
loop-at-preserved g c = (
  omega (arith, c.loop-at.invariant.0),
  omega (arith, c.loop-at-test.true),
  ap ways_of c.in_ok-push.ensures.items
      ∙ map-append way_of c.loop-at.ways.items _
      ∙ ap (λ (w : WholeWay). ways_of c.loop-at.ways.items ++ w ∷ []) c.new.ensures
      ∙ ap (λ (l : List WholeWay). l ++ record { index = c.loop-at.at; pair = (segment_of c.index-segments-at.result).pair } ∷ []) c.loop-at.invariant.2
      ∙ sym (ways_between-more segment_of c.args.segments.now c.args.index c.loop-at.at c.index-segments-at.result c.loop-at.invariant.0 (omega (arith, c.loop-at-test.true, c.requires.within)) c.index-segments-at.is),
)

pub returns : goal.returns
returns g c =
    let same : c.loop-at.at ≡ c.args.next = (let low = c.loop-at.invariant.1 in let high = c.loop-at-test.false in omega (arith, low, high)) in
    subst (λ (l : List WholeWay). OnOk c.sort_by_angle.result (ways_of c.sort_by_angle.new.ways.items ≡ by_angle l))
    (c.loop-at.invariant.2 ∙ ap (ways_between (segments_of c.args.segments.now) c.args.index) same)
    c.sort_by_angle.ensures
