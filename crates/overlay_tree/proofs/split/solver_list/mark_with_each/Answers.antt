use Rattle.std.proofs.Common.{◌≡◌, ◌<◌, arith, take, length, Bool}
use Rattle.std.proofs.lemmas.Result.{on_ok_weaker, IfOk-weaker}
use Rattle.std.proofs.lemmas.Grind.{common_steps}
use Rattle.overlay_base.specs.Segments.{pairs}
use Rattle.overlay_base.specs.SegmentOf.{segments_of}
use Rattle.overlay_intersections.specs.MarkOf.{marks_of}
use Rattle.overlay_intersections.specs.PlacingOf.{placing_of}
use Rattle.overlay_tree.proofs.laws.list.ListScans.{met_at}
use Rattle.overlay_tree.proofs.laws.list.Listed.{AreListed-more, listed_within, listed_marks, listed_crosses}
use Rattle.overlay_tree.proofs.laws.tree.Sweeps.{length-pairs}
use Rattle.overlay_tree.proofs.split.solver_list.mark_with_each.Goals as goal

pub loop-later-preserved : goal.loop-later-preserved
loop-later-preserved g c =
    let whole = g.I.OverlayInt.whole in
    let ps = pairs (segments_of c.args.segments.now) in
    let i = c.args.index in
    let j = c.loop-later.later in
    let count = length-pairs c.args.segments.now in
    let since = c.loop-later.auto.later in
    let test = c.loop-later-test.true in
    let after = c.requires.after in
    let within = c.requires.within in
    let lt : j < length ps = omega (arith, count, test, within) in
    let here : i < length ps = omega (arith, lt, since, after) in
    let meets = met_at whole c.args.ranges.now ps i j c.index-ranges-index.result c.index-ranges-later.result c.do_meet.result c.requires.heights here lt
    c.index-ranges-index.is c.index-ranges-later.is c.do_meet.ensures in
    record {
      few = let few = c.loop-later.invariant.few in let one = c.keep_if-count.ensures.count in omega (arith, few, one);
      listed = rw c.keep_if-count.ensures.kept (AreListed-more ps i c.args.from j (take c.loop-later.count c.loop-later.met) c.do_meet.result c.loop-later.invariant.listed (omega (arith, since, after)) lt meets);
    }

pub mark_listed-requires-clause-met : goal.mark_listed-requires-clause-met
mark_listed-requires-clause-met g c =
    listed_within (pairs (segments_of c.args.segments.now)) c.args.index c.args.from c.loop-later.later (length c.args.segments.now) (take c.loop-later.count c.loop-later.met) c.loop-later.invariant.listed (length-pairs c.args.segments.now)

pub returns-clause-marks : goal.returns-clause-marks
returns-clause-marks g c =
    let whole = g.I.OverlayInt.whole in
    let ps = pairs (segments_of c.args.segments.now) in
    let last = c.loop-later.auto.later-end c.requires.order in
    let past = c.loop-later-test.false in
    let done : c.loop-later.later ≡ c.args.end = omega (arith, last, past) in
    let listed = rw done at c.loop-later.invariant.listed in
    on_ok_weaker c.mark_listed.result
    (listed_marks (placing_of c.args.placing) c.args.index ps (marks_of whole c.args.marks.now.items) (marks_of whole c.mark_listed.new.marks.items) c.args.from c.args.end (take c.loop-later.count c.loop-later.met) listed) c.mark_listed.ensures.marks

pub returns-clause-rounded : goal.returns-clause-rounded
returns-clause-rounded g c =
    let ps = pairs (segments_of c.args.segments.now) in
    let last = c.loop-later.auto.later-end c.requires.order in
    let past = c.loop-later-test.false in
    let done : c.loop-later.later ≡ c.args.end = omega (arith, last, past) in
    let listed = rw done at c.loop-later.invariant.listed in
    IfOk-weaker c.mark_listed.result _ _ (λ (rounded : Bool). listed_crosses c.args.index ps rounded c.args.from c.args.end (take c.loop-later.count c.loop-later.met) listed) c.mark_listed.ensures.rounded

pub offset_bounds-ranges-index : goal.offset_bounds-ranges-index
offset_bounds-ranges-index g c = grind (arith, common_steps)

pub bounds-ranges-index : goal.bounds-ranges-index
bounds-ranges-index g c = grind (arith, common_steps)

pub offset_bounds-ranges-later : goal.offset_bounds-ranges-later
offset_bounds-ranges-later g c = grind (arith, common_steps)

pub bounds-ranges-later : goal.bounds-ranges-later
bounds-ranges-later g c = grind (arith, common_steps)
