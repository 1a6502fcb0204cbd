use Rattle.std.proofs.Common.{◌≡◌, ◌+◌, ◌<◌, ◌∙◌, sym, ap, subst, arith, take, length, ℕ}
use Rattle.std.proofs.lemmas.Grind.{common_steps, elements}
use Rattle.std.specs.Prelude.{◌≤ℤ◌, ◌<ℤ◌}
use Rattle.overlay_geometry.specs.PairOf.{pair_of}
use Rattle.overlay_geometry.proofs.laws.integers.Tests.{lt-tested, lt-tested_false}
use Rattle.overlay_base.specs.Segments.{pairs}
use Rattle.overlay_base.specs.SegmentOf.{segments_of}
use Rattle.overlay_base.proofs.laws.geometry.Apart.{are_ordered}
use Rattle.overlay_tree.specs.steps.ListScan.{AreListed}
use Rattle.overlay_tree.specs.steps.Swept.{pair_at}
use Rattle.overlay_tree.proofs.laws.list.ListLooks.{none_past}
use Rattle.overlay_tree.proofs.laws.list.ListScans.{IsTold-next, met_at, heights_are_many, pair_next, ordered_at}
use Rattle.overlay_tree.proofs.laws.list.Listed.{AreListed-more}
use Rattle.overlay_tree.proofs.laws.tree.Sweeps.{pair_at-is, length-pairs, pairs_in_order}
use Rattle.overlay_tree.proofs.split.solver_list.list_near.Goals as goal

pub bounds-ranges-later : goal.bounds-ranges-later
bounds-ranges-later g c =
    let many = heights_are_many g.I.OverlayInt.whole c.args.ranges.now (pairs (segments_of c.args.segments.now)) c.requires.heights in
    let count = length-pairs c.args.segments.now in
    omega arith

pub loop-later-preserved : goal.loop-later-preserved
loop-later-preserved g c =
    let whole = g.I.OverlayInt.whole in
    let ps = pairs (segments_of c.args.segments.now) in
    let i = c.args.index in
    let j = c.loop-later.later in
    let count = length-pairs c.args.segments.now in
    let order = pairs_in_order c.args.segments.now c.requires.sorted in
    let after = c.loop-later.invariant.reach.after in
    let inside : j < length c.args.segments.now = omega arith in
    let lt : j < length ps = omega arith in
    let here : i < length ps = omega arith in
    let first : pair_at ps i ≡ pair_of whole c.x_segment-target.result = pair_at-is c.args.segments.now i c.index-segments-index.result c.requires.index c.index-segments-index.is ∙ ap (pair_of whole) (sym c.x_segment-target.ensures) in
    let second : pair_at ps j ≡ pair_of whole c.x_segment.result = pair_at-is c.args.segments.now j c.index-segments-later.result inside c.index-segments-later.is ∙ ap (pair_of whole) (sym c.x_segment.ensures) in
    let reached : (pair_at ps j).a.x ≤ℤ (pair_at ps i).b.x = rw (first, second) (lt-tested_false (whole c.x_segment-target.result.b.x) (whole c.x_segment.result.a.x) (sym c.begins_past_end.ensures ∙ c.if-begins_past_end.false)) in
    let meets = met_at whole c.args.ranges.now ps i j c.index-ranges-index.result c.index-ranges-later.result c.do_meet.result c.requires.heights here lt
    c.index-ranges-index.is c.index-ranges-later.is c.do_meet.ensures in
    record {
      few = let few = c.loop-later.invariant.few in let one = c.keep_if-count.ensures.count in omega (arith, few, one);
      listed = rw c.keep_if-count.ensures.kept (AreListed-more ps i (i + 1) j (take c.loop-later.count c.loop-later.met) c.do_meet.result c.loop-later.invariant.listed after lt meets);
      reach = record {
        told = IsTold-next ps i j j order (are_ordered c.args.segments.now) after (omega arith) lt reached c.loop-later.invariant.reach.told;
        after = omega (arith, after);
        within = omega (arith, lt);
      };
    }

pub returns-then-begins_past_end-clause-past : goal.returns-then-begins_past_end-clause-past
returns-then-begins_past_end-clause-past g c few =
    let whole = g.I.OverlayInt.whole in
    let ps = pairs (segments_of c.args.segments.now) in
    let i = c.args.index in
    let j = c.loop-later.later in
    let count = length-pairs c.args.segments.now in
    let order = pairs_in_order c.args.segments.now c.requires.sorted in
    let inside : j < length c.args.segments.now = omega arith in
    let lt : j < length ps = omega arith in
    let here : i < length ps = omega arith in
    let first : pair_at ps i ≡ pair_of whole c.x_segment-target.result = pair_at-is c.args.segments.now i c.index-segments-index.result c.requires.index c.index-segments-index.is ∙ ap (pair_of whole) (sym c.x_segment-target.ensures) in
    let second : pair_at ps j ≡ pair_of whole c.x_segment.result = pair_at-is c.args.segments.now j c.index-segments-later.result inside c.index-segments-later.is ∙ ap (pair_of whole) (sym c.x_segment.ensures) in
    let less : (pair_at ps i).b.x <ℤ (pair_at ps j).a.x = rw (first, second) (lt-tested (whole c.x_segment-target.result.b.x) (whole c.x_segment.result.a.x) (sym c.begins_past_end.ensures ∙ c.if-begins_past_end.true)) in
    none_past ps j (pair_at ps i) (pair_at ps j) order (are_ordered c.args.segments.now) (ordered_at ps i (are_ordered c.args.segments.now) here) (pair_next ps j lt) less

pub returns-clause-listed : goal.returns-clause-listed
returns-clause-listed g c =
    let upto = c.loop-later.auto.later-end (omega arith) in
    let past = c.loop-later-test.false in
    let last : c.loop-later.later ≡ c.args.index + 1 + c.min-few.result = omega arith in
    subst (λ (n : ℕ). AreListed (pairs (segments_of c.args.segments.now)) c.args.index (c.args.index + 1) n (take c.loop-later.count c.loop-later.met)) last c.loop-later.invariant.listed

pub returns-clause-past : goal.returns-clause-past
returns-clause-past g c = grind (arith, common_steps)

pub offset_bounds-ranges-later : goal.offset_bounds-ranges-later
offset_bounds-ranges-later g c = grind (arith, common_steps)

pub offset_bounds-ranges-index : goal.offset_bounds-ranges-index
offset_bounds-ranges-index g c = grind (arith, elements)

pub bounds-ranges-index : goal.bounds-ranges-index
bounds-ranges-index g c = grind (arith, elements)
