use Rattle.std.proofs.Common.{◌≡◌, ◌<◌, ◌+◌, ◌-◌, sym, ap, ◌∙◌, length, arith, count_by}
use Rattle.std.specs.Prelude.{◌≤ℤ◌, ◌<ℤ◌}
use Rattle.std.proofs.lemmas.List.{at_drop_all}
use Rattle.overlay_geometry.specs.PairOf.{pair_of}
use Rattle.overlay_geometry.proofs.laws.integers.Tests.{lt-tested, lt-tested_false}
use Rattle.overlay_base.specs.Segments.{pairs}
use Rattle.overlay_base.specs.SegmentOf.{segments_of}
use Rattle.overlay_base.proofs.laws.geometry.Apart.{are_ordered}
use Rattle.overlay_intersections.specs.Looked.{x_ranges_meet}
use Rattle.overlay_tree.specs.steps.Swept.{pair_at}
use Rattle.overlay_tree.proofs.laws.list.ListLooks.{none_past}
use Rattle.overlay_tree.proofs.laws.list.ListScans.{IsTold-next, IsTold-block, reaching_first, pair_next, ordered_at}
use Rattle.overlay_tree.proofs.laws.tree.Sweeps.{pair_at-is, length-pairs, pairs_in_order}
use Rattle.overlay_tree.proofs.split.solver_list.end_of_reach.Goals as goal

pub leaps-preserved : goal.leaps-preserved
leaps-preserved g c =
    let whole = g.I.OverlayInt.whole in
    let ps = pairs (segments_of c.args.segments.now) in
    let i = c.args.index in
    let count = length-pairs c.args.segments.now in
    let below = reaching_first ps i c.args.from (length c.args.segments.now) c.requires.reach count in
    let first : pair_at ps i ≡ pair_of whole c.x_segment-target.result = pair_at-is c.args.segments.now i c.index-segments-index.result below c.index-segments-index.is ∙ ap (pair_of whole) (sym c.x_segment-target.ensures) in
    let order = pairs_in_order c.args.segments.now c.requires.sorted in
    let j = c.leaps.end in
    let test = c.leaps-test.true in
    let after = c.leaps.invariant.reach.after in
    let inside : j + 16 - 1 < length c.args.segments.now = omega arith in
    let second : pair_at ps (j + 16 - 1) ≡ pair_of whole c.x_segment.result = pair_at-is c.args.segments.now (j + 16 - 1) c.index-segments-end.result inside c.index-segments-end.is ∙ ap (pair_of whole) (sym c.x_segment.ensures) in
    let reached : (pair_at ps (j + 16 - 1)).a.x ≤ℤ (pair_at ps i).b.x = rw (first, second) (lt-tested_false (whole c.x_segment-target.result.b.x) (whole c.x_segment.result.a.x) (sym c.begins_past_end.ensures ∙ c.if-begins_past_end.false)) in
    record {
      reach = record {
        told = IsTold-block ps i j 16 (j + 16 - 1) order (are_ordered c.args.segments.now) after (omega arith) (omega arith) reached c.leaps.invariant.reach.told;
        after = omega arith;
        within = omega arith;
      };
      from = let from = c.leaps.invariant.from in omega (arith, from);
    }

pub steps-preserved : goal.steps-preserved
steps-preserved g c =
    let whole = g.I.OverlayInt.whole in
    let ps = pairs (segments_of c.args.segments.now) in
    let i = c.args.index in
    let count = length-pairs c.args.segments.now in
    let below = reaching_first ps i c.args.from (length c.args.segments.now) c.requires.reach count in
    let first : pair_at ps i ≡ pair_of whole c.x_segment-target.result = pair_at-is c.args.segments.now i c.index-segments-index.result below c.index-segments-index.is ∙ ap (pair_of whole) (sym c.x_segment-target.ensures) in
    let order = pairs_in_order c.args.segments.now c.requires.sorted in
    let j = c.steps.end in
    let test = c.steps-test.true in
    let after = c.steps.invariant.reach.after in
    let second : pair_at ps j ≡ pair_of whole c.x_segment-in-steps.result = pair_at-is c.args.segments.now j c.index-segments-end-in-steps.result test c.index-segments-end-in-steps.is ∙ ap (pair_of whole) (sym c.x_segment-in-steps.ensures) in
    let reached : (pair_at ps j).a.x ≤ℤ (pair_at ps i).b.x = rw (first, second) (lt-tested_false (whole c.x_segment-target.result.b.x) (whole c.x_segment-in-steps.result.a.x) (sym c.begins_past_end-in-steps.ensures ∙ c.if-begins_past_end-2.false)) in
    record {
      reach = record {
        told = IsTold-next ps i j j order (are_ordered c.args.segments.now) after (omega arith) (omega arith) reached c.steps.invariant.reach.told;
        after = omega arith;
        within = omega arith;
      };
      from = let from = c.steps.invariant.from in omega (arith, from);
    }

pub returns-then-begins_past_end-2-clause-past : goal.returns-then-begins_past_end-2-clause-past
returns-then-begins_past_end-2-clause-past g c =
    let whole = g.I.OverlayInt.whole in
    let ps = pairs (segments_of c.args.segments.now) in
    let i = c.args.index in
    let count = length-pairs c.args.segments.now in
    let below = reaching_first ps i c.args.from (length c.args.segments.now) c.requires.reach count in
    let first : pair_at ps i ≡ pair_of whole c.x_segment-target.result = pair_at-is c.args.segments.now i c.index-segments-index.result below c.index-segments-index.is ∙ ap (pair_of whole) (sym c.x_segment-target.ensures) in
    let order = pairs_in_order c.args.segments.now c.requires.sorted in
    let j = c.steps.end in
    let test = c.steps-test.true in
    let lt : j < length ps = omega arith in
    let here : i < length ps = omega arith in
    let second : pair_at ps j ≡ pair_of whole c.x_segment-in-steps.result = pair_at-is c.args.segments.now j c.index-segments-end-in-steps.result test c.index-segments-end-in-steps.is ∙ ap (pair_of whole) (sym c.x_segment-in-steps.ensures) in
    let less : (pair_at ps i).b.x <ℤ (pair_at ps j).a.x = rw (first, second) (lt-tested (whole c.x_segment-target.result.b.x) (whole c.x_segment-in-steps.result.a.x) (sym c.begins_past_end-in-steps.ensures ∙ c.if-begins_past_end-2.true)) in
    none_past ps j (pair_at ps i) (pair_at ps j) order (are_ordered c.args.segments.now) (ordered_at ps i (are_ordered c.args.segments.now) here) (pair_next ps j lt) less

pub bounds-segments-index : goal.bounds-segments-index
bounds-segments-index g c = reaching_first (pairs (segments_of c.args.segments.now)) c.args.index c.args.from (length c.args.segments.now) c.requires.reach (length-pairs c.args.segments.now)

pub bounds-segments-end : goal.bounds-segments-end
bounds-segments-end g c = let test = c.leaps-test.true in omega (arith, test)

pub bounds-segments-end-in-steps : goal.bounds-segments-end-in-steps
bounds-segments-end-in-steps g c = c.steps-test.true

pub steps-init : goal.steps-init
steps-init g c = c.leaps.invariant

pub returns-after-steps-clause-from : goal.returns-after-steps-clause-from
returns-after-steps-clause-from g c = c.steps.invariant.from

pub returns-after-steps-clause-reach : goal.returns-after-steps-clause-reach
returns-after-steps-clause-reach g c = c.steps.invariant.reach

pub leaps-init : goal.leaps-init
leaps-init g c = record { reach = c.requires.reach; from = omega arith }

pub returns-after-steps-clause-past : goal.returns-after-steps-clause-past
returns-after-steps-clause-past g c =
    let ps = pairs (segments_of c.args.segments.now) in
    let count = length-pairs c.args.segments.now in
    let end = c.steps-test.false in
    at_drop_all (count_by (x_ranges_meet (pair_at ps c.args.index))) ps c.steps.end (omega (arith, count, end))

pub returns-then-begins_past_end-2-clause-from : goal.returns-then-begins_past_end-2-clause-from
returns-then-begins_past_end-2-clause-from g c = c.steps.invariant.from

pub returns-then-begins_past_end-2-clause-reach : goal.returns-then-begins_past_end-2-clause-reach
returns-then-begins_past_end-2-clause-reach g c = c.steps.invariant.reach
