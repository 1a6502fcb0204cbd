use Rattle.std.proofs.Common.{◌≡◌, ◌+◌, ◌-◌, ◌^◌, ◌<◌, arith, drop, length, take, count_by, min, ℕ}
use Rattle.std.proofs.lemmas.Grind.{common_steps}
use Rattle.overlay_base.specs.Segments.{pairs}
use Rattle.overlay_base.specs.SegmentOf.{segments_of}
use Rattle.overlay_base.proofs.laws.geometry.Apart.{are_ordered}
use Rattle.overlay_intersections.specs.Looked.{x_ranges_meet}
use Rattle.overlay_intersections.specs.MarkOf.{marks_of}
use Rattle.overlay_intersections.specs.PlacingOf.{placing_of}
use Rattle.overlay_tree.specs.steps.Swept.{pair_at}
use Rattle.overlay_tree.proofs.laws.list.ListScans.{IsScanned, IsScanned-block, IsScanned-end, rest_apart, all_met}
use Rattle.overlay_tree.proofs.laws.list.Listed.{listed_within, listed_marks, listed_crosses}
use Rattle.overlay_tree.proofs.laws.tree.Sweeps.{length-pairs}
use Rattle.overlay_tree.proofs.split.solver_list.mark_with_later.Goals as goal
use Rattle.overlay_tree.proofs.split.solver_list.mark_with_later.Goals.{then-near_end-index-gt-NEAR+in_ok-rounded-2, else-near_end-index-gt-NEAR}

-- what is found of those that follow up to the end, and that none is counted from there on
done : (g : _) (c : goal.After-saturating_add g) →
    IsScanned (placing_of c.args.placing) c.args.index (pairs (segments_of c.args.segments.now)) (marks_of g.I.OverlayInt.whole c.args.marks.now.items) (marks_of g.I.OverlayInt.whole c.if-near_end-index-gt-NEAR.marks.items) c.if-near_end-index-gt-NEAR.rounded (c.args.index + 1) c.if-near_end-index-gt-NEAR.end
    × (c.args.index + 1 + count_by (x_ranges_meet (pair_at (pairs (segments_of c.args.segments.now)) c.args.index)) (drop (c.args.index + 1) (pairs (segments_of c.args.segments.now))) ≡ c.if-near_end-index-gt-NEAR.end)
    × (count_by (x_ranges_meet (pair_at (pairs (segments_of c.args.segments.now)) c.args.index)) (drop c.if-near_end-index-gt-NEAR.end (pairs (segments_of c.args.segments.now))) ≡ 0)
done g c =
    let whole = g.I.OverlayInt.whole in
    let ps = pairs (segments_of c.args.segments.now) in
    let placing = placing_of c.args.placing in
    let i = c.args.index in
    let old = marks_of whole c.args.marks.now.items in
    let near = marks_of whole c.mark_listed.new.marks.items in
    let met = take c.list_near-count.result.0 c.list_near-count.new.met in
    let listed = c.list_near-count.ensures.listed in
    let from = c.list_near-count.result.1 in
    let scan : IsScanned placing i ps old near c.in_ok-rounded.rounded (i + 1) from = record {
      found = listed_marks placing i ps old near (i + 1) from met listed c.in_ok-rounded.ensures.marks;
      flag = listed_crosses i ps c.in_ok-rounded.rounded (i + 1) from met listed c.in_ok-rounded.ensures.rounded;
    } in
    elim c.if-near_end-index-gt-NEAR.branch [
      | then-near_end-index-gt-NEAR+in_ok-rounded-2 w ↦
          rw (w.marks-is, w.rounded-is, w.end-is) (
            IsScanned-block placing i ps old near (marks_of whole w.mark_by_blocks.new.marks.items) c.in_ok-rounded.rounded w.in_ok-rounded-2.field-0 (i + 1) from w.end_of_reach-end.result scan w.in_ok-rounded-2.ensures.marks w.in_ok-rounded-2.ensures.rounded,
            all_met i _ w.end_of_reach-end.result _ w.end_of_reach-end.ensures.reach.told w.end_of_reach-end.ensures.past,
            w.end_of_reach-end.ensures.past,
          )
      | else-near_end-index-gt-NEAR w ↦
          let none : count_by (x_ranges_meet (pair_at ps i)) (drop from ps) ≡ 0 = c.list_near-count.ensures.past (let few = w.if-near_end-index-gt-NEAR.false in omega (arith, few)) in
          rw (w.marks-is, w.rounded-is, w.end-is) (scan, all_met i _ from _ c.list_near-count.ensures.reach.told none, none)
    ]

pub mark_listed-requires-clause-met : goal.mark_listed-requires-clause-met
mark_listed-requires-clause-met g c =
    listed_within (pairs (segments_of c.args.segments.now)) c.args.index (c.args.index + 1) c.list_near-count.result.1 (length c.args.segments.now) (take c.list_near-count.result.0 c.list_near-count.new.met) c.list_near-count.ensures.listed (length-pairs c.args.segments.now)

pub returns-clause-marks : goal.returns-clause-marks
returns-clause-marks g c =
    let whole = g.I.OverlayInt.whole in
    let ps = pairs (segments_of c.args.segments.now) in
    let count = length-pairs c.args.segments.now in
    let below = c.requires.index in
    let lt : c.args.index < length ps = omega (arith, count, below) in
    let all = done g c in
    (IsScanned-end (placing_of c.args.placing) c.args.index ps (marks_of whole c.args.marks.now.items) (marks_of whole c.if-near_end-index-gt-NEAR.marks.items) c.if-near_end-index-gt-NEAR.rounded c.if-near_end-index-gt-NEAR.end lt all.0.found all.0.flag (rest_apart ps c.args.index c.if-near_end-index-gt-NEAR.end (are_ordered c.args.segments.now) lt all.2)).0

pub returns-clause-rounded : goal.returns-clause-rounded
returns-clause-rounded g c =
    let whole = g.I.OverlayInt.whole in
    let ps = pairs (segments_of c.args.segments.now) in
    let count = length-pairs c.args.segments.now in
    let below = c.requires.index in
    let lt : c.args.index < length ps = omega (arith, count, below) in
    let all = done g c in
    (IsScanned-end (placing_of c.args.placing) c.args.index ps (marks_of whole c.args.marks.now.items) (marks_of whole c.if-near_end-index-gt-NEAR.marks.items) c.if-near_end-index-gt-NEAR.rounded c.if-near_end-index-gt-NEAR.end lt all.0.found all.0.flag (rest_apart ps c.args.index c.if-near_end-index-gt-NEAR.end (are_ordered c.args.segments.now) lt all.2)).1

pub returns-clause-looked : goal.returns-clause-looked
returns-clause-looked g c = counted c.args.looked.now _ c.args.index c.if-near_end-index-gt-NEAR.end c.saturating_add.result (2 ^ 128 - 1) c.saturating_add.ensures (done g c).1
  where
    counted : (old w i end new most : ℕ) → new ≡ min (old + (end - i - 1)) most → i + 1 + w ≡ end → new ≡ min (old + w) most
    counted old w i end new most e told = omega arith

pub mark_by_blocks-requires-clause-within : goal.mark_by_blocks-requires-clause-within
mark_by_blocks-requires-clause-within g c = grind (arith, common_steps)
