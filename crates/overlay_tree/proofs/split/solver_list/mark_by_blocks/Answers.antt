use Rattle.std.proofs.Common.{◌≡◌, refl, ◌<◌, ◌≤◌, ◌+◌, ◌-◌, sym, ◌∙◌, take, drop, length, arith}
use Rattle.std.specs.List.{AllByRecursion}
use Rattle.std.proofs.lemmas.Result.{IfOk-from_err}
use Rattle.overlay_base.specs.Segments.{pairs}
use Rattle.overlay_base.specs.SegmentOf.{segments_of}
use Rattle.overlay_intersections.specs.MarkOf.{marks_of}
use Rattle.overlay_intersections.specs.PlacingOf.{placing_of}
use Rattle.overlay_intersections.proofs.laws.marks.ApartPairs.{AreApart}
use Rattle.overlay_tree.specs.steps.Swept.{pair_at}
use Rattle.overlay_tree.proofs.laws.list.ListScans.{IsScanned-block, IsScanned-none, uncounted, heights_at, heights_are_many, block_is_apart}
use Rattle.overlay_tree.proofs.laws.tree.Sweeps.{length-pairs}
use Rattle.overlay_tree.proofs.split.solver_list.mark_by_blocks.Goals as goal
use Rattle.overlay_tree.proofs.split.solver_list.mark_by_blocks.Goals.{then-meets_some+in_ok-rounded, else-meets_some}

pub bounds-ranges-index : goal.bounds-ranges-index
bounds-ranges-index g c =
    let many = heights_are_many g.I.OverlayInt.whole c.args.ranges.now (pairs (segments_of c.args.segments.now)) c.requires.heights in
    let count = length-pairs c.args.segments.now in
    let after = c.requires.after in
    let order = c.requires.order in
    let within = c.requires.within in
    omega (arith, many, count, after, order, within)

pub slice_bounds-block-end : goal.slice_bounds-block-end
slice_bounds-block-end g c =
    let many = heights_are_many g.I.OverlayInt.whole c.args.ranges.now (pairs (segments_of c.args.segments.now)) c.requires.heights in
    let count = length-pairs c.args.segments.now in
    let test = c.whole-test.true in
    let within = c.requires.within in
    omega (arith, many, count, test, within)

pub whole-preserved : goal.whole-preserved
whole-preserved g c =
    let whole = g.I.OverlayInt.whole in
    let ps = pairs (segments_of c.args.segments.now) in
    let placing = placing_of c.args.placing in
    let i = c.args.index in
    let j = c.whole.from in
    let count = length-pairs c.args.segments.now in
    let test = c.whole-test.true in
    let within = c.requires.within in
    let after = c.whole.invariant.after in
    let lt : j + 16 ≤ length ps = omega arith in
    let first : i < length ps = omega arith in
    record {
      scan = elim c.if-meets_some.branch [
        | then-meets_some+in_ok-rounded w ↦
            rw (w.marks-is, w.rounded-is) (IsScanned-block placing i ps (marks_of whole c.args.marks.now.items) (marks_of whole c.whole.marks.items) (marks_of whole w.mark_with_each.new.marks.items) c.whole.rounded w.in_ok-rounded.field-0 c.args.start j (j + 16) c.whole.invariant.scan w.in_ok-rounded.ensures.marks w.in_ok-rounded.ensures.rounded)
        | else-meets_some w ↦
            let own = heights_at whole c.args.ranges.now ps i c.index-ranges-index.result c.requires.heights first c.index-ranges-index.is in
            let size : j + 16 - j ≡ 16 = omega arith in
            let none = uncounted _ (sym c.meets_some.ensures ∙ w.if-meets_some.false) in
            let block : AllByRecursion (AreApart (pair_at ps i)) (take 16 (drop j ps)) = block_is_apart whole c.args.ranges.now ps (pair_at ps i) c.index-ranges-index.result j 16 c.requires.heights own (rw size at none) in
            rw (w.marks-is, w.rounded-is) (IsScanned-none placing i ps (marks_of whole c.args.marks.now.items) (marks_of whole c.whole.marks.items) c.whole.rounded c.args.start j 16 c.whole.invariant.scan lt block)
      ];
      after = omega arith;
      within = omega arith;
    }

pub mark_with_each-requires-clause-heights : goal.mark_with_each-requires-clause-heights
mark_with_each-requires-clause-heights g c = c.requires.heights

pub mark_with_each-requires-clause-sorted : goal.mark_with_each-requires-clause-sorted
mark_with_each-requires-clause-sorted g c = c.requires.sorted

pub mark_with_each-requires-clause-in_range : goal.mark_with_each-requires-clause-in_range
mark_with_each-requires-clause-in_range g c = c.requires.in_range

pub mark_with_each-requires-clause-radius : goal.mark_with_each-requires-clause-radius
mark_with_each-requires-clause-radius g c = c.requires.radius

pub mark_with_each-requires-2-clause-heights : goal.mark_with_each-requires-2-clause-heights
mark_with_each-requires-2-clause-heights g c = c.requires.heights

pub mark_with_each-requires-2-clause-sorted : goal.mark_with_each-requires-2-clause-sorted
mark_with_each-requires-2-clause-sorted g c = c.requires.sorted

pub mark_with_each-requires-2-clause-in_range : goal.mark_with_each-requires-2-clause-in_range
mark_with_each-requires-2-clause-in_range g c = c.requires.in_range

pub mark_with_each-requires-2-clause-radius : goal.mark_with_each-requires-2-clause-radius
mark_with_each-requires-2-clause-radius g c = c.requires.radius

pub returns-in_err-rounded-clause-marks : goal.returns-in_err-rounded-clause-marks
returns-in_err-rounded-clause-marks g c = IfOk-from_err c.from_residual.result _ c.from_residual.ensures.0

pub returns-in_err-rounded-clause-rounded : goal.returns-in_err-rounded-clause-rounded
returns-in_err-rounded-clause-rounded g c = IfOk-from_err c.from_residual.result _ c.from_residual.ensures.0

pub returns-in_err-rounded-2-clause-marks : goal.returns-in_err-rounded-2-clause-marks
returns-in_err-rounded-2-clause-marks g c =
    IfOk-from_err c.from_residual-in_err-rounded-2.result _ c.from_residual-in_err-rounded-2.ensures.0

pub returns-in_err-rounded-2-clause-rounded : goal.returns-in_err-rounded-2-clause-rounded
returns-in_err-rounded-2-clause-rounded g c =
    IfOk-from_err c.from_residual-in_err-rounded-2.result _ c.from_residual-in_err-rounded-2.ensures.0

pub whole-init : goal.whole-init
whole-init g c =
    record { scan = record { found = refl; flag = refl }; after = c.requires.after; within = c.requires.order }

pub mark_with_each-requires-clause-after : goal.mark_with_each-requires-clause-after
mark_with_each-requires-clause-after g c = c.whole.invariant.after

pub mark_with_each-requires-clause-order : goal.mark_with_each-requires-clause-order
mark_with_each-requires-clause-order g c = omega arith

pub mark_with_each-requires-clause-within : goal.mark_with_each-requires-clause-within
mark_with_each-requires-clause-within g c = let test = c.whole-test.true in let within = c.requires.within in omega (arith, test, within)

pub mark_with_each-requires-2-clause-after : goal.mark_with_each-requires-2-clause-after
mark_with_each-requires-2-clause-after g c = c.whole.invariant.after

pub mark_with_each-requires-2-clause-order : goal.mark_with_each-requires-2-clause-order
mark_with_each-requires-2-clause-order g c = c.whole.invariant.within

pub mark_with_each-requires-2-clause-within : goal.mark_with_each-requires-2-clause-within
mark_with_each-requires-2-clause-within g c = c.requires.within

pub offset_bounds-ranges-index : goal.offset_bounds-ranges-index
offset_bounds-ranges-index g c =
    let many = heights_are_many g.I.OverlayInt.whole c.args.ranges.now (pairs (segments_of c.args.segments.now)) c.requires.heights in
    let count = length-pairs c.args.segments.now in
    let after = c.requires.after in
    let order = c.requires.order in
    let within = c.requires.within in
    omega (arith, many, count, after, order, within)

pub offset_bounds-ranges-from : goal.offset_bounds-ranges-from
offset_bounds-ranges-from g c =
    let many = heights_are_many g.I.OverlayInt.whole c.args.ranges.now (pairs (segments_of c.args.segments.now)) c.requires.heights in
    let count = length-pairs c.args.segments.now in
    let test = c.whole-test.true in
    let within = c.requires.within in
    omega (arith, many, count, test, within)
