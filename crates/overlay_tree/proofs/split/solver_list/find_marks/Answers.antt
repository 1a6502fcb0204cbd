use Rattle.std.proofs.Common.{drop, ◌+◌, ◌-◌, sym, ap, ◌∙◌, Bool, true, ◌||◌}
use Rattle.overlay_base.specs.Segments.{pairs}
use Rattle.overlay_base.specs.SegmentOf.{segments_of}
use Rattle.overlay_intersections.specs.PlacingOf.{placing_of}
use Rattle.overlay_intersections.specs.MarkOf.{marks_of}
use Rattle.overlay_intersections.proofs.laws.marks.FoundMarks.{pairs-some, all_passed, or_true, or_false}
use Rattle.overlay_intersections.proofs.laws.marks.FoundEach.{IsWalked-more, IsWalked-end, some_cross_inexactly-is}
use Rattle.std.specs.Prelude.{min, ◌^◌, count_by}
use Rattle.overlay_geometry.specs.Points.{Pair}
use Rattle.overlay_intersections.specs.Looked.{x_ranges_meet}
use Rattle.overlay_tree.proofs.laws.list.ListLooks.{AreTold, AreTold-more, AreTold-end, pair_at-first}
use Rattle.overlay_intersections.proofs.laws.marks.LineMarks.{AreMarks-from_sorted}
use Rattle.overlay_tree.proofs.split.solver_list.find_marks.Goals as goal
use Rattle.overlay_tree.proofs.split.solver_list.find_marks.Goals.{then-branch, else-branch}

pub loop-index-preserved : goal.loop-index-preserved
loop-index-preserved g c =
    let ps = pairs (segments_of c.args.segments.now) in
    let first = pairs-some c.args.segments.now c.loop-index.index c.loop-index-test.true in
    let told : AreTold ps c.args.looked.now c.mark_with_later.new.looked (c.loop-index.index + 1) =
    AreTold-more first.0 ps c.args.looked.now c.loop-index.looked c.mark_with_later.new.looked c.loop-index.index c.loop-index.invariant.told first.1
    (c.in_ok-mark_with_later.ensures.looked ∙ ap (λ (s : Pair). min (c.loop-index.looked + count_by (x_ranges_meet s) (drop (c.loop-index.index + 1) ps)) (2 ^ 128 - 1)) (pair_at-first ps c.loop-index.index first.0 (drop (c.loop-index.index + 1) ps) first.1)) in
    elim c.if-branch.branch [
      | then-branch w ↦
          let crosses = sym c.in_ok-mark_with_later.ensures.rounded ∙ w.if-branch.true in
          rw w.rounded-is (record { told = told; walk = IsWalked-more (placing_of c.args.placing) (pairs (segments_of c.args.segments.now)) (marks_of g.I.OverlayInt.whole c.loop-index.marks.items) (marks_of g.I.OverlayInt.whole c.mark_with_later.new.marks.items) c.loop-index.rounded true c.loop-index.index first.0 c.loop-index.invariant.walk first.1 c.in_ok-mark_with_later.ensures.marks (or_true c.loop-index.rounded ∙ ap (λ (b : Bool). c.loop-index.rounded || b) (sym crosses)) })
      | else-branch w ↦
          let exact = sym c.in_ok-mark_with_later.ensures.rounded ∙ w.if-branch.false in
          rw w.rounded-is (record { told = told; walk = IsWalked-more (placing_of c.args.placing) (pairs (segments_of c.args.segments.now)) (marks_of g.I.OverlayInt.whole c.loop-index.marks.items) (marks_of g.I.OverlayInt.whole c.mark_with_later.new.marks.items) c.loop-index.rounded c.loop-index.rounded c.loop-index.index first.0 c.loop-index.invariant.walk first.1 c.in_ok-mark_with_later.ensures.marks (or_false c.loop-index.rounded ∙ ap (λ (b : Bool). c.loop-index.rounded || b) (sym exact)) })
    ]

pub returns-clause-marks : goal.returns-clause-marks
returns-clause-marks g c =
    let end = IsWalked-end (placing_of c.args.placing) (pairs (segments_of c.args.segments.now)) (marks_of g.I.OverlayInt.whole c.loop-index.marks.items) c.loop-index.rounded c.loop-index.index c.loop-index.invariant.walk (all_passed c.args.segments.now c.loop-index.index c.loop-index-test.false) in
    AreMarks-from_sorted g.I.PartialEq.eq g.I.Ord.cmp g.I.OverlayInt.whole g.met.I.Ord.matches_eq g.met.I.OverlayInt.ordered (placing_of c.args.placing) (segments_of c.args.segments.now)
    c.loop-index.marks.items c.sort_marks.new.marks.items c.dedup.new.self.items end.0 c.in_ok-sort_marks.ensures.permutation c.in_ok-sort_marks.ensures.sorted c.dedup.ensures.filtered

pub returns-clause-rounded : goal.returns-clause-rounded
returns-clause-rounded g c =
    let end = IsWalked-end (placing_of c.args.placing) (pairs (segments_of c.args.segments.now)) (marks_of g.I.OverlayInt.whole c.loop-index.marks.items) c.loop-index.rounded c.loop-index.index c.loop-index.invariant.walk (all_passed c.args.segments.now c.loop-index.index c.loop-index-test.false) in
    end.1 ∙ some_cross_inexactly-is (segments_of c.args.segments.now)

pub returns-clause-looked : goal.returns-clause-looked
returns-clause-looked g c =
    AreTold-end (pairs (segments_of c.args.segments.now)) c.args.looked.now c.loop-index.looked c.loop-index.index c.loop-index.invariant.told (all_passed c.args.segments.now c.loop-index.index c.loop-index-test.false)
