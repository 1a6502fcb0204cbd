use Rattle.std.proofs.Common.{ℕ, ◌≡◌, ◌<◌, refl, sym, ap, ap₂, subst, ◌∙◌, get_or, length, append-nil, arith, IsTrue, Bool, ◌||◌}
use Rattle.std.proofs.Math.Nat.{le_of_lt}
use Rattle.std.proofs.lemmas.List.{take_all}
use Rattle.std.proofs.lemmas.Result.{IfOk-from_err}
use borrow.Author.Count.{falls}
use Rattle.overlay_geometry.specs.Points.{Pair, pair_lt, is_ordered}
use Rattle.overlay_base.specs.Segments.{pairs}
use Rattle.overlay_geometry.specs.PairOf.{pair_of}
use Rattle.overlay_base.specs.SegmentOf.{segments_of}
use Rattle.overlay_intersections.specs.PlacingOf.{placing_of}
use Rattle.overlay_intersections.specs.MarkOf.{marks_of}
use Rattle.overlay_tree.specs.steps.Swept.{pair_at}
use Rattle.overlay_intersections.proofs.laws.marks.ApartPairs.{ends_differ}
use Rattle.overlay_intersections.proofs.laws.marks.FoundMarks.{or_true, or_false}
use Rattle.overlay_tree.proofs.laws.tree.Sweeps.{pair_at-is, pairs_in_order, length-pairs, later_not_less}
use Rattle.overlay_tree.proofs.laws.tree.SweptMarks.{marks_with_found-more, crosses_found-more}
use Rattle.overlay_tree.proofs.split.solver_tree.mark_with_found.Goals as goal
use Rattle.overlay_tree.proofs.split.solver_tree.mark_with_found.Goals.{then-branch, else-branch}

further_below : {i j n : ℕ} → i < j → j < n → i < n
further_below h k = omega arith

pub mark_both-requires-clause-first_apart : goal.mark_both-requires-clause-first_apart
mark_both-requires-clause-first_apart g c =
    let ordered : IsTrue (is_ordered (pair_of g.I.OverlayInt.whole c.x_segment-in-loop-earlier.result)) = subst (λ v. IsTrue (is_ordered (pair_of g.I.OverlayInt.whole v))) (sym c.x_segment-in-loop-earlier.ensures) c.index-segments-earlier.result.ordered in
    ends_differ (pair_of g.I.OverlayInt.whole c.x_segment-in-loop-earlier.result) ordered

pub mark_both-requires-clause-second_apart : goal.mark_both-requires-clause-second_apart
mark_both-requires-clause-second_apart g c =
    let ordered : IsTrue (is_ordered (pair_of g.I.OverlayInt.whole c.x_segment.result)) = subst (λ v. IsTrue (is_ordered (pair_of g.I.OverlayInt.whole v))) (sym c.x_segment.ensures) c.index-segments-index.result.ordered in
    ends_differ (pair_of g.I.OverlayInt.whole c.x_segment.result) ordered

pub mark_both-requires-clause-order : goal.mark_both-requires-clause-order
mark_both-requires-clause-order g c =
    let whole = g.I.OverlayInt.whole in
    let xs = c.args.segments.now in
    let earlier = get_or c.args.found.now c.loop-earlier.earlier-index 0 in
    let lt : earlier < c.args.index = c.requires.found c.loop-earlier.earlier-index 0 c.loop-earlier-test.true in
    let first = pair_at-is xs earlier c.index-segments-earlier.result (omega arith) c.index-segments-earlier.is ∙ ap (pair_of whole) (sym c.x_segment-in-loop-earlier.ensures) in
    let second = pair_at-is xs c.args.index c.index-segments-index.result c.requires.index c.index-segments-index.is ∙ ap (pair_of whole) (sym c.x_segment.ensures) in
    let less = later_not_less (pairs (segments_of xs)) earlier c.args.index (pairs_in_order xs c.requires.sorted) lt (omega (arith, length-pairs xs)) in
    sym (ap₂ (λ (s t : Pair). pair_lt t s) first second) ∙ less

pub loop-earlier-preserved : goal.loop-earlier-preserved
loop-earlier-preserved g c =
    let whole = g.I.OverlayInt.whole in
    let placing = placing_of c.args.placing in
    let xs = c.args.segments.now in
    let ps = pairs (segments_of xs) in
    let found = c.args.found.now in
    let i = c.loop-earlier.earlier-index in
    let earlier = get_or found i 0 in
    let lt : earlier < c.args.index = c.requires.found i 0 c.loop-earlier-test.true in
    let s = pair_of whole c.x_segment-in-loop-earlier.result in
    let t = pair_of whole c.x_segment.result in
    let first : pair_at ps earlier ≡ s = pair_at-is xs earlier c.index-segments-earlier.result (omega arith) c.index-segments-earlier.is ∙ ap (pair_of whole) (sym c.x_segment-in-loop-earlier.ensures) in
    let second : pair_at ps c.args.index ≡ t = pair_at-is xs c.args.index c.index-segments-index.result c.requires.index c.index-segments-index.is ∙ ap (pair_of whole) (sym c.x_segment.ensures) in
    let rounded : c.if-branch.rounded ≡ (c.loop-earlier.rounded || c.in_ok-mark_both.field-0) = elim c.if-branch.branch [
      | then-branch w ↦ rw (w.rounded-is, w.if-branch.true) (or_true c.loop-earlier.rounded)
      | else-branch w ↦ rw (w.rounded-is, w.if-branch.false) (or_false c.loop-earlier.rounded)
    ] in (
      marks_with_found-more placing ps c.args.index found i s t (marks_of whole c.args.marks.now.items) (marks_of whole c.loop-earlier.marks.items) (marks_of whole c.mark_both.new.marks.items) c.loop-earlier-test.true first second c.loop-earlier.invariant.0 c.in_ok-mark_both.ensures.marks,
      crosses_found-more ps c.args.index found i s t c.loop-earlier.rounded c.if-branch.rounded c.loop-earlier-test.true first second c.loop-earlier.invariant.1 (rounded ∙ ap (λ (b : Bool). c.loop-earlier.rounded || b) c.in_ok-mark_both.ensures.rounded),
    )

pub offset_bounds-segments-index : goal.offset_bounds-segments-index
offset_bounds-segments-index g c = le_of_lt c.requires.index

pub bounds-segments-index : goal.bounds-segments-index
bounds-segments-index g c = c.requires.index

pub loop-earlier-init : goal.loop-earlier-init
loop-earlier-init g c = (sym (append-nil _), refl)

pub bounds-found-earlier-index : goal.bounds-found-earlier-index
bounds-found-earlier-index g c = c.loop-earlier-test.true

pub offset_bounds-segments-earlier : goal.offset_bounds-segments-earlier
offset_bounds-segments-earlier g c = le_of_lt (further_below (c.requires.found c.loop-earlier.earlier-index 0 c.loop-earlier-test.true) c.requires.index)

pub bounds-segments-earlier : goal.bounds-segments-earlier
bounds-segments-earlier g c = further_below (c.requires.found c.loop-earlier.earlier-index 0 c.loop-earlier-test.true) c.requires.index

pub mark_both-requires-clause-radius : goal.mark_both-requires-clause-radius
mark_both-requires-clause-radius g c = c.requires.radius

pub mark_both-requires-clause-first : goal.mark_both-requires-clause-first
mark_both-requires-clause-first g c =
    let earlier = get_or c.args.found.now c.loop-earlier.earlier-index 0 in
    let within : earlier < length c.args.segments.now = further_below (c.requires.found c.loop-earlier.earlier-index 0 c.loop-earlier-test.true) c.requires.index in
    rw (c.x_segment-in-loop-earlier.ensures, c.index-segments-earlier.is) (c.requires.in_range earlier c.index-segments-earlier.result within)

pub mark_both-requires-clause-second : goal.mark_both-requires-clause-second
mark_both-requires-clause-second g c = rw (c.x_segment.ensures, c.index-segments-index.is) (c.requires.in_range c.args.index c.index-segments-index.result c.requires.index)

pub returns-in_err-mark_both-clause-marks : goal.returns-in_err-mark_both-clause-marks
returns-in_err-mark_both-clause-marks g c = IfOk-from_err c.from_residual.result _ c.from_residual.ensures.0

pub returns-in_err-mark_both-clause-rounded : goal.returns-in_err-mark_both-clause-rounded
returns-in_err-mark_both-clause-rounded g c = IfOk-from_err c.from_residual.result _ c.from_residual.ensures.0

pub loop-earlier-smaller : goal.loop-earlier-smaller
loop-earlier-smaller g c = falls (length c.args.found.now) c.loop-earlier.earlier-index c.loop-earlier-test.true

pub returns-clause-marks : goal.returns-clause-marks
returns-clause-marks g c = rw (take_all c.loop-earlier.earlier-index c.args.found.now c.loop-earlier-test.false) at c.loop-earlier.invariant.0

pub returns-clause-rounded : goal.returns-clause-rounded
returns-clause-rounded g c = rw (take_all c.loop-earlier.earlier-index c.args.found.now c.loop-earlier-test.false) at c.loop-earlier.invariant.1
