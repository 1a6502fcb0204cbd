use Rattle.std.proofs.Common.{◌∙◌, sym, ap, subst, IsTrue}
use Rattle.std.specs.Prelude.{IfSome}
use Rattle.overlay_base.specs.ArrangedOf.{IsSplittable}
use Rattle.overlay_base.specs.Planar.{is_splittable}
use Rattle.overlay_base.specs.Segments.{is_map}
use Rattle.overlay_base.specs.SegmentOf.{segment_of, segments_of}
use Rattle.overlay_base.proofs.laws.joins.Maps.{is_map-join, are_ordered-map, join-map}
use Rattle.overlay_base.proofs.laws.joins.Rests.{is_splittable-valid}
use Rattle.overlay_base.proofs.laws.joins.Views.{segments_ordered}
use Rattle.overlay_grid.specs.GridFor.{IsGridFor}
use Rattle.overlay_grid.specs.GroupsOf.{grid_in}
use Rattle.overlay_intersections.specs.MarkOf.{AreMarks, marks_of}
use Rattle.overlay_intersections.specs.Marks.{settling}
use Rattle.overlay_intersections.specs.PassMarks.{marks_on, is_rounded}
use Rattle.overlay_cuts.specs.Run.{after_passes}
use Rattle.overlay_cuts.specs.Pass.{pass}
use Rattle.overlay_cuts.proofs.laws.passes.GridRuns.{run_lies_inside}
use Rattle.overlay_cuts.proofs.laws.passes.Ready.{IsPairInRange-each, IsSortedByKey-is_map}
use Rattle.overlay_cuts.proofs.laws.passes.Splittable.{is_splittable-join}
use Rattle.overlay_snapping.specs.steps.Resolved.{AreResolved, AreResolvedCut}
use Rattle.overlay_snapping.proofs.laws.chains.MarkLists.{cut_marks}
use Rattle.overlay_snapping.proofs.laws.cuts.ExactMarks.{exact_cuts}
use Rattle.overlay_snapping.proofs.laws.collinear.Ends.{usable}
use Rattle.overlay_snapping.proofs.laws.collinear.JoinedPieces.{join_is_resolved}
use Rattle.overlay_snapping.proofs.laws.collinear.Resolving.{given_not_rounded, pass_of_pieces}
use Rattle.overlay_snapping.proofs.snap.collinear.split_pieces.Goals as goal

pub join_with_store-requires : goal.join_with_store-requires
join_with_store-requires g c =
    let splittable = subst (λ r. IfSome r (λ pieces. IsSplittable pieces.items)) c.in-Some.is c.in_ok-pieces.ensures.splittable in
    is_splittable-valid segment_of _ _ c.in-Some.pieces.items splittable

pub pass_at-requires-clause-map : goal.pass_at-requires-clause-map
pass_at-requires-clause-map g c = subst (λ l. IsTrue (is_map l)) (sym c.in_ok-repeated.ensures.geometry) (is_map-join (segments_of c.in-Some.pieces.items) (segments_ordered c.in-Some.pieces.items))

pub pass_at-requires-clause-splittable : goal.pass_at-requires-clause-splittable
pass_at-requires-clause-splittable g c =
    let least = g.I.OverlayInt.whole g.I.OverlayInt.MIN_COORD in
    let greatest = g.I.OverlayInt.whole g.I.OverlayInt.MAX_COORD in
    let splittable = subst (λ r. IfSome r (λ pieces. IsSplittable pieces.items)) c.in-Some.is c.in_ok-pieces.ensures.splittable in
    subst (λ l. IsTrue (is_splittable least greatest l)) (sym c.in_ok-repeated.ensures.geometry)
    (is_splittable-join least greatest (segments_of c.in-Some.pieces.items) splittable c.in_ok-repeated.ensures.fits (is_map-join (segments_of c.in-Some.pieces.items) (segments_ordered c.in-Some.pieces.items)))

pub new-requires : goal.new-requires
new-requires g c =
    let least = g.I.OverlayInt.whole g.I.OverlayInt.MIN_COORD in
    let greatest = g.I.OverlayInt.whole g.I.OverlayInt.MAX_COORD in
    let splittable = subst (λ r. IfSome r (λ pieces. IsSplittable pieces.items)) c.in-Some.is c.in_ok-pieces.ensures.splittable in
    IsPairInRange-each c.as_slice.result.now g.I.OverlayInt.MIN_COORD g.I.OverlayInt.MAX_COORD
    (subst (λ l. IsTrue (is_splittable least greatest (segments_of l))) (sym c.as_slice.ensures.value)
    (subst (λ l. IsTrue (is_splittable least greatest l)) (sym c.in_ok-repeated.ensures.geometry)
    (is_splittable-join least greatest (segments_of c.in-Some.pieces.items) splittable c.in_ok-repeated.ensures.fits (is_map-join (segments_of c.in-Some.pieces.items) (segments_ordered c.in-Some.pieces.items)))))

pub find_marks-requires-clause-sorted : goal.find_marks-requires-clause-sorted
find_marks-requires-clause-sorted g c =
    IsSortedByKey-is_map c.as_slice-2.result.now
    (subst (λ l. IsTrue (is_map (segments_of l))) (sym c.as_slice-2.ensures.value)
    (subst (λ l. IsTrue (is_map l)) (sym c.in_ok-repeated.ensures.geometry) (is_map-join (segments_of c.in-Some.pieces.items) (segments_ordered c.in-Some.pieces.items))))

pub find_marks-requires-clause-in_range : goal.find_marks-requires-clause-in_range
find_marks-requires-clause-in_range g c =
    let least = g.I.OverlayInt.whole g.I.OverlayInt.MIN_COORD in
    let greatest = g.I.OverlayInt.whole g.I.OverlayInt.MAX_COORD in
    let splittable = subst (λ r. IfSome r (λ pieces. IsSplittable pieces.items)) c.in-Some.is c.in_ok-pieces.ensures.splittable in
    IsPairInRange-each c.as_slice-2.result.now g.I.OverlayInt.MIN_COORD g.I.OverlayInt.MAX_COORD
    (subst (λ l. IsTrue (is_splittable least greatest (segments_of l))) (sym c.as_slice-2.ensures.value)
    (subst (λ l. IsTrue (is_splittable least greatest l)) (sym c.in_ok-repeated.ensures.geometry)
    (is_splittable-join least greatest (segments_of c.in-Some.pieces.items) splittable c.in_ok-repeated.ensures.fits (is_map-join (segments_of c.in-Some.pieces.items) (segments_ordered c.in-Some.pieces.items)))))

-- the list is its own join, and so that of a run of no passes
pub find_marks-requires-clause-inside : goal.find_marks-requires-clause-inside
unfolding after_passes
find_marks-requires-clause-inside g c =
    let segments = segments_of c.as_slice-2.result.now in
    let map = subst (λ l. IsTrue (is_map (segments_of l))) (sym c.as_slice-2.ensures.value)
    (subst (λ l. IsTrue (is_map l)) (sym c.in_ok-repeated.ensures.geometry) (is_map-join (segments_of c.in-Some.pieces.items) (segments_ordered c.in-Some.pieces.items))) in
    let same = sym (join-map segments map) in
    let grid = subst (λ l. IsGridFor c.args.solver.now.strategy (segments_of l) (grid_in c.in_ok-finder.finder.grid)) (c.as_slice.ensures.value ∙ sym c.as_slice-2.ensures.value) c.in_ok-finder.ensures.grid in
    run_lies_inside c.args.solver.now.strategy (record { start = 0; progression = 0; cap = 0; limit = 0 }) segments segments (grid_in c.in_ok-finder.finder.grid) 0 (are_ordered-map segments map)
    (subst (λ l. IsGridFor c.args.solver.now.strategy l (grid_in c.in_ok-finder.finder.grid)) same grid) same

pub pass_at-requires-clause-marks : goal.pass_at-requires-clause-marks
pass_at-requires-clause-marks g c =
    let joined = segments_of c.join_with_store.new.list.items in
    let marks = marks_of g.I.OverlayInt.whole c.find_marks.new.marks.items in
    let found = c.in_ok-is_rounded.ensures in
    let are = subst (λ l. AreMarks settling (segments_of l) marks) c.as_slice-2.ensures.value found.marks in
    let exact = sym (ap (λ l. is_rounded (segments_of l)) c.as_slice-2.ensures.value) ∙ sym found.rounded ∙ c.if-is_rounded.false in
    cut_marks joined marks (exact_cuts joined marks (segments_ordered c.join_with_store.new.list.items) exact are)

pub returns : goal.returns
unfolding pass
returns g c =
    let given = segments_of c.args.list.now in
    let pieces = segments_of c.in-Some.pieces.items in
    let joined = segments_of c.join_with_store.new.list.items in
    let marks = marks_of g.I.OverlayInt.whole c.find_marks.new.marks.items in
    let found = c.in_ok-is_rounded.ensures in
    let are = subst (λ l. AreMarks settling (segments_of l) marks) c.as_slice-2.ensures.value found.marks in
    let exact = sym (ap (λ l. is_rounded (segments_of l)) c.as_slice-2.ensures.value) ∙ sym found.rounded ∙ c.if-is_rounded.false in
    let splittable = subst (λ r. IfSome r (λ pieces. IsSplittable pieces.items)) c.in-Some.is c.in_ok-pieces.ensures.splittable in
    let cut : AreResolvedCut given pieces = subst (λ r. IfSome r (λ pieces. AreResolvedCut given (segments_of pieces.items))) c.in-Some.is c.in_ok-pieces.ensures.resolved in
    let once = sym c.in_ok-repeated.ensures.repeated ∙ c.if-repeated.false in
    let resolved = subst (AreResolved given) (sym c.in_ok-repeated.ensures.geometry) (join_is_resolved pieces once (λ s i. (usable _ _ pieces s splittable i).filled) given cut.resolved) in
    let o = segments_ordered c.args.list.now in
    let k = segments_ordered c.join_with_store.new.list.items in
    record {
      not_rounded = given_not_rounded given joined o k resolved exact;
      passed = c.in_ok-pass_at.ensures.geometry (marks_on settling joined) (record { in_order = are.in_order; within = are.within; each = are.each }) ∙ pass_of_pieces given joined o k resolved exact;
      cut = cut.cut;
    }
