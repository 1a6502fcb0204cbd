use Rattle.std.proofs.Common.{◌≡◌, ◌∙◌, sym, ap, subst, map, ◌++◌, List, true}
use Rattle.std.specs.List.{list_all}
use Rattle.std.specs.Prelude.{Contains}
use Rattle.overlay_geometry.specs.Points.{Point}
use Rattle.overlay_geometry.specs.PointOf.{point_of}
use Rattle.overlay_geometry.specs.Coordinates.{is_point_in_range}
use Rattle.overlay_base.specs.SegmentOf.{segments_of, pairs_in}
use Rattle.overlay_base.proofs.laws.joins.Maps.{are_ordered-map}
use Rattle.overlay_snapping.specs.PointFinderOf.{points_in}
use Rattle.overlay_snapping.specs.steps.Cutting.{points_on}
use Rattle.overlay_snapping.proofs.laws.cells.Recorded.{on_both_ok}
use Rattle.overlay_snapping.proofs.laws.closure.Repetitions.{decided_by}
use Rattle.overlay_snapping.proofs.laws.cuts.Given.{input}
use Rattle.overlay_snapping.proofs.laws.cuts.Ranges.{marks_within, marks_in_range, off_in_range, given_in_range}
use Rattle.overlay_snapping.proofs.snap.cut_finder.CutFinder.find_hot.Goals as goal

pub part_marks-requires-clause-indices : goal.part_marks-requires-clause-indices
part_marks-requires-clause-indices g c = marks_within c.args.segments.now c.requires.in_range c.args.marks.now c.requires.marks

pub part_marks-requires-clause-points : goal.part_marks-requires-clause-points
part_marks-requires-clause-points g c = marks_in_range c.args.segments.now c.requires.in_range c.args.marks.now c.requires.marks

pub close-requires-clause-points : goal.close-requires-clause-points
close-requires-clause-points g c =
    let whole = g.I.OverlayInt.whole in
    subst (λ (l : List Point). list_all (is_point_in_range (whole g.I.OverlayInt.MIN_COORD) (whole g.I.OverlayInt.MAX_COORD)) l ≡ true) (sym c.in_ok-part_marks.ensures.off)
    (off_in_range c.args.segments.now c.requires.in_range c.args.marks.now c.requires.marks)

pub close-requires-clause-given : goal.close-requires-clause-given
close-requires-clause-given g c =
    let whole = g.I.OverlayInt.whole in
    let segments = c.args.segments.now in
    let marks = c.args.marks.now in
    let listed = ap (map (point_of whole)) c.deref.ensures.value ∙ c.in_ok-part_marks.ensures.on ∙ ap (λ (l : List Point). l ++ points_on whole (pairs_in segments) marks) c.in_ok-collect_ends.ensures in
    subst (λ (l : List Point). list_all (is_point_in_range (whole g.I.OverlayInt.MIN_COORD) (whole g.I.OverlayInt.MAX_COORD)) l ≡ true) (sym listed) (given_in_range segments c.requires.in_range marks c.requires.marks)

pub close-requires-clause-input : goal.close-requires-clause-input
close-requires-clause-input g c =
    let whole = g.I.OverlayInt.whole in
    let segments = c.args.segments.now in
    let marks = c.args.marks.now in
    let listed = ap (map (point_of whole)) c.deref.ensures.value ∙ c.in_ok-part_marks.ensures.on ∙ ap (λ (l : List Point). l ++ points_on whole (pairs_in segments) marks) c.in_ok-collect_ends.ensures in
    input whole (segments_of segments) marks c.requires.marks (are_ordered-map (segments_of segments) c.requires.map) (map (point_of whole) c.part_marks.new.off.items) (map (point_of whole) c.deref.result.now)
    (λ q. (λ i. subst (λ (l : List Point). Contains l q) c.in_ok-part_marks.ensures.off i, λ i. subst (λ (l : List Point). Contains l q) (sym c.in_ok-part_marks.ensures.off) i))
    (λ q. (λ i. subst (λ (l : List Point). Contains l q) listed i, λ i. subst (λ (l : List Point). Contains l q) (sym listed) i))

pub returns : goal.returns
returns g c = record { known = on_both_ok c.close.result (λ h k. record { hot = h; decided = decided_by (segments_of c.args.segments.now) (points_in c.close.new.hot) h; recorded = k }) c.close.ensures.hot c.close.ensures.recorded }
