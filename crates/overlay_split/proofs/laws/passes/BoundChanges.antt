-- Rectangles around the segments that a pass marks bound what it changes.
use Rattle.std.proofs.Common.{◌≡◌, sym, subst, IsTrue, List, Vec}
use Rattle.std.specs.Global.{Global}
use Rattle.std.specs.Prelude.{Option, Some, None, IfSome}
use Rattle.overlay_geometry.specs.declared.geom.rect.IntRect.{IntRect}
use Rattle.overlay_base.specs.SegmentOf.{segments_of, pairs_in}
use Rattle.overlay_base.specs.Segments.{pairs, is_map, are_ordered}
use Rattle.overlay_base.specs.declared.segm.segment.Segment.{Segment}
use Rattle.overlay_base.proofs.laws.joins.Views.{segments_ordered}
use Rattle.overlay_intersections.specs.MarkOf.{marks_of, AreMarks}
use Rattle.overlay_intersections.specs.Marks.{Placing}
use Rattle.overlay_intersections.specs.PassMarks.{marks_on}
use Rattle.overlay_intersections.specs.declared.split.line_mark.LineMark.{LineMark}
use Rattle.overlay_cuts.specs.CutOf.{ForMarks}
use Rattle.overlay_cuts.specs.Pass.{pass}
use Rattle.overlay_split.specs.steps.ChangedBoxes.{AreAround, AreFromLeft, AreApartElsewhere, BoundChange, rects_of}
use Rattle.overlay_split.proofs.laws.passes.ChangedPairs.{apart_elsewhere}
use Rattle.overlay_cuts.proofs.laws.passes.Ready.{AreMarksBy-pass}

pub bound_change : {C I D : Type 0} {m : _} {w : _} {o : _} {e : _} {p : _} (placing : Placing) (xs ys : List (Segment C I D m w o e p)) (marks : List (LineMark I)) (boxes : Option (Vec (IntRect I) Global)) → IsTrue (is_map (segments_of xs)) →
    AreMarks placing (segments_of xs) (marks_of w.whole marks) → IfSome boxes (λ b. ForMarks xs marks (λ on. AreAround on (pairs_in xs) (rects_of w.whole b.items))) → IfSome boxes (λ b. AreFromLeft (rects_of w.whole b.items)) →
    segments_of ys ≡ pass placing (segments_of xs) → BoundChange w.whole boxes (segments_of ys)
bound_change placing xs ys marks None map are around from_left e = tt
bound_change {w = w} placing xs ys marks (Some boxes) map are around from_left e =
    let segments = segments_of xs in
    let ordered = subst (λ l. IsTrue (are_ordered l)) e (segments_ordered ys) in (
      from_left,
      subst (λ l. AreApartElsewhere (rects_of w.whole boxes.items) (pairs l)) (sym e)
          (apart_elsewhere placing segments map (rects_of w.whole boxes.items) (around (marks_on placing segments) (AreMarksBy-pass placing segments (marks_of w.whole marks) are)) ordered),
    )
