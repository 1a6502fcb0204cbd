-- Whether a list of segments may be split, and whether it is arranged, in the coordinates of its engine.
use Rattle.std.specs.Prelude.{IsTrue, List, All}
use Rattle.overlay_base.specs.Planar.{is_splittable, is_arranged}
use Rattle.overlay_base.specs.SegmentOf.{segments_of, x_segment_of}
use Rattle.overlay_base.specs.declared.segm.segment.Segment.{Segment}
use Rattle.overlay_geometry.specs.InRange.{IsPairInRange}

-- the type's own arguments say what its least and its greatest coordinate are
abbrev pub IsSplittable : {C I D : Type 0} {m : _} {w : _} {o : _} {e : _} {p : _} → List (Segment C I D m w o e p) → Type 0
IsSplittable {w = w} list = IsTrue (is_splittable (w.whole w.MIN_COORD) (w.whole w.MAX_COORD) (segments_of list))

abbrev pub IsArranged : {C I D : Type 0} {m : _} {w : _} {o : _} {e : _} {p : _} → List (Segment C I D m w o e p) → Type 0
IsArranged {w = w} list = IsTrue (is_arranged (w.whole w.MIN_COORD) (w.whole w.MAX_COORD) (segments_of list))

-- every segment of a list has its coordinates in that range
abbrev pub AreInRange : {C I D : Type 0} {m : _} {w : _} {o : _} {e : _} {p : _} → List (Segment C I D m w o e p) → Type 0
AreInRange {w = w} list = All (λ s. IsPairInRange w.whole w.MIN_COORD w.MAX_COORD (x_segment_of s)) list
