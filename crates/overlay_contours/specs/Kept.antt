-- The contours that an overlay keeps.
use Rattle.std.specs.Prelude.{List, ℕ, IsTrue, ◌≡◌, ◌≤◌, [], ◌∷◌, ◌++◌, Vec}
use Rattle.overlay_geometry.specs.Points.{Point}
use Rattle.overlay_contours.specs.ContoursOf.{contours_of, contours_of_each, points_of}
use Rattle.overlay_contours.specs.declared.arrangement.Arrangement.{Arrangement}
use Rattle.overlay_contours.specs.declared.overlay.Overlay.{Overlay}
use Rattle.std.specs.Global.{Global}
use Rattle.overlay_geometry.specs.declared.geom.point.IntPoint.{IntPoint}
use Rattle.overlay_base.specs.declared.overlay_core.fill_rule.FillRule.{FillRule}
use Rattle.overlay_base.specs.declared.overlay_core.overlay_rule.OverlayRule.{OverlayRule}
use Rattle.overlay_base.specs.declared.overlay_core.solver.Solver.{Solver}
use Rattle.overlay_base.specs.declared.segm.fault.Fault.{Fault}
use Rattle.overlay_base.specs.declared.segm.shape_type.ShapeType.{ShapeType}
use Rattle.overlay_cuts.specs.ExactInput.{is_exact_input}
use Rattle.overlay_contours.specs.ArrangementsOf.{IsArrangementOf}
use Rattle.overlay_contours.specs.Beyond.{IsOverlayBeyond, IsCornerOverlayBeyond, IsShapeOverlayBeyond, AreOfSplitting}
use Rattle.overlay_contours.specs.ContourSegments.{overlay_segments}
use Rattle.overlay_contours.specs.Polygons.{IsPolygonOverlay, ArePolygonOverlays}
use Rattle.overlay_contours.specs.Splittings.{Splitting, splitting_for, most_halves}
use Rattle.overlay_contours.specs.declared.rounding.Rounding.{Rounding}
use Rattle.overlay_contours.specs.CornerOverlays.{IsCornerOverlay}
use Rattle.overlay_contours.specs.Shapes.{IsShapeOverlay}
use Rattle.overlay_contours.specs.ShapesOf.{shapes_of}
use Rattle.overlay_contours.specs.Refusals.{of_shape, IsReason, IsContourRefusal}
use Rattle.overlay_contours.specs.declared.fault.ContourFault.{ContourFault}

-- the subject's and the clip's, as lists of whole points in the order in which they were added
abbrev pub subject_of : {I : Type 0} {w : _} {o : _} {e : _} {p : _} → Overlay I w o e p → List (List Point)
subject_of {w = w} overlay = contours_of w.whole overlay.subject.items

abbrev pub clip_of : {I : Type 0} {w : _} {o : _} {e : _} {p : _} → Overlay I w o e p → List (List Point)
clip_of {w = w} overlay = contours_of w.whole overlay.clip.items

-- how many passes the last overlay made that succeeded, and how far they moved crossings at most, in halves
abbrev pub passes_of : {I : Type 0} {w : _} {o : _} {e : _} {p : _} → Overlay I w o e p → ℕ
passes_of overlay = overlay.passes

abbrev pub reach_of : {I : Type 0} {w : _} {o : _} {e : _} {p : _} → Overlay I w o e p → ℕ
reach_of overlay = overlay.reach

-- how it rounds crossings
abbrev pub rounding_of : {I : Type 0} {w : _} {o : _} {e : _} {p : _} → Overlay I w o e p → Rounding
rounding_of overlay = overlay.rounding

-- the splitting that its rounding names, with a solver
abbrev pub splitting_of : {I : Type 0} {w : _} {o : _} {e : _} {p : _} → Solver → Overlay I w o e p → Splitting
splitting_of {w = w} solver overlay = splitting_for (rounding_of overlay) w.BITS solver

-- those of a shape
abbrev pub contours_kept : {I : Type 0} {w : _} {o : _} {e : _} {p : _} → ShapeType → Overlay I w o e p → List (List Point)
contours_kept shape_type overlay = of_shape shape_type (subject_of overlay) (clip_of overlay)

-- A contour is added to those of its shape.
abbrev pub AddsContour : {I : Type 0} {w : _} {o : _} {e : _} {p : _} → ShapeType → List (IntPoint I) → Overlay I w o e p → Overlay I w o e p → Type 0
AddsContour {w = w} shape_type contour old new = contours_kept shape_type new ≡ contours_kept shape_type old ++ points_of w.whole contour ∷ []

-- The contours of a shape stay as they are.
abbrev pub KeepsContours : {I : Type 0} {w : _} {o : _} {e : _} {p : _} → ShapeType → Overlay I w o e p → Overlay I w o e p → Type 0
KeepsContours shape_type old new = contours_kept shape_type new ≡ contours_kept shape_type old

-- The fault says why a contour was not added.
abbrev pub IsRefusalToAdd : {I : Type 0} {w : _} {o : _} {e : _} {p : _} → ShapeType → List (IntPoint I) → Overlay I w o e p → ContourFault → Type 0
IsRefusalToAdd {w = w} shape_type contour overlay fault =
    IsContourRefusal (w.whole w.MIN_COORD) (w.whole w.MAX_COORD) shape_type (contours_kept shape_type overlay) (points_of w.whole contour) fault

-- The contours are what the overlay of those that are kept returns.
abbrev pub IsOverlayOfKept : {I : Type 0} {w : _} {o : _} {e : _} {p : _} → Solver → OverlayRule → FillRule → Overlay I w o e p → Vec (Vec (IntPoint I) Global) Global → Type 0
IsOverlayOfKept {w = w} solver rule fill_rule overlay contours =
    IsPolygonOverlay (splitting_of solver overlay) rule fill_rule (subject_of overlay) (clip_of overlay) (contours_of w.whole contours.items)

-- They are what it returns without collinear points.
abbrev pub IsCornersOfKept : {I : Type 0} {w : _} {o : _} {e : _} {p : _} → Solver → OverlayRule → FillRule → Overlay I w o e p → Vec (Vec (IntPoint I) Global) Global → Type 0
IsCornersOfKept {w = w} solver rule fill_rule overlay contours =
    IsCornerOverlay (splitting_of solver overlay) rule fill_rule (subject_of overlay) (clip_of overlay) (contours_of w.whole contours.items)

-- The shapes are what the overlay of those that are kept returns in shapes.
abbrev pub IsShapeOverlayOfKept : {I : Type 0} {w : _} {o : _} {e : _} {p : _} → Solver → OverlayRule → FillRule → Overlay I w o e p → Vec (Vec (Vec (IntPoint I) Global) Global) Global → Type 0
IsShapeOverlayOfKept {w = w} solver rule fill_rule overlay shapes =
    IsShapeOverlay (splitting_of solver overlay) rule fill_rule (subject_of overlay) (clip_of overlay) (shapes_of w.whole shapes.items)

-- The lists of contours are what the overlays of those that are kept return, one for each rule, in order.
abbrev pub AreOverlaysOfKept : {I : Type 0} {w : _} {o : _} {e : _} {p : _} → Solver → List OverlayRule → FillRule → Overlay I w o e p → Vec (Vec (Vec (IntPoint I) Global) Global) Global → Type 0
AreOverlaysOfKept {w = w} solver rules fill_rule overlay all =
    ArePolygonOverlays (splitting_of solver overlay) fill_rule (subject_of overlay) (clip_of overlay) rules (contours_of_each w.whole all.items)

-- The arrangement is that of those that are kept, under a fill rule.
abbrev pub IsArrangementOfKept : {I : Type 0} {w : _} {o : _} {e : _} {p : _} → Solver → FillRule → Overlay I w o e p → Arrangement I w o e p → Type 0
IsArrangementOfKept solver fill_rule overlay arrangement = IsArrangementOf (splitting_of solver overlay) fill_rule (subject_of overlay) (clip_of overlay) arrangement

-- ---- by the distance that is reported

-- The contours are what the overlay of those that are kept returns, beyond the distance that is reported.
abbrev pub IsBeyondKept : {I : Type 0} {w : _} {o : _} {e : _} {p : _} → OverlayRule → FillRule → Overlay I w o e p → Overlay I w o e p → Vec (Vec (IntPoint I) Global) Global → Type 0
IsBeyondKept {w = w} rule fill_rule before after contours =
    IsOverlayBeyond (reach_of after) rule fill_rule (subject_of before) (clip_of before) (contours_of w.whole contours.items)

-- They are that without collinear points.
abbrev pub AreCornersBeyondKept : {I : Type 0} {w : _} {o : _} {e : _} {p : _} → OverlayRule → FillRule → Overlay I w o e p → Overlay I w o e p → Vec (Vec (IntPoint I) Global) Global → Type 0
AreCornersBeyondKept {w = w} rule fill_rule before after contours =
    IsCornerOverlayBeyond (reach_of after) rule fill_rule (subject_of before) (clip_of before) (contours_of w.whole contours.items)

-- The shapes are that in shapes.
abbrev pub AreShapesBeyondKept : {I : Type 0} {w : _} {o : _} {e : _} {p : _} → OverlayRule → FillRule → Overlay I w o e p → Overlay I w o e p → Vec (Vec (Vec (IntPoint I) Global) Global) Global → Type 0
AreShapesBeyondKept {w = w} rule fill_rule before after shapes =
    IsShapeOverlayBeyond (reach_of after) rule fill_rule (subject_of before) (clip_of before) (shapes_of w.whole shapes.items)

-- The distance is at most what as many passes reach, by the settings alone; and at most one half by snap rounding.
abbrev pub ReachIsBounded : {I : Type 0} {w : _} {o : _} {e : _} {p : _} → Solver → Overlay I w o e p → Overlay I w o e p → Type 0
ReachIsBounded solver before after = reach_of after ≤ most_halves (splitting_of solver before) (passes_of after)

-- It is nothing where no two edges of the contours that are kept cross at a point that is not whole.
abbrev pub ExactReachIsNone : {I : Type 0} {w : _} {o : _} {e : _} {p : _} → Overlay I w o e p → Overlay I w o e p → Type 0
ExactReachIsNone before after = IsTrue (is_exact_input (overlay_segments (subject_of before) (clip_of before))) → reach_of after ≡ 0

-- Both numbers are those of the splitting of the contours that are kept.
abbrev pub ReportsSplitting : {I : Type 0} {w : _} {o : _} {e : _} {p : _} → Solver → Overlay I w o e p → Overlay I w o e p → Type 0
ReportsSplitting solver before after = AreOfSplitting (splitting_of solver before) (subject_of before) (clip_of before) (passes_of after) (reach_of after)

-- The rounding stays as it is.
abbrev pub KeepsRounding : {I : Type 0} {w : _} {o : _} {e : _} {p : _} → Overlay I w o e p → Overlay I w o e p → Type 0
KeepsRounding before after = rounding_of after ≡ rounding_of before

-- Both numbers stay as they are.
abbrev pub KeepsReport : {I : Type 0} {w : _} {o : _} {e : _} {p : _} → Overlay I w o e p → Overlay I w o e p → Type 0
KeepsReport before after = (passes_of after ≡ passes_of before) × (reach_of after ≡ reach_of before)

-- ---- refusals

-- The fault says why such an overlay was refused.
abbrev pub IsReasonOf : {I : Type 0} {w : _} {o : _} {e : _} {p : _} → Solver → Overlay I w o e p → Fault → Type 0
IsReasonOf solver overlay fault = IsReason (splitting_of solver overlay) (subject_of overlay) (clip_of overlay) fault
