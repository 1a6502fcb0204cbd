-- Why a relation of two shapes is refused.
use Rattle.std.specs.Prelude.{⊤, ◌≡◌, ℤ, IsTrue, IsFalse, List, [], Vec}
use Rattle.std.specs.Global.{Global}
use Rattle.overlay_geometry.specs.Points.{Point}
use Rattle.overlay_geometry.specs.declared.num.OverlayInt.{Ghosts as Engine}
use Rattle.overlay_geometry.specs.declared.geom.point.IntPoint.{IntPoint}
use Rattle.overlay_base.specs.declared.overlay_core.fill_rule.FillRule.{FillRule}
use Rattle.overlay_base.specs.declared.segm.fault.Fault.{Fault}
use Rattle.overlay_base.specs.declared.segm.fault.Fault.TheVariants.{Memory, CountOutOfRange}
use Rattle.overlay_base.specs.declared.segm.shape_type.ShapeType.{ShapeType}
use Rattle.overlay_base.specs.declared.segm.shape_type.ShapeType.TheVariants.{Subject, Clip}
use Rattle.overlay_contours.specs.ContourSegments.{are_in_range, IsFirstOutside}
use Rattle.overlay_contours.specs.ContoursOf.{contours_of}
use Rattle.overlay_contours.specs.Refusals.{of_shape, CountsLeaveRange, IsReason}
use Rattle.overlay_contours.specs.Splittings.{by_snapping}
use Rattle.overlay_contours.specs.declared.fault.ContourFault.{ContourFault}
use Rattle.overlay_contours.specs.declared.fault.ContourFault.TheVariants.{OutOfRange, Refused as RefusedContours}
use Rattle.overlay_relations.specs.Boundaries.{has_inexact_crossing, IsBoundaryOf}
use Rattle.overlay_relations.specs.declared.fault.RelationFault.{RelationFault}
use Rattle.overlay_relations.specs.declared.fault.RelationFault.TheVariants.{NotExact, Refused}

-- The named shape has two edges that cross at a point that is not whole. Where it is the clip, the subject has none.
abbrev pub IsNotExact : List (List Point) → List (List Point) → ShapeType → Type 0
IsNotExact subject clip Subject = IsTrue (has_inexact_crossing subject [])
IsNotExact subject clip Clip = IsFalse (has_inexact_crossing subject []) × IsTrue (has_inexact_crossing clip [])

-- Counts leave the range: those of the edges of one shape, or those of both boundaries.
pub data CountsOfShapesLeaveRange (subject_rule clip_rule : FillRule) (subject clip : List (List Point)) : Type 0 where
  of_subject : CountsLeaveRange by_snapping subject [] → CountsOfShapesLeaveRange subject_rule clip_rule subject clip
  of_clip : CountsLeaveRange by_snapping clip [] → CountsOfShapesLeaveRange subject_rule clip_rule subject clip
  of_boundaries : (first second : List (List Point)) → IsBoundaryOf subject_rule subject first → IsBoundaryOf clip_rule clip second →
      CountsLeaveRange by_snapping first second → CountsOfShapesLeaveRange subject_rule clip_rule subject clip

-- what else is known of a refusal by a fault
abbrev pub IsReasonFor : FillRule → FillRule → List (List Point) → List (List Point) → Fault → Type 0
IsReasonFor subject_rule clip_rule subject clip Memory = ⊤
IsReasonFor subject_rule clip_rule subject clip CountOutOfRange = CountsOfShapesLeaveRange subject_rule clip_rule subject clip

-- The fault says why an overlay of contours in range was refused.
abbrev pub IsOverlayRefusal : List (List Point) → List (List Point) → ContourFault → Type 0
IsOverlayRefusal first second (OutOfRange shape_type contour point) = ⊥
IsOverlayRefusal first second (RefusedContours fault) = IsReason by_snapping first second fault

-- The fault says why a region was refused: the first point out of range is named, where there is one. Else the shape has edges that
-- cross at a point that is not whole, a growth was refused, or its counts leave the range.
abbrev pub IsRegionRefusal : ℤ → ℤ → List (List Point) → RelationFault → Type 0
IsRegionRefusal least greatest contours (NotExact shape_type) =
    (shape_type ≡ Subject) × IsTrue (are_in_range least greatest contours) × IsTrue (has_inexact_crossing contours [])
IsRegionRefusal least greatest contours (Refused (OutOfRange shape_type contour point)) = (shape_type ≡ Subject) × IsFirstOutside least greatest contours contour point
IsRegionRefusal least greatest contours (Refused (RefusedContours fault)) =
    IsTrue (are_in_range least greatest contours) × IsReason by_snapping contours [] fault

-- The same of contours of code.
abbrev pub IsRegionRefusalOf : {I : Type 0} → Engine I → List (Vec (IntPoint I) Global) → RelationFault → Type 0
IsRegionRefusalOf engine contours fault = IsRegionRefusal (engine.whole engine.MIN_COORD) (engine.whole engine.MAX_COORD) (contours_of engine.whole contours) fault

-- The first point out of range of a shape is named, where there is one. Else a shape with such a crossing is named, a growth was
-- refused, or counts leave the range.
abbrev pub IsRefusal : ℤ → ℤ → FillRule → FillRule → List (List Point) → List (List Point) → RelationFault → Type 0
IsRefusal least greatest subject_rule clip_rule subject clip (NotExact shape_type) =
    IsTrue (are_in_range least greatest subject) × IsTrue (are_in_range least greatest clip) × IsNotExact subject clip shape_type
IsRefusal least greatest subject_rule clip_rule subject clip (Refused (OutOfRange shape_type contour point)) =
    IsFirstOutside least greatest (of_shape shape_type subject clip) contour point
IsRefusal least greatest subject_rule clip_rule subject clip (Refused (RefusedContours fault)) =
    IsTrue (are_in_range least greatest subject) × IsTrue (are_in_range least greatest clip) × IsReasonFor subject_rule clip_rule subject clip fault

-- The same of contours of code under one fill rule.
abbrev pub IsRefusalOf : {I : Type 0} → Engine I → FillRule → List (Vec (IntPoint I) Global) → List (Vec (IntPoint I) Global) →
    RelationFault → Type 0
IsRefusalOf engine fill_rule subject clip fault =
    IsRefusal (engine.whole engine.MIN_COORD) (engine.whole engine.MAX_COORD) fill_rule fill_rule
    (contours_of engine.whole subject) (contours_of engine.whole clip) fault
