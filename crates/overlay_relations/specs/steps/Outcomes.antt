-- What is found of contours in range on the way to a relation.
use Rattle.std.specs.Prelude.{◌≡◌, ◌↔◌, ℤ, Bool, true, IsTrue, IsFalse, List, [], Vec, Option, Some, None}
use Rattle.std.specs.Global.{Global}
use Rattle.overlay_geometry.specs.Points.{Point}
use Rattle.overlay_geometry.specs.declared.geom.point.IntPoint.{IntPoint}
use Rattle.overlay_base.specs.declared.overlay_core.fill_rule.FillRule.{FillRule}
use Rattle.overlay_base.specs.declared.overlay_core.overlay_rule.OverlayRule.{OverlayRule}
use Rattle.overlay_base.specs.declared.segm.shape_type.ShapeType.{ShapeType}
use Rattle.overlay_contours.specs.Beyond.{IsOverlayBeyond}
use Rattle.overlay_contours.specs.ContoursOf.{contours_of}
use Rattle.overlay_relations.specs.Boundaries.{has_inexact_crossing, IsBoundaryOf}
use Rattle.overlay_relations.specs.Refusals.{IsOverlayRefusal}
use Rattle.overlay_relations.specs.Relations.{HoldsSomewhere}
use Rattle.overlay_relations.specs.declared.fault.RelationFault.{RelationFault}
use Rattle.overlay_relations.specs.declared.fault.RelationFault.TheVariants.{NotExact, Refused}

-- The overlay of contours where no two edges cross at a point that is not whole, and else none.
abbrev pub IsExactOverlay : {I : Type 0} → (I → ℤ) → OverlayRule → FillRule → List (List Point) → List (List Point) →
    Option (Vec (Vec (IntPoint I) Global) Global) → Type 0
IsExactOverlay whole rule fill_rule first second None = IsTrue (has_inexact_crossing first second)
IsExactOverlay whole rule fill_rule first second (Some region) =
    IsFalse (has_inexact_crossing first second) × IsOverlayBeyond 0 rule fill_rule first second (contours_of whole region.items)

-- The value says of the boundaries of any two shapes whether a rule holds somewhere of these.
abbrev pub DecidesBetween : OverlayRule → List (List Point) → List (List Point) → Bool → Type 0
DecidesBetween rule first second found =
    (subject_rule clip_rule : FillRule) (subject clip : List (List Point)) → IsBoundaryOf subject_rule subject first → IsBoundaryOf clip_rule clip second →
    (found ≡ true) ↔ HoldsSomewhere rule subject_rule clip_rule subject clip

-- The fault says why the boundary of a shape in range was refused.
abbrev pub IsBoundaryRefusal : ShapeType → List (List Point) → RelationFault → Type 0
IsBoundaryRefusal shape_type contours (NotExact named) = (named ≡ shape_type) × IsTrue (has_inexact_crossing contours [])
IsBoundaryRefusal shape_type contours (Refused cause) = IsOverlayRefusal contours [] cause
