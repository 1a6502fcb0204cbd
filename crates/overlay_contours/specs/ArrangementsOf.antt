-- What calls say of an arrangement of contours.
use Rattle.std.specs.Prelude.{ℕ, List, Vec}
use Rattle.std.specs.Global.{Global}
use Rattle.overlay_geometry.specs.Points.{Point}
use Rattle.overlay_geometry.specs.declared.geom.point.IntPoint.{IntPoint}
use Rattle.overlay_base.specs.declared.overlay_core.fill_rule.FillRule.{FillRule}
use Rattle.overlay_base.specs.declared.overlay_core.overlay_rule.OverlayRule.{OverlayRule}
use Rattle.overlay_contours.specs.Arrangements.{IsOfContours, IsOverlayOfArranged, IsShapeOverlayOfArranged, KeepsArranged}
use Rattle.overlay_contours.specs.Beyond.{IsOverlayBeyond, IsCornerOverlayBeyond, IsShapeOverlayBeyond}
use Rattle.overlay_contours.specs.ContoursOf.{contours_of}
use Rattle.overlay_contours.specs.CornerOverlays.{IsCornerOverlay}
use Rattle.overlay_contours.specs.CornerShapes.{IsCornerShapeOverlay, IsCornerShapeOverlayBeyond}
use Rattle.overlay_contours.specs.ShapesOf.{shapes_of}
use Rattle.overlay_contours.specs.Splittings.{Splitting}
use Rattle.overlay_contours.specs.declared.arranged.Arranged.{Arranged}
use Rattle.overlay_contours.specs.declared.arrangement.Arrangement.{Arrangement}

-- its segments with their fills
abbrev pub arrangement_of : {I : Type 0} {w : _} {o : _} {e : _} {p : _} → Arrangement I w o e p → Arranged I w o e p
arrangement_of arrangement = arrangement.arranged

-- how many passes its split made, and how many halves these moved things at most
abbrev pub passes_of : {I : Type 0} {w : _} {o : _} {e : _} {p : _} → Arrangement I w o e p → ℕ
passes_of arrangement = arrangement.arranged.passes

abbrev pub reach_of : {I : Type 0} {w : _} {o : _} {e : _} {p : _} → Arrangement I w o e p → ℕ
reach_of arrangement = arrangement.arranged.reach

-- It is that of a subject's and a clip's contours, for a splitting and a fill rule.
abbrev pub IsArrangementOf : {I : Type 0} {w : _} {o : _} {e : _} {p : _} → Splitting → FillRule → List (List Point) → List (List Point) → Arrangement I w o e p → Type 0
IsArrangementOf splitting fill_rule subject clip arrangement = IsOfContours splitting fill_rule subject clip (arrangement_of arrangement)

-- The contours are what the overlay by a rule returns of the contours that it is of.
abbrev pub IsOverlayOf : {I : Type 0} {w : _} {o : _} {e : _} {p : _} → OverlayRule → Arrangement I w o e p → Vec (Vec (IntPoint I) Global) Global → Type 0
IsOverlayOf rule arrangement contours = IsOverlayOfArranged rule (arrangement_of arrangement) contours

-- The shapes are what it returns in shapes.
abbrev pub IsShapeOverlayOf : {I : Type 0} {w : _} {o : _} {e : _} {p : _} → OverlayRule → Arrangement I w o e p → Vec (Vec (Vec (IntPoint I) Global) Global) Global → Type 0
IsShapeOverlayOf rule arrangement shapes = IsShapeOverlayOfArranged rule (arrangement_of arrangement) shapes

-- Both without the points at which a contour goes straight on.
abbrev pub IsCornerOverlayOf : {I : Type 0} {w : _} {o : _} {e : _} {p : _} → OverlayRule → Arrangement I w o e p → Vec (Vec (IntPoint I) Global) Global → Type 0
IsCornerOverlayOf {w = w} rule arrangement contours =
    (splitting : Splitting) (fill_rule : FillRule) (subject clip : List (List Point)) → IsArrangementOf splitting fill_rule subject clip arrangement → IsCornerOverlay splitting rule fill_rule subject clip (contours_of w.whole contours.items)

abbrev pub IsCornerShapeOverlayOf : {I : Type 0} {w : _} {o : _} {e : _} {p : _} → OverlayRule → Arrangement I w o e p → Vec (Vec (Vec (IntPoint I) Global) Global) Global → Type 0
IsCornerShapeOverlayOf {w = w} rule arrangement shapes =
    (splitting : Splitting) (fill_rule : FillRule) (subject clip : List (List Point)) → IsArrangementOf splitting fill_rule subject clip arrangement → IsCornerShapeOverlay splitting rule fill_rule subject clip (shapes_of w.whole shapes.items)

-- All four by the distance that it reports.
abbrev pub IsOverlayBeyondOf : {I : Type 0} {w : _} {o : _} {e : _} {p : _} → OverlayRule → Arrangement I w o e p → Vec (Vec (IntPoint I) Global) Global → Type 0
IsOverlayBeyondOf {w = w} rule arrangement contours =
    (splitting : Splitting) (fill_rule : FillRule) (subject clip : List (List Point)) → IsArrangementOf splitting fill_rule subject clip arrangement → IsOverlayBeyond (reach_of arrangement) rule fill_rule subject clip (contours_of w.whole contours.items)

abbrev pub IsShapeOverlayBeyondOf : {I : Type 0} {w : _} {o : _} {e : _} {p : _} → OverlayRule → Arrangement I w o e p → Vec (Vec (Vec (IntPoint I) Global) Global) Global → Type 0
IsShapeOverlayBeyondOf {w = w} rule arrangement shapes =
    (splitting : Splitting) (fill_rule : FillRule) (subject clip : List (List Point)) → IsArrangementOf splitting fill_rule subject clip arrangement → IsShapeOverlayBeyond (reach_of arrangement) rule fill_rule subject clip (shapes_of w.whole shapes.items)

abbrev pub IsCornerOverlayBeyondOf : {I : Type 0} {w : _} {o : _} {e : _} {p : _} → OverlayRule → Arrangement I w o e p → Vec (Vec (IntPoint I) Global) Global → Type 0
IsCornerOverlayBeyondOf {w = w} rule arrangement contours =
    (splitting : Splitting) (fill_rule : FillRule) (subject clip : List (List Point)) → IsArrangementOf splitting fill_rule subject clip arrangement → IsCornerOverlayBeyond (reach_of arrangement) rule fill_rule subject clip (contours_of w.whole contours.items)

abbrev pub IsCornerShapeOverlayBeyondOf : {I : Type 0} {w : _} {o : _} {e : _} {p : _} → OverlayRule → Arrangement I w o e p → Vec (Vec (Vec (IntPoint I) Global) Global) Global → Type 0
IsCornerShapeOverlayBeyondOf {w = w} rule arrangement shapes =
    (splitting : Splitting) (fill_rule : FillRule) (subject clip : List (List Point)) → IsArrangementOf splitting fill_rule subject clip arrangement → IsCornerShapeOverlayBeyond (reach_of arrangement) rule fill_rule subject clip (shapes_of w.whole shapes.items)

-- It stays what it is.
abbrev pub KeepsArrangement : {I : Type 0} {w : _} {o : _} {e : _} {p : _} → Arrangement I w o e p → Arrangement I w o e p → Type 0
KeepsArrangement before after = KeepsArranged (arrangement_of before) (arrangement_of after)
