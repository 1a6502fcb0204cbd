-- What an arrangement of contours is of, and what rules make of it.
use Rattle.std.specs.Prelude.{◌≡◌, ℕ, List, Vec}
use Rattle.std.specs.Global.{Global}
use Rattle.overlay_geometry.specs.Points.{Point}
use Rattle.overlay_geometry.specs.declared.geom.point.IntPoint.{IntPoint}
use Rattle.overlay_base.specs.ArrangedOf.{IsArranged}
use Rattle.overlay_base.specs.SegmentOf.{segments_of}
use Rattle.overlay_base.specs.declared.overlay_core.fill_rule.FillRule.{FillRule}
use Rattle.overlay_base.specs.declared.overlay_core.overlay_rule.OverlayRule.{OverlayRule}
use Rattle.overlay_build.specs.Graph.{fills_of}
use Rattle.overlay_contours.specs.ContourSegments.{overlay_segments}
use Rattle.overlay_contours.specs.ContoursIn.{LieInRange}
use Rattle.overlay_contours.specs.ContoursOf.{contours_of}
use Rattle.overlay_contours.specs.Polygons.{IsPolygonOverlay}
use Rattle.overlay_contours.specs.Shapes.{IsShapeOverlay}
use Rattle.overlay_contours.specs.ShapesOf.{shapes_of, ShapesLieInRange}
use Rattle.overlay_contours.specs.Splittings.{Splitting, IsArrangement}
use Rattle.overlay_contours.specs.declared.arranged.Arranged.{Arranged}

-- Its segments are what a splitting leaves of the edges of a subject's and a clip's contours, in range, and its fills are those of the
-- segments under a fill rule.
pub record IsOfContours (splitting : Splitting) (fill_rule : FillRule) (subject clip : List (List Point)) {I : Type 0} {w : _} {o : _} {e : _} {p : _} (arranged : Arranged I w o e p) : Type 0 where
  pub rule : arranged.fill_rule ≡ fill_rule
  pub arrangement : IsArrangement splitting (overlay_segments subject clip) (segments_of arranged.sides.items) arranged.passes arranged.reach
  pub in_range : IsArranged arranged.sides.items
  pub fills : arranged.fills.items ≡ fills_of fill_rule (segments_of arranged.sides.items)

-- It is of some contours.
abbrev pub IsOfSome : {I : Type 0} {w : _} {o : _} {e : _} {p : _} → Arranged I w o e p → Type 0
IsOfSome arranged = ∥ ((splitting : Splitting) × (fill_rule : FillRule) × (subject : List (List Point)) × (clip : List (List Point)) × IsOfContours splitting fill_rule subject clip arranged) ∥₁

-- The contours are the overlay by a rule of the contours that it is of.
abbrev pub IsOverlayOfArranged : {I : Type 0} {w : _} {o : _} {e : _} {p : _} → OverlayRule → Arranged I w o e p → Vec (Vec (IntPoint I) Global) Global → Type 0
IsOverlayOfArranged {w = w} rule arranged contours =
    (splitting : Splitting) (fill_rule : FillRule) (subject clip : List (List Point)) → IsOfContours splitting fill_rule subject clip arranged → IsPolygonOverlay splitting rule fill_rule subject clip (contours_of w.whole contours.items)

-- The shapes are that overlay in shapes.
abbrev pub IsShapeOverlayOfArranged : {I : Type 0} {w : _} {o : _} {e : _} {p : _} → OverlayRule → Arranged I w o e p → Vec (Vec (Vec (IntPoint I) Global) Global) Global → Type 0
IsShapeOverlayOfArranged {w = w} rule arranged shapes =
    (splitting : Splitting) (fill_rule : FillRule) (subject clip : List (List Point)) → IsOfContours splitting fill_rule subject clip arranged → IsShapeOverlay splitting rule fill_rule subject clip (shapes_of w.whole shapes.items)

-- It stays what it is.
abbrev pub KeepsArranged : {I : Type 0} {w : _} {o : _} {e : _} {p : _} → Arranged I w o e p → Arranged I w o e p → Type 0
KeepsArranged before after = (after.fill_rule ≡ before.fill_rule) × (after.sides ≡ before.sides) × (after.fills ≡ before.fills) × (after.passes ≡ before.passes) × (after.reach ≡ before.reach)
