-- The overlay of polygons in shapes, without collinear points.
use Rattle.std.specs.Prelude.{◌≡◌, ◌⊎◌, ◌<◌, ℕ, pos, false, if◌then◌else◌, List, All, map}
use Rattle.overlay_geometry.specs.Points.{Point}
use Rattle.overlay_base.specs.Places.{RationalPoint}
use Rattle.overlay_base.specs.Rules.{holds}
use Rattle.overlay_base.specs.declared.overlay_core.fill_rule.FillRule.{FillRule}
use Rattle.overlay_base.specs.declared.overlay_core.overlay_rule.OverlayRule.{OverlayRule}
use Rattle.overlay_contours.specs.Beyond.{IsCornerOverlayBeyond}
use Rattle.overlay_contours.specs.Contours.{winding_number}
use Rattle.overlay_contours.specs.CornerOverlays.{IsCornerOverlay}
use Rattle.overlay_contours.specs.Corners.{corners}
use Rattle.overlay_contours.specs.Polygons.{IsBeyond, is_in_overlay}
use Rattle.overlay_contours.specs.Shapes.{all_contours, shapes_round, IsSimple, WindApart, IsLed, IsBoundaryWithHoles, IsShapeOverlay}
use Rattle.overlay_contours.specs.Splittings.{Splitting}

-- what an overlay returns in shapes where the points are left out at which a contour goes straight on
pub record IsCornerShapeOverlay (splitting : Splitting) (rule : OverlayRule) (fill_rule : FillRule) (subject clip : List (List Point)) (shapes : List (List (List Point))) : Type 0 where
  -- the shapes of the overlay with all their points
  pub full : List (List (List Point))
  pub overlay : IsShapeOverlay splitting rule fill_rule subject clip full
  -- The result has the corners of each contour. So all contours together are the overlay without collinear points.
  pub taken : shapes ≡ map (map corners) full
  pub contours : IsCornerOverlay splitting rule fill_rule subject clip (all_contours shapes)
  -- No contour comes to a point twice, and no place of the plane lies in two shapes.
  pub simple : All IsSimple (all_contours shapes)
  pub apart : (p : RationalPoint) → 0 < p.bottom → WindApart shapes p
  -- For a rule that says no of the places outside, each shape winds once or not at all, and around each far place one winds
  -- exactly where the rule holds.
  pub named : holds rule false false ≡ false → (p : RationalPoint) → 0 < p.bottom → All (λ shape. (winding_number shape p ≡ pos 0) ⊎ (winding_number shape p ≡ pos 1)) shapes
  pub inside : holds rule false false ≡ false → (p : RationalPoint) → 0 < p.bottom → IsBeyond overlay.overlay.halves subject clip p → shapes_round shapes p ≡ (if is_in_overlay rule fill_rule subject clip p then 1 else 0)
  -- The first contour of each has its least point, and for such a rule it is the outer boundary, and each other one is a hole.
  pub led : All IsLed shapes
  pub bounded : holds rule false false ≡ false → All IsBoundaryWithHoles shapes

-- what that is beyond a number of halves from what is given
pub record IsCornerShapeOverlayBeyond (halves : ℕ) (rule : OverlayRule) (fill_rule : FillRule) (subject clip : List (List Point)) (shapes : List (List (List Point))) : Type 0 where
  pub contours : IsCornerOverlayBeyond halves rule fill_rule subject clip (all_contours shapes)
  pub simple : All IsSimple (all_contours shapes)
  pub apart : (p : RationalPoint) → 0 < p.bottom → WindApart shapes p
  pub named : holds rule false false ≡ false → (p : RationalPoint) → 0 < p.bottom → All (λ shape. (winding_number shape p ≡ pos 0) ⊎ (winding_number shape p ≡ pos 1)) shapes
  pub inside : holds rule false false ≡ false → (p : RationalPoint) → 0 < p.bottom → IsBeyond halves subject clip p → shapes_round shapes p ≡ (if is_in_overlay rule fill_rule subject clip p then 1 else 0)
  pub led : All IsLed shapes
  pub bounded : holds rule false false ≡ false → All IsBoundaryWithHoles shapes
