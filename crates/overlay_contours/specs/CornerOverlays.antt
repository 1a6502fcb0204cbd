-- The overlay of polygons without collinear points.
use Rattle.std.specs.Prelude.{◌≡◌, ◌<◌, ◌-ℤ◌, false, List, map}
use Rattle.overlay_geometry.specs.Points.{Point}
use Rattle.overlay_base.specs.Places.{RationalPoint}
use Rattle.overlay_base.specs.Rules.{differ, holds}
use Rattle.overlay_base.specs.declared.overlay_core.fill_rule.FillRule.{FillRule}
use Rattle.overlay_base.specs.declared.overlay_core.overlay_rule.OverlayRule.{OverlayRule}
use Rattle.overlay_build.specs.Boundary.{truth}
use Rattle.overlay_contours.specs.Contours.{AreProper, winding_number, is_painted}
use Rattle.overlay_contours.specs.Corners.{corners}
use Rattle.overlay_contours.specs.Polygons.{IsPolygonOverlay, IsBeyond, is_in_overlay}
use Rattle.overlay_contours.specs.Splittings.{Splitting}

-- what an overlay returns where the points are left out at which a contour goes straight on
pub record IsCornerOverlay (splitting : Splitting) (rule : OverlayRule) (fill_rule : FillRule) (subject clip answer : List (List Point)) : Type 0 where
  -- the contours of the overlay with all their points
  pub full : List (List Point)
  pub overlay : IsPolygonOverlay splitting rule fill_rule subject clip full
  -- The result has the corners of each. So an edge of the result is a way along edges of the arrangement that goes
  -- straight on from each to the next.
  pub taken : answer ≡ map corners full
  -- It turns at each of its points: none is left at which it goes straight on.
  pub turns : map corners answer ≡ answer
  -- Each contour has points, and in none two neighboring points are equal.
  pub proper : AreProper answer
  -- It winds around each far place once, counterclockwise, where the rule holds, and not at all elsewhere; for a rule that
  -- holds of those outside once less.
  pub winds : (p : RationalPoint) → 0 < p.bottom → IsBeyond overlay.halves subject clip p → winding_number answer p ≡ truth (is_in_overlay rule fill_rule subject clip p) -ℤ truth (holds rule false false)
  pub named_winds : holds rule false false ≡ false → (p : RationalPoint) → 0 < p.bottom → IsBeyond overlay.halves subject clip p → winding_number answer p ≡ truth (is_in_overlay rule fill_rule subject clip p)
  -- It encloses exactly the far places at which the rule's value differs from that outside.
  pub region : (p : RationalPoint) → 0 < p.bottom → IsBeyond overlay.halves subject clip p → is_painted answer p ≡ differ (holds rule false false) (is_in_overlay rule fill_rule subject clip p)
