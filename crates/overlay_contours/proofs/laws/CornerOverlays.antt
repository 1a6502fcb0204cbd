-- The corners of an overlay's contours.
use Rattle.std.proofs.Common.{◌≡◌, sym, ap, subst, ◌∙◌, List, map}
use Rattle.overlay_geometry.specs.Points.{Point}
use Rattle.overlay_base.specs.declared.overlay_core.fill_rule.FillRule.{FillRule}
use Rattle.overlay_base.specs.declared.overlay_core.overlay_rule.OverlayRule.{OverlayRule}
use Rattle.overlay_contours.specs.Contours.{AreProper, winding_number, is_painted}
use Rattle.overlay_contours.specs.Corners.{corners}
use Rattle.overlay_contours.specs.Polygons.{IsPolygonOverlay}
use Rattle.overlay_contours.specs.CornerOverlays.{IsCornerOverlay}
use Rattle.overlay_contours.specs.Splittings.{Splitting}
use Rattle.overlay_contours.proofs.laws.Corners.{corners_wind_alike, corners_paint_alike, corners_stay, corners_are_proper}

pub corner_overlay : (splitting : Splitting) (rule : OverlayRule) (fill_rule : FillRule) (subject clip full answer : List (List Point)) → IsPolygonOverlay splitting rule fill_rule subject clip full → answer ≡ map corners full → IsCornerOverlay splitting rule fill_rule subject clip answer
corner_overlay splitting rule fill_rule subject clip full answer o e = record {
  full = full;
  overlay = o;
  taken = e;
  turns = ap (map corners) e ∙ corners_stay full ∙ sym e;
  proper = subst AreProper (sym e) (corners_are_proper full o.proper);
  winds = λ p some far. ap (λ (l : List (List Point)). winding_number l p) e ∙ corners_wind_alike full p ∙ o.winds p some far;
  named_winds = λ outside p some far. ap (λ (l : List (List Point)). winding_number l p) e ∙ corners_wind_alike full p ∙ o.named_winds outside p some far;
  region = λ p some far. ap (λ (l : List (List Point)). is_painted l p) e ∙ corners_paint_alike full p ∙ o.region p some far;
}
