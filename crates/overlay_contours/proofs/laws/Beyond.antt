-- What an overlay returns beyond the distance that it reports.
use Rattle.std.proofs.Common.{◌≡◌, sym, ap, subst, ◌∙◌, arith, ℕ, ◌≤◌, IsTrue, List, ◌++◌}
use Rattle.overlay_geometry.specs.Points.{Point, Pair}
use Rattle.overlay_base.specs.Places.{RationalPoint}
use Rattle.overlay_base.specs.declared.overlay_core.fill_rule.FillRule.{FillRule}
use Rattle.overlay_base.specs.declared.overlay_core.overlay_rule.OverlayRule.{OverlayRule}
use Rattle.overlay_cuts.specs.ExactInput.{is_exact_input}
use Rattle.overlay_cuts.specs.Nearness.{LieNear}
use Rattle.overlay_contours.specs.Beyond.{IsOverlayBeyond, IsCornerOverlayBeyond, IsShapeOverlayBeyond, AreOfSplitting}
use Rattle.overlay_contours.specs.Contours.{edges}
use Rattle.overlay_contours.specs.ContourSegments.{overlay_segments}
use Rattle.overlay_contours.specs.CornerOverlays.{IsCornerOverlay}
use Rattle.overlay_contours.specs.CornerShapes.{IsCornerShapeOverlay, IsCornerShapeOverlayBeyond}
use Rattle.overlay_contours.specs.Polygons.{IsBeyond, IsPolygonOverlay}
use Rattle.overlay_contours.specs.Shapes.{all_contours, IsShapeOverlay}
use Rattle.overlay_contours.specs.Splittings.{Splitting, most_halves}
use Rattle.overlay_contours.proofs.laws.Splittings.{left_is_one}

module _ (splitting : Splitting) (subject clip : List (List Point)) (passes halves : ℕ) (are : AreOfSplitting splitting subject clip passes halves) (rule : OverlayRule) (fill_rule : FillRule) where
  -- the numbers of an overlay are those that are reported
  same_passes : (answer : List (List Point)) (o : IsPolygonOverlay splitting rule fill_rule subject clip answer) → o.passes ≡ passes
  same_passes answer o = (left_is_one splitting (overlay_segments subject clip) o.arrangement are.0 o.passes passes o.halves halves o.left are.1).1

  same_halves : (answer : List (List Point)) (o : IsPolygonOverlay splitting rule fill_rule subject clip answer) → o.halves ≡ halves
  same_halves answer o = (left_is_one splitting (overlay_segments subject clip) o.arrangement are.0 o.passes passes o.halves halves o.left are.1).2

  -- so beyond the distance is far
  far : (answer : List (List Point)) (o : IsPolygonOverlay splitting rule fill_rule subject clip answer) (p : RationalPoint) → IsBeyond halves subject clip p → IsBeyond o.halves subject clip p
  far answer o p beyond = subst (λ (n : ℕ). IsBeyond n subject clip p) (sym (same_halves answer o)) beyond

  pub reach_bounded : (answer : List (List Point)) → IsPolygonOverlay splitting rule fill_rule subject clip answer → halves ≤ most_halves splitting passes
  reach_bounded answer o =
      let most = o.reach in
      let same = same_halves answer o in
      let count : most_halves splitting o.passes ≡ most_halves splitting passes = ap (most_halves splitting) (same_passes answer o) in
      omega (arith, most, same, count)

  pub exact_reach : (answer : List (List Point)) → IsPolygonOverlay splitting rule fill_rule subject clip answer → IsTrue (is_exact_input (overlay_segments subject clip)) → halves ≡ 0
  exact_reach answer o exact = sym (same_halves answer o) ∙ o.exact exact

  pub overlay_beyond : (answer : List (List Point)) → IsPolygonOverlay splitting rule fill_rule subject clip answer → IsOverlayBeyond halves rule fill_rule subject clip answer
  overlay_beyond answer o = record {
    bound = record {
      winds = λ p some beyond. o.winds p some (far answer o p beyond);
      paints = λ p some beyond. o.region p some (far answer o p beyond);
      proper = o.proper;
    };
    near = subst (λ (n : ℕ). LieNear n (edges subject ++ edges clip) (edges answer)) (same_halves answer o) o.near;
    apart = o.apart;
    once = o.once;
  }

  pub corners_beyond : (answer : List (List Point)) → IsCornerOverlay splitting rule fill_rule subject clip answer → IsCornerOverlayBeyond halves rule fill_rule subject clip answer
  corners_beyond answer o = record {
    bound = record {
      winds = λ p some beyond. o.winds p some (far o.full o.overlay p beyond);
      paints = λ p some beyond. o.region p some (far o.full o.overlay p beyond);
      proper = o.proper;
    };
    turns = o.turns;
  }

  pub shapes_beyond : (shapes : List (List (List Point))) → IsShapeOverlay splitting rule fill_rule subject clip shapes → IsShapeOverlayBeyond halves rule fill_rule subject clip shapes
  shapes_beyond shapes o = record {
    overlay = overlay_beyond (all_contours shapes) o.overlay;
    simple = o.simple;
    apart = o.apart;
    named = o.named;
    inside = λ outside p some beyond. o.inside outside p some (far (all_contours shapes) o.overlay p beyond);
    led = o.led;
    bounded = o.bounded;
  }

  pub corner_shapes_beyond : (shapes : List (List (List Point))) → IsCornerShapeOverlay splitting rule fill_rule subject clip shapes → IsCornerShapeOverlayBeyond halves rule fill_rule subject clip shapes
  corner_shapes_beyond shapes o = record {
    contours = corners_beyond (all_contours shapes) o.contours;
    simple = o.simple;
    apart = o.apart;
    named = o.named;
    inside = λ outside p some beyond. o.inside outside p some (far (all_contours o.full) o.overlay.overlay p beyond);
    led = o.led;
    bounded = o.bounded;
  }
