use Rattle.std.proofs.Common.{◌≡◌, sym, ap, subst, ◌∙◌, true, List, map}
use Rattle.std.specs.Prelude.{All, Vec}
use Rattle.std.specs.Global.{Global}
use Rattle.overlay_geometry.specs.Coordinates.{is_point_in_range}
use Rattle.overlay_geometry.specs.InRange.{IsPointInRange}
use Rattle.overlay_geometry.specs.PointOf.{point_of}
use Rattle.overlay_geometry.specs.declared.geom.point.IntPoint.{IntPoint}
use Rattle.overlay_geometry.specs.Points.{Point}
use Rattle.overlay_contours.specs.Contours.{AreProper, winding_number, is_painted}
use Rattle.overlay_contours.specs.ContoursOf.{points_of, contours_of}
use Rattle.overlay_contours.specs.Corners.{corners}
use Rattle.overlay_contours.specs.ContourSegments.{are_in_range}
use Rattle.overlay_contours.proofs.laws.Ranges.{corners_in_range}
use Rattle.overlay_contours.proofs.laws.Corners.{corners_wind_alike, corners_paint_alike, corners_stay, corners_are_proper, all_corners, all_pass_at}
use Rattle.overlay_contours.proofs.corners.corners_of_contours.Goals as goal

pub corners_of_contour-requires : goal.corners_of_contour-requires
corners_of_contour-requires g c =
    let I = g.I.OverlayInt in
    subst (All (IsPointInRange I.whole I.MIN_COORD I.MAX_COORD)) (sym c.deref.ensures.value)
    (all_pass_at (λ (v : Vec (IntPoint _) Global). v.items) (point_of I.whole) (is_point_in_range (I.whole I.MIN_COORD) (I.whole I.MAX_COORD)) c.args.contours.now c.loop-contour.contour-index c.contour-item.result c.loop-contour-test.true c.contour-item.is c.requires)

pub returns : goal.returns
returns g c =
    let whole = g.I.OverlayInt.whole in
    let given : List (List Point) = contours_of whole c.args.contours.now in
    let answer : List (List Point) = contours_of whole c.loop-contour.answer.items in
    let are : answer ≡ map corners given = all_corners (λ v. points_of whole v.items) c.args.contours.now c.loop-contour.contour-index answer c.loop-contour.invariant c.loop-contour-test.false in
    record {
      corners = are;
      turns = ap (map corners) are ∙ corners_stay given ∙ sym are;
      winds = λ p. ap (λ (l : List (List Point)). winding_number l p) are ∙ corners_wind_alike given p;
      painted = λ p. ap (λ (l : List (List Point)). is_painted l p) are ∙ corners_paint_alike given p;
      proper = λ proper. subst AreProper (sym are) (corners_are_proper given proper);
      in_range = subst (λ (l : List (List Point)). are_in_range (whole g.I.OverlayInt.MIN_COORD) (whole g.I.OverlayInt.MAX_COORD) l ≡ true) (sym are) (corners_in_range (whole g.I.OverlayInt.MIN_COORD) (whole g.I.OverlayInt.MAX_COORD) given c.requires);
      fault = tt;
    }
