use Rattle.std.proofs.Common.{rules, arith, ◌≡◌, ◌+◌, ◌++◌, ◌∷◌, inr, pos, get_or, take, drop, None, IsFalse}
use Rattle.std.proofs.lemmas.Grind.{common_steps}
use Rattle.overlay_geometry.specs.Coordinates.{is_point_in_range}
use Rattle.overlay_geometry.specs.PointOf.{point_of}
use Rattle.overlay_contours.specs.ContoursOf.{points_of}
use Rattle.overlay_text.proofs.ReadWords.{cut_mapped}
use Rattle.overlay_text.proofs.Results.{if_err}
use Rattle.polygons.proofs.Answering.{one_outside}
use Rattle.polygons.proofs.contour_lines.contour_points.Goals as goal

pub returns-in_err-point-clause-stop : goal.returns-in_err-point-clause-stop
returns-in_err-point-clause-stop g c =
    let least = g.I.OverlayInt.whole g.I.OverlayInt.MIN_COORD in
    let greatest = g.I.OverlayInt.whole g.I.OverlayInt.MAX_COORD in
    let wide = c.args.wide.now in
    let index = c.loop-given.given-index in
    let item = get_or wide index (record { x = pos 0; y = pos 0 }) in
    let is : item ≡ get_or wide index item = grind (arith, common_steps, c.loop-given-test.true) in
    let cut : points_of (λ z. z) wide ≡ points_of (λ z. z) (take index wide) ++ point_of (λ z. z) item ∷ points_of (λ z. z) (drop (index + 1) wide) = cut_mapped (point_of (λ z. z)) wide index item c.loop-given-test.true is in
    let none : c.point.result ≡ None = search rules in
    let outside : IsFalse (is_point_in_range least greatest (point_of (λ z. z) item)) = grind (arith, common_steps, none, c.point.ensures.in_range) in
    if_err _ _ _ c.from_residual-in_err-point.ensures.1 (inr (search rules, one_outside least greatest (points_of (λ z. z) wide) (points_of (λ z. z) (take index wide)) (points_of (λ z. z) (drop (index + 1) wide)) (point_of (λ z. z) item) cut outside))
