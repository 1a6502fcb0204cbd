use Rattle.std.proofs.Common.{◌≡◌, ◌∙◌, ap, sym, subst, ◌++◌, ◌∷◌, [], List, append_assoc, map, true, false}
use Rattle.std.specs.Prelude.{Result, Ok, Err, OnOk}
use Rattle.overlay_contours.specs.ContoursOf.{points_of, contours_of}
use Rattle.polygons.specs.ContourText.{GivenContour, Keeps}
use Rattle.polygons.specs.Wkt.{contour_of_shape, turned, polygon_contours}
use Rattle.polygons.proofs.wkt_lines.add_polygon.Goals as goal

on_ok : {T E P Q : Type 0} (r : Result T E) → (P → Q) → OnOk r P → OnOk r Q
on_ok (Ok x) f p = f p
on_ok (Err y) f p = tt

pub returns-clause-added : goal.returns-clause-added
returns-clause-added g c =
    let shape_type = c.args.shape_type in
    let first : GivenContour = contour_of_shape shape_type (turned true (points_of (λ z. z) c.in-Some.outer.now.items)) in
    let holes : List GivenContour = map (λ hole. contour_of_shape shape_type (turned false hole)) (contours_of (λ z. z) c.in-Some.holes.now) in
    let ring_added = rw c.deref.ensures.value at c.in_ok-add_ring.ensures.added in
    on_ok c.add_holes.result
    (λ holes_added given keeps.
    let all : (given ++ first ∷ []) ++ holes ≡ given ++ polygon_contours shape_type (contours_of (λ z. z) c.args.rings.now) =
    append_assoc given (first ∷ []) holes ∙ ap (λ rings. given ++ polygon_contours shape_type (contours_of (λ z. z) rings)) (sym c.in-Some.ensures.cases.0) in
    subst (λ l. Keeps c.add_holes.new.overlay l) all (holes_added (given ++ first ∷ []) (ring_added given keeps)))
    c.add_holes.ensures.added
