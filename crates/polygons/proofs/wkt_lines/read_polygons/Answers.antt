use Rattle.std.proofs.Common.{rules, arith, ◌≡◌, ◌≤◌, ◌++◌, ◌∷◌, [], inl, inr, length, None, Some, subst}
use Rattle.std.proofs.lemmas.Grind.{common_steps}
use Rattle.std.proofs.lemmas.List.{map-append}
use Rattle.overlay_contours.specs.ContoursOf.{contours_of}
use Rattle.overlay_contours.specs.ShapesOf.{shapes_of}
use Rattle.overlay_text.specs.Text.{words_of}
use Rattle.overlay_text.proofs.Results.{if_err}
use Rattle.polygons.specs.Wkt.{comma, WritePolygon}
use Rattle.polygons.proofs.Items.{polygon_is_one, polygon_is_shorter, behind_more, no_item, no_mark}
use Rattle.polygons.proofs.wkt_lines.read_polygons.Goals as goal

pub returns-in_err-read_polygon-clause-stop : goal.returns-in_err-read_polygon-clause-stop
returns-in_err-read_polygon-clause-stop c =
    let left = words_of c.loop-polygons.words.rest.now in
    if_err _ _ _ c.from_residual.ensures.1 (elim c.in_err-read_polygon.ensures.stop [
      | inl memory ↦ inl memory
      | inr faulty ↦ inr (faulty.0, no_item WritePolygon (words_of c.args.words.now.rest.now) left (shapes_of (λ z. z) c.loop-polygons.polygons.items) c.loop-polygons.invariant faulty.1)
    ])

pub returns-in_err-ok_or-clause-stop : goal.returns-in_err-ok_or-clause-stop
returns-in_err-ok_or-clause-stop c =
    let left = words_of c.loop-polygons.words.rest.now in
    let no : c.is_end.result ≡ None = search rules in
    let none = rw no at c.is_end.ensures in
    if_err _ _ _ c.from_residual-in_err-ok_or.ensures.1 (inr (
      search rules,
      no_mark WritePolygon (words_of c.args.words.now.rest.now) left (shapes_of (λ z. z) c.loop-polygons.polygons.items) c.loop-polygons.invariant
          polygon_is_one (contours_of (λ z. z) c.in_ok-read_polygon.field-0.items) (words_of c.read_polygon.new.words.rest.now) c.in_ok-read_polygon.ensures.items none,
    ))

pub loop-polygons-smaller : goal.loop-polygons-smaller
loop-polygons-smaller c =
    let left = words_of c.loop-polygons.words.rest.now in
    let ends : c.is_end.result ≡ Some c.in_ok-ok_or.field-0 = search rules in
    let next = rw (ends, c.if-branch.false) at c.is_end.ensures in
    let short : length (comma ∷ words_of c.is_end.new.words.rest.now) ≤ length left =
    polygon_is_shorter left (contours_of (λ z. z) c.in_ok-read_polygon.field-0.items) (comma ∷ words_of c.is_end.new.words.rest.now)
    (subst (WritePolygon left (contours_of (λ z. z) c.in_ok-read_polygon.field-0.items)) next c.in_ok-read_polygon.ensures.items) in
    omega (arith, short)

pub loop-polygons-preserved : goal.loop-polygons-preserved
loop-polygons-preserved c =
    let left = words_of c.loop-polygons.words.rest.now in
    let one = contours_of (λ z. z) c.in_ok-read_polygon.field-0.items in
    let done = shapes_of (λ z. z) c.loop-polygons.polygons.items in
    let ends : c.is_end.result ≡ Some c.in_ok-ok_or.field-0 = search rules in
    let next = rw (ends, c.if-branch.false) at c.is_end.ensures in
    let pushed : shapes_of (λ z. z) c.push.new.self.items ≡ done ++ one ∷ [] = grind (arith, common_steps, c.in_ok-push.ensures.items, map-append) in
    rw pushed (behind_more WritePolygon (words_of c.args.words.now.rest.now) left done c.loop-polygons.invariant polygon_is_one one (words_of c.is_end.new.words.rest.now)
    (subst (WritePolygon left one) next c.in_ok-read_polygon.ensures.items))
