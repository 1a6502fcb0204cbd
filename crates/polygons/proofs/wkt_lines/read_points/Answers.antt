use Rattle.std.proofs.Common.{rules, arith, ◌≡◌, ◌++◌, ◌∷◌, [], inr, None, Some, subst}
use Rattle.std.proofs.lemmas.Grind.{common_steps}
use Rattle.std.proofs.lemmas.List.{map-append}
use Rattle.overlay_geometry.specs.PointOf.{point_of}
use Rattle.overlay_contours.specs.ContoursOf.{points_of}
use Rattle.overlay_text.specs.Text.{words_of}
use Rattle.overlay_text.proofs.Results.{if_err}
use Rattle.polygons.specs.Wkt.{WritePoint}
use Rattle.polygons.proofs.Items.{point_is_one, behind_more, no_item, no_mark}
use Rattle.polygons.proofs.wkt_lines.read_points.Goals as goal

pub returns-in_err-point-clause-stop : goal.returns-in_err-point-clause-stop
returns-in_err-point-clause-stop c =
    let none : c.read_point.result ≡ None = search rules in
    let no_point = rw none at c.read_point.ensures in
    if_err _ _ _ c.from_residual.ensures.1 (inr (search rules, no_item WritePoint (words_of c.args.words.now.rest.now) (words_of c.loop-points.words.rest.now) (points_of (λ z. z) c.loop-points.points.items) c.loop-points.invariant no_point))

pub returns-in_err-ok_or-clause-stop : goal.returns-in_err-ok_or-clause-stop
returns-in_err-ok_or-clause-stop c =
    let no : c.is_end.result ≡ None = search rules in
    let none = rw no at c.is_end.ensures in
    let some : c.read_point.result ≡ Some c.in_ok-point.point = search rules in
    let written = rw some at c.read_point.ensures in
    if_err _ _ _ c.from_residual-in_err-ok_or.ensures.1 (inr (
      search rules,
      no_mark WritePoint (words_of c.args.words.now.rest.now) (words_of c.loop-points.words.rest.now) (points_of (λ z. z) c.loop-points.points.items) c.loop-points.invariant
          point_is_one (point_of (λ z. z) c.in_ok-point.point) (words_of c.read_point.new.words.rest.now) written none,
    ))

pub loop-points-preserved : goal.loop-points-preserved
loop-points-preserved c =
    let left = words_of c.loop-points.words.rest.now in
    let point = point_of (λ z. z) c.in_ok-point.point in
    let done = points_of (λ z. z) c.loop-points.points.items in
    let some : c.read_point.result ≡ Some c.in_ok-point.point = search rules in
    let written = rw some at c.read_point.ensures in
    let is : c.is_end.result ≡ Some c.in_ok-ok_or.field-0 = search rules in
    let next = rw (is, c.if-branch.false) at c.is_end.ensures in
    let pushed : points_of (λ z. z) c.push.new.self.items ≡ done ++ point ∷ [] = grind (arith, common_steps, c.in_ok-push.ensures.items, map-append) in
    rw pushed (behind_more WritePoint (words_of c.args.words.now.rest.now) left done c.loop-points.invariant point_is_one point (words_of c.is_end.new.words.rest.now) (subst (WritePoint left point) next written))
