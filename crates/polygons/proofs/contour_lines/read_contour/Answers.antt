use Rattle.std.proofs.Common.{rules, arith, ◌≡◌, ◌∷◌, ◌∙◌, inl, inr, refl, sym, length, Some, None}
use Rattle.std.proofs.lemmas.Grind.{common_steps}
use Rattle.std.proofs.lemmas.List.{length-map}
use Rattle.overlay_geometry.specs.PointOf.{point_of}
use Rattle.overlay_contours.specs.ContoursOf.{points_of}
use Rattle.overlay_text.specs.Text.{words_of, words_of_line}
use Rattle.overlay_text.specs.declared.stop.LineFault.TheVariants.{Form}
use Rattle.overlay_text.proofs.Results.{if_err}
use Rattle.polygons.proofs.Reading.{no_contour}
use Rattle.polygons.proofs.contour_lines.read_contour.Goals as goal

pub returns-in_err-shape_type-clause-faulty : goal.returns-in_err-shape_type-clause-faulty
returns-in_err-shape_type-clause-faulty g c =
    let is : c.next.result ≡ Some c.in_ok-name.name = search rules in
    let steps = rw is at c.next.ensures.steps in
    let first : words_of_line c.args.line.now ≡ c.in_ok-name.name.now ∷ words_of c.next.new.self.rest.now = sym c.of-words.ensures ∙ steps in
    let nothing : c.named_shape.result ≡ None = search rules in
    let none = rw nothing at c.named_shape.ensures in
    if_err _ _ _ c.from_residual-in_err-shape_type.ensures.1
    (inr (Form, search rules, inl (refl, c.requires.some, c.requires.no_shape, no_contour c.args.chosen (words_of_line c.args.line.now) (words_of c.next.new.self.rest.now) c.in_ok-name.name.now first none)))

pub returns-then-len-eq2-clause-faulty : goal.returns-then-len-eq2-clause-faulty
returns-then-len-eq2-clause-faulty g c =
    let is : c.next.result ≡ Some c.in_ok-name.name = search rules in
    let steps = rw is at c.next.ensures.steps in
    let first : words_of_line c.args.line.now ≡ c.in_ok-name.name.now ∷ words_of c.next.new.self.rest.now = sym c.of-words.ensures ∙ steps in
    let found : c.named_shape.result ≡ Some c.in_ok-shape_type.shape_type = search rules in
    let names = rw found at c.named_shape.ensures in
    let points = points_of (λ z. z) c.read_points.new.wide.items in
    let same = length-map c.read_points.new.wide.items (point_of (λ z. z)) in
    let two : length points ≡ 2 = omega (arith, same) in
    inr (Form, refl, inr (inl (refl, (c.in_ok-shape_type.shape_type, points, (c.in_ok-name.name.now, words_of c.next.new.self.rest.now, first, names, c.in_ok-read_points.ensures.points), two))))

pub returns-clause-contour : goal.returns-clause-contour
returns-clause-contour g c = grind (arith, common_steps)
