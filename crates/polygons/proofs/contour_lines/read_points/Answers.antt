use Rattle.std.proofs.Common.{rules, arith, ◌≡◌, ◌∷◌, ◌++◌, [], inr, refl, ℤ, List, sym, ◌∙◌, Some}
use Rattle.std.proofs.lemmas.List.{map-append}
use Rattle.std.proofs.lemmas.Grind.{common_steps}
use Rattle.overlay_geometry.specs.Points.{Point}
use Rattle.overlay_contours.specs.ContoursOf.{points_of}
use Rattle.overlay_text.specs.Numbers.{WritesNumber}
use Rattle.overlay_text.specs.Text.{words_of}
use Rattle.overlay_text.proofs.Results.{if_err}
use Rattle.polygons.specs.ContourText.{WritePoints}
use Rattle.polygons.proofs.Reading.{two_read, no_number, one_left_over}
use Rattle.polygons.proofs.contour_lines.read_points.Goals as goal

pub returns-in_err-coordinate-clause-stop : goal.returns-in_err-coordinate-clause-stop
returns-in_err-coordinate-clause-stop c =
    let other : (z : ℤ) → ¬ (WritesNumber c.in-Some.word.now z) = search rules in
    let none : (points : List Point) → ¬ (WritePoints (words_of c.args.words.rest.now) points) = λ points. no_number (words_of c.args.words.rest.now) (words_of c.loop-word.word-iterator.rest.now) (words_of c.next.new.self.rest.now) c.in-Some.word.now (points_of (λ z. z) c.loop-word.wide.items) c.in-Some.ensures.steps c.loop-word.before points c.loop-word.invariant other in
    if_err _ _ _ c.from_residual.ensures.1 (inr (search rules, none))

pub loop-word-preserved : goal.loop-word-preserved
loop-word-preserved c =
    let writes : WritesNumber c.in-Some.word.now c.in_ok-coordinate.coordinate = search rules in
    let points = points_of (λ z. z) c.loop-word.wide.items in
    let first : c.loop-word.before ≡ Some c.in-Some-take.x = sym c.take.ensures.value ∙ c.in-Some-take.is in
    let read = rw first at c.loop-word.invariant in
    let pushed : points_of (λ z. z) c.push.new.self.items ≡ points ++ record { x = c.in-Some-take.x; y = c.in_ok-coordinate.coordinate } ∷ [] = grind (arith, common_steps, c.in_ok-push-in-Some-take.ensures.items, map-append) in
    rw (c.take.ensures.after, pushed)
    (two_read (words_of c.args.words.rest.now) (words_of c.loop-word.word-iterator.rest.now) (words_of c.next.new.self.rest.now) c.in-Some.word.now points c.in-Some.ensures.steps c.in-Some-take.x c.in_ok-coordinate.coordinate read writes)

pub returns-in-Some-before-clause-stop : goal.returns-in-Some-before-clause-stop
returns-in-Some-before-clause-stop c =
    let read = rw c.in-Some-before.is at c.loop-word.invariant in
    inr (refl, λ points. one_left_over (words_of c.args.words.rest.now) (words_of c.loop-word.word-iterator.rest.now) c.in-Some-before.field-0 (points_of (λ z. z) c.loop-word.wide.items) points read c.in-None.ensures.steps.0)

pub returns-in-Some-before-clause-points : goal.returns-in-Some-before-clause-points
returns-in-Some-before-clause-points c = search rules
