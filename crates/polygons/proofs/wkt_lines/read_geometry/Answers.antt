use Rattle.std.proofs.Common.{rules, ◌≡◌, inl, inr, Some, refl}
use Rattle.overlay_contours.specs.ShapesOf.{shapes_of}
use Rattle.overlay_text.specs.Text.{words_of}
use Rattle.overlay_text.proofs.Results.{if_err}
use Rattle.polygons.proofs.Items.{no_body, some_left}
use Rattle.polygons.proofs.wkt_lines.read_geometry.Goals as goal

pub returns-in_err-polygons-clause-stop : goal.returns-in_err-polygons-clause-stop
returns-in_err-polygons-clause-stop c =
    let is : c.pass_name.result ≡ Some c.in_ok-several.several = search rules in
    let named = rw is at c.pass_name.ensures in
    if_err _ _ _ c.from_residual-in_err-polygons.ensures.1 (elim c.in_err-polygons.ensures.stop [
      | inl memory ↦ inl memory
      | inr faulty ↦ inr (faulty.0, no_body (words_of c.args.words.rest.now) (words_of c.pass_name.new.words.rest.now) c.in_ok-several.several named faulty.1)
    ])

pub returns-in-Some-clause-stop : goal.returns-in-Some-clause-stop
returns-in-Some-clause-stop c =
    let is : c.pass_name.result ≡ Some c.in_ok-several.several = search rules in
    let named = rw is at c.pass_name.ensures in
    inr (
      refl,
      some_left (words_of c.args.words.rest.now) (words_of c.pass_name.new.words.rest.now) c.in_ok-several.several named
          (shapes_of (λ z. z) c.in_ok-polygons.polygons.items) (words_of c.read_body.new.words.rest.now) (words_of c.next.new.self.rest.now) c.in-Some.field-0.now c.in_ok-polygons.ensures.polygons c.in-Some.ensures.steps,
    )

pub returns-in-Some-clause-polygons : goal.returns-in-Some-clause-polygons
returns-in-Some-clause-polygons c = search rules
