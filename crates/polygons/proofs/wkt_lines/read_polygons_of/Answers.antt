use Rattle.std.proofs.Common.{rules, ◌≡◌, inl, inr, Some}
use Rattle.overlay_text.specs.Text.{words_of}
use Rattle.overlay_text.proofs.Results.{if_err}
use Rattle.polygons.proofs.Adding.{no_polygons_of}
use Rattle.polygons.proofs.wkt_lines.read_polygons_of.Goals as goal

pub returns-in_err-polygons-clause-stop : goal.returns-in_err-polygons-clause-stop
returns-in_err-polygons-clause-stop c =
    let is : c.next.result ≡ Some c.in_ok-letter.letter = search rules in
    let first = rw is at c.next.ensures.steps in
    if_err _ _ _ c.from_residual-in_err-polygons.ensures.1 (elim c.in_err-polygons.ensures.stop [
      | inl memory ↦ inl memory
      | inr faulty ↦ inr (faulty.0, no_polygons_of (words_of c.args.words.rest.now) (words_of c.next.new.self.rest.now) c.in_ok-letter.letter.now first faulty.1)
    ])
