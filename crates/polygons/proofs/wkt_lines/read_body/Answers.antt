use Rattle.std.proofs.Common.{inl, inr, subst}
use Rattle.overlay_text.specs.Text.{words_of}
use Rattle.overlay_text.proofs.Results.{if_err}
use Rattle.polygons.specs.Wkt.{WriteBody}
use Rattle.polygons.proofs.wkt_lines.read_body.Goals as goal

pub returns-then-several-clause-stop : goal.returns-then-several-clause-stop
returns-then-several-clause-stop c = rw c.if-several.true c.read_several.ensures.stop

pub returns-in_err-read_polygon-clause-stop : goal.returns-in_err-read_polygon-clause-stop
returns-in_err-read_polygon-clause-stop c =
    if_err _ _ _ c.from_residual.ensures.1 (elim c.in_err-read_polygon.ensures.stop [
      | inl memory ↦ inl memory
      | inr faulty ↦ inr (
        faulty.0,
        λ polygons rest h.
            let one = subst (λ s. WriteBody s (words_of c.args.words.now.rest.now) polygons rest) c.if-several.false h in
            faulty.1 one.0 rest one.2,
      )
    ])
