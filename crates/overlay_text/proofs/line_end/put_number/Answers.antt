use Rattle.std.proofs.Common.{◌∷◌, drop, arith, refl}
use Rattle.std.proofs.lemmas.Fmt.{length-decimal-le}
use Rattle.std.specs.Fmt.{decimal}
use Rattle.overlay_text.proofs.LineEnds.{is_text_before, is_text_decimal}
use Rattle.overlay_text.proofs.line_end.put_number.Goals as goal

pub put_digits-begin-requires : goal.put_digits-begin-requires
put_digits-begin-requires c =
    (omega (arith, length-decimal-le 20 c.args.number (omega arith) (omega arith) c.ranges.number.fits, c.requires.0), c.requires.1)

pub put_byte-requires : goal.put_byte-requires
put_byte-requires c =
    let long = length-decimal-le 20 c.args.number (omega arith) (omega arith) c.ranges.number.fits in
    let begun = c.put_digits-begin.ensures.begin in
    (omega (arith, c.requires.0), omega (arith, c.requires.1), omega arith)

pub returns-clause-begin : goal.returns-clause-begin
returns-clause-begin c =
    let long = length-decimal-le 20 c.args.number (omega arith) (omega arith) c.ranges.number.fits in
    let begun = c.put_digits-begin.ensures.begin in
    let spaced = c.put_byte.ensures.begin in
    (omega arith, omega arith)

pub returns-clause-text : goal.returns-clause-text
returns-clause-text c = λ h.
    is_text_before (32 ∷ decimal c.args.number) (drop c.args.end c.args.room.now) _ (is_text_decimal c.args.number c.ranges.number.fits) h (rw (c.put_byte.ensures.written, c.put_digits-begin.ensures.written) refl)
