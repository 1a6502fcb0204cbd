use Rattle.std.proofs.Common.{◌∷◌, drop, arith, refl}
use Rattle.std.proofs.lemmas.Fmt.{length-decimal-le}
use Rattle.std.specs.Fmt.{decimal}
use Rattle.overlay_text.proofs.LineEnds.{is_text_before, is_text_minus}
use Rattle.overlay_text.proofs.line_end.put_signed.Goals as goal

pub put_digits-begin-requires : goal.put_digits-begin-requires
put_digits-begin-requires c =
    (omega (arith, length-decimal-le 19 c.unsigned_abs.result (omega arith) (omega arith) (omega arith), c.requires.0), c.requires.1)

pub put_byte-begin-requires : goal.put_byte-begin-requires
put_byte-begin-requires c =
    let long = length-decimal-le 19 c.unsigned_abs.result (omega arith) (omega arith) (omega arith) in
    let begun = c.put_digits-begin.ensures.begin in
    (omega (arith, c.requires.0), omega (arith, c.requires.1), omega arith)

pub put_byte-requires : goal.put_byte-requires
put_byte-requires c =
    let long = length-decimal-le 19 c.unsigned_abs.result (omega arith) (omega arith) (omega arith) in
    let begun = c.put_digits-begin.ensures.begin in
    let signed = c.put_byte-begin.ensures.begin in
    (omega (arith, c.requires.0), omega (arith, c.requires.1), omega arith)

pub returns-clause-begin : goal.returns-clause-begin
returns-clause-begin c =
    let long = length-decimal-le 19 c.unsigned_abs.result (omega arith) (omega arith) (omega arith) in
    let begun = c.put_digits-begin.ensures.begin in
    let signed = c.put_byte-begin.ensures.begin in
    let spaced = c.put_byte.ensures.begin in
    (omega arith, omega arith)

pub returns-clause-text : goal.returns-clause-text
returns-clause-text c = λ h.
    is_text_before (32 ∷ 45 ∷ decimal c.unsigned_abs.result) (drop c.args.end c.args.room.now) _ (is_text_minus c.unsigned_abs.result (omega arith)) h
    (rw (c.put_byte.ensures.written, c.put_byte-begin.ensures.written, c.put_digits-begin.ensures.written) refl)
