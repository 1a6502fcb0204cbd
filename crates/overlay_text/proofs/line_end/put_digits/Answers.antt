use Rattle.std.proofs.Common.{arith, append_assoc}
use Rattle.std.proofs.lemmas.Fmt.{decimal_step, decimal_digit}
use Rattle.overlay_text.proofs.LineEnds.{length_step, length_digit}
use Rattle.overlay_text.proofs.line_end.put_digits.Goals as goal

pub put_byte-begin-requires : goal.put_byte-begin-requires
put_byte-begin-requires c =
    let long = length_step c.loop-left.left c.loop-left-test.true c.loop-left.auto.left-fits.fits in
    (omega (arith, c.loop-left.invariant.0), omega (arith, c.loop-left.invariant.1, c.requires.1), omega arith)

pub loop-left-preserved : goal.loop-left-preserved
loop-left-preserved c =
    let l = c.loop-left in
    let long = length_step l.left c.loop-left-test.true l.auto.left-fits.fits in
    let begun = c.put_byte-begin.ensures.begin in (
      omega (arith, l.invariant.0),
      omega (arith, l.invariant.1),
      omega (arith, l.invariant.2),
      rw c.put_byte-begin.ensures.written (rw (decimal_step l.left c.loop-left-test.true l.auto.left-fits.fits, append_assoc) at l.invariant.3),
    )

pub put_byte-requires : goal.put_byte-requires
put_byte-requires c =
    let some = length_digit c.loop-left.left c.loop-left-test.false in
    (omega (arith, c.loop-left.invariant.0), omega (arith, c.loop-left.invariant.1, c.requires.1), omega arith)

pub returns-clause-begin : goal.returns-clause-begin
returns-clause-begin c =
    let some = length_digit c.loop-left.left c.loop-left-test.false in
    omega (arith, c.put_byte.ensures.begin, c.loop-left.invariant.2)

pub returns-clause-written : goal.returns-clause-written
returns-clause-written c = rw c.put_byte.ensures.written (rw (decimal_digit c.loop-left.left c.loop-left-test.false) at c.loop-left.invariant.3)
