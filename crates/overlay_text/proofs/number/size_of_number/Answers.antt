use Rattle.std.proofs.Common.{◌≡◌, ◌<◌, ◌∙◌, ap, length, pos, to_z, w64, arith, rules}
use Rattle.std.proofs.lemmas.Int.{to_z_pos}
use Rattle.std.proofs.lemmas.Grind.{common_steps}
use Rattle.std.proofs.lemmas.Str.Parse.{digit_at}
use Rattle.overlay_text.proofs.Numerals.{first_digits_are_few, one_digit_more, all_digits_read}
use Rattle.overlay_text.proofs.number.size_of_number.Goals as goal

pub returns-then-not-is_ascii_digit : goal.returns-then-not-is_ascii_digit
returns-then-not-is_ascii_digit c = λ h. let digit = digit_at c.args.digits.now c.loop-digit.digit-index h.0.1 c.loop-digit-test.true in search (rules, digit)

pub overflow_mul-size : goal.overflow_mul-size
overflow_mul-size c =
    let few = first_digits_are_few c.args.digits.now c.loop-digit.digit-index c.loop-digit.invariant.0 (omega (arith, c.loop-digit-test.true)) (omega (arith, c.loop-digit-test.true, c.if-digits-gt10.false)) in
    let is = c.loop-digit.invariant.1 in
    omega arith

pub overflow_add-size : goal.overflow_add-size
overflow_add-size c =
    let few = first_digits_are_few c.args.digits.now c.loop-digit.digit-index c.loop-digit.invariant.0 (omega (arith, c.loop-digit-test.true)) (omega (arith, c.loop-digit-test.true, c.if-digits-gt10.false)) in
    let is = c.loop-digit.invariant.1 in
    let digit = c.if-not-is_ascii_digit.ensures.cases in
    omega (arith, digit.1)

pub loop-digit-preserved : goal.loop-digit-preserved
loop-digit-preserved c =
    rw c.loop-digit.invariant.1 (one_digit_more c.args.digits.now c.loop-digit.digit-index c.loop-digit.invariant.0 c.loop-digit-test.true c.if-not-is_ascii_digit.ensures.cases)

pub overflow_cast-result : goal.overflow_cast-result
overflow_cast-result c =
    let read = all_digits_read c.args.digits.now c.loop-digit.digit-index c.loop-digit.size c.loop-digit.invariant.0 c.loop-digit.invariant.1 c.loop-digit-test.false c.if-digits-gt10.false in
    omega (arith, read.2)

pub returns : goal.returns
returns c =
    let read = all_digits_read c.args.digits.now c.loop-digit.digit-index c.loop-digit.size c.loop-digit.invariant.0 c.loop-digit.invariant.1 c.loop-digit-test.false c.if-digits-gt10.false in
    let some : 0 < length c.args.digits.now = grind (arith, common_steps, c.if-is_empty.false, c.is_empty.ensures) in
    let wide : to_z w64 c.loop-digit.size ≡ pos c.loop-digit.size = to_z_pos w64 c.loop-digit.size (omega (arith, read.2)) in
    (((some, read.0), c.if-digits-gt10.false), wide ∙ ap pos read.1)
