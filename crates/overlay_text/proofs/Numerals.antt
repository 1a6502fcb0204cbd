-- A numeral is read one digit at a time, and up to ten digits fit.
use Rattle.std.proofs.Common.{◌≡◌, ℕ, zero, suc, ◌+◌, ◌-◌, ◌*◌, ◌<◌, ◌≤◌, List, [], ◌∷◌, length, take, get_or, take_all, arith, subst, ap, ◌∙◌}
use Rattle.std.proofs.lemmas.List.{length-take-le}
use Rattle.std.specs.Int.{IsInRange}
use Rattle.std.specs.Char.{digit_value}
use Rattle.std.specs.Str.Parse.{AllDigits, digits_value}
use Rattle.std.proofs.lemmas.Int.Digits.{digits_value_more}
use Rattle.std.proofs.lemmas.Str.{digit_value_digit}
use Rattle.std.proofs.lemmas.Str.Parse.{digits_value_short, numerals_by_value, tells_digits}

all_digits_more : (ds : List ℕ) (i : ℕ) → i < length ds → AllDigits 10 (take i ds) → digit_value (get_or ds i 0) < 10 → AllDigits 10 (take (suc i) ds)
all_digits_more [] i within digits next = absurd (omega (arith, within))
all_digits_more (c ∷ cs) zero within digits next = (next, tt)
all_digits_more (c ∷ cs) (suc i) within digits next = (digits.0, all_digits_more cs i (omega arith) digits.1 next)

module _ (ds : List ℕ) (i : ℕ) (digits : AllDigits 10 (take i ds)) where
  pub first_digits_are_few : i ≤ length ds → i ≤ 9 → digits_value 10 (take i ds) < 1000000000
  first_digits_are_few within few = digits_value_short (numerals_by_value (AllDigits 10) tells_digits) (take i ds) 9 digits (omega (arith, length-take-le i ds within))

  pub one_digit_more : i < length ds → IsInRange 48 57 (get_or ds i 0) → AllDigits 10 (take (i + 1) ds) × (10 * digits_value 10 (take i ds) + (get_or ds i 0 - 48) ≡ digits_value 10 (take (i + 1) ds))
  one_digit_more within next =
      let value = digit_value_digit (get_or ds i 0) next in
      let next_place : suc i ≡ i + 1 = omega arith in
      (subst (λ n. AllDigits 10 (take n ds)) next_place (all_digits_more ds i within digits (omega (arith, next.1))), omega (arith, digits_value_more 10 ds i within))

-- where no digit is left, the number is that of all digits, and few
pub all_digits_read : (ds : List ℕ) (i size : ℕ) → AllDigits 10 (take i ds) → size ≡ digits_value 10 (take i ds) → length ds ≤ i → length ds ≤ 10 → AllDigits 10 ds × (size ≡ digits_value 10 ds) × (size < 10000000000)
all_digits_read ds i size digits is done short =
    let whole : take i ds ≡ ds = take_all i ds done in
    let all = subst (AllDigits 10) whole digits in
    let same : size ≡ digits_value 10 ds = is ∙ ap (digits_value 10) whole in
    (all, same, omega (arith, same, digits_value_short (numerals_by_value (AllDigits 10) tells_digits) ds 10 all short))
