-- The digits of a number one at a time, and that words and numbers before a text make a text.
use Rattle.std.proofs.Common.{◌≡◌, ℕ, ◌+◌, ◌/◌, ◌^◌, ◌<◌, ◌≤◌, List, ◌∷◌, ◌++◌, length, length-append, arith, sym, subst, ap, ◌∙◌}
use Rattle.std.specs.Fmt.{decimal}
use Rattle.std.specs.Str.{IsUtf8}
use Rattle.std.proofs.lemmas.Fmt.{decimal_step, decimal_digit, IsAscii-decimal}
use Rattle.std.proofs.lemmas.Str.{IsUtf8-append, IsUtf8-from_ascii}
use Rattle.std.proofs.lemmas.Str.Ascii.{IsAscii-cons}

pub length_step : (n : ℕ) → 10 ≤ n → n < 2 ^ 64 → length (decimal n) ≡ length (decimal (n / 10)) + 1
length_step n lo hi = ap length (decimal_step n lo hi) ∙ length-append _ _

pub is_text_before : (word rest whole : List ℕ) → IsUtf8 word → IsUtf8 rest → whole ≡ word ++ rest → IsUtf8 whole
is_text_before word rest whole first second is = subst IsUtf8 (sym is) (IsUtf8-append word rest first second)

pub is_text_decimal : (n : ℕ) → n < 2 ^ 64 → IsUtf8 (32 ∷ decimal n)
is_text_decimal n fits = IsUtf8-from_ascii _ (IsAscii-cons 32 (decimal n) (omega arith) (IsAscii-decimal n fits))

pub is_text_minus : (n : ℕ) → n < 2 ^ 64 → IsUtf8 (32 ∷ 45 ∷ decimal n)
is_text_minus n fits = IsUtf8-from_ascii _ (IsAscii-cons 32 (45 ∷ decimal n) (omega arith) (IsAscii-cons 45 (decimal n) (omega arith) (IsAscii-decimal n fits)))

pub length_digit : (n : ℕ) → n < 10 → length (decimal n) ≡ 1
length_digit n small = ap length (decimal_digit n small)
