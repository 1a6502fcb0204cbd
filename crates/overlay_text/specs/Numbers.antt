-- Numbers as lines write them: digits, with a minus before those of a negative number.
use Rattle.std.specs.Prelude.{◌≡◌, ℕ, ◌≤◌, ℤ, pos, neg_ℤ, if◌then◌else◌, List, length, drop}
use Rattle.std.specs.Str.Parse.{IsNumeral, digits_value, starts_with_minus}

abbrev pub without_minus : List ℕ → List ℕ
without_minus text = if starts_with_minus text then drop 1 text else text

-- an optional minus and 1 to 10 digits
abbrev pub IsSignedNumeral : List ℕ → Type 0
IsSignedNumeral text = IsNumeral 10 (without_minus text) × (length (without_minus text) ≤ 10)

abbrev pub signed_value : List ℕ → ℤ
signed_value text =
    if starts_with_minus text
    then neg_ℤ (pos (digits_value 10 (without_minus text)))
    else pos (digits_value 10 (without_minus text))

-- the word is this number
abbrev pub WritesNumber : List ℕ → ℤ → Type 0
WritesNumber word number = IsSignedNumeral word × (number ≡ signed_value word)
