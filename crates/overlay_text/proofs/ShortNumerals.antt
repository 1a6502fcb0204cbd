-- What nine digits can write.
use Rattle.std.proofs.Common.{ℕ, ◌<◌, ◌≤◌, List, length}
use Rattle.std.specs.Str.Parse.{IsNumeral, AllDigits, digits_value}
use Rattle.std.proofs.lemmas.Str.Parse.{digits_value_short, numerals_by_value, tells_digits}

pub nine_digits_are_few : (ds : List ℕ) → IsNumeral 10 ds → length ds ≤ 9 → digits_value 10 ds < 1000000000
nine_digits_are_few ds numeral short = digits_value_short (numerals_by_value (AllDigits 10) tells_digits) ds 9 numeral.1 short
