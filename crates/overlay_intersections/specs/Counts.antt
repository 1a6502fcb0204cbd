-- How many tests hold.
use Rattle.std.specs.Prelude.{ℕ, ◌+◌, Bool}
use Rattle.std.specs.Int.{from_bool}

abbrev pub count_true : Bool → Bool → Bool → Bool → ℕ
count_true a b c d = from_bool a + from_bool b + from_bool c + from_bool d
