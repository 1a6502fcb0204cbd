-- Numbers as the sums of live segments.
use Rattle.std.specs.Prelude.{ℕ, ◌+◌, ◌/◌, ◌%◌, ◌^◌, pos}
use Rattle.overlay_base.specs.Windings.{Winding}

-- one more than a number, in two digits: so it is the sum of no empty count
abbrev pub numbered : ℕ → Winding
numbered n = record { subj = pos ((n + 1) % 2 ^ 31); clip = pos ((n + 1) / 2 ^ 31); mask = 0 }
