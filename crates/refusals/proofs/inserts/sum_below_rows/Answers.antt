use Rattle.std.proofs.Common.{arith}
use Rattle.std.specs.Prelude.{pos}
use Rattle.std.proofs.lemmas.Int.{ints}
use Rattle.overlay_sweep.proofs.laws.live.LevelRows.{rows_free, rows_later}
use Rattle.refusals.proofs.inserts.sum_below_rows.Goals as goal

pub sum_below-requires-clause-free : goal.sum_below-requires-clause-free
sum_below-requires-clause-free g c =
    rows_free (pos 5) _ (rows_later (pos 0) (pos 5) _ (omega (arith, ints)) c.requires.rows)
