use Rattle.std.proofs.Common.{ap}
use Rattle.overlay_geometry.specs.Points.{Pair}
use Rattle.overlay_sweep.proofs.laws.live.LevelRows.{row_free, row_added}
use Rattle.overlay_build_tests.proofs.scans.insert_row.Goals as goal

pub insert-requires-clause-free : goal.insert-requires-clause-free
insert-requires-clause-free g c =
    row_free _ c.args.k _ (g.L.LiveSegments.sums c.args.live.now) (ap (λ (s : Pair). s.a.x) c.level-segment.ensures.pair) (λ i. record { pair = c.level-segment.ensures.pair i; count = c.row_sum.ensures i }) c.requires.rows

pub returns-clause-rows : goal.returns-clause-rows
returns-clause-rows g c =
    row_added _ c.args.k _ (g.L.LiveSegments.sums c.insert.new.self) (g.L.LiveSegments.sums c.args.live.now) (ap (λ (s : Pair). s.a.x) c.level-segment.ensures.pair) (λ i. record { pair = c.level-segment.ensures.pair i; count = c.row_sum.ensures i }) (rw c.expect.ensures at c.insert.ensures.sums) c.requires.rows
