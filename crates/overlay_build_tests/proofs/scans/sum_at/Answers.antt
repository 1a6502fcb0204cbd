use Rattle.std.proofs.Common.{◌≡◌, to_z-of_z, FitsSigned, w64}
use Rattle.overlay_sweep.proofs.laws.live.LevelRows.{rows_free, rows_kept}
use Rattle.overlay_build_tests.proofs.scans.sum_at.Goals as goal

pub sum_below-sum-requires-clause-free : goal.sum_below-sum-requires-clause-free
sum_below-sum-requires-clause-free g c =
    let fits : FitsSigned w64 c.args.x = c.ranges.x in
    let here : g.I.OverlayInt.whole c.coordinate.result ≡ c.args.x = simp to_z-of_z at c.coordinate.ensures.whole in
    rw here (rows_free c.args.x (g.L.LiveSegments.sums c.args.live.now) c.requires.rows)

pub returns-clause-rows : goal.returns-clause-rows
returns-clause-rows g c =
    let fits : FitsSigned w64 c.args.x = c.ranges.x in
    let here : g.I.OverlayInt.whole c.coordinate.result ≡ c.args.x = simp to_z-of_z at c.coordinate.ensures.whole in
    rows_kept c.args.x (g.L.LiveSegments.sums c.sum_below-sum.new.self) (g.L.LiveSegments.sums c.args.live.now) (rw here at c.sum_below-sum.ensures.sums) c.requires.rows
