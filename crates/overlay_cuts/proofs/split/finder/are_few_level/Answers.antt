use Rattle.std.proofs.Common.{arith}
use Rattle.overlay_cuts.proofs.split.finder.are_few_level.Goals as goal

pub bounds-segments-index : goal.bounds-segments-index
bounds-segments-index g c = c.loop-index-test.true

pub offset_bounds-segments-index : goal.offset_bounds-segments-index
offset_bounds-segments-index g c = let within = bounds-segments-index g c in omega (arith, within)

pub loop-index-smaller : goal.loop-index-smaller
loop-index-smaller g c = omega (arith, c.loop-index-test.true)
