use Rattle.overlay_snapping.proofs.laws.cells.Inner.{inside_by_one}
use Rattle.overlay_snapping.proofs.snap.inner_box.are_inside.Goals as goal

pub returns : goal.returns
returns c = inside_by_one c.args.from_start c.args.to_end c.ranges.from_start.fits c.ranges.to_end.fits
