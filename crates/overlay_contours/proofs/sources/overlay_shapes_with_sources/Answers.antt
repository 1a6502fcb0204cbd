use Rattle.std.proofs.Common.{rules}
use Rattle.overlay_contours.proofs.sources.overlay_shapes_with_sources.Goals as goal

pub returns-clause-shapes : goal.returns-clause-shapes
returns-clause-shapes g c = search rules

pub returns-clause-sources : goal.returns-clause-sources
returns-clause-sources g c = search rules

pub returns-in_err-shapes_in_range-clause-refused : goal.returns-in_err-shapes_in_range-clause-refused
returns-in_err-shapes_in_range-clause-refused g c = search rules
