use Rattle.std.proofs.Common.{rules}
use Rattle.polygons.proofs.wkt_lines.runs_wrong.Goals as goal

pub returns-then-is_outer : goal.returns-then-is_outer
returns-then-is_outer g c = search rules
