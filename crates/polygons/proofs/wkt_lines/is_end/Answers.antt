use Rattle.std.proofs.Common.{rules}
use Rattle.polygons.proofs.wkt_lines.is_end.Goals as goal

pub returns : goal.returns
returns c = search rules
