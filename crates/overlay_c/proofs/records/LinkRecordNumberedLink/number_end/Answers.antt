use Rattle.std.proofs.Common.{rules}
use Rattle.overlay_c.proofs.records.LinkRecordNumberedLink.number_end.Goals as goal

pub returns : goal.returns
returns c = search rules
