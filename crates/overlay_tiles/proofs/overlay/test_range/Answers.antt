use Rattle.std.proofs.Common.{rules}
use Rattle.overlay_tiles.proofs.overlay.test_range.Goals as goal

pub returns-in-Some-clause-outside : goal.returns-in-Some-clause-outside
returns-in-Some-clause-outside g c = search rules
