use Rattle.std.proofs.Common.{rules}
use Rattle.overlay_base.proofs.overlay_core.overlay_rule.OverlayRule.holds.Goals as goal

pub returns-then-subj-3 : goal.returns-then-subj-3
returns-then-subj-3 c = search rules

pub returns-else-subj-3 : goal.returns-else-subj-3
returns-else-subj-3 c = search rules
