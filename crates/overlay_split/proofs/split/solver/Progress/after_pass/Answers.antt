use Rattle.std.proofs.Common.{ap, ◌+◌, ℕ}
use Rattle.overlay_base.specs.SegmentOf.{segments_of}
use Rattle.overlay_intersections.specs.PlacingOf.{placing_of}
use Rattle.overlay_split.proofs.laws.nearness.Reaches.{reach_of_pass-found}
use Rattle.overlay_split.proofs.split.solver.Progress.after_pass.Goals as goal

pub returns-then-len-ge2-clause-reach : goal.returns-then-len-ge2-clause-reach
returns-then-len-ge2-clause-reach g c = ap (λ (n : ℕ). c.args.self.reach + n) (reach_of_pass-found (placing_of c.args.placing) (segments_of c.args.list.now.items) _ _ c.most_moved.ensures.reach c.in_ok-passed.ensures.rounded)

pub returns-else-len-ge2-clause-reach : goal.returns-else-len-ge2-clause-reach
returns-else-len-ge2-clause-reach g c = ap (λ (n : ℕ). c.args.self.reach + n) (reach_of_pass-found (placing_of c.args.placing) (segments_of c.args.list.now.items) _ _ c.most_moved.ensures.reach c.in_ok-passed.ensures.rounded)
