use Rattle.std.proofs.Common.{◌≡◌, take, false}
use Rattle.std.specs.List.{list_any}
use Rattle.polygons.proofs.run.Choices.has_others.Given as goal

abbrev pub invariant-loop-is_chosen : goal.invariant-loop-is_chosen
invariant-loop-is_chosen l = list_any (λ is_chosen. is_chosen) (take l.is_chosen-index l.self.others) ≡ false
