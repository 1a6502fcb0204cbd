use Rattle.std.proofs.Common.{refl}
use Rattle.overlay_base.proofs.overlay_core.solver.Solver.is_list_fill.Goals as goal

pub returns-in-List : goal.returns-in-List
returns-in-List g c = rw c.in-List.is refl

pub returns-in-Auto : goal.returns-in-Auto
returns-in-Auto g c = rw c.in-Auto.is refl
