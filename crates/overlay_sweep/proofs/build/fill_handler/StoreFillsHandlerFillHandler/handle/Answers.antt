use Rattle.std.proofs.Common.{refl}
use Rattle.overlay_sweep.proofs.build.fill_handler.StoreFillsHandlerFillHandler.handle.Goals as goal

pub returns-clause-handler : goal.returns-clause-handler
returns-clause-handler g c = refl
