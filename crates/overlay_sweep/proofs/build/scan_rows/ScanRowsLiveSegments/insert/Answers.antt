use Rattle.std.proofs.Common.{rules}
use Rattle.overlay_sweep.proofs.laws.visits.LookCosts.{highest_of_fewer, search_pays}
use Rattle.overlay_sweep.proofs.build.scan_rows.ScanRowsLiveSegments.insert.Goals as goal

pub returns-in-Ok-clause-most : goal.returns-in-Ok-clause-most
returns-in-Ok-clause-most g c = λ n d within high. search_pays _ _ _ d (c.in-Ok.ensures.few d (highest_of_fewer _ n d within high)) c.in-Ok.ensures.held

pub returns-in-Err-clause-cleared : goal.returns-in-Err-clause-cleared
returns-in-Err-clause-cleared g c = c.clear.ensures.time

pub returns-in-Err-clause-emptied : goal.returns-in-Err-clause-emptied
returns-in-Err-clause-emptied g c = search rules
