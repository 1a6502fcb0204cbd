use Rattle.overlay_snapping.proofs.laws.chains.ExactSnaps.{exact_snap_is_pass}
use Rattle.overlay_snapping.proofs.laws.chains.Paths.{path_is_chain, snapped_is_one}
use Rattle.overlay_snapping.proofs.laws.chains.Reorders.{snapped_ignores_order}
use Rattle.overlay_snapping.proofs.laws.chains.Snaps.{cuts_snap}
use Rattle.overlay_snapping.proofs.snap.laws.chain_laws.Goals as goal

pub returns-clause-path : goal.returns-clause-path
returns-clause-path c = path_is_chain

pub returns-clause-one : goal.returns-clause-one
returns-clause-one c = snapped_is_one

pub returns-clause-cuts : goal.returns-clause-cuts
returns-clause-cuts c = cuts_snap

pub returns-clause-exact : goal.returns-clause-exact
returns-clause-exact c = exact_snap_is_pass

pub returns-clause-order : goal.returns-clause-order
returns-clause-order c = snapped_ignores_order
