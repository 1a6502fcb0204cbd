use Rattle.overlay_split.proofs.laws.paths.Pieces.{numbers_are_odd, pieces_telescope}
use Rattle.overlay_split.proofs.laws.paths.Balances.{pass_keeps_losses, pass_keeps_balance, run_keeps_balance}
use Rattle.overlay_split.proofs.split.laws.balance_laws.Goals as goal

pub returns-clause-odd : goal.returns-clause-odd
returns-clause-odd c = numbers_are_odd

pub returns-clause-pieces : goal.returns-clause-pieces
returns-clause-pieces c = pieces_telescope

pub returns-clause-pass_losses : goal.returns-clause-pass_losses
returns-clause-pass_losses c = pass_keeps_losses

pub returns-clause-pass_balance : goal.returns-clause-pass_balance
returns-clause-pass_balance c = pass_keeps_balance

pub returns-clause-run_balance : goal.returns-clause-run_balance
returns-clause-run_balance c = run_keeps_balance
