use Rattle.overlay_base.proofs.laws.rays.BalanceTests.{balance_is_tested}
use Rattle.overlay_base.proofs.segm.laws.balance_test_laws.Goals as goal

pub returns : goal.returns
returns c = balance_is_tested
