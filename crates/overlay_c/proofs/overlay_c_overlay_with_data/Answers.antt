use Rattle.std.proofs.Common.{ℕ, ◌<◌, subst, sym}
use Rattle.overlay_c.proofs.Codes.{split_code}
use Rattle.overlay_c.proofs.overlay_c_overlay_with_data.Goals as goal

pub returns-clause-codes : goal.returns-clause-codes
returns-clause-codes c = subst (λ (n : ℕ). n < 4) (sym c.status.ensures) (split_code _ c.overlay_with_data-outcome.ensures.refused)
