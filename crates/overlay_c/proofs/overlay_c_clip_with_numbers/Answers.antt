use Rattle.std.proofs.Common.{ℕ, ◌<◌, rules, subst, sym}
use Rattle.overlay_c.proofs.Codes.{split_code}
use Rattle.overlay_c.proofs.overlay_c_clip_with_numbers.Goals as goal

pub returns-clause-done : goal.returns-clause-done
returns-clause-done c = search rules

pub returns-clause-codes : goal.returns-clause-codes
returns-clause-codes c = subst (λ (n : ℕ). n < 4) (sym c.status.ensures) (split_code _ c.clip_with_numbers-outcome.ensures.refused)
