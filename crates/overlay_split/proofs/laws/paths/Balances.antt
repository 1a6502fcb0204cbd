-- A pass changes no balance, and a run changes none.
use Rattle.std.proofs.Common.{◌≡◌, ap, ◌∙◌, List}
use Rattle.std.specs.Prelude.{ℕ, zero, suc}
use Rattle.overlay_geometry.specs.Points.{Point}
use Rattle.overlay_base.specs.Segments.{WholeSegment}
use Rattle.overlay_base.specs.Balance.{balance}
use Rattle.overlay_cuts.specs.Run.{Settings, placing_of_pass, after_passes}
use Rattle.overlay_cuts.specs.Pass.{cut, pass}
use Rattle.overlay_intersections.specs.PassMarks.{marks_on}
use Rattle.overlay_cuts.specs.Laws.{loss}
use Rattle.overlay_split.specs.Laws.{PassKeepsLosses, PassKeepsBalance, RunKeepsBalance}
use Rattle.overlay_base.proofs.laws.joins.Functionals.{weighed-join, balance-join}
use Rattle.overlay_cuts.proofs.laws.paths.Balances.{cut_keeps_balance, weighed-cut}

pub pass_keeps_losses : PassKeepsLosses
unfolding pass
pass_keeps_losses f part linear odd placing segments = weighed-join (loss f) part linear (cut placing segments) ∙ weighed-cut part odd f (marks_on placing segments) segments

-- ---- balance

pub pass_keeps_balance : PassKeepsBalance
unfolding pass
pass_keeps_balance placing segments = cut_keeps_balance (marks_on placing segments) segments

-- a run changes no balance
pub balance-after_passes : (settings : Settings) (given : List WholeSegment) (k : ℕ) (p : Point) → balance (after_passes settings given k) p ≡ balance given p
unfolding after_passes
balance-after_passes settings given zero p = balance-join given p
balance-after_passes settings given (suc k) p = pass_keeps_balance (placing_of_pass settings (suc k)) (after_passes settings given k) p ∙ balance-after_passes settings given k p

pub run_keeps_balance : RunKeepsBalance
run_keeps_balance settings given result passes flag run p = ap (λ (segments : List WholeSegment). balance segments p) run.arrangement ∙ balance-after_passes settings given passes p
