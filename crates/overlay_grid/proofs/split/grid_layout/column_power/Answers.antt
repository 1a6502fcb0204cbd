use Rattle.std.proofs.Common.{◌≤◌, ◌^◌, ◌∙◌, sym, subst, ℕ}
use Rattle.overlay_grid.proofs.laws.grid.GridSizes.{power_for-fits, power_is, power_for-less, power_for-not_less}
use Rattle.overlay_grid.proofs.split.grid_layout.column_power.Goals as goal

pub returns-then-max_power-log-clause-fits : goal.returns-then-max_power-log-clause-fits
returns-then-max_power-log-clause-fits c =
    subst (λ (k : ℕ). 2 ^ k ≤ c.args.spread) (power_for-less c.ilog2-log.result c.args.max_power c.if-max_power-log.true)
    (power_for-fits c.args.spread c.ilog2-log.result c.args.max_power c.requires (record { reached = c.ilog2-log.ensures.power_le; not_passed = c.ilog2-log.ensures.next_power_gt }))

pub returns-then-max_power-log-clause-power : goal.returns-then-max_power-log-clause-power
returns-then-max_power-log-clause-power c log h =
    sym (power_for-less c.ilog2-log.result c.args.max_power c.if-max_power-log.true)
    ∙ power_is c.args.spread c.ilog2-log.result c.args.max_power log (record { reached = c.ilog2-log.ensures.power_le; not_passed = c.ilog2-log.ensures.next_power_gt }) h

pub returns-else-max_power-log-clause-power : goal.returns-else-max_power-log-clause-power
returns-else-max_power-log-clause-power c log h =
    sym (power_for-not_less c.ilog2-log.result c.args.max_power c.if-max_power-log.false)
    ∙ power_is c.args.spread c.ilog2-log.result c.args.max_power log (record { reached = c.ilog2-log.ensures.power_le; not_passed = c.ilog2-log.ensures.next_power_gt }) h
