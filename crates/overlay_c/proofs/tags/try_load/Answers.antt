use Rattle.std.proofs.Common.{◌∙◌, ap, sym}
use Rattle.overlay_base.specs.EdgeData.{without_data}
use Rattle.overlay_base.proofs.laws.joins.Views.{segments_of-bare}
use Rattle.overlay_c.proofs.LinkData.{usable_by, unusable_by, splittable_by}
use Rattle.overlay_c.proofs.tags.try_load.Goals as goal

pub returns-then-not-branch-clause-unusable : goal.returns-then-not-branch-clause-unusable
returns-then-not-branch-clause-unusable g c = λ _. unusable_by _ _ c.args.given.now (sym c.if-not-branch.true ∙ c.in_ok-load.ensures.asks)

pub returns-clause-usable : goal.returns-clause-usable
returns-clause-usable g c = usable_by _ _ c.args.given.now (sym c.if-not-branch.false ∙ c.in_ok-load.ensures.asks)

pub returns-clause-splittable : goal.returns-clause-splittable
returns-clause-splittable g c =
    splittable_by _ _ c.args.given.now _ (sym c.if-not-branch.false ∙ c.in_ok-load.ensures.asks)
    (segments_of-bare _ ∙ ap (λ xs. without_data xs) (c.in_ok-load.ensures.segments c.if-not-branch.false))
