use Rattle.std.proofs.Common.{◌<◌, ℕ, ap, sym, subst, ◌∙◌, Err, length}
use Rattle.std.specs.Prelude.{⊤, IfSome}
use Rattle.std.specs.declared.option.Option.{Option}
use Rattle.overlay_c.specs.Regions.{IsMatrixOfRegionsAt, CountsOfRegionsLeaveRange}
use Rattle.overlay_c.specs.Status.{status_of}
use Rattle.overlay_c.specs.declared.engine.Engine.{Engine}
use Rattle.overlay_c.specs.declared.refusal.Refusal.{Refusal}
use Rattle.overlay_c.proofs.RegionRelations.{region_counts, code_at}
use Rattle.overlay_c.proofs.overlay_c_region_relate.Goals as goal

pub returns-in-Ok-clause-matrix : goal.returns-in-Ok-clause-matrix
returns-in-Ok-clause-matrix c done =
    subst (λ (o : Option Engine). IfSome o (IsMatrixOfRegionsAt c.args.first c.args.second c.in-Ok.found)) (sym c.take-engine.ensures.engine) (rw c.deref.ensures at c.in-Ok.ensures.matrix)

pub returns-in-Err-clause-too_large : goal.returns-in-Err-clause-too_large
returns-in-Err-clause-too_large c told =
    let refused = rw c.deref.ensures at c.in-Err.ensures.refused in
    subst (λ (o : Option Engine). IfSome o (CountsOfRegionsLeaveRange c.args.first c.args.second)) (sym c.take-engine.ensures.engine)
    (λ x y. region_counts _ _ c.in-Err.fault (refused x y) (sym (c.status.ensures ∙ ap (λ (r : Refusal). status_of {A = ⊤} (Err r)) c.from.ensures) ∙ told))

pub returns-in-Err-clause-codes : goal.returns-in-Err-clause-codes
returns-in-Err-clause-codes c =
    let refused = rw c.deref.ensures at c.in-Err.ensures.refused in
    let inside = subst (λ (o : Option Engine). IfSome o (λ engine. c.args.first < length engine.regions.items)) c.take-engine.ensures.engine c.requires.first in
    subst (λ (n : ℕ). n < 3) (sym (c.status.ensures ∙ ap (λ (r : Refusal). status_of {A = ⊤} (Err r)) c.from.ensures)) (code_at c.take-engine.result.value.regions.items c.args.first c.args.second inside c.in-Err.fault refused)
