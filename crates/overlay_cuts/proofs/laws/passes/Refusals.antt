-- Faults that are passed on.
use Rattle.std.proofs.Common.{◌≡◌, sym, ◌∙◌, ℕ, zero, suc}
use Rattle.std.specs.Prelude.{Result, Ok, Err, IfErr, IsErrAnd}

-- what is said of the fault of a call is said of the fault that is passed on
pub refused_by : {A F : Type 0} (r : Result A F) (x : F) {out : F} (P : Type 0) → IsErrAnd r (λ e. e ≡ x) → (x ≡ out → P) → IfErr r (λ fault. fault ≡ out → P)
refused_by (Ok a) x P h f = tt
refused_by (Err e) x P h f = λ i. f (sym h ∙ i)
