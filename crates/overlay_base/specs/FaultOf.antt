-- What is left where a call is refused by a fault.
use Rattle.std.specs.Prelude.{◌≡◌, Result, IfErr}
use Rattle.overlay_base.specs.declared.segm.fault.Fault.{Fault}
use Rattle.overlay_base.specs.declared.segm.fault.Fault.TheVariants.{CountOutOfRange}

-- a fact where a count was too large for its range
abbrev pub OnTooLarge : {X : Type 0} → Result X Fault → Type 0 → Type 0
OnTooLarge result Fact = IfErr result (λ fault. fault ≡ CountOutOfRange → Fact)
