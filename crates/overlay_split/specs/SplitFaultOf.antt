-- What is left where a split within a limit is refused.
use Rattle.std.specs.Prelude.{◌≡◌, Result, IfErr}
use Rattle.overlay_base.specs.declared.segm.fault.Fault.TheVariants.{CountOutOfRange}
use Rattle.overlay_split.specs.declared.split.fault.SplitFault.{SplitFault}
use Rattle.overlay_split.specs.declared.split.fault.SplitFault.TheVariants.{Refused, TooManySegments}

-- a fact where a count was too large for its range
abbrev pub OnLargeCount : {X : Type 0} → Result X SplitFault → Type 0 → Type 0
OnLargeCount result Fact = IfErr result (λ fault. fault ≡ Refused CountOutOfRange → Fact)

-- a fact where there were more segments than the limit
abbrev pub OnTooMany : {X : Type 0} → Result X SplitFault → Type 0 → Type 0
OnTooMany result Fact = IfErr result (λ fault. fault ≡ TooManySegments → Fact)
