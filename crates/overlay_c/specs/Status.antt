-- The refusal of a fault, and the codes of outcomes.
use Rattle.std.specs.Prelude.{◌≡◌, ℕ, Result, Ok, Err, IfErr}
use Rattle.overlay_base.specs.declared.segm.fault.Fault.TheVariants.{Memory, CountOutOfRange}
use Rattle.overlay_c.specs.declared.refusal.Refusal.{Refusal}
use Rattle.overlay_c.specs.declared.refusal.Refusal.TheVariants.{Refused, NotSplittable, OutOfRange}
use Rattle.overlay_contours.specs.declared.fault.ContourFault.{ContourFault}
use Rattle.overlay_contours.specs.declared.fault.ContourFault.TheVariants as fault

abbrev pub refusal_of : ContourFault → Refusal
refusal_of (fault.OutOfRange shape_type contour point) = OutOfRange
refusal_of (fault.Refused why) = Refused why

abbrev pub status_of : {A : Type 0} → Result A Refusal → ℕ
status_of (Ok x) = 0
status_of (Err (Refused Memory)) = 1
status_of (Err (Refused CountOutOfRange)) = 2
status_of (Err NotSplittable) = 3
status_of (Err OutOfRange) = 4

-- What holds where a call was refused for segments that may not be split, or because a count leaves its range.
abbrev pub OnUnusable : {A : Type 0} → Result A Refusal → Type 0 → Type 0
OnUnusable result fact = IfErr result (λ refusal. refusal ≡ NotSplittable → fact)

abbrev pub OnTooLarge : {A : Type 0} → Result A Refusal → Type 0 → Type 0
OnTooLarge result fact = IfErr result (λ refusal. refusal ≡ Refused CountOutOfRange → fact)
