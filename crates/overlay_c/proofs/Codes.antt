-- The codes of calls that are given segments or lines.
use Rattle.std.proofs.Common.{◌<◌, Result, Ok, Err, arith}
use Rattle.std.specs.Prelude.{IfErr}
use Rattle.overlay_base.specs.declared.segm.fault.Fault.TheVariants.{Memory, CountOutOfRange}
use Rattle.overlay_c.specs.Kept.{IsSplitRefusal}
use Rattle.overlay_c.specs.Status.{status_of}
use Rattle.overlay_c.specs.declared.refusal.Refusal.{Refusal}
use Rattle.overlay_c.specs.declared.refusal.Refusal.TheVariants.{Refused, NotSplittable, OutOfRange}

pub split_code : {A : Type 0} (outcome : Result A Refusal) → IfErr outcome IsSplitRefusal → status_of outcome < 4
split_code (Ok x) h = omega arith
split_code (Err (Refused Memory)) h = omega arith
split_code (Err (Refused CountOutOfRange)) h = omega arith
split_code (Err NotSplittable) h = omega arith
split_code (Err OutOfRange) h = absurd h
