-- What a run of a program returns: the text of its output, or why it stops.
use Rattle.std.specs.Prelude.{◌≡◌, ◌≢◌, ◌⊎◌, ℕ, List, Option, Ok, Err, IfSome, IfErr, String, map, string_bytes}
use Rattle.std.specs.declared.result.Result.{Result}
use Rattle.overlay_base.specs.declared.segm.fault.Fault.TheVariants.{Memory}
use Rattle.overlay_text.specs.declared.stop.Stop.{Stop}
use Rattle.overlay_text.specs.declared.stop.Stop.TheVariants.{Usage, Refused, Input, Output}
use Rattle.std.specs.Io.KnownBytes.{Appends}
use Rattle.overlay_text.specs.Status.{status_of}
use Rattle.std.specs.Global.{Global}

-- A program, for choices of a type: which choices words make, and what its result for an input is.
pub record Behavior (C : Type 0) : Type 1 where
  pub AskFor : List (List ℕ) → C → Type 0
  pub Answers : C → List ℕ → Result (List ℕ) Stop → Type 0

module _ {C : Type 0} (program : Behavior C) where
  -- the words make some choices
  abbrev pub Ask : List (List ℕ) → Type 0
  Ask words = (choices : C) × program.AskFor words choices

  -- the words make no choices
  abbrev pub AskForNone : List (List ℕ) → Type 0
  AskForNone words = (choices : C) → ¬ (program.AskFor words choices)

  -- what the program makes of an input, under the choices that the words make
  abbrev pub IsRunAnswer : List (List ℕ) → List ℕ → Result (List ℕ) Stop → Type 0
  IsRunAnswer words bytes answer = (choices : C) × program.AskFor words choices × program.Answers choices bytes answer

  -- the input, where it is known, gives a text
  abbrev pub HasOutput : List (List ℕ) → Option (List ℕ) → Type 0
  HasOutput words input = IfSome input (λ bytes. (text : List ℕ) × IsRunAnswer words bytes (Ok text))

  -- why a run stops: with the usage exactly where the words choose nothing, and else because the input fails, memory is refused, the output
  -- fails that there is, or it is the result for the input, where that is known
  abbrev pub IsStop : List (List ℕ) → Option (List ℕ) → Stop → Type 0
  IsStop words input stop =
      ((stop ≡ Usage) × AskForNone words)
      ⊎ (Ask words × (stop ≢ Usage)
      × ((stop ≡ Input) ⊎ ((stop ≡ Output) × HasOutput words input) ⊎ (stop ≡ Refused Memory)
      ⊎ IfSome input (λ bytes. IsRunAnswer words bytes (Err stop))))

  -- If the input is known, the output gains the text of its result.
  abbrev pub WritesAnswer : List (List ℕ) → Option (List ℕ) → Option (List ℕ) → Option (List ℕ) → Type 0
  WritesAnswer words input before after = IfSome input (λ bytes. (text : List ℕ) × IsRunAnswer words bytes (Ok text) × Appends before after text)

-- The output is as it was, unless the output failed.
abbrev pub WritesNothing : {W : Type 0} → W → W → Stop → Type 0
WritesNothing before after stop = (stop ≡ Output) ⊎ (after ≡ before)

-- A run over some words and an input.
module _ {C R W : Type 0} (program : Behavior C) (words : List (String Global)) (remaining : R → Option (List ℕ)) (input : R) where
  -- It writes the text of its result.
  abbrev pub Writes : (W → Option (List ℕ)) → W → W → Type 0
  Writes contents before after = WritesAnswer program (map string_bytes words) (remaining input) (contents before) (contents after)

  -- It stops with the status of its stop, and writes nothing unless the output failed.
  abbrev pub Stops : W → W → ℕ → Type 0
  Stops before after status = (stop : Stop) × (status ≡ status_of stop) × IsStop program (map string_bytes words) (remaining input) stop × WritesNothing before after stop

-- A run over words that no clause can name.
module _ {C R W : Type 0} (program : Behavior C) (remaining : R → Option (List ℕ)) (input : R) where
  -- The words choose something, and the run writes the text of its result.
  abbrev pub AsksAndWrites : (W → Option (List ℕ)) → W → W → Type 0
  AsksAndWrites contents before after = (words : List (List ℕ)) × Ask program words × WritesAnswer program words (remaining input) (contents before) (contents after)

  -- It stops as it may over some words, with the usage, or for memory.
  abbrev pub AsksAndStops : W → W → ℕ → Type 0
  AsksAndStops before after status =
      (stop : Stop) × (status ≡ status_of stop)
      × ((stop ≡ Usage) ⊎ (stop ≡ Refused Memory) ⊎ ((words : List (List ℕ)) × IsStop program words (remaining input) stop))
      × WritesNothing before after stop

-- A fact of the stop of a call, unless memory was refused.
abbrev pub IfStopped : {X : Type 0} → Result X Stop → (Stop → Type 0) → Type 0
IfStopped result Fact = IfErr result (λ stop. (stop ≡ Refused Memory) ⊎ Fact stop)
