use Rattle.std.proofs.Common.{rules}
use Rattle.std.specs.Prelude.{IsNone}
use Rattle.overlay_text.specs.Words.{IsShortNumeral}
use Rattle.overlay_text.proofs.PrecisionWords.{with_comma, none_named, by_name}
use Rattle.overlay_text.proofs.words.precision.Goals as goal

pub returns-in_err-short_number-in-Some : goal.returns-in_err-short_number-in-Some
returns-in_err-short_number-in-Some c =
    let cut = rw c.in-Some.is at c.split_once.ensures.cases in
    let other : ¬ (IsShortNumeral c.in-Some.start.now) = search rules in
    let none : IsNone c.from_residual.result = search rules in
    none_named c.args.value.now c.from_residual.result none (λ precision. with_comma c.args.value.now c.in-Some.start c.in-Some.step precision cut (λ both. other both.0))

pub returns-in_err-short_number-in-Some-2 : goal.returns-in_err-short_number-in-Some-2
returns-in_err-short_number-in-Some-2 c =
    let cut = rw c.in-Some.is at c.split_once.ensures.cases in
    let other : ¬ (IsShortNumeral c.in-Some.step.now) = search rules in
    let none : IsNone c.from_residual-in_err-short_number-in-Some-2.result = search rules in
    none_named c.args.value.now c.from_residual-in_err-short_number-in-Some-2.result none (λ precision. with_comma c.args.value.now c.in-Some.start c.in-Some.step precision cut (λ both. other both.1))

pub returns-in-None : goal.returns-in-None
returns-in-None c = by_name c.args.value.now c.named_precision.result (rw c.in-None.is at c.split_once.ensures.cases) c.named_precision.ensures
