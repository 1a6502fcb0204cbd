use Rattle.std.proofs.Common.{arith, inl, inr, ◌∙◌, ap, rules}
use Rattle.std.proofs.lemmas.Str.Pattern.{split_parts}
use Rattle.overlay_text.specs.Words.{setting}
use Rattle.overlay_text.proofs.Slots.{first_cut}
use Rattle.polygons.proofs.run.is_for_arrange.Goals as goal

pub returns-in-Some-limit-default-clause-some : goal.returns-in-Some-limit-default-clause-some
returns-in-Some-limit-default-clause-some c =
    let cut = first_cut c.args.word.now c.split_once.result (split_parts 61 c.args.word.now c.split_once.result c.split_once.ensures.cases (omega arith)) in
    let parts = rw c.in-Some-limit-default.is at cut in
    λ _. (c.in-Some-limit-default.field-0-1.now, inl (parts.0 ∙ ap (λ n. setting n c.in-Some-limit-default.field-0-1.now) c.in-Some-limit-default.is-limit))

pub returns-in-Some-limit-default-2-clause-some : goal.returns-in-Some-limit-default-2-clause-some
returns-in-Some-limit-default-2-clause-some c =
    let cut = first_cut c.args.word.now c.split_once.result (split_parts 61 c.args.word.now c.split_once.result c.split_once.ensures.cases (omega arith)) in
    let parts = rw c.in-Some-limit-default.is at cut in
    λ _. (c.in-Some-limit-default.field-0-1.now, inr (inl (parts.0 ∙ ap (λ n. setting n c.in-Some-limit-default.field-0-1.now) c.in-Some-limit-default.is-radius)))

pub returns-in-Some-limit-default-3-clause-some : goal.returns-in-Some-limit-default-3-clause-some
returns-in-Some-limit-default-3-clause-some c =
    let cut = first_cut c.args.word.now c.split_once.result (split_parts 61 c.args.word.now c.split_once.result c.split_once.ensures.cases (omega arith)) in
    let parts = rw c.in-Some-limit-default.is at cut in
    λ _. (c.in-Some-limit-default.field-0-1.now, inr (inr (parts.0 ∙ ap (λ n. setting n c.in-Some-limit-default.field-0-1.now) c.in-Some-limit-default.is-rounding)))

pub returns-in_default-clause-none : goal.returns-in_default-clause-none
returns-in_default-clause-none g c = search rules
