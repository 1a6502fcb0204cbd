use Rattle.std.proofs.Common.{◌≡◌, ◌∙◌, ap, sym, not, nat_eq, true, false, ◌||◌, lit<}
use Rattle.std.specs.Prelude.{bit_and}
use Rattle.std.proofs.lemmas.Bool.{ne_eqb}
use Rattle.overlay_base.specs.Rules.{bit}
use Rattle.overlay_base.proofs.laws.counts.Fills.{flag_tells}
use Rattle.overlay_base.proofs.overlay_core.clip_rule.is_on_line.Goals as goal

pub returns-then-fill-ne-NONE : goal.returns-then-fill-ne-NONE
returns-then-fill-ne-NONE c =
    let told : not (nat_eq (bit_and c.args.fill 4) 0) ≡ true = ap not (ne_eqb (bit_and c.args.fill 4) 0 c.if-fill-ne-NONE.true) in
    let top : bit c.args.fill 2 ≡ true = sym (flag_tells c.args.fill 2 (lit< tt)) ∙ told in
    told ∙ sym (ap (λ b. b || bit c.args.fill 3) top)

pub returns-else-fill-ne-NONE : goal.returns-else-fill-ne-NONE
returns-else-fill-ne-NONE c =
    let top : bit c.args.fill 2 ≡ false = sym (flag_tells c.args.fill 2 (lit< tt)) ∙ ap (λ n. not (nat_eq n 0)) c.if-fill-ne-NONE.false in
    flag_tells c.args.fill 3 (lit< tt) ∙ sym (ap (λ b. b || bit c.args.fill 3) top)
