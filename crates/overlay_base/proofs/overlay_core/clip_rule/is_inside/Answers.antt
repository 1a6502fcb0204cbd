use Rattle.std.proofs.Common.{◌≡◌, ◌∙◌, ap, sym, not, nat_eq, true, false, ◌&&◌, ◌||◌, lit<}
use Rattle.std.specs.Prelude.{bit_and}
use Rattle.std.proofs.lemmas.Bool.{ne_eqb}
use Rattle.overlay_base.specs.Rules.{bit}
use Rattle.overlay_base.specs.ClipRules.{is_in_polygon}
use Rattle.overlay_base.proofs.laws.counts.Fills.{flag_tells}
use Rattle.overlay_base.proofs.overlay_core.clip_rule.is_inside.Goals as goal

pub returns-else-top : goal.returns-else-top
returns-else-top c =
    let top : bit c.args.fill 0 ≡ false = sym (flag_tells c.args.fill 0 (lit< tt)) ∙ ap (λ n. not (nat_eq n 0)) c.if-top.false in
    flag_tells c.args.fill 1 (lit< tt) ∙ sym (ap (λ b. b || bit c.args.fill 1) top) ∙ sym (ap (λ b. is_in_polygon b c.args.fill) c.if-boundary_included.true)

pub returns-then-top-2 : goal.returns-then-top-2
returns-then-top-2 c =
    let told : not (nat_eq (bit_and c.args.fill 1) 0) ≡ true = ap not (ne_eqb (bit_and c.args.fill 1) 0 c.if-top-2.true) in
    let top : bit c.args.fill 0 ≡ true = sym (flag_tells c.args.fill 0 (lit< tt)) ∙ told in
    flag_tells c.args.fill 1 (lit< tt) ∙ sym (ap (λ b. b && bit c.args.fill 1) top) ∙ sym (ap (λ b. is_in_polygon b c.args.fill) c.if-boundary_included.false)
