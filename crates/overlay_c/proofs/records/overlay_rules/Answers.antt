use Rattle.std.proofs.Common.{◌≡◌, sym, subst, ℕ, List, [], ◌∷◌, ◌++◌, take, get_or, ◌+◌}
use Rattle.std.specs.List.{AllZip}
use Rattle.std.proofs.lemmas.List.{take_more}
use Rattle.overlay_base.specs.declared.overlay_core.overlay_rule.OverlayRule.{OverlayRule}
use Rattle.overlay_c.specs.Records.{IsRuleOf}
use Rattle.overlay_c.proofs.records.overlay_rules.Goals as goal

one_more : (codes : List ℕ) (rules : List OverlayRule) (code : ℕ) (rule : OverlayRule) → AllZip IsRuleOf codes rules → IsRuleOf code rule → AllZip IsRuleOf (codes ++ code ∷ []) (rules ++ rule ∷ [])
one_more [] [] code rule h is = (is, tt)
one_more [] (r ∷ rules) code rule h is = absurd h
one_more (c ∷ codes) [] code rule h is = absurd h
one_more (c ∷ codes) (r ∷ rules) code rule h is = (h.0, one_more codes rules code rule h.1 is)

pub loop-code-preserved : goal.loop-code-preserved
loop-code-preserved c =
    let codes = c.args.codes.now in
    let index = c.loop-code.code-index in
    let code = get_or codes index 0 in
    let longer : take index codes ++ code ∷ [] ≡ take (index + 1) codes = sym (take_more codes index 0 c.loop-code-test.true) in
    let pushed : c.loop-code.rules.items ++ c.overlay_rule.result ∷ [] ≡ c.push.new.self.items = sym c.in_ok-push.ensures.items in
    subst (λ (l : List ℕ). AllZip IsRuleOf l c.push.new.self.items) longer
    (subst (λ (l : List OverlayRule). AllZip IsRuleOf (take index codes ++ code ∷ []) l) pushed (one_more (take index codes) c.loop-code.rules.items code c.overlay_rule.result c.loop-code.invariant c.overlay_rule.ensures))
