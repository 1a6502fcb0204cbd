use Rattle.std.proofs.Common.{rules, ◌≡◌, [], take, drop, not, sym, ap, ◌∙◌, arith, length}
use Rattle.std.proofs.lemmas.Grind.{common_steps}
use Rattle.std.proofs.lemmas.Iterator.{YieldsList-from_slice}
use Rattle.std.proofs.lemmas.Iterator.Search.{position_from_yields_List}
use Rattle.std.specs.Prelude.{◌==◌, position, ◌-◌}
use Rattle.std.specs.Option.{unwrap_or}
use borrow.Author.Tests.{tests}
use Rattle.overlay_text.specs.Text.{words_of}
use Rattle.overlay_text.proofs.Parts.{words_of-none, words_of-cut}
use Rattle.overlay_text.proofs.lines.WordsIterator.next.Goals as goal

pub returns-in_err-start-clause-steps : goal.returns-in_err-start-clause-steps
returns-in_err-start-clause-steps c =
    let found : c.position.result ≡ position (λ b. not (b == 32)) c.args.self.now.rest.now = position_from_yields_List (λ b. not (b == 32)) _ _ c.position.result c.position.ensures.ran (YieldsList-from_slice _ c.iter.ensures.rest) (λ x b q k. search (rules, tests)) in
    let none : words_of c.args.self.now.rest.now ≡ [] = words_of-none c.args.self.now.rest.now (sym found ∙ c.in_err-start.was) in
    rw c.from_residual.ensures (none, none)

pub returns-clause-steps : goal.returns-clause-steps
returns-clause-steps c =
    let rest = c.args.self.now.rest.now in
    let start = c.in_ok-start.start in
    let found : c.position.result ≡ position (λ b. not (b == 32)) rest = position_from_yields_List (λ b. not (b == 32)) _ _ c.position.result c.position.ensures.ran (YieldsList-from_slice _ c.iter.ensures.rest) (λ x b q k. search (rules, tests)) in
    let ended : c.position-2.result ≡ position (λ b. b == 32) (take (length rest - start) (drop start rest)) = position_from_yields_List (λ b. b == 32) _ _ c.position-2.result c.position-2.ensures.ran (YieldsList-from_slice _ c.iter-2.ensures.rest) (λ x b q k. search (rules, tests)) in
    let text : take (length rest - start) (drop start rest) ≡ drop start rest = grind (arith, common_steps) in
    let found_end : c.position-2.result ≡ position (λ b. b == 32) (drop start rest) = ended ∙ ap (position (λ b. b == 32)) text in
    let end_is : c.unwrap_or-end.result ≡ unwrap_or (position (λ b. b == 32) (drop start rest)) (length (drop start rest)) =
    c.unwrap_or-end.ensures ∙ (ap (λ o. unwrap_or o (length (take (length rest - start) (drop start rest)))) found_end ∙ ap (λ t. unwrap_or (position (λ b. b == 32) (drop start rest)) (length t)) text) in
    let cut = words_of-cut rest start c.unwrap_or-end.result (sym found ∙ c.in_ok-start.was) end_is in
    grind (arith, common_steps, cut, text)

pub returns-clause-goes : goal.returns-clause-goes
returns-clause-goes c = let steps = returns-clause-steps c in search (rules, steps)
