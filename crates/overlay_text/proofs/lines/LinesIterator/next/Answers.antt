use Rattle.std.proofs.Common.{rules, ◌≡◌, ◌+◌, [], ◌∷◌, take, drop, sym, ◌∙◌, arith}
use Rattle.std.proofs.lemmas.Grind.{common_steps}
use Rattle.std.proofs.lemmas.Iterator.{YieldsList-from_slice}
use Rattle.std.proofs.lemmas.Iterator.Search.{position_from_yields_List}
use Rattle.std.specs.Prelude.{◌==◌, position}
use borrow.Author.Tests.{tests}
use Rattle.overlay_text.specs.Text.{lines_of}
use Rattle.overlay_text.proofs.Parts.{lines_of-cut, lines_of-last}
use Rattle.overlay_text.proofs.lines.LinesIterator.next.Goals as goal

pub returns-in-Some-clause-steps : goal.returns-in-Some-clause-steps
returns-in-Some-clause-steps c =
    let found : c.position.result ≡ position (λ b. b == 10) c.in_ok-rest.rest.now = position_from_yields_List (λ b. b == 10) _ _ c.position.result c.position.ensures.ran (YieldsList-from_slice _ c.iter.ensures.rest) (λ x b q k. search (rules, tests)) in
    let cut : lines_of c.in_ok-rest.rest.now ≡ take c.in-Some.end c.in_ok-rest.rest.now ∷ lines_of (drop (c.in-Some.end + 1) c.in_ok-rest.rest.now) = lines_of-cut c.in_ok-rest.rest.now c.in-Some.end (sym found ∙ c.in-Some.is) in
    grind (arith, common_steps, cut)

pub returns-in-Some-clause-goes : goal.returns-in-Some-clause-goes
returns-in-Some-clause-goes c = let steps = returns-in-Some-clause-steps c in search (rules, steps)

pub returns-in-None-clause-steps : goal.returns-in-None-clause-steps
returns-in-None-clause-steps c =
    let found : c.position.result ≡ position (λ b. b == 10) c.in_ok-rest.rest.now = position_from_yields_List (λ b. b == 10) _ _ c.position.result c.position.ensures.ran (YieldsList-from_slice _ c.iter.ensures.rest) (λ x b q k. search (rules, tests)) in
    let last : lines_of c.in_ok-rest.rest.now ≡ c.in_ok-rest.rest.now ∷ [] = lines_of-last c.in_ok-rest.rest.now (sym found ∙ c.in-None.is) in
    grind (arith, common_steps, last)

pub returns-in-None-clause-goes : goal.returns-in-None-clause-goes
returns-in-None-clause-goes c = let steps = returns-in-None-clause-steps c in search (rules, steps)
