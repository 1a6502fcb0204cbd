use Rattle.std.proofs.Common.{◌≡◌, ◌++◌, ◌∷◌, [], ◌∙◌, sym, ap, append_assoc, append-nil, refl}
use Rattle.polygons.specs.Run.{named_rules}
use Rattle.polygons.proofs.SeveralRules.{chosen_here, not_chosen_here, none_left}
use Rattle.polygons.proofs.run.Choices.rules.Goals.{then-is_chosen+in_ok-push-2, else-is_chosen}
use Rattle.polygons.proofs.run.Choices.rules.Goals as goal

pub loop-index-init : goal.loop-index-init
loop-index-init c = rw (c.in_ok-push.ensures.items, c.new-rules.ensures.items) refl

pub loop-index-preserved : goal.loop-index-preserved
loop-index-preserved c =
    let flags = c.args.self.now.others in
    let index = c.loop-index.index in
    let before = c.loop-index.rules.items in
    elim c.if-is_chosen.branch [
      | then-is_chosen+in_ok-push-2 w ↦
          let rule = w.index-index.result in
          let pushed : w.push-then-is_chosen.new.self.items ≡ before ++ rule ∷ [] = w.in_ok-push-2.ensures.items ∙ ap (λ q. before ++ q ∷ []) (sym w.index-index.is) in
          let next = chosen_here named_rules flags index rule c.loop-index-test.true w.index-index.is w.if-is_chosen.true in
          rw (w.rules-is, pushed, append_assoc) (ap (λ l. before ++ l) (sym next) ∙ c.loop-index.invariant)
      | else-is_chosen w ↦
          let next = not_chosen_here named_rules flags index w.if-is_chosen.false in
          rw w.rules-is (ap (λ l. before ++ l) (sym next) ∙ c.loop-index.invariant)
    ]

pub returns : goal.returns
returns c =
    let before = c.loop-index.rules.items in
    let none = none_left named_rules c.args.self.now.others c.loop-index.index c.loop-index-test.false in
    sym (append-nil before) ∙ (ap (λ l. before ++ l) (sym none) ∙ c.loop-index.invariant)
