use Rattle.std.proofs.Common.{◌≡◌, ◌∙◌, ℕ, List, [], ◌∷◌, ◌++◌, length, sym, ap}
use Rattle.std.proofs.lemmas.List.{length-map, map-append}
use Rattle.overlay_build.specs.BoundaryOf.{walks_of}
use Rattle.overlay_shapes.specs.Gathered.{groups_of}
use Rattle.overlay_shapes.proofs.laws.Gathering.{none_numbered, one_numbered, none_more, all_numbered}
use Rattle.overlay_shapes.proofs.gather.number_leaders.Goals as goal
use Rattle.overlay_shapes.proofs.gather.number_leaders.Goals.{then-leaders-index+in_ok-push, else-leaders-index}

pub loop-index-init : goal.loop-index-init
loop-index-init c = rw c.new-groups.ensures.items (none_numbered c.args.leaders.now c.args.numbers.now)

pub loop-index-preserved : goal.loop-index-preserved
loop-index-preserved c =
    let before = c.loop-index in
    let groups : List (List (List ℕ)) = groups_of before.groups.items in
    elim c.if-leaders-index.branch [
      | then-leaders-index+in_ok-push w ↦
          let pushed : groups_of w.push.new.self.items ≡ groups ++ [] ∷ [] = ap groups_of w.in_ok-push.ensures.items ∙ map-append (λ g. walks_of g.items) before.groups.items (w.new.result ∷ []) ∙ ap (λ l. groups ++ walks_of l ∷ []) w.new.ensures.items in
          let size : w.len.result ≡ length groups = w.len.ensures ∙ before.groups.ok.0 ∙ sym (length-map before.groups.items (λ g. walks_of g.items)) in
          rw (w.numbers-is, w.groups-is, pushed)
          (one_numbered c.args.leaders.now before.numbers groups before.index w.len.result before.invariant c.loop-index-test.true (before.auto.numbers ∙ c.requires.numbers) w.if-leaders-index.true size)
      | else-leaders-index w ↦ rw (w.numbers-is, w.groups-is) (none_more c.args.leaders.now before.numbers groups before.index before.invariant w.if-leaders-index.false)
    ]

pub returns-clause-numbered : goal.returns-clause-numbered
returns-clause-numbered c = all_numbered c.args.leaders.now c.loop-index.numbers (groups_of c.loop-index.groups.items) c.loop-index.index c.loop-index.invariant c.loop-index-test.false
