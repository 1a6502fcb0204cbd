use Rattle.std.proofs.Common.{get_or, take}
use Rattle.overlay_relations.specs.Pairs.{Says}
use Rattle.overlay_relations.specs.declared.region.Region.{Region}
use Rattle.overlay_relations.proofs.laws.PairLists.{AreChosen}
use Rattle.overlay_relations.proofs.pairs.partners_of.Given as goal

-- of the numbers so far those of related regions
abbrev pub invariant-loop-other : goal.invariant-loop-other
invariant-loop-other g l =
    AreChosen (λ j S. (x y : Region _ _ _ _ _) → Says l.predicate (get_or l.first l.number x) (get_or l.second j y) S) (take l.other-index l.other-items) l.partners.items
