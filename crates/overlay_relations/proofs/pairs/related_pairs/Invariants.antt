use Rattle.overlay_relations.specs.Pairs.{AreRelatedPairs}
use Rattle.overlay_relations.proofs.pairs.related_pairs.Given as goal

-- the pairs of the first regions so far
abbrev pub invariant-loop-number : goal.invariant-loop-number
invariant-loop-number g l = AreRelatedPairs l.predicate l.number l.first l.second l.pairs.items
