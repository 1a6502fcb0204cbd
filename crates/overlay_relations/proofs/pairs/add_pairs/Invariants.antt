use Rattle.std.proofs.Common.{◌≡◌, ◌++◌, map, take}
use Rattle.overlay_relations.specs.Pairs.{pair_of}
use Rattle.overlay_relations.proofs.pairs.add_pairs.Given as goal

-- the pairs so far
abbrev pub invariant-loop-second : goal.invariant-loop-second
invariant-loop-second l = l.pairs.items ≡ l.fn.pairs.items ++ map (pair_of l.first) (take l.second-index l.partners)
