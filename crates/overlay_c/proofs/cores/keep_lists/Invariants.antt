use Rattle.std.proofs.Common.{◌≡◌, map, take, length, flat_map}
use Rattle.overlay_c.proofs.cores.keep_lists.Given as goal

abbrev pub invariant-loop-list : goal.invariant-loop-list
invariant-loop-list l =
    (l.lengths.items ≡ map length (map (λ v. v.items) (take l.list-index l.lists)))
    × (l.indexes.items ≡ flat_map (λ list. list) (map (λ v. v.items) (take l.list-index l.lists)))
