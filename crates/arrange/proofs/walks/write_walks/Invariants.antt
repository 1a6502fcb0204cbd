use Rattle.std.proofs.Common.{◌≡◌, ◌++◌, flat_map, take, string_bytes}
use Rattle.arrange.specs.GraphText.{walk_line}
use Rattle.arrange.proofs.walks.write_walks.Given as goal

abbrev pub invariant-loop-walk : goal.invariant-loop-walk
invariant-loop-walk l = string_bytes l.text ≡ string_bytes l.initial.text ++ flat_map (λ w. walk_line w.items) (take l.walk-index l.walks)
