use Rattle.std.proofs.Common.{◌≡◌, take, true}
use Rattle.std.specs.List.{list_all}
use Rattle.overlay_relations.specs.Patterns.{is_letter}
use Rattle.overlay_relations.proofs.matrix.is_pattern.Given as goal

-- the letters so far are those of patterns
abbrev pub invariant-loop-letter : goal.invariant-loop-letter
invariant-loop-letter l = list_all is_letter (take l.letter-index l.letters) ≡ true
