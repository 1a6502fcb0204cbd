use Rattle.std.proofs.Common.{◌≡◌, map, take, false, string_bytes}
use Rattle.polygons.specs.Run.{is_among}
use Rattle.polygons.proofs.run.is_among.Given as goal

abbrev pub invariant-loop-word : goal.invariant-loop-word
invariant-loop-word l = is_among (map string_bytes (take l.word-index l.words)) l.name ≡ false
