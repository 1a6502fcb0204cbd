use Rattle.std.proofs.Common.{◌≡◌, map, take, false, string_bytes}
use Rattle.polygons.specs.Run.{have_overlay_word}
use Rattle.polygons.proofs.run.have_overlay_word.Given as goal

abbrev pub invariant-loop-word : goal.invariant-loop-word
invariant-loop-word l = have_overlay_word (map string_bytes (take l.word-index l.words)) ≡ false
