use Rattle.std.proofs.Common.{map, string_bytes, take}
use Rattle.overlay_text.proofs.ReadWords.{AreRead}
use Rattle.overlay_text.proofs.words.read_settings.Given as goal

-- the slots hold what the words before this one say
abbrev pub invariant-loop-word : goal.invariant-loop-word
invariant-loop-word l = AreRead (map string_bytes (take l.word-index l.fn.words)) l.choices
