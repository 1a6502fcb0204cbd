use Rattle.std.proofs.Common.{All, map, take, string_bytes}
use Rattle.overlay_text.proofs.ReadWords.{AreRead}
use Rattle.polygons.specs.Run.{IsNotForArrange, without_flags}
use Rattle.polygons.proofs.run.read_polygon_settings.Given as goal

-- the slots hold what the words before this one say that are no flags
abbrev pub invariant-loop-word : goal.invariant-loop-word
invariant-loop-word l =
    AreRead (without_flags (map string_bytes (take l.word-index l.words))) l.choices
    × All IsNotForArrange (without_flags (map string_bytes (take l.word-index l.words)))
