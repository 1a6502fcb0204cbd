use Rattle.std.proofs.Common.{◌≡◌, ◌+◌, ◌++◌, ◌∷◌, map, take, drop, string_bytes, sym, ap, ◌∙◌, arith}
use Rattle.std.proofs.lemmas.Grind.{common_steps}
use Rattle.overlay_text.proofs.ReadWords.{cut_mapped}
use Rattle.polygons.specs.Run.{is_of_overlay, have_overlay_word}
use Rattle.polygons.proofs.Answering.{any-here}
use Rattle.polygons.proofs.run.have_overlay_word.Goals as goal

pub returns-then-is_of_overlay : goal.returns-then-is_of_overlay
returns-then-is_of_overlay c =
    let given = c.args.words.now in
    let index = c.loop-word.word-index in
    let before = map string_bytes (take index given) in
    let after = map string_bytes (drop (index + 1) given) in
    let cut : map string_bytes given ≡ before ++ c.as_str.result.now ∷ after = rw c.as_str.ensures.value (cut_mapped string_bytes given index c.word-item.result c.loop-word-test.true c.word-item.is) in
    sym (ap have_overlay_word cut ∙ any-here is_of_overlay c.as_str.result.now before after (sym c.is_of_overlay.ensures ∙ c.if-is_of_overlay.true))

pub loop-word-preserved : goal.loop-word-preserved
loop-word-preserved c = grind (arith, common_steps)
