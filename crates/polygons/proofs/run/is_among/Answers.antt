use Rattle.std.proofs.Common.{◌≡◌, ◌+◌, ◌++◌, ◌∷◌, map, take, drop, string_bytes, sym, ap, ◌∙◌, arith}
use Rattle.std.proofs.lemmas.Grind.{common_steps}
use Rattle.overlay_text.proofs.ReadWords.{cut_mapped}
use Rattle.polygons.specs.Run.{is_among}
use Rattle.polygons.proofs.Answering.{is_among-here}
use Rattle.polygons.proofs.run.is_among.Goals as goal

pub returns-then-eq : goal.returns-then-eq
returns-then-eq c =
    let given = c.args.words.now in
    let index = c.loop-word.word-index in
    let before = map string_bytes (take index given) in
    let after = map string_bytes (drop (index + 1) given) in
    let cut : map string_bytes given ≡ before ++ c.as_str.result.now ∷ after = rw c.as_str.ensures.value (cut_mapped string_bytes given index c.word-item.result c.loop-word-test.true c.word-item.is) in
    sym (ap (λ words. is_among words c.args.name.now) cut ∙ is_among-here c.args.name.now c.as_str.result.now before after (sym c.eq.ensures ∙ c.if-eq.true))

pub loop-word-preserved : goal.loop-word-preserved
loop-word-preserved c = grind (arith, common_steps)
