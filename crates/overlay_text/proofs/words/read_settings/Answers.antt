use Rattle.std.proofs.Common.{arith, ◌≡◌, ◌+◌, ◌∷◌, [], ◌++◌, map, take, drop, string_bytes, refl}
use Rattle.std.proofs.lemmas.Grind.{common_steps}
use Rattle.overlay_text.proofs.ReadWords.{nothing_read, one_more, sets, cut_mapped, refuses}
use Rattle.overlay_text.proofs.Results.{if_err}
use Rattle.overlay_text.proofs.words.read_settings.Goals as goal

pub loop-word-init : goal.loop-word-init
loop-word-init c = nothing_read _ refl refl refl refl refl refl refl refl

pub loop-word-preserved : goal.loop-word-preserved
loop-word-preserved c =
    let given = c.args.words.now in
    let index = c.loop-word.word-index in
    let words = map string_bytes (take index given) in
    let word = c.as_str.result.now in
    let more : map string_bytes (take (index + 1) given) ≡ words ++ word ∷ [] = grind (arith, common_steps, c.word-item.is, c.as_str.ensures.value, c.loop-word-test.true) in
    let read = c.in_ok-read.ensures in
    rw more (one_more words word c.loop-word.choices c.read.new.self c.loop-word.invariant (record { known = read.known; engine = read.engine; strategy = read.strategy; precision = read.precision; fill = read.fill; rule = read.rule; limit = read.limit; radius = read.radius; rounding = read.rounding }))

pub returns-clause-set : goal.returns-clause-set
returns-clause-set c =
    let given = c.args.words.now in
    let all : take c.loop-word.word-index given ≡ given = grind (arith, common_steps, c.loop-word-test.false) in
    let chosen = c.settings.ensures in
    sets (map string_bytes given) c.loop-word.choices c.settings.result (rw all at c.loop-word.invariant)
    (record { engine = chosen.engine; strategy = chosen.strategy; precision = chosen.precision; fill = chosen.fill; rule = chosen.rule; limit = chosen.limit; radius = chosen.radius; rounding = chosen.rounding })

pub returns-in_err-read-clause-usage : goal.returns-in_err-read-clause-usage
returns-in_err-read-clause-usage c =
    let given = c.args.words.now in
    let index = c.loop-word.word-index in
    let read = c.in_err-read.ensures in
    let cut : map string_bytes given ≡ map string_bytes (take index given) ++ c.as_str.result.now ∷ map string_bytes (drop (index + 1) given) = rw c.as_str.ensures.value (cut_mapped string_bytes given index c.word-item.result c.loop-word-test.true c.word-item.is) in
    let nothing = refuses (map string_bytes given) _ _ c.as_str.result.now c.loop-word.choices c.loop-word.invariant
    (record { engine = read.engine; strategy = read.strategy; precision = read.precision; fill = read.fill; rule = read.rule; limit = read.limit; radius = read.radius; rounding = read.rounding }) cut in
    if_err _ _ _ c.from_residual.ensures.1 (read.usage, nothing)
