use Rattle.std.proofs.Common.{arith, ◌≡◌, ◌+◌, ◌++◌, ◌∷◌, [], map, take, drop, string_bytes, refl, ap, ◌∙◌}
use Rattle.std.proofs.lemmas.Grind.{common_steps}
use Rattle.std.proofs.lemmas.List.Elements.{All-nil, All-push}
use Rattle.overlay_text.proofs.ReadWords.{nothing_read, one_more, sets, cut_mapped, refuses}
use Rattle.overlay_text.proofs.Results.{if_err}
use Rattle.polygons.specs.Run.{IsNotForArrange, without_flags}
use Rattle.polygons.proofs.Answering.{refuses as refuses_name, other_kept, flag_left_out, cut_without_flags}
use Rattle.polygons.proofs.run.read_polygon_settings.Goals as goal

pub loop-word-init : goal.loop-word-init
loop-word-init c = (nothing_read _ refl refl refl refl refl refl refl refl, All-nil IsNotForArrange)

pub loop-word-preserved-then-is_flag : goal.loop-word-preserved-then-is_flag
loop-word-preserved-then-is_flag c =
    let given = c.args.words.now in
    let index = c.loop-word.word-index in
    let words = map string_bytes (take index given) in
    let word = c.as_str-word.result.now in
    let more : map string_bytes (take (index + 1) given) ≡ words ++ word ∷ [] = grind (arith, common_steps, c.word-item.is, c.as_str-word.ensures.value, c.loop-word-test.true) in
    rw (more, flag_left_out words word (rw c.is_flag.ensures at c.if-is_flag.true)) c.loop-word.invariant

pub returns-then-is_for_arrange-clause-usage : goal.returns-then-is_for_arrange-clause-usage
returns-then-is_for_arrange-clause-usage c =
    let given = c.args.words.now in
    let index = c.loop-word.word-index in
    let word = c.as_str-word.result.now in
    let before = map string_bytes (take index given) in
    let after = map string_bytes (drop (index + 1) given) in
    let cut : map string_bytes given ≡ before ++ word ∷ after = rw c.as_str-word.ensures.value (cut_mapped string_bytes given index c.word-item.result c.loop-word-test.true c.word-item.is) in
    let left = ap without_flags cut ∙ cut_without_flags before after word (rw c.is_flag.ensures at c.if-is_flag.false) in
    (refl, refuses_name (without_flags (map string_bytes given)) (without_flags before) word (without_flags after) left (c.is_for_arrange.ensures.some c.if-is_for_arrange.true))

pub returns-in_err-read-clause-usage : goal.returns-in_err-read-clause-usage
returns-in_err-read-clause-usage c =
    let given = c.args.words.now in
    let index = c.loop-word.word-index in
    let word = c.as_str-word.result.now in
    let before = map string_bytes (take index given) in
    let after = map string_bytes (drop (index + 1) given) in
    let read = c.in_err-read.ensures in
    let cut : map string_bytes given ≡ before ++ word ∷ after = rw c.as_str-word.ensures.value (cut_mapped string_bytes given index c.word-item.result c.loop-word-test.true c.word-item.is) in
    let left = ap without_flags cut ∙ cut_without_flags before after word (rw c.is_flag.ensures at c.if-is_flag.false) in
    let nothing = refuses (without_flags (map string_bytes given)) (without_flags before) (without_flags after) word c.loop-word.choices c.loop-word.invariant.0
    (record { engine = read.engine; strategy = read.strategy; precision = read.precision; fill = read.fill; rule = read.rule; limit = read.limit; radius = read.radius; rounding = read.rounding }) left in
    if_err _ _ _ c.from_residual.ensures.1 (read.usage, λ settings set. nothing settings set.0)

pub loop-word-preserved : goal.loop-word-preserved
loop-word-preserved c =
    let given = c.args.words.now in
    let index = c.loop-word.word-index in
    let words = map string_bytes (take index given) in
    let word = c.as_str-word.result.now in
    let more : map string_bytes (take (index + 1) given) ≡ words ++ word ∷ [] = grind (arith, common_steps, c.word-item.is, c.as_str-word.ensures.value, c.loop-word-test.true) in
    let kept = other_kept words word (rw c.is_flag.ensures at c.if-is_flag.false) in
    let read = c.in_ok-read.ensures in
    rw (more, kept) (
      one_more (without_flags words) word c.loop-word.choices c.read.new.self c.loop-word.invariant.0 (record { known = read.known; engine = read.engine; strategy = read.strategy; precision = read.precision; fill = read.fill; rule = read.rule; limit = read.limit; radius = read.radius; rounding = read.rounding }),
      All-push IsNotForArrange (without_flags words) word c.loop-word.invariant.1 (c.is_for_arrange.ensures.none c.if-is_for_arrange.false),
    )

pub returns-clause-set : goal.returns-clause-set
returns-clause-set c =
    let given = c.args.words.now in
    let all : take c.loop-word.word-index given ≡ given = grind (arith, common_steps, c.loop-word-test.false) in
    let chosen = c.settings.ensures in
    let read = rw all at c.loop-word.invariant in (
      sets (without_flags (map string_bytes given)) c.loop-word.choices c.settings.result read.0
          (record { engine = chosen.engine; strategy = chosen.strategy; precision = chosen.precision; fill = chosen.fill; rule = chosen.rule; limit = chosen.limit; radius = chosen.radius; rounding = chosen.rounding }),
      read.1,
    )
