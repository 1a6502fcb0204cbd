use Rattle.std.proofs.Common.{rules, ◌≡◌, ◌∷◌, map, string_bytes, ap}
use Rattle.overlay_text.specs.Words.{NamesCommand, WordsAsk}
use Rattle.overlay_text.proofs.ReadWords.{ask_nothing}
use Rattle.overlay_text.proofs.Results.{if_err}
use Rattle.overlay_text.proofs.words.read_words.Goals as goal

pub returns-clause-asked : goal.returns-clause-asked
returns-clause-asked c =
    let others = c.in_ok-first.others.now in
    let split : c.args.words.now ≡ c.in_ok-first.first.now ∷ others = search rules in
    let named : NamesCommand (string_bytes c.in_ok-first.first.now) c.in_ok-command.command = search rules in
    record {
      first = string_bytes c.in_ok-first.first.now;
      others = map string_bytes others;
      split = ap (map string_bytes) split;
      named = named;
      set = c.in_ok-settings.ensures.set;
    }

pub returns-in_err-settings-clause-usage : goal.returns-in_err-settings-clause-usage
returns-in_err-settings-clause-usage c =
    let others = c.in_ok-first.others.now in
    let split : c.args.words.now ≡ c.in_ok-first.first.now ∷ others = search rules in
    let usage = c.in_err-settings.ensures.usage in
    if_err _ _ _ c.from_residual-in_err-settings.ensures.1 (usage.0, ask_nothing _ (map string_bytes others) (string_bytes c.in_ok-first.first.now) (ap (map string_bytes) split) usage.1)
