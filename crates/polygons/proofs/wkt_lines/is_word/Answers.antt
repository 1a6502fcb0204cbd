use Rattle.std.proofs.Common.{sym, ◌∙◌}
use Rattle.std.proofs.lemmas.Bool.{false≢true}
use Rattle.std.proofs.lemmas.Slice.Eq.{bytes_eq-Decides}
use Rattle.polygons.proofs.wkt_lines.is_word.Goals as goal

pub returns-clause-yes : goal.returns-clause-yes
returns-clause-yes c = λ is. (bytes_eq-Decides c.args.word.now c.as_bytes.result.now).0 (sym c.eq.ensures ∙ is) ∙ c.as_bytes.ensures.value

pub returns-clause-no : goal.returns-clause-no
returns-clause-no c = λ is same. false≢true (sym is ∙ c.eq.ensures ∙ (bytes_eq-Decides c.args.word.now c.as_bytes.result.now).1 (same ∙ sym c.as_bytes.ensures.value))
