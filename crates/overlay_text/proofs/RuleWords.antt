-- The names of rules, and those of tables, which begin with other letters.
use Rattle.std.proofs.Common.{◌≡◌, ℕ, List, ◌++◌, Option, Some, None}
use Rattle.std.specs.Prelude.{codes, MatchOption}
use Rattle.overlay_base.specs.declared.overlay_core.overlay_rule.OverlayRule.{OverlayRule}
use Rattle.overlay_base.specs.declared.overlay_core.overlay_rule.OverlayRule.TheVariants.{Subject, Clip, Intersect, Union, Difference, InverseDifference, Xor, Table}
use Rattle.overlay_text.specs.Words.{IsRuleName, NamesRule}

names : (value : List ℕ) (rule : Option OverlayRule) → IsRuleName value rule → NamesRule value rule
names value None h = h
names value (Some Subject) h = h
names value (Some Clip) h = h
names value (Some Intersect) h = h
names value (Some Union) h = h
names value (Some Difference) h = h
names value (Some InverseDifference) h = h
names value (Some Xor) h = h
names value (Some (Table table)) h = absurd h

is_name : (value : List ℕ) (rule : Option OverlayRule) → ((digits : List ℕ) → value ≡ codes "table:" ++ digits → ⊥) → NamesRule value rule → IsRuleName value rule
is_name value None no_table h = h
is_name value (Some Subject) no_table h = h
is_name value (Some Clip) no_table h = h
is_name value (Some Intersect) no_table h = h
is_name value (Some Union) no_table h = h
is_name value (Some Difference) no_table h = h
is_name value (Some InverseDifference) no_table h = h
is_name value (Some Xor) no_table h = h
is_name value (Some (Table table)) no_table (digits, is, writes) = absurd (no_table digits is)

pub by_name : (value : List ℕ) (r : Option (Option OverlayRule)) → ((digits : List ℕ) → value ≡ codes "table:" ++ digits → ⊥) → MatchOption r ((rule : Option OverlayRule) → ¬ (IsRuleName value rule)) (IsRuleName value)
    → MatchOption r ((rule : Option OverlayRule) → ¬ (NamesRule value rule)) (NamesRule value)
by_name value None no_table none = λ rule h. none rule (is_name value rule no_table h)
by_name value (Some rule) no_table named = names value rule named
