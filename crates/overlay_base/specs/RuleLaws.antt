-- Laws of rules: statements that a contract names.
use Rattle.std.specs.Prelude.{◌≡◌, ℕ, ◌<◌, ◌-◌, Bool, not}
use Rattle.overlay_base.specs.Rules.{holds, table_holds, table_of, keeps_fill}
use Rattle.overlay_base.specs.declared.overlay_core.overlay_rule.OverlayRule.{OverlayRule}

-- truth functions that say the same everywhere keep the same fills
abbrev pub SameKeepTheSame : Type 0
SameKeepTheSame = (rule other : Bool → Bool → Bool) → ((s c : Bool) → other s c ≡ rule s c) → (fill : ℕ) → keeps_fill other fill ≡ keeps_fill rule fill

-- and so do those that say the opposite everywhere
abbrev pub OppositesKeepTheSame : Type 0
OppositesKeepTheSame = (rule other : Bool → Bool → Bool) → ((s c : Bool) → other s c ≡ not (rule s c)) → (fill : ℕ) → keeps_fill other fill ≡ keeps_fill rule fill

-- each rule is its table
abbrev pub RulesAreTheirTables : Type 0
RulesAreTheirTables = (rule : OverlayRule) (s c : Bool) → table_holds (table_of rule) s c ≡ holds rule s c

-- the bits of a table, exchanged, say the opposite
abbrev pub ComplementsAreOpposite : Type 0
ComplementsAreOpposite = (bits : ℕ) → bits < 16 → (s c : Bool) → table_holds (15 - bits) s c ≡ not (table_holds bits s c)
