-- Overlay rules as truth functions of "inside the subject" and "inside the clip", and what they say of a fill.
use Rattle.std.specs.Prelude.{ℕ, ◌==◌, Bool, true, false, not, ◌&&◌, ◌||◌}
use Rattle.std.specs.Int.{bit_at}
use Rattle.overlay_base.specs.declared.overlay_core.overlay_rule.OverlayRule.{OverlayRule}
use Rattle.overlay_base.specs.declared.overlay_core.overlay_rule.OverlayRule.TheVariants.{Subject, Clip, Intersect, Union, Difference, InverseDifference, Xor, Table}
use Rattle.overlay_base.specs.declared.overlay_core.rule_table.RuleTable.{RuleTable}

-- whether two values differ
abbrev pub differ : Bool → Bool → Bool
differ true b = not b
differ false b = b

-- A bit of a number. Of a fill 0 and 1 say where the subject is inside, at the top and at the bottom, 2 and 3 where the
-- clip is.
abbrev pub bit : ℕ → ℕ → Bool
bit n k = bit_at n k == 1

-- what a table of four bits says of a place: its bits are for outside, in the subject alone, in the clip alone, in both
abbrev pub table_holds : ℕ → Bool → Bool → Bool
table_holds bits false false = bit bits 0
table_holds bits true false = bit bits 1
table_holds bits false true = bit bits 2
table_holds bits true true = bit bits 3

abbrev pub bits_of : RuleTable → ℕ
bits_of table = table.bits

-- what the rule says of a place
abbrev pub holds : OverlayRule → Bool → Bool → Bool
holds Subject s c = s
holds Clip s c = c
holds Intersect s c = s && c
holds Union s c = s || c
holds Difference s c = s && not c
holds InverseDifference s c = c && not s
holds Xor s c = differ s c
holds (Table table) s c = table_holds (bits_of table) s c

-- the bits of the table that says the same as a rule
abbrev pub table_of : OverlayRule → ℕ
table_of Subject = 10
table_of Clip = 12
table_of Intersect = 8
table_of Union = 14
table_of Difference = 2
table_of InverseDifference = 4
table_of Xor = 6
table_of (Table table) = bits_of table

-- what a truth function says of the two sides
unfoldable pub top_value : (Bool → Bool → Bool) → ℕ → Bool
top_value rule fill = rule (bit fill 0) (bit fill 2)

unfoldable pub bottom_value : (Bool → Bool → Bool) → ℕ → Bool
bottom_value rule fill = rule (bit fill 1) (bit fill 3)

-- whether it says different things of them
unfoldable pub keeps_fill : (Bool → Bool → Bool) → ℕ → Bool
keeps_fill rule fill = differ (top_value rule fill) (bottom_value rule fill)
