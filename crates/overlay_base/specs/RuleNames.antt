-- The names of rules, as they are written.
use Rattle.std.specs.Prelude.{ℕ, List, ◌++◌, codes}
use Rattle.std.specs.Fmt.{decimal}
use Rattle.overlay_base.specs.declared.overlay_core.fill_rule.FillRule.{FillRule}
use Rattle.overlay_base.specs.declared.overlay_core.fill_rule.FillRule.TheVariants.{EvenOdd, NonZero, Positive, Negative}
use Rattle.overlay_base.specs.declared.overlay_core.overlay_rule.OverlayRule.{OverlayRule}
use Rattle.overlay_base.specs.declared.overlay_core.overlay_rule.OverlayRule.TheVariants.{Subject, Clip, Intersect, Union, Difference, InverseDifference, Xor, Table}
use Rattle.overlay_base.specs.Rules.{bits_of}

abbrev pub fill_rule_name : FillRule → List ℕ
fill_rule_name EvenOdd = codes "EvenOdd"
fill_rule_name NonZero = codes "NonZero"
fill_rule_name Positive = codes "Positive"
fill_rule_name Negative = codes "Negative"

abbrev pub overlay_rule_name : OverlayRule → List ℕ
overlay_rule_name Subject = codes "Subject"
overlay_rule_name Clip = codes "Clip"
overlay_rule_name Intersect = codes "Intersect"
overlay_rule_name Union = codes "Union"
overlay_rule_name Difference = codes "Difference"
overlay_rule_name InverseDifference = codes "InverseDifference"
overlay_rule_name Xor = codes "Xor"
overlay_rule_name (Table t) = codes "Table(" ++ decimal (bits_of t) ++ codes ")"
