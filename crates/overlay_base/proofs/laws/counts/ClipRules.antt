-- What clip rules keep: their tables, and what the inverted ones keep.
use Rattle.std.proofs.Common.{◌≡◌, refl, ℕ, ◌<◌, ◌==◌, Bool, true, false, not, ◌&&◌}
use Rattle.std.specs.List.{list_any}
use Rattle.overlay_base.specs.Rules.{differ}
use Rattle.overlay_base.specs.ClipRules.{has_line, is_in_polygon, keeps_clip, clip_table, ClipRulesAreTheirTables, InvertedKeepsTheRest}
use Rattle.overlay_base.proofs.laws.counts.Fills.{below_sixteen}

-- whether a fill is kept where its table has it
is_as_table : Bool → Bool → ℕ → Type 0
is_as_table invert boundary fill = (has_line fill && differ invert (is_in_polygon boundary fill)) ≡ list_any (λ n. n == fill) (clip_table invert boundary)

by_table : (invert boundary : Bool) (fill : ℕ) → fill < 16 → is_as_table invert boundary fill
unfolding is_as_table
by_table true true fill h = below_sixteen (is_as_table true true) refl refl refl refl refl refl refl refl refl refl refl refl refl refl refl refl fill h
by_table true false fill h = below_sixteen (is_as_table true false) refl refl refl refl refl refl refl refl refl refl refl refl refl refl refl refl fill h
by_table false true fill h = below_sixteen (is_as_table false true) refl refl refl refl refl refl refl refl refl refl refl refl refl refl refl refl fill h
by_table false false fill h = below_sixteen (is_as_table false false) refl refl refl refl refl refl refl refl refl refl refl refl refl refl refl refl fill h

pub clip_rules_are_their_tables : ClipRulesAreTheirTables
unfolding keeps_clip is_as_table
clip_rules_are_their_tables rule fill h = by_table rule.invert rule.boundary_included fill h

the_rest : (line invert inside : Bool) → (line && differ (not invert) inside) ≡ (line && not (line && differ invert inside))
the_rest true true true = refl
the_rest true true false = refl
the_rest true false true = refl
the_rest true false false = refl
the_rest false invert inside = refl

pub inverted_keeps_the_rest : InvertedKeepsTheRest
unfolding keeps_clip
inverted_keeps_the_rest rule fill = the_rest (has_line fill) rule.invert (is_in_polygon rule.boundary_included fill)
