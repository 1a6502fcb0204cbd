-- Which fills of lines a clip rule keeps, and the laws of clip rules.
use Rattle.std.specs.Prelude.{◌≡◌, ℕ, ◌<◌, ◌==◌, Bool, not, ◌&&◌, ◌||◌, if◌then◌else◌, List, [], ◌∷◌}
use Rattle.std.specs.List.{list_any}
use Rattle.overlay_base.specs.Rules.{differ, bit}
use Rattle.overlay_base.specs.declared.overlay_core.clip_rule.ClipRule.{ClipRule}

-- whether a line runs along a segment with this fill, one way or both: its mask is not 0
abbrev pub has_line : ℕ → Bool
has_line fill = bit fill 2 || bit fill 3

-- Whether a segment with this fill lies in the polygon: with the boundary it does where the polygon is on one of its
-- sides, without where it is on both.
abbrev pub is_in_polygon : Bool → ℕ → Bool
is_in_polygon boundary_included fill = if boundary_included then bit fill 0 || bit fill 1 else bit fill 0 && bit fill 1

-- whether the rule keeps a segment with this fill: a part of a line, in the polygon, or where inverted outside of it
unfoldable pub keeps_clip : ClipRule → ℕ → Bool
keeps_clip rule fill = has_line fill && differ rule.invert (is_in_polygon rule.boundary_included fill)

-- the fills that each rule keeps
abbrev pub clip_table : Bool → Bool → List ℕ
clip_table invert boundary_included =
    if invert
    then (if boundary_included then 4 ∷ 8 ∷ 12 ∷ [] else 4 ∷ 5 ∷ 6 ∷ 8 ∷ 9 ∷ 10 ∷ 12 ∷ 13 ∷ 14 ∷ [])
    else (if boundary_included then 5 ∷ 6 ∷ 7 ∷ 9 ∷ 10 ∷ 11 ∷ 13 ∷ 14 ∷ 15 ∷ [] else 7 ∷ 11 ∷ 15 ∷ [])

-- a rule keeps exactly the fills of its table
abbrev pub ClipRulesAreTheirTables : Type 0
ClipRulesAreTheirTables = (rule : ClipRule) (fill : ℕ) → fill < 16 → keeps_clip rule fill ≡ list_any (λ n. n == fill) (clip_table rule.invert rule.boundary_included)

-- the rule with the other direction
abbrev pub turned : ClipRule → ClipRule
turned rule = record rule { invert = not rule.invert }

-- among segments of lines the inverted rule keeps exactly what the rule with the same boundary drops, and no others
abbrev pub InvertedKeepsTheRest : Type 0
InvertedKeepsTheRest = (rule : ClipRule) (fill : ℕ) → keeps_clip (turned rule) fill ≡ (has_line fill && not (keeps_clip rule fill))
