-- What is found of two boundaries on the way to a matrix.
use Rattle.std.specs.Prelude.{List, Contains}
use Rattle.overlay_geometry.specs.Points.{Point, Pair}
use Rattle.overlay_base.specs.declared.overlay_core.fill_rule.FillRule.{FillRule}
use Rattle.overlay_relations.specs.Boundaries.{IsBoundaryOf}
use Rattle.overlay_relations.specs.Matrix.{IsMatrix}
use Rattle.overlay_relations.specs.declared.matrix.Relation.{Relation}

-- The relation is that of any two shapes that have these boundaries.
abbrev pub IsBoundaryMatrix : List (List Point) → List (List Point) → Relation → Type 0
IsBoundaryMatrix first second relation =
    (subject_rule clip_rule : FillRule) (subject clip : List (List Point)) →
    IsBoundaryOf subject_rule subject first → IsBoundaryOf clip_rule clip second → IsMatrix subject_rule clip_rule subject clip relation

-- Some pair is in both lists.
abbrev pub ShareSomePair : List Pair → List Pair → Type 0
ShareSomePair first second = (e : Pair) × Contains first e × Contains second e
