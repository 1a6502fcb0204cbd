-- Laws over the definitions, each a statement that is proved once and named by a contract.
use Rattle.std.specs.Prelude.{int_le, map, IsTrue, IsFalse}
use Rattle.std.specs.List.{list_all}
use Rattle.overlay_geometry.specs.Points.{Pair, is_ordered, is_vertical}
use Rattle.overlay_grid.specs.Grid.{Layout, fragments, holds_both_heights, follow_on}

-- the fragments of a segment inside the grid follow one another from end to end, and each encloses its part of the segment
abbrev pub FragmentsEnclose : Type 0
FragmentsEnclose =
    (l : Layout) (s : Pair) → IsTrue (is_ordered s) → IsFalse (is_vertical s) → IsTrue (int_le l.min_x s.a.x) →
    IsTrue (list_all (λ f. holds_both_heights s f.rect) (fragments l s)) × IsTrue (follow_on s.a.x (map (λ f. f.rect) (fragments l s)) s.b.x)
