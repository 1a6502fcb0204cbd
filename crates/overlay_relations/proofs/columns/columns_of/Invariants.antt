use Rattle.std.proofs.Common.{◌≡◌, ◌++◌, ◌<◌, length}
use Rattle.std.specs.Prelude.{All}
use Rattle.overlay_relations.specs.steps.Columns.{members_of, AreAround}
use Rattle.overlay_relations.proofs.columns.columns_of.Given as goal

-- what is in columns, and the rest
abbrev pub invariant-loop-rest : goal.invariant-loop-rest
invariant-loop-rest g l =
    (members_of l.columns.items ++ l.rest ≡ l.initial.rest)
    × All (AreAround g.I.OverlayInt.whole) l.columns.items
    × (0 < l.size)

abbrev pub decreases-loop-rest : goal.decreases-loop-rest
decreases-loop-rest g l = length l.rest
