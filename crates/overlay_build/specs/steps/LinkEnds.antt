-- The ends of links with the links' indexes.
use Rattle.std.specs.Prelude.{Bool, List, map, filter}
use Rattle.std.specs.Bool.{beq}
use Rattle.std.specs.List.{enumerate_from}
use Rattle.overlay_geometry.specs.Points.{Pair, is_vertical}
use Rattle.overlay_build.specs.steps.EndOf.{WholeEnd}

-- the first ends, in the order of the links
abbrev pub numbered_starts : List Pair → List WholeEnd
numbered_starts links = map (λ e. record { index = e.0; point = e.1.a }) (enumerate_from 0 links)

-- the second ends
abbrev pub numbered_ends : List Pair → List WholeEnd
numbered_ends links = map (λ e. record { index = e.0; point = e.1.b }) (enumerate_from 0 links)

-- those of the links that are vertical, or of the others
abbrev pub ends_where : Bool → List Pair → List WholeEnd
ends_where are_vertical links = map (λ e. record { index = e.0; point = e.1.b }) (filter (λ e. beq (is_vertical e.1) are_vertical) (enumerate_from 0 links))
