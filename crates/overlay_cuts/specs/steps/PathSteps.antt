-- A path that is given point by point.
use Rattle.std.specs.Prelude.{◌≡◌, List, [], ◌∷◌}
use Rattle.overlay_geometry.specs.Points.{Point, Pair}
use Rattle.overlay_cuts.specs.Path.{last_point, LeadsOn}

-- the first of the points, or b where there is none
abbrev pub first_point : List Point → Point → Point
first_point [] b = b
first_point (p ∷ points) b = p

-- a path from the first end of a pair to the last, given without the first
abbrev pub IsPathOf : Pair → List Point → Type 0
IsPathOf pair points = LeadsOn pair.a points × (last_point pair.a points ≡ pair.b)
