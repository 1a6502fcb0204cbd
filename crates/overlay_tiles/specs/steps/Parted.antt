-- A part of a step, cut at one line after another.
use Rattle.std.specs.Prelude.{List, [], ◌∷◌, ◌++◌, if◌then◌else◌}
use Rattle.overlay_geometry.specs.Points.{Point, Pair}
use Rattle.overlay_tiles.specs.Tiles.{Line, parts, cut}

-- the points from u to v, without v, with the cut of s at each line that parts two neighbors
unfoldable pub parted : Pair → List Line → Point → Point → List Point
parted s [] u v = u ∷ []
parted s (line ∷ lines) u v = if parts line u v then parted s lines u (cut s line) ++ parted s lines (cut s line) v else parted s lines u v
