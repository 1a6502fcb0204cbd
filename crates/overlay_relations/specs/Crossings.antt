-- Edges of two boundaries that cross.
use Rattle.std.specs.Prelude.{IsTrue, List, Contains}
use Rattle.overlay_geometry.specs.Meeting.{do_cross}
use Rattle.overlay_geometry.specs.Points.{Point, Pair}
use Rattle.overlay_contours.specs.Contours.{edges}

-- Some pair of each of two lists cross at a point strictly inside both.
abbrev pub HaveCrossing : List Pair → List Pair → Type 0
HaveCrossing first second = (s : Pair) × (t : Pair) × Contains first s × Contains second t × IsTrue (do_cross s t)

-- Some edge of the one boundary crosses one of the other so.
abbrev pub HaveCrossingEdges : List (List Point) → List (List Point) → Type 0
HaveCrossingEdges first second = HaveCrossing (edges first) (edges second)
