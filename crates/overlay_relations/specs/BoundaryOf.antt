-- What a boundary keeps.
use Rattle.std.specs.Prelude.{List}
use Rattle.overlay_geometry.specs.Points.{Point}
use Rattle.overlay_contours.specs.ContoursOf.{contours_of}
use Rattle.overlay_relations.specs.declared.boundary.Boundary.{Boundary}

-- its contours
abbrev pub contours_in : {I : Type 0} {w : _} {o : _} {e : _} {p : _} → Boundary I w o e p → List (List Point)
contours_in {w = w} boundary = contours_of w.whole boundary.contours.items
