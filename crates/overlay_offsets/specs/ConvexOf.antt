-- Convex polygons of code as lists of whole points, and what is none.
use Rattle.std.specs.Prelude.{⊤, ℤ, ◌<◌, List, length}
use Rattle.overlay_geometry.specs.Coordinates.{is_point_in_range}
use Rattle.overlay_geometry.specs.Points.{Point}
use Rattle.overlay_contours.specs.Contours.{steps_of}
use Rattle.overlay_contours.specs.ContoursOf.{points_of}
use Rattle.overlay_offsets.specs.Convex.{is_side, IsFirstToFail}
use Rattle.overlay_offsets.specs.declared.convex.ConvexPolygon.{ConvexPolygon}
use Rattle.overlay_offsets.specs.declared.convex.ConvexFault.{ConvexFault}
use Rattle.overlay_offsets.specs.declared.convex.ConvexFault.TheVariants.{TooFew, OutOfRange, NotConvex, Memory}

abbrev pub corners_of : {I : Type 0} {w : _} {o : _} {e : _} {p : _} → (I → ℤ) → ConvexPolygon I w o e p → List Point
corners_of whole polygon = points_of whole polygon.corners.items

-- The fault is the first thing that is wrong with the points: their number, the first one out of range, or the first edge at fault; or a growth was
-- refused.
abbrev pub IsFaultOf : ℤ → ℤ → List Point → ConvexFault → Type 0
IsFaultOf least greatest points TooFew = length points < 3
IsFaultOf least greatest points (OutOfRange corner) = IsFirstToFail (is_point_in_range least greatest) points corner
IsFaultOf least greatest points (NotConvex edge) = IsFirstToFail (is_side points) (steps_of points) edge
IsFaultOf least greatest points Memory = ⊤
