-- Shapes of code as lists of contours, and what calls say of them.
use Rattle.std.specs.Prelude.{◌≡◌, ℕ, ℤ, List, Vec, map, All}
use Rattle.std.specs.Global.{Global}
use Rattle.overlay_geometry.specs.Points.{Point}
use Rattle.overlay_geometry.specs.declared.geom.point.IntPoint.{IntPoint}
use Rattle.overlay_geometry.specs.declared.num.OverlayInt.{Ghosts as Engine}
use Rattle.overlay_base.specs.Rules.{holds}
use Rattle.overlay_base.specs.declared.overlay_core.fill_rule.FillRule.{FillRule}
use Rattle.overlay_base.specs.declared.overlay_core.overlay_rule.OverlayRule.{OverlayRule}
use Rattle.overlay_build.specs.BoundaryOf.{arcs_by}
use Rattle.overlay_build.specs.DirectedWalks.{contour}
use Rattle.overlay_build.specs.OverlayGraphOf.{whole_graph}
use Rattle.overlay_build.specs.declared.build.graph.OverlayGraph.{OverlayGraph}
use Rattle.overlay_shapes.specs.ShapeWalks.{AreShapeWalks}
use Rattle.overlay_contours.specs.ContoursOf.{contours_of}
use Rattle.overlay_contours.specs.ContoursIn.{LieInRange}
use Rattle.overlay_contours.specs.Shapes.{IsShapeOverlay}
use Rattle.overlay_contours.specs.Splittings.{by_snapping}

-- shapes of code as lists of contours
abbrev pub shapes_of : {I : Type 0} → (I → ℤ) → List (Vec (Vec (IntPoint I) Global) Global) → List (List (List Point))
shapes_of whole shapes = map (λ s. contours_of whole s.items) shapes

-- Every point of the shapes is in range.
abbrev pub ShapesLieInRange : {I : Type 0} → (I → ℤ) → I → I → List (Vec (Vec (IntPoint I) Global) Global) → Type 0
ShapesLieInRange whole least greatest shapes = All (λ s. LieInRange whole least greatest s.items) shapes

-- The contours of the shapes are those of walks through a graph in shapes.
pub record FollowShapeWalks {I D : Type 0} {w : _} {o : _} {e : _} {p : _} (rule : OverlayRule) (graph : OverlayGraph I D w o e p) (shapes : List (Vec (Vec (IntPoint I) Global) Global)) : Type 0 where
  pub walks : List (List (List ℕ))
  pub are : AreShapeWalks (holds rule) (whole_graph graph) (arcs_by rule graph) walks
  pub contours : shapes_of w.whole shapes ≡ map (map (contour (arcs_by rule graph))) walks

-- The shapes are what the overlay of a subject's and a clip's contours returns in shapes by snap rounding.
abbrev pub IsShapeOverlayOf : {I : Type 0} → Engine I → OverlayRule → FillRule → List (Vec (IntPoint I) Global) → List (Vec (IntPoint I) Global) → Vec (Vec (Vec (IntPoint I) Global) Global) Global → Type 0
IsShapeOverlayOf engine rule fill_rule subject clip shapes =
    IsShapeOverlay by_snapping rule fill_rule (contours_of engine.whole subject) (contours_of engine.whole clip) (shapes_of engine.whole shapes.items)
