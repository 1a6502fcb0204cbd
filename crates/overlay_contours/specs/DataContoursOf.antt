-- Contours of code whose steps have data, and those of the walks of a graph.
use Rattle.std.specs.Prelude.{◌≡◌, ℕ, ℤ, Bool, List, Vec, Some, map, option_map, slice_get}
use Rattle.std.specs.Global.{Global}
use Rattle.overlay_geometry.specs.Points.{Point}
use Rattle.overlay_geometry.specs.PointOf.{point_of}
use Rattle.overlay_base.specs.Rules.{holds}
use Rattle.overlay_base.specs.declared.overlay_core.link.OverlayLink.{OverlayLink}
use Rattle.overlay_base.specs.declared.overlay_core.overlay_rule.OverlayRule.{OverlayRule}
use Rattle.overlay_build.specs.BoundaryOf.{arcs_by}
use Rattle.overlay_build.specs.DirectedWalks.{in_direction, contour, AreDirectedWalks}
use Rattle.overlay_build.specs.GraphOf.{link_of}
use Rattle.overlay_build.specs.OverlayGraphOf.{links_of, whole_graph}
use Rattle.overlay_build.specs.declared.build.graph.OverlayGraph.{OverlayGraph}
use Rattle.overlay_shapes.specs.ShapeWalks.{AreShapeWalks}
use Rattle.overlay_contours.specs.DataContours.{DataStep, points_in}
use Rattle.overlay_contours.specs.declared.contour_steps.ContourStep.{ContourStep}

-- a step of code in whole numbers
abbrev pub data_step_of : {I D : Type 0} → (I → ℤ) → ContourStep I D → DataStep D
data_step_of whole s = record { point = point_of whole s.point; edge_data = s.edge_data }

-- contours of code as lists of these, with data and without
abbrev pub data_contours_of : {I D : Type 0} → (I → ℤ) → List (Vec (ContourStep I D) Global) → List (List (DataStep D))
data_contours_of whole contours = map (λ c. map (data_step_of whole) c.items) contours

abbrev pub bare_contours_of : {I D : Type 0} → (I → ℤ) → List (Vec (ContourStep I D) Global) → List (List Point)
bare_contours_of whole contours = map points_in (data_contours_of whole contours)

-- and shapes of code as lists of contours so
abbrev pub data_shapes_of : {I D : Type 0} → (I → ℤ) → List (Vec (Vec (ContourStep I D) Global) Global) → List (List (List (DataStep D)))
data_shapes_of whole shapes = map (λ s. data_contours_of whole s.items) shapes

abbrev pub bare_shapes_of : {I D : Type 0} → (I → ℤ) → List (Vec (Vec (ContourStep I D) Global) Global) → List (List (List Point))
bare_shapes_of whole shapes = map (λ contours. map points_in contours) (data_shapes_of whole shapes)

-- the step along a link: from where it starts in its direction, with its data
abbrev pub step_along : {I D : Type 0} → (I → ℤ) → (Bool → Bool → Bool) → OverlayLink I D → DataStep D
step_along whole rule l = record { point = (in_direction rule (link_of whole l)).pair.a; edge_data = l.edge_data }

-- The steps are a walk as its indexes name links: each is the step along the link at its index.
abbrev pub IsStepsOfWalk : {I D : Type 0} → (I → ℤ) → (Bool → Bool → Bool) → List (OverlayLink I D) → List ℕ → List (DataStep D) → Type 0
IsStepsOfWalk whole rule links walk steps = map (λ s. Some s) steps ≡ map (λ i. option_map (step_along whole rule) (slice_get links i)) walk

-- The contours are walks so.
abbrev pub AreStepsOfWalks : {I D : Type 0} → (I → ℤ) → (Bool → Bool → Bool) → List (OverlayLink I D) → List (List ℕ) → List (List (DataStep D)) → Type 0
AreStepsOfWalks whole rule links walks contours =
    map (λ steps. map (λ s. Some s) steps) contours ≡ map (λ walk. map (λ i. option_map (step_along whole rule) (slice_get links i)) walk) walks

-- They are directed walks through a graph, in which every link is in exactly one place.
pub record FollowDirectedWalks {I D : Type 0} {w : _} {o : _} {e : _} {p : _} (rule : OverlayRule) (graph : OverlayGraph I D w o e p) (contours : List (Vec (ContourStep I D) Global)) : Type 0 where
  pub walks : List (List ℕ)
  pub are : AreDirectedWalks (arcs_by rule graph) walks
  pub steps : AreStepsOfWalks w.whole (holds rule) (links_of graph) walks (data_contours_of w.whole contours)

-- The shapes are groups of walks so.
abbrev pub AreStepsOfGroups : {I D : Type 0} → (I → ℤ) → (Bool → Bool → Bool) → List (OverlayLink I D) → List (List (List ℕ)) → List (List (List (DataStep D))) → Type 0
AreStepsOfGroups whole rule links groups shapes =
    map (λ contours. map (λ steps. map (λ s. Some s) steps) contours) shapes ≡ map (λ walks. map (λ walk. map (λ i. option_map (step_along whole rule) (slice_get links i)) walk) walks) groups

-- They are the walks of a graph in shapes; without data their contours are those of these walks.
pub record FollowWalksInShapes {I D : Type 0} {w : _} {o : _} {e : _} {p : _} (rule : OverlayRule) (graph : OverlayGraph I D w o e p) (shapes : List (Vec (Vec (ContourStep I D) Global) Global)) : Type 0 where
  pub walks : List (List (List ℕ))
  pub are : AreShapeWalks (holds rule) (whole_graph graph) (arcs_by rule graph) walks
  pub steps : AreStepsOfGroups w.whole (holds rule) (links_of graph) walks (data_shapes_of w.whole shapes)
  pub contours : bare_shapes_of w.whole shapes ≡ map (map (contour (arcs_by rule graph))) walks
