-- What the result of an overlay is, given again as segments of one shape.
use Rattle.std.specs.Prelude.{◌≡◌, ℕ, ◌<◌, ℤ, Bool, IsTrue, List}
use Rattle.overlay_base.specs.Segments.{WholeSegment, pairs, are_polygons}
use Rattle.overlay_base.specs.Planar.{is_arranged}
use Rattle.overlay_base.specs.Balance.{IsBalanced}
use Rattle.overlay_base.specs.Places.{RationalPoint, winding_below}
use Rattle.overlay_base.specs.declared.overlay_core.fill_rule.FillRule.{FillRule}
use Rattle.overlay_base.specs.declared.segm.shape_type.ShapeType.{ShapeType}
use Rattle.overlay_cuts.specs.Places.{IsFar}
use Rattle.overlay_build.specs.Graph.{Graph}
use Rattle.overlay_build.specs.Boundary.{directed_links, times_round}
use Rattle.overlay_build.specs.ShapedBoundary.{of_shape, in_shape, BoundsAsShape}
use Rattle.i_overlay.specs.Courses.{Course}
use Rattle.i_overlay.specs.Headline.{IsOverlayBy}

-- Segments wind around the region of a rule as one shape, by how the given segments wind, at the places that are farther from
-- these than that many halves.
abbrev pub WindsAsShapeBeyond : ℕ → ShapeType → (Bool → Bool → Bool) → FillRule → List WholeSegment → List WholeSegment → Type 0
WindsAsShapeBeyond halves shape rule fill_rule given list =
    (p : RationalPoint) → 0 < p.bottom → IsFar halves p (pairs given) → winding_below list p ≡ of_shape shape (times_round rule fill_rule (winding_below given p))

-- The directed links of an overlay's graph, as segments of one shape, bound the region in the arrangement, and wind around it as
-- the given polygons do at each place that is far from them.
abbrev pub ResultsAreGivenAgain : Type 0
ResultsAreGivenAgain =
    (least greatest : ℤ) (course : Course) (shape : ShapeType) (fill_rule : FillRule) (rule : Bool → Bool → Bool) (given segments : List WholeSegment) (graph : Graph) →
    IsOverlayBy course fill_rule rule given segments graph → IsTrue (is_arranged least greatest segments) → IsTrue (are_polygons segments) → IsBalanced given →
    BoundsAsShape least greatest shape rule fill_rule segments (in_shape shape (directed_links rule graph)) × WindsAsShapeBeyond course.halves shape rule fill_rule given (in_shape shape (directed_links rule graph))
