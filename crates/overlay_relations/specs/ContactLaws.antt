-- Laws of the points that two shapes share, by their boundaries.
use Rattle.std.specs.Prelude.{◌<◌, ◌↔◌, ◌⊎◌, IsTrue, List, Contains}
use Rattle.std.specs.List.{list_all, list_any}
use Rattle.overlay_geometry.specs.Meeting.{are_apart}
use Rattle.overlay_geometry.specs.Points.{Point}
use Rattle.overlay_base.specs.Places.{RationalPoint}
use Rattle.overlay_base.specs.Rays.{goes_through}
use Rattle.overlay_base.specs.declared.overlay_core.fill_rule.FillRule.{FillRule}
use Rattle.overlay_base.specs.declared.overlay_core.fill_rule.FillRule.TheVariants.{NonZero}
use Rattle.overlay_base.specs.declared.overlay_core.overlay_rule.OverlayRule.TheVariants.{Subject, Clip}
use Rattle.overlay_contours.specs.Beyond.{IsOverlayBeyond}
use Rattle.overlay_contours.specs.Boxes.{all_points}
use Rattle.overlay_contours.specs.Contours.{edges}
use Rattle.overlay_relations.specs.Boundaries.{IsBoundaryOf}
use Rattle.overlay_relations.specs.Contacts.{IsOnBoundary, SharePoint}
use Rattle.overlay_relations.specs.Relations.{InteriorsMeet}

-- A point is on the boundary of a shape, with points inside and outside however near to it, exactly if it lies on an edge of the contours
-- that bound the shape.
abbrev pub BoundariesAreEdges : Type 0
BoundariesAreEdges =
    (fill_rule : FillRule) (contours boundary : List (List Point)) → IsBoundaryOf fill_rule contours boundary →
    (p : RationalPoint) → 0 < p.bottom → IsTrue (list_any (λ e. goes_through e p) (edges boundary)) ↔ IsOnBoundary fill_rule contours p

-- Some point is a point of contours of both lists.
abbrev pub HaveCommonPoint : List (List Point) → List (List Point) → Type 0
HaveCommonPoint first second = (p : Point) × Contains (all_points first) p × Contains (all_points second) p

-- The overlay of two boundaries moves nothing, and its contours by `Subject` and by `Clip` share no more than ends of edges. Where these
-- have a common point, the shapes share it. Where the shapes share a point, these have a common one, or some point is inside both shapes.
abbrev pub CommonPointsDecide : Type 0
CommonPointsDecide =
    (subject_rule clip_rule : FillRule) (subject clip first second of_first of_second : List (List Point)) →
    IsBoundaryOf subject_rule subject first → IsBoundaryOf clip_rule clip second →
    IsOverlayBeyond 0 Subject NonZero first second of_first → IsOverlayBeyond 0 Clip NonZero first second of_second →
    IsTrue (list_all (λ s. list_all (λ t. are_apart s t) (edges of_second)) (edges of_first)) →
    (HaveCommonPoint of_first of_second → SharePoint subject_rule clip_rule subject clip)
    × (SharePoint subject_rule clip_rule subject clip → HaveCommonPoint of_first of_second ⊎ InteriorsMeet subject_rule clip_rule subject clip)
