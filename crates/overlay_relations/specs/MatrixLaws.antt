-- Laws of the parts of two shapes: which meet which, by regions of one arrangement of their boundaries.
use Rattle.std.specs.Prelude.{◌≡◌, ◌↔◌, IsTrue, List, [], All, Contains}
use Rattle.std.specs.List.{list_all}
use Rattle.overlay_geometry.specs.Meeting.{are_apart}
use Rattle.overlay_geometry.specs.Points.{Point, Pair}
use Rattle.overlay_base.specs.declared.overlay_core.fill_rule.FillRule.{FillRule}
use Rattle.overlay_base.specs.declared.overlay_core.fill_rule.FillRule.TheVariants.{NonZero}
use Rattle.overlay_base.specs.declared.overlay_core.overlay_rule.OverlayRule.{OverlayRule}
use Rattle.overlay_base.specs.declared.overlay_core.overlay_rule.OverlayRule.TheVariants.{Subject, Clip, Intersect, Union, Difference, InverseDifference}
use Rattle.overlay_contours.specs.Beyond.{IsOverlayBeyond}
use Rattle.overlay_contours.specs.Contours.{edges}
use Rattle.overlay_relations.specs.Boundaries.{IsBoundaryOf}
use Rattle.overlay_relations.specs.Crossings.{HaveCrossingEdges}
use Rattle.overlay_relations.specs.ContactLaws.{HaveCommonPoint}
use Rattle.overlay_relations.specs.Matrix.{PartsMeet}
use Rattle.overlay_relations.specs.declared.matrix.Part.{Part}
use Rattle.overlay_relations.specs.declared.matrix.Part.TheVariants.{Interior, Boundary, Exterior}

-- Some edge is an edge of both lists of contours.
abbrev pub HaveCommonEdge : List (List Point) → List (List Point) → Type 0
HaveCommonEdge first second = (e : Pair) × Contains (edges first) e × Contains (edges second) e

-- The overlay of two boundaries by a rule moves nothing, and its edges are among some pairs.
pub record IsRegionBy (first second : List (List Point)) (segments : List Pair) (rule : OverlayRule) (region : List (List Point)) : Type 0 where
  pub overlay : IsOverlayBeyond 0 rule NonZero first second region
  pub arranged : All (Contains segments) (edges region)

-- The regions of two boundaries in one arrangement: of two of its segments no more than an end is common.
pub record AreRegions (first second : List (List Point)) (both either subject_alone clip_alone of_subject of_clip : List (List Point)) : Type 0 where
  pub segments : List Pair
  pub planar : IsTrue (list_all (λ s. list_all (λ t. are_apart s t) segments) segments)
  pub by_both : IsRegionBy first second segments Intersect both
  pub by_either : IsRegionBy first second segments Union either
  pub by_subject_alone : IsRegionBy first second segments Difference subject_alone
  pub by_clip_alone : IsRegionBy first second segments InverseDifference clip_alone
  pub by_subject : IsRegionBy first second segments Subject of_subject
  pub by_clip : IsRegionBy first second segments Clip of_clip

-- Two parts meet exactly so: two insides where a region is not empty; a boundary and an inside, or an outside, where two regions have a
-- common edge; both boundaries where the regions of the shapes have a common point.
abbrev pub MatrixByRegions : Type 0
MatrixByRegions =
    (subject_rule clip_rule : FillRule) (subject clip first second both either subject_alone clip_alone of_subject of_clip : List (List Point)) →
    IsBoundaryOf subject_rule subject first → IsBoundaryOf clip_rule clip second →
    AreRegions first second both either subject_alone clip_alone of_subject of_clip →
    (PartsMeet subject_rule clip_rule subject clip Interior Interior ↔ (both ≡ [] → ⊥))
    × (PartsMeet subject_rule clip_rule subject clip Interior Boundary ↔ HaveCommonEdge both subject_alone)
    × (PartsMeet subject_rule clip_rule subject clip Interior Exterior ↔ (subject_alone ≡ [] → ⊥))
    × (PartsMeet subject_rule clip_rule subject clip Boundary Interior ↔ HaveCommonEdge both clip_alone)
    × (PartsMeet subject_rule clip_rule subject clip Boundary Boundary ↔ HaveCommonPoint of_subject of_clip)
    × (PartsMeet subject_rule clip_rule subject clip Boundary Exterior ↔ HaveCommonEdge either subject_alone)
    × (PartsMeet subject_rule clip_rule subject clip Exterior Interior ↔ (clip_alone ≡ [] → ⊥))
    × (PartsMeet subject_rule clip_rule subject clip Exterior Boundary ↔ HaveCommonEdge either clip_alone)
    × PartsMeet subject_rule clip_rule subject clip Exterior Exterior

-- Where edges of the boundaries cross, each part of the one shape meets each part of the other.
abbrev pub CrossingBoundariesMeetAll : Type 0
CrossingBoundariesMeetAll =
    (subject_rule clip_rule : FillRule) (subject clip first second : List (List Point)) →
    IsBoundaryOf subject_rule subject first → IsBoundaryOf clip_rule clip second →
    HaveCrossingEdges first second → (of_subject of_clip : Part) → PartsMeet subject_rule clip_rule subject clip of_subject of_clip
