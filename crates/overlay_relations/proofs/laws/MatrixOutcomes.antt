-- From the arrangement of two boundaries to the matrix of their shapes.
use Rattle.std.proofs.Common.{◌≡◌, refl, subst, ℕ, List, []}
use Rattle.std.specs.Prelude.{IsTrue, Bool, true, false, not, ◌==◌, ◌↔◌, All, Contains, map, length}
use Rattle.std.specs.List.{list_all}
use Rattle.std.proofs.lemmas.Bool.{and_parts, both_ways}
use Rattle.overlay_geometry.specs.Meeting.{are_apart}
use Rattle.overlay_geometry.specs.Points.{Point}
use Rattle.overlay_geometry.proofs.laws.lists.Lists.{list_all-from_Has}
use Rattle.overlay_base.specs.Segments.{WholeSegment, pairs, is_map}
use Rattle.overlay_base.specs.Planar.{is_planar}
use Rattle.overlay_base.specs.declared.overlay_core.fill_rule.FillRule.TheVariants.{NonZero}
use Rattle.overlay_base.specs.declared.overlay_core.overlay_rule.OverlayRule.{OverlayRule}
use Rattle.overlay_cuts.proofs.laws.planar.PlanarPasses.{is_planar-each}
use Rattle.overlay_contours.specs.Beyond.{IsOverlayBeyond}
use Rattle.overlay_contours.specs.Contours.{edges}
use Rattle.overlay_contours.specs.ContourSegments.{overlay_segments}
use Rattle.overlay_contours.specs.Polygons.{IsPolygonOverlay}
use Rattle.overlay_contours.specs.Splittings.{by_snapping, IsArrangement}
use Rattle.overlay_contours.proofs.laws.Splittings.{left_is_one}
use Rattle.overlay_relations.specs.Boundaries.{has_inexact_crossing}
use Rattle.overlay_relations.specs.Crossings.{HaveCrossingEdges}
use Rattle.overlay_relations.specs.ContactLaws.{HaveCommonPoint}
use Rattle.overlay_relations.specs.Matrix.{entry}
use Rattle.overlay_relations.specs.MatrixLaws.{HaveCommonEdge, IsRegionBy, AreRegions}
use Rattle.overlay_relations.specs.declared.matrix.Part.{Part}
use Rattle.overlay_relations.specs.declared.matrix.Part.TheVariants.{Interior, Boundary, Exterior}
use Rattle.overlay_relations.specs.declared.matrix.Relation.{Relation}
use Rattle.overlay_relations.specs.steps.MatrixOutcomes.{IsBoundaryMatrix}
use Rattle.overlay_relations.proofs.laws.CrossingParts.{crossing_boundaries_meet_all, inexact_boundaries_cross}
use Rattle.overlay_relations.proofs.laws.Matrices.{matrix_by_regions}
use Rattle.overlay_relations.proofs.laws.Outcomes.{none_in, some_in}

-- where boundaries cross, all parts meet
pub matrix_at_crossing : (first second : List (List Point)) (relation : Relation) → ((of_subject of_clip : Part) → entry relation of_subject of_clip ≡ true) → HaveCrossingEdges first second → IsBoundaryMatrix first second relation
matrix_at_crossing first second relation all h subject_rule clip_rule subject clip a b of_subject of_clip =
    (λ t. crossing_boundaries_meet_all subject_rule clip_rule subject clip first second a b h of_subject of_clip, λ m. all of_subject of_clip)

pub matrix_at_inexact : (first second : List (List Point)) (relation : Relation) → ((of_subject of_clip : Part) → entry relation of_subject of_clip ≡ true) → IsTrue (has_inexact_crossing first second) → IsBoundaryMatrix first second relation
matrix_at_inexact first second relation all h subject_rule clip_rule subject clip a b =
    matrix_at_crossing first second relation all (inexact_boundaries_cross subject_rule clip_rule subject clip first second a b h) subject_rule clip_rule subject clip a b

module _ (first second : List (List Point)) (segments : List WholeSegment) (passes halves : ℕ) (arranged : IsArrangement by_snapping (overlay_segments first second) segments passes halves) where
  -- a region by a rule is one of this arrangement
  pub region_by : (rule : OverlayRule) (region : List (List Point)) → IsOverlayBeyond 0 rule NonZero first second region → IsPolygonOverlay by_snapping rule NonZero first second region → IsRegionBy first second (pairs segments) rule region
  region_by rule region o i = record {
    overlay = o;
    arranged = subst (λ (l : List WholeSegment). All (Contains (pairs l)) (edges region)) (left_is_one by_snapping (overlay_segments first second) i.arrangement segments i.passes passes i.halves halves i.left arranged.left).0 i.arranged;
  }

  pub planar_pairs : IsTrue (list_all (λ s. list_all (λ t. are_apart s t) (pairs segments)) (pairs segments))
  planar_pairs =
      let planar = (and_parts (is_map segments) (is_planar segments) arranged.planar).1 in
      list_all-from_Has (λ s. list_all (λ t. are_apart s t) (pairs segments)) (pairs segments) (λ g m.
      list_all-from_Has (λ t. are_apart g t) (pairs segments) (λ h k. is_planar-each segments planar g h m k))

-- ---- entries

-- a list that is not empty is not empty of points
pub some_told : {X Y : Type 0} (f : X → Y) (xs : List X) (empty told : Bool) → empty ≡ (length xs == 0) → told ≡ not empty → (told ≡ true) ↔ (map f xs ≡ [] → ⊥)
some_told f xs true told e t = (λ h. absurd (both_ways told t h), λ none. absurd (none (none_in f xs true e refl)))
some_told f xs false told e t = (λ h. some_in f xs false e refl, λ none. t)

through : {told A B : Type 0} → (told ↔ B) → (A ↔ B) → told ↔ A
through h k = (λ t. k.1 (h.0 t), λ a. h.1 (k.0 a))

module _ (first second both either subject_alone clip_alone of_subject of_clip : List (List Point)) (are : AreRegions first second both either subject_alone clip_alone of_subject of_clip) (relation : Relation)
    (ii : (relation.interior_interior ≡ true) ↔ (both ≡ [] → ⊥))
    (ib : (relation.interior_boundary ≡ true) ↔ HaveCommonEdge both subject_alone)
    (ie : (relation.interior_exterior ≡ true) ↔ (subject_alone ≡ [] → ⊥))
    (bi : (relation.boundary_interior ≡ true) ↔ HaveCommonEdge both clip_alone)
    (bb : (relation.boundary_boundary ≡ true) ↔ HaveCommonPoint of_subject of_clip)
    (be : (relation.boundary_exterior ≡ true) ↔ HaveCommonEdge either subject_alone)
    (ei : (relation.exterior_interior ≡ true) ↔ (clip_alone ≡ [] → ⊥))
    (eb : (relation.exterior_boundary ≡ true) ↔ HaveCommonEdge either clip_alone)
    (ee : relation.exterior_exterior ≡ true) where
  pub matrix_told : IsBoundaryMatrix first second relation
  matrix_told subject_rule clip_rule subject clip a b Interior Interior = through ii (matrix_by_regions subject_rule clip_rule subject clip first second both either subject_alone clip_alone of_subject of_clip a b are).0
  matrix_told subject_rule clip_rule subject clip a b Interior Boundary = through ib (matrix_by_regions subject_rule clip_rule subject clip first second both either subject_alone clip_alone of_subject of_clip a b are).1
  matrix_told subject_rule clip_rule subject clip a b Interior Exterior = through ie (matrix_by_regions subject_rule clip_rule subject clip first second both either subject_alone clip_alone of_subject of_clip a b are).2
  matrix_told subject_rule clip_rule subject clip a b Boundary Interior = through bi (matrix_by_regions subject_rule clip_rule subject clip first second both either subject_alone clip_alone of_subject of_clip a b are).3
  matrix_told subject_rule clip_rule subject clip a b Boundary Boundary = through bb (matrix_by_regions subject_rule clip_rule subject clip first second both either subject_alone clip_alone of_subject of_clip a b are).4
  matrix_told subject_rule clip_rule subject clip a b Boundary Exterior = through be (matrix_by_regions subject_rule clip_rule subject clip first second both either subject_alone clip_alone of_subject of_clip a b are).5
  matrix_told subject_rule clip_rule subject clip a b Exterior Interior = through ei (matrix_by_regions subject_rule clip_rule subject clip first second both either subject_alone clip_alone of_subject of_clip a b are).6
  matrix_told subject_rule clip_rule subject clip a b Exterior Boundary = through eb (matrix_by_regions subject_rule clip_rule subject clip first second both either subject_alone clip_alone of_subject of_clip a b are).7
  matrix_told subject_rule clip_rule subject clip a b Exterior Exterior = (λ t. (matrix_by_regions subject_rule clip_rule subject clip first second both either subject_alone clip_alone of_subject of_clip a b are).8, λ p. ee)
