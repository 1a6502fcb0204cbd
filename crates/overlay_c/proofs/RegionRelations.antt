-- Relations of regions that are kept, and why a region is refused.
use Rattle.std.proofs.Common.{◌≡◌, sym, subst, ◌∙◌, ℕ, ◌<◌, List, [], ◌∷◌, length, get_or, Err, arith}
use Rattle.std.specs.Prelude.{⊤, Bool, Result, IfOk}
use Rattle.std.proofs.lemmas.List.{get_or_default}
use Rattle.overlay_geometry.specs.Points.{Point}
use Rattle.overlay_base.specs.declared.segm.fault.Fault.TheVariants.{Memory, CountOutOfRange}
use Rattle.overlay_base.specs.declared.segm.shape_type.ShapeType.TheVariants.{Subject, Clip}
use Rattle.overlay_contours.specs.Refusals.{CountsLeaveRange}
use Rattle.overlay_contours.specs.Splittings.{by_snapping}
use Rattle.overlay_contours.specs.declared.fault.ContourFault.{ContourFault}
use Rattle.overlay_contours.specs.declared.fault.ContourFault.TheVariants as contour
use Rattle.overlay_relations.specs.Matrix.{entry}
use Rattle.overlay_relations.specs.Refusals.{IsOverlayRefusal}
use Rattle.overlay_relations.specs.Regions.{boundary_of, DecidesMatrix}
use Rattle.overlay_relations.specs.declared.fault.RelationFault.{RelationFault}
use Rattle.overlay_relations.specs.declared.fault.RelationFault.TheVariants.{NotExact, Refused}
use Rattle.overlay_relations.specs.declared.matrix.Part.{Part}
use Rattle.overlay_relations.specs.declared.matrix.Relation.{Relation as PartsRelation}
use Rattle.overlay_relations.specs.declared.region.Region.{Region}
use Rattle.overlay_c.specs.Matrices.{entry_by}
use Rattle.overlay_c.specs.Regions.{IsShapeRefusal, CountsOfShapeLeaveRange, HoldsOfRegions, IsMatrixOfRegions}
use Rattle.overlay_c.specs.Relations.{code_of_fault}
use Rattle.overlay_c.specs.Status.{refusal_of, status_of}
use Rattle.overlay_c.specs.declared.relations.MatrixRecord.{MatrixRecord}
use Rattle.overlay_c.specs.declared.relations.Relation.{Relation}

module _ {I : Type 0} {w : _} {o : _} {e : _} {p : _} (first second : Region I w o e p) where
  pub named_holds : (relation named : Relation) → relation ≡ named → (result : Result Bool ContourFault) → IfOk result (HoldsOfRegions named first second) → IfOk result (HoldsOfRegions relation first second)
  named_holds relation named er result h = subst (λ (r : Relation). IfOk result (HoldsOfRegions r first second)) (sym er) h

  pub matrix_of_regions : (relation : PartsRelation) (m : MatrixRecord) → ((of_first of_second : Part) → entry_by m of_first of_second ≡ entry relation of_first of_second) → DecidesMatrix first second relation → IsMatrixOfRegions first second m
  matrix_of_regions relation m same is subject_rule clip_rule subject clip a b of_first of_second =
      let told = is subject_rule clip_rule subject clip a b of_first of_second in (λ h. told.0 (sym (same of_first of_second) ∙ h), λ h. same of_first of_second ∙ told.1 h)

-- the same of regions by their numbers
module _ {I : Type 0} {w : _} {o : _} {e : _} {p : _} (regions : List (Region I w o e p)) (first second : ℕ) (one other : Region I w o e p) (inside : first < length regions) (inside_too : second < length regions)
    (is_one : one ≡ get_or regions first one) (is_other : other ≡ get_or regions second other) where
  pub matrix_at : (m : MatrixRecord) → IsMatrixOfRegions one other m → (x y : Region I w o e p) → IsMatrixOfRegions (get_or regions first x) (get_or regions second y) m
  matrix_at m is x y =
      subst (λ (r : Region I w o e p). IsMatrixOfRegions r (get_or regions second y) m) (is_one ∙ get_or_default regions first one x inside)
      (subst (λ (r : Region I w o e p). IsMatrixOfRegions one r m) (is_other ∙ get_or_default regions second other y inside_too) is)

-- ---- codes

pub shape_counts : (contours : List (List Point)) (fault : RelationFault) → IsShapeRefusal contours fault → code_of_fault fault ≡ 2 → CountsOfShapeLeaveRange contours
shape_counts contours (NotExact Subject) r e = absurd (omega (arith, e))
shape_counts contours (NotExact Clip) r e = absurd (omega (arith, e))
shape_counts contours (Refused (contour.OutOfRange shape_type index point)) r e = absurd r
shape_counts contours (Refused (contour.Refused Memory)) r e = absurd (omega (arith, e))
shape_counts contours (Refused (contour.Refused CountOutOfRange)) r e = r

region_code : (first second : List (List Point)) (fault : ContourFault) → IsOverlayRefusal first second fault → status_of {A = ⊤} (Err (refusal_of fault)) < 3
region_code first second (contour.OutOfRange shape_type index point) r = absurd r
region_code first second (contour.Refused Memory) r = omega arith
region_code first second (contour.Refused CountOutOfRange) r = omega arith

pub region_counts : (first second : List (List Point)) (fault : ContourFault) → IsOverlayRefusal first second fault → status_of {A = ⊤} (Err (refusal_of fault)) ≡ 2 → CountsLeaveRange by_snapping first second
region_counts first second (contour.OutOfRange shape_type index point) r e = absurd r
region_counts first second (contour.Refused Memory) r e = absurd (omega (arith, e))
region_counts first second (contour.Refused CountOutOfRange) r e = r

some_of : {X : Type 0} (xs : List X) (i : ℕ) → i < length xs → X
some_of [] i l = absurd (omega (arith, l))
some_of (x ∷ xs) i l = x

pub code_at : {I : Type 0} {w : _} {o : _} {e : _} {p : _} (regions : List (Region I w o e p)) (first second : ℕ) → first < length regions → (fault : ContourFault)
    → ((x y : Region I w o e p) → IsOverlayRefusal (boundary_of (get_or regions first x)) (boundary_of (get_or regions second y)) fault) → status_of {A = ⊤} (Err (refusal_of fault)) < 3
code_at regions first second inside fault r = let x = some_of regions first inside in region_code (boundary_of (get_or regions first x)) (boundary_of (get_or regions second x)) fault (r x x)
