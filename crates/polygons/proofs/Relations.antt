-- The text of a relation, of the contours that were read.
use Rattle.std.proofs.Common.{◌≡◌, ◌⊎◌, inl, inr, refl, subst, ℤ, List, Err}
use Rattle.std.specs.declared.result.Result.{Result}
use Rattle.overlay_geometry.specs.Points.{Point}
use Rattle.overlay_base.specs.declared.overlay_core.fill_rule.FillRule.{FillRule}
use Rattle.overlay_base.specs.declared.segm.fault.Fault.TheVariants.{Memory, CountOutOfRange}
use Rattle.overlay_base.specs.declared.segm.shape_type.ShapeType.TheVariants.{Subject, Clip}
use Rattle.overlay_contours.specs.declared.fault.ContourFault.TheVariants as contour
use Rattle.overlay_relations.specs.Refusals.{IsRefusal}
use Rattle.overlay_relations.specs.declared.fault.RelationFault.{RelationFault}
use Rattle.overlay_relations.specs.declared.fault.RelationFault.TheVariants.{NotExact, Refused as RefusedRelation}
use Rattle.overlay_text.specs.declared.stop.Stop.{Stop}
use Rattle.overlay_text.specs.declared.stop.Stop.TheVariants.{Refused}
use Rattle.polygons.specs.ContourText.{GivenContour, subject_of, clip_of}
use Rattle.polygons.specs.RelationText.{stop_of, IsRelationText, IsGivenRelation}

-- why there is no text of a relation that was refused
pub relation_stop : (least greatest : ℤ) (fill_rule : FillRule) (subject clip : List (List Point)) (fault : RelationFault) → IsRefusal least greatest fill_rule fill_rule subject clip fault
    → (stop_of fault ≡ Refused Memory) ⊎ IsRelationText fill_rule subject clip (Err (stop_of fault))
relation_stop least greatest fill_rule subject clip (NotExact Subject) r = inr (inr (inl (r.2, refl)))
relation_stop least greatest fill_rule subject clip (NotExact Clip) r = inr (inr (inr (inl (r.2, refl))))
relation_stop least greatest fill_rule subject clip (RefusedRelation (contour.OutOfRange shape_type index point)) r = inl refl
relation_stop least greatest fill_rule subject clip (RefusedRelation (contour.Refused Memory)) r = inl refl
relation_stop least greatest fill_rule subject clip (RefusedRelation (contour.Refused CountOutOfRange)) r = inr (inr (inr (inr (r.2, refl))))

module _ (fill_rule : FillRule) (given : List GivenContour) (subject clip : List (List Point)) (es : subject ≡ subject_of given) (ec : clip ≡ clip_of given) where
  pub given_relation : (answer : Result (List _) Stop) → IsRelationText fill_rule subject clip answer → IsGivenRelation fill_rule given answer
  given_relation answer h =
      subst (λ (l : List (List Point)). IsRelationText fill_rule l (clip_of given) answer) es (subst (λ (l : List (List Point)). IsRelationText fill_rule subject l answer) ec h)
