-- Why it is not known whether a relation of shapes in range holds.
use Rattle.std.proofs.Common.{◌≡◌, refl, sym, subst, ◌∙◌, inl, List, ◌∷◌}
use Rattle.std.specs.Prelude.{◌↔◌, ℤ, IsTrue, Bool, true, Result, IfOk, IfErr}
use Rattle.std.specs.List.{list_all}
use Rattle.std.proofs.lemmas.Bool.{both_ways}
use Rattle.std.proofs.lemmas.Result.{IfErr-weaker}
use Rattle.overlay_geometry.specs.Coordinates.{is_point_in_range}
use Rattle.overlay_geometry.specs.Points.{Point}
use Rattle.overlay_geometry.proofs.laws.lists.Lists.{Has, Has-append_right, list_all-at}
use Rattle.overlay_base.specs.declared.overlay_core.fill_rule.FillRule.{FillRule}
use Rattle.overlay_base.specs.declared.segm.shape_type.ShapeType.{ShapeType}
use Rattle.overlay_base.specs.declared.segm.shape_type.ShapeType.TheVariants.{Subject, Clip}
use Rattle.overlay_contours.specs.ContourSegments.{are_in_range, IsFirstOutside}
use Rattle.overlay_contours.specs.Refusals.{of_shape}
use Rattle.overlay_contours.specs.declared.fault.ContourFault.TheVariants as contour
use Rattle.overlay_relations.specs.Matrix.{entry, IsMatrix}
use Rattle.overlay_relations.specs.Refusals.{IsRefusal}
use Rattle.overlay_relations.specs.declared.matrix.Part.{Part}
use Rattle.overlay_relations.specs.declared.matrix.Relation.{Relation as PartsRelation}
use Rattle.overlay_relations.specs.declared.fault.RelationFault.{RelationFault}
use Rattle.overlay_relations.specs.declared.fault.RelationFault.TheVariants.{NotExact, Refused}
use Rattle.overlay_c.specs.Relations.{Holds, IsRelationRefusal}
use Rattle.overlay_c.specs.Matrices.{entry_by, IsMatrixBy}
use Rattle.overlay_c.specs.declared.relations.MatrixRecord.{MatrixRecord}
use Rattle.overlay_c.specs.declared.relations.Relation.{Relation}

-- of contours in range no point is the first one out of range
none_outside : (least greatest : ℤ) (contours : List (List Point)) (index point : _) → IsTrue (are_in_range least greatest contours) → IsFirstOutside least greatest contours index point → ⊥
none_outside least greatest contours index point h first =
    let contour = first.contour in
    let there : Has contours contour = subst (λ (l : List (List Point)). Has l contour) (sym first.contours_are) (Has-append_right first.earlier (contour ∷ first.later) contour (inl refl)) in
    let in_range = list_all-at (λ (l : List Point). list_all (is_point_in_range least greatest) l) contours contour h there in
    let at = first.outside in
    let point_there : Has contour at.point = subst (λ (l : List Point). Has l at.point) (sym at.points_are) (Has-append_right at.earlier (at.point ∷ at.later) at.point (inl refl)) in
    both_ways _ at.out_of_range (list_all-at (is_point_in_range least greatest) contour at.point in_range point_there)

module _ (least greatest : ℤ) (fill_rule : FillRule) (subject clip : List (List Point)) (s : IsTrue (are_in_range least greatest subject)) (c : IsTrue (are_in_range least greatest clip)) where
  none_of_shape : (shape_type : ShapeType) (index point : _) → IsFirstOutside least greatest (of_shape shape_type subject clip) index point → ⊥
  none_of_shape Subject index point first = none_outside least greatest subject index point s first
  none_of_shape Clip index point first = none_outside least greatest clip index point c first

  pub relation_refuses : (fault : RelationFault) → IsRefusal least greatest fill_rule fill_rule subject clip fault → IsRelationRefusal fill_rule subject clip fault
  relation_refuses (NotExact shape_type) r = r.2
  relation_refuses (Refused (contour.OutOfRange shape_type index point)) r = none_of_shape shape_type index point r
  relation_refuses (Refused (contour.Refused fault)) r = r.2

-- The same of contours that are those of an overlay, and what is said of a relation by its name.
module _ (fill_rule : FillRule) (subject clip given_subject given_clip : List (List Point)) (es : given_subject ≡ subject) (ec : given_clip ≡ clip) (result : Result Bool RelationFault) where
  pub relation_refuses_of : (least greatest : ℤ) → IsTrue (are_in_range least greatest given_subject) → IsTrue (are_in_range least greatest given_clip)
      → IfErr result (IsRefusal least greatest fill_rule fill_rule given_subject given_clip) → IfErr result (IsRelationRefusal fill_rule subject clip)
  relation_refuses_of least greatest s c h =
      subst (λ (l : List (List Point)). IfErr result (IsRelationRefusal fill_rule l clip)) es
      (subst (λ (l : List (List Point)). IfErr result (IsRelationRefusal fill_rule given_subject l)) ec
      (IfErr-weaker result (IsRefusal least greatest fill_rule fill_rule given_subject given_clip) (IsRelationRefusal fill_rule given_subject given_clip) (relation_refuses least greatest fill_rule given_subject given_clip s c) h))

  pub relation_holds_of : (relation named : Relation) → relation ≡ named → IfOk result (λ (h : Bool). (h ≡ true) ↔ Holds named fill_rule given_subject given_clip)
      → IfOk result (λ (h : Bool). (h ≡ true) ↔ Holds relation fill_rule subject clip)
  relation_holds_of relation named er h =
      subst (λ (r : Relation). IfOk result (λ (h : Bool). (h ≡ true) ↔ Holds r fill_rule subject clip)) (sym er)
      (subst (λ (l : List (List Point)). IfOk result (λ (h : Bool). (h ≡ true) ↔ Holds named fill_rule l clip)) es
      (subst (λ (l : List (List Point)). IfOk result (λ (h : Bool). (h ≡ true) ↔ Holds named fill_rule given_subject l)) ec h))

-- The entries of a record are those of the matrix of such contours.
pub matrix_of : (fill_rule : FillRule) (subject clip given_subject given_clip : List (List Point)) → given_subject ≡ subject → given_clip ≡ clip → (relation : PartsRelation) (m : MatrixRecord)
    → ((p q : Part) → entry_by m p q ≡ entry relation p q) → IsMatrix fill_rule fill_rule given_subject given_clip relation → IsMatrixBy fill_rule subject clip m
matrix_of fill_rule subject clip given_subject given_clip es ec relation m e is =
    subst (λ (l : List (List Point)). IsMatrixBy fill_rule l clip m) es
    (subst (λ (l : List (List Point)). IsMatrixBy fill_rule given_subject l m) ec (λ p q. (λ h. (is p q).0 (sym (e p q) ∙ h), λ h. e p q ∙ (is p q).1 h)))

-- and why there is none
pub matrix_refuses : (least greatest : ℤ) (fill_rule : FillRule) (subject clip given_subject given_clip : List (List Point)) → given_subject ≡ subject → given_clip ≡ clip → IsTrue (are_in_range least greatest given_subject)
    → IsTrue (are_in_range least greatest given_clip) → (fault : RelationFault) → IsRefusal least greatest fill_rule fill_rule given_subject given_clip fault → IsRelationRefusal fill_rule subject clip fault
matrix_refuses least greatest fill_rule subject clip given_subject given_clip es ec s c fault r =
    subst (λ (l : List (List Point)). IsRelationRefusal fill_rule l clip fault) es
    (subst (λ (l : List (List Point)). IsRelationRefusal fill_rule given_subject l fault) ec (relation_refuses least greatest fill_rule given_subject given_clip s c fault r))
