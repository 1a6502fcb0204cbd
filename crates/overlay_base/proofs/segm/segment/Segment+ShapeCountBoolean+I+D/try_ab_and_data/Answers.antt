use Rattle.std.proofs.Common.{◌≡◌, refl, sym, subst, ◌∙◌, rules, true, IsTrue}
use Rattle.std.proofs.lemmas.Bool.{both_ways}
use Rattle.overlay_geometry.specs.Points.{point_eq}
use Rattle.overlay_geometry.specs.PointOf.{point_of}
use Rattle.overlay_base.specs.Windings.{Winding, is_valid}
use Rattle.overlay_base.specs.BooleanWinding.{boolean_made}
use Rattle.overlay_base.specs.ShapeWindings.{direct_winding}
use Rattle.overlay_base.specs.declared.segm.shape_type.ShapeType.{ShapeType}
use Rattle.overlay_base.specs.declared.segm.shape_type.ShapeType.TheVariants.{Subject, Clip}
use Rattle.overlay_geometry.proofs.laws.geometry.Comparisons.{whole_eq}
use Rattle.overlay_geometry.proofs.laws.geometry.Points.{same_by_eq, not_same, point_eq-parts}
use Rattle.overlay_base.proofs.segm.segment.Segment+ShapeCountBoolean+I+D.try_ab_and_data.Goals as goal

direct_is_valid : (shape_type : ShapeType) → IsTrue (is_valid (direct_winding boolean_made shape_type))
direct_is_valid Subject = refl
direct_is_valid Clip = refl

pub eq-requires : goal.eq-requires
eq-requires g c κs = search rules

pub returns-then-eq-clause-none : goal.returns-then-eq-clause-none
returns-then-eq-clause-none g c =
    let a = point_of g.I.OverlayInt.whole c.args.a in
    let b = point_of g.I.OverlayInt.whole c.args.b in
    let same : point_eq a b ≡ c.eq.result = point_eq-parts a b ∙ sym (simp (whole_eq g.I.PartialEq.eq g.I.Ord.cmp g.I.OverlayInt.whole g.met.I.Ord.matches_eq g.met.I.OverlayInt.ordered) at c.eq.ensures) in
    (λ _. same_by_eq a b (same ∙ c.if-eq.true), λ _. refl)

pub returns-then-eq-clause-segment : goal.returns-then-eq-clause-segment
returns-then-eq-clause-segment g c = search rules

pub returns-then-eq-clause-store : goal.returns-then-eq-clause-store
returns-then-eq-clause-store g c = search rules

pub returns-then-eq-clause-store_unchanged : goal.returns-then-eq-clause-store_unchanged
returns-then-eq-clause-store_unchanged g c = search rules

pub create_and_validate_with_data-requires-clause-ends : goal.create_and_validate_with_data-requires-clause-ends
create_and_validate_with_data-requires-clause-ends g c =
    let a = point_of g.I.OverlayInt.whole c.args.a in
    let b = point_of g.I.OverlayInt.whole c.args.b in
    let same : point_eq a b ≡ c.eq.result = point_eq-parts a b ∙ sym (simp (whole_eq g.I.PartialEq.eq g.I.Ord.cmp g.I.OverlayInt.whole g.met.I.Ord.matches_eq g.met.I.OverlayInt.ordered) at c.eq.ensures) in
    not_same a b (same ∙ c.if-eq.false)

pub create_and_validate_with_data-requires-clause-valid : goal.create_and_validate_with_data-requires-clause-valid
create_and_validate_with_data-requires-clause-valid g c = λ _. subst (λ (w : Winding). IsTrue (is_valid w)) (sym c.direct_count-count.ensures) (direct_is_valid c.args.shape_type)

pub returns-clause-none : goal.returns-clause-none
returns-clause-none g c =
    let a = point_of g.I.OverlayInt.whole c.args.a in
    let b = point_of g.I.OverlayInt.whole c.args.b in
    let same : point_eq a b ≡ c.eq.result = point_eq-parts a b ∙ sym (simp (whole_eq g.I.PartialEq.eq g.I.Ord.cmp g.I.OverlayInt.whole g.met.I.Ord.matches_eq g.met.I.OverlayInt.ordered) at c.eq.ensures) in
    (λ e. absurd (both_ways true e refl), λ e. absurd (not_same a b (same ∙ c.if-eq.false) e))

pub returns-clause-segment : goal.returns-clause-segment
returns-clause-segment g c = rw (← c.direct_count-count.ensures) c.create_and_validate_with_data.ensures.segment

pub returns-clause-store : goal.returns-clause-store
returns-clause-store g c = rw (← c.direct_count-count.ensures) c.create_and_validate_with_data.ensures.store

pub returns-clause-store_unchanged : goal.returns-clause-store_unchanged
returns-clause-store_unchanged g c = search rules
