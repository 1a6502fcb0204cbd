-- What an overlay of contours in range reports, and from its refusals to those of relations.
use Rattle.std.proofs.Common.{◌≡◌, ap, refl, sym, subst, ◌∙◌, inl, ℕ, List, [], ◌∷◌, ◌++◌, arith}
use Rattle.std.specs.Prelude.{ℤ, IsTrue, IsFalse, Bool, true, false, if◌then◌else◌}
use Rattle.std.specs.List.{list_all}
use Rattle.std.proofs.lemmas.Bool.{both_ways}
use Rattle.overlay_geometry.specs.Coordinates.{is_point_in_range}
use Rattle.overlay_geometry.specs.Points.{Point}
use Rattle.overlay_geometry.proofs.laws.lists.Lists.{Has, Has-append_right, list_all-at}
use Rattle.overlay_base.specs.Join.{join}
use Rattle.overlay_base.specs.Segments.{WholeSegment}
use Rattle.overlay_base.specs.declared.overlay_core.fill_rule.FillRule.{FillRule}
use Rattle.overlay_base.specs.declared.overlay_core.overlay_rule.OverlayRule.{OverlayRule}
use Rattle.overlay_base.specs.declared.overlay_core.solver.Solver.{Solver}
use Rattle.overlay_base.specs.declared.segm.fault.Fault.{Fault}
use Rattle.overlay_base.specs.declared.segm.fault.Fault.TheVariants.{Memory, CountOutOfRange}
use Rattle.overlay_base.specs.declared.segm.shape_type.ShapeType.{ShapeType}
use Rattle.overlay_base.specs.declared.segm.shape_type.ShapeType.TheVariants.{Subject, Clip}
use Rattle.overlay_intersections.specs.PassMarks.{is_rounded}
use Rattle.overlay_snapping.specs.SnapOf.{reach_of_snap}
use Rattle.overlay_contours.specs.Beyond.{IsOverlayBeyond, AreOfSplitting}
use Rattle.overlay_contours.specs.ContourSegments.{overlay_segments, are_in_range}
use Rattle.overlay_contours.specs.Refusals.{IsReason, IsContourRefusal}
use Rattle.overlay_contours.specs.Splittings.{by_snapping, splitting_for}
use Rattle.overlay_contours.specs.declared.fault.ContourFault.{ContourFault}
use Rattle.overlay_contours.specs.declared.fault.ContourFault.TheVariants.{OutOfRange, Refused as RefusedContours}
use Rattle.overlay_contours.specs.declared.rounding.Rounding.{Rounding}
use Rattle.overlay_contours.specs.declared.rounding.Rounding.TheVariants.{HotPixels}
use Rattle.overlay_relations.specs.Boundaries.{has_inexact_crossing, IsBoundaryOf}
use Rattle.overlay_relations.specs.Refusals.{IsOverlayRefusal, IsReasonFor, IsRefusal, of_subject, of_clip, of_boundaries}
use Rattle.overlay_relations.specs.declared.fault.RelationFault.{RelationFault}
use Rattle.overlay_relations.specs.declared.fault.RelationFault.TheVariants.{NotExact, Refused}
use Rattle.overlay_relations.specs.steps.Outcomes.{IsBoundaryRefusal}

-- ---- what an overlay reports

no_reach : (given : List WholeSegment) → reach_of_snap given ≡ 0 → is_rounded (join given) ≡ false
unfolding reach_of_snap
no_reach given e = by (is_rounded (join given)) e
  where
    by : (b : Bool) → (let n : ℕ = if b then 1 else 0 in n) ≡ 0 → b ≡ false
    by true e = absurd (omega (arith, e))
    by false e = refl

some_reach : (given : List WholeSegment) → (reach_of_snap given ≡ 0 → ⊥) → is_rounded (join given) ≡ true
unfolding reach_of_snap
some_reach given e = by (is_rounded (join given)) e
  where
    by : (b : Bool) → ((let n : ℕ = if b then 1 else 0 in n) ≡ 0 → ⊥) → b ≡ true
    by true e = refl
    by false e = absurd (e refl)

-- Two lists of contours, and those that an overlay by snap rounding keeps.
module _ (first second kept other : List (List Point)) (rounding : Rounding) (bits : ℕ) (solver : Solver) (ek : kept ≡ first) (eo : other ≡ second) (er : rounding ≡ HotPixels) where
  reach_is : (passes halves : ℕ) → AreOfSplitting (splitting_for rounding bits solver) kept other passes halves → halves ≡ reach_of_snap (overlay_segments first second)
  reach_is passes halves are =
      let by_snaps = subst (λ (r : Rounding). AreOfSplitting (splitting_for r bits solver) kept other passes halves) er are in
      subst (λ (c : List (List Point)). halves ≡ reach_of_snap (overlay_segments c second)) ek (subst (λ (c : List (List Point)). halves ≡ reach_of_snap (overlay_segments kept c)) eo by_snaps.1.reach)

  pub exact_where_none : (passes halves : ℕ) → AreOfSplitting (splitting_for rounding bits solver) kept other passes halves → halves ≡ 0 → IsFalse (has_inexact_crossing first second)
  exact_where_none passes halves are e = no_reach (overlay_segments first second) (sym (reach_is passes halves are) ∙ e)

  pub inexact_where_some : (passes halves : ℕ) → AreOfSplitting (splitting_for rounding bits solver) kept other passes halves → (halves ≡ 0 → ⊥) → IsTrue (has_inexact_crossing first second)
  inexact_where_some passes halves are some = some_reach (overlay_segments first second) (λ e. some (reach_is passes halves are ∙ e))

  pub overlay_where_none : (rule : OverlayRule) (fill_rule : FillRule) (region : List (List Point)) (halves : ℕ) → IsOverlayBeyond halves rule fill_rule kept other region → halves ≡ 0 → IsOverlayBeyond 0 rule fill_rule first second region
  overlay_where_none rule fill_rule region halves beyond none =
      subst (λ (c : List (List Point)). IsOverlayBeyond 0 rule fill_rule c second region) ek
      (subst (λ (c : List (List Point)). IsOverlayBeyond 0 rule fill_rule kept c region) eo
      (subst (λ (n : ℕ). IsOverlayBeyond n rule fill_rule kept other region) none beyond))

  pub overlay_refuses : (fault : Fault) → IsReason (splitting_for rounding bits solver) kept other fault → IsOverlayRefusal first second (RefusedContours fault)
  overlay_refuses fault reason =
      subst (λ (c : List (List Point)). IsReason by_snapping c second fault) ek
      (subst (λ (c : List (List Point)). IsReason by_snapping kept c fault) eo
      (subst (λ (r : Rounding). IsReason (splitting_for r bits solver) kept other fault) er reason))

-- ---- contours in range

-- one of contours in range is in range
pub one_in_range : (least greatest : ℤ) (contours earlier later : List (List Point)) (contour : List Point) → IsTrue (are_in_range least greatest contours) → contours ≡ earlier ++ contour ∷ later
    → IsTrue (list_all (is_point_in_range least greatest) contour)
one_in_range least greatest contours earlier later contour h e =
    list_all-at (λ (l : List Point). list_all (is_point_in_range least greatest) l) contours contour h
    (subst (λ (l : List (List Point)). Has l contour) (sym e) (Has-append_right earlier (contour ∷ later) contour (inl refl)))

-- a contour in range is refused for want of memory alone
pub only_memory : (least greatest : ℤ) (shape_type : ShapeType) (kept : List (List Point)) (points : List Point) (cause : ContourFault) → IsTrue (list_all (is_point_in_range least greatest) points)
    → IsContourRefusal least greatest shape_type kept points cause → cause ≡ RefusedContours Memory
only_memory least greatest shape_type kept points (OutOfRange named contour point) h r =
    let first = r.2 in
    let there : Has points first.point = subst (λ (l : List Point). Has l first.point) (sym first.points_are) (Has-append_right first.earlier (first.point ∷ first.later) first.point (inl refl)) in
    absurd (both_ways _ first.out_of_range (list_all-at (is_point_in_range least greatest) points first.point h there))
only_memory least greatest shape_type kept points (RefusedContours fault) h r = ap RefusedContours r.1

-- ---- refusals of relations

module _ (least greatest : ℤ) (subject_rule clip_rule : FillRule) (subject clip : List (List Point)) (s : IsTrue (are_in_range least greatest subject)) (c : IsTrue (are_in_range least greatest clip)) where
  reason_of_subject : (fault : Fault) → IsReason by_snapping subject [] fault → IsReasonFor subject_rule clip_rule subject clip fault
  reason_of_subject Memory r = tt
  reason_of_subject CountOutOfRange r = of_subject r

  reason_of_clip : (fault : Fault) → IsReason by_snapping clip [] fault → IsReasonFor subject_rule clip_rule subject clip fault
  reason_of_clip Memory r = tt
  reason_of_clip CountOutOfRange r = of_clip r

  reason_of_boundaries : (first second : List (List Point)) → IsBoundaryOf subject_rule subject first → IsBoundaryOf clip_rule clip second → (fault : Fault) → IsReason by_snapping first second fault
      → IsReasonFor subject_rule clip_rule subject clip fault
  reason_of_boundaries first second a b Memory r = tt
  reason_of_boundaries first second a b CountOutOfRange r = of_boundaries first second a b r

  pub subject_refuses : (fault : RelationFault) → IsBoundaryRefusal Subject subject fault → IsRefusal least greatest subject_rule clip_rule subject clip fault
  subject_refuses (NotExact named) r = subst (λ (n : ShapeType). IsRefusal least greatest subject_rule clip_rule subject clip (NotExact n)) (sym r.0) (s, c, r.1)
  subject_refuses (Refused (OutOfRange shape_type contour point)) r = absurd r
  subject_refuses (Refused (RefusedContours fault)) r = (s, c, reason_of_subject fault r)

  pub clip_refuses : IsFalse (has_inexact_crossing subject []) → (fault : RelationFault) → IsBoundaryRefusal Clip clip fault → IsRefusal least greatest subject_rule clip_rule subject clip fault
  clip_refuses exact (NotExact named) r = subst (λ (n : ShapeType). IsRefusal least greatest subject_rule clip_rule subject clip (NotExact n)) (sym r.0) (s, c, (exact, r.1))
  clip_refuses exact (Refused (OutOfRange shape_type contour point)) r = absurd r
  clip_refuses exact (Refused (RefusedContours fault)) r = (s, c, reason_of_clip fault r)

  pub boundaries_refuse : (first second : List (List Point)) → IsBoundaryOf subject_rule subject first → IsBoundaryOf clip_rule clip second → (cause : ContourFault) → IsOverlayRefusal first second cause
      → IsRefusal least greatest subject_rule clip_rule subject clip (Refused cause)
  boundaries_refuse first second a b (OutOfRange shape_type contour point) r = absurd r
  boundaries_refuse first second a b (RefusedContours fault) r = (s, c, reason_of_boundaries first second a b fault r)
