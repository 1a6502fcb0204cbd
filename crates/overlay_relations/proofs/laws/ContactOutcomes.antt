-- From the arrangement of two boundaries to the contact of their shapes.
use Rattle.std.proofs.Common.{◌≡◌, refl, subst, ℕ, inl, inr, List, []}
use Rattle.std.specs.Prelude.{IsTrue, Bool, true, ◌↔◌, Contains}
use Rattle.std.specs.List.{list_all}
use Rattle.std.proofs.lemmas.Bool.{and_parts, and_from}
use Rattle.std.proofs.lemmas.List.Elements.{All-contains}
use Rattle.overlay_geometry.specs.Meeting.{are_apart}
use Rattle.overlay_geometry.specs.Points.{Point, Pair}
use Rattle.overlay_geometry.proofs.laws.lists.Elements.{Contains-from_Has, Has-from_Contains}
use Rattle.overlay_geometry.proofs.laws.lists.Lists.{Has, list_all-from_Has}
use Rattle.overlay_base.specs.Segments.{WholeSegment, pairs, is_map}
use Rattle.overlay_base.specs.Planar.{is_planar}
use Rattle.overlay_base.specs.declared.overlay_core.fill_rule.FillRule.{FillRule}
use Rattle.overlay_base.specs.declared.overlay_core.fill_rule.FillRule.TheVariants.{NonZero}
use Rattle.overlay_base.specs.declared.overlay_core.overlay_rule.OverlayRule.{OverlayRule}
use Rattle.overlay_base.specs.declared.overlay_core.solver.Solver.{Solver}
use Rattle.overlay_base.specs.declared.overlay_core.overlay_rule.OverlayRule.TheVariants.{Subject, Clip, Intersect}
use Rattle.overlay_cuts.proofs.laws.planar.PlanarPasses.{is_planar-each}
use Rattle.overlay_contours.specs.Beyond.{IsOverlayBeyond}
use Rattle.overlay_contours.specs.Contours.{edges}
use Rattle.overlay_contours.specs.ContourSegments.{overlay_segments}
use Rattle.overlay_contours.specs.Polygons.{IsPolygonOverlay}
use Rattle.overlay_contours.specs.Arrangements.{IsOfContours}
use Rattle.overlay_contours.specs.Splittings.{by_snapping, splitting_for, IsArrangement}
use Rattle.overlay_contours.specs.declared.arranged.Arranged.{Arranged}
use Rattle.overlay_contours.specs.declared.rounding.Rounding.{Rounding}
use Rattle.overlay_contours.specs.declared.rounding.Rounding.TheVariants.{HotPixels}
use Rattle.overlay_contours.proofs.laws.Splittings.{left_is_one}
use Rattle.overlay_relations.specs.Boundaries.{has_inexact_crossing, IsBoundaryOf}
use Rattle.overlay_relations.specs.Crossings.{HaveCrossingEdges}
use Rattle.overlay_relations.specs.Contacts.{SharePoint, AreDisjoint, Touch}
use Rattle.overlay_relations.specs.ContactLaws.{HaveCommonPoint}
use Rattle.overlay_relations.specs.Relations.{is_in, HoldsSomewhere, InteriorsMeet}
use Rattle.overlay_relations.specs.declared.contacts.Contact.{Contact}
use Rattle.overlay_relations.specs.declared.contacts.Contact.TheVariants.{Apart, Touching, Meeting}
use Rattle.overlay_relations.specs.steps.ContactOutcomes.{IsContact, IsBoundaryContact}
use Rattle.overlay_relations.proofs.laws.Closeness.{close_itself}
use Rattle.overlay_relations.proofs.laws.Boundaries.{far_left, far_right, far_alone}
use Rattle.overlay_relations.proofs.laws.CrossingEdges.{crossing_boundaries_meet}
use Rattle.overlay_relations.proofs.laws.CrossingParts.{inexact_boundaries_cross}
use Rattle.overlay_relations.proofs.laws.ExactRegions.{exact_boundaries_decide}
use Rattle.overlay_relations.proofs.laws.SharedPoints.{common_points_decide}

-- ---- interiors that meet

module _ (subject_rule clip_rule : FillRule) (subject clip : List (List Point)) where
  -- a point inside both is shared
  pub meeting_shares : InteriorsMeet subject_rule clip_rule subject clip → SharePoint subject_rule clip_rule subject clip
  meeting_shares p = record {
    point = p.point;
    some = p.some;
    of_subject = λ n. record { point = p.point; some = p.some; closer = close_itself n p.point p.some; off_edges = far_alone p.point subject (far_left p.point _ _ p.off_edges); here = p.of_subject };
    of_clip = λ n. record { point = p.point; some = p.some; closer = close_itself n p.point p.some; off_edges = far_alone p.point clip (far_right p.point _ _ p.off_edges); here = p.of_clip };
  }

  holds_of : InteriorsMeet subject_rule clip_rule subject clip → HoldsSomewhere Intersect subject_rule clip_rule subject clip
  holds_of p = record { point = p.point; some = p.some; off_edges = p.off_edges; here = and_from (is_in subject_rule subject p.point) (is_in clip_rule clip p.point) p.of_subject p.of_clip }

  of_holds : HoldsSomewhere Intersect subject_rule clip_rule subject clip → InteriorsMeet subject_rule clip_rule subject clip
  of_holds p = let both = and_parts (is_in subject_rule subject p.point) (is_in clip_rule clip p.point) p.here in record { point = p.point; some = p.some; off_edges = p.off_edges; of_subject = both.0; of_clip = both.1 }

-- ---- boundaries

pub meet_at_crossing : (first second : List (List Point)) → HaveCrossingEdges first second → IsBoundaryContact first second Meeting
meet_at_crossing first second h subject_rule clip_rule subject clip a b = crossing_boundaries_meet subject_rule clip_rule subject clip first second a b h true true

-- so do boundaries that cross at a point that is not whole
pub meet_at_inexact : (first second : List (List Point)) → IsTrue (has_inexact_crossing first second) → IsBoundaryContact first second Meeting
meet_at_inexact first second h subject_rule clip_rule subject clip a b = meet_at_crossing first second (inexact_boundaries_cross subject_rule clip_rule subject clip first second a b h) subject_rule clip_rule subject clip a b

module _ (first second : List (List Point)) (segments : List WholeSegment) (passes halves : ℕ) (arranged : IsArrangement by_snapping (overlay_segments first second) segments passes halves) where
  -- the edges of what a rule makes of an arrangement are pairs of it
  edge_of : (rule : OverlayRule) (region : List (List Point)) → IsPolygonOverlay by_snapping rule NonZero first second region → (g : Pair) → Has (edges region) g → Has (pairs segments) g
  edge_of rule region o g m =
      subst (λ (l : List WholeSegment). Has (pairs l) g)
      (left_is_one by_snapping (overlay_segments first second) o.arrangement segments o.passes passes o.halves halves o.left arranged.left).0
      (Has-from_Contains (pairs o.arrangement) g (All-contains (Contains (pairs o.arrangement)) (edges region) g o.arranged (Contains-from_Has (edges region) g m)))

  -- so those of two rules share no more than ends
  pub edges_apart : (rule other : OverlayRule) (of_first of_second : List (List Point)) → IsPolygonOverlay by_snapping rule NonZero first second of_first → IsPolygonOverlay by_snapping other NonZero first second of_second
      → IsTrue (list_all (λ s. list_all (λ t. are_apart s t) (edges of_second)) (edges of_first))
  edges_apart rule other of_first of_second o i =
      let planar = (and_parts (is_map segments) (is_planar segments) arranged.planar).1 in
      list_all-from_Has (λ s. list_all (λ t. are_apart s t) (edges of_second)) (edges of_first) (λ g m.
      list_all-from_Has (λ t. are_apart g t) (edges of_second) (λ h k. is_planar-each segments planar g h (edge_of rule of_first o g m) (edge_of other of_second i h k)))

module _ (first second common of_first of_second : List (List Point)) (c : IsOverlayBeyond 0 Intersect NonZero first second common) where
  pub meet_by_common : (common ≡ [] → ⊥) → IsBoundaryContact first second Meeting
  meet_by_common some subject_rule clip_rule subject clip a b = of_holds subject_rule clip_rule subject clip ((exact_boundaries_decide Intersect subject_rule clip_rule subject clip first second common refl a b c).1 some)

  module _ (none : common ≡ []) (o : IsOverlayBeyond 0 Subject NonZero first second of_first) (i : IsOverlayBeyond 0 Clip NonZero first second of_second)
      (apart : IsTrue (list_all (λ s. list_all (λ t. are_apart s t) (edges of_second)) (edges of_first))) where
    not_meeting : (subject_rule clip_rule : FillRule) (subject clip : List (List Point)) → IsBoundaryOf subject_rule subject first → IsBoundaryOf clip_rule clip second → InteriorsMeet subject_rule clip_rule subject clip → ⊥
    not_meeting subject_rule clip_rule subject clip a b meet = (exact_boundaries_decide Intersect subject_rule clip_rule subject clip first second common refl a b c).0 none (holds_of subject_rule clip_rule subject clip meet)

    pub touch_by_point : HaveCommonPoint of_first of_second → IsBoundaryContact first second Touching
    touch_by_point point subject_rule clip_rule subject clip a b =
        ((common_points_decide subject_rule clip_rule subject clip first second of_first of_second a b o i apart).0 point, not_meeting subject_rule clip_rule subject clip a b)

    pub apart_without_point : (HaveCommonPoint of_first of_second → ⊥) → IsBoundaryContact first second Apart
    apart_without_point no_point subject_rule clip_rule subject clip a b share = elim ((common_points_decide subject_rule clip_rule subject clip first second of_first of_second a b o i apart).1 share) [
      | inl point ↦ no_point point
      | inr both ↦ not_meeting subject_rule clip_rule subject clip a b both
    ]

-- an arrangement of contours that an overlay keeps, as that of these contours
pub arranged_of_kept : (first second kept other : List (List Point)) (rounding : Rounding) (bits : ℕ) (solver : Solver) → kept ≡ first → other ≡ second → rounding ≡ HotPixels → {I : Type 0} {w : _} {o : _} {e : _} {p : _} (arranged : Arranged I w o e p)
    → IsOfContours (splitting_for rounding bits solver) NonZero kept other arranged → IsOfContours by_snapping NonZero first second arranged
arranged_of_kept first second kept other rounding bits solver ek eo er arranged is =
    subst (λ (c : List (List Point)). IsOfContours by_snapping NonZero c second arranged) ek
    (subst (λ (c : List (List Point)). IsOfContours by_snapping NonZero kept c arranged) eo
    (subst (λ (r : Rounding). IsOfContours (splitting_for r bits solver) NonZero kept other arranged) er is))

-- ---- what a contact says

module _ (subject_rule clip_rule : FillRule) (subject clip : List (List Point)) where
  pub touching : (contact : Contact) → IsContact subject_rule clip_rule subject clip contact → (told : Bool) → (told ≡ true) ↔ (contact ≡ Touching) → (told ≡ true) ↔ Touch subject_rule clip_rule subject clip
  touching Apart is told h = (λ t. absurd (cc (h.0 t)), λ touch. absurd (is touch.0))
  touching Touching is told h = (λ t. is, λ touch. h.1 refl)
  touching Meeting is told h = (λ t. absurd (cc (h.0 t)), λ touch. absurd (touch.1 is))

  pub lying_apart : (contact : Contact) → IsContact subject_rule clip_rule subject clip contact → (told : Bool) → (told ≡ true) ↔ (contact ≡ Apart) → (told ≡ true) ↔ AreDisjoint subject_rule clip_rule subject clip
  lying_apart Apart is told h = (λ t. is, λ apart. h.1 refl)
  lying_apart Touching is told h = (λ t. absurd (cc (h.0 t)), λ apart. absurd (apart is.0))
  lying_apart Meeting is told h = (λ t. absurd (cc (h.0 t)), λ apart. absurd (apart (meeting_shares subject_rule clip_rule subject clip is)))

  pub sharing : (contact : Contact) → IsContact subject_rule clip_rule subject clip contact → (told : Bool) → (told ≡ true) ↔ (contact ≡ Apart → ⊥) → (told ≡ true) ↔ SharePoint subject_rule clip_rule subject clip
  sharing Apart is told h = (λ t. absurd (h.0 t refl), λ share. absurd (is share))
  sharing Touching is told h = (λ t. is.0, λ share. h.1 (λ e. absurd (cc)))
  sharing Meeting is told h = (λ t. meeting_shares subject_rule clip_rule subject clip is, λ share. h.1 (λ e. absurd (cc)))
