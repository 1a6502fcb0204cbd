-- From the boundaries of two shapes to their relations.
use Rattle.std.proofs.Common.{◌≡◌, ap, refl, sym, subst, ◌∙◌, ℕ, suc, inl, inr, [], ◌∷◌, length, arith}
use Rattle.std.specs.Prelude.{◌↔◌, ◌==◌, IsTrue, Bool, true, false, not, ◌||◌, List, map}
use Rattle.std.proofs.lemmas.Bool.{both_ways, cases_Bool, and_from, and_parts, or_cases, not-true}
use Rattle.overlay_geometry.specs.Points.{Point}
use Rattle.overlay_base.specs.Rules.{differ, holds}
use Rattle.overlay_base.specs.declared.overlay_core.fill_rule.FillRule.{FillRule}
use Rattle.overlay_base.specs.declared.overlay_core.fill_rule.FillRule.TheVariants.{NonZero}
use Rattle.overlay_base.specs.declared.overlay_core.overlay_rule.OverlayRule.{OverlayRule}
use Rattle.overlay_base.specs.declared.overlay_core.overlay_rule.OverlayRule.TheVariants.{Intersect, Difference, InverseDifference, Xor}
use Rattle.overlay_contours.specs.Beyond.{IsOverlayBeyond}
use Rattle.overlay_relations.specs.Boundaries.{IsBoundaryOf}
use Rattle.overlay_relations.specs.Crossings.{HaveCrossingEdges}
use Rattle.overlay_relations.specs.Relations.{HasPoint, HoldsSomewhere, InteriorsMeet, Covers, IsWithin, AreSameRegion, is_in}
use Rattle.overlay_relations.proofs.laws.CrossingEdges.{crossing_boundaries_meet}
use Rattle.overlay_relations.proofs.laws.ExactRegions.{exact_boundaries_decide}

-- ---- whether a rule holds somewhere

of_point : (rule : OverlayRule) (subject_rule clip_rule : FillRule) (subject clip : List (List Point)) (in_subject in_clip : Bool) → IsTrue (holds rule in_subject in_clip) → HasPoint subject_rule clip_rule subject clip in_subject in_clip
    → HoldsSomewhere rule subject_rule clip_rule subject clip
of_point rule subject_rule clip_rule subject clip in_subject in_clip h p = record {
  point = p.point;
  some = p.some;
  off_edges = p.off_edges;
  here = subst (λ (s : Bool). IsTrue (holds rule s (is_in clip_rule clip p.point))) (sym p.of_subject) (subst (λ (c : Bool). IsTrue (holds rule in_subject c)) (sym p.of_clip) h);
}

module _ (rule : OverlayRule) (subject_rule clip_rule : FillRule) (subject clip first second : List (List Point)) (a : IsBoundaryOf subject_rule subject first) (b : IsBoundaryOf clip_rule clip second) where
  -- beside a crossing are points of all kinds, so each rule that is true of some kind holds somewhere
  pub holds_at_crossing : HaveCrossingEdges first second → IsTrue (holds rule true true || holds rule true false || holds rule false true) → HoldsSomewhere rule subject_rule clip_rule subject clip
  holds_at_crossing crossing inside = elim (or_cases (holds rule true true || holds rule true false) (holds rule false true) inside) [
    | inl h ↦ elim (or_cases (holds rule true true) (holds rule true false) h) [
      | inl k ↦ of true true k
      | inr k ↦ of true false k
    ]
    | inr h ↦ of false true h
  ]
    where
      of : (in_subject in_clip : Bool) → IsTrue (holds rule in_subject in_clip) → HoldsSomewhere rule subject_rule clip_rule subject clip
      of in_subject in_clip h = of_point rule subject_rule clip_rule subject clip in_subject in_clip h (crossing_boundaries_meet subject_rule clip_rule subject clip first second a b crossing in_subject in_clip)

  -- without one it holds somewhere exactly if the overlay of the boundaries is not empty
  pub holds_by_region : (region : List (List Point)) → holds rule false false ≡ false → IsOverlayBeyond 0 rule NonZero first second region → (empty : Bool) → (empty ≡ true → region ≡ []) → (empty ≡ false → region ≡ [] → ⊥)
      → (not empty ≡ true) ↔ HoldsSomewhere rule subject_rule clip_rule subject clip
  holds_by_region region outside overlay true none some = (λ h. absurd (both_ways false refl h), λ h. absurd ((exact_boundaries_decide rule subject_rule clip_rule subject clip first second region outside a b overlay).0 (none refl) h))
  holds_by_region region outside overlay false none some = (λ h. (exact_boundaries_decide rule subject_rule clip_rule subject clip first second region outside a b overlay).1 (some refl), λ h. refl)

-- whether a list is empty, and so the list of its images
not_none : (n : ℕ) → (suc n == 0) ≡ false
not_none n = grind arith

pub none_in : {X Y : Type 0} (f : X → Y) (xs : List X) (empty : Bool) → empty ≡ (length xs == 0) → empty ≡ true → map f xs ≡ []
none_in f [] empty e h = refl
none_in f (x ∷ xs) empty e h = absurd (both_ways empty (e ∙ not_none (length xs)) h)

pub some_in : {X Y : Type 0} (f : X → Y) (xs : List X) (empty : Bool) → empty ≡ (length xs == 0) → empty ≡ false → map f xs ≡ [] → ⊥
some_in f [] empty e h k = both_ways empty h e
some_in f (x ∷ xs) empty e h k = absurd (cc)

-- ---- relations by rules

found_none : (found : Bool) (P : Type 0) → ((found ≡ true) ↔ P) → not found ≡ true → P → ⊥
found_none found P i h p = both_ways found (not-true found h) (i.1 p)

none_found : (found : Bool) (P : Type 0) → ((found ≡ true) ↔ P) → (P → ⊥) → not found ≡ true
none_found true P i h = absurd (h (i.0 refl))
none_found false P i h = refl

same_or_differ : (a b : Bool) → (differ a b ≡ true → ⊥) → a ≡ b
same_or_differ true true h = refl
same_or_differ true false h = absurd (h refl)
same_or_differ false true h = absurd (h refl)
same_or_differ false false h = refl

not_both : (a b : Bool) → differ a b ≡ true → a ≡ b → ⊥
not_both true true h e = both_ways false refl h
not_both true false h e = both_ways true e refl
not_both false true h e = both_ways true (sym e) refl
not_both false false h e = both_ways false refl h

module _ (subject_rule clip_rule : FillRule) (subject clip : List (List Point)) (found : Bool) where
  pub meeting : ((found ≡ true) ↔ HoldsSomewhere Intersect subject_rule clip_rule subject clip) → (found ≡ true) ↔ InteriorsMeet subject_rule clip_rule subject clip
  meeting i = (
    λ h.
        let p = i.0 h in
        let both = and_parts (is_in subject_rule subject p.point) (is_in clip_rule clip p.point) p.here in
        record { point = p.point; some = p.some; off_edges = p.off_edges; of_subject = both.0; of_clip = both.1 },
    λ h. i.1 (of_point Intersect subject_rule clip_rule subject clip true true refl h),
  )

  pub covering : ((found ≡ true) ↔ HoldsSomewhere InverseDifference subject_rule clip_rule subject clip) → (not found ≡ true) ↔ Covers subject_rule clip_rule subject clip
  covering i = (
    λ h p some far in_clip. elim (cases_Bool (is_in subject_rule subject p)) [
      | inl e ↦ e
      | inr e ↦ absurd (found_none found _ i h (record { point = p; some = some; off_edges = far; here = and_from (is_in clip_rule clip p) (not (is_in subject_rule subject p)) in_clip (ap not e) }))
    ],
    λ all. none_found found _ i (λ p.
        let parts = and_parts (is_in clip_rule clip p.point) (not (is_in subject_rule subject p.point)) p.here in
        both_ways (is_in subject_rule subject p.point) (not-true _ parts.1) (all p.point p.some p.off_edges parts.0)),
  )

  pub lying_within : ((found ≡ true) ↔ HoldsSomewhere Difference subject_rule clip_rule subject clip) → (not found ≡ true) ↔ IsWithin subject_rule clip_rule subject clip
  lying_within i = (
    λ h p some far in_subject. elim (cases_Bool (is_in clip_rule clip p)) [
      | inl e ↦ e
      | inr e ↦ absurd (found_none found _ i h (record { point = p; some = some; off_edges = far; here = and_from (is_in subject_rule subject p) (not (is_in clip_rule clip p)) in_subject (ap not e) }))
    ],
    λ all. none_found found _ i (λ p.
        let parts = and_parts (is_in subject_rule subject p.point) (not (is_in clip_rule clip p.point)) p.here in
        both_ways (is_in clip_rule clip p.point) (not-true _ parts.1) (all p.point p.some p.off_edges parts.0)),
  )

  pub being_same : ((found ≡ true) ↔ HoldsSomewhere Xor subject_rule clip_rule subject clip) → (not found ≡ true) ↔ AreSameRegion subject_rule clip_rule subject clip
  being_same i = (
    λ h p some far. same_or_differ (is_in subject_rule subject p) (is_in clip_rule clip p) (λ d. found_none found _ i h (record { point = p; some = some; off_edges = far; here = d })),
    λ all. none_found found _ i (λ p. not_both (is_in subject_rule subject p.point) (is_in clip_rule clip p.point) p.here (all p.point p.some p.off_edges)),
  )
