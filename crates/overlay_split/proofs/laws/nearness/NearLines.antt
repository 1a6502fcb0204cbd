-- Lines do not wind, so a run keeps the winding at a place however near they are to it: what winds after a pass is a piece of what wound before.
use Rattle.std.proofs.Common.{◌≡◌, ◌⊎◌, inl, inr, refl, sym, subst, ◌∙◌, arith, ℕ, zero, suc, ◌+◌, true, false, List}
use Rattle.std.specs.Prelude.{ℤ, pos, neg_ℤ, ◌+ℤ◌, not, ◌&&◌, IsTrue}
use Rattle.std.specs.Ordering.{int_eq}
use Rattle.std.proofs.lemmas.Int.{ints}
use Rattle.std.proofs.lemmas.Bool.{and_parts, both_ways, cases_Bool, not-false}
use Rattle.overlay_geometry.proofs.laws.integers.Tests.{eq-tested}
use Rattle.overlay_geometry.proofs.laws.lists.Lists.{Has-filter}
use Rattle.overlay_base.specs.Windings.{Winding, add, empty, inverse}
use Rattle.overlay_base.specs.Segments.{WholeSegment, pairs, are_ordered}
use Rattle.overlay_base.specs.Places.{RationalPoint}
use Rattle.overlay_base.proofs.laws.joins.Maps.{are_ordered-map}
use Rattle.overlay_split.specs.Laws.{CutKeepsWhatWinds, CutKeepsWindingNearLines, RunKeepsWindingNearLines}
use Rattle.overlay_cuts.specs.Nearness.{whole_point, IsNear, LieNear, reach_of_pass, reach_of_run}
use Rattle.overlay_cuts.specs.Places.{IsFar, winds, that_wind}
use Rattle.overlay_cuts.specs.Run.{Settings, placing_of_pass, after_passes}
use Rattle.overlay_split.proofs.laws.nearness.NearKinds.{pass_by_of_kind, run_of_kind}
use Rattle.overlay_cuts.proofs.laws.nearness.Places.{IsApartFrom, IsFlat, far_from, join_keeps_winding, pass_by_winds}
use Rattle.overlay_split.proofs.laws.nearness.Places.{IsFar-nearer, IsFar-result, pass_winds}
use Rattle.overlay_cuts.proofs.laws.paths.MarkedPairs.{EachMark-at}
use Rattle.overlay_cuts.proofs.laws.paths.Maps.{is_map-after_passes}

-- ---- counts that wind

flat_from : (c : Winding) → winds c ≡ false → IsFlat c
flat_from c h =
    let parts = and_parts (int_eq c.subj (pos 0)) (int_eq c.clip (pos 0)) (not-false _ h) in
    (eq-tested c.subj (pos 0) parts.0, eq-tested c.clip (pos 0) parts.1)

same_zero : (z : ℤ) → int_eq (neg_ℤ z) (pos 0) ≡ int_eq z (pos 0)
same_zero z = grind (arith, ints)

winds-inverse : (c : Winding) → winds (inverse c) ≡ winds c
winds-inverse c i = not (same_zero c.subj i && same_zero c.clip i)

-- a sum winds only where one of its parts does
of_two : (c d : Winding) → winds (add c d) ≡ true → (winds c ≡ true) ⊎ (winds d ≡ true)
of_two c d h = elim (cases_Bool (winds c)) [
  | inl k ↦ inl k
  | inr k ↦ elim (cases_Bool (winds d)) [
    | inl l ↦ inr l
    | inr l ↦ let p = flat_from c k in let q = flat_from d l in absurd (both_ways (winds empty) refl (subst (λ (e : Winding). winds e ≡ true) (both_flat c d p q) (winds-sum c d h)))
  ]
]
  where
    -- the mask does not count
    winds-sum : (c d : Winding) → winds (add c d) ≡ true → winds (record { subj = c.subj +ℤ d.subj; clip = c.clip +ℤ d.clip; mask = 0 }) ≡ true
    winds-sum c d h = h

    both_flat : (c d : Winding) → IsFlat c → IsFlat d → record { subj = c.subj +ℤ d.subj; clip = c.clip +ℤ d.clip; mask = 0 } ≡ empty
    both_flat c d p q = rw (p.0, p.1, q.0, q.1) refl

-- ---- a cut

pub cut_keeps_what_winds : CutKeepsWhatWinds
cut_keeps_what_winds h marks segments near = pass_by_of_kind winds refl (λ c w. sym (winds-inverse c) ∙ w) of_two h marks segments (EachMark-at (λ s m. IsNear h (whole_point m) s) marks segments near)

-- ---- a run

run_that_winds : (settings : Settings) (given : List WholeSegment) (k : ℕ) → IsTrue (are_ordered given) → LieNear (reach_of_run settings given k) (pairs (that_wind given)) (pairs (that_wind (after_passes settings given k)))
run_that_winds settings given k ordered = run_of_kind winds refl (λ c w. sym (winds-inverse c) ∙ w) of_two settings given k ordered

apart_from : (h : ℕ) (p : RationalPoint) (segments : List WholeSegment) → IsFar h p (pairs (that_wind segments)) → IsApartFrom h p segments
apart_from h p segments far s i = elim (cases_Bool (winds s.count)) [
  | inl w ↦ inl (far_from h p (that_wind segments) far s (Has-filter (λ t. winds t.count) segments s i w))
  | inr w ↦ inr (flat_from s.count w)
]

pub cut_keeps_winding_near_lines : CutKeepsWindingNearLines
cut_keeps_winding_near_lines h marks segments p ordered near far =
    pass_by_winds h marks segments p ordered (EachMark-at (λ s m. IsNear h (whole_point m) s) marks segments near) (apart_from h p segments far)

pub run_keeps_winding_near_lines : RunKeepsWindingNearLines
unfolding after_passes reach_of_run
run_keeps_winding_near_lines settings given zero ordered p far = join_keeps_winding given p
run_keeps_winding_near_lines settings given (suc k) ordered p far =
    let before = after_passes settings given k in
    let placing = placing_of_pass settings (suc k) in
    let so_far = reach_of_run settings given k in
    let more = reach_of_pass placing before in
    pass_winds placing before p (are_ordered-map before (is_map-after_passes settings given k ordered))
    (apart_from more p before (IsFar-result so_far more p (pairs (that_wind given)) (pairs (that_wind before)) (run_that_winds settings given k ordered) far))
    ∙ run_keeps_winding_near_lines settings given k ordered p (IsFar-nearer so_far (so_far + more) p (pairs (that_wind given)) (omega arith) far)
