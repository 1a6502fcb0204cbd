-- Snap rounding beside lines: it keeps the winding however near lines are, and lines stay within a half of where they are given.
use Rattle.std.proofs.Common.{◌≡◌, ◌⊎◌, inl, inr, refl, sym, ap, ap₂, subst, ◌∙◌, arith, ℕ, ◌+◌, ◌<◌, Bool, true, false, not, ◌&&◌, List}
use Rattle.std.specs.Prelude.{ℤ, pos, neg_ℤ, ◌+ℤ◌, IsTrue, Contains, nat_lt}
use Rattle.std.specs.List.{list_all}
use Rattle.std.specs.Ordering.{int_eq}
use Rattle.std.proofs.lemmas.Bool.{and_parts, both_ways, cases_Bool, not-false, ltb-true, lt-ltb}
use Rattle.std.proofs.lemmas.Int.{ints}
use Rattle.std.proofs.lemmas.Nat.{or_lt}
use Rattle.overlay_geometry.specs.Points.{Pair}
use Rattle.overlay_geometry.proofs.laws.integers.Tests.{eq-tested}
use Rattle.overlay_geometry.proofs.laws.lists.Lists.{AllByRecursion-from_list_all, AllByRecursion-weaker, list_all-from_AllByRecursion}
use Rattle.overlay_base.specs.Join.{join}
use Rattle.overlay_base.specs.Places.{winding_below}
use Rattle.overlay_base.specs.Segments.{WholeSegment, pairs, are_ordered}
use Rattle.overlay_base.specs.Windings.{Winding, add, empty, inverse}
use Rattle.overlay_base.proofs.laws.joins.Maps.{are_ordered-join}
use Rattle.overlay_base.proofs.laws.joins.Members.{counts-join}
use Rattle.overlay_cuts.specs.Nearness.{Fraction, point_along, LieNear, IsNearSome, reach_of_run, with_mask}
use Rattle.overlay_cuts.specs.Places.{IsFar, winds, that_wind}
use Rattle.overlay_cuts.specs.Run.{Settings, after_passes}
use Rattle.overlay_cuts.proofs.laws.nearness.Distances.{IsNear-from_point}
use Rattle.overlay_split.proofs.laws.nearness.NearKinds.{run_of_kind}
use Rattle.overlay_split.proofs.laws.nearness.NearLines.{cut_keeps_winding_near_lines}
use Rattle.overlay_split.proofs.laws.nearness.NearMasks.{cut_keeps_lines, run_keeps_lines}
use Rattle.overlay_split.proofs.laws.nearness.Nearness.{LieNear-trans}
use Rattle.overlay_cuts.proofs.laws.nearness.Places.{IsFlat, join_keeps_winding}
use Rattle.overlay_split.proofs.laws.nearness.Places.{IsFar-result}
use Rattle.overlay_snapping.specs.Chains.{IsSnapped}
use Rattle.overlay_snapping.specs.SnapOf.{reach_of_snap}
use Rattle.overlay_snapping.proofs.laws.chains.SnapRuns.{near_cuts}
use Rattle.i_overlay.specs.BesideLines.{WindsBeyondPolygons}
use Rattle.i_overlay.specs.Headline.{LinesStayWithin}
use Rattle.i_overlay.proofs.laws.SnapCuts.{snapped_by_cuts}

-- ---- a join of what winds, and of lines

-- the join is what a run without passes leaves
no_passes : Settings
no_passes = record { start = 0; progression = 0; cap = 0; limit = 0 }

flat_from : (c : Winding) → winds c ≡ false → IsFlat c
flat_from c h =
    let parts = and_parts (int_eq c.subj (pos 0)) (int_eq c.clip (pos 0)) (not-false _ h) in
    (eq-tested c.subj (pos 0) parts.0, eq-tested c.clip (pos 0) parts.1)

same_zero : (z : ℤ) → int_eq (neg_ℤ z) (pos 0) ≡ int_eq z (pos 0)
same_zero z = grind (arith, ints)

winds-inverse : (c : Winding) → winds (inverse c) ≡ winds c
winds-inverse c = ap₂ (λ (a b : Bool). not (a && b)) (same_zero c.subj) (same_zero c.clip)

-- a sum winds only where one of its parts does
of_two : (c d : Winding) → winds (add c d) ≡ true → (winds c ≡ true) ⊎ (winds d ≡ true)
of_two c d h = elim (cases_Bool (winds c)) [
  | inl k ↦ inl k
  | inr k ↦ elim (cases_Bool (winds d)) [
    | inl l ↦ inr l
    | inr l ↦ let p = flat_from c k in let q = flat_from d l in absurd (both_ways (winds empty) refl (subst (λ (e : Winding). winds e ≡ true) (both_flat c d p q) (winds-sum c d h)))
  ]
]
  where
    -- the mask does not count
    winds-sum : (c d : Winding) → winds (add c d) ≡ true → winds (record { subj = c.subj +ℤ d.subj; clip = c.clip +ℤ d.clip; mask = 0 }) ≡ true
    winds-sum c d h = h

    both_flat : (c d : Winding) → IsFlat c → IsFlat d → record { subj = c.subj +ℤ d.subj; clip = c.clip +ℤ d.clip; mask = 0 } ≡ empty
    both_flat c d p q = rw (p.0, p.1, q.0, q.1) refl

join_that_winds : (given : List WholeSegment) → IsTrue (are_ordered given) → LieNear 0 (pairs (that_wind given)) (pairs (that_wind (join given)))
unfolding after_passes reach_of_run
join_that_winds given o = run_of_kind winds refl (λ c w. sym (winds-inverse c) ∙ w) of_two no_passes given 0 o

join_of_lines : (given : List WholeSegment) → IsTrue (are_ordered given) → IsTrue (list_all (λ s. nat_lt s.count.mask 4) given) → LinesStayWithin 0 given (join given)
unfolding after_passes reach_of_run
join_of_lines given o small = let stay = run_keeps_lines no_passes given 0 o small in record { result_is_near = stay.result_is_near; given_is_near = stay.given_is_near }

small_join : (given : List WholeSegment) → IsTrue (list_all (λ s. nat_lt s.count.mask 4) given) → IsTrue (list_all (λ s. nat_lt s.count.mask 4) (join given))
small_join given small =
    let each = AllByRecursion-weaker (λ u. nat_lt u.count.mask 4 ≡ true) (λ u. u.count.mask < 4) (λ u t. ltb-true _ _ t) given (AllByRecursion-from_list_all (λ u. nat_lt u.count.mask 4) given small) in
    let joined = counts-join (λ c. c.mask < 4) (omega arith) (λ c d p q. or_lt 2 c.mask d.mask p q) given each in
    list_all-from_AllByRecursion (λ u. nat_lt u.count.mask 4) (join given) (AllByRecursion-weaker (λ u. u.count.mask < 4) (λ u. nat_lt u.count.mask 4 ≡ true) (λ u t. lt-ltb _ _ t) (join given) joined)

-- ---- snap rounding

module _ (given segments : List WholeSegment) (o : IsTrue (are_ordered given)) (snapped : IsSnapped (join given) segments) where
  none_more : (n : ℕ) → 0 + n ≡ n
  none_more n = omega arith

  pub snap_winds_beyond_polygons : WindsBeyondPolygons (reach_of_snap given) given segments
  snap_winds_beyond_polygons p far =
      let halves = reach_of_snap given in
      let cuts = snapped_by_cuts (join given) segments (are_ordered-join given o) snapped in
      let far' : IsFar halves p (pairs (that_wind (join given))) =
      IsFar-result 0 halves p (pairs (that_wind given)) (pairs (that_wind (join given))) (join_that_winds given o) (subst (λ n. IsFar n p (pairs (that_wind given))) (sym (none_more halves)) far) in
      ap (λ (l : List WholeSegment). winding_below l p) cuts.3
      ∙ cut_keeps_winding_near_lines halves cuts.0 (join given) p (are_ordered-join given o) (near_cuts given o cuts.0 cuts.1 cuts.2) far'
      ∙ join_keeps_winding given p

  pub snap_keeps_lines : IsTrue (list_all (λ s. nat_lt s.count.mask 4) given) → LinesStayWithin (reach_of_snap given) given segments
  snap_keeps_lines small =
      let halves = reach_of_snap given in
      let cuts = snapped_by_cuts (join given) segments (are_ordered-join given o) snapped in
      let first = join_of_lines given o small in
      let second = cut_keeps_lines halves cuts.0 (join given) (are_ordered-join given o) (small_join given small) (near_cuts given o cuts.0 cuts.1 cuts.2) in
      let left = subst (λ (l : List WholeSegment). LieNear halves (pairs (with_mask (join given))) (pairs (with_mask l))) (sym cuts.3) second.0 in
      let kept : (s : Pair) → Contains (pairs (with_mask (join given))) s → (f : Fraction) → IsNearSome halves (point_along s f) (pairs (with_mask segments)) =
      λ s i f. subst (λ (l : List WholeSegment). IsNearSome halves (point_along s f) (pairs (with_mask l))) (sym cuts.3) (second.1 s i f) in
      let all : LinesStayWithin (0 + halves) given segments = record {
        result_is_near = LieNear-trans 0 halves (pairs (with_mask given)) (pairs (with_mask (join given))) (pairs (with_mask segments)) first.result_is_near left;
        given_is_near = λ s i f. (
            let (r, j, (g, within)) = first.given_is_near s i f in
            let near = kept r j g in
            (near.0, near.1, IsNear-from_point 0 halves (point_along s f) (point_along r g) near.0 g.positive within near.2)
            );
      } in
      subst (λ (n : ℕ). LinesStayWithin n given segments) (none_more halves) all
