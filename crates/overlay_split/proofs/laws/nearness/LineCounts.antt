-- The counts of lines have masks, which joins only add to: so nothing cancels, and every point of lines stays near.
use Rattle.std.proofs.Common.{◌≡◌, ◌⊎◌, inl, inr, refl, sym, ap, subst, ◌∙◌, arith, ℕ, zero, suc, ◌<◌, List, [], ◌∷◌, Bool, true, false, not, ◌&&◌}
use Rattle.std.specs.Prelude.{pos, IsTrue, nat_lt, ◌==◌}
use Rattle.std.specs.Ordering.{int_eq}
use Rattle.std.specs.List.{AllByRecursion}
use Rattle.std.proofs.lemmas.Bool.{and_parts, both_ways, false_from_ne_true, ltb-true, eqb-true}
use Rattle.std.proofs.lemmas.Nat.{le_or_l, le_or_r, or_lt}
use Rattle.overlay_geometry.specs.Points.{Pair}
use Rattle.overlay_base.specs.Windings.{Winding, empty, add, inverse, swap_directions, is_not_empty}
use Rattle.overlay_base.specs.Segments.{WholeSegment, pairs, winding_at}
use Rattle.overlay_base.specs.Join.{summed, join}
use Rattle.overlay_geometry.proofs.laws.lists.Lists.{Has, AllByRecursion-weaker, AllByRecursion-both, AllByRecursion-from_list_all, list_all-filter_itself}
use Rattle.overlay_base.proofs.laws.counts.Windings.{empty-add}
use Rattle.overlay_base.proofs.laws.joins.Bags.{count_at, winding_at-here, winding_at-cons}
use Rattle.overlay_base.proofs.laws.joins.Members.{counts-join}
use Rattle.overlay_intersections.specs.PassMarks.{marks_on}
use Rattle.overlay_cuts.specs.Pass.{pass, cut}
use Rattle.overlay_cuts.specs.Run.{Settings, placing_of_pass, after_passes}
use Rattle.overlay_cuts.specs.Nearness.{Cancels, joined_in, are_lines}
use Rattle.overlay_split.specs.Laws.{LinesAreKept}
use Rattle.overlay_cuts.proofs.laws.paths.PieceCounts.{counts-cut}
use Rattle.overlay_split.proofs.laws.nearness.Coverings.{run_keeps_near}
use Rattle.overlay_geometry.proofs.laws.lists.Elements.{Has-from_Contains}

-- a mask of two bits that is not 0
abbrev pub IsLine : Winding → Type 0
IsLine c = (0 < c.mask) × (c.mask < 4)

pub IsLine-inverse : (c : Winding) → IsLine c → IsLine (inverse c)
IsLine-inverse c h = turned c.mask h.0 h.1
  where
    turned : (m : ℕ) → 0 < m → m < 4 → (0 < swap_directions m) × (swap_directions m < 4)
    turned m p q = (omega (arith, p, q), omega (arith, p, q))

IsLine-add : (c d : Winding) → IsLine c → IsLine d → IsLine (add c d)
IsLine-add c d p q = let more = le_or_l c.mask d.mask in (omega (arith, p.0, more), or_lt 2 c.mask d.mask p.1 q.1)

pub is_not_empty-mask : (c : Winding) → 0 < c.mask → is_not_empty c ≡ true
is_not_empty-mask c h = plain (int_eq c.subj (pos 0)) (int_eq c.clip (pos 0)) c.mask h
  where
    plain : (a b : Bool) (m : ℕ) → 0 < m → not (a && b && (m == 0)) ≡ true
    plain true true m p = ap not (false_from_ne_true (m == 0) (λ e. let none = eqb-true m 0 e in omega (arith, none, p)))
    plain true false m p = refl
    plain false b m p = refl

-- ---- joins

-- nothing, or a line
abbrev IsLineOrNone : Winding → Type 0
IsLineOrNone c = (c ≡ empty) ⊎ IsLine c

IsLineOrNone-add : (c d : Winding) → IsLineOrNone c → IsLineOrNone d → IsLineOrNone (add c d)
IsLineOrNone-add c d (inl e) q = subst IsLineOrNone (sym (ap (λ (w : Winding). add w d) e ∙ empty-add d)) q
IsLineOrNone-add c d (inr p) (inl e) = inr (let more = le_or_l c.mask d.mask in let small : d.mask < 4 = subst (λ (w : Winding). w.mask < 4) (sym e) (omega arith) in (omega (arith, p.0, more), or_lt 2 c.mask d.mask p.1 small))
IsLineOrNone-add c d (inr p) (inr q) = inr (IsLine-add c d p q)

line_of : (c : Winding) → IsLineOrNone c → is_not_empty c ≡ true → IsLine c
line_of c (inl e) h = absurd (both_ways (is_not_empty empty) refl (subst (λ (w : Winding). is_not_empty w ≡ true) e h))
line_of c (inr p) h = p

abbrev AreLines : List WholeSegment → Type 0
AreLines segments = AllByRecursion (λ s. IsLine s.count) segments

lines-join : (bag : List WholeSegment) → AreLines bag → AreLines (join bag)
unfolding join
lines-join bag h =
    AllByRecursion-weaker (λ s. IsLineOrNone s.count × (is_not_empty s.count ≡ true)) (λ s. IsLine s.count) (λ s k. line_of s.count k.0 k.1) (join bag)
    (AllByRecursion-both (λ s. IsLineOrNone s.count) (λ s. is_not_empty s.count ≡ true) (join bag)
    (counts-join IsLineOrNone (inl refl) IsLineOrNone-add bag (AllByRecursion-weaker (λ s. IsLine s.count) (λ s. IsLineOrNone s.count) (λ s k. inr k) bag h))
    (AllByRecursion-from_list_all (λ s. is_not_empty s.count) (join bag) (list_all-filter_itself (λ s. is_not_empty s.count) (summed bag))))

lines_after : (settings : Settings) (given : List WholeSegment) (k : ℕ) → AreLines given → AreLines (after_passes settings given k)
unfolding after_passes pass
lines_after settings given zero h = lines-join given h
lines_after settings given (suc k) h =
    let placing = placing_of_pass settings (suc k) in
    let before = after_passes settings given k in
    lines-join (cut placing before) (counts-cut IsLine IsLine-inverse (marks_on placing before) before (lines_after settings given k h))

lines_joined : (settings : Settings) (given : List WholeSegment) (k : ℕ) → AreLines given → AreLines (joined_in settings given k)
unfolding joined_in
lines_joined settings given zero h = h
lines_joined settings given (suc k) h = counts-cut IsLine IsLine-inverse (marks_on (placing_of_pass settings (suc k)) (after_passes settings given k)) (after_passes settings given k) (lines_after settings given k h)

-- ---- nothing cancels

pub mask_stays : (bag : List WholeSegment) (r : Pair) → Has (pairs bag) r → AreLines bag → 0 < (winding_at bag r).mask
mask_stays [] r i h = absurd i
mask_stays (s ∷ bag) r (inl e) h =
    let here = ap (λ (w : Winding). w.mask) (winding_at-here s bag) in
    let more = le_or_l s.count.mask (winding_at bag s.pair).mask in
    let first : 0 < (winding_at (s ∷ bag) s.pair).mask = omega (arith, here, more, h.0.0) in
    subst (λ (q : Pair). 0 < (winding_at (s ∷ bag) q).mask) e first
mask_stays (s ∷ bag) r (inr i) h =
    let here = ap (λ (w : Winding). w.mask) (winding_at-cons s bag r) in
    let more = le_or_r (count_at r s).mask (winding_at bag r).mask in
    let later = mask_stays bag r i h.1 in
    omega (arith, here, more, later)

nothing_cancels : (bag : List WholeSegment) (r : Pair) → AreLines bag → Cancels bag r → ⊥
nothing_cancels bag r h (i, gone) = both_ways (is_not_empty (winding_at bag r)) gone (is_not_empty-mask (winding_at bag r) (mask_stays bag r (Has-from_Contains (pairs bag) r i) h))

lines_of : (given : List WholeSegment) → IsTrue (are_lines given) → AreLines given
lines_of given h =
    AllByRecursion-weaker (λ s. IsTrue (nat_lt 0 s.count.mask && nat_lt s.count.mask 4)) (λ s. IsLine s.count) (λ s k. let p = and_parts (nat_lt 0 s.count.mask) (nat_lt s.count.mask 4) k in (ltb-true _ _ p.0, ltb-true _ _ p.1)) given
    (AllByRecursion-from_list_all (λ s. nat_lt 0 s.count.mask && nat_lt s.count.mask 4) given h)

pub lines_are_kept : LinesAreKept
lines_are_kept settings given k s ordered lines i f =
    elim (run_keeps_near settings given k s ordered i f) [
      | inl near ↦ near
      | inr (j, l, r, gone, near) ↦ absurd (nothing_cancels (joined_in settings given j) r (lines_joined settings given j (lines_of given lines)) gone)
    ]
