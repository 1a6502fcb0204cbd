-- The order of points along a segment: no point comes before itself, and what comes before comes before all that follows.
use Rattle.std.proofs.Common.{◌≡◌, refl, sym, ap₂, ◌∙◌, subst, arith, ⊎_elim, inl, inr, true, false, IsTrue, IsFalse, List, [], ◌∷◌}
use Rattle.std.specs.Prelude.{ℤ, ◌≤ℤ◌, int_lt}
use Rattle.std.specs.List.{AllByRecursion}
use Rattle.std.specs.Ordering.{is_lt}
use Rattle.std.specs.declared.cmp.Ordering.{Ordering}
use Rattle.std.proofs.lemmas.Int.{ints}
use Rattle.std.proofs.lemmas.Bool.{cases_Bool, both_ways, and_parts}
use Rattle.overlay_geometry.specs.Points.{Point, Pair, point_cmp}
use Rattle.overlay_geometry.specs.Sorting.{is_strictly_sorted}
use Rattle.overlay_geometry.proofs.laws.geometry.Points.{Before, before, from_before, point_lt-irreflexive, point_lt-trans}
use Rattle.overlay_geometry.proofs.laws.lists.Lists.{Has, AllByRecursion-at, AllByRecursion-weaker}
use Rattle.overlay_snapping.specs.Chains.{along_cmp, comes_before}
use Rattle.overlay_snapping.proofs.laws.pixels.Orders.{not_before_up, not_before_down}

-- no point comes before itself
pub not_before_itself : (s : Pair) (c : Point) → IsFalse (comes_before s c c)
not_before_itself s c =
    ⊎_elim (λ down. not_before_down s c c down (same c.x) (same c.y)) (λ up. not_before_up s c c up (same c.x) (same c.y)) (cases_Bool (int_lt s.b.y s.a.y))
  where
    same : (z : ℤ) → z ≤ℤ z
    same z = omega (arith, ints)

pub ends_differ : (s : Pair) (c d : Point) → IsTrue (comes_before s c d) → (c ≡ d) → ⊥
ends_differ s c d h e = both_ways (comes_before s c d) (subst (λ p. IsFalse (comes_before s c p)) e (not_before_itself s c)) h

-- the order of points, and the one that falls
before_trans : (p q r : Point) → Before p q → Before q r → Before p r
before_trans p q r (inl h) (inl k) = inl (omega (arith, ints, h, k))
before_trans p q r (inl h) (inr (e, k)) = inl (omega (arith, ints, h, e))
before_trans p q r (inr (e, h)) (inl k) = inl (omega (arith, ints, e, k))
before_trans p q r (inr (e, h)) (inr (f, k)) = inr (e ∙ f, omega (arith, ints, h, k))

down_trans : (p q r : Point) → Before (record { x = p.x; y = q.y }) (record { x = q.x; y = p.y }) → Before (record { x = q.x; y = r.y }) (record { x = r.x; y = q.y }) → Before (record { x = p.x; y = r.y }) (record { x = r.x; y = p.y })
down_trans p q r (inl h) (inl k) = inl (omega (arith, ints, h, k))
down_trans p q r (inl h) (inr (e, k)) = inl (omega (arith, ints, h, e))
down_trans p q r (inr (e, h)) (inl k) = inl (omega (arith, ints, e, k))
down_trans p q r (inr (e, h)) (inr (f, k)) = inr (e ∙ f, omega (arith, ints, h, k))

pub comes_before-trans : (s : Pair) (p q r : Point) → IsTrue (comes_before s p q) → IsTrue (comes_before s q r) → IsTrue (comes_before s p r)
comes_before-trans s p q r h k = ⊎_elim falling rising (cases_Bool (int_lt s.b.y s.a.y))
  where
    falling : int_lt s.b.y s.a.y ≡ true → IsTrue (comes_before s p r)
    falling down =
        rw down
        (from_before (record { x = p.x; y = r.y }) (record { x = r.x; y = p.y })
        (down_trans p q r (before (record { x = p.x; y = q.y }) (record { x = q.x; y = p.y }) (rw down at h)) (before (record { x = q.x; y = r.y }) (record { x = r.x; y = q.y }) (rw down at k))))

    rising : int_lt s.b.y s.a.y ≡ false → IsTrue (comes_before s p r)
    rising up = rw up (from_before p r (before_trans p q r (before p q (rw up at h)) (before q r (rw up at k))))

-- ---- lists in strict order

module _ {K : Type 0} (cmp : K → K → Ordering) (irreflexive : (k : K) → is_lt (cmp k k) ≡ false) (trans : (j k l : K) → is_lt (cmp j k) ≡ true → is_lt (cmp k l) ≡ true → is_lt (cmp j l) ≡ true) where
  -- the elements come after each that precedes them
  all_later : (p : K) (ks : List K) → is_strictly_sorted cmp (p ∷ ks) ≡ true → AllByRecursion (λ q. is_lt (cmp p q) ≡ true) ks
  unfolding is_strictly_sorted
  all_later p [] h = tt
  all_later p (q ∷ ks) h =
      let parts = and_parts (is_lt (cmp p q)) (is_strictly_sorted cmp (q ∷ ks)) h in
      (parts.0, AllByRecursion-weaker (λ r. is_lt (cmp q r) ≡ true) (λ r. is_lt (cmp p r) ≡ true) (λ r k. trans p q r parts.0 k) ks (all_later q ks parts.1))

  rest_sorted : (p : K) (ks : List K) → is_strictly_sorted cmp (p ∷ ks) ≡ true → is_strictly_sorted cmp ks ≡ true
  unfolding is_strictly_sorted
  rest_sorted p [] h = refl
  rest_sorted p (q ∷ ks) h = (and_parts (is_lt (cmp p q)) (is_strictly_sorted cmp (q ∷ ks)) h).1

  heads : (p q : K) (first second : List K) → AllByRecursion (λ r. is_lt (cmp p r) ≡ true) first → AllByRecursion (λ r. is_lt (cmp q r) ≡ true) second → Has (q ∷ second) p → Has (p ∷ first) q → p ≡ q
  heads p q first second h k (inl e) j = sym e
  heads p q first second h k (inr i) (inl e) = e
  heads p q first second h k (inr i) (inr j) =
      absurd (both_ways (is_lt (cmp p p)) (irreflexive p) (trans p q p (AllByRecursion-at (λ r. is_lt (cmp p r) ≡ true) first q h j) (AllByRecursion-at (λ r. is_lt (cmp q r) ≡ true) second p k i)))

  rest_in : (p q : K) (first second : List K) → AllByRecursion (λ r. is_lt (cmp p r) ≡ true) first → p ≡ q → (c : K) → Has first c → Has (q ∷ second) c → Has second c
  rest_in p q first second h e c i (inr j) = j
  rest_in p q first second h e c i (inl k) =
      absurd (both_ways (is_lt (cmp p p)) (irreflexive p) (subst (λ r. is_lt (cmp p r) ≡ true) (sym (e ∙ k)) (AllByRecursion-at (λ r. is_lt (cmp p r) ≡ true) first c h i)))

  -- two lists in strict order with the same elements are one
  pub same_sorted : (first second : List K) → is_strictly_sorted cmp first ≡ true → is_strictly_sorted cmp second ≡ true → ((c : K) → Has first c → Has second c) → ((c : K) → Has second c → Has first c) → first ≡ second
  same_sorted [] [] h k f g = refl
  same_sorted [] (q ∷ second) h k f g = absurd (g q (inl refl))
  same_sorted (p ∷ first) [] h k f g = absurd (f p (inl refl))
  same_sorted (p ∷ first) (q ∷ second) h k f g =
      let after_p = all_later p first h in
      let after_q = all_later q second k in
      let e : p ≡ q = heads p q first second after_p after_q (f p (inl refl)) (g q (inl refl)) in
      ap₂ (λ (r : K) (l : List K). r ∷ l) e
      (same_sorted first second (rest_sorted p first h) (rest_sorted q second k)
      (λ c i. rest_in p q first second after_p e c i (f c (inr i)))
      (λ c i. rest_in q p second first after_q (sym e) c i (g c (inr i))))

-- ---- chains

-- the points of a chain come after each that precedes them
pub all_after : (s : Pair) (p : Point) (points : List Point) → IsTrue (is_strictly_sorted (along_cmp s) (p ∷ points)) → AllByRecursion (λ q. IsTrue (comes_before s p q)) points
all_after s p points h = all_later (along_cmp s) (not_before_itself s) (comes_before-trans s) p points h

pub same_chain : (s : Pair) (first second : List Point) → IsTrue (is_strictly_sorted (along_cmp s) first) → IsTrue (is_strictly_sorted (along_cmp s) second) → ((c : Point) → Has first c → Has second c) → ((c : Point) → Has second c → Has first c) → first ≡ second
same_chain s first second h k f g = same_sorted (along_cmp s) (not_before_itself s) (comes_before-trans s) first second h k f g

-- points in strict order of points
pub same_points : (first second : List Point) → IsTrue (is_strictly_sorted point_cmp first) → IsTrue (is_strictly_sorted point_cmp second) → ((c : Point) → Has first c → Has second c) → ((c : Point) → Has second c → Has first c) → first ≡ second
same_points first second h k f g = same_sorted point_cmp point_lt-irreflexive point_lt-trans first second h k f g
