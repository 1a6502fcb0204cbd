-- The segments that pass by some points, one after another; and the points by which these pass.
use Rattle.std.proofs.Common.{◌≡◌, sym, ap, subst, ◌⊎◌, inl, inr, ⊎_elim, ℕ, ◌+◌, ◌<◌, ◌≤◌, true, false, not, ◌↔◌, List, [], ◌∷◌, ◌++◌, Some, get_or, length, take, arith}
use Rattle.std.specs.Prelude.{All, Contains, IsTrue, slice_get}
use Rattle.std.proofs.lemmas.List.{take_more}
use Rattle.std.proofs.lemmas.Bool.{and_parts, and_from, not-true, both_ways, cases_order}
use Rattle.std.proofs.lemmas.Option.{slice_get_within}
use Rattle.std.proofs.lemmas.List.Elements.{Contains-append_left, Contains-push, Contains-push_cases, Contains-get_or}
use Rattle.overlay_geometry.specs.Points.{Point, Pair, is_ordered, is_end, lies_on}
use Rattle.overlay_geometry.proofs.laws.geometry.Points.{before}
use Rattle.overlay_snapping.specs.Pixels.{meets_pixel}
use Rattle.overlay_snapping.specs.Chains.{passes_by}
use Rattle.overlay_snapping.specs.steps.Closing.{PassesSome, AreMovers, AddsPassed, ArePassed, ArePassedBy, AreLeft}
use Rattle.overlay_snapping.specs.steps.Met.{is_met}
use Rattle.overlay_snapping.proofs.laws.chains.MarkPoints.{end_lies_on}
use Rattle.overlay_snapping.proofs.laws.closure.Elements.{found_at, contained, one_element, no_element}

-- ---- the movers of the first segments

pub record AreMoversBelow (segments : List Pair) (points : List Point) (n : ℕ) (movers : List ℕ) : Type 0 where
  pub only : (i : ℕ) → Contains movers i → (s : Pair) × (slice_get segments i ≡ Some s) × PassesSome points s
  pub all : (i : ℕ) (s : Pair) → i < n → slice_get segments i ≡ Some s → PassesSome points s → Contains movers i

pub movers_none : (segments : List Pair) (points : List Point) (movers : List ℕ) → movers ≡ [] → AreMoversBelow segments points 0 movers
movers_none segments points movers e = record { only = λ i h. absurd (no_element i (subst (λ (l : List ℕ). Contains l i) e h)); all = λ i s l at p. absurd (omega (arith, l)) }

module _ (segments : List Pair) (points : List Point) (n : ℕ) (movers : List ℕ) (h : AreMoversBelow segments points n movers) (s : Pair) (at : slice_get segments n ≡ Some s) where
  pub movers_pushed : (more : List ℕ) → more ≡ movers ++ n ∷ [] → PassesSome points s → AreMoversBelow segments points (n + 1) more
  movers_pushed more e p = record {
    only = λ i k. ⊎_elim (λ j. h.only i j) (λ same. (s, subst (λ (j : ℕ). slice_get segments j ≡ Some s) same at, p)) (Contains-push_cases movers n i (subst (λ (l : List ℕ). Contains l i) e k));
    all = λ i t l here q. subst (λ (l : List ℕ). Contains l i) (sym e) (by i t l here q (cases_order i n));
  }
    where
      by : (i : ℕ) (t : Pair) → i < n + 1 → slice_get segments i ≡ Some t → PassesSome points t → (i ≡ n) ⊎ ((i < n) ⊎ (n < i)) → Contains (movers ++ n ∷ []) i
      by i t l here q (inl same) = subst (λ (j : ℕ). Contains (movers ++ n ∷ []) j) (sym same) (Contains-push movers n)
      by i t l here q (inr (inl less)) = Contains-append_left movers (n ∷ []) i (h.all i t less here q)
      by i t l here q (inr (inr past)) = absurd (omega (arith, l, past))

  pub movers_kept : (PassesSome points s → ⊥) → AreMoversBelow segments points (n + 1) movers
  movers_kept none = record { only = h.only; all = λ i t l here q. by i t l here q (cases_order i n) }
    where
      by : (i : ℕ) (t : Pair) → i < n + 1 → slice_get segments i ≡ Some t → PassesSome points t → (i ≡ n) ⊎ ((i < n) ⊎ (n < i)) → Contains movers i
      by i t l here q (inl same) = absurd (none (subst (λ (u : Pair). PassesSome points u) (one_element segments n t s (subst (λ (j : ℕ). slice_get segments j ≡ Some t) same here) at) q))
      by i t l here q (inr (inl less)) = h.all i t less here q
      by i t l here q (inr (inr past)) = absurd (omega (arith, l, past))

pub movers_all : (segments : List Pair) (points : List Point) (n : ℕ) (movers : List ℕ) → length segments ≤ n → AreMoversBelow segments points n movers → AreMovers segments points movers
movers_all segments points n movers le h = record { only = h.only; all = λ i s at p. let l = slice_get_within segments i s at in h.all i s (omega (arith, le, l)) at p }

-- the same for points that are among the same list
pub movers_over : (segments : List Pair) (xs ys : List Point) (movers : List ℕ) → ((c : Point) → Contains xs c ↔ Contains ys c) → AreMovers segments xs movers → AreMovers segments ys movers
movers_over segments xs ys movers same h = record {
  only = λ i k. let r = h.only i k in let p = r.2 in (r.0, r.1, (p.0, (same p.0).0 p.1, p.2));
  all = λ i s at p. h.all i s at (p.0, (same p.0).1 p.1, p.2);
}

pub movers_within : (segments : List Pair) (points : List Point) (movers : List ℕ) (n : ℕ) → length segments ≡ n → AreMovers segments points movers → All (λ i. i < n) movers
movers_within segments points movers n e h k d inside =
    let r = h.only (get_or movers k d) (Contains-get_or movers k d inside) in
    let l = slice_get_within segments (get_or movers k d) r.0 r.1 in
    omega (arith, l, e)

-- ---- points that a segment meets, and passes by

pub off_line : (s : Pair) (c : Point) → IsTrue (passes_by s c) → lies_on s c ≡ false
off_line s c p = not-true (lies_on s c) (and_parts (meets_pixel s c) (not (lies_on s c)) p).1

pub passed_is_met : (s : Pair) (c : Point) → IsTrue (is_ordered s) → IsTrue (passes_by s c) → is_met s c ≡ true
passed_is_met s c o p =
    let parts = and_parts (meets_pixel s c) (not (lies_on s c)) p in
    let no_end = end_lies_on s c (before s.a s.b o) (off_line s c p) in
    and_from (meets_pixel s c) (not (is_end s c)) parts.0 (ap not no_end)

pub met_is_passed : (s : Pair) (c : Point) → is_met s c ≡ true → lies_on s c ≡ false → IsTrue (passes_by s c)
met_is_passed s c m off = and_from (meets_pixel s c) (not (lies_on s c)) (and_parts (meets_pixel s c) (not (is_end s c)) m).0 (ap not off)

-- ---- the points by which a segment passes, of those that it meets

pub record AddsSome (s : Pair) (points done old new : List Point) : Type 0 where
  pub kept : (c : Point) → Contains old c → Contains new c
  pub only : (c : Point) → Contains new c → Contains old c ⊎ (Contains points c × IsTrue (passes_by s c))
  pub all : (c : Point) → Contains done c → lies_on s c ≡ false → Contains new c

pub adds_none : (s : Pair) (points done old : List Point) → done ≡ [] → AddsSome s points done old old
adds_none s points done old e = record { kept = λ c i. i; only = λ c i. inl i; all = λ c i off. absurd (no_element c (subst (λ (l : List Point). Contains l c) e i)) }

module _ (s : Pair) (points done more : List Point) (p : Point) (split : (c : Point) → Contains more c → Contains done c ⊎ (p ≡ c)) (old now : List Point) (h : AddsSome s points done old now) where
  -- one point more, which lies on the segment
  pub adds_over : lies_on s p ≡ true → AddsSome s points more old now
  adds_over on = record { kept = h.kept; only = h.only; all = λ c i off. ⊎_elim (λ j. h.all c j off) (λ e. absurd (both_ways (lies_on s c) off (subst (λ (q : Point). lies_on s q ≡ true) e on))) (split c i) }

  -- one that is pushed
  pub adds_pushed : (new : List Point) → new ≡ now ++ p ∷ [] → Contains points p → IsTrue (passes_by s p) → AddsSome s points more old new
  adds_pushed new e there passes = record {
    kept = λ c i. subst (λ (l : List Point). Contains l c) (sym e) (Contains-append_left now (p ∷ []) c (h.kept c i));
    only = λ c i. ⊎_elim (λ j. h.only c j) (λ same. inr (subst (λ (q : Point). Contains points q × IsTrue (passes_by s q)) same (there, passes))) (Contains-push_cases now p c (subst (λ (l : List Point). Contains l c) e i));
    all = λ c i off. subst (λ (l : List Point). Contains l c) (sym e) (⊎_elim (λ j. Contains-append_left now (p ∷ []) c (h.all c j off)) (λ same. subst (λ (q : Point). Contains (now ++ p ∷ []) q) same (Contains-push now p)) (split c i));
  }

-- all that are met are done
pub adds_all : (s : Pair) (points met old new : List Point) → IsTrue (is_ordered s) → ((c : Point) → Contains points c → IsTrue (is_met s c) → Contains met c) → AddsSome s points met old new → AddsPassed s points old new
adds_all s points met old new o all h = record { kept = h.kept; only = h.only; all = λ c i p. h.all c (all c i (passed_is_met s c o p)) (off_line s c p) }

-- ---- the points by which some movers pass

pub passed_none : (segments : List Pair) (points passed : List Point) → passed ≡ [] → ArePassedBy segments points [] passed
passed_none segments points passed e = record { only = λ c i. absurd (no_element c (subst (λ (l : List Point). Contains l c) e i)); all = λ i s c j at k p. absurd (no_element i j) }

-- one mover more
pub passed_more : (segments : List Pair) (points : List Point) (movers more : List ℕ) (mover : ℕ) (s : Pair) → slice_get segments mover ≡ Some s → ((k : ℕ) → Contains movers k → Contains more k) → Contains more mover →
    ((k : ℕ) → Contains more k → Contains movers k ⊎ (mover ≡ k)) → (old new : List Point) → AddsPassed s points old new → ArePassedBy segments points movers old → ArePassedBy segments points more new
passed_more segments points movers more mover s at wider there split old new adds h = record {
  only = λ c i. ⊎_elim (λ j. let r = h.only c j in (r.0, (r.1.0, r.1.1, wider r.1.0 r.1.2, r.1.3, r.1.4))) (λ r. (r.0, (mover, s, there, at, r.1))) (adds.only c i);
  all = λ i t c j here k p. ⊎_elim (λ m. adds.kept c (h.all i t c m here k p))
      (λ e. adds.all c k (subst (λ (u : Pair). IsTrue (passes_by u c)) (sym (one_element segments i s t (subst (λ (n : ℕ). slice_get segments n ≡ Some s) e at) here)) p)) (split i j);
}

-- the same with other repeats
pub passed_same : (segments : List Pair) (points : List Point) (movers : List ℕ) (old new : List Point) → ((c : Point) → Contains new c ↔ Contains old c) → ArePassedBy segments points movers old → ArePassedBy segments points movers new
passed_same segments points movers old new same h = record {
  only = λ c i. h.only c ((same c).0 i);
  all = λ i s c j at k p. (same c).1 (h.all i s c j at k p);
}

-- the given points give all by which movers pass, and those that are left are the new ones
pub passed_all : (segments : List Pair) (found given points : List Point) (movers : List ℕ) (near passed : List Point) → AreMovers segments found movers → ((c : Point) → Contains points c ↔ Contains given c) →
    ArePassedBy segments points movers near → AreLeft found near passed → ArePassed segments found given passed
passed_all segments found given points movers near passed are same h left = record {
  only = λ c i. let k = left.only c i in let r = h.only c k.0 in let m = are.only r.1.0 r.1.2 in let one = one_element segments r.1.0 m.0 r.1.1 m.1 r.1.3 in
      ((same c).0 r.0, (r.1.1, contained segments r.1.0 r.1.1 r.1.3, subst (λ (t : Pair). PassesSome found t) one m.2, r.1.4), k.1);
  all = λ s c i some g p. let at = found_at segments s i in let j = are.all at.0 s at.1 some in left.all c (h.all at.0 s c j at.1 ((same c).1 g) p);
}

-- ---- those that are left

module _ (found old more now : List Point) (p : Point) (all : more ≡ old ++ p ∷ []) (h : AreLeft found old now) where
  pub left_pushed : (new : List Point) → new ≡ now ++ p ∷ [] → (Contains found p → ⊥) → AreLeft found more new
  left_pushed new e none = record {
    only = λ c i. ⊎_elim (λ j. let r = h.only c j in (subst (λ (l : List Point). Contains l c) (sym all) (Contains-append_left old (p ∷ []) c r.0), r.1))
        (λ same. subst (λ (q : Point). Contains more q × (Contains found q → ⊥)) same (subst (λ (l : List Point). Contains l p) (sym all) (Contains-push old p), none))
        (Contains-push_cases now p c (subst (λ (l : List Point). Contains l c) e i));
    all = λ c i. ⊎_elim (λ j. ⊎_elim (λ f. inl f) (λ n. inr (subst (λ (l : List Point). Contains l c) (sym e) (Contains-append_left now (p ∷ []) c n))) (h.all c j))
        (λ same. inr (subst (λ (l : List Point). Contains l c) (sym e) (subst (λ (q : Point). Contains (now ++ p ∷ []) q) same (Contains-push now p)))) (Contains-push_cases old p c (subst (λ (l : List Point). Contains l c) all i));
  }

  pub left_over : Contains found p → AreLeft found more now
  left_over there = record {
    only = λ c i. let r = h.only c i in (subst (λ (l : List Point). Contains l c) (sym all) (Contains-append_left old (p ∷ []) c r.0), r.1);
    all = λ c i. ⊎_elim (λ j. h.all c j) (λ same. inl (subst (λ (q : Point). Contains found q) same there)) (Contains-push_cases old p c (subst (λ (l : List Point). Contains l c) all i));
  }

pub left_over_same : (found other old new : List Point) → ((c : Point) → Contains found c ↔ Contains other c) → AreLeft found old new → AreLeft other old new
left_over_same found other old new same h = record { only = λ c i. let r = h.only c i in (r.0, λ f. r.1 ((same c).1 f)); all = λ c i. ⊎_elim (λ f. inl ((same c).0 f)) (λ n. inr n) (h.all c i) }

-- ---- one element more of those taken

pub wider_by : (xs : List ℕ) (i : ℕ) → i < length xs → (k : ℕ) → Contains (take i xs) k → Contains (take (i + 1) xs) k
wider_by xs i within k h = subst (λ (l : List ℕ). Contains l k) (sym (take_more xs i 0 within)) (Contains-append_left (take i xs) (get_or xs i 0 ∷ []) k h)

pub last_of : (xs : List ℕ) (i : ℕ) → i < length xs → Contains (take (i + 1) xs) (get_or xs i 0)
last_of xs i within = subst (λ (l : List ℕ). Contains l (get_or xs i 0)) (sym (take_more xs i 0 within)) (Contains-push (take i xs) (get_or xs i 0))

-- the same for points that are found in another order
pub passed_over : (segments : List Pair) (found other given passed : List Point) → ((c : Point) → Contains found c ↔ Contains other c) → ArePassed segments found given passed → ArePassed segments other given passed
passed_over segments found other given passed same h = record {
  only = λ c i. let r = h.only c i in let m = r.1 in let some = m.2 in (r.0, (m.0, m.1, (some.0, (same some.0).0 some.1, some.2), m.3), λ f. r.2 ((same c).1 f));
  all = λ s c i some g p. ⊎_elim (λ f. inl ((same c).0 f)) (λ n. inr n) (h.all s c i (some.0, (same some.0).1 some.1, some.2) g p);
}
