-- Repetitions of a closure. Where all points found are hot, and none is found any more, they are the hot points. Each leaves fewer to find.
use Rattle.std.proofs.Common.{◌≡◌, refl, sym, ap, subst, ◌∙◌, ◌⊎◌, inl, inr, ⊎_elim, ◌↔◌, ℕ, ◌<◌, ◌≤◌, Bool, true, false, not, List, [], ◌∷◌, ◌++◌, ◌==◌, arith}
use Rattle.std.specs.Prelude.{Contains, filter, length}
use Rattle.std.specs.List.{list_any}
use Rattle.std.proofs.lemmas.Bool.{both_ways, cases_Bool, eqb-true}
use Rattle.std.proofs.lemmas.List.Elements.{Contains-append_cases, Contains-append_left, Contains-append_right}
use Rattle.overlay_geometry.specs.Points.{Point, Pair, point_eq}
use Rattle.overlay_geometry.proofs.laws.geometry.Points.{same_by_eq, point_eq_same}
use Rattle.overlay_geometry.proofs.laws.lists.Lists.{Has, list_any-at, Has-from_list_any}
use Rattle.overlay_geometry.proofs.laws.lists.Elements.{Contains-from_Has, Has-from_Contains}
use Rattle.overlay_base.specs.Segments.{WholeSegment, pairs}
use Rattle.overlay_snapping.specs.Chains.{rounded_crossings, passes_by, IsHot, rounded, passed, Moves, passes, AreDecided}
use Rattle.overlay_snapping.specs.HotOf.{AreHotPoints}
use Rattle.overlay_snapping.specs.steps.Closing.{IsInput, PassesSome, ArePassed}
use Rattle.overlay_snapping.proofs.laws.closure.Elements.{no_element}

-- all points found are hot, and the rounded ones are among them
pub record AreSound (segments : List Pair) (found : List Point) : Type 0 where
  pub all_rounded : (c : Point) → Contains (rounded_crossings segments) c → Contains found c
  pub hot : (c : Point) → Contains found c → IsHot segments c

pub sound_first : (segments : List Pair) (found given : List Point) → IsInput segments found given → AreSound segments found
sound_first segments found given input = record { all_rounded = λ c i. (input.rounded_are c).1 i; hot = λ c i. rounded ((input.rounded_are c).0 i) }

module _ (segments : List Pair) (first given : List Point) (input : IsInput segments first given) (found : List Point) (h : AreSound segments found) (more : List Point) (p : ArePassed segments found given more) where
  passed_hot : (c : Point) → Contains more c → IsHot segments c
  passed_hot c i =
      let r = p.only c i in
      let s = r.1.0 in
      let m = passes {s = s} r.1.1 (h.hot r.1.2.0 r.1.2.1) r.1.2.2 in
      ⊎_elim (λ g. passed g m r.1.3) (λ k. rounded k) (input.given_are c r.0)

  -- with those of one repetition
  pub sound_more : (all : List Point) → ((c : Point) → Contains all c ↔ (Contains found c ⊎ Contains more c)) → AreSound segments all
  sound_more all same = record {
    all_rounded = λ c i. (same c).1 (inl (h.all_rounded c i));
    hot = λ c i. ⊎_elim (λ k. h.hot c k) (λ k. passed_hot c k) ((same c).0 i);
  }

  -- where none is found
  module _ (none : (c : Point) → Contains more c → ⊥) where
    mutual
      hot_found : (c : Point) → IsHot segments c → Contains found c
      hot_found c (rounded i) = h.all_rounded c i
      hot_found c (passed {s = s} g m k) = let r = mover s m in ⊎_elim (λ i. i) (λ i. absurd (none c i)) (p.all s c r.0 r.1 (input.all_given c g) k)

      mover : (s : Pair) → Moves segments s → Contains segments s × PassesSome found s
      mover s (passes {c = c} i t k) = (i, (c, hot_found c t, k))

    pub hot_points : (all : List Point) → ((c : Point) → Contains all c ↔ Contains found c) → AreHotPoints segments all
    hot_points all same c = (λ i. h.hot c ((same c).0 i), λ t. (same c).1 (hot_found c t))

-- ---- how many are left

-- how many of the given points are not found
abbrev is_new : List Point → Point → Bool
is_new found c = not (list_any (λ d. point_eq c d) found)

abbrev pub left : List Point → List Point → ℕ
left given found = length (filter (is_new found) given)

found_by : (found : List Point) (c : Point) → Contains found c → is_new found c ≡ false
found_by found c i = ap not (by (cases_Bool (list_any (λ d. point_eq c d) found)))
  where
    by : (list_any (λ d. point_eq c d) found ≡ true) ⊎ (list_any (λ d. point_eq c d) found ≡ false) → list_any (λ d. point_eq c d) found ≡ true
    by (inl e) = e
    by (inr e) = absurd (both_ways (point_eq c c) (list_any-at (λ d. point_eq c d) found c e (Has-from_Contains found c i)) (point_eq_same c))

new_by : (found : List Point) (c : Point) → (Contains found c → ⊥) → is_new found c ≡ true
new_by found c none = by (cases_Bool (list_any (λ d. point_eq c d) found))
  where
    by : (list_any (λ d. point_eq c d) found ≡ true) ⊎ (list_any (λ d. point_eq c d) found ≡ false) → is_new found c ≡ true
    by (inr e) = ap not e
    by (inl e) = let r = Has-from_list_any (λ d. point_eq c d) found e in absurd (none (subst (λ (q : Point). Contains found q) (sym (same_by_eq c r.0 r.2)) (Contains-from_Has found r.0 r.1)))

not_new : (found : List Point) (c : Point) → is_new found c ≡ false → Contains found c
not_new found c e = let r = Has-from_list_any (λ d. point_eq c d) found (unnot (list_any (λ d. point_eq c d) found) e) in subst (λ (q : Point). Contains found q) (sym (same_by_eq c r.0 r.2)) (Contains-from_Has found r.0 r.1)
  where
    unnot : (b : Bool) → not b ≡ false → b ≡ true
    unnot true e = refl
    unnot false e = cc

module _ (found all : List Point) (kept : (c : Point) → Contains found c → Contains all c) where
  no_more : (given : List Point) → left given all ≤ left given found
  no_more [] = omega arith
  no_more (c ∷ given) = let m = no_more given in by (is_new found c) (is_new all c) refl refl m
    where
      by : (a b : Bool) → is_new found c ≡ a → is_new all c ≡ b → left given all ≤ left given found → left (c ∷ given) all ≤ left (c ∷ given) found
      by true true e f m = rw (e, f) (omega (arith, m))
      by true false e f m = rw (e, f) (omega (arith, m))
      by false false e f m = rw (e, f) (omega (arith, m))
      by false true e f m = absurd (both_ways (is_new all c) (found_by all c (kept c (not_new found c e))) f)

  fewer : (given : List Point) (c : Point) → Has given c → is_new found c ≡ true → is_new all c ≡ false → left given all < left given found
  fewer [] c i e f = absurd i
  fewer (d ∷ given) c (inl same) e f = let m = no_more given in let e' = subst (λ (q : Point). is_new found q ≡ true) (sym same) e in let f' = subst (λ (q : Point). is_new all q ≡ false) (sym same) f in rw (e', f') (omega (arith, m))
  fewer (d ∷ given) c (inr i) e f = let m = fewer given c i e f in by (is_new found d) (is_new all d) refl refl m
    where
      by : (a b : Bool) → is_new found d ≡ a → is_new all d ≡ b → left given all < left given found → left (d ∷ given) all < left (d ∷ given) found
      by true true e f m = rw (e, f) (omega (arith, m))
      by true false e f m = rw (e, f) (omega (arith, m))
      by false false e f m = rw (e, f) (omega (arith, m))
      by false true e f m = absurd (both_ways (is_new all d) (found_by all d (kept d (not_new found d e))) f)

  -- one of the given points is found that was not
  pub fewer_left : (given : List Point) (c : Point) → Contains given c → (Contains found c → ⊥) → Contains all c → left given all < left given found
  fewer_left given c i old new = fewer given c (Has-from_Contains given c i) (new_by found c old) (found_by all c new)

-- ---- each segment moves or does not

pub decided_by : (segments : List WholeSegment) (points : List Point) → AreHotPoints (pairs segments) points → AreDecided segments
decided_by segments points h s i = by (cases_Bool (list_any (λ c. passes_by s c) points))
  where
    by : (list_any (λ c. passes_by s c) points ≡ true) ⊎ (list_any (λ c. passes_by s c) points ≡ false) → Moves (pairs segments) s ⊎ (Moves (pairs segments) s → ⊥)
    by (inl e) = let r = Has-from_list_any (λ c. passes_by s c) points e in inl (passes i ((h r.0).0 (Contains-from_Has points r.0 r.1)) r.2)
    by (inr e) = inr stays
      where
        stays : Moves (pairs segments) s → ⊥
        stays (passes {c = c} j t p) = both_ways (passes_by s c) (list_any-at (λ d. passes_by s d) points c e (Has-from_Contains points c ((h c).1 t))) p

-- ---- lists with the same points

pub sound_same : (segments : List Pair) (xs ys : List Point) → ((c : Point) → Contains ys c ↔ Contains xs c) → AreSound segments xs → AreSound segments ys
sound_same segments xs ys same h = record { all_rounded = λ c i. (same c).1 (h.all_rounded c i); hot = λ c i. h.hot c ((same c).0 i) }

pub in_either : (xs ys all : List Point) → all ≡ xs ++ ys → (c : Point) → Contains all c ↔ (Contains xs c ⊎ Contains ys c)
in_either xs ys all e c = (
  λ i. Contains-append_cases xs ys c (subst (λ (l : List Point). Contains l c) e i),
  λ k. subst (λ (l : List Point). Contains l c) (sym e) (⊎_elim (λ i. Contains-append_left xs ys c i) (λ i. Contains-append_right xs ys c i) k),
)

pub some_element : (xs : List Point) (n : ℕ) (empty : Bool) → n ≡ length xs → empty ≡ (n == 0) → empty ≡ false → (c : Point) × Contains xs c
some_element [] n empty e told some = absurd (both_ways empty some (told ∙ ap (λ (k : ℕ). k == 0) e))
some_element (c ∷ xs) n empty e told some = (c, Contains-from_Has (c ∷ xs) c (inl refl))

pub none_element : (xs : List Point) (n : ℕ) (empty : Bool) → n ≡ length xs → empty ≡ (n == 0) → empty ≡ true → (c : Point) → Contains xs c → ⊥
none_element [] n empty e told none c i = no_element c i
none_element (x ∷ xs) n empty e told none c i = let zero : n ≡ 0 = eqb-true n 0 (sym told ∙ none) in absurd (omega (arith, e, zero))
