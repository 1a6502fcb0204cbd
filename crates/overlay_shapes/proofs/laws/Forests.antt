-- Forests of numbers: what their changes keep.
use Rattle.std.proofs.Common.{◌≡◌, ℕ, ◌<◌, ◌≤◌, ◌==◌, ◌⊎◌, inl, inr, true, false, List, [], ◌∷◌, ◌++◌, take, drop, length, get_or, set, refl, sym, ap, subst, ◌∙◌, arith, get_or-set_same, get_or-set_other, if◌then◌else◌}
use Rattle.std.specs.Prelude.{max, min}
use Rattle.std.proofs.lemmas.Bool.{eqb-true, eq-eqb, ne_eqb, cases_lt, cases_Bool, false≢true}
use Rattle.std.proofs.lemmas.List.{length-set}
use Rattle.overlay_shapes.specs.steps.Forests.{AreLow, HaveClasses, joined}

pub by_eq : {P : Type 0} (i j : ℕ) → (i ≡ j → P) → ((i ≡ j → ⊥) → P) → P
by_eq i j f g = elim (cases_Bool (i == j)) [ inl e ↦ f (eqb-true i j e) | inr e ↦ g (λ s. false≢true (sym e ∙ eq-eqb i j s)) ]

-- the numbers, each its own parent
pub own_classes : (parents : List ℕ) (n : ℕ) → length parents ≡ n → ((i : ℕ) → i < n → get_or parents i 0 ≡ i) → AreLow parents × HaveClasses parents (λ i. i)
own_classes parents n many own = (
  λ i h. let e = own i (omega (arith, h, many)) in omega (arith, e),
  record {
    same = λ i h. own i (omega (arith, h, many));
    top = λ i h e. refl;
    least = λ i h. omega arith;
    led = λ i h. refl;
  },
)

module _ (parents : List ℕ) (at v : ℕ) (inside : at < length parents) where
  here : get_or (set parents at v) at 0 ≡ v
  here = get_or-set_same parents at v 0 inside

  there : (i : ℕ) → (i ≡ at → ⊥) → get_or (set parents at v) i 0 ≡ get_or parents i 0
  there i n = get_or-set_other parents at i v 0 n

  as_long : (i : ℕ) → i < length (set parents at v) → i < length parents
  as_long i h = subst (λ n. i < n) (length-set parents at v) h

-- ---- two classes are put together

module _ (parents : List ℕ) (classes : ℕ → ℕ) (lo hi : ℕ) (f : HaveClasses parents classes) (inside : hi < length parents) (order : lo ≤ hi) (lo_top : classes lo ≡ lo) (hi_top : classes hi ≡ hi) where
  abbrev both : ℕ → ℕ
  both i = if classes i == hi then lo else classes i

  in_both : (i : ℕ) → classes i ≡ hi → both i ≡ lo
  in_both i e = rw (eq-eqb (classes i) hi e) refl

  out_of_both : (i : ℕ) → (classes i ≡ hi → ⊥) → both i ≡ classes i
  out_of_both i n = rw (ne_eqb (classes i) hi n) refl

  both_lo : both lo ≡ lo
  both_lo = by_eq (classes lo) hi (λ e. in_both lo e) (λ n. out_of_both lo n ∙ lo_top)

  both_same : (i j : ℕ) → classes i ≡ classes j → both i ≡ both j
  both_same i j e = ap (λ c. if c == hi then lo else c) e

  put_together : HaveClasses (set parents hi lo) both
  put_together = record {
    same = λ i h. by_eq i hi
        (λ e. ap both (ap (λ j. get_or (set parents hi lo) j 0) e ∙ here parents hi lo inside) ∙ both_lo ∙ sym (in_both i (ap classes e ∙ hi_top)))
        (λ n. ap both (there parents hi lo inside i n) ∙ both_same (get_or parents i 0) i (f.same i (as_long parents hi lo inside i h)));
    top = λ i h t. by_eq i hi
        (λ e. let k : lo ≡ hi = sym (here parents hi lo inside) ∙ ap (λ j. get_or (set parents hi lo) j 0) (sym e) ∙ t ∙ e in in_both i (ap classes e ∙ hi_top) ∙ k ∙ sym e)
        (λ n. let k = f.top i (as_long parents hi lo inside i h) (sym (there parents hi lo inside i n) ∙ t) in out_of_both i (λ s. n (sym k ∙ s)) ∙ k);
    least = λ i h. let l = f.least i (as_long parents hi lo inside i h) in by_eq (classes i) hi
        (λ e. let k = in_both i e in omega (arith, k, e, l, order))
        (λ n. let k = out_of_both i n in omega (arith, k, l));
    led = λ i h. by_eq (classes i) hi
        (λ e. ap both (in_both i e) ∙ both_lo ∙ sym (in_both i e))
        (λ n. ap both (out_of_both i n) ∙ both_same (classes i) i (f.led i (as_long parents hi lo inside i h)));
  }

abbrev OneOfBoth : ℕ → ℕ → Type 0
OneOfBoth x y = ((min x y ≡ x) × (max x y ≡ y)) ⊎ ((min x y ≡ y) × (max x y ≡ x))

one_of_both : (x y : ℕ) → OneOfBoth x y
one_of_both x y = elim (cases_lt x y) [ inl l ↦ inl (omega (arith, l), omega (arith, l)) | inr l ↦ inr (omega (arith, l), omega (arith, l)) ]

-- the leaders of both are determined
pub classes_joined : (parents now : List ℕ) (classes : ℕ → ℕ) (a b first second : ℕ) → HaveClasses parents classes → HaveClasses now classes → length now ≡ length parents → a < length parents → b < length parents → first ≡ classes a → second ≡ classes b →
    HaveClasses (set now (max first second) (min first second)) (joined classes a b)
classes_joined parents now classes a b first second old f many ha hb ea eb =
    let la = old.least a ha in let lb = old.least b hb in
    let ta = old.led a ha in let tb = old.led b hb in
    subst (λ x. HaveClasses (set now (max x second) (min x second)) (joined classes a b)) (sym ea)
    (subst (λ y. HaveClasses (set now (max (classes a) y) (min (classes a) y)) (joined classes a b)) (sym eb)
    (elim (one_of_both (classes a) (classes b)) [
      | inl e ↦ put_together now classes (min (classes a) (classes b)) (max (classes a) (classes b)) f (omega (arith, e.1, lb, hb, many)) (omega arith) (ap classes e.0 ∙ ta ∙ sym e.0) (ap classes e.1 ∙ tb ∙ sym e.1)
      | inr e ↦ put_together now classes (min (classes a) (classes b)) (max (classes a) (classes b)) f (omega (arith, e.1, la, ha, many)) (omega arith) (ap classes e.0 ∙ tb ∙ sym e.0) (ap classes e.1 ∙ ta ∙ sym e.1)
    ]))

-- what was in one class stays so, and the two are
pub joined_same : (classes : ℕ → ℕ) (a b i j : ℕ) → classes i ≡ classes j → joined classes a b i ≡ joined classes a b j
joined_same classes a b i j e = ap (λ c. if c == max (classes a) (classes b) then min (classes a) (classes b) else c) e

pub joined_both : (classes : ℕ → ℕ) (a b : ℕ) → joined classes a b a ≡ joined classes a b b
joined_both classes a b = elim (one_of_both (classes a) (classes b)) [
  | inl e ↦ out_or_in a e.0 e.1 ∙ sym (in_it b (sym e.1))
  | inr e ↦ in_it a (sym e.1) ∙ sym (out_or_in b e.0 e.1)
]
  where
    in_it : (i : ℕ) → classes i ≡ max (classes a) (classes b) → joined classes a b i ≡ min (classes a) (classes b)
    in_it i e = rw (eq-eqb (classes i) (max (classes a) (classes b)) e) refl

    out_or_in : (i : ℕ) {j : ℕ} → min (classes a) (classes b) ≡ classes i → max (classes a) (classes b) ≡ j → joined classes a b i ≡ min (classes a) (classes b)
    out_or_in i e f = by_eq (classes i) (max (classes a) (classes b)) (λ s. in_it i s) (λ n. rw (ne_eqb (classes i) (max (classes a) (classes b)) n) (sym e))

-- a number's class stays, or it was one of the two and is now the other
pub joined_is : (classes : ℕ → ℕ) (a b i : ℕ) → (joined classes a b i ≡ classes i) ⊎ (((classes i ≡ classes b) × (joined classes a b i ≡ classes a)) ⊎ ((classes i ≡ classes a) × (joined classes a b i ≡ classes b)))
joined_is classes a b i = by_eq (classes i) (max (classes a) (classes b))
    (λ e.
    let k : joined classes a b i ≡ min (classes a) (classes b) = rw (eq-eqb (classes i) (max (classes a) (classes b)) e) refl in
    elim (one_of_both (classes a) (classes b)) [
      | inl f ↦ inr (inl (e ∙ f.1, k ∙ f.0))
      | inr f ↦ inr (inr (e ∙ f.1, k ∙ f.0))
    ])
    (λ n. inl (rw (ne_eqb (classes i) (max (classes a) (classes b)) n) refl))

front_of : {X : Type 0} (xs ys : List X) → take (length xs) (xs ++ ys) ≡ xs
front_of [] ys = refl
front_of (x ∷ xs) ys = ap (λ l. x ∷ l) (front_of xs ys)

-- a slice of a whole list is written back
pub written_back : {X : Type 0} (n : ℕ) (now old : List X) → n ≡ length now → take n (now ++ drop (length now) old) ≡ now
written_back n now old e = ap (λ m. take m (now ++ drop (length now) old)) e ∙ front_of now (drop (length now) old)
