-- Classes while joins are gone through: what is joined is in one class, and only what joins link.
use Rattle.std.proofs.Common.{◌≡◌, ℕ, zero, suc, ◌+◌, ◌<◌, ◌≤◌, inl, inr, List, [], ◌∷◌, ◌++◌, length, get_or, refl, sym, ap, subst, ◌∙◌, arith}
use Rattle.std.proofs.lemmas.Bool.{cases_lt}
use Rattle.std.proofs.lemmas.List.{get_or_default}
use Rattle.overlay_shapes.specs.Classes.{AreLinked, IsJoin}
use Rattle.overlay_shapes.specs.Classes.AreLinked.{here}
use Rattle.overlay_shapes.specs.declared.classes.Join.{Join}
use Rattle.overlay_shapes.specs.steps.Forests.{AreLow, HaveClasses, joined}
use Rattle.overlay_shapes.proofs.laws.Forests.{own_classes, joined_same, joined_both, joined_is}
use Rattle.overlay_shapes.proofs.laws.Linked.{AreLinked-trans, AreLinked-sym, AreLinked-step}

-- the classes of a forest after some joins
pub record AreClasses (count k : ℕ) (joins : List Join) (parents : List ℕ) : Type 0 where
  pub many : length parents ≡ count
  pub low : AreLow parents
  pub classes : ℕ → ℕ
  pub forest : HaveClasses parents classes
  pub joined : (j : ℕ) (d : Join) → j < k → classes (get_or joins j d).a ≡ classes (get_or joins j d).b
  pub linked : (i : ℕ) → i < count → AreLinked (IsJoin joins) i (classes i)

pub no_joins : (count : ℕ) (joins : List Join) (parents : List ℕ) → length parents ≡ count → ((i : ℕ) → i < count → get_or parents i 0 ≡ i) → AreClasses count 0 joins parents
no_joins count joins parents many own =
    let f = own_classes parents count many own in
    record {
      many = many;
      low = f.0;
      classes = λ i. i;
      forest = f.1;
      joined = λ j d h. absurd (omega (arith, h));
      linked = λ i h. here;
    }

pub one_join : (count k : ℕ) (joins : List Join) (parents now : List ℕ) (item : Join) → AreClasses count k joins parents → k < length joins → item ≡ get_or joins k item → item.a < count → item.b < count → length now ≡ length parents → AreLow now →
    ((classes : ℕ → ℕ) → HaveClasses parents classes → HaveClasses now (joined classes item.a item.b)) → AreClasses count (k + 1) joins now
one_join count k joins parents now item c inside is ha hb many low f = record {
  many = many ∙ c.many;
  low = low;
  classes = joined c.classes item.a item.b;
  forest = f c.classes c.forest;
  joined = λ j d h. elim (cases_lt j k) [
    | inl l ↦ joined_same c.classes item.a item.b (get_or joins j d).a (get_or joins j d).b (c.joined j d l)
    | inr l ↦
        let same : j ≡ k = omega (arith, h, l) in
        let at : get_or joins j d ≡ item = ap (λ n. get_or joins n d) same ∙ get_or_default joins k d item inside ∙ sym is in
        ap (λ (e : Join). joined c.classes item.a item.b e.a) at ∙ joined_both c.classes item.a item.b ∙ ap (λ (e : Join). joined c.classes item.a item.b e.b) (sym at)
  ];
  linked = λ i h. elim (joined_is c.classes item.a item.b i) [
    | inl e ↦ subst (AreLinked (IsJoin joins) i) (sym e) (c.linked i h)
    | inr (inl e) ↦ subst (AreLinked (IsJoin joins) i) (sym e.1) (AreLinked-trans (IsJoin joins) (subst (AreLinked (IsJoin joins) i) e.0 (c.linked i h)) b_to_a)
    | inr (inr e) ↦ subst (AreLinked (IsJoin joins) i) (sym e.1) (AreLinked-trans (IsJoin joins) (subst (AreLinked (IsJoin joins) i) e.0 (c.linked i h)) (AreLinked-sym (IsJoin joins) b_to_a))
  ];
}
  where
    step : AreLinked (IsJoin joins) item.a item.b
    step = AreLinked-step (IsJoin joins) (k, inside, sym is)

    b_to_a : AreLinked (IsJoin joins) (c.classes item.b) (c.classes item.a)
    b_to_a = AreLinked-trans (IsJoin joins) (AreLinked-sym (IsJoin joins) (c.linked item.b hb)) (AreLinked-trans (IsJoin joins) (AreLinked-sym (IsJoin joins) step) (c.linked item.a ha))

-- ---- the leaders, read one after another

pub record AreLed (count n : ℕ) (joins : List Join) (parents leaders : List ℕ) : Type 0 where
  pub after : AreClasses count (length joins) joins parents
  pub many : length leaders ≡ n
  pub told : (i : ℕ) → i < n → get_or leaders i 0 ≡ after.classes i

pub none_led : (count : ℕ) (joins : List Join) (parents leaders : List ℕ) (k : ℕ) → AreClasses count k joins parents → length joins ≤ k → k ≤ length joins → length leaders ≡ 0 → AreLed count 0 joins parents leaders
none_led count joins parents leaders k c done low none = record {
  after = subst (λ n. AreClasses count n joins parents) (omega (arith, done, low)) c;
  many = none;
  told = λ i h. absurd (omega (arith, h));
}

pub one_led : (count n : ℕ) (joins : List Join) (parents now leaders : List ℕ) (leader : ℕ) → AreLed count n joins parents leaders → n < count → length now ≡ length parents → AreLow now →
    ((classes : ℕ → ℕ) → HaveClasses parents classes → HaveClasses now classes) → ((classes : ℕ → ℕ) → HaveClasses parents classes → leader ≡ classes n) → AreLed count (n + 1) joins now (leaders ++ leader ∷ [])
one_led count n joins parents now leaders leader l inside long low kept led = record {
  after = record {
    many = long ∙ l.after.many;
    low = low;
    classes = l.after.classes;
    forest = kept l.after.classes l.after.forest;
    joined = l.after.joined;
    linked = l.after.linked;
  };
  many = pushed_length leaders leader ∙ ap (λ m. m + 1) l.many;
  told = λ i h. elim (cases_lt i n) [
    | inl k ↦ pushed_before leaders leader i (omega (arith, k, l.many)) ∙ l.told i k
    | inr k ↦
        let same : i ≡ length leaders = omega (arith, h, k, l.many) in
        ap (λ j. get_or (leaders ++ leader ∷ []) j 0) same ∙ pushed_last leaders leader ∙ led l.after.classes l.after.forest ∙ ap l.after.classes (sym (same ∙ l.many))
  ];
}
  where
    pushed_length : (xs : List ℕ) (x : ℕ) → length (xs ++ x ∷ []) ≡ length xs + 1
    pushed_length [] x = omega arith
    pushed_length (y ∷ xs) x = let r = pushed_length xs x in omega (arith, r)

    pushed_before : (xs : List ℕ) (x k : ℕ) → k < length xs → get_or (xs ++ x ∷ []) k 0 ≡ get_or xs k 0
    pushed_before [] x k h = absurd (omega (arith, h))
    pushed_before (y ∷ xs) x zero h = refl
    pushed_before (y ∷ xs) x (suc k) h = pushed_before xs x k (omega (arith, h))

    pushed_last : (xs : List ℕ) (x : ℕ) → get_or (xs ++ x ∷ []) (length xs) 0 ≡ x
    pushed_last [] x = refl
    pushed_last (y ∷ xs) x = pushed_last xs x
