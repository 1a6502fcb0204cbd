-- Joins of links with those that lead on from them and with their supports, link by link.
use Rattle.std.proofs.Common.{◌≡◌, ℕ, ◌+◌, ◌<◌, ◌≤◌, inl, inr, Bool, false, List, [], ◌∷◌, ◌++◌, length, get_or, sym, ap, subst, ◌∙◌, arith}
use Rattle.std.proofs.lemmas.Bool.{cases_lt}
use Rattle.std.proofs.lemmas.List.Elements.{Contains-push, Contains-push_cases, Contains-append_left}
use Rattle.overlay_base.specs.Rules.{top_value}
use Rattle.overlay_build.specs.DirectedWalks.{no_link}
use Rattle.overlay_build.specs.Graph.{Link}
use Rattle.overlay_shapes.specs.Classes.{IsJoin}
use Rattle.overlay_shapes.specs.declared.classes.Join.{Join}
use Rattle.overlay_shapes.specs.steps.Joins.{AreJoinsAlong, IsToBeJoined, AddsSupports}
use Rattle.overlay_shapes.proofs.laws.Forests.{by_eq}

-- those below an index are joined
pub record AreJoinedBelow (next : List ℕ) (n : ℕ) (joins : List Join) : Type 0 where
  pub more : (a : ℕ) → a < n → IsJoin joins a (get_or next a 0)
  pub only : (a b : ℕ) → IsJoin joins a b → (a < n) × (get_or next a 0 ≡ b)

pub none_joined : (next : List ℕ) → AreJoinedBelow next 0 []
none_joined next = record { more = λ a h. absurd (omega (arith, h)); only = λ a b j. let h = j.1 in absurd (omega (arith, h)) }

pub one_joined : (next : List ℕ) (n : ℕ) (joins : List Join) → AreJoinedBelow next n joins → AreJoinedBelow next (n + 1) (joins ++ record { a = n; b = get_or next n 0 } ∷ [])
one_joined next n joins s =
    let new : Join = record { a = n; b = get_or next n 0 } in
    record {
      more = λ a h. elim (cases_lt a n) [
        | inl l ↦ Contains-append_left joins (new ∷ []) (record { a = a; b = get_or next a 0 }) (s.more a l)
        | inr l ↦ (let e : a ≡ n = omega (arith, h, l) in subst (λ x. IsJoin (joins ++ new ∷ []) x (get_or next x 0)) (sym e) (Contains-push joins new))
      ];
      only = λ a b j. elim (Contains-push_cases joins new (record { a = a; b = b }) j) [
        | inl k ↦ (let r = s.only a b k in (omega (arith, r.0), r.1))
        | inr e ↦
            let ea : n ≡ a = ap (λ (x : Join). x.a) e in
            let eb : get_or next n 0 ≡ b = ap (λ (x : Join). x.b) e in
            (omega (arith, ea), ap (λ i. get_or next i 0) (sym ea) ∙ eb)
      ];
    }

pub all_joined : (next : List ℕ) (n : ℕ) (joins : List Join) → AreJoinedBelow next n joins → n ≤ length next → length next ≤ n → AreJoinsAlong next joins
all_joined next n joins s low done = record {
  more = λ a h. s.more a (omega (arith, h, done));
  only = λ a b j. let r = s.only a b j in (omega (arith, r.0, low), r.1);
}

module _ (rule : Bool → Bool → Bool) (links : List Link) (supports : List ℕ) where
  pub no_supports : (old : List Join) → AddsSupports rule links supports 0 old old
  no_supports old = record { kept = λ a b j. j; more = λ a b s. let l = s.before in absurd (omega (arith, l)); only = λ a b j. inl j }

  later : (n a b : ℕ) → IsToBeJoined rule links supports n a b → IsToBeJoined rule links supports (n + 1) a b
  later n a b s = let l = s.before in record { before = omega (arith, l); on = s.on; stands = s.stands; between = s.between }

  pub one_support : (n to : ℕ) (old now : List Join) → AddsSupports rule links supports n old now → get_or supports n 0 ≡ to → to < length links → top_value rule (get_or links n no_link).fill ≡ rule false false →
      AddsSupports rule links supports (n + 1) old (now ++ record { a = n; b = to } ∷ [])
  one_support n to old now s on stands between =
      let new : Join = record { a = n; b = to } in
      record {
        kept = λ a b j. Contains-append_left now (new ∷ []) (record { a = a; b = b }) (s.kept a b j);
        more = λ a b t. by_eq a n
            (λ e.
            let f : to ≡ b = sym on ∙ ap (λ i. get_or supports i 0) (sym e) ∙ t.on in
            subst (λ x. IsJoin (now ++ new ∷ []) x b) (sym e) (subst (λ y. IsJoin (now ++ new ∷ []) n y) f (Contains-push now new)))
            (λ e. Contains-append_left now (new ∷ []) (record { a = a; b = b }) (s.more a b (let l = t.before in record { before = omega (arith, l, e); on = t.on; stands = t.stands; between = t.between })));
        only = λ a b j. elim (Contains-push_cases now new (record { a = a; b = b }) j) [
          | inl k ↦ elim (s.only a b k) [ inl o ↦ inl o | inr t ↦ inr (later n a b t) ]
          | inr e ↦
              let ea : n ≡ a = ap (λ (x : Join). x.a) e in
              let eb : to ≡ b = ap (λ (x : Join). x.b) e in
              inr (subst (λ x. IsToBeJoined rule links supports (n + 1) x b) ea (subst (λ y. IsToBeJoined rule links supports (n + 1) n y) eb (record { before = omega arith; on = on; stands = stands; between = between })))
        ];
      }

  pub no_more : (n : ℕ) (old now : List Join) → AddsSupports rule links supports n old now → (get_or supports n 0 < length links → top_value rule (get_or links n no_link).fill ≡ rule false false → ⊥) → AddsSupports rule links supports (n + 1) old now
  no_more n old now s none = record {
    kept = s.kept;
    more = λ a b t. by_eq a n
        (λ e. absurd (none (subst (λ i. i < length links) (sym t.on ∙ ap (λ i. get_or supports i 0) e) t.stands) (subst (λ i. top_value rule (get_or links i no_link).fill ≡ rule false false) e t.between)))
        (λ e. s.more a b (let l = t.before in record { before = omega (arith, l, e); on = t.on; stands = t.stands; between = t.between }));
    only = λ a b j. elim (s.only a b j) [ inl o ↦ inl o | inr t ↦ inr (later n a b t) ];
  }

  pub supports_to : (n m : ℕ) (old now : List Join) → n ≡ m → AddsSupports rule links supports n old now → AddsSupports rule links supports m old now
  supports_to n m old now e s = subst (λ k. AddsSupports rule links supports k old now) e s
