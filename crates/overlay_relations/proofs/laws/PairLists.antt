-- Numbers chosen from a list in order, and lists of pairs that grow by those of one first number.
use Rattle.std.proofs.Common.{◌≡◌, refl, sym, ap, subst, ℕ, suc, ◌+◌, ◌<◌, inl, inr, List, [], ◌∷◌, ◌++◌, length, get_or, map, take, drop, arith}
use Rattle.std.specs.Prelude.{⊤, All, Contains, ◌↔◌, ◌⊎◌}
use Rattle.std.specs.List.{AllPairs}
use Rattle.std.proofs.Math.ListN.{get_or-append}
use Rattle.std.proofs.Math.Seq.{get_or-append_seam}
use Rattle.std.proofs.lemmas.List.{append-nil, append_assoc, length-append, take-append-drop}
use Rattle.std.proofs.lemmas.List.Elements.{All-push, All-append, All-map, All-contains, Contains-get_or, Contains-push, Contains-push_cases, Contains-append_left, Contains-append_right, Contains-append_cases}
use Rattle.std.proofs.lemmas.List.Kept.{AllPairs-cons}
use Rattle.std.proofs.lemmas.List.Quantifiers.{all_pairs_push}
use Rattle.overlay_geometry.proofs.laws.lists.Elements.{Contains-from_Has, Has-from_Contains}
use Rattle.overlay_geometry.proofs.laws.lists.Lists.{Has-map, Has-map_out}
use Rattle.overlay_relations.specs.Pairs.{Says, pair_of, Precedes, AreRelatedPairs}
use Rattle.overlay_relations.specs.declared.pairs.RelatedPair.{RelatedPair}
use Rattle.overlay_relations.specs.declared.predicate.Predicate.{Predicate}
use Rattle.overlay_relations.specs.declared.region.Region.{Region}

-- ---- lists in order

module _ {X : Type 0} (R : X → X → Type 0) where
  pub none_in_order : AllPairs R []
  none_in_order i j d l m = absurd (omega (arith, m))

  -- the first elements of a list in order are in order
  pub first_in_order : (xs ys : List X) → AllPairs R (xs ++ ys) → AllPairs R xs
  first_in_order xs ys h i j d l m =
      let more = length-append xs ys in
      subst (λ z. R z (get_or xs j d)) (get_or-append xs ys d i (omega (arith, l, m)))
      (subst (λ z. R (get_or (xs ++ ys) i d) z) (get_or-append xs ys d j m) (h i j d l (omega (arith, m, more))))

  pub taken_in_order : (n : ℕ) (xs : List X) → AllPairs R xs → AllPairs R (take n xs)
  taken_in_order n xs h = first_in_order (take n xs) (drop n xs) (subst (λ l. AllPairs R l) (sym (take-append-drop n xs)) h)

  -- each is before the last one
  pub before_last : (xs : List X) (y : X) → AllPairs R (xs ++ y ∷ []) → All (λ x. R x y) xs
  before_last xs y h k d l =
      let more = length-append xs (y ∷ []) in
      subst (λ z. R (get_or xs k d) z) (get_or-append_seam xs y [] d)
      (subst (λ z. R z (get_or (xs ++ y ∷ []) (length xs) d)) (get_or-append xs (y ∷ []) d k l) (h k (length xs) d l (omega (arith, more))))

  later : (x : X) (xs : List X) → AllPairs R (x ∷ xs) → AllPairs R xs
  later x xs h i j d l m = h (suc i) (suc j) d (omega (arith, l)) (omega (arith, m))

  before_later : (x : X) (xs : List X) → AllPairs R (x ∷ xs) → All (R x) xs
  before_later x xs h k d l = h 0 (suc k) d (omega arith) (omega (arith, l))

  pub in_order-append : (xs ys : List X) → AllPairs R xs → AllPairs R ys → ((x y : X) → Contains xs x → Contains ys y → R x y) → AllPairs R (xs ++ ys)
  in_order-append xs [] h k cross = subst (λ l. AllPairs R l) (sym (append-nil xs)) h
  in_order-append xs (y ∷ ys) h k cross =
      subst (λ l. AllPairs R l) (append_assoc xs (y ∷ []) ys)
      (in_order-append (xs ++ y ∷ []) ys
      (all_pairs_push R xs y h (λ i d l. cross (get_or xs i d) y (Contains-get_or xs i d l) (Contains-from_Has (y ∷ ys) y (inl refl))))
      (later y ys k)
      (λ x z m n. elim (Contains-push_cases xs y x m) [
        | inl i ↦ cross x z i (Contains-append_right (y ∷ []) ys z n)
        | inr e ↦ subst (λ v. R v z) e (All-contains (R y) ys z (before_later y ys k) n)
      ]))

-- ---- numbers chosen from a list

not_itself : (j k : ℕ) → j ≡ k → k < j → ⊥
not_itself j k e l = omega (arith, e, l)

module _ (Q : ℕ → Type 0 → Type 0) where
  -- Some numbers of a list, in order, exactly those that something holds of.
  pub record AreChosen (near chosen : List ℕ) : Type 0 where
    pub in_order : AllPairs (λ x y. x < y) chosen
    pub among : All (λ j. Contains near j) chosen
    pub exact : (j : ℕ) → Contains near j → Q j (Contains chosen j)

  module _ (same : (j : ℕ) (P S : Type 0) → P ↔ S → Q j P → Q j S) (near chosen : List ℕ) (j : ℕ) (ordered : AllPairs (λ x y. x < y) (near ++ j ∷ [])) (are : AreChosen near chosen) where
    less : (k : ℕ) → Contains near k → k < j
    less k m = All-contains (λ x. x < j) near k (before_last (λ x y. x < y) near j ordered) m

    not_chosen : Contains chosen j → ⊥
    not_chosen m = not_itself j j refl (less j (All-contains (λ k. Contains near k) chosen j are.among m))

    more_among : All (λ k. Contains (near ++ j ∷ []) k) chosen
    more_among k d l = Contains-append_left near (j ∷ []) (get_or chosen k d) (are.among k d l)

    pub one_chosen : Q j ⊤ → AreChosen (near ++ j ∷ []) (chosen ++ j ∷ [])
    one_chosen holds = record {
      in_order = all_pairs_push (λ x y. x < y) chosen j are.in_order (λ k d l. less (get_or chosen k d) (are.among k d l));
      among = All-push (λ k. Contains (near ++ j ∷ []) k) chosen j more_among (Contains-push near j);
      exact = λ k m. elim (Contains-push_cases near j k m) [
        | inl i ↦ same k (Contains chosen k) (Contains (chosen ++ j ∷ []) k)
            (Contains-append_left chosen (j ∷ []) k, λ c. elim (Contains-push_cases chosen j k c) [ inl here ↦ here | inr e ↦ absurd (not_itself j k e (less k i)) ])
            (are.exact k i)
        | inr e ↦ subst (λ k. Q k (Contains (chosen ++ j ∷ []) k)) e (same j ⊤ (Contains (chosen ++ j ∷ []) j) (λ t. Contains-push chosen j, λ c. tt) holds)
      ];
    }

    pub none_more_chosen : Q j ⊥ → AreChosen (near ++ j ∷ []) chosen
    none_more_chosen fails = record {
      in_order = are.in_order;
      among = more_among;
      exact = λ k m. elim (Contains-push_cases near j k m) [
        | inl i ↦ are.exact k i
        | inr e ↦ subst (λ k. Q k (Contains chosen k)) e (same j ⊥ (Contains chosen j) (λ f. absurd f, not_chosen) fails)
      ];
    }

-- ---- pairs

module _ (n : ℕ) where
  pair_after : (i j : ℕ) → i < j → Precedes (pair_of n i) (pair_of n j)
  pair_after i j l = inr (refl, l)

  pub partners_in_order : (partners : List ℕ) → AllPairs (λ x y. x < y) partners → AllPairs Precedes (map (pair_of n) partners)
  partners_in_order [] h = none_in_order Precedes
  partners_in_order (j ∷ partners) h =
      AllPairs-cons Precedes (pair_of n j) (map (pair_of n) partners)
      (All-map (λ (p : RelatedPair). Precedes (pair_of n j) p) (pair_of n) partners (λ k d l. pair_after j (get_or partners k d) (before_later (λ x y. x < y) j partners h k d l)))
      (partners_in_order partners (later (λ x y. x < y) j partners h))

  pub pair_there : (partners : List ℕ) (j : ℕ) → Contains partners j → Contains (map (pair_of n) partners) (pair_of n j)
  pair_there partners j m = Contains-from_Has (map (pair_of n) partners) (pair_of n j) (Has-map (pair_of n) partners j (Has-from_Contains partners j m))

  pub pair_out : (partners : List ℕ) (p : RelatedPair) → Contains (map (pair_of n) partners) p → (p.first ≡ n) × Contains partners p.second
  pair_out partners p m =
      let out = Has-map_out (pair_of n) partners p (Has-from_Contains (map (pair_of n) partners) p m) in
      (sym (ap (λ (q : RelatedPair). q.first) out.2), subst (λ k. Contains partners k) (ap (λ (q : RelatedPair). q.second) out.2) (Contains-from_Has partners out.0 out.1))

pub less_or_same : (i n : ℕ) → i < n + 1 → (i < n) ⊎ (i ≡ n)
less_or_same i n l = grind arith

module _ {I : Type 0} {w : _} {o : _} {e : _} {p : _} (predicate : Predicate) (first second : List (Region I w o e p)) where
  pub says_same : (x y : Region I w o e p) (P S : Type 0) → P ↔ S → Says predicate x y P → Says predicate x y S
  says_same x y P S h says subject_rule clip_rule subject clip a b =
      let is = says subject_rule clip_rule subject clip a b in (λ s. is.0 (h.1 s), λ r. h.0 (is.1 r))

  pub next_pairs : (n : ℕ) (pairs : List RelatedPair) (partners : List ℕ) → AreRelatedPairs predicate n first second pairs → AllPairs (λ x y. x < y) partners → All (λ j. j < length second) partners
      → ((j : ℕ) (x y : Region I w o e p) → j < length second → Says predicate (get_or first n x) (get_or second j y) (Contains partners j)) → AreRelatedPairs predicate (n + 1) first second (pairs ++ map (pair_of n) partners)
  next_pairs n pairs partners are ordered numbered exact = record {
    in_order =
        in_order-append Precedes pairs (map (pair_of n) partners) are.in_order (partners_in_order n partners ordered)
        (λ q r m k. inl (subst (λ i. q.first < i) (sym (pair_out n partners r k).0) (below q m)));
    numbered =
        All-append (λ (pair : RelatedPair). (pair.first < n + 1) × (pair.second < length second)) pairs (map (pair_of n) partners)
        (λ k d l. let old = are.numbered k d l in (omega (arith, old.0), old.1))
        (All-map (λ (pair : RelatedPair). (pair.first < n + 1) × (pair.second < length second)) (pair_of n) partners (λ k d l. (omega arith, numbered k d l)));
    exact = λ i j x y l m. elim (less_or_same i n l) [
      | inl before ↦ says_same (get_or first i x) (get_or second j y) (Contains pairs (pair_of i j)) (Contains (pairs ++ map (pair_of n) partners) (pair_of i j)) (
        Contains-append_left pairs (map (pair_of n) partners) (pair_of i j),
        λ c. elim (Contains-append_cases pairs (map (pair_of n) partners) (pair_of i j) c) [
          | inl here ↦ here
          | inr there ↦ absurd (not_itself n i (sym (pair_out n partners (pair_of i j) there).0) before)
        ],
      )
          (are.exact i j x y before m)
      | inr is ↦ subst (λ i. Says predicate (get_or first i x) (get_or second j y) (Contains (pairs ++ map (pair_of n) partners) (pair_of i j))) (sym is)
          (says_same (get_or first n x) (get_or second j y) (Contains partners j) (Contains (pairs ++ map (pair_of n) partners) (pair_of n j)) (
            λ c. Contains-append_right pairs (map (pair_of n) partners) (pair_of n j) (pair_there n partners j c),
            λ c. elim (Contains-append_cases pairs (map (pair_of n) partners) (pair_of n j) c) [
              | inl here ↦ absurd (not_itself n n refl (below (pair_of n j) here))
              | inr there ↦ (pair_out n partners (pair_of n j) there).1
            ],
          )
          (exact j x y m))
    ];
  }
    where
      below : (q : RelatedPair) → Contains pairs q → q.first < n
      below q m = (All-contains (λ (pair : RelatedPair). (pair.first < n) × (pair.second < length second)) pairs q are.numbered m).0
