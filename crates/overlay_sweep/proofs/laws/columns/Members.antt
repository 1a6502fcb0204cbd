-- Members of lists: the greatest of them, sums that pick one segment of an arrangement, and what holds of each of its segments.
use Rattle.std.proofs.Common.{◌≡◌, ap, subst, refl, sym, ◌∙◌, arith, inl, inr}
use Rattle.std.specs.Prelude.{ℤ, pos, Bool, true, false, cond, ◌&&◌, if◌then◌else◌, List, [], ◌∷◌, All, fold, Some, None}
use Rattle.std.specs.List.{list_all}
use Rattle.std.specs.declared.cmp.Ordering.{Ordering}
use Rattle.std.specs.Ordering.{is_lt}
use Rattle.std.proofs.lemmas.Int.{ints}
use Rattle.std.proofs.lemmas.Bool.{and_parts, and_from, both_ways}
use Rattle.std.proofs.lemmas.List.Elements.{All-nil, All-cons}
use Rattle.overlay_geometry.specs.Points.{Pair, pair_cmp, pair_eq, pair_lt, is_ordered}
use Rattle.overlay_geometry.specs.Sorting.{is_strictly_sorted, greatest}
use Rattle.overlay_base.specs.Windings.{is_not_empty}
use Rattle.overlay_base.specs.Segments.{WholeSegment, pairs, is_map, are_ordered}
use Rattle.overlay_geometry.specs.Meeting.{are_apart}
use Rattle.overlay_base.specs.Planar.{is_planar}
use Rattle.overlay_geometry.proofs.laws.geometry.Points.{pair_eq_same, pair_lt-trans, pair_lt-irreflexive, from_not_same_pair}
use Rattle.overlay_sweep.proofs.laws.columns.WeightSums.{when, sum_of}
use Rattle.overlay_geometry.proofs.laws.lists.Lists.{list_all-implied, Has, Has-map, list_all-at, list_all-from_Has}
use Rattle.overlay_sweep.proofs.laws.columns.Chains.{sum_of-nothing}
use Rattle.overlay_sweep.proofs.laws.columns.AlongSegments.{is_free}

pub All-from_Has : {X : Type 0} (P : X → Type 0) (xs : List X) → ((x : X) → Has xs x → P x) → All P xs
All-from_Has P [] h = All-nil P
All-from_Has P (y ∷ ys) h = All-cons P y ys (h y (inl refl)) (All-from_Has P ys (λ x m. h x (inr m)))

-- ---- the greatest

module _ {K : Type 0} (cmp : K → K → Ordering) where
  abbrev better : K → K → K
  better best x = if is_lt (cmp x best) then best else x

  abbrev pub NotLess : K → K → Type 0
  NotLess x y = is_lt (cmp x y) ≡ false

  module _ (M : K → Type 0) (same : (x : K) → M x → NotLess x x) (asymmetric : (x y : K) → M x → M y → is_lt (cmp x y) ≡ true → NotLess y x) (trans : (x y z : K) → M x → M y → M z → NotLess x y → NotLess y z → NotLess x z) where
    top_keep : (t a x : K) (xs : List K) → M t → M a → M x → is_lt (cmp x a) ≡ true → ((u : K) → Has (a ∷ xs) u → NotLess t u) → (u : K) → Has (a ∷ x ∷ xs) u → NotLess t u
    top_keep t a x xs mt ma mx less h u (inl e) = h u (inl e)
    top_keep t a x xs mt ma mx less h u (inr (inl e)) = rw (sym e) (trans t a x mt ma mx (h a (inl refl)) (asymmetric x a mx ma less))
    top_keep t a x xs mt ma mx less h u (inr (inr m)) = h u (inr m)

    top_new : (t a x : K) (xs : List K) → M t → M a → M x → NotLess x a → ((u : K) → Has (x ∷ xs) u → NotLess t u) → (u : K) → Has (a ∷ x ∷ xs) u → NotLess t u
    top_new t a x xs mt ma mx less h u (inl e) = rw (sym e) (trans t x a mt mx ma (h x (inl refl)) less)
    top_new t a x xs mt ma mx less h u (inr m) = h u m

    in_keep : (t a x : K) (xs : List K) → Has (a ∷ xs) t → Has (a ∷ x ∷ xs) t
    in_keep t a x xs (inl e) = inl e
    in_keep t a x xs (inr m) = inr (inr m)

    fold_in_step : (a x : K) (xs : List K) (b : Bool) → Has (a ∷ xs) (fold better a xs) → Has (x ∷ xs) (fold better x xs) → Has (a ∷ x ∷ xs) (fold better (cond b a x) xs)
    fold_in_step a x xs true h k = in_keep _ a x xs h
    fold_in_step a x xs false h k = inr k

    fold_in : (a : K) (xs : List K) → Has (a ∷ xs) (fold better a xs)
    fold_in a [] = inl refl
    fold_in a (x ∷ xs) = fold_in_step a x xs (is_lt (cmp x a)) (fold_in a xs) (fold_in x xs)

    fold_top_step : (a x : K) (xs : List K) (b : Bool) → is_lt (cmp x a) ≡ b → ((y : K) → Has (a ∷ x ∷ xs) y → M y) → ((u : K) → Has (a ∷ xs) u → NotLess (fold better a xs) u) → ((u : K) → Has (x ∷ xs) u → NotLess (fold better x xs) u) →
        (u : K) → Has (a ∷ x ∷ xs) u → NotLess (fold better (cond b a x) xs) u
    fold_top_step a x xs true e ms h k = top_keep (fold better a xs) a x xs (ms _ (in_keep _ a x xs (fold_in a xs))) (ms a (inl refl)) (ms x (inr (inl refl))) e h
    fold_top_step a x xs false e ms h k = top_new (fold better x xs) a x xs (ms _ (inr (fold_in x xs))) (ms a (inl refl)) (ms x (inr (inl refl))) e k

    fold_top : (a : K) (xs : List K) → ((y : K) → Has (a ∷ xs) y → M y) → (u : K) → Has (a ∷ xs) u → NotLess (fold better a xs) u
    fold_top a [] ms u (inl e) = rw (sym e) (same a (ms a (inl refl)))
    fold_top a [] ms u (inr m) = absurd m
    fold_top a (x ∷ xs) ms u m = fold_top_step a x xs (is_lt (cmp x a)) refl ms (fold_top a xs (λ y n. ms y (in_keep y a x xs n))) (fold_top x xs (λ y n. ms y (inr n))) u m

    -- the greatest key is a key, and less than none
    pub greatest_is : (keys : List K) (t : K) → ((y : K) → Has keys y → M y) → greatest cmp keys ≡ Some t → Has keys t × ((u : K) → Has keys u → NotLess t u)
    unfolding greatest
    greatest_is [] t ms e = absurd (cc)
    greatest_is (x ∷ xs) t ms e = let found : fold better x xs ≡ t = cc in (subst (λ (z : K). Has (x ∷ xs) z) found (fold_in x xs), λ u m. subst (λ (z : K). NotLess z u) found (fold_top x xs ms u m))

  pub greatest_none : (keys : List K) (u : K) → greatest cmp keys ≡ None → Has keys u → ⊥
  unfolding greatest
  greatest_none [] u e m = m
  greatest_none (x ∷ xs) u e m = absurd (cc)

-- ---- arrangements

pub sorted_tail : (x : WholeSegment) (xs : List WholeSegment) → is_strictly_sorted pair_cmp (pairs (x ∷ xs)) ≡ true → is_strictly_sorted pair_cmp (pairs xs) ≡ true
unfolding is_strictly_sorted
sorted_tail x [] h = refl
sorted_tail x (y ∷ ys) h = (and_parts (pair_lt x.pair y.pair) _ h).1

pub sorted_all : (x : WholeSegment) (xs : List WholeSegment) → is_strictly_sorted pair_cmp (pairs (x ∷ xs)) ≡ true → list_all (λ y. pair_lt x.pair y.pair) xs ≡ true
unfolding is_strictly_sorted
sorted_all x [] h = refl
sorted_all x (y ∷ ys) h =
    let parts = and_parts (pair_lt x.pair y.pair) (is_strictly_sorted pair_cmp (pairs (y ∷ ys))) h in
    let rest = sorted_all y ys parts.1 in
    and_from _ _ parts.0 (list_all-implied (λ z. pair_lt y.pair z.pair) (λ z. pair_lt x.pair z.pair) (λ z. pair_lt y.pair z.pair) ys rest rest (λ z k l. pair_lt-trans x.pair y.pair z.pair parts.0 l))

pub differ_when_less : (s t : Pair) → pair_lt s t ≡ true → s ≡ t → ⊥
differ_when_less s t h e = both_ways (pair_lt t t) (pair_lt-irreflexive t) (ap (λ (u : Pair). pair_lt u t) (sym e) ∙ h)

-- a sum over the segments on one pair has one member
pub single_sum : (w : WholeSegment → ℤ) (t : WholeSegment) (xs : List WholeSegment) → is_strictly_sorted pair_cmp (pairs xs) ≡ true → Has xs t → sum_of (λ u. when (pair_eq u.pair t.pair) (w u)) xs ≡ w t
single_sum w t [] h m = absurd m
single_sum w t (x ∷ xs) h (inl e) =
    let rest : sum_of (λ u. when (pair_eq u.pair t.pair) (w u)) xs ≡ pos 0 = sum_of-nothing (λ u. when (pair_eq u.pair t.pair) (w u)) (λ y. pair_lt x.pair y.pair) xs (sorted_all x xs h) (λ y k. rw (from_not_same_pair y.pair t.pair (λ q. differ_when_less x.pair y.pair k (ap (λ (u : WholeSegment). u.pair) e ∙ sym q))) refl) in
    let here : pair_eq x.pair t.pair ≡ true = ap (λ (u : WholeSegment). pair_eq u.pair t.pair) e ∙ pair_eq_same t.pair in
    let same : w x ≡ w t = ap w e in
    rw (here, rest) (omega (arith, ints, same))
single_sum w t (x ∷ xs) h (inr m) =
    let less = list_all-at (λ y. pair_lt x.pair y.pair) xs t (sorted_all x xs h) m in
    let rest = single_sum w t xs (sorted_tail x xs h) m in
    rw (from_not_same_pair x.pair t.pair (differ_when_less x.pair t.pair less)) (omega (arith, ints, rest))

pub record IsArranged (xs : List WholeSegment) : Type 0 where
  pub sorted : is_strictly_sorted pair_cmp (pairs xs) ≡ true
  pub all_ordered : are_ordered xs ≡ true
  pub ordered : (s : WholeSegment) → Has xs s → is_ordered s.pair ≡ true
  pub apart : (s t : WholeSegment) → Has xs s → Has xs t → are_apart s.pair t.pair ≡ true
  pub free : (s : WholeSegment) → Has xs s → list_all (λ t. is_free s.pair t) xs ≡ true

planar_apart : (xs : List WholeSegment) → is_planar xs ≡ true → (s t : WholeSegment) → Has xs s → Has xs t → are_apart s.pair t.pair ≡ true
unfolding is_planar
planar_apart xs h s t ms mt = list_all-at (λ q. are_apart s.pair q) (pairs xs) t.pair (list_all-at (λ p. list_all (λ q. are_apart p q) (pairs xs)) (pairs xs) s.pair h (Has-map (λ (u : WholeSegment). u.pair) xs s ms)) (Has-map (λ (u : WholeSegment). u.pair) xs t mt)

map_sorted : (xs : List WholeSegment) → is_map xs ≡ true → is_strictly_sorted pair_cmp (pairs xs) ≡ true
unfolding is_map
map_sorted xs h = (and_parts (is_strictly_sorted pair_cmp (pairs xs)) _ h).0

map_ordered : (xs : List WholeSegment) → is_map xs ≡ true → (s : WholeSegment) → Has xs s → is_ordered s.pair ≡ true
unfolding is_map
map_ordered xs h s m = (and_parts (is_ordered s.pair) _ (list_all-at (λ t. is_ordered t.pair && is_not_empty t.count) xs s (and_parts (is_strictly_sorted pair_cmp (pairs xs)) _ h).1 m)).0

pub is_arranged : (xs : List WholeSegment) → is_map xs ≡ true → is_planar xs ≡ true → IsArranged xs
is_arranged xs h k = record {
  sorted = map_sorted xs h;
  all_ordered = list_all-from_Has (λ s. is_ordered s.pair) xs (map_ordered xs h);
  ordered = map_ordered xs h;
  apart = planar_apart xs k;
  free = λ s m. list_all-from_Has (λ t. is_free s.pair t) xs (λ t n. and_from _ _ (map_ordered xs h t n) (planar_apart xs k s t m n));
}
