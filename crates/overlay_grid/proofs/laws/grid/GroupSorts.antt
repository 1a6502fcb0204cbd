-- The sort of a group by keys, each of which ends with a place.
use Rattle.std.proofs.Common.{◌≡◌, refl, sym, ap, ap₂, subst, ◌∙◌, ℕ, zero, suc, ◌+◌, ◌<◌, ◌≤◌, ◌%◌, ◌^◌, arith, List, [], ◌∷◌, ◌++◌, map, take, length, get_or, All}
use Rattle.std.specs.Prelude.{IsPermutation}
use Rattle.std.specs.List.{range_with_len}
use Rattle.std.proofs.lemmas.List.{map-append, map_more, length-map, get_or-map}
use Rattle.std.proofs.lemmas.List.FromFn.{get_or-range_with_len, length-range_with_len}
use Rattle.std.proofs.lemmas.List.Sorted.{IsPermutation-map, IsPermutation-refl, length_permutation}
use Rattle.std.proofs.lemmas.Map.Views.{All-map-IsPermutation}
use Rattle.overlay_grid.proofs.laws.grid.GridFills.{range-next}

abbrev pub place_of : ℕ → ℕ
place_of key = key % 2 ^ 32

pub keys-more : (keys next : List ℕ) (key n : ℕ) → map place_of keys ≡ range_with_len 0 n → key % 2 ^ 32 ≡ n → next ≡ keys ++ key ∷ [] → map place_of next ≡ range_with_len 0 (n + 1)
keys-more keys next key n h e p =
    ap (map place_of) p ∙ map-append place_of keys (key ∷ []) ∙ ap (λ (ns : List ℕ). ns ++ place_of key ∷ []) h ∙ ap (λ (k : ℕ). range_with_len 0 n ++ k ∷ []) e ∙ sym (range-next n)

module _ {X : Type 0} where
  any_default : (xs : List X) (i : ℕ) (d e : X) → i < length xs → get_or xs i d ≡ get_or xs i e
  any_default [] i d e h = absurd (omega arith)
  any_default (x ∷ xs) zero d e h = refl
  any_default (x ∷ xs) (suc i) d e h = any_default xs i d e (omega arith)

  -- those at all places, one after another
  all_places : (xs : List X) (d : X) → map (λ i. get_or xs i d) (range_with_len 0 (length xs)) ≡ xs
  all_places [] d = refl
  all_places (x ∷ xs) d = ap (λ (ys : List X). x ∷ ys) (from_next 0 (length xs) ∙ all_places xs d)
    where
      from_next : (a n : ℕ) → map (λ i. get_or (x ∷ xs) i d) (range_with_len (a + 1) n) ≡ map (λ i. get_or xs i d) (range_with_len a n)
      from_next a zero = refl
      from_next a (suc n) = ap₂ (λ (y : X) (ys : List X). y ∷ ys) (ap (λ (k : ℕ). get_or (x ∷ xs) k d) (let e : a + 1 ≡ suc a = omega arith in e)) (from_next (a + 1) n)

  pub picked-more : (group : List X) (keys : List ℕ) (at : ℕ) (x : X) (row next : List X) → ((none : X) → row ≡ map (λ key. get_or group (place_of key) none) (take at keys)) → at < length keys → place_of (get_or keys at 0) < length group →
      x ≡ get_or group (place_of (get_or keys at 0)) x → next ≡ row ++ x ∷ [] → (none : X) → next ≡ map (λ key. get_or group (place_of key) none) (take (at + 1) keys)
  picked-more group keys at x row next h lt within e n none =
      n ∙ ap (λ (ys : List X). ys ++ x ∷ []) (h none) ∙ ap (λ (y : X). map (λ key. get_or group (place_of key) none) (take at keys) ++ y ∷ []) (e ∙ any_default group (place_of (get_or keys at 0)) x none within)
      ∙ sym (map_more (λ key. get_or group (place_of key) none) keys at 0 lt)

  whole : (xs : List X) (n : ℕ) → length xs ≤ n → take n xs ≡ xs
  whole [] zero h = refl
  whole [] (suc n) h = refl
  whole (x ∷ xs) zero h = absurd (omega arith)
  whole (x ∷ xs) (suc n) h = ap (λ (ys : List X). x ∷ ys) (whole xs n (omega arith))

  map-map : {Y Z : Type 0} (f : Y → Z) (g : X → Y) (xs : List X) → map f (map g xs) ≡ map (λ x. f (g x)) xs
  map-map f g [] = refl
  map-map f g (x ∷ xs) = ap (λ (ys : List _). f (g x) ∷ ys) (map-map f g xs)

pub picked-end : {X : Type 0} (group : List X) (keys : List ℕ) (at : ℕ) (row : List X) → ((none : X) → row ≡ map (λ key. get_or group (place_of key) none) (take at keys)) → length keys ≤ at → (none : X) → row ≡ map (λ key. get_or group (place_of key) none) keys
picked-end group keys at row h past none = h none ∙ ap (map (λ key. get_or group (place_of key) none)) (whole keys at past)

pub picked_permutes : {X : Type 0} (group : List X) (keys sorted : List ℕ) (row : List X) → map place_of keys ≡ range_with_len 0 (length group) → IsPermutation keys sorted → ((none : X) → row ≡ map (λ key. get_or group (place_of key) none) sorted) → IsPermutation group row
picked_permutes [] keys sorted [] k p h = IsPermutation-refl []
picked_permutes [] keys sorted (y ∷ ys) k p h =
    let a = ap length (h y) in
    let b = length-map sorted (λ (key : ℕ). get_or [] (place_of key) y) in
    let c = length_permutation keys sorted p in
    let d = ap length k in
    let e = length-map keys place_of in
    absurd (omega arith)
picked_permutes (x ∷ xs) keys sorted row k p h =
    let group = x ∷ xs in
    let f : ℕ → _ = λ key. get_or group (place_of key) x in
    let first : map f keys ≡ group = sym (map-map (λ i. get_or group i x) place_of keys) ∙ ap (map (λ i. get_or group i x)) k ∙ all_places group x in
    subst (λ (us : List _). IsPermutation us row) first (subst (λ (us : List _). IsPermutation (map f keys) us) (sym (h x)) (IsPermutation-map f keys sorted p))

pub places_within : (n : ℕ) (keys sorted : List ℕ) → map place_of keys ≡ range_with_len 0 n → IsPermutation keys sorted → All (λ key. key % 2 ^ 32 < n) sorted
places_within n keys sorted k p =
    let all : All (λ m. m < n) (range_with_len 0 n) = λ i d lt. let e = get_or-range_with_len 0 n i d (let f = length-range_with_len 0 n in omega arith) in let f = length-range_with_len 0 n in omega arith in
    let there : All (λ m. m < n) (map place_of sorted) = All-map-IsPermutation place_of (λ m. m < n) keys sorted p (subst (All (λ m. m < n)) (sym k) all) in
    λ i d lt. subst (λ (m : ℕ). m < n) (get_or-map place_of sorted i d 0 lt) (there i 0 (let e = length-map sorted place_of in omega arith))
