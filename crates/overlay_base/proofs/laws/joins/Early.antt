-- A join before a list is sorted: one more segment in a bag, and small counts, which leave no sum out of range.
use Rattle.std.proofs.Common.{◌≡◌, ℕ, zero, suc, ◌+◌, ◌^◌, ◌≤◌, ◌<◌, Bool, true, false, cond, not, ◌||◌, List, [], ◌∷◌, ◌++◌, map, filter, length, get_or, refl, sym, ap, ap₂, subst, ◌∙◌, arith, IsTrue, IsFalse, lt-ltb, ltb-true}
use Rattle.std.specs.Prelude.{ℤ, ◌+ℤ◌, unsigned_abs}
use Rattle.std.specs.List.{list_any}
use Rattle.std.proofs.Math.ListN.{set}
use Rattle.std.proofs.lemmas.Int.{ints}
use Rattle.std.proofs.lemmas.Nat.{or_lt}
use Rattle.std.proofs.lemmas.List.{map-append}
use Rattle.std.proofs.lemmas.List.Sums.{sum_by_push, sum_by-cons}
use Rattle.std.proofs.lemmas.Bool.{and_parts, and_from, or_left, or_right}
use Rattle.overlay_geometry.specs.Points.{Pair, pair_eq}
use Rattle.overlay_geometry.specs.Sorting.{has_repeat}
use Rattle.overlay_base.specs.Windings.{Winding, empty, add, is_not_empty, is_count_in_range, is_valid}
use Rattle.overlay_base.specs.Segments.{WholeSegment, pairs, winding_at}
use Rattle.overlay_base.specs.Join.{join, join_leaves_range, has_equal_pairs}
use Rattle.overlay_base.specs.steps.Early.{HasOneMore, magnitude, magnitudes}
use Rattle.overlay_base.proofs.laws.counts.Windings.{cond-empty, cond-add, add_comm, add_assoc, empty-add, add-empty}
use Rattle.overlay_base.proofs.laws.joins.Bags.{count_at, winding_at-nil, winding_at-cons, winding_at-append, winding_at-gathered, windings_add, is_not_empty-false}
use Rattle.overlay_base.proofs.laws.lists.Monoids.{gathered-filter, gathered-same}
use Rattle.overlay_base.proofs.laws.joins.Maps.{join_from_windings}
use Rattle.overlay_geometry.proofs.laws.lists.Lists.{sum_by-filter_le, filter-map}
use Rattle.overlay_base.proofs.laws.joins.Ranges.{sums_leave, sums_leave-nil, sums_leave-same, sums_leave-other, join_leaves_range-sums}

-- ---- magnitudes

abs-add : (x y : ℤ) → unsigned_abs (x +ℤ y) ≤ unsigned_abs x + unsigned_abs y
abs-add x y = omega (arith, ints)

magnitude-add : (c d : Winding) → magnitude (add c d) ≤ magnitude c + magnitude d
magnitude-add c d = let x = abs-add c.subj d.subj in let y = abs-add c.clip d.clip in omega arith

pub magnitudes-cons : (s : WholeSegment) (ss : List WholeSegment) → magnitudes (s ∷ ss) ≡ magnitude s.count + magnitudes ss
magnitudes-cons s ss = sum_by-cons (λ s. magnitude s.count) s ss

in_range : (c : Winding) → magnitude c < 2 ^ 31 → is_count_in_range c ≡ true
in_range c h = and_from _ _ (lt-ltb (unsigned_abs c.subj) (2 ^ 31) (omega arith)) (lt-ltb (unsigned_abs c.clip) (2 ^ 31) (omega arith))

-- ---- one more segment

pub valid-add : (c d : Winding) → IsTrue (is_valid c) → IsTrue (is_valid d) → IsTrue (is_count_in_range (add c d)) → IsTrue (is_valid (add c d))
valid-add c d h k r =
    and_from _ _ r (lt-ltb _ _ (or_lt 2 c.mask d.mask (ltb-true _ _ (and_parts _ _ h).1) (ltb-true _ _ (and_parts _ _ k).1)))

winding_at-one : (s : WholeSegment) (q : Pair) → winding_at (s ∷ []) q ≡ count_at q s
winding_at-one s q = winding_at-cons s [] q ∙ ap (add (count_at q s)) (winding_at-nil q) ∙ add-empty (count_at q s)

exchanged : (a b c : Winding) → add (add a b) c ≡ add (add a c) b
exchanged a b c = add_assoc a b c ∙ ap (add a) (add_comm b c) ∙ sym (add_assoc a c b)

-- v is the sum of x and s, which are on one pair
record IsSumOf (x s v : WholeSegment) : Type 0 where
  held : x.pair ≡ s.pair
  pair : v.pair ≡ s.pair
  count : v.count ≡ add x.count s.count

count_at-sum : (x s v : WholeSegment) → IsSumOf x s v → (q : Pair) → count_at q v ≡ add (count_at q x) (count_at q s)
count_at-sum x s v h q =
    (λ i. cond (pair_eq (h.pair i) q) (h.count i) empty) ∙ cond-add (pair_eq s.pair q) x.count s.count
    ∙ ap (λ p. add (cond (pair_eq p q) x.count empty) (count_at q s)) (sym h.held)

module _ {X : Type 0} (whole : X → WholeSegment) where
  windings-set : (xs : List X) (i : ℕ) (v d : X) (s : WholeSegment) → i < length xs → IsSumOf (whole (get_or xs i d)) s (whole v) → (q : Pair) →
      winding_at (map whole (set xs i v)) q ≡ add (winding_at (map whole xs) q) (winding_at (s ∷ []) q)
  windings-set [] i v d s h e q = absurd (omega arith)
  windings-set (x ∷ xs) zero v d s h e q =
      winding_at-cons (whole v) (map whole xs) q ∙ ap (λ c. add c (winding_at (map whole xs) q)) (count_at-sum (whole x) s (whole v) e q)
      ∙ exchanged (count_at q (whole x)) (count_at q s) (winding_at (map whole xs) q)
      ∙ ap₂ add (sym (winding_at-cons (whole x) (map whole xs) q)) (sym (winding_at-one s q))
  windings-set (x ∷ xs) (suc i) v d s h e q =
      winding_at-cons (whole x) (map whole (set xs i v)) q ∙ ap (add (count_at q (whole x))) (windings-set xs i v d s (omega arith) e q)
      ∙ sym (add_assoc (count_at q (whole x)) (winding_at (map whole xs) q) (winding_at (s ∷ []) q))
      ∙ ap (λ c. add c (winding_at (s ∷ []) q)) (sym (winding_at-cons (whole x) (map whole xs) q))

  magnitudes-set : (xs : List X) (i : ℕ) (v d : X) (m : ℕ) → i < length xs → magnitude (whole v).count ≤ magnitude (whole (get_or xs i d)).count + m → magnitudes (map whole (set xs i v)) ≤ magnitudes (map whole xs) + m
  magnitudes-set [] i v d m h e = absurd (omega arith)
  magnitudes-set (x ∷ xs) zero v d m h e = omega (arith, magnitudes-cons (whole v) (map whole xs), magnitudes-cons (whole x) (map whole xs), e)
  magnitudes-set (x ∷ xs) (suc i) v d m h e = let r = magnitudes-set xs i v d m (omega arith) e in
      omega (arith, magnitudes-cons (whole x) (map whole (set xs i v)), magnitudes-cons (whole x) (map whole xs))

  -- where a segment is added to the one at an index, which is on its pair, there is one more
  pub HasOneMore-set : (xs : List X) (i : ℕ) (x v : X) (s : WholeSegment) → i < length xs → x ≡ get_or xs i x → (whole x).pair ≡ s.pair → (whole v).pair ≡ (whole x).pair → (whole v).count ≡ add (whole x).count s.count →
      HasOneMore (map whole xs) s (map whole (set xs i v))
  HasOneMore-set xs i x v s h is held pair count =
      let sum : IsSumOf (whole (get_or xs i x)) s (whole v) = subst (λ y. IsSumOf (whole y) s (whole v)) is (record { held = held; pair = pair ∙ held; count = count }) in
      record {
        windings = windings-set xs i v x s h sum;
        bound =
            magnitudes-set xs i v x (magnitude s.count) h
            (subst (λ c. magnitude c ≤ magnitude (whole (get_or xs i x)).count + magnitude s.count) (sym sum.count) (magnitude-add (whole (get_or xs i x)).count s.count));
      }

  -- and where it is put behind the others
  pub HasOneMore-push : (xs ys : List X) (x : X) → ys ≡ xs ++ x ∷ [] → HasOneMore (map whole xs) (whole x) (map whole ys)
  HasOneMore-push xs ys x e = record {
    windings = λ q. ap (λ l. winding_at (map whole l) q) e ∙ ap (λ l. winding_at l q) (map-append whole xs (x ∷ [])) ∙ winding_at-append (map whole xs) (whole x ∷ []) q;
    bound =
        let sum : magnitudes (map whole ys) ≡ magnitudes (map whole xs) + magnitude (whole x).count =
        ap (λ l. magnitudes (map whole l)) e ∙ ap magnitudes (map-append whole xs (x ∷ [])) ∙ sum_by_push (λ s. magnitude s.count) (map whole xs) (whole x) in
        omega arith;
  }

-- ---- no sum of small counts is too large

sums_stay : (c : Winding) (ts : List WholeSegment) (pair : Pair) → magnitude c + magnitudes ts < 2 ^ 31 → sums_leave c ts pair ≡ false
sums_stay c [] pair h = sums_leave-nil c pair
sums_stay c (t ∷ ts) pair h = by (pair_eq t.pair pair) refl (λ d. sums_stay d ts pair)
  where
    by : (b : Bool) → pair_eq t.pair pair ≡ b → ((d : Winding) → magnitude d + magnitudes ts < 2 ^ 31 → sums_leave d ts pair ≡ false) → sums_leave c (t ∷ ts) pair ≡ false
    by true e ih =
        let m = magnitude-add c t.count in
        let n = magnitudes-cons t ts in
        sums_leave-same c t ts pair e
        ∙ ap₂ (λ a b. not a || b) (in_range (add c t.count) (omega arith)) (ih (add c t.count) (omega arith))
    by false e ih = let n = magnitudes-cons t ts in sums_leave-other c t ts pair e ∙ ih c (omega arith)

none_leave : (bag segments : List WholeSegment) → magnitudes bag < 2 ^ 31 → list_any (λ s. sums_leave empty bag s.pair) segments ≡ false
none_leave bag [] h = refl
none_leave bag (s ∷ ss) h = ap₂ (λ a b. a || b) (sums_stay empty bag s.pair (omega arith)) (none_leave bag ss h)

-- where all counts together are that small, none of a join's sums leaves the range
pub small_counts_stay : (bag : List WholeSegment) → magnitudes bag < 2 ^ 31 → IsFalse (join_leaves_range bag)
small_counts_stay bag h = join_leaves_range-sums bag ∙ none_leave bag bag h

-- ---- the walk over a list

-- what was kept and what is left wind together as all do, and their counts are no greater
pub record IsKeptOf (all rest kept : List WholeSegment) : Type 0 where
  pub windings : (q : Pair) → add (winding_at kept q) (winding_at rest q) ≡ winding_at all q
  pub bound : magnitudes kept + magnitudes rest ≤ magnitudes all

pub IsKeptOf-start : (all : List WholeSegment) → IsKeptOf all all []
IsKeptOf-start all = record { windings = λ q. ap (λ c. add c (winding_at all q)) (winding_at-nil q) ∙ empty-add (winding_at all q); bound = omega arith }

pub IsKeptOf-more : (all rest kept next after : List WholeSegment) (s : WholeSegment) → IsKeptOf all rest kept → rest ≡ s ∷ next → HasOneMore kept s after → IsKeptOf all next after
IsKeptOf-more all rest kept next after s h is more = record {
  windings = λ q.
      ap (λ c. add c (winding_at next q)) (more.windings q) ∙ add_assoc (winding_at kept q) (winding_at (s ∷ []) q) (winding_at next q)
      ∙ ap (add (winding_at kept q)) (sym (winding_at-append (s ∷ []) next q) ∙ ap (λ l. winding_at l q) (sym is)) ∙ h.windings q;
  bound = let e : magnitudes rest ≡ magnitude s.count + magnitudes next = ap magnitudes is ∙ magnitudes-cons s next in let b = h.bound in let m = more.bound in omega arith;
}

-- segments with empty counts may be dropped
winding_at-not_empty : (bag : List WholeSegment) (q : Pair) → winding_at (filter (λ s. is_not_empty s.count) bag) q ≡ winding_at bag q
winding_at-not_empty bag q =
    winding_at-gathered (filter (λ s. is_not_empty s.count) bag) q ∙ gathered-filter windings_add (count_at q) (λ s. is_not_empty s.count) bag
    ∙ gathered-same windings_add _ (count_at q) (λ s. each s (is_not_empty s.count) refl) bag ∙ sym (winding_at-gathered bag q)
  where
    each : (s : WholeSegment) (b : Bool) → is_not_empty s.count ≡ b → cond b (count_at q s) empty ≡ count_at q s
    each s true e = refl
    each s false e = sym (ap (λ c. cond (pair_eq s.pair q) c empty) (is_not_empty-false s.count e) ∙ cond-empty (pair_eq s.pair q))

-- At the end the kept segments whose counts are not empty have the join of all, and counts that are no greater.
module _ {X : Type 0} (whole : X → WholeSegment) (all kept left : List X) (rest : List WholeSegment) (h : IsKeptOf (map whole all) rest (map whole kept)) (is : left ≡ filter (λ x. is_not_empty (whole x).count) kept) where
  whole_left : map whole left ≡ filter (λ s. is_not_empty s.count) (map whole kept)
  whole_left = ap (map whole) is ∙ sym (filter-map (λ s. is_not_empty s.count) whole kept)

  pub join-kept : rest ≡ [] → join (map whole left) ≡ join (map whole all)
  join-kept none =
      join_from_windings (map whole left) (map whole all)
      (λ q. ap (λ l. winding_at l q) whole_left ∙ winding_at-not_empty (map whole kept) q ∙ sym (add-empty (winding_at (map whole kept) q))
      ∙ ap (add (winding_at (map whole kept) q)) (sym (ap (λ l. winding_at l q) none ∙ winding_at-nil q)) ∙ h.windings q)

  pub magnitudes-kept : magnitudes (map whole left) ≤ magnitudes (map whole all)
  magnitudes-kept =
      let e : magnitudes (map whole left) ≡ magnitudes (filter (λ s. is_not_empty s.count) (map whole kept)) = ap magnitudes whole_left in
      let f : magnitudes (filter (λ s. is_not_empty s.count) (map whole kept)) ≤ magnitudes (map whole kept) = sum_by-filter_le (λ (s : WholeSegment). magnitude s.count) (λ s. is_not_empty s.count) (map whole kept) in
      let b = h.bound in
      omega arith

-- ---- one pair at two indexes

module _ {X : Type 0} (whole : X → WholeSegment) where
  found : (test : Pair → Bool) (xs : List X) (j : ℕ) (y : X) → j < length xs → y ≡ get_or xs j y → test (whole y).pair ≡ true → list_any test (pairs (map whole xs)) ≡ true
  found test [] j y h e t = absurd (omega arith)
  found test (x ∷ xs) zero y h e t = or_left _ _ (ap (λ u. test (whole u).pair) (sym e) ∙ t)
  found test (x ∷ xs) (suc j) y h e t = or_right _ _ (found test xs j y (omega arith) e t)

  pub has_equal_pairs-at : (xs : List X) (i j : ℕ) (x y : X) → i < j → j < length xs → x ≡ get_or xs i x → y ≡ get_or xs j y → pair_eq (whole x).pair (whole y).pair ≡ true → IsTrue (has_equal_pairs (map whole xs))
  unfolding has_repeat
  has_equal_pairs-at [] i j x y h k d e t = absurd (omega arith)
  has_equal_pairs-at (z ∷ zs) i zero x y h k d e t = absurd (omega arith)
  has_equal_pairs-at (z ∷ zs) zero (suc j) x y h k d e t = or_left _ _ (found (λ p. pair_eq (whole z).pair p) zs j y (omega arith) e (ap (λ u. pair_eq (whole u).pair (whole y).pair) (sym d) ∙ t))
  has_equal_pairs-at (z ∷ zs) (suc i) (suc j) x y h k d e t = or_right _ _ (has_equal_pairs-at zs i j x y (omega arith) (omega arith) d e t)
