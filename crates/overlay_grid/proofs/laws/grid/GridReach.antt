-- How many fragments a scan along an axis reaches, as binary searches count them, and that along y it reaches no more than share a height.
use Rattle.std.proofs.Common.{◌≡◌, refl, sym, ap, subst, ◌∙◌, get_or, ℕ, zero, suc, ◌+◌, ◌-◌, ◌^◌, ◌<◌, ◌≤◌, arith, min, Bool, true, false, if◌then◌else◌, List, [], ◌∷◌, is_lt, drop, take, length}
use Rattle.std.specs.Prelude.{ℤ, ◌≤ℤ◌, int_le, IsSortedByKey, IsPermutation, count_by, sum_by}
use Rattle.std.specs.List.{AllByRecursion, range_with_len}
use Rattle.std.specs.List.Sorted.{IsPartitionedBy, IsPartitionPoint}
use Rattle.std.specs.Ordering.{int_cmp}
use Rattle.std.proofs.lemmas.Int.{ints, clamps}
use Rattle.std.proofs.lemmas.List.{drop-map, length-drop, take_all}
use Rattle.overlay_intersections.specs.Looked.{count_twos, ranges_meet}
use Rattle.overlay_grid.specs.FragmentOf.{KeptFragment, fragment_of, fragments_of, on_axis, least_along, IsSortedAlong}
use Rattle.overlay_grid.specs.ColumnLooks.{do_heights_meet, twos_in_height, is_reached, looks_of_group}
use Rattle.overlay_grid.specs.declared.split.axis.Axis.{Axis}
use Rattle.overlay_grid.specs.declared.split.axis.Axis.TheVariants.{X, Y}
use Rattle.overlay_grid.specs.declared.split.fragment.Fragment.{Fragment as CodeFragment}
use Rattle.overlay_grid.proofs.laws.grid.GridGroups.{begins}
use Rattle.overlay_grid.proofs.laws.grid.BorderMarks.{parted_up_to}
use Rattle.overlay_grid.proofs.laws.grid.FoundFragments.{IsSortedAlong-drop}
use Rattle.overlay_grid.proofs.laws.grid.GridCounts.{count_by-cons}
use Rattle.overlay_grid.proofs.laws.grid.GridFills.{sum-next}
use Rattle.std.proofs.Math.Nat.{zero-add}

-- those from an index on, as a slice has them
pub rest_of : {I : Type 0} (whole : I → ℤ) (fs : List (CodeFragment I)) (i : ℕ) → drop i (fragments_of whole fs) ≡ fragments_of whole (take (length fs - i) (drop i fs))
rest_of whole fs i =
    let all = take_all (length fs - i) (drop i fs) (subst (λ (n : ℕ). n ≤ length fs - i) (sym (length-drop i fs)) (omega arith)) in
    drop-map (fragment_of whole) i fs ∙ ap (fragments_of whole) (sym all)

module _ {I : Type 0} (whole : I → ℤ) (axis : Axis) where
  not_before : (a b : ℤ) → a ≤ℤ b → is_lt (int_cmp b a) ≡ false
  not_before a b h = grind (arith, ints)

  by_key : (fs : List (CodeFragment I)) → IsSortedAlong axis (fragments_of whole fs) → IsSortedByKey (begins whole axis) int_cmp fs
  by_key [] h i d low high = absurd (omega arith)
  by_key (f ∷ []) h i d low high = absurd (omega arith)
  by_key (f ∷ g ∷ fs) h zero d low high = not_before _ _ h.0.0
  by_key (f ∷ g ∷ fs) h (suc i) d low high =
      subst (λ (n : ℕ). is_lt (int_cmp (begins whole axis (get_or (f ∷ g ∷ fs) n d)) (begins whole axis (get_or (g ∷ fs) i d))) ≡ false) (let e : suc (i + 1) ≡ suc i + 1 = omega arith in e) (by_key (g ∷ fs) h.1 i d (omega arith) (omega arith))

  -- those that begin up to a place come before the others
  pub parted_along : (end : ℤ) (fs : List (CodeFragment I)) → IsSortedAlong axis (fragments_of whole fs) → IsPartitionedBy (λ f. int_le (begins whole axis f) end) fs
  parted_along end fs h = parted_up_to (begins whole axis) fs (by_key fs h) end

  -- and so are those from an index on
  pub sorted_rest : (fs : List (CodeFragment I)) (i : ℕ) → IsSortedAlong axis (fragments_of whole fs) → IsSortedAlong axis (fragments_of whole (take (length fs - i) (drop i fs)))
  sorted_rest fs i h = subst (IsSortedAlong axis) (rest_of whole fs i) (IsSortedAlong-drop axis i (fragments_of whole fs) h)

-- ---- a binary search counts

pub counted_at : {X : Type 0} (p : X → Bool) (xs : List X) (n : ℕ) → n ≤ length xs → IsPartitionPoint (λ y. p y ≡ true) (λ y. p y ≡ false) xs n → n ≡ count_by p xs
counted_at p [] zero h point = refl
counted_at p [] (suc n) h point = absurd (omega arith)
counted_at p (x ∷ xs) zero h point =
    let none = point.1 zero x (omega arith) (omega arith) in
    let rest = counted_at p xs zero (omega arith) ((λ k d low high. absurd (omega arith)), (λ k d low high. point.1 (suc k) d (omega arith) (omega arith))) in
    let all = count_by-cons p x xs ∙ ap (λ (b : Bool). (if b then 1 else 0) + count_by p xs) none in
    omega arith
counted_at p (x ∷ xs) (suc n) h point =
    let one = point.0 zero x (omega arith) (omega arith) in
    let rest = counted_at p xs n (omega arith) ((λ k d low high. point.0 (suc k) d (omega arith) (omega arith)), (λ k d low high. point.1 (suc k) d (omega arith) (omega arith))) in
    let all = count_by-cons p x xs ∙ ap (λ (b : Bool). (if b then 1 else 0) + count_by p xs) one in
    omega arith

-- where a rectangle of code ends along an axis
pub on_axis-of : {A B : Type 0} (f : A → B) (axis : Axis) (x y : A) → f (on_axis axis x y) ≡ on_axis axis (f x) (f y)
on_axis-of f X x y = refl
on_axis-of f Y x y = refl

-- ---- a walk that counts, up to the greatest number

-- what is counted and what is left make up the whole
pub record IsReaching (axis : Axis) (fs : List KeptFragment) (count : ℕ) (left : List KeptFragment) : Type 0 where
  pub fits : count ≤ 2 ^ 64 - 1
  pub total : min (count + looks_of_group axis left) (2 ^ 64 - 1) ≡ min (looks_of_group axis fs) (2 ^ 64 - 1)

pub IsReaching-start : (axis : Axis) (fs : List KeptFragment) → IsReaching axis fs 0 fs
IsReaching-start axis fs = record { fits = omega arith; total = ap (λ (n : ℕ). min n (2 ^ 64 - 1)) (zero-add (looks_of_group axis fs)) }

one_further : (count own rest total most next : ℕ) → min (count + (own + rest)) most ≡ total → next ≡ min (count + own) most → min (next + rest) most ≡ total
one_further count own rest total most next h n = omega arith

pub IsReaching-more : (axis : Axis) (fs : List KeptFragment) (f : KeptFragment) (left : List KeptFragment) (count own next : ℕ) → IsReaching axis fs count (f ∷ left) → own ≡ count_by (λ g. is_reached axis f g) left → next ≡ min (count + own) (2 ^ 64 - 1) → IsReaching axis fs next left
unfolding count_twos
IsReaching-more axis fs f left count own next w is n = record {
  fits = omega (arith, n);
  total = one_further count (count_by (λ g. is_reached axis f g) left) (looks_of_group axis left) _ (2 ^ 64 - 1) next w.total (n ∙ ap (λ (k : ℕ). min (count + k) (2 ^ 64 - 1)) is);
}

pub IsReaching-end : (axis : Axis) (fs : List KeptFragment) (count : ℕ) (left : List KeptFragment) → IsReaching axis fs count left → left ≡ [] → count ≡ min (looks_of_group axis fs) (2 ^ 64 - 1)
unfolding count_twos
IsReaching-end axis fs count left w none =
    let total = rw none at w.total in
    let fits = w.fits in
    omega arith

capped : (a b count own next most : ℕ) → count ≡ min a most → own ≡ min b most → next ≡ min (count + own) most → next ≡ min (a + b) most
capped a b count own next most h k n = omega arith

pub all_more : (f : ℕ → ℕ) (column count own next : ℕ) → count ≡ min (sum_by f (range_with_len 0 column)) (2 ^ 64 - 1) → own ≡ min (f column) (2 ^ 64 - 1) → next ≡ min (count + own) (2 ^ 64 - 1) → next ≡ min (sum_by f (range_with_len 0 (column + 1))) (2 ^ 64 - 1)
all_more f column count own next h k n = capped (sum_by f (range_with_len 0 column)) (f column) count own next (2 ^ 64 - 1) h k n ∙ ap (λ (s : ℕ). min s (2 ^ 64 - 1)) (sym (sum-next f column))

-- ---- a walk that counts no less, up to the greatest number

-- what is counted and what is left are no less than the whole
pub record IsCovering (axis : Axis) (fs : List KeptFragment) (count : ℕ) (left : List KeptFragment) : Type 0 where
  pub total : min (looks_of_group axis fs) (2 ^ 64 - 1) ≤ count + looks_of_group axis left

pub IsCovering-start : (axis : Axis) (fs : List KeptFragment) → IsCovering axis fs 0 fs
IsCovering-start axis fs = record { total = omega arith }

cover_further : (whole count own begun rest most next : ℕ) → min whole most ≤ count + (begun + rest) → begun ≤ own → next ≡ min (count + own) most → min whole most ≤ next + rest
cover_further whole count own begun rest most next h k n = omega arith

pub IsCovering-more : (axis : Axis) (fs : List KeptFragment) (f : KeptFragment) (left : List KeptFragment) (count own next : ℕ) → IsCovering axis fs count (f ∷ left) → count_by (λ g. is_reached axis f g) left ≤ own → next ≡ min (count + own) (2 ^ 64 - 1) →
    IsCovering axis fs next left
unfolding count_twos
IsCovering-more axis fs f left count own next w h n = record { total = cover_further (looks_of_group axis fs) count own (count_by (λ g. is_reached axis f g) left) (looks_of_group axis left) (2 ^ 64 - 1) next w.total h n }

pub IsCovering-end : (axis : Axis) (fs : List KeptFragment) (count : ℕ) (left : List KeptFragment) → IsCovering axis fs count left → left ≡ [] → min (looks_of_group axis fs) (2 ^ 64 - 1) ≤ count
unfolding count_twos
IsCovering-end axis fs count left w none =
    let total = rw none at w.total in
    omega arith

cover_sum : (a b count own next most : ℕ) → min a most ≤ count → min b most ≤ own → next ≡ min (count + own) most → min (a + b) most ≤ next
cover_sum a b count own next most h k n = omega arith

pub all_covered : (f : ℕ → ℕ) (column count own next : ℕ) → min (sum_by f (range_with_len 0 column)) (2 ^ 64 - 1) ≤ count → min (f column) (2 ^ 64 - 1) ≤ own → next ≡ min (count + own) (2 ^ 64 - 1) → min (sum_by f (range_with_len 0 (column + 1))) (2 ^ 64 - 1) ≤ next
all_covered f column count own next h k n = subst (λ (s : ℕ). min s (2 ^ 64 - 1) ≤ next) (sym (sum-next f column)) (cover_sum (sum_by f (range_with_len 0 column)) (f column) count own next (2 ^ 64 - 1) h k n)

-- of fragments in order at most n begin up to a place that the one after n begins past
none_begin : (axis : Axis) (end : ℤ) (u : KeptFragment) (fs : List KeptFragment) → AllByRecursion (λ g. least_along axis u ≤ℤ least_along axis g) fs → int_le (least_along axis u) end ≡ false → count_by (λ g. int_le (least_along axis g) end) fs ≡ 0
none_begin axis end u [] h p = refl
none_begin axis end u (f ∷ fs) h p =
    let all = count_by-cons (λ g. int_le (least_along axis g) end) f fs ∙ ap (λ (b : Bool). (if b then 1 else 0) + count_by (λ g. int_le (least_along axis g) end) fs) (past _ _ _ h.0 p) in
    let later = none_begin axis end u fs h.1 p in
    omega arith
  where
    past : (a b z : ℤ) → a ≤ℤ b → int_le a z ≡ false → int_le b z ≡ false
    past a b z k q = grind (arith, ints)

pub few_before : (axis : Axis) (end : ℤ) (fs : List KeptFragment) (n : ℕ) (f : KeptFragment) (rest : List KeptFragment) → IsSortedAlong axis fs → drop n fs ≡ f ∷ rest → int_le (least_along axis f) end ≡ false → count_by (λ g. int_le (least_along axis g) end) fs ≤ n
few_before axis end [] n f rest s e p = omega arith
few_before axis end (u ∷ fs) zero f rest s e p =
    let first : int_le (least_along axis u) end ≡ false = first_fails u f fs rest e p in
    let all = count_by-cons (λ g. int_le (least_along axis g) end) u fs ∙ ap (λ (b : Bool). (if b then 1 else 0) + count_by (λ g. int_le (least_along axis g) end) fs) first in
    let later = none_begin axis end u fs s.0 first in
    omega arith
  where
    first_fails : (u f : KeptFragment) (fs rest : List KeptFragment) → ◌≡◌ {A = List KeptFragment} (u ∷ fs) (f ∷ rest) → int_le (least_along axis f) end ≡ false → int_le (least_along axis u) end ≡ false
    first_fails u f fs rest e p = grind arith
few_before axis end (u ∷ fs) (suc n) f rest s e p =
    let later = few_before axis end fs n f rest s.1 e p in
    at_most_one (int_le (least_along axis u) end) (count_by-cons (λ g. int_le (least_along axis g) end) u fs) later
  where
    at_most_one : (b : Bool) → count_by (λ g. int_le (least_along axis g) end) (u ∷ fs) ≡ (if b then 1 else 0) + count_by (λ g. int_le (least_along axis g) end) fs → count_by (λ g. int_le (least_along axis g) end) fs ≤ n → count_by (λ g. int_le (least_along axis g) end) (u ∷ fs) ≤ suc n
    at_most_one true c k = omega arith
    at_most_one false c k = omega arith

-- ---- along y, those that are reached share a height

reached_in_height : (f g : KeptFragment) → least_along Y f ≤ℤ least_along Y g → is_reached Y f g ≡ true → do_heights_meet f g ≡ true
unfolding ranges_meet
reached_in_height f g low reached = grind (arith, ints, clamps)

no_more : {X : Type 0} (p q : X → Bool) (x : X) (xs : List X) → (p x ≡ true → q x ≡ true) → count_by p xs ≤ count_by q xs → count_by p (x ∷ xs) ≤ count_by q (x ∷ xs)
no_more p q x xs h le = by (p x) refl (q x) refl
  where
    by : (b : Bool) → p x ≡ b → (c : Bool) → q x ≡ c → count_by p (x ∷ xs) ≤ count_by q (x ∷ xs)
    by b e c k =
        let u = count_by-cons p x xs ∙ ap (λ (d : Bool). (if d then 1 else 0) + count_by p xs) e in
        let v = count_by-cons q x xs ∙ ap (λ (d : Bool). (if d then 1 else 0) + count_by q xs) k in
        at b c e k u v
      where
        at : (b c : Bool) → p x ≡ b → q x ≡ c → count_by p (x ∷ xs) ≡ (if b then 1 else 0) + count_by p xs → count_by q (x ∷ xs) ≡ (if c then 1 else 0) + count_by q xs → count_by p (x ∷ xs) ≤ count_by q (x ∷ xs)
        at false c e k u v = (let w : count_by q xs ≤ count_by q (x ∷ xs) = rest c v in omega arith)
          where
            rest : (c : Bool) → count_by q (x ∷ xs) ≡ (if c then 1 else 0) + count_by q xs → count_by q xs ≤ count_by q (x ∷ xs)
            rest true v = omega arith
            rest false v = omega arith
        at true true e k u v = omega arith
        at true false e k u v = (let met = h e in absurd (grind arith))

first_upward : (f : KeptFragment) (gs : List KeptFragment) → AllByRecursion (λ g. least_along Y f ≤ℤ least_along Y g) gs → count_by (λ g. is_reached Y f g) gs ≤ count_by (λ g. do_heights_meet f g) gs
first_upward f [] h = omega arith
first_upward f (g ∷ gs) h = no_more (λ u. is_reached Y f u) (λ u. do_heights_meet f u) g gs (λ e. reached_in_height f g h.0 e) (first_upward f gs h.1)

pub group_upward : (fs : List KeptFragment) → IsSortedAlong Y fs → looks_of_group Y fs ≤ twos_in_height fs
unfolding count_twos
group_upward [] h = omega arith
group_upward (f ∷ fs) h = let first = first_upward f fs h.0 in let rest = group_upward fs h.1 in omega arith

-- so a scan along another axis that reaches fewer stays within them too
pub fewer_within : (x y across upward twos : ℕ) → x ≡ min across (2 ^ 64 - 1) → y ≡ min upward (2 ^ 64 - 1) → x < y → upward ≤ twos → across ≤ twos
fewer_within x y across upward twos a b lt le = omega arith
