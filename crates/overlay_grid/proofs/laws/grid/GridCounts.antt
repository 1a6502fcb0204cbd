-- Counts of a pass of the grid, column by column.
use Rattle.std.proofs.Common.{◌≡◌, refl, sym, ap, ap₂, if◌then◌else◌, ℕ, zero, suc, ◌+◌, ◌-◌, ◌<◌, ◌≤◌, ◌==◌, ◌∙◌, ◌⊎◌, inl, inr, arith, Bool, true, false, ◌&&◌, IsTrue, IsFalse, List, [], ◌∷◌, length}
use Rattle.std.specs.Prelude.{nat_lt, filter, sum_by, count_by}
use Rattle.std.specs.List.{list_all, range_with_len}
use Rattle.std.proofs.lemmas.List.Sums.{sum_by-cons, length-filter}
use Rattle.std.proofs.lemmas.Bool.{false≢true}
use Rattle.std.proofs.Math.Nat.{eq-zero-or-pos, add-zero, zero-add}
use Rattle.overlay_geometry.specs.Points.{Pair}
use Rattle.overlay_grid.specs.Grid.{Layout, Fragment, column_index}
use Rattle.overlay_intersections.specs.Looked.{count_twos, ranges_meet}
use Rattle.overlay_grid.specs.GridLooks.{fragments_meet, is_on_border, border_contacts, all_fragments}
use Rattle.overlay_intersections.proofs.laws.marks.MarkBoxes.{both}
use Rattle.overlay_geometry.proofs.laws.integers.Tests.{eqb-less, eqb-turned}

-- ---- sums over a range of columns

four : (a b c d : ℕ) → (a + b) + (c + d) ≡ (a + c) + (b + d)
four a b c d = omega arith

pub sum_by-plus : (f g : ℕ → ℕ) (xs : List ℕ) → sum_by (λ c. f c + g c) xs ≡ sum_by f xs + sum_by g xs
sum_by-plus f g [] = refl
sum_by-plus f g (x ∷ xs) =
    sum_by-cons (λ c. f c + g c) x xs ∙ ap (λ (n : ℕ). f x + g x + n) (sum_by-plus f g xs) ∙ four (f x) (g x) (sum_by f xs) (sum_by g xs) ∙ ap₂ (λ (m n : ℕ). m + n) (sym (sum_by-cons f x xs)) (sym (sum_by-cons g x xs))

pub sum_by-alike : (f g : ℕ → ℕ) → ((c : ℕ) → f c ≡ g c) → (xs : List ℕ) → sum_by f xs ≡ sum_by g xs
sum_by-alike f g h [] = refl
sum_by-alike f g h (x ∷ xs) = sum_by-cons f x xs ∙ ap₂ (λ (m n : ℕ). m + n) (h x) (sum_by-alike f g h xs) ∙ sym (sum_by-cons g x xs)

pub sum_by-none : (xs : List ℕ) → sum_by (λ c. 0) xs ≡ 0
sum_by-none [] = refl
sum_by-none (x ∷ xs) = sum_by-cons (λ c. 0) x xs ∙ ap (λ (n : ℕ). 0 + n) (sum_by-none xs)

pub equal_test : (k c : ℕ) → k ≡ c → (k == c) ≡ true
equal_test k c e = grind arith

unequal_test_above : (k c : ℕ) → c < k → (k == c) ≡ false
unequal_test_above k c h = grind arith

pick : {b b' : Bool} (m : ℕ) → b ≡ b' → (if b then m else 0) ≡ (if b' then m else 0)
pick m e = ap (λ (c : Bool). if c then m else 0) e

pub sum_by-before : (k : ℕ) (g : ℕ → ℕ) (a n : ℕ) → k < a → sum_by (λ c. if k == c then g c else 0) (range_with_len a n) ≡ 0
sum_by-before k g a zero h = refl
sum_by-before k g a (suc n) h = sum_by-cons (λ c. if k == c then g c else 0) a (range_with_len (a + 1) n) ∙ ap₂ (λ (x y : ℕ). x + y) (pick (g a) (eqb-less k a h)) (sum_by-before k g (a + 1) n (omega arith))

same_or_later : (a k : ℕ) → a ≤ k → (k ≡ a) ⊎ (a < k)
same_or_later a k h = elim (eq-zero-or-pos (k - a)) [ inl e ↦ inl (omega arith) | inr more ↦ inr (omega arith) ]

-- of a sum over columns in which only k counts
pub sum_by-only : (k : ℕ) (g : ℕ → ℕ) (a n : ℕ) → a ≤ k → k < a + n → sum_by (λ c. if k == c then g c else 0) (range_with_len a n) ≡ g k
sum_by-only k g a zero h l = absurd (omega arith)
sum_by-only k g a (suc n) h l = sum_by-cons (λ c. if k == c then g c else 0) a (range_with_len (a + 1) n) ∙ elim (same_or_later a k h) [
  | inl e ↦ ap₂ (λ (x y : ℕ). x + y) (pick (g a) (equal_test k a e)) (sum_by-before k g (a + 1) n (omega arith)) ∙ add-zero (g a) ∙ ap g (sym e)
  | inr more ↦ ap₂ (λ (x y : ℕ). x + y) (pick (g a) (unequal_test_above k a more)) (sum_by-only k g (a + 1) n (omega arith) (omega arith)) ∙ zero-add (g k)
]

pub count_by-cons : {X : Type 0} (p : X → Bool) (x : X) (xs : List X) → count_by p (x ∷ xs) ≡ (if p x then 1 else 0) + count_by p xs
count_by-cons p x xs = sum_by-cons (λ y. if p y then 1 else 0) x xs

count_by-filter : {X : Type 0} (p q : X → Bool) (xs : List X) → count_by p (filter q xs) ≡ count_by (λ x. q x && p x) xs
count_by-filter p q [] = refl
count_by-filter {X} p q (x ∷ xs) = by (q x) (count_by-filter p q xs) ∙ sym (count_by-cons (λ y. q y && p y) x xs)
  where
    by : (b : Bool) → count_by p (filter q xs) ≡ count_by (λ y. q y && p y) xs → count_by p (if b then x ∷ filter q xs else filter q xs) ≡ (if b && p x then 1 else 0) + count_by (λ y. q y && p y) xs
    by true e = count_by-cons p x (filter q xs) ∙ ap (λ (n : ℕ). (if p x then 1 else 0) + n) e
    by false e = e ∙ sym (zero-add (count_by (λ y. q y && p y) xs))

pub count_by-alike : {X : Type 0} (p q : X → Bool) → ((x : X) → p x ≡ q x) → (xs : List X) → count_by p xs ≡ count_by q xs
count_by-alike p q h [] = refl
count_by-alike p q h (x ∷ xs) = count_by-cons p x xs ∙ ap₂ (λ (b : Bool) (n : ℕ). (if b then 1 else 0) + n) (h x) (count_by-alike p q h xs) ∙ sym (count_by-cons q x xs)

less_from : (k n : ℕ) → IsTrue (nat_lt k n) → k < 0 + n
less_from k n h = grind arith

-- ---- twos of elements in one column

-- one more element, of some column
count_twos-filter_cons : {X : Type 0} (m : X → X → Bool) (b : Bool) (x : X) (ys : List X) → count_twos m (if b then x ∷ ys else ys) ≡ (if b then count_by (λ y. m x y) ys else 0) + count_twos m ys
unfolding count_twos
count_twos-filter_cons m true x ys = refl
count_twos-filter_cons m false x ys = sym (zero-add (count_twos m ys))

-- The twos of elements of one column that pass, counted column by column.
pub count_twos-by_column : {X : Type 0} (column : X → ℕ) (m : X → X → Bool) (xs : List X) (n : ℕ) → IsTrue (list_all (λ x. nat_lt (column x) n) xs) →
    sum_by (λ c. count_twos m (filter (λ x. column x == c) xs)) (range_with_len 0 n) ≡ count_twos (λ x y. (column x == column y) && m x y) xs
unfolding count_twos
count_twos-by_column column m [] n h = sum_by-none (range_with_len 0 n)
count_twos-by_column {X} column m (x ∷ xs) n h =
    let (first, rest) = both (nat_lt (column x) n) (list_all (λ y. nat_lt (column y) n) xs) h in
    let own : ℕ → ℕ = λ c. count_by (λ y. m x y) (filter (λ y. column y == c) xs) in
    let others : ℕ → ℕ = λ c. count_twos m (filter (λ y. column y == c) xs) in
    sum_by-alike (λ c. count_twos m (filter (λ y. column y == c) (x ∷ xs))) (λ c. (if column x == c then own c else 0) + others c) (λ c. count_twos-filter_cons m (column x == c) x (filter (λ y. column y == c) xs)) (range_with_len 0 n)
    ∙ sum_by-plus (λ c. if column x == c then own c else 0) others (range_with_len 0 n)
    ∙ ap₂ (λ (k l : ℕ). k + l)
    (sum_by-only (column x) own 0 n (omega arith) (less_from (column x) n first)
    ∙ count_by-filter (λ y. m x y) (λ y. column y == column x) xs
    ∙ count_by-alike (λ y. (column y == column x) && m x y) (λ y. (column x == column y) && m x y) (λ y. ap (λ (b : Bool). b && m x y) (eqb-turned (column y) (column x))) xs)
    (count_twos-by_column column m xs n rest)

count_by-none : (all : List Fragment) → count_by (λ f. false) all ≡ 0
count_by-none [] = refl
count_by-none (f ∷ all) = count_by-cons (λ f. false) f all ∙ ap (λ (n : ℕ). 0 + n) (count_by-none all)

contact_test : (b : Bool) (k c i : ℕ) → IsTrue b → i ≡ c + 1 → (b && (k + 1 == i)) ≡ (k == c)
contact_test true k c i h e = grind arith
contact_test false k c i h e = absurd (false≢true h)

-- whether the heights of two fragments meet
abbrev pub heights_meet : Fragment → Fragment → Bool
heights_meet f g = ranges_meet f.rect.min_y f.rect.max_y g.rect.min_y g.rect.max_y

-- the fragments of a column
abbrev pub fragments_of_column : List Fragment → ℕ → List Fragment
fragments_of_column all c = filter (λ f. f.column == c) all

-- Of fragments in n columns, the twos in one column whose heights meet, column by column.
pub fragments_meet-by_column : (all : List Fragment) (n : ℕ) → IsTrue (list_all (λ f. nat_lt f.column n) all) →
    sum_by (λ c. count_twos heights_meet (fragments_of_column all c)) (range_with_len 0 n) ≡ count_twos fragments_meet all
unfolding fragments_meet
fragments_meet-by_column all n h = count_twos-by_column (λ f. f.column) heights_meet all n h

-- a vertical pair on a border has one contact with each fragment of the column to its left, any other pair none
pub border_contacts-on_border : (l : Layout) (segments : List Pair) (s : Pair) (c : ℕ) → IsTrue (is_on_border l s) → column_index l s.a.x ≡ c + 1 → border_contacts l segments s ≡ length (fragments_of_column (all_fragments l segments) c)
unfolding border_contacts
border_contacts-on_border l segments s c h e =
    count_by-alike (λ f. is_on_border l s && (f.column + 1 == column_index l s.a.x)) (λ f. f.column == c) (λ f. contact_test _ _ _ _ h e) (all_fragments l segments)
    ∙ sym (length-filter (λ f. f.column == c) (all_fragments l segments))

pub border_contacts-elsewhere : (l : Layout) (segments : List Pair) (s : Pair) → IsFalse (is_on_border l s) → border_contacts l segments s ≡ 0
unfolding border_contacts
border_contacts-elsewhere l segments s h = count_by-alike (λ f. is_on_border l s && (f.column + 1 == column_index l s.a.x)) (λ f. false) (λ f. ap (λ (b : Bool). b && (f.column + 1 == column_index l s.a.x)) h) (all_fragments l segments) ∙ count_by-none (all_fragments l segments)
