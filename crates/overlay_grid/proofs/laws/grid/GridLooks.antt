-- How often the grid looks, against the bound of its definition.
use Rattle.std.proofs.Common.{◌≡◌, refl, sym, ap, ap₂, ◌∙◌, ℕ, ◌+◌, ◌-◌, ◌<◌, ◌≤◌, ◌==◌, zero, suc, arith, Bool, true, false, ◌&&◌, if◌then◌else◌, IsTrue, List, [], ◌∷◌, ◌++◌, length, map}
use Rattle.std.specs.Prelude.{ℤ, nat_lt, sum_by, count_by, IsPermutation}
use Rattle.std.specs.List.{list_all, AllByRecursion, range_with_len}
use Rattle.std.specs.Ordering.{int_eq}
use Rattle.std.specs.Cmp.{both_ways as same_tests}
use Rattle.std.proofs.lemmas.Bool.{and_parts, and_from, eqb-true}
use Rattle.std.proofs.lemmas.List.{map-append, length-map}
use Rattle.std.proofs.lemmas.List.Elements.{filter-append}
use Rattle.std.proofs.lemmas.List.Sums.{sum_by-cons, sum_by-append}
use Rattle.std.proofs.lemmas.List.Sorted.{sum_by-IsPermutation}
use Rattle.overlay_geometry.specs.Points.{Pair, is_ordered, is_vertical}
use Rattle.overlay_geometry.specs.Ranges.{Rect}
use Rattle.overlay_grid.specs.Grid.{Layout, Fragment, column_index, pos_of, group_count, rect_between, fragments, IsInside}
use Rattle.overlay_intersections.specs.Looked.{count_twos, ranges_meet}
use Rattle.overlay_grid.specs.GridLooks.{fragments_meet, all_fragments, is_on_border, border_contacts, fragment_looks}
use Rattle.overlay_grid.specs.FragmentOf.{KeptFragment, kept, in_column, kept_in}
use Rattle.overlay_grid.specs.ColumnLooks.{do_heights_meet, twos_in_height, all_twos_in_height}
use Rattle.overlay_grid.specs.steps.FragmentFinder.{kept_group, looks_of_border, stands_at}
use Rattle.overlay_intersections.proofs.laws.marks.MarkBoxes.{ranges_swap}
use Rattle.overlay_grid.proofs.laws.grid.GridCounts.{sum_by-plus, sum_by-alike, sum_by-before, sum_by-none, count_by-cons, fragments_meet-by_column, heights_meet, fragments_of_column, border_contacts-on_border, border_contacts-elsewhere}
use Rattle.overlay_grid.proofs.laws.grid.GridBounds.{fragments_within_grid}
use Rattle.overlay_grid.proofs.laws.grid.GridAdding.{fragments_of_vertical}
use Rattle.std.proofs.lemmas.List.Folds.{list_all-append}
use Rattle.std.proofs.Math.Nat.{add-zero}

-- ---- twos in any order

sum_alike : {X : Type 0} (f g : X → ℕ) → ((x : X) → f x ≡ g x) → (xs : List X) → sum_by f xs ≡ sum_by g xs
sum_alike f g h [] = refl
sum_alike f g h (x ∷ xs) = sum_by-cons f x xs ∙ ap₂ (λ (m n : ℕ). m + n) (h x) (sum_alike f g h xs) ∙ sym (sum_by-cons g x xs)

sum_plus : {X : Type 0} (f g : X → ℕ) (xs : List X) → sum_by (λ x. f x + g x) xs ≡ sum_by f xs + sum_by g xs
sum_plus f g [] = refl
sum_plus f g (x ∷ xs) =
    let a = sum_by-cons (λ y. f y + g y) x xs in
    let b = sum_by-cons f x xs in
    let c = sum_by-cons g x xs in
    let d = sum_plus f g xs in
    omega arith

twice_twos : {X : Type 0} (test : X → X → Bool) → ((x y : X) → test x y ≡ test y x) → (xs : List X) → sum_by (λ x. count_by (λ y. test x y) xs) xs ≡ count_twos test xs + count_twos test xs + sum_by (λ x. if test x x then 1 else 0) xs
unfolding count_twos
twice_twos test h [] = refl
twice_twos test h (x ∷ xs) =
    let a = sum_by-cons (λ z. count_by (λ y. test z y) (x ∷ xs)) x xs in
    let b = count_by-cons (λ y. test x y) x xs in
    let c = sum_alike (λ z. count_by (λ y. test z y) (x ∷ xs)) (λ z. (if test z x then 1 else 0) + count_by (λ y. test z y) xs) (λ z. count_by-cons (λ y. test z y) x xs) xs in
    let d = sum_plus (λ z. if test z x then 1 else 0) (λ z. count_by (λ y. test z y) xs) xs in
    let e : sum_by (λ z. if test z x then 1 else 0) xs ≡ count_by (λ z. test x z) xs = sum_alike (λ z. if test z x then 1 else 0) (λ z. if test x z then 1 else 0) (λ z. ap (λ (t : Bool). if t then 1 else 0) (h z x)) xs in
    let f = sum_by-cons (λ z. if test z z then 1 else 0) x xs in
    let g = twice_twos test h xs in
    omega arith

half : (a b c d : ℕ) → a + a + c ≡ b + b + d → c ≡ d → a ≡ b
half a b c d e f = omega arith

pub twos_permuted : {X : Type 0} (test : X → X → Bool) → ((x y : X) → test x y ≡ test y x) → (xs ys : List X) → IsPermutation xs ys → count_twos test ys ≡ count_twos test xs
twos_permuted test h xs ys p =
    let inner = sum_alike (λ x. count_by (λ y. test x y) ys) (λ x. count_by (λ y. test x y) xs) (λ x. sum_by-IsPermutation (λ y. if test x y then 1 else 0) xs ys p) ys in
    let outer = sum_by-IsPermutation (λ x. count_by (λ y. test x y) xs) xs ys p in
    let own = sum_by-IsPermutation (λ x. if test x x then 1 else 0) xs ys p in
    half (count_twos test ys) (count_twos test xs) _ _ (sym (twice_twos test h ys) ∙ inner ∙ outer ∙ twice_twos test h xs) own

pub heights_back : (f g : KeptFragment) → do_heights_meet f g ≡ do_heights_meet g f
heights_back f g = same_tests _ _ (λ h. ranges_swap _ _ _ _ h) (λ h. ranges_swap _ _ _ _ h)

length-sum : {X : Type 0} (xs : List X) → sum_by (λ x. 1) xs ≡ length xs
length-sum [] = refl
length-sum (x ∷ xs) = sum_by-cons (λ y. 1) x xs ∙ ap (λ (n : ℕ). 1 + n) (length-sum xs) ∙ (let e : 1 + length xs ≡ length (x ∷ xs) = omega arith in e)

pub length_permuted : {X : Type 0} (xs ys : List X) → IsPermutation xs ys → length ys ≡ length xs
length_permuted xs ys p = sym (length-sum ys) ∙ sum_by-IsPermutation (λ x. 1) xs ys p ∙ length-sum xs

-- ---- groups and fragments of a column

abbrev rects_meet : Rect → Rect → Bool
rects_meet r q = ranges_meet r.min_y r.max_y q.min_y q.max_y

pub count-map : {X Y : Type 0} (p : Y → Bool) (f : X → Y) (xs : List X) → count_by p (map f xs) ≡ count_by (λ x. p (f x)) xs
count-map p f [] = refl
count-map p f (x ∷ xs) = count_by-cons p (f x) (map f xs) ∙ ap (λ (n : ℕ). (if p (f x) then 1 else 0) + n) (count-map p f xs) ∙ sym (count_by-cons (λ y. p (f y)) x xs)

twos-map : {X Y : Type 0} (test : Y → Y → Bool) (f : X → Y) (xs : List X) → count_twos test (map f xs) ≡ count_twos (λ x y. test (f x) (f y)) xs
unfolding count_twos
twos-map test f [] = refl
twos-map test f (x ∷ xs) = ap₂ (λ (m n : ℕ). m + n) (count-map (λ y. test (f x) y) f xs) (twos-map test f xs)

rects-kept : (i : ℕ) (s : Pair) (parts : List Fragment) → map (λ k. k.rect) (kept i s parts) ≡ map (λ p. p.rect) parts
rects-kept i s [] = refl
rects-kept i s (p ∷ parts) = ap (λ (rs : List Rect). p.rect ∷ rs) (rects-kept i s parts)

pub rects_of_group : (l : Layout) (i : ℕ) (ss : List Pair) (c : ℕ) → map (λ k. k.rect) (kept_group l i ss c) ≡ map (λ f. f.rect) (in_column c (all_fragments l ss))
unfolding kept_group all_fragments
rects_of_group l i [] c = refl
rects_of_group l i (s ∷ ss) c =
    map-append (λ k. k.rect) (kept_in l i s c) (kept_group l (i + 1) ss c)
    ∙ ap₂ (λ (a b : List Rect). a ++ b) (rects-kept i s (in_column c (fragments l s))) (rects_of_group l (i + 1) ss c)
    ∙ sym (map-append (λ f. f.rect) (in_column c (fragments l s)) (in_column c (all_fragments l ss)))
    ∙ ap (map (λ f. f.rect)) (sym (filter-append (λ f. f.column == c) (fragments l s) (all_fragments l ss)))

pub group_length : (l : Layout) (ss : List Pair) (c : ℕ) → length (kept_group l 0 ss c) ≡ length (in_column c (all_fragments l ss))
group_length l ss c = sym (length-map (kept_group l 0 ss c) (λ k. k.rect)) ∙ ap length (rects_of_group l 0 ss c) ∙ length-map (in_column c (all_fragments l ss)) (λ f. f.rect)

pub group_twos : (l : Layout) (ss : List Pair) (c : ℕ) → count_twos do_heights_meet (kept_group l 0 ss c) ≡ count_twos heights_meet (fragments_of_column (all_fragments l ss) c)
group_twos l ss c = sym (twos-map rects_meet (λ (k : KeptFragment). k.rect) (kept_group l 0 ss c)) ∙ ap (count_twos rects_meet) (rects_of_group l 0 ss c) ∙ twos-map rects_meet (λ (f : Fragment). f.rect) (in_column c (all_fragments l ss))

-- ---- all groups

within_grid : (l : Layout) (ss : List Pair) → AllByRecursion (λ s. IsTrue (is_ordered s)) ss → AllByRecursion (IsInside l) ss → IsTrue (list_all (λ f. nat_lt f.column (group_count l)) (all_fragments l ss))
unfolding all_fragments
within_grid l [] o h = refl
within_grid l (s ∷ ss) o h = rw (list_all-append (λ f. nat_lt f.column (group_count l)) (fragments l s) (all_fragments l ss)) (and_from _ _ (fragments_within_grid l s o.0 h.0.from h.0.to) (within_grid l ss o.1 h.1))

pub columns_bound : (l : Layout) (ss : List Pair) (groups : ℕ → List KeptFragment) → AllByRecursion (λ s. IsTrue (is_ordered s)) ss → AllByRecursion (IsInside l) ss → ((c : ℕ) → IsPermutation (kept_group l 0 ss c) (groups c)) →
    all_twos_in_height groups (group_count l) ≡ count_twos fragments_meet (all_fragments l ss)
columns_bound l ss groups o h same =
    let all = all_fragments l ss in
    let n = group_count l in
    let inside = within_grid l ss o h in
    let each : (c : ℕ) → twos_in_height (groups c) ≡ count_twos heights_meet (fragments_of_column all c) = λ c.
    twos_permuted do_heights_meet heights_back (kept_group l 0 ss c) (groups c) (same c) ∙ group_twos l ss c in
    sum_by-alike (λ c. twos_in_height (groups c)) (λ c. count_twos heights_meet (fragments_of_column all c)) each (range_with_len 0 n) ∙ fragments_meet-by_column all n inside

-- ---- borders

none_stands : (x : ℤ) (n : ℕ) (i : ℕ) (s : Pair) (parts : List Fragment) → is_vertical s ≡ false → sum_by (λ f. if stands_at x f then n else 0) (kept i s parts) ≡ 0
none_stands x n i s [] v = refl
none_stands x n i s (p ∷ parts) v =
    sum_by-cons (λ f. if stands_at x f then n else 0) (record { index = i; pair = s; rect = p.rect }) (kept i s parts)
    ∙ ap₂ (λ (j k : ℕ). j + k) (ap (λ (b : Bool). if b && int_eq s.a.x x then n else 0) v) (none_stands x n i s parts v)

one_stands : (l : Layout) (x : ℤ) (n : ℕ) (i : ℕ) (s : Pair) (c : ℕ) → IsTrue (is_vertical s) → sum_by (λ f. if stands_at x f then n else 0) (kept_in l i s c) ≡ (if column_index l s.a.x == c then (if int_eq s.a.x x then n else 0) else 0)
one_stands l x n i s c v =
    ap (λ (fs : List Fragment). sum_by (λ f. if stands_at x f then n else 0) (kept i s (in_column c fs))) (fragments_of_vertical l s v)
    ∙ by (column_index l s.a.x == c)
  where
    by : (b : Bool) → sum_by (λ f. if stands_at x f then n else 0) (kept i s (if b then (let part : Fragment = record { column = column_index l s.a.x; rect = rect_between s.a.x s.a.y s.b.x s.b.y } in part) ∷ [] else [])) ≡ (if b then (if int_eq s.a.x x then n else 0) else 0)
    by true = sum_by-cons (λ f. if stands_at x f then n else 0) (let part : KeptFragment = record { index = i; pair = s; rect = rect_between s.a.x s.a.y s.b.x s.b.y } in part) [] ∙ add-zero (if is_vertical s && int_eq s.a.x x then n else 0) ∙ ap (λ (b : Bool). if b && int_eq s.a.x x then n else 0) v
    by false = refl

only_one : (k : ℕ) (g : ℕ → ℕ) (a m : ℕ) → sum_by (λ c. if k == c then g c else 0) (range_with_len a m) ≤ g k
only_one k g a zero = omega arith
only_one k g a (suc m) = by (k == a) refl (only_one k g (a + 1) m)
  where
    cons : sum_by (λ c. if k == c then g c else 0) (range_with_len a (suc m)) ≡ (if k == a then g a else 0) + sum_by (λ c. if k == c then g c else 0) (range_with_len (a + 1) m)
    cons = sum_by-cons (λ c. if k == c then g c else 0) a (range_with_len (a + 1) m)

    by : (b : Bool) → (k == a) ≡ b → sum_by (λ c. if k == c then g c else 0) (range_with_len (a + 1) m) ≤ g k → sum_by (λ c. if k == c then g c else 0) (range_with_len a (suc m)) ≤ g k
    by true e later =
        let same : k ≡ a = eqb-true k a e in
        let rest = sum_by-before k g (a + 1) m (omega arith) in
        let head : (if k == a then g a else 0) ≡ g a = ap (λ (b : Bool). if b then g a else 0) e in
        let at : g a ≡ g k = ap g (sym same) in
        let c = cons in
        omega arith
    by false e rest =
        let head : (if k == a then g a else 0) ≡ 0 = ap (λ (b : Bool). if b then g a else 0) e in
        let c = cons in
        omega arith

next_equal : (k c : ℕ) → (suc k == c + 1) ≡ (k == c)
next_equal k c = grind arith

none_equal : (c : ℕ) → (0 == c + 1) ≡ false
none_equal c = grind arith

on_border_is : (l : Layout) (s : Pair) (k : ℕ) → IsTrue (is_vertical s) → column_index l s.a.x ≡ suc k → int_eq s.a.x (pos_of l (k + 1)) ≡ is_on_border l s
unfolding is_on_border
on_border_is l s k v e = by (is_vertical s) v (nat_lt 0 (column_index l s.a.x)) (positive _ _ e) ∙ ap (λ (i : ℕ). is_vertical s && nat_lt 0 (column_index l s.a.x) && int_eq s.a.x (pos_of l i)) (let q : k + 1 ≡ column_index l s.a.x = omega arith in q)
  where
    positive : (i j : ℕ) → i ≡ suc j → nat_lt 0 i ≡ true
    positive i j q = grind arith

    by : (b : Bool) → b ≡ true → (c : Bool) → c ≡ true → int_eq s.a.x (pos_of l (k + 1)) ≡ (b && c && int_eq s.a.x (pos_of l (k + 1)))
    by true h true g = refl
    by true h false g = cc
    by false h c g = cc

one_share : (l : Layout) (len : ℕ → ℕ) (i : ℕ) (s : Pair) (m : ℕ) → sum_by (λ c. sum_by (λ f. if stands_at (pos_of l (c + 1)) f then len c else 0) (kept_in l i s (c + 1))) (range_with_len 0 m) ≤ (if is_on_border l s then len (column_index l s.a.x - 1) else 0)
one_share l len i s m = by (is_vertical s) refl (column_index l s.a.x) refl
  where
    total : ℕ
    total = sum_by (λ c. sum_by (λ f. if stands_at (pos_of l (c + 1)) f then len c else 0) (kept_in l i s (c + 1))) (range_with_len 0 m)

    by : (b : Bool) → is_vertical s ≡ b → (col : ℕ) → column_index l s.a.x ≡ col → sum_by (λ c. sum_by (λ f. if stands_at (pos_of l (c + 1)) f then len c else 0) (kept_in l i s (c + 1))) (range_with_len 0 m) ≤ (if is_on_border l s then len (column_index l s.a.x - 1) else 0)
    by false v col e =
        let z = sum_by-alike (λ c. sum_by (λ f. if stands_at (pos_of l (c + 1)) f then len c else 0) (kept_in l i s (c + 1))) (λ c. 0) (λ c. none_stands (pos_of l (c + 1)) (len c) i s (in_column (c + 1) (fragments l s)) v) (range_with_len 0 m) ∙ sum_by-none (range_with_len 0 m) in
        omega arith
    by true v zero e =
        let z = sum_by-alike (λ c. sum_by (λ f. if stands_at (pos_of l (c + 1)) f then len c else 0) (kept_in l i s (c + 1))) (λ c. 0)
        (λ c. one_stands l (pos_of l (c + 1)) (len c) i s (c + 1) v ∙ ap (λ (b : Bool). if b then (if int_eq s.a.x (pos_of l (c + 1)) then len c else 0) else 0) (ap (λ (j : ℕ). j == c + 1) e ∙ none_equal c)) (range_with_len 0 m) ∙ sum_by-none (range_with_len 0 m) in
        omega arith
    by true v (suc k) e =
        let g : ℕ → ℕ = λ c. if int_eq s.a.x (pos_of l (c + 1)) then len c else 0 in
        let z = sum_by-alike (λ c. sum_by (λ f. if stands_at (pos_of l (c + 1)) f then len c else 0) (kept_in l i s (c + 1))) (λ c. if k == c then g c else 0)
        (λ c. one_stands l (pos_of l (c + 1)) (len c) i s (c + 1) v ∙ ap (λ (b : Bool). if b then g c else 0) (ap (λ (j : ℕ). j == c + 1) e ∙ next_equal k c)) (range_with_len 0 m) in
        let bound = only_one k g 0 m in
        let here : g k ≡ (if is_on_border l s then len (column_index l s.a.x - 1) else 0) =
        ap₂ (λ (b : Bool) (j : ℕ). if b then len j else 0) (on_border_is l s k v e) (let q : k ≡ column_index l s.a.x - 1 = omega arith in q) in
        omega arith

shares : (l : Layout) (len : ℕ → ℕ) (i : ℕ) (ss : List Pair) (m : ℕ) → sum_by (λ c. sum_by (λ f. if stands_at (pos_of l (c + 1)) f then len c else 0) (kept_group l i ss (c + 1))) (range_with_len 0 m) ≤ sum_by (λ s. if is_on_border l s then len (column_index l s.a.x - 1) else 0) ss
unfolding kept_group
shares l len i [] m = let z = sum_by-none (range_with_len 0 m) in omega arith
shares l len i (s ∷ ss) m =
    let f : ℕ → KeptFragment → ℕ = λ c k. if stands_at (pos_of l (c + 1)) k then len c else 0 in
    let split = sum_by-alike (λ c. sum_by (f c) (kept_in l i s (c + 1) ++ kept_group l (i + 1) ss (c + 1))) (λ c. sum_by (f c) (kept_in l i s (c + 1)) + sum_by (f c) (kept_group l (i + 1) ss (c + 1)))
    (λ c. sum_by-append (f c) (kept_in l i s (c + 1)) (kept_group l (i + 1) ss (c + 1))) (range_with_len 0 m) in
    let plus = sum_by-plus (λ c. sum_by (f c) (kept_in l i s (c + 1))) (λ c. sum_by (f c) (kept_group l (i + 1) ss (c + 1))) (range_with_len 0 m) in
    let first = one_share l len i s m in
    let rest = shares l len (i + 1) ss m in
    let last = sum_by-cons (λ t. if is_on_border l t then len (column_index l t.a.x - 1) else 0) s ss in
    omega arith

right_of : (l : Layout) (s : Pair) → IsTrue (is_on_border l s) → column_index l s.a.x ≡ column_index l s.a.x - 1 + 1
unfolding is_on_border
right_of l s h =
    let p = and_parts (is_vertical s && nat_lt 0 (column_index l s.a.x)) (int_eq s.a.x (pos_of l (column_index l s.a.x))) h in
    above (column_index l s.a.x) (and_parts (is_vertical s) (nat_lt 0 (column_index l s.a.x)) p.0).1
  where
    above : (n : ℕ) → IsTrue (nat_lt 0 n) → n ≡ n - 1 + 1
    above n q = let r : 0 < n = grind arith in omega arith

contact_is : (l : Layout) (ss : List Pair) (s : Pair) → (if is_on_border l s then length (in_column (column_index l s.a.x - 1) (all_fragments l ss)) else 0) ≡ border_contacts l ss s
contact_is l ss s = by (is_on_border l s) refl
  where
    by : (b : Bool) → is_on_border l s ≡ b → (if b then length (in_column (column_index l s.a.x - 1) (all_fragments l ss)) else 0) ≡ border_contacts l ss s
    by true e = sym (border_contacts-on_border l ss s (column_index l s.a.x - 1) e (right_of l s e))
    by false e = sym (border_contacts-elsewhere l ss s e)

pub borders_bound : (l : Layout) (ss : List Pair) (groups : ℕ → List KeptFragment) → ((c : ℕ) → IsPermutation (kept_group l 0 ss c) (groups c)) →
    sum_by (λ c. looks_of_border (pos_of l (c + 1)) (groups c) (groups (c + 1))) (range_with_len 0 (group_count l - 1)) ≤ sum_by (λ s. border_contacts l ss s) ss
unfolding looks_of_border
borders_bound l ss groups same =
    let len : ℕ → ℕ = λ c. length (in_column c (all_fragments l ss)) in
    let m = group_count l - 1 in
    let each : (c : ℕ) → sum_by (λ f. if stands_at (pos_of l (c + 1)) f then length (groups c) else 0) (groups (c + 1)) ≡ sum_by (λ f. if stands_at (pos_of l (c + 1)) f then len c else 0) (kept_group l 0 ss (c + 1)) = λ c.
    sum_by-IsPermutation (λ f. if stands_at (pos_of l (c + 1)) f then length (groups c) else 0) (kept_group l 0 ss (c + 1)) (groups (c + 1)) (same (c + 1))
    ∙ ap (λ (n : ℕ). sum_by (λ f. if stands_at (pos_of l (c + 1)) f then n else 0) (kept_group l 0 ss (c + 1))) (length_permuted (kept_group l 0 ss c) (groups c) (same c) ∙ group_length l ss c) in
    let a = sum_by-alike (λ c. sum_by (λ f. if stands_at (pos_of l (c + 1)) f then length (groups c) else 0) (groups (c + 1))) (λ c. sum_by (λ f. if stands_at (pos_of l (c + 1)) f then len c else 0) (kept_group l 0 ss (c + 1))) each (range_with_len 0 m) in
    let b = shares l len 0 ss m in
    let c = sum_alike (λ s. if is_on_border l s then len (column_index l s.a.x - 1) else 0) (λ s. border_contacts l ss s) (λ s. contact_is l ss s) ss in
    omega arith

-- the looks of both walks together
pub within_bound : (l : Layout) (ss : List Pair) (groups : ℕ → List KeptFragment) → AllByRecursion (λ s. IsTrue (is_ordered s)) ss → AllByRecursion (IsInside l) ss → ((c : ℕ) → IsPermutation (kept_group l 0 ss c) (groups c)) →
    (first middle last : ℕ) → middle ≤ first + all_twos_in_height groups (group_count l) →
    last ≤ middle + sum_by (λ c. looks_of_border (pos_of l (c + 1)) (groups c) (groups (c + 1))) (range_with_len 0 (group_count l - 1)) → last ≤ first + fragment_looks l ss
unfolding fragment_looks
within_bound l ss groups o h same first middle last a b =
    let c = columns_bound l ss groups o h same in
    let d = borders_bound l ss groups same in
    omega arith
