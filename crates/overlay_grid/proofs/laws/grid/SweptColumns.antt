-- What a walk over the columns of a grid from the left has found.
use Rattle.std.proofs.Common.{◌≡◌, refl, sym, ap, ap₂, subst, ◌∙◌, ℕ, zero, suc, ◌+◌, ◌-◌, ◌<◌, ◌≤◌, inl, inr, ◌^◌, arith, append_assoc, append-nil, min, Option, None, Some, Result, Ok, Err, Bool, true, false, ◌||◌, if◌then◌else◌, List, [], ◌∷◌, ◌++◌, length, IsTrue}
use Rattle.std.specs.Prelude.{ℤ, flat_map, sum_by, IfOk, IfSome, OnOk, OnSome, IsPermutation}
use Rattle.std.specs.List.{AllByRecursion, list_any, range_with_len}
use Rattle.std.proofs.lemmas.List.Folds.{list_any-append}
use Rattle.std.proofs.lemmas.List.Sums.{sum_by-cons}
use Rattle.std.proofs.lemmas.List.Sorted.{IsPermutation-refl, IsPermutation-sym}
use Rattle.overlay_geometry.specs.Points.{Pair, is_ordered}
use Rattle.overlay_geometry.proofs.laws.lists.Elements.{Has-append_out, Has-flat_map_out}
use Rattle.overlay_geometry.proofs.laws.lists.Lists.{Has, Has-append_left, Has-append_right, Has-flat_map}
use Rattle.overlay_intersections.specs.MarkOf.{Mark}
use Rattle.overlay_intersections.specs.Marks.{Placing}
use Rattle.overlay_grid.specs.FragmentOf.{KeptFragment}
use Rattle.overlay_grid.specs.Grid.{Layout, column_index, group_count, pos_of, IsInside}
use Rattle.overlay_grid.specs.ColumnLooks.{twos_in_height, all_twos_in_height}
use Rattle.overlay_grid.specs.GridLooks.{fragment_looks}
use Rattle.overlay_grid.specs.steps.Entering.{entering, prior_group}
use Rattle.overlay_grid.specs.steps.FragmentFinder.{HoldSame, heights_at, is_ready, kept_group, looks_of_border, marks_of_border, marks_of_ends, marks_of_group, marks_of_heights, stands_at}
use Rattle.overlay_grid.specs.steps.Sweeps.{AreParted, looks_of_column, marks_of_column}
use Rattle.overlay_grid.proofs.laws.grid.BorderMarks.{AreBordersSeen, borders-more, border_to_heights, few_on_border, heights_to_border, hold_equal, hold_same}
use Rattle.overlay_grid.proofs.laws.grid.GridCounts.{sum_by-alike, sum_by-plus}
use Rattle.overlay_grid.proofs.laws.grid.GridFills.{range-next}
use Rattle.overlay_grid.proofs.laws.grid.GridFound.{Has-number, marks-permuted}
use Rattle.overlay_grid.proofs.laws.grid.GridLooks.{within_bound}
use Rattle.overlay_grid.proofs.laws.grid.GridSweeps.{none_enter}

-- a group was scanned in another order
pub permuted_more : (placing : Placing) (fs gs : List KeptFragment) (old now : List Mark) → IsPermutation fs gs → now ≡ old ++ marks_of_group placing gs → HoldSame (old ++ marks_of_group placing fs) now
permuted_more placing fs gs old now p e = subst (HoldSame (old ++ marks_of_group placing fs)) (sym e)
    (hold_same (old ++ marks_of_group placing fs) (old ++ marks_of_group placing gs) (through fs gs p) (through gs fs (IsPermutation-sym fs gs p)))
  where
    through : (fs gs : List KeptFragment) → IsPermutation fs gs → (m : Mark) → Has (old ++ marks_of_group placing fs) m → Has (old ++ marks_of_group placing gs) m
    through fs gs p m h = elim (Has-append_out old (marks_of_group placing fs) m h) [
      | inl a ↦ Has-append_left old (marks_of_group placing gs) m a
      | inr b ↦ Has-append_right old (marks_of_group placing gs) m (marks-permuted placing fs gs p m b)
    ]

-- fragments that are apart put no marks on one another
pub none_more : (old none : List Mark) → none ≡ [] → HoldSame (old ++ none) old
none_more old none e = hold_equal (old ++ none) old (ap (λ (ms : List Mark). old ++ ms) e ∙ append-nil old)

-- ---- what a call found that may give up

pub if_found : {X E : Type 0} (r : Result (Option X) E) (P Q : X → Type 0) → ((x : X) → P x → Q x) → IfOk r (λ found. IfSome found P) → IfOk r (λ found. IfSome found Q)
if_found (Ok None) P Q f h = tt
if_found (Ok (Some x)) P Q f h = f x h
if_found (Err e) P Q f h = tt

pub on_found : {X E : Type 0} (r : Result (Option X) E) (P Q : Type 0) → (P → Q) → OnOk r P → IfOk r (λ found. OnSome found Q)
on_found (Ok None) P Q f h = tt
on_found (Ok (Some x)) P Q f h = f h
on_found (Err e) P Q f h = tt

-- ---- a limit of the looks

-- what is counted up to the greatest number of 64 bits, and is less than that, is counted whole
pub capped_within : (limit : Option ℕ) (now own more : ℕ) → IfSome limit (λ most. more < 2 ^ 64 - 1) → IfSome limit (λ most. more ≤ most - now) → min own (2 ^ 64 - 1) ≤ more → IfSome limit (λ most. own ≤ most - now)
capped_within None now own more h k n = tt
capped_within (Some most) now own more h k n = omega (arith, h, k, n)

pub stays_within : (limit : Option ℕ) (now next own : ℕ) → IfSome limit (λ most. now ≤ most) → IfSome limit (λ most. own ≤ most - now) → next ≤ now + own → IfSome limit (λ most. next ≤ most)
stays_within None now next own h k n = tt
stays_within (Some most) now next own h k n = omega (arith, h, k, n)

-- ---- before the first column

all_from_first : (l : Layout) (ss : List Pair) → AllByRecursion (λ s. 0 ≤ column_index l s.a.x) ss
all_from_first l [] = tt
all_from_first l (s ∷ ss) = (omega arith, all_from_first l ss)

pub parted_at_first : (l : Layout) (ss : List Pair) → AreParted l ss 0 0
parted_at_first l ss = record { before = tt; after = all_from_first l ss }

pub none_at_first : (l : Layout) (ss : List Pair) → entering l 0 ss 0 ≡ []
none_at_first l ss = none_enter l 0 0 ss (all_from_first l ss)

pub no_heights : (x : ℤ) → IsPermutation (heights_at x []) []
unfolding heights_at
no_heights x = IsPermutation-refl []

-- ---- one column after another

pub next_ends : (l : Layout) (ss : List Pair) (c : ℕ) (group : List KeptFragment) (ys : List ℤ) → group ≡ kept_group l 0 ss c → IsPermutation (heights_at (pos_of l (c + 1)) group) ys → IsPermutation (heights_at (pos_of l (c + 1)) (prior_group l ss (c + 1))) ys
next_ends l ss c group ys e h = subst (λ (fs : List KeptFragment). IsPermutation (heights_at (pos_of l (c + 1)) fs) ys) (e ∙ ap (prior_group l ss) (let n : suc c ≡ c + 1 = omega arith in n)) h

-- the right ends of a column and its fragments were looked at
pub appended : (old middle now heights group : List Mark) → middle ≡ old ++ heights → HoldSame (middle ++ group) now → HoldSame (old ++ (heights ++ group)) now
appended old middle now heights group e h = subst (λ (ms : List Mark). HoldSame ms now) (ap (λ (ms : List Mark). ms ++ group) e ∙ append_assoc old heights group) h

pub columns-more : (least greatest : ℤ) (placing : Placing) (l : Layout) (ss : List Pair) (c : ℕ) (ys : List ℤ) (old now next : List Mark) (first count count' : ℕ) → AreBordersSeen (marks_of_column placing l ss) (looks_of_column l ss) old now first count c →
    AllByRecursion (λ f. IsTrue (is_ready least greatest f)) (kept_group l 0 ss c) → IsPermutation (heights_at (pos_of l c) (prior_group l ss c)) ys →
    HoldSame (now ++ (marks_of_heights (pos_of l c) ys (kept_group l 0 ss c) ++ marks_of_group placing (kept_group l 0 ss c))) next →
    count' ≤ count + (length (marks_of_heights (pos_of l c) ys (kept_group l 0 ss c)) + twos_in_height (kept_group l 0 ss c)) → AreBordersSeen (marks_of_column placing l ss) (looks_of_column l ss) old next first count' (c + 1)
unfolding marks_of_column looks_of_column
columns-more least greatest placing l ss c ys old now next first count count' w ready ends h n =
    let x = pos_of l c in
    let left = prior_group l ss c in
    let group = kept_group l 0 ss c in
    let few = few_on_border x left group ys ends in
    borders-more (marks_of_column placing l ss) (looks_of_column l ss) old now next (marks_of_heights x ys group ++ marks_of_group placing group) first count count' c w
    (λ m k. elim (Has-append_out (marks_of_border x left group) (marks_of_group placing group) m k) [
      | inl a ↦ Has-append_left (marks_of_heights x ys group) (marks_of_group placing group) m (border_to_heights least greatest x left group ys ready ends m a)
      | inr b ↦ Has-append_right (marks_of_heights x ys group) (marks_of_group placing group) m b
    ])
    (λ m k. elim (Has-append_out (marks_of_heights x ys group) (marks_of_group placing group) m k) [
      | inl a ↦ Has-append_left (marks_of_border x left group) (marks_of_group placing group) m (heights_to_border least greatest x left group ys ready ends m a)
      | inr b ↦ Has-append_right (marks_of_border x left group) (marks_of_group placing group) m b
    ])
    h (omega arith)

or_nothing : (b : Bool) → (b || false) ≡ b
or_nothing true = refl
or_nothing false = refl

pub flag-more : (rounds : ℕ → Bool) (c : ℕ) (now next : Bool) → now ≡ list_any rounds (range_with_len 0 c) → next ≡ (now || rounds c) → next ≡ list_any rounds (range_with_len 0 (c + 1))
flag-more rounds c now next e h =
    h ∙ ap (λ (b : Bool). b || rounds c) e
    ∙ sym (ap (list_any rounds) (range-next c) ∙ list_any-append rounds (range_with_len 0 c) (c ∷ []) ∙ ap (λ (b : Bool). list_any rounds (range_with_len 0 c) || b) (or_nothing (rounds c)))

-- ---- all columns

number_below : (a n i : ℕ) → Has (range_with_len a n) i → i < a + n
number_below a zero i h = absurd h
number_below a (suc n) i (inl e) = omega arith
number_below a (suc n) i (inr h) = let b = number_below (a + 1) n i h in omega arith

no_ends : (f : KeptFragment) (b : Bool) → (if b then marks_of_ends f [] else []) ≡ []
unfolding marks_of_ends
no_ends f true = refl
no_ends f false = refl

no_border : (x : ℤ) (group : List KeptFragment) → marks_of_border x [] group ≡ []
unfolding marks_of_border
no_border x [] = refl
no_border x (f ∷ group) = ap₂ (λ (ms ns : List Mark). ms ++ ns) (no_ends f (stands_at x f)) (no_border x group)

from_first : (n i : ℕ) → Has (range_with_len 0 n) i → i < n
from_first n i h = let b = number_below 0 n i h in omega arith

module _ (placing : Placing) (l : Layout) (ss : List Pair) (n : ℕ) where
  abbrev pub groups_part : List Mark
  groups_part = flat_map (λ column. marks_of_group placing (kept_group l 0 ss column)) (range_with_len 0 n)

  abbrev pub borders_part : List Mark
  borders_part = flat_map (λ column. marks_of_border (pos_of l (column + 1)) (kept_group l 0 ss column) (kept_group l 0 ss (column + 1))) (range_with_len 0 (n - 1))

  border_at : (c : ℕ) (m : Mark) → c < n → Has (marks_of_border (pos_of l c) (prior_group l ss c) (kept_group l 0 ss c)) m → Has borders_part m
  border_at zero m lt h = absurd (subst (λ (ms : List Mark). Has ms m) (no_border (pos_of l 0) (kept_group l 0 ss 0)) h)
  border_at (suc k) m lt h =
      let next : suc k ≡ k + 1 = omega arith in
      Has-flat_map (λ column. marks_of_border (pos_of l (column + 1)) (kept_group l 0 ss column) (kept_group l 0 ss (column + 1))) (range_with_len 0 (n - 1)) k m (Has-number (n - 1) k (omega arith))
      (subst (λ (j : ℕ). Has (marks_of_border (pos_of l j) (kept_group l 0 ss k) (kept_group l 0 ss j)) m) next h)

  border_back : (k : ℕ) (m : Mark) → k < n - 1 → Has (marks_of_border (pos_of l (k + 1)) (kept_group l 0 ss k) (kept_group l 0 ss (k + 1))) m → Has (flat_map (marks_of_column placing l ss) (range_with_len 0 n)) m
  unfolding marks_of_column
  border_back k m lt h =
      let next : k + 1 ≡ suc k = omega arith in
      Has-flat_map (marks_of_column placing l ss) (range_with_len 0 n) (suc k) m (Has-number n (suc k) (omega arith))
      (Has-append_left (marks_of_border (pos_of l (suc k)) (kept_group l 0 ss k) (kept_group l 0 ss (suc k))) (marks_of_group placing (kept_group l 0 ss (suc k))) m
      (subst (λ (j : ℕ). Has (marks_of_border (pos_of l j) (kept_group l 0 ss k) (kept_group l 0 ss j)) m) next h))

  pub columns_apart : (m : Mark) → Has (flat_map (marks_of_column placing l ss) (range_with_len 0 n)) m → Has (groups_part ++ borders_part) m
  unfolding marks_of_column
  columns_apart m h =
      let r = Has-flat_map_out (marks_of_column placing l ss) (range_with_len 0 n) m h in
      elim (Has-append_out (marks_of_border (pos_of l r.0) (prior_group l ss r.0) (kept_group l 0 ss r.0)) (marks_of_group placing (kept_group l 0 ss r.0)) m r.2) [
        | inl a ↦ Has-append_right groups_part borders_part m (border_at r.0 m (from_first n r.0 r.1) a)
        | inr b ↦ Has-append_left groups_part borders_part m (Has-flat_map (λ column. marks_of_group placing (kept_group l 0 ss column)) (range_with_len 0 n) r.0 m r.1 b)
      ]

  pub columns_joined : (m : Mark) → Has (groups_part ++ borders_part) m → Has (flat_map (marks_of_column placing l ss) (range_with_len 0 n)) m
  unfolding marks_of_column
  columns_joined m h = elim (Has-append_out groups_part borders_part m h) [
    | inl a ↦ (let r = Has-flat_map_out (λ column. marks_of_group placing (kept_group l 0 ss column)) (range_with_len 0 n) m a in
        Has-flat_map (marks_of_column placing l ss) (range_with_len 0 n) r.0 m r.1 (Has-append_right (marks_of_border (pos_of l r.0) (prior_group l ss r.0) (kept_group l 0 ss r.0)) (marks_of_group placing (kept_group l 0 ss r.0)) m r.2))
    | inr b ↦ (let r = Has-flat_map_out (λ column. marks_of_border (pos_of l (column + 1)) (kept_group l 0 ss column) (kept_group l 0 ss (column + 1))) (range_with_len 0 (n - 1)) m b in border_back r.0 m (from_first (n - 1) r.0 r.1) r.2)
  ]

-- ---- their looks

no_looks : (x : ℤ) (group : List KeptFragment) → looks_of_border x [] group ≡ 0
unfolding looks_of_border
no_looks x [] = refl
no_looks x (f ∷ group) = sum_by-cons (λ u. if stands_at x u then 0 else 0) f group ∙ ap₂ (λ (j k : ℕ). j + k) (either (stands_at x f)) (no_looks x group)
  where
    none : ℕ
    none = 0

    either : (b : Bool) → (if b then none else none) ≡ none
    either true = refl
    either false = refl

sum-shift : (f : ℕ → ℕ) (a m : ℕ) → sum_by f (range_with_len (a + 1) m) ≡ sum_by (λ c. f (c + 1)) (range_with_len a m)
sum-shift f a zero = refl
sum-shift f a (suc m) = sum_by-cons f (a + 1) (range_with_len (a + 1 + 1) m) ∙ ap (λ (k : ℕ). f (a + 1) + k) (sum-shift f (a + 1) m) ∙ sym (sum_by-cons (λ c. f (c + 1)) a (range_with_len (a + 1) m))

sum-first : (f : ℕ → ℕ) (m n : ℕ) → n ≡ m + 1 → f 0 ≡ 0 → sum_by f (range_with_len 0 n) ≡ sum_by (λ c. f (c + 1)) (range_with_len 0 m)
sum-first f m n e z =
    let s = sum_by-cons f 0 (range_with_len (0 + 1) m) in
    let t = sum-shift f 0 m in
    ap (λ (k : ℕ). sum_by f (range_with_len 0 k)) (let q : n ≡ suc m = omega arith in q) ∙ omega (arith, s, t, z)

-- the looks of all columns are those of the groups and of the borders between them
pub columns_within : (l : Layout) (ss : List Pair) → AllByRecursion (λ s. IsTrue (is_ordered s)) ss → AllByRecursion (IsInside l) ss → (first last : ℕ) → last ≤ first + sum_by (looks_of_column l ss) (range_with_len 0 (group_count l)) → last ≤ first + fragment_looks l ss
unfolding looks_of_column
columns_within l ss o i first last h =
    let groups : ℕ → List KeptFragment = kept_group l 0 ss in
    let border : ℕ → ℕ = λ c. looks_of_border (pos_of l c) (prior_group l ss c) (kept_group l 0 ss c) in
    let plus = sum_by-plus border (λ c. twos_in_height (groups c)) (range_with_len 0 (group_count l)) in
    let inner = sum-first border (group_count l - 1) (group_count l) (omega arith) (no_looks (pos_of l 0) (groups 0)) in
    let between = sum_by-alike (λ c. border (c + 1)) (λ c. looks_of_border (pos_of l (c + 1)) (groups c) (groups (c + 1)))
    (λ c. ap (λ (left : List KeptFragment). looks_of_border (pos_of l (c + 1)) left (groups (c + 1))) (ap (prior_group l ss) (let q : c + 1 ≡ suc c = omega arith in q))) (range_with_len 0 (group_count l - 1)) in
    within_bound l ss groups o i (λ c. IsPermutation-refl (groups c)) first (first + all_twos_in_height groups (group_count l)) last (omega arith) (omega arith)
