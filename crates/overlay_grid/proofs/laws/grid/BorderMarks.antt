-- Marks on vertical segments on a border.
use Rattle.std.proofs.Common.{◌≡◌, refl, sym, ap, ap₂, subst, ◌∙◌, inl, inr, ℕ, zero, suc, ◌+◌, ◌-◌, ◌<◌, ◌≤◌, arith, append_assoc, append-nil, Bool, true, false, ◌&&◌, not, if◌then◌else◌, IsTrue, List, [], ◌∷◌, ◌++◌, drop, get_or, is_lt, length, map, filter}
use Rattle.std.specs.Prelude.{ℤ, ◌-ℤ◌, ◌≤ℤ◌, ◌<ℤ◌, flat_map, sum_by, int_lt, int_le, IsPermutation, IsSortedByKey}
use Rattle.std.specs.List.{AllByRecursion, AllWithin, range_with_len}
use Rattle.std.specs.List.Sorted.{IsPartitionedBy}
use Rattle.std.specs.Ordering.{int_cmp}
use Rattle.std.specs.Int.{int_min, int_max}
use Rattle.std.specs.Ordering.{int_eq}
use Rattle.std.specs.Cmp.{both_ways as same_tests}
use Rattle.std.proofs.lemmas.Int.{ints, clamps, by_lt_z}
use Rattle.std.proofs.lemmas.Bool.{and_parts, and_from}
use Rattle.std.proofs.lemmas.List.{length-append, length-map}
use Rattle.std.proofs.lemmas.List.Sorted.{IsPermutation-sym, length_permutation}
use Rattle.std.proofs.lemmas.List.Sums.{sum_by-cons, sum_by-append, count_by-le-length, length-filter}
use Rattle.std.proofs.lemmas.Grind.{flat_map-append}
use Rattle.overlay_geometry.proofs.laws.lists.Lists.{Has, Has-append_left, Has-append_right, Has-map, Has-map_out, Has-filter, Has-filter_out, Has-flat_map, AllByRecursion-at}
use Rattle.overlay_geometry.proofs.laws.lists.Elements.{Has-append_out, Has-flat_map_out, Contains-from_Has, Has-from_Contains}
use Rattle.overlay_geometry.specs.Points.{Point, Pair, is_vertical, is_ordered, is_strictly_inside, lies_on, is_in_box, is_end}
use Rattle.overlay_intersections.specs.MarkOf.{Mark}
use Rattle.overlay_intersections.specs.MarksBetween.{marks_at}
use Rattle.overlay_grid.specs.FragmentOf.{KeptFragment}
use Rattle.overlay_grid.specs.steps.FragmentFinder.{HoldSame, is_ready, marks_of_ends, marks_of_border, looks_of_border, stands_at, heights_at, marks_at_heights, marks_of_heights}
use Rattle.overlay_grid.proofs.laws.grid.GridFills.{range-next}
use Rattle.overlay_grid.proofs.laws.grid.GridFound.{ends_out, same_has}
use Rattle.overlay_intersections.proofs.laws.marks.MarkBoxes.{inside}
use Rattle.overlay_grid.proofs.laws.grid.GridFragments.{RunsUp}
use Rattle.overlay_grid.proofs.laws.grid.GridFinder.{turn_upright, upright_inside}
use Rattle.overlay_geometry.proofs.laws.integers.Tests.{le-test, eq-test, lt-tested, eq-tested, le_through}
use Rattle.overlay_geometry.proofs.laws.integers.Products.{times_nothing}
use Rattle.std.proofs.Math.Nat.{add-zero}

-- ---- a point strictly inside a vertical segment

-- the test as code makes it
abbrev pub is_between_ends : Pair → Point → Bool
is_between_ends s p = int_eq p.x s.a.x && (int_lt s.a.y p.y && int_lt p.y s.b.y)

vertical_same : (s : Pair) → IsTrue (is_vertical s) → s.a.x ≡ s.b.x
vertical_same s v = grind (arith, ints)

vertical_up : (s : Pair) → IsTrue (is_vertical s) → IsTrue (is_ordered s) → s.a.y <ℤ s.b.y
vertical_up s v o = grind (arith, ints)

pub runs_up : (s : Pair) → IsTrue (is_vertical s) → IsTrue (is_ordered s) → RunsUp s
runs_up s v o = record { upright = vertical_same s v; upward = vertical_up s v o }

strict_low : (a b x x' : ℤ) → a ≤ℤ b → (x ≡ x' → b ≡ a → ⊥) → x ≡ x' → IsTrue (int_lt a b)
strict_low a b x x' h n e = by_lt_z a b (λ less. grind (arith, ints)) (λ more. absurd (n e (omega (arith, ints))))

strict_high : (a b x x' : ℤ) → a ≤ℤ b → (x ≡ x' → a ≡ b → ⊥) → x ≡ x' → IsTrue (int_lt a b)
strict_high a b x x' h n e = by_lt_z a b (λ less. grind (arith, ints)) (λ more. absurd (n e (omega (arith, ints))))

between_from : (s : Pair) (p : Point) → RunsUp s → IsTrue (is_strictly_inside s p) → IsTrue (is_between_ends s p)
between_from s p u h =
    let i = inside s p h in
    let (x, low, high) = upright_inside s p u i in
    and_from _ _ (eq-test _ _ x) (and_from _ _ (strict_low s.a.y p.y p.x s.a.x low i.not_a x) (strict_high p.y s.b.y p.x s.b.x high i.not_b (x ∙ u.upright)))

not_ends : (s : Pair) (p : Point) → s.a.y <ℤ p.y → p.y <ℤ s.b.y → IsTrue (not (is_end s p))
not_ends s p h k = grind (arith, ints)

in_its_box : (s : Pair) (p : Point) → s.a.x ≡ s.b.x → p.x ≡ s.a.x → s.a.y <ℤ p.y → p.y <ℤ s.b.y → IsTrue (is_in_box s p)
unfolding is_in_box
in_its_box s p e x h k = and_from _ _
    (and_from _ _ (le-test (int_min s.a.x s.b.x) p.x (omega (arith, ints, clamps))) (le-test p.x (int_max s.a.x s.b.x) (omega (arith, ints, clamps))))
    (and_from _ _ (le-test (int_min s.a.y s.b.y) p.y (omega (arith, ints, clamps))) (le-test p.y (int_max s.a.y s.b.y) (omega (arith, ints, clamps))))

inside_from : (s : Pair) (p : Point) → RunsUp s → IsTrue (is_between_ends s p) → IsTrue (is_strictly_inside s p)
unfolding is_strictly_inside lies_on
inside_from s p u h =
    let parts = and_parts (int_eq p.x s.a.x) (int_lt s.a.y p.y && int_lt p.y s.b.y) h in
    let ys = and_parts (int_lt s.a.y p.y) (int_lt p.y s.b.y) parts.1 in
    let x : p.x ≡ s.a.x = eq-tested p.x s.a.x parts.0 in
    let low = lt-tested s.a.y p.y ys.0 in
    let high = lt-tested p.y s.b.y ys.1 in
    let z = turn_upright s p u ∙ times_nothing (s.b.y -ℤ s.a.y) (s.a.x -ℤ p.x) (omega (arith, ints)) in
    and_from _ _ (and_from _ _ (eq-test _ _ z) (in_its_box s p u.upright x low high)) (not_ends s p low high)

pub inside_is : (s : Pair) (p : Point) → IsTrue (is_vertical s) → IsTrue (is_ordered s) → is_between_ends s p ≡ is_strictly_inside s p
inside_is s p v o = let u = runs_up s v o in same_tests (is_between_ends s p) (is_strictly_inside s p) (λ h. inside_from s p u h) (λ h. between_from s p u h)

-- ---- lists of code under a view

pub mapped-next : {X Y : Type 0} (v : X → Y) (xs : List X) (j : ℕ) (x : X) → j < length xs → x ≡ get_or xs j x → drop j (map v xs) ≡ v x ∷ drop (j + 1) (map v xs)
mapped-next v [] j x lt e = absurd (omega arith)
mapped-next v (y ∷ xs) zero x lt e = ap (λ (u : _). v u ∷ map v xs) (sym e)
mapped-next v (y ∷ xs) (suc j) x lt e = mapped-next v xs j x (omega arith) e ∙ ap (λ (n : ℕ). v x ∷ drop n (map v (y ∷ xs))) (let m : suc (j + 1) ≡ suc j + 1 = omega arith in m)

-- ---- heights in order

not_less : (a b : ℤ) → is_lt (int_cmp b a) ≡ false → a ≤ℤ b
not_less a b e = grind (arith, ints)

module _ {I : Type 0} (whole : I → ℤ) (hs : List I) (sorted : IsSortedByKey whole int_cmp hs) where
  ascends_by : (n i : ℕ) (d : I) → i + n < length hs → whole (get_or hs i d) ≤ℤ whole (get_or hs (i + n) d)
  ascends_by zero i d lt = subst (λ (k : ℕ). whole (get_or hs i d) ≤ℤ whole (get_or hs k d)) (let e : i ≡ i + 0 = omega arith in e) (omega (arith, ints))
  ascends_by (suc n) i d lt =
      let step = not_less _ _ (sorted (i + n) d (omega arith) (omega arith)) in
      subst (λ (k : ℕ). whole (get_or hs i d) ≤ℤ whole (get_or hs k d)) (let e : i + n + 1 ≡ i + suc n = omega arith in e) (le_through _ _ _ (ascends_by n i d (omega arith)) step)

  ascends_at : (i j : ℕ) (d : I) → i ≤ j → j < length hs → whole (get_or hs i d) ≤ℤ whole (get_or hs j d)
  ascends_at i j d le lt = subst (λ (k : ℕ). whole (get_or hs i d) ≤ℤ whole (get_or hs k d)) (let e : i + (j - i) ≡ j = omega arith in e) (ascends_by (j - i) i d (omega arith))

  pub parted_up_to : (top : ℤ) → IsPartitionedBy (λ y. int_le (whole y) top) hs
  parted_up_to top i j d le lt e = low_enough _ _ (ascends_at i j d le lt) e
    where
      low_enough : (u v : ℤ) → u ≤ℤ v → int_le v top ≡ true → int_le u top ≡ true
      low_enough u v h e = grind (arith, ints)

  pub parted_below : (top : ℤ) → IsPartitionedBy (λ y. int_lt (whole y) top) hs
  parted_below top i j d le lt e = low_enough _ _ (ascends_at i j d le lt) e
    where
      low_enough : (u v : ℤ) → u ≤ℤ v → int_lt v top ≡ true → int_lt u top ≡ true
      low_enough u v h e = grind (arith, ints)

-- ---- the walk over the heights on one vertical segment

abbrev height_mark : KeptFragment → ℤ → Mark
height_mark f y = record { index = f.index; point = record { x = f.pair.a.x; y = y } }

abbrev lies_between : KeptFragment → ℤ → Bool
lies_between f y = int_lt f.pair.a.y y && int_lt y f.pair.b.y

marks_inside : (f : KeptFragment) (y : ℤ) (ys : List ℤ) → lies_between f y ≡ true → marks_at_heights f (y ∷ ys) ≡ height_mark f y ∷ marks_at_heights f ys
unfolding marks_at_heights
marks_inside f y ys e = ap (λ (b : Bool). map (λ z. height_mark f z) (if b then y ∷ filter (λ z. lies_between f z) ys else filter (λ z. lies_between f z) ys)) e

marks_outside : (f : KeptFragment) (y : ℤ) (ys : List ℤ) → lies_between f y ≡ false → marks_at_heights f (y ∷ ys) ≡ marks_at_heights f ys
unfolding marks_at_heights
marks_outside f y ys e = ap (λ (b : Bool). map (λ z. height_mark f z) (if b then y ∷ filter (λ z. lies_between f z) ys else filter (λ z. lies_between f z) ys)) e

no_marks : (f : KeptFragment) → marks_at_heights f [] ≡ []
unfolding marks_at_heights
no_marks f = refl

too_low : (f : KeptFragment) (y : ℤ) → y ≤ℤ f.pair.a.y → lies_between f y ≡ false
too_low f y h = grind (arith, ints)

too_high : (f : KeptFragment) (y : ℤ) → f.pair.b.y ≤ℤ y → lies_between f y ≡ false
too_high f y h = grind (arith, ints)

both_tests : (f : KeptFragment) (y : ℤ) → f.pair.a.y <ℤ y → y <ℤ f.pair.b.y → lies_between f y ≡ true
both_tests f y h k = grind (arith, ints)

-- none of the first heights lies between the ends
pub low_skipped : {I : Type 0} (whole : I → ℤ) (f : KeptFragment) (hs : List I) (start : ℕ) → AllWithin (λ y. whole y ≤ℤ f.pair.a.y) hs 0 start → marks_at_heights f (drop start (map whole hs)) ≡ marks_at_heights f (map whole hs)
low_skipped whole f [] zero h = refl
low_skipped whole f [] (suc n) h = refl
low_skipped whole f (x ∷ hs) zero h = refl
low_skipped whole f (x ∷ hs) (suc n) h =
    low_skipped whole f hs n (λ k d low high. h (suc k) d (omega arith) (omega arith)) ∙ sym (marks_outside f (whole x) (map whole hs) (too_low f (whole x) (h 0 x (omega arith) (omega arith))))

-- nor of the last
pub high_none : {I : Type 0} (whole : I → ℤ) (f : KeptFragment) (hs : List I) (end j : ℕ) → AllWithin (λ y. f.pair.b.y ≤ℤ whole y) hs end (length hs) → end ≤ j → marks_at_heights f (drop j (map whole hs)) ≡ []
high_none whole f [] end zero h le = no_marks f
high_none whole f [] end (suc j) h le = no_marks f
high_none whole f (x ∷ hs) end zero h le =
    marks_outside f (whole x) (map whole hs) (too_high f (whole x) (h 0 x le (omega arith))) ∙ high_none whole f hs 0 0 (λ k d low high. h (suc k) d (omega arith) (omega arith)) (omega arith)
high_none whole f (x ∷ hs) end (suc j) h le = high_none whole f hs (end - 1) j (λ k d low high. h (suc k) d (omega arith) (omega arith)) (omega arith)

-- where the walk is: what it has found and what is left make up the whole, and each look made a mark
pub record AreHeightsSeen (f : KeptFragment) (ys : List ℤ) (old now : List Mark) (first looks : ℕ) (rest : List ℤ) : Type 0 where
  pub found : now ++ marks_at_heights f rest ≡ old ++ marks_at_heights f ys
  pub count : looks + length (marks_at_heights f rest) ≤ first + length (marks_at_heights f ys)

pub heights-start : (f : KeptFragment) (ys : List ℤ) (old : List Mark) (first : ℕ) (rest : List ℤ) → marks_at_heights f rest ≡ marks_at_heights f ys → AreHeightsSeen f ys old old first first rest
heights-start f ys old first rest e = record { found = ap (λ (ms : List Mark). old ++ ms) e; count = (let l : length (marks_at_heights f rest) ≡ length (marks_at_heights f ys) = ap length e in omega arith) }

pub heights-more : (f : KeptFragment) (y : ℤ) (ys : List ℤ) (old now next : List Mark) (first looks looks' : ℕ) (rest : List ℤ) → AreHeightsSeen f ys old now first looks (y ∷ rest) → f.pair.a.y <ℤ y → y <ℤ f.pair.b.y →
    next ≡ now ++ record { index = f.index; point = record { x = f.pair.a.x; y = y } } ∷ [] → looks' ≤ looks + 1 → AreHeightsSeen f ys old next first looks' rest
heights-more f y ys old now next first looks looks' rest w low high n le =
    let here = marks_inside f y rest (both_tests f y low high) in
    record {
      found = ap (λ (ms : List Mark). ms ++ marks_at_heights f rest) n ∙ append_assoc now (height_mark f y ∷ []) (marks_at_heights f rest) ∙ ap (λ (ms : List Mark). now ++ ms) (sym here) ∙ w.found;
      count = (let c = w.count in let l : length (marks_at_heights f (y ∷ rest)) ≡ suc (length (marks_at_heights f rest)) = ap length here in omega arith);
    }

pub heights-end : (f : KeptFragment) (ys : List ℤ) (old now : List Mark) (first looks : ℕ) (rest : List ℤ) → AreHeightsSeen f ys old now first looks rest → marks_at_heights f rest ≡ [] →
    (now ≡ old ++ marks_at_heights f ys) × (looks ≤ first + length (marks_at_heights f ys))
heights-end f ys old now first looks rest w e =
    let found = rw e at w.found in
    let count = w.count in
    (sym (append-nil now) ∙ found, omega arith)

-- ---- the walk over the vertical segments on a border

pub record IsBorderSeen (x : ℤ) (ys : List ℤ) (group : List KeptFragment) (old now : List Mark) (first looks : ℕ) (rest : List KeptFragment) : Type 0 where
  pub found : now ++ marks_of_heights x ys rest ≡ old ++ marks_of_heights x ys group
  pub count : looks + length (marks_of_heights x ys rest) ≤ first + length (marks_of_heights x ys group)

pub marks_first : (x : ℤ) (ys : List ℤ) (f : KeptFragment) (rest : List KeptFragment) (b : Bool) → stands_at x f ≡ b → marks_of_heights x ys (f ∷ rest) ≡ (if b then marks_at_heights f ys else []) ++ marks_of_heights x ys rest
unfolding marks_of_heights
marks_first x ys f rest b e = ap (λ (c : Bool). (if c then marks_at_heights f ys else []) ++ marks_of_heights x ys rest) e

pub looks_first : (x : ℤ) (left : List KeptFragment) (f : KeptFragment) (rest : List KeptFragment) (b : Bool) → stands_at x f ≡ b → looks_of_border x left (f ∷ rest) ≡ (if b then length left else 0) + looks_of_border x left rest
unfolding looks_of_border
looks_first x left f rest b e = sum_by-cons (λ g. if stands_at x g then length left else 0) f rest ∙ ap (λ (c : Bool). (if c then length left else 0) + sum_by (λ g. if stands_at x g then length left else 0) rest) e

pub border-more : (x : ℤ) (ys : List ℤ) (f : KeptFragment) (group : List KeptFragment) (old now next : List Mark) (first looks looks' : ℕ) (rest : List KeptFragment) → IsBorderSeen x ys group old now first looks (f ∷ rest) →
    stands_at x f ≡ true → next ≡ now ++ marks_at_heights f ys → looks' ≤ looks + length (marks_at_heights f ys) → IsBorderSeen x ys group old next first looks' rest
border-more x ys f group old now next first looks looks' rest w h n le =
    let m : marks_of_heights x ys (f ∷ rest) ≡ marks_at_heights f ys ++ marks_of_heights x ys rest = marks_first x ys f rest true h in
    record {
      found = ap (λ (ms : List Mark). ms ++ marks_of_heights x ys rest) n ∙ append_assoc now (marks_at_heights f ys) (marks_of_heights x ys rest) ∙ ap (λ (ms : List Mark). now ++ ms) (sym m) ∙ w.found;
      count = (let c = w.count in let l = ap (λ (ms : List Mark). length ms) m ∙ length-append (marks_at_heights f ys) (marks_of_heights x ys rest) in omega arith);
    }

pub border-none : (x : ℤ) (ys : List ℤ) (f : KeptFragment) (group : List KeptFragment) (old now : List Mark) (first looks : ℕ) (rest : List KeptFragment) → IsBorderSeen x ys group old now first looks (f ∷ rest) →
    stands_at x f ≡ false → IsBorderSeen x ys group old now first looks rest
border-none x ys f group old now first looks rest w h =
    let m : marks_of_heights x ys (f ∷ rest) ≡ marks_of_heights x ys rest = marks_first x ys f rest false h in
    record { found = ap (λ (ms : List Mark). now ++ ms) (sym m) ∙ w.found; count = (let c = w.count in let l = ap (λ (ms : List Mark). length ms) m in omega arith) }

pub border-end : (x : ℤ) (ys : List ℤ) (group : List KeptFragment) (old now : List Mark) (first looks : ℕ) (rest : List KeptFragment) → IsBorderSeen x ys group old now first looks rest → rest ≡ [] →
    (now ≡ old ++ marks_of_heights x ys group) × (looks ≤ first + length (marks_of_heights x ys group))
unfolding marks_of_heights
border-end x ys group old now first looks rest w e =
    let found = rw e at w.found in
    let count = rw e at w.count in
    (sym (append-nil now) ∙ found, omega arith)

-- ---- the heights of right ends

heights_first : (x : ℤ) (e : KeptFragment) (rest : List KeptFragment) (b : Bool) → int_eq e.pair.b.x x ≡ b → heights_at x (e ∷ rest) ≡ (if b then e.pair.b.y ∷ heights_at x rest else heights_at x rest)
unfolding heights_at
heights_first x e rest true h = ap (λ (c : Bool). map (λ (u : KeptFragment). u.pair.b.y) (if c then e ∷ filter (λ u. int_eq u.pair.b.x x) rest else filter (λ u. int_eq u.pair.b.x x) rest)) h
heights_first x e rest false h = ap (λ (c : Bool). map (λ (u : KeptFragment). u.pair.b.y) (if c then e ∷ filter (λ u. int_eq u.pair.b.x x) rest else filter (λ u. int_eq u.pair.b.x x) rest)) h

pub ends-taken : (x : ℤ) (e : KeptFragment) (rest : List KeptFragment) (now next all : List ℤ) → now ++ heights_at x (e ∷ rest) ≡ all → int_eq e.pair.b.x x ≡ true → next ≡ now ++ e.pair.b.y ∷ [] → next ++ heights_at x rest ≡ all
ends-taken x e rest now next all w h n =
    ap (λ (ys : List ℤ). ys ++ heights_at x rest) n ∙ append_assoc now (e.pair.b.y ∷ []) (heights_at x rest) ∙ ap (λ (ys : List ℤ). now ++ ys) (sym (heights_first x e rest true h)) ∙ w

pub ends-passed : (x : ℤ) (e : KeptFragment) (rest : List KeptFragment) (now all : List ℤ) → now ++ heights_at x (e ∷ rest) ≡ all → int_eq e.pair.b.x x ≡ false → now ++ heights_at x rest ≡ all
ends-passed x e rest now all w h = ap (λ (ys : List ℤ). now ++ ys) (sym (heights_first x e rest false h)) ∙ w

pub ends-end : (x : ℤ) (rest : List KeptFragment) (now all : List ℤ) → now ++ heights_at x rest ≡ all → rest ≡ [] → now ≡ all
unfolding heights_at
ends-end x rest now all w e = let found = rw e at w in sym (append-nil now) ∙ found

-- ---- the marks at heights are those of right ends

height_in : (x : ℤ) (left : List KeptFragment) (e : KeptFragment) → Has left e → int_eq e.pair.b.x x ≡ true → Has (heights_at x left) e.pair.b.y
unfolding heights_at
height_in x left e h k = Has-map (λ (u : KeptFragment). u.pair.b.y) (filter (λ u. int_eq u.pair.b.x x) left) e (Has-filter (λ u. int_eq u.pair.b.x x) left e h k)

height_out : (x : ℤ) (left : List KeptFragment) (y : ℤ) → Has (heights_at x left) y → (e : KeptFragment) × Has left e × (e.pair.b.x ≡ x) × (e.pair.b.y ≡ y)
unfolding heights_at
height_out x left y h =
    let r = Has-map_out (λ (u : KeptFragment). u.pair.b.y) (filter (λ u. int_eq u.pair.b.x x) left) y h in
    let k = Has-filter_out (λ u. int_eq u.pair.b.x x) left r.0 r.1 in
    (r.0, k.0, eq-tested r.0.pair.b.x x k.1, r.2)

mark_in : (f : KeptFragment) (ys : List ℤ) (y : ℤ) → Has ys y → lies_between f y ≡ true → Has (marks_at_heights f ys) (height_mark f y)
unfolding marks_at_heights
mark_in f ys y h k = Has-map (λ z. height_mark f z) (filter (λ z. lies_between f z) ys) y (Has-filter (λ z. lies_between f z) ys y h k)

mark_out : (f : KeptFragment) (ys : List ℤ) (m : Mark) → Has (marks_at_heights f ys) m → (y : ℤ) × Has ys y × (lies_between f y ≡ true) × (height_mark f y ≡ m)
unfolding marks_at_heights
mark_out f ys m h =
    let r = Has-map_out (λ z. height_mark f z) (filter (λ z. lies_between f z) ys) m h in
    let k = Has-filter_out (λ z. lies_between f z) ys r.0 r.1 in
    (r.0, k.0, k.1, r.2)

end_in : (f e : KeptFragment) (left : List KeptFragment) → Has left e → is_strictly_inside f.pair e.pair.b ≡ true → Has (marks_of_ends f left) (record { index = f.index; point = e.pair.b })
unfolding marks_of_ends
end_in f e left h i =
    Has-flat_map (λ u. if is_strictly_inside f.pair u.pair.b then marks_at f.index (u.pair.b ∷ []) else []) left e _ h
    (subst (λ (b : Bool). Has (if b then marks_at f.index (e.pair.b ∷ []) else []) (record { index = f.index; point = e.pair.b })) (sym i) (inl refl))

eq_through : (a b c : ℤ) → int_eq a b ≡ true → int_eq b c ≡ true → int_eq a c ≡ true
eq_through a b c h k = grind (arith, ints)

on_its_x : (a b x : ℤ) → a ≡ x → int_eq b x ≡ true → int_eq a b ≡ true
on_its_x a b x h k = grind (arith, ints)

-- of one vertical segment at x
ends_to_heights : (x : ℤ) (f : KeptFragment) (left : List KeptFragment) (ys : List ℤ) → IsTrue (is_ordered f.pair) → stands_at x f ≡ true → IsPermutation (heights_at x left) ys → (m : Mark) → Has (marks_of_ends f left) m → Has (marks_at_heights f ys) m
ends_to_heights x f left ys o s p m h =
    let (v, at) = and_parts (is_vertical f.pair) (int_eq f.pair.a.x x) s in
    let r = ends_out f left m h in
    let b = and_parts (int_eq r.0.pair.b.x f.pair.a.x) (int_lt f.pair.a.y r.0.pair.b.y && int_lt r.0.pair.b.y f.pair.b.y) (inside_is f.pair r.0.pair.b v o ∙ r.2) in
    let there = same_has (heights_at x left) ys p r.0.pair.b.y (height_in x left r.0 r.1 (eq_through r.0.pair.b.x f.pair.a.x x b.0 at)) in
    let made : height_mark f r.0.pair.b.y ≡ m = ap (λ (z : ℤ). let n : Mark = record { index = f.index; point = record { x = z; y = r.0.pair.b.y } } in n) (sym (eq-tested r.0.pair.b.x f.pair.a.x b.0)) ∙ r.3 in
    subst (λ (n : Mark). Has (marks_at_heights f ys) n) made (mark_in f ys r.0.pair.b.y there b.1)

heights_to_ends : (x : ℤ) (f : KeptFragment) (left : List KeptFragment) (ys : List ℤ) → IsTrue (is_ordered f.pair) → stands_at x f ≡ true → IsPermutation (heights_at x left) ys → (m : Mark) → Has (marks_at_heights f ys) m → Has (marks_of_ends f left) m
heights_to_ends x f left ys o s p m h =
    let (v, at) = and_parts (is_vertical f.pair) (int_eq f.pair.a.x x) s in
    let r = mark_out f ys m h in
    let e = height_out x left r.0 (same_has ys (heights_at x left) (IsPermutation-sym _ _ p) r.0 r.1) in
    let on = on_its_x e.0.pair.b.x f.pair.a.x x e.2 at in
    let between = subst (λ (y : ℤ). lies_between f y ≡ true) (sym e.3) r.2 in
    let inside' = sym (inside_is f.pair e.0.pair.b v o) ∙ and_from _ _ on between in
    let made = ap₂ (λ (z y : ℤ). let n : Mark = record { index = f.index; point = record { x = z; y = y } } in n) (eq-tested e.0.pair.b.x f.pair.a.x on) e.3 ∙ r.3 in
    subst (λ (n : Mark). Has (marks_of_ends f left) n) made (end_in f e.0 left e.1 inside')

which : (b : Bool) (ms : List Mark) (m : Mark) → Has (if b then ms else []) m → (b ≡ true) × Has ms m
which true ms m h = (refl, h)
which false ms m h = absurd h

of_those : (b : Bool) (ms : List Mark) (m : Mark) → b ≡ true → Has ms m → Has (if b then ms else []) m
of_those b ms m e h = subst (λ (c : Bool). Has (if c then ms else []) m) (sym e) h

module _ (least greatest x : ℤ) (left group : List KeptFragment) (ys : List ℤ) (ready : AllByRecursion (λ f. IsTrue (is_ready least greatest f)) group) (same : IsPermutation (heights_at x left) ys) where
  ordered_at : (f : KeptFragment) → Has group f → IsTrue (is_ordered f.pair)
  ordered_at f h = (and_parts _ _ (AllByRecursion-at (λ u. IsTrue (is_ready least greatest u)) group f ready h)).1

  pub border_to_heights : (m : Mark) → Has (marks_of_border x left group) m → Has (marks_of_heights x ys group) m
  unfolding marks_of_border marks_of_heights
  border_to_heights m h =
      let r = Has-flat_map_out (λ f. if stands_at x f then marks_of_ends f left else []) group m h in
      let k = which (stands_at x r.0) (marks_of_ends r.0 left) m r.2 in
      Has-flat_map (λ f. if stands_at x f then marks_at_heights f ys else []) group r.0 m r.1 (of_those (stands_at x r.0) (marks_at_heights r.0 ys) m k.0 (ends_to_heights x r.0 left ys (ordered_at r.0 r.1) k.0 same m k.1))

  pub heights_to_border : (m : Mark) → Has (marks_of_heights x ys group) m → Has (marks_of_border x left group) m
  unfolding marks_of_border marks_of_heights
  heights_to_border m h =
      let r = Has-flat_map_out (λ f. if stands_at x f then marks_at_heights f ys else []) group m h in
      let k = which (stands_at x r.0) (marks_at_heights r.0 ys) m r.2 in
      Has-flat_map (λ f. if stands_at x f then marks_of_ends f left else []) group r.0 m r.1 (of_those (stands_at x r.0) (marks_of_ends r.0 left) m k.0 (heights_to_ends x r.0 left ys (ordered_at r.0 r.1) k.0 same m k.1))

-- one vertical segment takes no more of them than there are heights
pub few_at_heights : (f : KeptFragment) (ys : List ℤ) → length (marks_at_heights f ys) ≤ length ys
unfolding marks_at_heights
few_at_heights f ys =
    let a = length-map (filter (λ y. lies_between f y) ys) (λ y. height_mark f y) in
    let b = length-filter (λ y. lies_between f y) ys in
    let c = count_by-le-length (λ y. lies_between f y) ys in
    omega arith

-- there are no more of them than looks that a border may take
few_at : (x : ℤ) (f : KeptFragment) (left : List KeptFragment) (ys : List ℤ) → IsPermutation (heights_at x left) ys → length (marks_at_heights f ys) ≤ length left
unfolding heights_at
few_at x f left ys p =
    let a = few_at_heights f ys in
    let d = length_permutation (heights_at x left) ys p in
    let e = length-map (filter (λ u. int_eq u.pair.b.x x) left) (λ (u : KeptFragment). u.pair.b.y) in
    let g = length-filter (λ u. int_eq u.pair.b.x x) left in
    let h = count_by-le-length (λ (u : KeptFragment). int_eq u.pair.b.x x) left in
    omega arith

pub few_of : (b : Bool) (n k : ℕ) (ms : List Mark) → length ms ≤ k → length (if b then ms else []) ≤ (if b then k else 0)
few_of true n k ms h = h
few_of false n k ms h = omega arith

none_here : (x : ℤ) (left : List KeptFragment) (ys : List ℤ) → length (marks_of_heights x ys []) ≤ looks_of_border x left []
unfolding marks_of_heights looks_of_border
none_here x left ys = omega arith

pub few_on_border : (x : ℤ) (left group : List KeptFragment) (ys : List ℤ) → IsPermutation (heights_at x left) ys → length (marks_of_heights x ys group) ≤ looks_of_border x left group
few_on_border x left [] ys p = none_here x left ys
few_on_border x left (f ∷ group) ys p =
    let m = ap (λ (ms : List Mark). length ms) (marks_first x ys f group (stands_at x f) refl) ∙ length-append (if stands_at x f then marks_at_heights f ys else []) (marks_of_heights x ys group) in
    let l = looks_first x left f group (stands_at x f) refl in
    let here = few_of (stands_at x f) 0 (length left) (marks_at_heights f ys) (few_at x f left ys p) in
    let rest = few_on_border x left group ys p in
    omega arith

-- no heights make no marks
pub no_heights_mark : (x : ℤ) (group : List KeptFragment) → marks_of_heights x [] group ≡ []
unfolding marks_of_heights
no_heights_mark x [] = refl
no_heights_mark x (f ∷ group) = ap₂ (λ (ms ns : List Mark). ms ++ ns) (none (stands_at x f)) (no_heights_mark x group)
  where
    none : (b : Bool) → (if b then marks_at_heights f [] else []) ≡ []
    none true = no_marks f
    none false = refl

-- ---- the walk over all borders

pub has_same : (ms ns : List Mark) → HoldSame ms ns → (m : Mark) → Has ms m → Has ns m
has_same ms ns s m h = Has-from_Contains ns m ((s m).0 (Contains-from_Has ms m h))

pub has_back : (ms ns : List Mark) → HoldSame ms ns → (m : Mark) → Has ns m → Has ms m
has_back ms ns s m h = Has-from_Contains ms m ((s m).1 (Contains-from_Has ns m h))

pub hold_same : (ms ns : List Mark) → ((m : Mark) → Has ms m → Has ns m) → ((m : Mark) → Has ns m → Has ms m) → HoldSame ms ns
hold_same ms ns f g = λ m. (λ h. Contains-from_Has ns m (f m (Has-from_Contains ms m h)), λ h. Contains-from_Has ms m (g m (Has-from_Contains ns m h)))

pub hold_equal : (ms ns : List Mark) → ms ≡ ns → HoldSame ms ns
hold_equal ms ns e = subst (HoldSame ms) e (hold_same ms ms (λ m h. h) (λ m h. h))

pub record AreBordersSeen (marks : ℕ → List Mark) (looks : ℕ → ℕ) (old now : List Mark) (first count : ℕ) (n : ℕ) : Type 0 where
  pub found : HoldSame (old ++ flat_map marks (range_with_len 0 n)) now
  pub counted : count ≤ first + sum_by looks (range_with_len 0 n)

pub borders-start : (marks : ℕ → List Mark) (looks : ℕ → ℕ) (old : List Mark) (first : ℕ) → AreBordersSeen marks looks old old first first 0
borders-start marks looks old first = record {
  found = subst (λ (ms : List Mark). HoldSame ms old) (sym (append-nil old)) (hold_same old old (λ m h. h) (λ m h. h));
  counted = omega arith;
}

ended : (marks : ℕ → List Mark) (old : List Mark) (n : ℕ) → old ++ flat_map marks (range_with_len 0 (n + 1)) ≡ (old ++ flat_map marks (range_with_len 0 n)) ++ marks n
ended marks old n =
    ap (λ (ms : List Mark). old ++ ms) (ap (flat_map marks) (range-next n) ∙ flat_map-append marks (range_with_len 0 n) (n ∷ []) ∙ ap (λ (ms : List Mark). flat_map marks (range_with_len 0 n) ++ ms) (append-nil (marks n)))
    ∙ sym (append_assoc old (flat_map marks (range_with_len 0 n)) (marks n))

pub borders-more : (marks : ℕ → List Mark) (looks : ℕ → ℕ) (old now next made : List Mark) (first count count' : ℕ) (n : ℕ) → AreBordersSeen marks looks old now first count n →
    ((m : Mark) → Has (marks n) m → Has made m) → ((m : Mark) → Has made m → Has (marks n) m) → HoldSame (now ++ made) next → count' ≤ count + looks n → AreBordersSeen marks looks old next first count' (n + 1)
borders-more marks looks old now next made first count count' n w f g e c =
    let before = old ++ flat_map marks (range_with_len 0 n) in
    let sums : sum_by looks (range_with_len 0 (n + 1)) ≡ sum_by looks (range_with_len 0 n) + looks n =
    ap (sum_by looks) (range-next n) ∙ sum_by-append looks (range_with_len 0 n) (n ∷ []) ∙ ap (λ (k : ℕ). sum_by looks (range_with_len 0 n) + k) (sum_by-cons looks n [] ∙ add-zero (looks n)) in
    let there : (m : Mark) → Has (before ++ marks n) m → Has (now ++ made) m = λ m h. elim (Has-append_out before (marks n) m h) [
      | inl a ↦ Has-append_left now made m (has_same before now w.found m a)
      | inr b ↦ Has-append_right now made m (f m b)
    ] in
    let back : (m : Mark) → Has (now ++ made) m → Has (before ++ marks n) m = λ m h. elim (Has-append_out now made m h) [
      | inl a ↦ Has-append_left before (marks n) m (has_back before now w.found m a)
      | inr b ↦ Has-append_right before (marks n) m (g m b)
    ] in
    record {
      found = subst (λ (ms : List Mark). HoldSame ms next) (sym (ended marks old n)) (hold_same (before ++ marks n) next (λ m h. has_same (now ++ made) next e m (there m h)) (λ m h. back m (has_back (now ++ made) next e m h)));
      counted = (let k = w.counted in omega arith);
    }

pub borders-end : (marks : ℕ → List Mark) (looks : ℕ → ℕ) (old now : List Mark) (first count : ℕ) (n m : ℕ) → AreBordersSeen marks looks old now first count n → n ≡ m → AreBordersSeen marks looks old now first count m
borders-end marks looks old now first count n m w e = subst (λ (k : ℕ). AreBordersSeen marks looks old now first count k) e w
