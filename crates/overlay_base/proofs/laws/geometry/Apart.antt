-- Pairs that are apart: the test as code makes it, pairs whose boxes are apart, and every two pairs of a list.
use Rattle.std.proofs.Common.{◌≡◌, refl, sym, ap, ap₂, ◌∙◌, ◌⊎◌, inl, inr, arith, ℕ, zero, suc, ◌+◌, ◌<◌, ◌≤◌, Bool, true, false, not, ◌&&◌, ◌||◌, IsTrue, IsFalse, List, [], ◌∷◌, map, drop, length, get_or}
use Rattle.std.specs.Prelude.{ℤ, pos, ◌+ℤ◌, ◌-ℤ◌, ◌*ℤ◌, neg_ℤ, ◌≤ℤ◌, ◌<ℤ◌, int_lt, if◌then◌else◌}
use Rattle.std.specs.Int.{int_min, int_max}
use Rattle.std.specs.Ordering.{int_eq, is_lt}
use Rattle.std.specs.List.{list_all, AllByRecursion}
use Rattle.std.proofs.lemmas.Int.{ints, clamps}
use Rattle.std.proofs.lemmas.Bool.{not-true, and_parts, and_from, or_cases, or_parts, or_from, both_ways, false_from_ne_true, or_left, or_right}
use Rattle.overlay_geometry.specs.Points.{Point, Pair, pair_cmp, pair_lt, point_lt, turn, is_in_box, lies_on, is_ordered, is_strictly_inside}
use Rattle.overlay_geometry.specs.Sorting.{is_strictly_sorted}
use Rattle.overlay_base.specs.Segments.{WholeSegment, pairs, is_map}
use Rattle.overlay_base.specs.SegmentOf.{segments_of, ends_of}
use Rattle.overlay_geometry.specs.Ranges.{heights, is_off_range}
use Rattle.overlay_geometry.specs.Meeting.{crossing, touch, overlap, apart, have_opposite_signs, separates, do_cross, has_end_inside, are_collinear, meeting, are_apart}
use Rattle.overlay_base.specs.Planar.{is_planar, is_splittable, is_arranged}
use Rattle.overlay_base.specs.Windings.{is_not_empty}
use Rattle.overlay_base.specs.declared.segm.segment.Segment.{Segment}
use Rattle.overlay_geometry.proofs.laws.lists.Elements.{AllByRecursion-drop}
use Rattle.overlay_geometry.proofs.laws.geometry.Polynomials.{as_D, diffs, D-eq, mul-pos, mul-nonneg}
use Rattle.overlay_geometry.proofs.laws.geometry.Points.{lies_inside_by_order, turn_same_outer, inside_parts, lies_on_parts, point_eq_same, ordered_x}
use Rattle.overlay_base.proofs.laws.joins.Rests.{rest-more, rest-none, is_splittable-parts}
use Rattle.overlay_geometry.proofs.laws.integers.Tests.{lt-tested}
use Rattle.overlay_geometry.proofs.laws.integers.Products.{times_nothing}

-- ---- the test

-- a point on the line lies strictly inside where it comes after a and before b
pub is_strictly_inside_by_order : (s : Pair) (p : Point) → IsTrue (is_ordered s) → is_strictly_inside s p ≡ (point_lt s.a p && point_lt p s.b && int_eq (turn s.a s.b p) (pos 0))
is_strictly_inside_by_order s p o =
    let both = lies_inside_by_order s p o in
    same_tests _ _
    (λ h. let l = both.0 h in and_from _ _ (and_from _ _ l.1 l.2) (let z = l.0 in rw z refl))
    (λ h. let k = and_parts _ _ h in let l = and_parts _ _ k.0 in both.1 (int_eq-to _ k.1, l.0, l.1))
  where
    same_tests : (b c : Bool) → (b ≡ true → c ≡ true) → (c ≡ true → b ≡ true) → b ≡ c
    same_tests true c f g = sym (f refl)
    same_tests false true f g = g refl
    same_tests false false f g = refl

    int_eq-to : (z : ℤ) → int_eq z (pos 0) ≡ true → z ≡ pos 0
    int_eq-to z h = grind (arith, ints)

apart_tests : (c k l m : Bool) → elim (if c then crossing else if k || l then (if m then overlap else touch) else apart) [ apart ↦ true | _ ↦ false ] ≡ (not c && not k && not l)
apart_tests true k l m = refl
apart_tests false true l true = refl
apart_tests false true l false = refl
apart_tests false false true true = refl
apart_tests false false true false = refl
apart_tests false false false m = refl

-- two are apart where they do not cross and no end of one lies strictly inside the other
pub are_apart_is : (s t : Pair) → are_apart s t ≡ (not (do_cross s t) && not (has_end_inside s t) && not (has_end_inside t s))
unfolding are_apart meeting
are_apart_is s t = apart_tests (do_cross s t) (has_end_inside s t) (has_end_inside t s) (are_collinear s t)

and_swap : (a b : Bool) → (a && b) ≡ (b && a)
and_swap true true = refl
and_swap true false = refl
and_swap false true = refl
and_swap false false = refl

pub do_cross_back : (s t : Pair) → do_cross s t ≡ do_cross t s
unfolding do_cross
do_cross_back s t = and_swap (separates s t) (separates t s)

last_two : (c k l : Bool) → (not c && not k && not l) ≡ (not c && not l && not k)
last_two true k l = refl
last_two false true true = refl
last_two false true false = refl
last_two false false true = refl
last_two false false false = refl

pub are_apart-back : (s t : Pair) → are_apart s t ≡ are_apart t s
are_apart-back s t =
    are_apart_is s t ∙ ap (λ b. not b && not (has_end_inside s t) && not (has_end_inside t s)) (do_cross_back s t)
    ∙ last_two (do_cross t s) (has_end_inside s t) (has_end_inside t s) ∙ sym (are_apart_is t s)

no_opposite : (z w : ℤ) → z ≡ pos 0 → have_opposite_signs z w ≡ false
no_opposite z w h = grind (arith, ints)

pub no_cross_itself : (s : Pair) → do_cross s s ≡ false
unfolding do_cross separates
no_cross_itself s = rw (no_opposite (turn s.a s.b s.a) (turn s.a s.b s.b) (turn_same_outer s.a s.b)) refl

no_end_inside_itself : (s : Pair) → has_end_inside s s ≡ false
unfolding has_end_inside is_strictly_inside
no_end_inside_itself s = or_from _ _ (off (lies_on s s.a) _ (or_left _ _ (point_eq_same s.a))) (off (lies_on s s.b) _ (or_right _ _ (point_eq_same s.b)))
  where
    off : (a b : Bool) → b ≡ true → (a && not b) ≡ false
    off true b h = rw h refl
    off false b h = refl

pub are_apart-itself : (s : Pair) → are_apart s s ≡ true
are_apart-itself s = are_apart_is s s ∙ ap₂ (λ b c. not b && not c && not c) (no_cross_itself s) (no_end_inside_itself s)

-- ---- a line between

-- Two that cross have a point in common. In one coordinate it is a mean of the ends of the one, and of the other.
mean_of_x : (a b p q : Point) → ((a.x *ℤ turn p q b -ℤ b.x *ℤ turn p q a) +ℤ p.x *ℤ turn a b q) -ℤ q.x *ℤ turn a b p ≡ pos 0
unfolding turn
mean_of_x a b p q = rw (as_D a.x, as_D a.y, as_D b.x, as_D b.y, as_D p.x, as_D p.y, as_D q.x, as_D q.y) (simp diffs (D-eq _ _ _ _ (omega arith)))

mean_of_y : (a b p q : Point) → ((a.y *ℤ turn p q b -ℤ b.y *ℤ turn p q a) +ℤ p.y *ℤ turn a b q) -ℤ q.y *ℤ turn a b p ≡ pos 0
unfolding turn
mean_of_y a b p q = rw (as_D a.x, as_D a.y, as_D b.x, as_D b.y, as_D p.x, as_D p.y, as_D q.x, as_D q.y) (simp diffs (D-eq _ _ _ _ (omega arith)))

same_divisor : (a b p q : Point) → ((turn p q b -ℤ turn p q a) +ℤ turn a b q) -ℤ turn a b p ≡ pos 0
unfolding turn
same_divisor a b p q = rw (as_D a.x, as_D a.y, as_D b.x, as_D b.y, as_D p.x, as_D p.y, as_D q.x, as_D q.y) (simp diffs (D-eq _ _ _ _ (omega arith)))

-- distances from m, weighed
weighed_from : (m a b p q f g h k : ℤ) →
    (((m -ℤ a) *ℤ g +ℤ (m -ℤ b) *ℤ neg_ℤ f) +ℤ (p -ℤ m) *ℤ neg_ℤ k) +ℤ (q -ℤ m) *ℤ h
    ≡ m *ℤ (((g -ℤ f) +ℤ k) -ℤ h) -ℤ (((a *ℤ g -ℤ b *ℤ f) +ℤ p *ℤ k) -ℤ q *ℤ h)
weighed_from m a b p q f g h k = rw (as_D m, as_D a, as_D b, as_D p, as_D q, as_D f, as_D g, as_D h, as_D k) (simp diffs (D-eq _ _ _ _ (omega arith)))

-- one below 0, the other above it
abbrev pub Opposite : ℤ → ℤ → Type 0
Opposite f g = ((f <ℤ pos 0) × (pos 0 <ℤ g)) ⊎ ((pos 0 <ℤ f) × (g <ℤ pos 0))

pub opposite : (f g : ℤ) → IsTrue (have_opposite_signs f g) → Opposite f g
opposite f g h = grind (arith, ints)

pub from_opposite : (f g : ℤ) → Opposite f g → IsTrue (have_opposite_signs f g)
from_opposite f g h = grind (arith, ints)

-- the ends of one lie up to m, those of the other beyond it
no_mean_up : (m a b p q f g h k : ℤ) → a ≤ℤ m → b ≤ℤ m → m <ℤ p → m <ℤ q → f <ℤ pos 0 → pos 0 <ℤ g → Opposite h k
    → ((a *ℤ g -ℤ b *ℤ f) +ℤ p *ℤ k) -ℤ q *ℤ h ≡ pos 0 → ((g -ℤ f) +ℤ k) -ℤ h ≡ pos 0 → ⊥
no_mean_up m a b p q f g h k am bm mp mq fn gp (inl up) e d = omega (arith, ints, up)
no_mean_up m a b p q f g h k am bm mp mq fn gp (inr down) e d =
    let hp : pos 0 <ℤ h = down.0 in
    let kn : k <ℤ pos 0 = down.1 in
    let first = mul-nonneg (m -ℤ a) g (omega (arith, ints)) (omega (arith, ints)) in
    let second = mul-nonneg (m -ℤ b) (neg_ℤ f) (omega (arith, ints)) (omega (arith, ints)) in
    let third = mul-pos (p -ℤ m) (neg_ℤ k) (omega (arith, ints)) (omega (arith, ints)) in
    let fourth = mul-pos (q -ℤ m) h (omega (arith, ints)) hp in
    sums _ _ _ _ _ _ first second third fourth (weighed_from m a b p q f g h k) (times_nothing m _ d) e
  where
    sums : (u v w x y z : ℤ) → pos 0 ≤ℤ u → pos 0 ≤ℤ v → pos 0 <ℤ w → pos 0 <ℤ x → ((u +ℤ v) +ℤ w) +ℤ x ≡ y -ℤ z → y ≡ pos 0 → z ≡ pos 0 → ⊥
    sums u v w x y z h1 h2 h3 h4 e1 e2 e3 = omega (arith, ints)

turned_mean : (a b p q f g h k : ℤ) → ((a *ℤ neg_ℤ g -ℤ b *ℤ neg_ℤ f) +ℤ p *ℤ neg_ℤ k) -ℤ q *ℤ neg_ℤ h ≡ neg_ℤ (((a *ℤ g -ℤ b *ℤ f) +ℤ p *ℤ k) -ℤ q *ℤ h)
turned_mean a b p q f g h k = rw (as_D a, as_D b, as_D p, as_D q, as_D f, as_D g, as_D h, as_D k) (simp diffs (D-eq _ _ _ _ (omega arith)))

turned : (h k : ℤ) → Opposite h k → Opposite (neg_ℤ h) (neg_ℤ k)
turned h k (inl o) = inr (omega (arith, ints, o), omega (arith, ints, o))
turned h k (inr o) = inl (omega (arith, ints, o), omega (arith, ints, o))

no_mean : (m a b p q f g h k : ℤ) → a ≤ℤ m → b ≤ℤ m → m <ℤ p → m <ℤ q → Opposite f g → Opposite h k
    → ((a *ℤ g -ℤ b *ℤ f) +ℤ p *ℤ k) -ℤ q *ℤ h ≡ pos 0 → ((g -ℤ f) +ℤ k) -ℤ h ≡ pos 0 → ⊥
no_mean m a b p q f g h k am bm mp mq (inl o) oh e d = no_mean_up m a b p q f g h k am bm mp mq o.0 o.1 oh e d
no_mean m a b p q f g h k am bm mp mq (inr o) oh e d =
    no_mean_up m a b p q (neg_ℤ f) (neg_ℤ g) (neg_ℤ h) (neg_ℤ k) am bm mp mq (omega (arith, ints, o)) (omega (arith, ints, o)) (turned h k oh)
    (turned_mean a b p q f g h k ∙ ap neg_ℤ e) (omega (arith, ints))

pub do_cross_parts : (s t : Pair) → IsTrue (do_cross s t) → Opposite (turn s.a s.b t.a) (turn s.a s.b t.b) × Opposite (turn t.a t.b s.a) (turn t.a t.b s.b)
unfolding do_cross separates
do_cross_parts s t h = let parts = and_parts (have_opposite_signs (turn s.a s.b t.a) (turn s.a s.b t.b)) (have_opposite_signs (turn t.a t.b s.a) (turn t.a t.b s.b)) h in (opposite _ _ parts.0, opposite _ _ parts.1)

pub do_cross_from : (s t : Pair) → Opposite (turn s.a s.b t.a) (turn s.a s.b t.b) → Opposite (turn t.a t.b s.a) (turn t.a t.b s.b) → IsTrue (do_cross s t)
unfolding do_cross separates
do_cross_from s t h k = and_from (have_opposite_signs (turn s.a s.b t.a) (turn s.a s.b t.b)) (have_opposite_signs (turn t.a t.b s.a) (turn t.a t.b s.b)) (from_opposite _ _ h) (from_opposite _ _ k)

no_cross_x : (s t : Pair) (m : ℤ) → s.a.x ≤ℤ m → s.b.x ≤ℤ m → m <ℤ t.a.x → m <ℤ t.b.x → do_cross s t ≡ false
no_cross_x s t m h1 h2 h3 h4 = false_from_ne_true _ (λ c. let o = do_cross_parts s t c in
    no_mean m s.a.x s.b.x t.a.x t.b.x _ _ _ _ h1 h2 h3 h4 o.1 o.0 (mean_of_x s.a s.b t.a t.b) (same_divisor s.a s.b t.a t.b))

no_cross_y : (s t : Pair) (m : ℤ) → s.a.y ≤ℤ m → s.b.y ≤ℤ m → m <ℤ t.a.y → m <ℤ t.b.y → do_cross s t ≡ false
no_cross_y s t m h1 h2 h3 h4 = false_from_ne_true _ (λ c. let o = do_cross_parts s t c in
    no_mean m s.a.y s.b.y t.a.y t.b.y _ _ _ _ h1 h2 h3 h4 o.1 o.0 (mean_of_y s.a s.b t.a t.b) (same_divisor s.a s.b t.a t.b))

-- ---- boxes apart

off_box : (s : Pair) (p : Point) → (IsTrue (is_in_box s p) → ⊥) → is_strictly_inside s p ≡ false
off_box s p h = false_from_ne_true _ (λ i. h (lies_on_parts s p (inside_parts s p i).0).1)

no_end : (s t : Pair) → (IsTrue (is_in_box s t.a) → ⊥) → (IsTrue (is_in_box s t.b) → ⊥) → has_end_inside s t ≡ false
unfolding has_end_inside
no_end s t h k = or_from _ _ (off_box s t.a h) (off_box s t.b k)

pub are_apart_from : (s t : Pair) → do_cross s t ≡ false → has_end_inside s t ≡ false → has_end_inside t s ≡ false → are_apart s t ≡ true
are_apart_from s t h k l = are_apart_is s t ∙ rw (h, k, l) refl

pub are_apart_parts : (s t : Pair) → are_apart s t ≡ true → (do_cross s t ≡ false) × (has_end_inside s t ≡ false) × (has_end_inside t s ≡ false)
are_apart_parts s t h =
    let outer = and_parts _ _ (sym (are_apart_is s t) ∙ h) in
    let inner = and_parts _ _ outer.0 in
    (not-true _ inner.0, not-true _ inner.1, not-true _ outer.1)

pub no_end_inside_parts : (s t : Pair) → IsFalse (has_end_inside s t) → IsFalse (is_strictly_inside s t.a) × IsFalse (is_strictly_inside s t.b)
unfolding has_end_inside
no_end_inside_parts s t h = or_parts (is_strictly_inside s t.a) (is_strictly_inside s t.b) h

in_box_x : (s : Pair) (p : Point) → IsTrue (is_in_box s p) → (int_min s.a.x s.b.x ≤ℤ p.x) × (p.x ≤ℤ int_max s.a.x s.b.x)
unfolding is_in_box
in_box_x s p h = grind (arith, ints)

in_box_y : (s : Pair) (p : Point) → IsTrue (is_in_box s p) → (int_min s.a.y s.b.y ≤ℤ p.y) × (p.y ≤ℤ int_max s.a.y s.b.y)
unfolding is_in_box
in_box_y s p h = grind (arith, ints)

-- one side by side with the other
apart_past_x : (s t : Pair) (m : ℤ) → s.a.x ≤ℤ m → s.b.x ≤ℤ m → m <ℤ t.a.x → m <ℤ t.b.x → are_apart s t ≡ true
apart_past_x s t m h1 h2 h3 h4 =
    are_apart_from s t (no_cross_x s t m h1 h2 h3 h4)
    (no_end s t (λ i. let b = in_box_x s t.a i in omega (arith, ints, clamps, b)) (λ i. let b = in_box_x s t.b i in omega (arith, ints, clamps, b)))
    (no_end t s (λ i. let b = in_box_x t s.a i in omega (arith, ints, clamps, b)) (λ i. let b = in_box_x t s.b i in omega (arith, ints, clamps, b)))

-- one above the other
apart_past_y : (s t : Pair) (m : ℤ) → s.a.y ≤ℤ m → s.b.y ≤ℤ m → m <ℤ t.a.y → m <ℤ t.b.y → are_apart s t ≡ true
apart_past_y s t m h1 h2 h3 h4 =
    are_apart_from s t (no_cross_y s t m h1 h2 h3 h4)
    (no_end s t (λ i. let b = in_box_y s t.a i in omega (arith, ints, clamps, b)) (λ i. let b = in_box_y s t.b i in omega (arith, ints, clamps, b)))
    (no_end t s (λ i. let b = in_box_y t s.a i in omega (arith, ints, clamps, b)) (λ i. let b = in_box_y t s.b i in omega (arith, ints, clamps, b)))

pub apart_in_x : (s t : Pair) → IsTrue (is_ordered s) → IsTrue (is_ordered t) → s.b.x <ℤ t.a.x → are_apart s t ≡ true
apart_in_x s t hs ht less =
    let u = ordered_x s hs in
    let v = ordered_x t ht in
    apart_past_x s t s.b.x u (omega (arith, ints)) less (omega (arith, ints))

pub apart_in_y : (s t : Pair) → IsTrue (is_off_range (heights s) t) → are_apart s t ≡ true
apart_in_y s t off = elim (or_cases _ _ off) [
  | inl low ↦
      let parts = and_parts _ _ low in
      let a = lt-tested t.a.y (int_min s.a.y s.b.y) parts.0 in
      let b = lt-tested t.b.y (int_min s.a.y s.b.y) parts.1 in
      are_apart-back s t ∙ apart_past_y t s (int_max t.a.y t.b.y) (omega (arith, ints, clamps)) (omega (arith, ints, clamps)) (omega (arith, ints, clamps)) (omega (arith, ints, clamps))
  | inr high ↦
      let parts = and_parts _ _ high in
      let a = lt-tested (int_max s.a.y s.b.y) t.a.y parts.0 in
      let b = lt-tested (int_max s.a.y s.b.y) t.b.y parts.1 in
      apart_past_y s t (int_max s.a.y s.b.y) (omega (arith, ints, clamps)) (omega (arith, ints, clamps)) a b
]

-- ---- every two of a list

-- each is apart from those that follow it
abbrev pub are_all_apart : List Pair → Bool
are_all_apart [] = true
are_all_apart (s ∷ ss) = list_all (λ t. are_apart s t) ss && are_all_apart ss

list_all-split : {X : Type 0} (p q : X → Bool) (xs : List X) → list_all (λ x. p x && q x) xs ≡ (list_all p xs && list_all q xs)
list_all-split p q [] = refl
list_all-split p q (x ∷ xs) = ap (λ b. (p x && q x) && b) (list_all-split p q xs) ∙ exchanged (p x) (q x) (list_all p xs) (list_all q xs)
  where
    exchanged : (a b c d : Bool) → ((a && b) && (c && d)) ≡ ((a && c) && (b && d))
    exchanged true true c d = refl
    exchanged true false true d = refl
    exchanged true false false d = refl
    exchanged false b c d = refl

list_all-alike : {X : Type 0} (p q : X → Bool) → ((x : X) → p x ≡ q x) → (xs : List X) → list_all p xs ≡ list_all q xs
list_all-alike p q h [] = refl
list_all-alike p q h (x ∷ xs) = ap₂ (λ b c. b && c) (h x) (list_all-alike p q h xs)

all_of_each : (ss : List Pair) → list_all (λ s. list_all (λ t. are_apart s t) ss) ss ≡ are_all_apart ss
all_of_each [] = refl
all_of_each (s ∷ ss) =
    ap₂ (λ b c. (b && list_all (λ t. are_apart s t) ss) && c) (are_apart-itself s)
    (list_all-split (λ u. are_apart u s) (λ u. list_all (λ t. are_apart u t) ss) ss ∙ ap₂ (λ b c. b && c) (list_all-alike (λ u. are_apart u s) (λ u. are_apart s u) (λ u. are_apart-back u s) ss) (all_of_each ss))
    ∙ twice (list_all (λ t. are_apart s t) ss) (are_all_apart ss)
  where
    twice : (a b : Bool) → (a && (a && b)) ≡ (a && b)
    twice true b = refl
    twice false b = refl

pub is_planar-is : (segments : List WholeSegment) → is_planar segments ≡ are_all_apart (pairs segments)
unfolding is_planar
is_planar-is segments = all_of_each (pairs segments)

-- ---- a list in order

-- those that follow start no further left
starts_right : (x : ℤ) (t : Pair) (ts : List Pair) → x <ℤ t.a.x → is_strictly_sorted pair_cmp (t ∷ ts) ≡ true → AllByRecursion (λ u. x <ℤ u.a.x) (t ∷ ts)
unfolding is_strictly_sorted
starts_right x t [] h sorted = (h, tt)
starts_right x t (u ∷ us) h sorted =
    let parts = and_parts _ _ sorted in
    let up = starts_up t u parts.0 in
    (h, starts_right x u us (omega (arith, ints)) parts.1)
  where
    starts_up : (t u : Pair) → is_lt (pair_cmp t u) ≡ true → t.a.x ≤ℤ u.a.x
    starts_up t u h = grind (arith, ints)

all_apart : (s : Pair) (ts : List Pair) → IsTrue (is_ordered s) → AllByRecursion (λ t. IsTrue (is_ordered t)) ts → AllByRecursion (λ u. s.b.x <ℤ u.a.x) ts → list_all (λ t. are_apart s t) ts ≡ true
all_apart s [] hs o h = refl
all_apart s (t ∷ ts) hs o h = and_from _ _ (apart_in_x s t hs o.0 h.0) (all_apart s ts hs o.1 h.1)

-- from a pair that starts right of the end of s on, all are apart from s
pub rest_is_apart : (s t : Pair) (ts : List Pair) → IsTrue (is_ordered s) → AllByRecursion (λ t. IsTrue (is_ordered t)) (t ∷ ts) → is_strictly_sorted pair_cmp (t ∷ ts) ≡ true → s.b.x <ℤ t.a.x → list_all (λ t. are_apart s t) (t ∷ ts) ≡ true
rest_is_apart s t ts hs o sorted less = all_apart s (t ∷ ts) hs o (starts_right s.b.x t ts less sorted)

-- ---- segments as pairs

pub pairs-map : {C I D : Type 0} {m : _} {w : _} {o : _} {e : _} {p : _} (xs : List (Segment C I D m w o e p)) → pairs (segments_of xs) ≡ map (λ s. ends_of s) xs
pairs-map [] = refl
pairs-map (x ∷ xs) = ap (λ ys. ends_of x ∷ ys) (pairs-map xs)

-- the ends of segments are in order
pub are_ordered : {C I D : Type 0} {m : _} {w : _} {o : _} {e : _} {p : _} (xs : List (Segment C I D m w o e p)) → AllByRecursion (λ s. IsTrue (is_ordered s)) (pairs (segments_of xs))
are_ordered [] = tt
are_ordered (x ∷ xs) = (x.ordered, are_ordered xs)

pub pairs-next : {C I D : Type 0} {m : _} {w : _} {o : _} {e : _} {p : _} (xs : List (Segment C I D m w o e p)) (j : ℕ) (x : Segment C I D m w o e p) → j < length xs → x ≡ get_or xs j x →
    drop j (pairs (segments_of xs)) ≡ ends_of x ∷ drop (j + 1) (pairs (segments_of xs))
pairs-next xs j x lt is = rw (pairs-map xs) (rest-more (λ s. ends_of s) xs j x lt is)

pub pairs-none : {C I D : Type 0} {m : _} {w : _} {o : _} {e : _} {p : _} (xs : List (Segment C I D m w o e p)) (j : ℕ) → length xs ≤ j → drop j (pairs (segments_of xs)) ≡ []
pairs-none xs j h = rw (pairs-map xs) (rest-none (λ s. ends_of s) xs j h)

pub is_strictly_sorted-rest : (s : Pair) (ss : List Pair) → is_strictly_sorted pair_cmp (s ∷ ss) ≡ true → is_strictly_sorted pair_cmp ss ≡ true
unfolding is_strictly_sorted
is_strictly_sorted-rest s [] h = refl
is_strictly_sorted-rest s (t ∷ ts) h = (and_parts (is_lt (pair_cmp s t)) (is_strictly_sorted pair_cmp (t ∷ ts)) h).1

pub is_strictly_sorted-drop : (n : ℕ) (ss : List Pair) → is_strictly_sorted pair_cmp ss ≡ true → is_strictly_sorted pair_cmp (drop n ss) ≡ true
is_strictly_sorted-drop zero ss h = h
is_strictly_sorted-drop (suc n) [] h = h
is_strictly_sorted-drop (suc n) (s ∷ ss) h = is_strictly_sorted-drop n ss (is_strictly_sorted-rest s ss h)

-- from an index on, if the segment there starts right of the end of s, all are apart from s
pub rest_apart_from : (s t : Pair) (ss : List Pair) (j : ℕ) → IsTrue (is_ordered s) → AllByRecursion (λ t. IsTrue (is_ordered t)) ss → is_strictly_sorted pair_cmp ss ≡ true → drop j ss ≡ t ∷ drop (j + 1) ss → int_lt s.b.x t.a.x ≡ true →
    list_all (λ u. are_apart s u) (drop j ss) ≡ true
rest_apart_from s t ss j hs o sorted d less =
    let here = rw d at (is_strictly_sorted-drop j ss sorted) in
    let ordered = rw d at (AllByRecursion-drop (λ t. IsTrue (is_ordered t)) j ss o) in
    rw d (rest_is_apart s t (drop (j + 1) ss) hs ordered here (lt-tested s.b.x t.a.x less))

-- ---- the walk over all

-- those that follow the first are apart from it, or some one is not
pub first_apart : (all rest : List Pair) (s : Pair) (ss : List Pair) → are_all_apart rest ≡ are_all_apart all → rest ≡ s ∷ ss → list_all (λ t. are_apart s t) ss ≡ true → are_all_apart ss ≡ are_all_apart all
first_apart all rest s ss h is e = sym (ap are_all_apart is ∙ ap (λ b. b && are_all_apart ss) e) ∙ h

pub first_not_apart : (all rest : List Pair) (s : Pair) (ss : List Pair) → are_all_apart rest ≡ are_all_apart all → rest ≡ s ∷ ss → list_all (λ t. are_apart s t) ss ≡ false → false ≡ are_all_apart all
first_not_apart all rest s ss h is e = sym (ap are_all_apart is ∙ ap (λ b. b && are_all_apart ss) e) ∙ h

pub none_apart : (all rest : List Pair) → are_all_apart rest ≡ are_all_apart all → rest ≡ [] → true ≡ are_all_apart all
none_apart all rest h is = sym (ap are_all_apart is) ∙ h

-- ---- the arrangement, by its three tests

three_tests : (sorted each split planar : Bool) → (split ≡ true → each ≡ true) → (((sorted && each) && split) && planar) ≡ ((split && sorted) && planar)
three_tests true true split planar h = and_true split planar
  where
    and_true : (a b : Bool) → (a && b) ≡ ((a && true) && b)
    and_true true b = refl
    and_true false b = refl
three_tests true false true planar h = absurd (both_ways false refl (h refl))
three_tests true false false planar h = refl
three_tests false each true planar h = refl
three_tests false each false planar h = refl

each_is_kept : (least greatest : ℤ) (segments : List WholeSegment) → AllByRecursion (λ s. IsTrue (is_ordered s)) (pairs segments) → is_splittable least greatest segments ≡ true → list_all (λ s. is_ordered s.pair && is_not_empty s.count) segments ≡ true
each_is_kept least greatest [] o h = refl
each_is_kept least greatest (s ∷ segments) o h =
    let parts = is_splittable-parts least greatest s segments h in
    and_from _ _ (and_from _ _ o.0 (and_parts _ _ parts.0).1) (each_is_kept least greatest segments o.1 parts.1)

pub is_arranged-is : (least greatest : ℤ) (segments : List WholeSegment) → AllByRecursion (λ s. IsTrue (is_ordered s)) (pairs segments) →
    is_arranged least greatest segments ≡ ((is_splittable least greatest segments && is_strictly_sorted pair_cmp (pairs segments)) && is_planar segments)
unfolding is_arranged is_map
is_arranged-is least greatest segments o =
    three_tests (is_strictly_sorted pair_cmp (pairs segments)) (list_all (λ s. is_ordered s.pair && is_not_empty s.count) segments) (is_splittable least greatest segments) (is_planar segments) (each_is_kept least greatest segments o)

-- ---- neighbors

-- A list with its first pair apart: the last that was seen, and what is left.
pub sorted_more : (all rest next : List Pair) (last s : Pair) → is_strictly_sorted pair_cmp (last ∷ rest) ≡ is_strictly_sorted pair_cmp all → rest ≡ s ∷ next → pair_lt last s ≡ true → is_strictly_sorted pair_cmp (s ∷ next) ≡ is_strictly_sorted pair_cmp all
unfolding is_strictly_sorted
sorted_more all rest next last s h is e = sym (ap (λ ss. is_strictly_sorted pair_cmp (last ∷ ss)) is ∙ ap (λ b. b && is_strictly_sorted pair_cmp (s ∷ next)) e) ∙ h

pub sorted_fails : (all rest next : List Pair) (last s : Pair) → is_strictly_sorted pair_cmp (last ∷ rest) ≡ is_strictly_sorted pair_cmp all → rest ≡ s ∷ next → pair_lt last s ≡ false → false ≡ is_strictly_sorted pair_cmp all
unfolding is_strictly_sorted
sorted_fails all rest next last s h is e = sym (ap (λ ss. is_strictly_sorted pair_cmp (last ∷ ss)) is ∙ ap (λ b. b && is_strictly_sorted pair_cmp (s ∷ next)) e) ∙ h

pub sorted_end : (all rest : List Pair) (last : Pair) → is_strictly_sorted pair_cmp (last ∷ rest) ≡ is_strictly_sorted pair_cmp all → rest ≡ [] → true ≡ is_strictly_sorted pair_cmp all
unfolding is_strictly_sorted
sorted_end all rest last h is = sym (ap (λ ss. is_strictly_sorted pair_cmp (last ∷ ss)) is) ∙ h

pub sorted_none : (all : List Pair) → all ≡ [] → true ≡ is_strictly_sorted pair_cmp all
unfolding is_strictly_sorted
sorted_none all is = sym (ap (λ ss. is_strictly_sorted pair_cmp ss) is)

-- a list without segments
pub pairs-nil : {C I D : Type 0} {m : _} {w : _} {o : _} {e : _} {p : _} (xs : List (Segment C I D m w o e p)) → length xs ≡ 0 → pairs (segments_of xs) ≡ []
pairs-nil xs h = pairs-none xs 0 (omega (arith, h))
