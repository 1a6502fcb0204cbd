-- How two ordered pairs meet: by signs of turns, apart or not, where one marks the other, and parts of pairs.
use Rattle.std.proofs.Common.{◌≡◌, refl, sym, ◌⊎◌, ⊎_elim, inl, inr, arith, true, false, Bool, IsTrue, IsFalse}
use Rattle.std.specs.Prelude.{ℤ, pos, ◌+ℤ◌, ◌*ℤ◌, ◌<ℤ◌}
use Rattle.std.proofs.lemmas.Int.{ints}
use Rattle.std.proofs.lemmas.Bool.{or_from, both_ways, false_from_ne_true, cases_Bool}
use Rattle.overlay_geometry.specs.Points.{Point, Pair, turn, is_end, lies_on, is_strictly_inside}
use Rattle.overlay_geometry.specs.Meeting.{do_cross, are_collinear, has_end_inside}
use Rattle.overlay_geometry.proofs.laws.geometry.Polynomials.{mul-pos, cancel-pos, mul-neg, cancel-neg, cancel-zero}
use Rattle.overlay_geometry.proofs.laws.geometry.Points.{turn_same_last, turn_same_outer, Before, UpTo, Before-UpTo-trans, UpTo-Before-trans, UpTo-trans, UpTo-Before, weights, collinear, are_collinear_turns, are_collinear_from, are_collinear_swap, inside_order, inside_from_order, lies_on_from_order, inside_from_parts}
use Rattle.overlay_base.proofs.laws.geometry.Apart.{Opposite, do_cross_parts, do_cross_from}
use Rattle.overlay_intersections.proofs.laws.crossings.AnswerMarks.{collinear_do_not_cross, end_cases}
use Rattle.overlay_geometry.proofs.laws.integers.Tests.{by_sign}

-- ---- signs

opposite_sums : (m n f g k z : ℤ) → pos 0 <ℤ m → pos 0 <ℤ n → k *ℤ z ≡ m *ℤ f +ℤ n *ℤ g → z ≡ pos 0 → Opposite f g ⊎ ((f ≡ pos 0) × (g ≡ pos 0))
opposite_sums m n f g k z hm hn e hz =
    let sum : m *ℤ f +ℤ n *ℤ g ≡ pos 0 = (let i = rw hz at e in omega (arith, ints)) in
    by_sign f
    (λ (down : f <ℤ pos 0). let p = mul-neg m f hm down in inl (inl (down, cancel-pos n g hn (omega (arith, ints)))))
    (λ (zero : f ≡ pos 0). let i = rw zero at sum in inr (zero, cancel-zero n g hn (omega (arith, ints))))
    (λ (up : pos 0 <ℤ f). let p = mul-pos m f hm up in inl (inr (up, cancel-neg n g hn (omega (arith, ints)))))

-- ---- the lines of two pairs

pub same_tests : (b c : Bool) → (b ≡ true → c ≡ true) → (c ≡ true → b ≡ true) → b ≡ c
same_tests true c f g = sym (f refl)
same_tests false true f g = g refl
same_tests false false f g = refl

pub are_collinear_symmetric : (s t : Pair) → Before s.a s.b → Before t.a t.b → are_collinear s t ≡ are_collinear t s
are_collinear_symmetric s t o p = same_tests (are_collinear s t) (are_collinear t s) (are_collinear_swap s t o) (are_collinear_swap t s p)

-- an end of one on the line of the other: no crossing
pub no_cross_at_a : (s t : Pair) → turn s.a s.b t.a ≡ pos 0 → IsFalse (do_cross s t)
no_cross_at_a s t h = false_from_ne_true (do_cross s t) (λ c. let parts = (do_cross_parts s t c).0 in omega (arith, ints))

pub no_cross_at_b : (s t : Pair) → turn s.a s.b t.b ≡ pos 0 → IsFalse (do_cross s t)
no_cross_at_b s t h = false_from_ne_true (do_cross s t) (λ c. let parts = (do_cross_parts s t c).0 in omega (arith, ints))

pub crossing_not_collinear : (s t : Pair) → IsTrue (do_cross s t) → IsFalse (are_collinear s t)
crossing_not_collinear s t h = false_from_ne_true (are_collinear s t) (λ c. both_ways (do_cross s t) (collinear_do_not_cross s t c) h)

-- ---- the kinds of meeting

pub no_end_inside_from : (s t : Pair) → IsFalse (is_strictly_inside s t.a) → IsFalse (is_strictly_inside s t.b) → IsFalse (has_end_inside s t)
unfolding has_end_inside
no_end_inside_from s t h k = or_from (is_strictly_inside s t.a) (is_strictly_inside s t.b) h k

-- ---- a point strictly inside

-- of two points on the two sides of a point strictly inside, a line through it separates them or runs through both
pub inside_separates : (t : Pair) (e u v : Point) → Before t.a t.b → IsTrue (is_strictly_inside t e) → turn u v e ≡ pos 0 → Opposite (turn u v t.a) (turn u v t.b) ⊎ ((turn u v t.a ≡ pos 0) × (turn u v t.b ≡ pos 0))
inside_separates t e u v o h z =
    let i = inside_order t e o h in
    let w = weights t.a t.b e o i.0 in
    opposite_sums w.of_a w.of_b (turn u v t.a) (turn u v t.b) (w.of_a +ℤ w.of_b) (turn u v e) (w.before_b i.2) (w.after_a i.1) (w.mean u v) z

-- two that have a point strictly inside both cross there, or lie on one line
pub crosses_at_inside : (s t : Pair) (e : Point) → Before s.a s.b → Before t.a t.b → IsTrue (is_strictly_inside s e) → IsTrue (is_strictly_inside t e) → IsFalse (are_collinear s t) → IsTrue (do_cross s t)
crosses_at_inside s t e o p hs ht n =
    let is = inside_order s e o hs in
    let it = inside_order t e p ht in
    ⊎_elim
    (λ first. ⊎_elim (λ second. do_cross_from s t first second)
    (λ zero. absurd (both_ways (are_collinear s t) n (are_collinear_swap t s p (are_collinear_from t s zero.0 zero.1))))
    (inside_separates s e t.a t.b o hs it.0))
    (λ zero. absurd (both_ways (are_collinear s t) n (are_collinear_from s t zero.0 zero.1)))
    (inside_separates t e s.a s.b p ht is.0)

-- a point strictly inside t that lies on s: an end of s, or the two cross there, or they lie on one line
pub on_and_inside : (s t : Pair) (e : Point) → Before s.a s.b → Before t.a t.b → IsTrue (lies_on s e) → IsTrue (is_strictly_inside t e) → IsFalse (are_collinear s t) →
    IsTrue (is_end s e) ⊎ (IsTrue (is_strictly_inside s e) × IsTrue (do_cross s t))
on_and_inside s t e o p hs ht n =
    ⊎_elim inl (λ no_end. let i = inside_from_parts s e hs no_end in inr (i, crosses_at_inside s t e o p i ht n)) (cases_Bool (is_end s e))

-- ---- where a second pair marks a first, if they do not cross at a point that is not whole

pub are_collinear-trans : (s t u : Pair) → Before s.a s.b → Before t.a t.b → IsTrue (are_collinear s t) → IsTrue (are_collinear t u) → IsTrue (are_collinear s u)
are_collinear-trans s t u o p h k =
    let ts = are_collinear_turns t s (are_collinear_swap s t o h) in
    let tu = are_collinear_turns t u k in
    are_collinear_from s u (collinear t.a t.b s.a s.b u.a p ts.0 ts.1 tu.0) (collinear t.a t.b s.a s.b u.b p ts.0 ts.1 tu.1)

-- e lies strictly inside s, and there the two cross or u ends
abbrev pub MarksAt : Pair → Pair → Point → Type 0
MarksAt s u e = (IsTrue (is_strictly_inside s e) × IsTrue (do_cross s u) × IsTrue (is_strictly_inside u e)) ⊎ (IsTrue (is_strictly_inside s e) × IsFalse (do_cross s u) × IsTrue (is_end u e))

pub MarksAt-inside : (s u : Pair) (e : Point) → MarksAt s u e → IsTrue (is_strictly_inside s e)
MarksAt-inside s u e (inl h) = h.0
MarksAt-inside s u e (inr h) = h.0

no_cross_at_end : (t u : Pair) (e : Point) → turn t.a t.b e ≡ pos 0 → (e ≡ u.a) ⊎ (e ≡ u.b) → IsFalse (do_cross t u)
no_cross_at_end t u e h (inl k) = no_cross_at_a t u (rw k at h)
no_cross_at_end t u e h (inr k) = no_cross_at_b t u (rw k at h)

-- an end of u strictly inside t marks t
pub MarksAt-end : (t u : Pair) (e : Point) → Before t.a t.b → IsTrue (is_strictly_inside t e) → IsTrue (is_end u e) → MarksAt t u e
MarksAt-end t u e o h k = inr (h, no_cross_at_end t u e (inside_order t e o h).0 (end_cases u e k), k)

-- so does a point strictly inside both, of two that do not lie on one line
pub MarksAt-cross : (t u : Pair) (e : Point) → Before t.a t.b → Before u.a u.b → IsTrue (is_strictly_inside t e) → IsTrue (is_strictly_inside u e) → IsFalse (are_collinear t u) → MarksAt t u e
MarksAt-cross t u e o p h k n = inl (h, crosses_at_inside t u e o p h k n, k)

-- where s and t lie on one line, what marks s strictly inside t marks t there
pub MarksAt-moves : (s t u : Pair) (e : Point) → Before s.a s.b → Before t.a t.b → Before u.a u.b → IsTrue (are_collinear s t) → IsTrue (is_strictly_inside t e) → MarksAt s u e → MarksAt t u e
MarksAt-moves s t u e o p q c i (inr h) = MarksAt-end t u e p i h.2
MarksAt-moves s t u e o p q c i (inl h) =
    MarksAt-cross t u e p q i h.2 (false_from_ne_true (are_collinear t u) (λ k. both_ways (are_collinear s u) (crossing_not_collinear s u h.1) (are_collinear-trans s t u o p c k)))

-- ---- parts of a pair

-- p is an ordered pair along s
pub record IsPart (p s : Pair) : Type 0 where
  pub whole : Before s.a s.b
  pub ordered : Before p.a p.b
  pub a_on_line : turn s.a s.b p.a ≡ pos 0
  pub b_on_line : turn s.a s.b p.b ≡ pos 0
  pub from_a : UpTo s.a p.a
  pub up_to_b : UpTo p.b s.b

-- p's line is s's
pub IsPart-line : (p s : Pair) (e : Point) → IsPart p s → turn p.a p.b e ≡ pos 0 → turn s.a s.b e ≡ pos 0
IsPart-line p s e h k =
    let sa = collinear s.a s.b p.a p.b s.a h.whole h.a_on_line h.b_on_line (turn_same_outer s.a s.b) in
    let sb = collinear s.a s.b p.a p.b s.b h.whole h.a_on_line h.b_on_line (turn_same_last s.a s.b) in
    collinear p.a p.b s.a s.b e h.ordered sa sb k

pub IsPart-line_back : (p s : Pair) (e : Point) → IsPart p s → turn s.a s.b e ≡ pos 0 → turn p.a p.b e ≡ pos 0
IsPart-line_back p s e h k = collinear s.a s.b p.a p.b e h.whole h.a_on_line h.b_on_line k

pub IsPart-inside : (p s : Pair) (e : Point) → IsPart p s → IsTrue (is_strictly_inside p e) → IsTrue (is_strictly_inside s e)
IsPart-inside p s e h k =
    let i = inside_order p e h.ordered k in
    inside_from_order s e h.whole (IsPart-line p s e h i.0) (UpTo-Before-trans s.a p.a e h.from_a i.1) (Before-UpTo-trans e p.b s.b i.2 h.up_to_b)

pub IsPart-a_on : (p s : Pair) → IsPart p s → IsTrue (lies_on s p.a)
IsPart-a_on p s h = lies_on_from_order s p.a h.whole h.a_on_line h.from_a (UpTo-trans p.a p.b s.b (UpTo-Before p.a p.b h.ordered) h.up_to_b)

pub IsPart-b_on : (p s : Pair) → IsPart p s → IsTrue (lies_on s p.b)
IsPart-b_on p s h = lies_on_from_order s p.b h.whole h.b_on_line (UpTo-trans s.a p.a p.b h.from_a (UpTo-Before p.a p.b h.ordered)) h.up_to_b
