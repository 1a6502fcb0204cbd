-- How large the numbers of a layout are: its power, offsets from its left end, and borders.
use Rattle.std.proofs.Common.{◌≡◌, refl, sym, ap, subst, ℕ, ◌+◌, ◌-◌, ◌*◌, ◌^◌, ◌/◌, ◌<◌, ◌≤◌, ◌∙◌, inl, inr, arith, Fits, FitsSigned, w64, to_z, ◌%◌, IsTrue, Bool, true, false, if◌then◌else◌, List, [], ◌∷◌, map, drop, length, get_or, zero, suc, Option, Some, None, IfSome, IfNone}
use Rattle.std.specs.Prelude.{ℤ, pos, negsuc, ◌+ℤ◌, ◌-ℤ◌, ◌≤ℤ◌, ◌<ℤ◌, unsigned_abs, nat_lt}
use Rattle.std.proofs.lemmas.Int.{ints, clamps, to_z_pos}
use Rattle.std.specs.Int.{int_max}
use Rattle.overlay_geometry.specs.Points.{Pair}
use Rattle.overlay_geometry.specs.PairOf.{pair_of}
use Rattle.overlay_geometry.specs.declared.geom.x_segment.XSegment.{XSegment}
use lib.Dec.{T}
use lib.Signed.{non_neg, lt_z}
use Rattle.std.proofs.Math.Pow.{pow_mono}
use Rattle.std.proofs.lemmas.Grind.{pow_more}
use Rattle.std.proofs.Math.Nat.{eq-zero-or-pos, div-mul-le_self, mod-eq_of_lt}
use Rattle.std.proofs.lemmas.Nat.{mul-le, pow_pos}
use Rattle.overlay_geometry.specs.Coordinates.{least_coordinate, greatest_coordinate, is_coordinate, greatest_difference}
use Rattle.overlay_geometry.proofs.laws.geometry.Coordinates.{difference_bound, small_fits, coordinate_fits}
use Rattle.overlay_grid.specs.Grid.{Layout, IsLog2, spread_of_x, power_for, column_index, pos_of, greatest_x, IsLayout, IsLayoutOf, IsTooNarrow}
use Rattle.overlay_geometry.proofs.laws.integers.Tests.{nat_lt-test, nat_lt-test_false}
use Rattle.overlay_geometry.proofs.laws.integers.Products.{abs_nonneg}

-- a power of two that is no greater than a difference of coordinates
pub power_below : (power n : ℕ) → 2 ^ power ≤ n → n ≤ greatest_difference → power < 64
power_below power n h k = elim (eq-zero-or-pos (power - 63)) [
  | inl e ↦ omega arith
  | inr more ↦ (let m : 2 ^ 64 ≤ 2 ^ power = pow_mono {i = 64} {j = power} (omega arith) in absurd (omega arith))
]

-- the logarithm is one number
pub log_alone : (n j k : ℕ) → IsLog2 n j → IsLog2 n k → j ≡ k
log_alone n j k a b = elim (eq-zero-or-pos (j - k)) [
  | inl e ↦ elim (eq-zero-or-pos (k - j)) [
    | inl f ↦ omega arith
    | inr more ↦ absurd (above n j k (omega arith) a b)
  ]
  | inr more ↦ absurd (above n k j (omega arith) b a)
]
  where
    above : (n j k : ℕ) → j + 1 ≤ k → IsLog2 n j → IsLog2 n k → ⊥
    above n j k h a b =
        let m : 2 ^ (j + 1) ≤ 2 ^ k = pow_mono {i = j + 1} {j = k} h in
        let p = pow_more 2 j in
        let c = a.not_passed in
        let d = b.reached in
        omega arith

-- a layout between coordinates
pub record IsLaidOut (least greatest : ℤ) (l : Layout) : Type 0 where
  pub low : least_coordinate ≤ℤ least
  pub high : greatest ≤ℤ greatest_coordinate
  pub from : IsTrue (is_coordinate least greatest l.min_x)
  pub to : IsTrue (is_coordinate least greatest l.max_x)
  pub order : l.min_x ≤ℤ l.max_x
  pub fits : 2 ^ l.power ≤ spread_of_x l.min_x l.max_x

pub spread_bound : (least greatest : ℤ) (l : Layout) → IsLaidOut least greatest l → spread_of_x l.min_x l.max_x ≤ greatest_difference
spread_bound least greatest l h = difference_bound least greatest l.min_x l.max_x h.low h.high h.from h.to

pub power_fits : (least greatest : ℤ) (l : Layout) → IsLaidOut least greatest l → l.power < 64
power_fits least greatest l h = power_below l.power _ h.fits (spread_bound least greatest l h)

pub between : (least greatest a b z : ℤ) → IsTrue (is_coordinate least greatest a) → IsTrue (is_coordinate least greatest b) → a ≤ℤ z → z ≤ℤ b → IsTrue (is_coordinate least greatest z)
between least greatest a b z h k m n = grind (arith, ints)

-- offsets of an x between the ends
pub record OffsetFits (l : Layout) (x : ℤ) : Type 0 where
  pub value : pos (unsigned_abs (x -ℤ l.min_x)) ≡ x -ℤ l.min_x
  pub bound : unsigned_abs (x -ℤ l.min_x) ≤ greatest_difference
  pub fits : FitsSigned w64 (x -ℤ l.min_x)
  pub from_fits : FitsSigned w64 l.min_x
  pub x_fits : FitsSigned w64 x

pub offset_fits : (least greatest : ℤ) (l : Layout) (x : ℤ) → IsLaidOut least greatest l → l.min_x ≤ℤ x → x ≤ℤ l.max_x → OffsetFits l x
offset_fits least greatest l x h a b =
    let value = abs_nonneg (x -ℤ l.min_x) (omega (arith, ints)) in
    let whole = abs_nonneg (l.max_x -ℤ l.min_x) (let o = h.order in omega (arith, ints)) in
    let s = spread_bound least greatest l h in
    let bound : unsigned_abs (x -ℤ l.min_x) ≤ greatest_difference = omega (arith, ints) in
    record {
      value = value;
      bound = bound;
      fits = small_fits (x -ℤ l.min_x) bound;
      from_fits = coordinate_fits least greatest l.min_x h.low h.high h.from;
      x_fits = coordinate_fits least greatest x h.low h.high (between least greatest l.min_x l.max_x x h.from h.to a b);
    }

-- what is not negative and no greater than a difference of coordinates, as an unsigned number
pub cast_fits : (z : ℤ) → pos 0 ≤ℤ z → unsigned_abs z ≤ greatest_difference → T (non_neg z) × Fits w64 (unsigned_abs z)
cast_fits (pos n) h k = (tt, record { fits = omega arith })
cast_fits (negsuc n) h k = absurd (omega (arith, ints))

-- a layout's clauses together
pub laid_out : (least greatest : ℤ) (l : Layout) → least_coordinate ≤ℤ least → greatest ≤ℤ greatest_coordinate → IsTrue (is_coordinate least greatest l.min_x) → IsTrue (is_coordinate least greatest l.max_x) →
    l.min_x ≤ℤ l.max_x → 2 ^ l.power ≤ spread_of_x l.min_x l.max_x → IsLaidOut least greatest l
laid_out least greatest l low high from to order fits = record { low = low; high = high; from = from; to = to; order = order; fits = fits }

-- the left border of a column up to that of the greatest x
pub record BorderFits (least greatest : ℤ) (l : Layout) (i : ℕ) : Type 0 where
  pub small : i * 2 ^ l.power < 2 ^ 63
  pub signed : FitsSigned w64 (pos (i * 2 ^ l.power))
  pub from_fits : FitsSigned w64 l.min_x
  pub fits : FitsSigned w64 (l.min_x +ℤ pos (i * 2 ^ l.power))
  pub in_range : IsTrue (is_coordinate least greatest (l.min_x +ℤ pos (i * 2 ^ l.power)))
  pub value : l.min_x +ℤ pos (i * 2 ^ l.power) ≡ pos_of l i

pub border_fits : (least greatest : ℤ) (l : Layout) (i : ℕ) → IsLaidOut least greatest l → i ≤ column_index l l.max_x → BorderFits least greatest l i
border_fits least greatest l i h le =
    let d = div-mul-le_self (unsigned_abs (l.max_x -ℤ l.min_x)) (2 ^ l.power) in
    let m = mul-le i (2 ^ l.power) (column_index l l.max_x) (2 ^ l.power) le (omega arith) in
    let whole = abs_nonneg (l.max_x -ℤ l.min_x) (let o = h.order in omega (arith, ints)) in
    let s = spread_bound least greatest l h in
    let small : i * 2 ^ l.power ≤ greatest_difference = omega arith in
    let top : (l.min_x +ℤ pos (i * 2 ^ l.power)) ≤ℤ l.max_x = omega (arith, ints) in
    let bottom : l.min_x ≤ℤ (l.min_x +ℤ pos (i * 2 ^ l.power)) = omega (arith, ints) in
    let in_range : IsTrue (is_coordinate least greatest (l.min_x +ℤ pos (i * 2 ^ l.power))) = between least greatest l.min_x l.max_x _ h.from h.to bottom top in
    record {
      small = omega arith;
      signed = small_fits (pos (i * 2 ^ l.power)) small;
      from_fits = coordinate_fits least greatest l.min_x h.low h.high h.from;
      fits = coordinate_fits least greatest _ h.low h.high in_range;
      in_range = in_range;
      value = omega (arith, ints);
    }

-- the number of a column
pub column_fits : (least greatest : ℤ) (l : Layout) (i : ℕ) → IsLaidOut least greatest l → i ≤ column_index l l.max_x → Fits w64 i
column_fits least greatest l i h le =
    let small = (border_fits least greatest l i h le).small in
    let wide = pow_pos l.power in
    let own = mul-le i 1 i (2 ^ l.power) (omega arith) (omega arith) in
    record { fits = omega arith }

pub mod_small : (n : ℕ) → n < 2 ^ 63 → n % 18446744073709551616 ≡ n
mod_small n h = mod-eq_of_lt {n = n} {m = 18446744073709551616} (omega arith)

pub to_z_of_pos : (n : ℕ) → n < 2 ^ 63 → to_z w64 n ≡ pos n
to_z_of_pos n h = to_z_pos w64 n h

pub power_for-fits : (n log max_power : ℕ) → 4 ≤ n → IsLog2 n log → 2 ^ power_for log max_power ≤ n
power_for-fits n log max_power h k = by (nat_lt max_power log)
  where
    by : (b : Bool) → 2 ^ (if b then log - max_power else 1) ≤ n
    by true = let m = pow_mono {i = log - max_power} {j = log} (omega arith) in let r = k.reached in omega arith
    by false = omega arith

pub power_is : (n log max_power : ℕ) (log' : ℕ) → IsLog2 n log → IsLog2 n log' → power_for log max_power ≡ power_for log' max_power
power_is n log max_power log' h k = ap (λ (i : ℕ). power_for i max_power) (log_alone n log log' h k)

pub power_for-less : (log max_power : ℕ) → max_power < log → power_for log max_power ≡ log - max_power
power_for-less log max_power h = ap (λ (b : Bool). if b then log - max_power else 1) (nat_lt-test max_power log h)

pub power_for-not_less : (log max_power : ℕ) → log ≤ max_power → power_for log max_power ≡ 1
power_for-not_less log max_power h = ap (λ (b : Bool). if b then log - max_power else 1) (nat_lt-test_false max_power log h)

-- how far apart two coordinates are
pub record SpreadFits (a b : ℤ) : Type 0 where
  pub a_fits : FitsSigned w64 a
  pub b_fits : FitsSigned w64 b
  pub fits : FitsSigned w64 (b -ℤ a)

pub spread_fits : (least greatest a b : ℤ) → least_coordinate ≤ℤ least → greatest ≤ℤ greatest_coordinate → IsTrue (is_coordinate least greatest a) → IsTrue (is_coordinate least greatest b) → SpreadFits a b
spread_fits least greatest a b low high ha hb = record {
  a_fits = coordinate_fits least greatest a low high ha;
  b_fits = coordinate_fits least greatest b low high hb;
  fits = small_fits (b -ℤ a) (difference_bound least greatest a b low high ha hb);
}

pub from_wide_spread : (a b : ℤ) → lt_z (b -ℤ a) (pos 4) ≡ false → (a ≤ℤ b) × (4 ≤ unsigned_abs (b -ℤ a))
from_wide_spread a b h =
    let k : pos 4 ≤ℤ (b -ℤ a) = grind (arith, ints) in
    let e = abs_nonneg (b -ℤ a) (omega (arith, ints)) in
    (omega (arith, ints), omega (arith, ints))

pub before_to : (a b : ℤ) → a ≤ℤ b → (a -ℤ pos 1) ≤ℤ b
before_to a b h = omega (arith, ints)

-- ---- the greatest x of ends

pub greatest_more : (x z : ℤ) (t : Pair) (ps : List Pair) (i : ℕ) (total : ℤ) → greatest_x x (drop i ps) ≡ total → drop i ps ≡ t ∷ drop (i + 1) ps → z ≡ int_max x t.b.x → greatest_x z (drop (i + 1) ps) ≡ total
unfolding greatest_x
greatest_more x z t ps i total h d e = let start = rw d at h in ap (λ (w : ℤ). greatest_x w (drop (i + 1) ps)) e ∙ start

pub greatest_end : (x : ℤ) (ps : List Pair) (i : ℕ) (total : ℤ) → greatest_x x (drop i ps) ≡ total → drop i ps ≡ [] → x ≡ total
unfolding greatest_x
greatest_end x ps i total h d = rw d at h

pub max_in_range : (least greatest u v : ℤ) → IsTrue (is_coordinate least greatest u) → IsTrue (is_coordinate least greatest v) → IsTrue (is_coordinate least greatest (int_max u v))
max_in_range least greatest u v h k = grind (arith, ints, clamps)

pub segments-next : {I : Type 0} (whole : I → ℤ) (xs : List (XSegment I)) (j : ℕ) (s : XSegment I) → j < length xs → s ≡ get_or xs j s → drop j (map (pair_of whole) xs) ≡ pair_of whole s ∷ drop (j + 1) (map (pair_of whole) xs)
segments-next whole [] j s lt e = absurd (omega arith)
segments-next whole (x ∷ xs) zero s lt e = ap (λ (u : XSegment _). pair_of whole u ∷ map (pair_of whole) xs) (sym e)
segments-next whole (x ∷ xs) (suc j) s lt e = segments-next whole xs j s (omega arith) e ∙ ap (λ (n : ℕ). pair_of whole s ∷ drop n (map (pair_of whole) (x ∷ xs))) (let m : suc (j + 1) ≡ suc j + 1 = omega arith in m)

pub segments-none : {I : Type 0} (whole : I → ℤ) (xs : List (XSegment I)) (j : ℕ) → length xs ≤ j → drop j (map (pair_of whole) xs) ≡ []
segments-none whole [] zero h = refl
segments-none whole [] (suc j) h = refl
segments-none whole (x ∷ xs) zero h = absurd (omega arith)
segments-none whole (x ∷ xs) (suc j) h = segments-none whole xs j (omega arith)

-- the layout over a list, from that over its first start and its greatest end
abbrev pub head_or : List Pair → Pair → Pair
head_or [] d = d
head_or (u ∷ us) d = u

pub same_head : (ps us vs : List Pair) (s t : Pair) → ps ≡ s ∷ us → ps ≡ t ∷ vs → s ≡ t
same_head ps us vs s t e f = ap (λ (qs : List Pair). head_or qs s) (sym e ∙ f)

pub layout_of_list : (ps : List Pair) (s : Pair) (count log : ℕ) (greatest : ℤ) (l : Layout) → ps ≡ s ∷ drop 1 ps → IsLog2 count log → greatest ≡ greatest_x s.b.x (drop 1 ps) → IsLayout s.a.x greatest (log / 2) l → IsLayoutOf ps count l
layout_of_list ps s count log greatest l e k g h =
    subst (λ (qs : List Pair). IsLayoutOf qs count l) (sym e)
    (λ log' k'. subst (λ (j : ℕ). IsLayout s.a.x (greatest_x s.b.x (drop 1 ps)) (j / 2) l) (log_alone count log log' k k') (subst (λ (z : ℤ). IsLayout s.a.x z (log / 2) l) g h))

pub narrow_list : (ps : List Pair) (s : Pair) (greatest : ℤ) → ps ≡ s ∷ drop 1 ps → greatest ≡ greatest_x s.b.x (drop 1 ps) → (greatest -ℤ s.a.x) <ℤ pos 4 → IsTooNarrow ps
narrow_list ps s greatest e g h = subst IsTooNarrow (sym e) (subst (λ (z : ℤ). (z -ℤ s.a.x) <ℤ pos 4) g h)

pub if_none : {X : Type 0} (r : Option X) (P Q : Type 0) → (P → Q) → IfNone r P → IfNone r Q
if_none (Some x) P Q f h = h
if_none None P Q f h = f h

pub if_some : {X : Type 0} (r : Option X) (P Q : X → Type 0) → ((x : X) → P x → Q x) → IfSome r P → IfSome r Q
if_some (Some x) P Q f h = f x h
if_some None P Q f h = h
