-- Laws of counts: how they add, and how they turn.
use Rattle.std.proofs.Common.{◌≡◌, Bool, true, false, cond, ℕ, ◌+◌, ◌*◌, ◌/◌, ◌%◌, ◌<◌, max, refl, sym, ap, ap₂, subst, ◌∙◌, arith, IsTrue, bit_or, suc, zero, ltb-true}
use Rattle.std.specs.Prelude.{ℤ, pos, ◌+ℤ◌, neg_ℤ}
use Rattle.std.proofs.lemmas.Int.{ints}
use Rattle.std.proofs.lemmas.Bool.{and_parts}
use Rattle.std.proofs.lemmas.Nat.{or_comm, or_mod, or_shr, or_block}
use Rattle.std.proofs.lemmas.Nat.Bits.{bit_at_or, same_from_bits}
use Rattle.std.specs.Int.{bit_at}
use lib.Bits.{or_zero_l}
use Rattle.overlay_base.specs.Windings.{Winding, empty, add, swap_directions, inverse, weight, is_valid}
use Rattle.overlay_base.specs.Laws.{InverseTwice, InverseOfSum, InverseCancels, PolygonCountsAreGroup}
use Rattle.overlay_geometry.proofs.laws.integers.Products.{zero_plus, plus_comm}

-- ---- addition

pub or_assoc : (a b c : ℕ) → bit_or (bit_or a b) c ≡ bit_or a (bit_or b c)
or_assoc a b c = same_from_bits _ _ (λ i.
    bit_at_or (bit_or a b) c i ∙ ap (λ n. max n (bit_at c i)) (bit_at_or a b i) ∙ three (bit_at a i) (bit_at b i) (bit_at c i)
    ∙ sym (bit_at_or a (bit_or b c) i ∙ ap (λ n. max (bit_at a i) n) (bit_at_or b c i)))
  where
    three : (k m n : ℕ) → max (max k m) n ≡ max k (max m n)
    three k m n = omega arith

-- two counts with equal numbers and masks are equal
pub same_windings : (c d : Winding) → c.subj ≡ d.subj → c.clip ≡ d.clip → c.mask ≡ d.mask → c ≡ d
same_windings c d p q r = λ i. record { subj = p i; clip = q i; mask = r i }

add-ℤ_assoc : (a b c : ℤ) → (a +ℤ b) +ℤ c ≡ a +ℤ (b +ℤ c)
add-ℤ_assoc a b c = omega (arith, ints)

add-ℤ_neg : (a : ℤ) → a +ℤ neg_ℤ a ≡ pos 0
add-ℤ_neg a = omega (arith, ints)

neg-add : (a b : ℤ) → neg_ℤ (a +ℤ b) ≡ neg_ℤ a +ℤ neg_ℤ b
neg-add a b = omega (arith, ints)

neg-neg : (a : ℤ) → neg_ℤ (neg_ℤ a) ≡ a
neg-neg a = omega (arith, ints)

pub add_comm : (c d : Winding) → add c d ≡ add d c
add_comm c d = same_windings _ _ (plus_comm c.subj d.subj) (plus_comm c.clip d.clip) (or_comm c.mask d.mask)

pub add_assoc : (c d e : Winding) → add (add c d) e ≡ add c (add d e)
add_assoc c d e = same_windings _ _ (add-ℤ_assoc c.subj d.subj e.subj) (add-ℤ_assoc c.clip d.clip e.clip) (or_assoc c.mask d.mask e.mask)

pub empty-add : (c : Winding) → add empty c ≡ c
empty-add c = same_windings _ _ (zero_plus c.subj) (zero_plus c.clip) (or_zero_l c.mask)

pub add-empty : (c : Winding) → add c empty ≡ c
add-empty c = add_comm c empty ∙ empty-add c

-- a sum of what a test lets through
pub cond-empty : (b : Bool) → cond b empty empty ≡ empty
cond-empty true = refl
cond-empty false = refl

pub cond-add : (b : Bool) (c d : Winding) → cond b (add c d) empty ≡ add (cond b c empty) (cond b d empty)
cond-add true c d = refl
cond-add false c d = refl

-- ---- the same segment run the other way

swap_bits : (m : ℕ) → m < 4 → swap_directions (swap_directions m) ≡ m
swap_bits zero h = refl
swap_bits (suc zero) h = refl
swap_bits (suc (suc zero)) h = refl
swap_bits (suc (suc (suc zero))) h = refl
swap_bits (suc (suc (suc (suc m)))) h = absurd (omega arith)

-- inverting a valid count twice gives it back
pub inverse-inverse : (c : Winding) → IsTrue (is_valid c) → inverse (inverse c) ≡ c
inverse-inverse c h = same_windings _ _ (neg-neg c.subj) (neg-neg c.clip) (swap_bits c.mask (ltb-true _ _ (and_parts _ _ h).1))

pub swap_directions-or : (m n : ℕ) → swap_directions (bit_or m n) ≡ bit_or (swap_directions m) (swap_directions n)
swap_directions-or m n =
    let low : bit_or m n % 2 ≡ bit_or (m % 2) (n % 2) = or_mod m n 1 in
    let half : bit_or m n / 2 ≡ bit_or (m / 2) (n / 2) = or_shr m n 1 in
    let high : bit_or m n / 2 % 2 ≡ bit_or (m / 2 % 2) (n / 2 % 2) = ap (λ k. k % 2) half ∙ or_mod (m / 2) (n / 2) 1 in
    let blocks : bit_or (m % 2 * 2 + m / 2 % 2) (n % 2 * 2 + n / 2 % 2) ≡ bit_or (m % 2) (n % 2) * 2 + bit_or (m / 2 % 2) (n / 2 % 2) = or_block 1 (m % 2) (n % 2) (m / 2 % 2) (n / 2 % 2) (omega arith) (omega arith) in
    ap₂ (λ j k. 2 * j + k) low high ∙ turned (bit_or (m % 2) (n % 2)) _ ∙ sym blocks ∙ ap₂ bit_or (sym (turned (m % 2) _)) (sym (turned (n % 2) _))
  where
    turned : (j k : ℕ) → 2 * j + k ≡ j * 2 + k
    turned j k = omega arith

-- an inverted sum is the sum of the inverted
pub inverse-add : (c d : Winding) → inverse (add c d) ≡ add (inverse c) (inverse d)
inverse-add c d = same_windings _ _ (neg-add c.subj d.subj) (neg-add c.clip d.clip) (swap_directions-or c.mask d.mask)

pub inverse_twice : InverseTwice
inverse_twice = inverse-inverse

pub inverse_of_sum : InverseOfSum
inverse_of_sum = inverse-add

-- ---- without masks

pub weight-add : (c d : Winding) → weight (add c d) ≡ add (weight c) (weight d)
weight-add c d = refl

-- a count without its mask and its inverse cancel
pub add-inverse_weight : (c : Winding) → add (weight c) (inverse (weight c)) ≡ empty
add-inverse_weight c = same_windings _ _ (add-ℤ_neg c.subj) (add-ℤ_neg c.clip) refl

pub inverse_cancels : InverseCancels
inverse_cancels c = same_windings _ _ (add-ℤ_neg c.subj) (add-ℤ_neg c.clip) refl

pub polygon_counts_are_group : PolygonCountsAreGroup
polygon_counts_are_group c d h k =
    let same : weight c ≡ c = same_windings _ _ refl refl (sym h) in
    (ap₂ bit_or h k, ap swap_directions h, subst (λ (w : Winding). add w (inverse w) ≡ empty) same (add-inverse_weight c))
