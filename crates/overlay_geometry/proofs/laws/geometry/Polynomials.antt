-- Polynomials over whole numbers: identities and inequalities in a line or two each.
--     D a b              the difference of two naturals; `as_D` reads any whole number so, `diffs` computes with it
--     an identity        rw (as_D x, as_D y, ..) (simp diffs (D-eq _ _ _ _ (omega arith))), with one `as_D` for each variable
--     an inequality      the identity that writes the difference as a sum of products, and then signs: `mul-pos`, `mul-nonneg`, `square-nonneg`
--     a common factor    `mul-lt_left`, `mul-le_left` put it in, `cancel-lt`, `cancel-le`, `cancel-eq`, `cancel-pos` take it out
--     what is linear in the products closes by omega (arith, ints), which reads a product as one unknown only where its factors are variables
use Rattle.std.proofs.Common.{◌≡◌, ap, ℕ, ◌+◌, ◌*◌, ◌∙◌, arith, zero, suc}
use Rattle.std.specs.Prelude.{ℤ, pos, negsuc, ◌+ℤ◌, ◌-ℤ◌, ◌*ℤ◌, ◌≤ℤ◌, ◌<ℤ◌, neg_ℤ}
use Rattle.std.proofs.lemmas.Int.{ints, by_lt_z}
use borrow.Author.Differences.{up, down}

-- ---- differences of naturals

-- the difference of two naturals
unfoldable pub D : ℕ → ℕ → ℤ
D a b = pos a -ℤ pos b

pub as_D : (z : ℤ) → z ≡ D (up z) (down z)
unfolding D
as_D (pos n) = omega (arith, ints)
as_D (negsuc n) = omega (arith, ints)

pub D-add : (a b c d : ℕ) → D a b +ℤ D c d ≡ D (a + c) (b + d)
unfolding D
D-add a b c d = omega (arith, ints)

pub D-sub : (a b c d : ℕ) → D a b -ℤ D c d ≡ D (a + d) (b + c)
unfolding D
D-sub a b c d = omega (arith, ints)

pub D-neg : (a b : ℕ) → neg_ℤ (D a b) ≡ D b a
unfolding D
D-neg a b = omega (arith, ints)

pub D-pos : (a : ℕ) → pos a ≡ D a 0
unfolding D
D-pos a = omega (arith, ints)

pub D-eq : (a b c d : ℕ) → a + d ≡ c + b → D a b ≡ D c d
unfolding D
D-eq a b c d h = omega (arith, ints)

pub mul_as : (a b : ℤ) → a *ℤ b ≡ D (up a * up b + down a * down b) (up a * down b + down a * up b)
unfolding D
mul_as a b = omega (arith, ints)

products : (u v a b w x c d : ℕ) → u + b ≡ v + a → w + d ≡ x + c → (u * w + v * x) + (a * d + b * c) ≡ (a * c + b * d) + (u * x + v * w)
products u v a b w x c d e f = omega (arith, ap (λ (n : ℕ). n * w) e, ap (λ (n : ℕ). n * x) e, ap (λ (n : ℕ). a * n) f, ap (λ (n : ℕ). b * n) f)

up-down : (a b : ℕ) → up (D a b) + b ≡ down (D a b) + a
unfolding D
up-down a b = omega (arith, ints)

pub D-mul : (a b c d : ℕ) → D a b *ℤ D c d ≡ D (a * c + b * d) (a * d + b * c)
D-mul a b c d = mul_as (D a b) (D c d) ∙ D-eq _ _ _ _ (products _ _ a b _ _ c d (up-down a b) (up-down c d))

pub ruleset diffs = (D-add, D-sub, D-neg, D-mul, D-pos)

-- ---- products and signs

pub mul-pos : (a b : ℤ) → pos 0 <ℤ a → pos 0 <ℤ b → pos 0 <ℤ (a *ℤ b)
mul-pos (pos zero) b p q = absurd (omega (arith, ints))
mul-pos (pos (suc a)) (pos zero) p q = absurd (omega (arith, ints))
mul-pos (pos (suc a)) (pos (suc b)) p q = omega (arith, ints)
mul-pos (pos (suc a)) (negsuc b) p q = absurd (omega (arith, ints))
mul-pos (negsuc a) b p q = absurd (omega (arith, ints))

pub mul-nonneg : (a b : ℤ) → pos 0 ≤ℤ a → pos 0 ≤ℤ b → pos 0 ≤ℤ (a *ℤ b)
mul-nonneg (pos a) (pos b) p q = omega (arith, ints)
mul-nonneg (pos a) (negsuc b) p q = absurd (omega (arith, ints))
mul-nonneg (negsuc a) b p q = absurd (omega (arith, ints))

pub difference-pos : (a b : ℤ) → a <ℤ b → pos 0 <ℤ (b -ℤ a)
difference-pos a b h = omega (arith, ints)

pub difference-nonneg : (a b : ℤ) → a ≤ℤ b → pos 0 ≤ℤ (b -ℤ a)
difference-nonneg a b h = omega (arith, ints)

pub from_difference-pos : (a b : ℤ) → pos 0 <ℤ (b -ℤ a) → a <ℤ b
from_difference-pos a b h = omega (arith, ints)

pub from_difference-nonneg : (a b : ℤ) → pos 0 ≤ℤ (b -ℤ a) → a ≤ℤ b
from_difference-nonneg a b h = omega (arith, ints)

pub mul-sub_left : (c a b : ℤ) → c *ℤ (b -ℤ a) ≡ c *ℤ b -ℤ c *ℤ a
mul-sub_left c a b = rw (as_D a, as_D b, as_D c) (simp diffs (D-eq _ _ _ _ (omega arith)))

-- a factor above 0 goes in on both sides
pub mul-lt_left : (c a b : ℤ) → pos 0 <ℤ c → a <ℤ b → (c *ℤ a) <ℤ (c *ℤ b)
mul-lt_left c a b p h = from_difference-pos _ _ (rw (← mul-sub_left c a b) (mul-pos c (b -ℤ a) p (difference-pos a b h)))

pub mul-le_left : (c a b : ℤ) → pos 0 ≤ℤ c → a ≤ℤ b → (c *ℤ a) ≤ℤ (c *ℤ b)
mul-le_left c a b p h = from_difference-nonneg _ _ (rw (← mul-sub_left c a b) (mul-nonneg c (b -ℤ a) p (difference-nonneg a b h)))

-- and comes out
pub cancel-lt : (c a b : ℤ) → pos 0 <ℤ c → (c *ℤ a) <ℤ (c *ℤ b) → a <ℤ b
cancel-lt c a b p h = by_lt_z a b (λ less. less) (λ (more : b ≤ℤ a). absurd (let q : pos 0 ≤ℤ c = omega (arith, ints) in let back : (c *ℤ b) ≤ℤ (c *ℤ a) = mul-le_left c b a q more in omega (arith, ints)))

pub cancel-le : (c a b : ℤ) → pos 0 <ℤ c → (c *ℤ a) ≤ℤ (c *ℤ b) → a ≤ℤ b
cancel-le c a b p h = by_lt_z b a (λ (more : b <ℤ a). absurd (let back : (c *ℤ b) <ℤ (c *ℤ a) = mul-lt_left c b a p more in omega (arith, ints))) (λ less. less)

pub cancel-pos : (c a : ℤ) → pos 0 <ℤ c → pos 0 <ℤ (c *ℤ a) → pos 0 <ℤ a
cancel-pos c a p h = cancel-lt c (pos 0) a p (let e : c *ℤ pos 0 ≡ pos 0 = omega (arith, ints) in rw e h)

pub cancel-eq : (c a b : ℤ) → pos 0 <ℤ c → c *ℤ a ≡ c *ℤ b → a ≡ b
cancel-eq c a b p h =
    let l : a ≤ℤ b = cancel-le c a b p (omega (arith, ints)) in
    let r : b ≤ℤ a = cancel-le c b a p (omega (arith, ints)) in
    omega (arith, ints)

-- ---- signs of products with a factor below 0

pub mul-neg_left : (a b : ℤ) → neg_ℤ a *ℤ b ≡ neg_ℤ (a *ℤ b)
mul-neg_left a b = rw (as_D a, as_D b) (simp diffs (D-eq _ _ _ _ (omega arith)))

pub mul-neg_right : (a b : ℤ) → a *ℤ neg_ℤ b ≡ neg_ℤ (a *ℤ b)
mul-neg_right a b = rw (as_D a, as_D b) (simp diffs (D-eq _ _ _ _ (omega arith)))

pub mul-nonpos : (a b : ℤ) → pos 0 ≤ℤ a → b ≤ℤ pos 0 → (a *ℤ b) ≤ℤ pos 0
mul-nonpos a b p q = let h = mul-nonneg a (neg_ℤ b) p (omega (arith, ints)) in omega (arith, ints, mul-neg_right a b)

pub mul-nonpos_left : (a b : ℤ) → a ≤ℤ pos 0 → pos 0 ≤ℤ b → (a *ℤ b) ≤ℤ pos 0
mul-nonpos_left a b p q = let h = mul-nonneg (neg_ℤ a) b (omega (arith, ints)) q in omega (arith, ints, mul-neg_left a b)

pub mul-nonneg_both : (a b : ℤ) → a ≤ℤ pos 0 → b ≤ℤ pos 0 → pos 0 ≤ℤ (a *ℤ b)
mul-nonneg_both a b p q = let h = mul-nonpos (neg_ℤ a) b (omega (arith, ints)) q in omega (arith, ints, mul-neg_left a b)

pub mul-neg : (a b : ℤ) → pos 0 <ℤ a → b <ℤ pos 0 → (a *ℤ b) <ℤ pos 0
mul-neg a b p q = let h = mul-pos a (neg_ℤ b) p (omega (arith, ints)) in omega (arith, ints, mul-neg_right a b)

-- the sign of a product with a factor above 0
pub cancel-nonneg : (c m : ℤ) → pos 0 <ℤ c → pos 0 ≤ℤ (c *ℤ m) → pos 0 ≤ℤ m
cancel-nonneg c m p h = cancel-le c (pos 0) m p (let e : c *ℤ pos 0 ≡ pos 0 = omega (arith, ints) in rw e h)

pub cancel-nonpos : (c m : ℤ) → pos 0 <ℤ c → (c *ℤ m) ≤ℤ pos 0 → m ≤ℤ pos 0
cancel-nonpos c m p h = cancel-le c m (pos 0) p (let e : c *ℤ pos 0 ≡ pos 0 = omega (arith, ints) in rw e h)

pub cancel-neg : (c m : ℤ) → pos 0 <ℤ c → (c *ℤ m) <ℤ pos 0 → m <ℤ pos 0
cancel-neg c m p h = cancel-lt c m (pos 0) p (let e : c *ℤ pos 0 ≡ pos 0 = omega (arith, ints) in rw e h)

pub cancel-zero : (c m : ℤ) → pos 0 <ℤ c → c *ℤ m ≡ pos 0 → m ≡ pos 0
cancel-zero c m p h = cancel-eq c m (pos 0) p (let e : c *ℤ pos 0 ≡ pos 0 = omega (arith, ints) in rw e h)

-- ---- fractions n/d with d above 0

pub fractions-trans : (a b c k m n : ℤ) → pos 0 <ℤ k → pos 0 <ℤ m → pos 0 <ℤ n → (a *ℤ m) ≤ℤ (b *ℤ k) → (b *ℤ n) ≤ℤ (c *ℤ m) → (a *ℤ n) ≤ℤ (c *ℤ k)
fractions-trans a b c k m n hk hm hn p q =
    let first = mul-le_left n (a *ℤ m) (b *ℤ k) (omega (arith, ints)) p in
    let second = mul-le_left k (b *ℤ n) (c *ℤ m) (omega (arith, ints)) q in
    let e1 : n *ℤ (a *ℤ m) ≡ m *ℤ (a *ℤ n) = rw (as_D a, as_D m, as_D n) (simp diffs (D-eq _ _ _ _ (omega arith))) in
    let e2 : n *ℤ (b *ℤ k) ≡ k *ℤ (b *ℤ n) = rw (as_D b, as_D k, as_D n) (simp diffs (D-eq _ _ _ _ (omega arith))) in
    let e3 : k *ℤ (c *ℤ m) ≡ m *ℤ (c *ℤ k) = rw (as_D c, as_D k, as_D m) (simp diffs (D-eq _ _ _ _ (omega arith))) in
    cancel-le m (a *ℤ n) (c *ℤ k) hm (rw (← e1, ← e3) (omega (arith, ints, e2)))

pub fractions-trans_lt : (a b c k m n : ℤ) → pos 0 <ℤ k → pos 0 <ℤ m → pos 0 <ℤ n → (a *ℤ m) <ℤ (b *ℤ k) → (b *ℤ n) ≤ℤ (c *ℤ m) → (a *ℤ n) <ℤ (c *ℤ k)
fractions-trans_lt a b c k m n hk hm hn p q =
    let first = mul-lt_left n (a *ℤ m) (b *ℤ k) hn p in
    let second = mul-le_left k (b *ℤ n) (c *ℤ m) (omega (arith, ints)) q in
    let e1 : n *ℤ (a *ℤ m) ≡ m *ℤ (a *ℤ n) = rw (as_D a, as_D m, as_D n) (simp diffs (D-eq _ _ _ _ (omega arith))) in
    let e2 : n *ℤ (b *ℤ k) ≡ k *ℤ (b *ℤ n) = rw (as_D b, as_D k, as_D n) (simp diffs (D-eq _ _ _ _ (omega arith))) in
    let e3 : k *ℤ (c *ℤ m) ≡ m *ℤ (c *ℤ k) = rw (as_D c, as_D k, as_D m) (simp diffs (D-eq _ _ _ _ (omega arith))) in
    cancel-lt m (a *ℤ n) (c *ℤ k) hm (rw (← e1, ← e3) (omega (arith, ints, e2)))
