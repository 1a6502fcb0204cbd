-- How high a balanced tree may be.
use Rattle.std.proofs.Common.{◌≡◌, refl, subst, arith, inl, inr}
use Rattle.std.specs.Prelude.{ℕ, suc, ◌+◌, ◌-◌, ◌/◌, ◌^◌, ◌<◌, ◌≤◌, max, List, [], ◌∷◌, ◌++◌, length}
use Rattle.std.proofs.Math.Pow.{pow_mono}
use Rattle.std.proofs.lemmas.Bool.{cases_lt}
use Rattle.overlay_upstream.specs.declared.build.tree_shape.TreeNode.{TreeNode}
use Rattle.overlay_upstream.specs.TreeShapes.{Tree, leaf, fork, in_order, height, IsHeightBalanced, IsTree}

pub length_both : (xs : List ℕ) (i : ℕ) (ys : List ℕ) → length (xs ++ i ∷ ys) ≡ length xs + length ys + 1
length_both [] i ys = omega arith
length_both (x ∷ xs) i ys = let e = length_both xs i ys in omega (arith, e)

twice : (n : ℕ) → 2 ^ suc n ≡ 2 ^ n + 2 ^ n
twice n = omega (arith)

two_sides : (l r h a b : ℕ) → 1 + max l r ≡ h → l ≤ r + 1 → r ≤ l + 1 → 2 ^ (l / 2) ≤ a + 1 → 2 ^ (r / 2) ≤ b + 1 → 2 ^ (h / 2) ≤ (a + b + 1) + 1
two_sides l r h a b e near back p q = elim (cases_lt h 2) [
  | inl low ↦ (let z : h / 2 ≡ 0 = omega (arith, low) in rw z (omega arith))
  | inr far ↦
      (let z : h / 2 ≡ suc ((h - 2) / 2) = omega (arith, far) in
      let m : 2 ^ ((h - 2) / 2) ≤ 2 ^ (l / 2) = pow_mono (omega (arith, e, near, back, far)) in
      let n : 2 ^ ((h - 2) / 2) ≤ 2 ^ (r / 2) = pow_mono (omega (arith, e, near, back, far)) in
      rw (z, twice ((h - 2) / 2)) (omega (arith, m, n, p, q)))
]

-- a tree of height h has 2^(h/2) nodes and more, less one
height_holds : (t : Tree) → IsHeightBalanced t → 2 ^ (height t / 2) ≤ length (in_order t) + 1
height_holds leaf b = omega arith
height_holds (fork l i r) b = rw (length_both (in_order l) i (in_order r)) (two_sides (height l) (height r) (1 + max (height l) (height r)) (length (in_order l)) (length (in_order r)) refl b.2 b.3 (height_holds l b.0) (height_holds r b.1))

pub tree_holds : (nodes : List TreeNode) (at : ℕ) (order : List ℕ) (high : ℕ) → IsTree nodes at order high → 2 ^ (high / 2) ≤ length order + 1
tree_holds nodes at order high t = subst (λ h. 2 ^ (h / 2) ≤ length order + 1) t.height_is (subst (λ l. 2 ^ (height t.tree / 2) ≤ length l + 1) t.order_is (height_holds t.tree t.balanced))

-- no count of nodes that fits a word lets a height come near a word's end
pub height_low : (high count : ℕ) → 2 ^ (high / 2) ≤ count + 1 → count < 2 ^ 64 → high < 2 ^ 63
height_low high count h c = elim (cases_lt high 130) [
  | inl low ↦ omega (arith, low)
  | inr far ↦ (let m : 2 ^ 65 ≤ 2 ^ (high / 2) = pow_mono {i = 65} {j = high / 2} (omega (arith, far)) in absurd (omega (arith, m, h, c)))
]
