-- Joining two trees of about one height, and which of two is too high.
use Rattle.std.proofs.Common.{◌≡◌, ap, ap₂, refl, sym, subst, ◌∙◌, arith, inl, inr}
use Rattle.std.proofs.lemmas.List.{set-get_or}
use Rattle.std.specs.Prelude.{ℕ, ◌+◌, ◌^◌, ◌<◌, ◌≤◌, ◌⊎◌, max, List, [], ◌∷◌, ◌++◌, slice_set}
use Rattle.overlay_upstream.specs.declared.build.tree_shape.TreeNode.{TreeNode}
use Rattle.overlay_upstream.specs.TreeShapes.{fork, in_order, height, IsDistinct, subtree_height, parent_of, MayHaveSides, AreJoinable, IsJoined, IsParent}
use Rattle.overlay_upstream.proofs.laws.tree.TreeNodes.{Apart, apart, ready, Stands-fork, KeepsOthers-set, KeepsOthers-wider}
use Rattle.overlay_sweep.proofs.laws.list.Members.{Has-right}
use Rattle.overlay_upstream.proofs.laws.tree.TreeTurns.{tree_height}

module _ (nodes : List TreeNode) (left at right : ℕ) (j : AreJoinable nodes left at right) where
  module _ (h k : ℕ) (hs : h ≡ subtree_height nodes left) (ks : k ≡ subtree_height nodes right) where
    left_known : h ≡ j.left_height
    left_known = hs ∙ tree_height nodes left j.before j.left_height j.left_tree

    right_known : k ≡ j.right_height
    right_known = ks ∙ tree_height nodes right j.after j.right_height j.right_tree

    pub left_fits : h + 1 < 2 ^ 64
    left_fits = omega (arith, left_known, j.left_low)

    pub right_fits : k + 1 < 2 ^ 64
    right_fits = omega (arith, right_known, j.right_low)

    pub left_too_high : k + 1 < h → subtree_height nodes left ≡ 2 + subtree_height nodes right
    left_too_high l = omega (arith, l, hs, ks, left_known, right_known, j.left_near)

    pub right_too_high : h + 1 < k → subtree_height nodes right ≡ 2 + subtree_height nodes left
    right_too_high l = omega (arith, l, hs, ks, left_known, right_known, j.right_near)

    pub near_ready : MayHaveSides nodes at left right
    near_ready = ready nodes at left right j.left_tree.tree j.right_tree.tree j.left_tree.stands j.right_tree.stands (omega (arith, j.left_tree.height_is, j.left_low)) (omega (arith, j.right_tree.height_is, j.right_low)) j.at_within

    module _ (l : h ≤ k + 1) (r : k ≤ h + 1) where
      in_one : in_order j.left_tree.tree ++ at ∷ in_order j.right_tree.tree ≡ j.before ++ at ∷ j.after
      in_one = ap₂ (λ xs ys. xs ++ at ∷ ys) j.left_tree.order_is j.right_tree.order_is

      parts : Apart (in_order j.left_tree.tree) at (in_order j.right_tree.tree)
      parts = apart (in_order j.left_tree.tree) (in_order j.right_tree.tree) at (subst (λ l. IsDistinct l) (sym in_one) j.distinct)

      pub near_joined : (new : List TreeNode) → new ≡ slice_set nodes at (parent_of nodes left right) → IsJoined nodes new at (j.before ++ at ∷ j.after) j.left_height j.right_height
      near_joined new e =
          rw e
          (record {
            high = 1 + max (height j.left_tree.tree) (height j.right_tree.tree);
            tree = record {
              tree = fork j.left_tree.tree at j.right_tree.tree;
              stands = Stands-fork nodes at left right j.left_tree.tree j.right_tree.tree j.left_tree.stands j.right_tree.stands parts.not_left parts.not_right j.at_within j.at_some;
              balanced = (j.left_tree.balanced, j.right_tree.balanced, omega (arith, l, left_known, right_known, j.left_tree.height_is, j.right_tree.height_is), omega (arith, r, left_known, right_known, j.left_tree.height_is, j.right_tree.height_is));
              order_is = in_one;
              height_is = refl;
            };
            keeps = KeepsOthers-wider (at ∷ []) (j.before ++ at ∷ j.after) nodes (slice_set nodes at (parent_of nodes left right)) (λ i m. elim m [ inl f ↦ Has-right j.before (at ∷ j.after) i (inl f) | inr x ↦ absurd x ]) (KeepsOthers-set nodes at (parent_of nodes left right));
            at_least_left = omega (arith, j.left_tree.height_is);
            at_least_right = omega (arith, j.right_tree.height_is);
            at_most = by_height;
            exact = λ a b. ap₂ (λ x y. 1 + max x y) j.left_tree.height_is j.right_tree.height_is;
          })
        where
          by_cases : (a b : ℕ) → (1 + max a b ≤ 1 + a) ⊎ (1 + max a b ≤ 1 + b)
          by_cases a b = grind arith

          by_height : (1 + max (height j.left_tree.tree) (height j.right_tree.tree) ≤ 1 + j.left_height) ⊎ (1 + max (height j.left_tree.tree) (height j.right_tree.tree) ≤ 1 + j.right_height)
          by_height = elim (by_cases (height j.left_tree.tree) (height j.right_tree.tree)) [
            | inl p ↦ inl (omega (arith, p, j.left_tree.height_is))
            | inr p ↦ inr (omega (arith, p, j.right_tree.height_is))
          ]

-- where the node is the parent of both already
pub parent_joined : (nodes : List TreeNode) (left at right : ℕ) (j : AreJoinable nodes left at right) → IsParent nodes left at right → IsJoined nodes nodes at (j.before ++ at ∷ j.after) j.left_height j.right_height
parent_joined nodes left at right j p =
    near_joined nodes left at right j (subtree_height nodes left) (subtree_height nodes right) refl refl p.left_near p.right_near nodes
    (sym (set-get_or nodes at (record { left = 0; right = 0; height = 0 })) ∙ ap (λ (n : TreeNode). slice_set nodes at n) p.node_is)
