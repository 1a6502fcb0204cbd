-- Two trees, one of them too high, joined by a node between them.
use Rattle.std.proofs.Common.{◌≡◌, ◌≢◌, ap, ap₂, refl, sym, subst, ◌∙◌, arith, inl, inr, get_or}
use Rattle.std.specs.Prelude.{ℕ, ◌+◌, ◌<◌, ◌≤◌, ◌⊎◌, max, List, [], ◌∷◌, ◌++◌, length, slice_set}
use Rattle.std.proofs.lemmas.List.{get_or_read}
use Rattle.overlay_upstream.specs.declared.build.tree_shape.TreeNode.{TreeNode}
use Rattle.overlay_sweep.specs.LiveRows.{none}
use Rattle.overlay_upstream.specs.TreeShapes.{Tree, fork, in_order, height, IsHeightBalanced, IsDistinct, node_at, subtree_height, parent_of, MayHaveSides, Stands, KeepsOthers, AreJoinable, IsJoined}
use Rattle.overlay_upstream.proofs.laws.tree.TreeNodes.{height_is, ready}
use Rattle.overlay_upstream.proofs.laws.tree.TreeTurns.{right_inner, left_kept, turned_right, turned_right_keeps, left_inner, right_kept, turned_left, turned_left_keeps, third_kept, fourth_kept, q_within, at_q, p_kept, m_within, at_m, three_keep, set_within, Forked, forked, tree_forked, high_is_some, tree_height, tree_within}

pub assoc : (xs ys zs : List ℕ) → (xs ++ ys) ++ zs ≡ xs ++ (ys ++ zs)
assoc [] ys zs = refl
assoc (x ∷ xs) ys zs = ap (λ l. x ∷ l) (assoc xs ys zs)

-- where one is too high, the join is not an exact one
joined : (old new : List TreeNode) (at : ℕ) (order : List ℕ) (left right : ℕ) (t : Tree) → Stands new t at → IsHeightBalanced t → in_order t ≡ order → KeepsOthers order old new →
    left ≤ height t → right ≤ height t → ((height t ≤ 1 + left) ⊎ (height t ≤ 1 + right)) → (left ≤ right + 1 → right ≤ left + 1 → ⊥) → IsJoined old new at order left right
joined old new at order left right t s b o k l r m n = record {
  high = height t;
  tree = record { tree = t; stands = s; balanced = b; order_is = o; height_is = refl };
  keeps = k;
  at_least_left = l;
  at_least_right = r;
  at_most = m;
  exact = λ h k. absurd (n h k);
}

module _ (nodes : List TreeNode) (left at right : ℕ) (j : AreJoinable nodes left at right) (high : subtree_height nodes left ≡ 2 + subtree_height nodes right) where
  left_two : j.left_height ≡ 2 + j.right_height
  left_two = sym (tree_height nodes left j.before j.left_height j.left_tree) ∙ high ∙ ap (λ z. 2 + z) (tree_height nodes right j.after j.right_height j.right_tree)

  left_some : left ≢ none
  left_some = high_is_some nodes left j.before j.left_height j.left_tree (omega (arith, left_two))

  pub left_within : left < length nodes
  left_within = tree_within nodes left j.before j.left_height j.left_tree left_some

  opened_left : Forked nodes left j.before j.left_height
  opened_left = tree_forked nodes left j.before j.left_height j.left_tree left_some

  left_order : in_order opened_left.left ++ left ∷ (in_order opened_left.right ++ at ∷ in_order j.right_tree.tree) ≡ j.before ++ at ∷ j.after
  left_order =
      sym (assoc (in_order opened_left.left) (left ∷ in_order opened_left.right) (at ∷ in_order j.right_tree.tree))
      ∙ ap₂ (λ xs ys. xs ++ at ∷ ys) opened_left.order_is j.right_tree.order_is

  left_distinct : IsDistinct (in_order opened_left.left ++ left ∷ (in_order opened_left.right ++ at ∷ in_order j.right_tree.tree))
  left_distinct = subst (λ l. IsDistinct l) (sym left_order) j.distinct

  left_high : 1 + max (height opened_left.left) (height opened_left.right) ≡ 2 + height j.right_tree.tree
  left_high = opened_left.height_is ∙ left_two ∙ ap (λ z. 2 + z) (sym j.right_tree.height_is)

  module _ (top : TreeNode) (read : top ≡ get_or nodes left top) where
    is : top ≡ node_at nodes left
    is = get_or_read nodes left top left_within read (record { left = 0; right = 0; height = 0 })

    left_is : subtree_height nodes top.left ≡ height opened_left.left
    left_is = rw is (height_is nodes opened_left.left (node_at nodes left).left opened_left.left_stands)

    right_is : subtree_height nodes top.right ≡ height opened_left.right
    right_is = rw is (height_is nodes opened_left.right (node_at nodes left).right opened_left.right_stands)

    -- turned once
    module _ (low : subtree_height nodes top.right ≤ subtree_height nodes top.left) where
      left_low : height opened_left.right ≤ height opened_left.left
      left_low = omega (arith, low, left_is, right_is)

      pub left_inner_ready : MayHaveSides nodes at top.right right
      left_inner_ready =
          rw is
          (ready nodes at (node_at nodes left).right right opened_left.right j.right_tree.tree opened_left.right_stands j.right_tree.stands
          (omega (arith, opened_left.height_is, j.left_low)) (omega (arith, j.right_tree.height_is, j.right_low)) j.at_within)

      module _ (first second : List TreeNode) (e1 : first ≡ slice_set nodes at (parent_of nodes top.right right)) (e2 : second ≡ slice_set first left (parent_of first top.left at)) where
        pub left_outer_ready : MayHaveSides first left top.left at
        left_outer_ready =
            rw (e1, is)
            (ready (slice_set nodes at (parent_of nodes (node_at nodes left).right right)) left (node_at nodes left).left at opened_left.left (fork opened_left.right at j.right_tree.tree)
            (left_kept nodes left at (node_at nodes left).left (node_at nodes left).right right opened_left.left opened_left.right j.right_tree.tree opened_left.left_stands opened_left.right_stands j.right_tree.stands opened_left.at_within opened_left.at_some j.at_within j.at_some left_distinct)
            (right_inner nodes left at (node_at nodes left).left (node_at nodes left).right right opened_left.left opened_left.right j.right_tree.tree opened_left.left_stands opened_left.right_stands j.right_tree.stands opened_left.at_within opened_left.at_some j.at_within j.at_some left_distinct)
            (omega (arith, opened_left.height_is, j.left_low)) (omega (arith, opened_left.height_is, j.left_low, j.right_tree.height_is, j.right_low))
            (set_within nodes at left (parent_of nodes (node_at nodes left).right right) opened_left.at_within))

        pub left_turned : IsJoined nodes second left (j.before ++ at ∷ j.after) j.left_height j.right_height
        left_turned =
            rw (e2, e1, is)
            (joined nodes (slice_set (slice_set nodes at (parent_of nodes (node_at nodes left).right right)) left (parent_of (slice_set nodes at (parent_of nodes (node_at nodes left).right right)) (node_at nodes left).left at))
            left (j.before ++ at ∷ j.after) j.left_height j.right_height (fork opened_left.left left (fork opened_left.right at j.right_tree.tree))
            (turned_right nodes left at (node_at nodes left).left (node_at nodes left).right right opened_left.left opened_left.right j.right_tree.tree opened_left.left_stands opened_left.right_stands j.right_tree.stands opened_left.at_within opened_left.at_some j.at_within j.at_some left_distinct)
            (opened_left.left_balanced, (opened_left.right_balanced, j.right_tree.balanced, omega (arith, left_high, left_low, opened_left.left_near), omega (arith, left_high, left_low, opened_left.left_near)), omega (arith, left_high, left_low, opened_left.left_near), omega (arith, left_high, left_low, opened_left.left_near))
            left_order
            (subst (λ l. KeepsOthers l nodes (slice_set (slice_set nodes at (parent_of nodes (node_at nodes left).right right)) left (parent_of (slice_set nodes at (parent_of nodes (node_at nodes left).right right)) (node_at nodes left).left at))) left_order
            (turned_right_keeps nodes left at (node_at nodes left).left (node_at nodes left).right right opened_left.left opened_left.right j.right_tree.tree opened_left.left_stands opened_left.right_stands j.right_tree.stands opened_left.at_within opened_left.at_some j.at_within j.at_some left_distinct))
            (omega (arith, left_high, left_low, opened_left.left_near, opened_left.height_is)) (omega (arith, left_high, j.right_tree.height_is)) (inl (omega (arith, left_high, left_low, opened_left.left_near, opened_left.height_is)))
            (λ h k. omega (arith, left_two, h)))

    -- turned twice
    module _ (low : subtree_height nodes top.left < subtree_height nodes top.right) where
      left_less : height opened_left.left < height opened_left.right
      left_less = omega (arith, low, left_is, right_is)

      middle_some : (node_at nodes left).right ≢ none
      middle_some =
          high_is_some nodes (node_at nodes left).right (in_order opened_left.right) (height opened_left.right)
          (record { tree = opened_left.right; stands = opened_left.right_stands; balanced = opened_left.right_balanced; order_is = refl; height_is = refl })
          (omega (arith, left_less))

      m : Forked nodes (node_at nodes left).right (in_order opened_left.right) (height opened_left.right)
      m = forked nodes (node_at nodes left).right (in_order opened_left.right) (height opened_left.right) opened_left.right opened_left.right_stands opened_left.right_balanced refl refl middle_some

      pub top_right_in : top.right < length nodes
      top_right_in = rw is m.at_within

      three_order : (in_order opened_left.left ++ left ∷ in_order m.left) ++ (node_at nodes left).right ∷ (in_order m.right ++ at ∷ in_order j.right_tree.tree) ≡ j.before ++ at ∷ j.after
      three_order =
          assoc (in_order opened_left.left) (left ∷ in_order m.left) ((node_at nodes left).right ∷ (in_order m.right ++ at ∷ in_order j.right_tree.tree))
          ∙ ap (λ l. in_order opened_left.left ++ left ∷ l) (sym (assoc (in_order m.left) ((node_at nodes left).right ∷ in_order m.right) (at ∷ in_order j.right_tree.tree)) ∙ ap (λ l. l ++ at ∷ in_order j.right_tree.tree) m.order_is)
          ∙ left_order

      three_distinct : IsDistinct ((in_order opened_left.left ++ left ∷ in_order m.left) ++ (node_at nodes left).right ∷ (in_order m.right ++ at ∷ in_order j.right_tree.tree))
      three_distinct = subst (λ l. IsDistinct l) (sym three_order) j.distinct

      module _ (middle : TreeNode) (middle_read : middle ≡ get_or nodes top.right middle) where
        middle_is : middle ≡ node_at nodes (node_at nodes left).right
        middle_is = get_or_read nodes top.right middle top_right_in middle_read (record { left = 0; right = 0; height = 0 }) ∙ ap (λ (n : TreeNode). node_at nodes n.right) is

        pub left_first_ready : MayHaveSides nodes left top.left middle.left
        left_first_ready =
            rw (middle_is, is)
            (ready nodes left (node_at nodes left).left (node_at nodes (node_at nodes left).right).left opened_left.left m.left opened_left.left_stands m.left_stands
            (omega (arith, opened_left.height_is, j.left_low)) (omega (arith, opened_left.height_is, j.left_low, m.height_is)) opened_left.at_within)

        module _ (first second third : List TreeNode) (e1 : first ≡ slice_set nodes left (parent_of nodes top.left middle.left)) (e2 : second ≡ slice_set first at (parent_of first middle.right right)) (e3 : third ≡ slice_set second top.right (parent_of second left at)) where
          pub left_second_ready : MayHaveSides first at middle.right right
          left_second_ready =
              rw (e1, middle_is, is)
              (ready (slice_set nodes left (parent_of nodes (node_at nodes left).left (node_at nodes (node_at nodes left).right).left)) at (node_at nodes (node_at nodes left).right).right right m.right j.right_tree.tree
              (third_kept nodes left (node_at nodes left).right at (node_at nodes left).left (node_at nodes (node_at nodes left).right).left (node_at nodes (node_at nodes left).right).right right opened_left.left m.left m.right j.right_tree.tree opened_left.left_stands m.left_stands m.right_stands j.right_tree.stands opened_left.at_within opened_left.at_some m.at_within m.at_some j.at_within j.at_some three_distinct)
              (fourth_kept nodes left (node_at nodes left).right at (node_at nodes left).left (node_at nodes (node_at nodes left).right).left (node_at nodes (node_at nodes left).right).right right opened_left.left m.left m.right j.right_tree.tree opened_left.left_stands m.left_stands m.right_stands j.right_tree.stands opened_left.at_within opened_left.at_some m.at_within m.at_some j.at_within j.at_some three_distinct)
              (omega (arith, opened_left.height_is, j.left_low, m.height_is)) (omega (arith, j.right_tree.height_is, j.right_low))
              (q_within nodes left (node_at nodes left).right at (node_at nodes left).left (node_at nodes (node_at nodes left).right).left (node_at nodes (node_at nodes left).right).right right opened_left.left m.left m.right j.right_tree.tree opened_left.left_stands m.left_stands m.right_stands j.right_tree.stands opened_left.at_within opened_left.at_some m.at_within m.at_some j.at_within j.at_some three_distinct))

          pub left_third_ready : MayHaveSides second top.right left at
          left_third_ready =
              rw (e2, e1, middle_is, is)
              (ready (slice_set (slice_set nodes left (parent_of nodes (node_at nodes left).left (node_at nodes (node_at nodes left).right).left)) at (parent_of (slice_set nodes left (parent_of nodes (node_at nodes left).left (node_at nodes (node_at nodes left).right).left)) (node_at nodes (node_at nodes left).right).right right)) (node_at nodes left).right left at (fork opened_left.left left m.left) (fork m.right at j.right_tree.tree)
              (p_kept nodes left (node_at nodes left).right at (node_at nodes left).left (node_at nodes (node_at nodes left).right).left (node_at nodes (node_at nodes left).right).right right opened_left.left m.left m.right j.right_tree.tree opened_left.left_stands m.left_stands m.right_stands j.right_tree.stands opened_left.at_within opened_left.at_some m.at_within m.at_some j.at_within j.at_some three_distinct)
              (at_q nodes left (node_at nodes left).right at (node_at nodes left).left (node_at nodes (node_at nodes left).right).left (node_at nodes (node_at nodes left).right).right right opened_left.left m.left m.right j.right_tree.tree opened_left.left_stands m.left_stands m.right_stands j.right_tree.stands opened_left.at_within opened_left.at_some m.at_within m.at_some j.at_within j.at_some three_distinct)
              (omega (arith, opened_left.height_is, j.left_low, m.height_is)) (omega (arith, opened_left.height_is, j.left_low, m.height_is, j.right_tree.height_is, j.right_low))
              (m_within nodes left (node_at nodes left).right at (node_at nodes left).left (node_at nodes (node_at nodes left).right).left (node_at nodes (node_at nodes left).right).right right opened_left.left m.left m.right j.right_tree.tree opened_left.left_stands m.left_stands m.right_stands j.right_tree.stands opened_left.at_within opened_left.at_some m.at_within m.at_some j.at_within j.at_some three_distinct))

          pub left_turned_twice : IsJoined nodes third top.right (j.before ++ at ∷ j.after) j.left_height j.right_height
          left_turned_twice =
              rw (e3, e2, e1, middle_is, is)
              (joined nodes (slice_set (slice_set (slice_set nodes left (parent_of nodes (node_at nodes left).left (node_at nodes (node_at nodes left).right).left)) at (parent_of (slice_set nodes left (parent_of nodes (node_at nodes left).left (node_at nodes (node_at nodes left).right).left)) (node_at nodes (node_at nodes left).right).right right)) (node_at nodes left).right (parent_of (slice_set (slice_set nodes left (parent_of nodes (node_at nodes left).left (node_at nodes (node_at nodes left).right).left)) at (parent_of (slice_set nodes left (parent_of nodes (node_at nodes left).left (node_at nodes (node_at nodes left).right).left)) (node_at nodes (node_at nodes left).right).right right)) left at)) (node_at nodes left).right (j.before ++ at ∷ j.after) j.left_height j.right_height (fork (fork opened_left.left left m.left) (node_at nodes left).right (fork m.right at j.right_tree.tree))
              (at_m nodes left (node_at nodes left).right at (node_at nodes left).left (node_at nodes (node_at nodes left).right).left (node_at nodes (node_at nodes left).right).right right opened_left.left m.left m.right j.right_tree.tree opened_left.left_stands m.left_stands m.right_stands j.right_tree.stands opened_left.at_within opened_left.at_some m.at_within m.at_some j.at_within j.at_some three_distinct) (
                (opened_left.left_balanced, m.left_balanced, omega (arith, left_high, left_less, opened_left.right_near, m.height_is, m.left_near, m.right_near), omega (arith, left_high, left_less, opened_left.right_near, m.height_is, m.left_near, m.right_near)),
                (m.right_balanced, j.right_tree.balanced, omega (arith, left_high, left_less, opened_left.right_near, m.height_is, m.left_near, m.right_near), omega (arith, left_high, left_less, opened_left.right_near, m.height_is, m.left_near, m.right_near)),
                omega (arith, left_high, left_less, opened_left.right_near, m.height_is, m.left_near, m.right_near),
                omega (arith, left_high, left_less, opened_left.right_near, m.height_is, m.left_near, m.right_near),
              )
              three_order
              (subst (λ l. KeepsOthers l nodes (slice_set (slice_set (slice_set nodes left (parent_of nodes (node_at nodes left).left (node_at nodes (node_at nodes left).right).left)) at (parent_of (slice_set nodes left (parent_of nodes (node_at nodes left).left (node_at nodes (node_at nodes left).right).left)) (node_at nodes (node_at nodes left).right).right right)) (node_at nodes left).right (parent_of (slice_set (slice_set nodes left (parent_of nodes (node_at nodes left).left (node_at nodes (node_at nodes left).right).left)) at (parent_of (slice_set nodes left (parent_of nodes (node_at nodes left).left (node_at nodes (node_at nodes left).right).left)) (node_at nodes (node_at nodes left).right).right right)) left at))) three_order (three_keep nodes left (node_at nodes left).right at (node_at nodes left).left (node_at nodes (node_at nodes left).right).left (node_at nodes (node_at nodes left).right).right right opened_left.left m.left m.right j.right_tree.tree opened_left.left_stands m.left_stands m.right_stands j.right_tree.stands opened_left.at_within opened_left.at_some m.at_within m.at_some j.at_within j.at_some three_distinct))
              (omega (arith, left_high, left_less, opened_left.right_near, opened_left.height_is, m.height_is, m.left_near, m.right_near)) (omega (arith, left_high, left_less, opened_left.right_near, j.right_tree.height_is, m.height_is, m.left_near, m.right_near)) (inl (omega (arith, left_high, left_less, opened_left.right_near, opened_left.height_is, m.height_is, m.left_near, m.right_near)))
              (λ h k. omega (arith, left_two, h)))

-- ---- the right one is too high

module _ (nodes : List TreeNode) (left at right : ℕ) (j : AreJoinable nodes left at right) (high : subtree_height nodes right ≡ 2 + subtree_height nodes left) where
  right_two : j.right_height ≡ 2 + j.left_height
  right_two = sym (tree_height nodes right j.after j.right_height j.right_tree) ∙ high ∙ ap (λ z. 2 + z) (tree_height nodes left j.before j.left_height j.left_tree)

  right_some : right ≢ none
  right_some = high_is_some nodes right j.after j.right_height j.right_tree (omega (arith, right_two))

  pub right_within : right < length nodes
  right_within = tree_within nodes right j.after j.right_height j.right_tree right_some

  opened_right : Forked nodes right j.after j.right_height
  opened_right = tree_forked nodes right j.after j.right_height j.right_tree right_some

  right_order : (in_order j.left_tree.tree ++ at ∷ in_order opened_right.left) ++ right ∷ in_order opened_right.right ≡ j.before ++ at ∷ j.after
  right_order =
      assoc (in_order j.left_tree.tree) (at ∷ in_order opened_right.left) (right ∷ in_order opened_right.right)
      ∙ ap₂ (λ xs ys. xs ++ at ∷ ys) j.left_tree.order_is opened_right.order_is

  right_distinct : IsDistinct ((in_order j.left_tree.tree ++ at ∷ in_order opened_right.left) ++ right ∷ in_order opened_right.right)
  right_distinct = subst (λ l. IsDistinct l) (sym right_order) j.distinct

  right_high : 1 + max (height opened_right.left) (height opened_right.right) ≡ 2 + height j.left_tree.tree
  right_high = opened_right.height_is ∙ right_two ∙ ap (λ z. 2 + z) (sym j.left_tree.height_is)

  module _ (top : TreeNode) (read : top ≡ get_or nodes right top) where
    right_top_is : top ≡ node_at nodes right
    right_top_is = get_or_read nodes right top right_within read (record { left = 0; right = 0; height = 0 })

    right_left_is : subtree_height nodes top.left ≡ height opened_right.left
    right_left_is = rw right_top_is (height_is nodes opened_right.left (node_at nodes right).left opened_right.left_stands)

    right_right_is : subtree_height nodes top.right ≡ height opened_right.right
    right_right_is = rw right_top_is (height_is nodes opened_right.right (node_at nodes right).right opened_right.right_stands)

    -- turned once
    module _ (low : subtree_height nodes top.left ≤ subtree_height nodes top.right) where
      right_low : height opened_right.left ≤ height opened_right.right
      right_low = omega (arith, low, right_left_is, right_right_is)

      pub right_inner_ready : MayHaveSides nodes at left top.left
      right_inner_ready =
          rw right_top_is
          (ready nodes at left (node_at nodes right).left j.left_tree.tree opened_right.left j.left_tree.stands opened_right.left_stands
          (omega (arith, j.left_tree.height_is, j.left_low)) (omega (arith, opened_right.height_is, j.right_low)) j.at_within)

      module _ (first second : List TreeNode) (e1 : first ≡ slice_set nodes at (parent_of nodes left top.left)) (e2 : second ≡ slice_set first right (parent_of first at top.right)) where
        pub right_outer_ready : MayHaveSides first right at top.right
        right_outer_ready =
            rw (e1, right_top_is)
            (ready (slice_set nodes at (parent_of nodes left (node_at nodes right).left)) right at (node_at nodes right).right (fork j.left_tree.tree at opened_right.left) opened_right.right
            (left_inner nodes at right left (node_at nodes right).left (node_at nodes right).right j.left_tree.tree opened_right.left opened_right.right j.left_tree.stands opened_right.left_stands opened_right.right_stands opened_right.at_within opened_right.at_some j.at_within j.at_some right_distinct)
            (right_kept nodes at right left (node_at nodes right).left (node_at nodes right).right j.left_tree.tree opened_right.left opened_right.right j.left_tree.stands opened_right.left_stands opened_right.right_stands opened_right.at_within opened_right.at_some j.at_within j.at_some right_distinct)
            (omega (arith, opened_right.height_is, j.right_low, j.left_tree.height_is, j.left_low)) (omega (arith, opened_right.height_is, j.right_low))
            (set_within nodes at right (parent_of nodes left (node_at nodes right).left) opened_right.at_within))

        pub right_turned : IsJoined nodes second right (j.before ++ at ∷ j.after) j.left_height j.right_height
        right_turned =
            rw (e2, e1, right_top_is)
            (joined nodes (slice_set (slice_set nodes at (parent_of nodes left (node_at nodes right).left)) right (parent_of (slice_set nodes at (parent_of nodes left (node_at nodes right).left)) at (node_at nodes right).right))
            right (j.before ++ at ∷ j.after) j.left_height j.right_height (fork (fork j.left_tree.tree at opened_right.left) right opened_right.right)
            (turned_left nodes at right left (node_at nodes right).left (node_at nodes right).right j.left_tree.tree opened_right.left opened_right.right j.left_tree.stands opened_right.left_stands opened_right.right_stands opened_right.at_within opened_right.at_some j.at_within j.at_some right_distinct)
            ((j.left_tree.balanced, opened_right.left_balanced, omega (arith, right_high, right_low, opened_right.right_near), omega (arith, right_high, right_low, opened_right.right_near)), opened_right.right_balanced, omega (arith, right_high, right_low, opened_right.right_near), omega (arith, right_high, right_low, opened_right.right_near))
            right_order
            (subst (λ l. KeepsOthers l nodes (slice_set (slice_set nodes at (parent_of nodes left (node_at nodes right).left)) right (parent_of (slice_set nodes at (parent_of nodes left (node_at nodes right).left)) at (node_at nodes right).right))) right_order
            (turned_left_keeps nodes at right left (node_at nodes right).left (node_at nodes right).right j.left_tree.tree opened_right.left opened_right.right j.left_tree.stands opened_right.left_stands opened_right.right_stands opened_right.at_within opened_right.at_some j.at_within j.at_some right_distinct))
            (omega (arith, right_high, j.left_tree.height_is)) (omega (arith, right_high, right_low, opened_right.right_near, opened_right.height_is)) (inr (omega (arith, right_high, right_low, opened_right.right_near, opened_right.height_is)))
            (λ h k. omega (arith, right_two, k)))

    -- turned twice
    module _ (low : subtree_height nodes top.right < subtree_height nodes top.left) where
      right_less : height opened_right.right < height opened_right.left
      right_less = omega (arith, low, right_left_is, right_right_is)

      right_middle_some : (node_at nodes right).left ≢ none
      right_middle_some =
          high_is_some nodes (node_at nodes right).left (in_order opened_right.left) (height opened_right.left)
          (record { tree = opened_right.left; stands = opened_right.left_stands; balanced = opened_right.left_balanced; order_is = refl; height_is = refl })
          (omega (arith, right_less))

      rm : Forked nodes (node_at nodes right).left (in_order opened_right.left) (height opened_right.left)
      rm = forked nodes (node_at nodes right).left (in_order opened_right.left) (height opened_right.left) opened_right.left opened_right.left_stands opened_right.left_balanced refl refl right_middle_some

      pub right_top_left_in : top.left < length nodes
      right_top_left_in = rw right_top_is rm.at_within

      right_three_order : (in_order j.left_tree.tree ++ at ∷ in_order rm.left) ++ (node_at nodes right).left ∷ (in_order rm.right ++ right ∷ in_order opened_right.right) ≡ j.before ++ at ∷ j.after
      right_three_order =
          assoc (in_order j.left_tree.tree) (at ∷ in_order rm.left) ((node_at nodes right).left ∷ (in_order rm.right ++ right ∷ in_order opened_right.right))
          ∙ ap (λ l. in_order j.left_tree.tree ++ at ∷ l) (sym (assoc (in_order rm.left) ((node_at nodes right).left ∷ in_order rm.right) (right ∷ in_order opened_right.right)) ∙ ap (λ l. l ++ right ∷ in_order opened_right.right) rm.order_is)
          ∙ ap₂ (λ xs ys. xs ++ at ∷ ys) j.left_tree.order_is opened_right.order_is

      right_three_distinct : IsDistinct ((in_order j.left_tree.tree ++ at ∷ in_order rm.left) ++ (node_at nodes right).left ∷ (in_order rm.right ++ right ∷ in_order opened_right.right))
      right_three_distinct = subst (λ l. IsDistinct l) (sym right_three_order) j.distinct

      module _ (middle : TreeNode) (middle_read : middle ≡ get_or nodes top.left middle) where
        right_middle_is : middle ≡ node_at nodes (node_at nodes right).left
        right_middle_is = get_or_read nodes top.left middle right_top_left_in middle_read (record { left = 0; right = 0; height = 0 }) ∙ ap (λ (n : TreeNode). node_at nodes n.left) right_top_is

        pub right_first_ready : MayHaveSides nodes at left middle.left
        right_first_ready =
            rw right_middle_is
            (ready nodes at left (node_at nodes (node_at nodes right).left).left j.left_tree.tree rm.left j.left_tree.stands rm.left_stands
            (omega (arith, j.left_tree.height_is, j.left_low)) (omega (arith, opened_right.height_is, j.right_low, rm.height_is)) j.at_within)

        module _ (first second third : List TreeNode) (e1 : first ≡ slice_set nodes at (parent_of nodes left middle.left)) (e2 : second ≡ slice_set first right (parent_of first middle.right top.right)) (e3 : third ≡ slice_set second top.left (parent_of second at right)) where
          pub right_second_ready : MayHaveSides first right middle.right top.right
          right_second_ready =
              rw (e1, right_middle_is, right_top_is)
              (ready (slice_set nodes at (parent_of nodes left (node_at nodes (node_at nodes right).left).left)) right (node_at nodes (node_at nodes right).left).right (node_at nodes right).right rm.right opened_right.right
              (third_kept nodes at (node_at nodes right).left right left (node_at nodes (node_at nodes right).left).left (node_at nodes (node_at nodes right).left).right (node_at nodes right).right j.left_tree.tree rm.left rm.right opened_right.right j.left_tree.stands rm.left_stands rm.right_stands opened_right.right_stands j.at_within j.at_some rm.at_within rm.at_some opened_right.at_within opened_right.at_some right_three_distinct)
              (fourth_kept nodes at (node_at nodes right).left right left (node_at nodes (node_at nodes right).left).left (node_at nodes (node_at nodes right).left).right (node_at nodes right).right j.left_tree.tree rm.left rm.right opened_right.right j.left_tree.stands rm.left_stands rm.right_stands opened_right.right_stands j.at_within j.at_some rm.at_within rm.at_some opened_right.at_within opened_right.at_some right_three_distinct)
              (omega (arith, opened_right.height_is, j.right_low, rm.height_is)) (omega (arith, opened_right.height_is, j.right_low))
              (q_within nodes at (node_at nodes right).left right left (node_at nodes (node_at nodes right).left).left (node_at nodes (node_at nodes right).left).right (node_at nodes right).right j.left_tree.tree rm.left rm.right opened_right.right j.left_tree.stands rm.left_stands rm.right_stands opened_right.right_stands j.at_within j.at_some rm.at_within rm.at_some opened_right.at_within opened_right.at_some right_three_distinct))

          pub right_third_ready : MayHaveSides second top.left at right
          right_third_ready =
              rw (e2, e1, right_middle_is, right_top_is)
              (ready (slice_set (slice_set nodes at (parent_of nodes left (node_at nodes (node_at nodes right).left).left)) right (parent_of (slice_set nodes at (parent_of nodes left (node_at nodes (node_at nodes right).left).left)) (node_at nodes (node_at nodes right).left).right (node_at nodes right).right)) (node_at nodes right).left at right (fork j.left_tree.tree at rm.left) (fork rm.right right opened_right.right)
              (p_kept nodes at (node_at nodes right).left right left (node_at nodes (node_at nodes right).left).left (node_at nodes (node_at nodes right).left).right (node_at nodes right).right j.left_tree.tree rm.left rm.right opened_right.right j.left_tree.stands rm.left_stands rm.right_stands opened_right.right_stands j.at_within j.at_some rm.at_within rm.at_some opened_right.at_within opened_right.at_some right_three_distinct)
              (at_q nodes at (node_at nodes right).left right left (node_at nodes (node_at nodes right).left).left (node_at nodes (node_at nodes right).left).right (node_at nodes right).right j.left_tree.tree rm.left rm.right opened_right.right j.left_tree.stands rm.left_stands rm.right_stands opened_right.right_stands j.at_within j.at_some rm.at_within rm.at_some opened_right.at_within opened_right.at_some right_three_distinct)
              (omega (arith, opened_right.height_is, j.right_low, rm.height_is, j.left_tree.height_is, j.left_low)) (omega (arith, opened_right.height_is, j.right_low, rm.height_is))
              (m_within nodes at (node_at nodes right).left right left (node_at nodes (node_at nodes right).left).left (node_at nodes (node_at nodes right).left).right (node_at nodes right).right j.left_tree.tree rm.left rm.right opened_right.right j.left_tree.stands rm.left_stands rm.right_stands opened_right.right_stands j.at_within j.at_some rm.at_within rm.at_some opened_right.at_within opened_right.at_some right_three_distinct))

          pub right_turned_twice : IsJoined nodes third top.left (j.before ++ at ∷ j.after) j.left_height j.right_height
          right_turned_twice =
              rw (e3, e2, e1, right_middle_is, right_top_is)
              (joined nodes (slice_set (slice_set (slice_set nodes at (parent_of nodes left (node_at nodes (node_at nodes right).left).left)) right (parent_of (slice_set nodes at (parent_of nodes left (node_at nodes (node_at nodes right).left).left)) (node_at nodes (node_at nodes right).left).right (node_at nodes right).right)) (node_at nodes right).left (parent_of (slice_set (slice_set nodes at (parent_of nodes left (node_at nodes (node_at nodes right).left).left)) right (parent_of (slice_set nodes at (parent_of nodes left (node_at nodes (node_at nodes right).left).left)) (node_at nodes (node_at nodes right).left).right (node_at nodes right).right)) at right)) (node_at nodes right).left (j.before ++ at ∷ j.after) j.left_height j.right_height (fork (fork j.left_tree.tree at rm.left) (node_at nodes right).left (fork rm.right right opened_right.right))
              (at_m nodes at (node_at nodes right).left right left (node_at nodes (node_at nodes right).left).left (node_at nodes (node_at nodes right).left).right (node_at nodes right).right j.left_tree.tree rm.left rm.right opened_right.right j.left_tree.stands rm.left_stands rm.right_stands opened_right.right_stands j.at_within j.at_some rm.at_within rm.at_some opened_right.at_within opened_right.at_some right_three_distinct) (
                (j.left_tree.balanced, rm.left_balanced, omega (arith, right_high, right_less, opened_right.left_near, rm.height_is, rm.left_near, rm.right_near), omega (arith, right_high, right_less, opened_right.left_near, rm.height_is, rm.left_near, rm.right_near)),
                (rm.right_balanced, opened_right.right_balanced, omega (arith, right_high, right_less, opened_right.left_near, rm.height_is, rm.left_near, rm.right_near), omega (arith, right_high, right_less, opened_right.left_near, rm.height_is, rm.left_near, rm.right_near)),
                omega (arith, right_high, right_less, opened_right.left_near, rm.height_is, rm.left_near, rm.right_near),
                omega (arith, right_high, right_less, opened_right.left_near, rm.height_is, rm.left_near, rm.right_near),
              )
              right_three_order
              (subst (λ l. KeepsOthers l nodes (slice_set (slice_set (slice_set nodes at (parent_of nodes left (node_at nodes (node_at nodes right).left).left)) right (parent_of (slice_set nodes at (parent_of nodes left (node_at nodes (node_at nodes right).left).left)) (node_at nodes (node_at nodes right).left).right (node_at nodes right).right)) (node_at nodes right).left (parent_of (slice_set (slice_set nodes at (parent_of nodes left (node_at nodes (node_at nodes right).left).left)) right (parent_of (slice_set nodes at (parent_of nodes left (node_at nodes (node_at nodes right).left).left)) (node_at nodes (node_at nodes right).left).right (node_at nodes right).right)) at right))) right_three_order (three_keep nodes at (node_at nodes right).left right left (node_at nodes (node_at nodes right).left).left (node_at nodes (node_at nodes right).left).right (node_at nodes right).right j.left_tree.tree rm.left rm.right opened_right.right j.left_tree.stands rm.left_stands rm.right_stands opened_right.right_stands j.at_within j.at_some rm.at_within rm.at_some opened_right.at_within opened_right.at_some right_three_distinct))
              (omega (arith, right_high, right_less, opened_right.left_near, j.left_tree.height_is, rm.height_is, rm.left_near, rm.right_near)) (omega (arith, right_high, right_less, opened_right.left_near, opened_right.height_is, rm.height_is, rm.left_near, rm.right_near)) (inr (omega (arith, right_high, right_less, opened_right.left_near, opened_right.height_is, rm.height_is, rm.left_near, rm.right_near)))
              (λ h k. omega (arith, right_two, k)))
