-- Taking the first node, or the top, out of a tree.
use Rattle.std.proofs.Common.{◌≡◌, ◌≢◌, ap, refl, sym, subst, ◌∙◌, arith, inl, inr, get_or}
use Rattle.std.specs.Prelude.{ℕ, ◌+◌, ◌<◌, ◌≤◌, ◌⊎◌, max, List, [], ◌∷◌, ◌++◌, length}
use Rattle.std.proofs.lemmas.List.{get_or_read, append-nil}
use Rattle.std.proofs.lemmas.Bool.{cases_lt}
use Rattle.overlay_upstream.specs.declared.build.tree_shape.TreeNode.{TreeNode}
use Rattle.overlay_sweep.specs.LiveRows.{Has, none}
use Rattle.overlay_upstream.specs.TreeShapes.{Tree, leaf, fork, in_order, height, IsDistinct, node_at, subtree_height, Stands, IsTree, KeepsOthers, AreJoinable, IsJoined, IsSound, IsFirstRemoved, IsTopRemoved}
use Rattle.overlay_upstream.proofs.laws.tree.TreeNodes.{Apart, apart, Stands-kept, KeepsOthers-trans, KeepsOthers-wider}
use Rattle.overlay_sweep.proofs.laws.list.Members.{Has-left, Has-right, Has-parts}
use Rattle.overlay_upstream.proofs.laws.tree.TreeTurns.{tree_forked, tree_height, tree_within}

-- a tree that has none of what was written to
pub IsTree-kept : (order : List ℕ) (old new : List TreeNode) (at : ℕ) (mine : List ℕ) (high : ℕ) → KeepsOthers order old new → ((j : ℕ) → Has mine j → Has order j → ⊥) → IsTree old at mine high → IsTree new at mine high
IsTree-kept order old new at mine high k h t = record {
  tree = t.tree;
  stands = Stands-kept order old new k t.tree at t.stands (λ j m. h j (subst (λ l. Has l j) t.order_is m));
  balanced = t.balanced;
  order_is = t.order_is;
  height_is = t.height_is;
}

-- an empty tree
pub leaf_order : (nodes : List TreeNode) (t : Tree) → Stands nodes t none → in_order t ≡ []
leaf_order nodes leaf s = refl
leaf_order nodes (fork l i r) s = let k : i < none = s.2 in let e : none ≡ i = s.0 in absurd (omega (arith, k, e))

pub leaf_height : (nodes : List TreeNode) (t : Tree) → Stands nodes t none → height t ≡ 0
leaf_height nodes leaf s = refl
leaf_height nodes (fork l i r) s = let k : i < none = s.2 in let e : none ≡ i = s.0 in absurd (omega (arith, k, e))

-- the parts of a tree, read at its top
pub record Opened (nodes : List TreeNode) (at : ℕ) (node : TreeNode) (order : List ℕ) (high : ℕ) : Type 0 where
  pub before : List ℕ
  pub after : List ℕ
  pub left_high : ℕ
  pub right_high : ℕ
  pub at_within : at < length nodes
  pub at_some : at < none
  pub left : IsTree nodes node.left before left_high
  pub right : IsTree nodes node.right after right_high
  pub left_near : left_high ≤ right_high + 1
  pub right_near : right_high ≤ left_high + 1
  pub order_is : before ++ at ∷ after ≡ order
  pub height_is : 1 + max left_high right_high ≡ high

pub opened : (nodes : List TreeNode) (at : ℕ) (order : List ℕ) (high : ℕ) → IsTree nodes at order high → at ≢ none → (node : TreeNode) → node ≡ get_or nodes at node → Opened nodes at node order high
opened nodes at order high t n node read =
    let f = tree_forked nodes at order high t n in
    let is : node ≡ node_at nodes at = get_or_read nodes at node f.at_within read (record { left = 0; right = 0; height = 0 }) in
    record {
      before = in_order f.left;
      after = in_order f.right;
      left_high = height f.left;
      right_high = height f.right;
      at_within = f.at_within;
      at_some = f.at_some;
      left = record { tree = f.left; stands = subst (λ (m : TreeNode). Stands nodes f.left m.left) (sym is) f.left_stands; balanced = f.left_balanced; order_is = refl; height_is = refl };
      right = record { tree = f.right; stands = subst (λ (m : TreeNode). Stands nodes f.right m.right) (sym is) f.right_stands; balanced = f.right_balanced; order_is = refl; height_is = refl };
      left_near = f.left_near;
      right_near = f.right_near;
      order_is = f.order_is;
      height_is = f.height_is;
    }

-- ---- the height after one side has become lower by one at most

pub lower_at_least : (l r m was high : ℕ) → l ≤ m + 1 → m ≤ l → l ≤ r + 1 → r ≤ l + 1 → 1 + max l r ≡ was → m ≤ high → r ≤ high → (m ≤ r + 1 → r ≤ m + 1 → high ≡ 1 + max m r) → was ≤ high + 1
lower_at_least l r m was high a b c d e f g h = elim (cases_lt (m + 1) r) [
  | inl far ↦ omega (arith, a, b, c, d, e, f, g, far)
  | inr near ↦ (let it : high ≡ 1 + max m r = h (omega (arith, b, c)) near in omega (arith, a, b, c, d, e, it))
]

pub right_lower_at_least : (l r m was high : ℕ) → r ≤ m + 1 → m ≤ r → l ≤ r + 1 → r ≤ l + 1 → 1 + max l r ≡ was → l ≤ high → m ≤ high → (l ≤ m + 1 → m ≤ l + 1 → high ≡ 1 + max l m) → was ≤ high + 1
right_lower_at_least l r m was high a b c d e f g h = elim (cases_lt (m + 1) l) [
  | inl far ↦ omega (arith, a, b, c, d, e, f, g, far)
  | inr near ↦ (let it : high ≡ 1 + max l m = h near (omega (arith, b, d)) in omega (arith, a, b, c, d, e, it))
]

pub lower_at_most : (l r m was high : ℕ) → m ≤ l → 1 + max l r ≡ was → ((high ≤ 1 + m) ⊎ (high ≤ 1 + r)) → high ≤ was
lower_at_most l r m was high a e f = elim f [ inl g ↦ omega (arith, a, e, g) | inr g ↦ omega (arith, a, e, g) ]

pub right_lower_at_most : (l r m was high : ℕ) → m ≤ r → 1 + max l r ≡ was → ((high ≤ 1 + l) ⊎ (high ≤ 1 + m)) → high ≤ was
right_lower_at_most l r m was high a e f = elim f [ inl g ↦ omega (arith, a, e, g) | inr g ↦ omega (arith, a, e, g) ]

-- ---- members

pub Stands-member : (nodes : List TreeNode) (t : Tree) (at i : ℕ) → Stands nodes t at → Has (in_order t) i → (i < length nodes) × (i < none)
Stands-member nodes leaf at i s m = absurd m
Stands-member nodes (fork l k r) at i s m = elim (Has-parts (in_order l) (k ∷ in_order r) i m) [
  | inl n ↦ Stands-member nodes l _ i s.4 n
  | inr n ↦ elim n [
    | inl e ↦ (subst (λ z. z < length nodes) e s.1, subst (λ z. z < none) e s.2)
    | inr o ↦ Stands-member nodes r _ i s.5 o
  ]
]

pub distinct_without : (xs ys : List ℕ) (i : ℕ) → IsDistinct (xs ++ i ∷ ys) → IsDistinct (xs ++ ys)
distinct_without [] ys i d = d.1
distinct_without (x ∷ xs) ys i d = (
  λ m. d.0 (elim (Has-parts xs ys x m) [ inl n ↦ Has-left xs (i ∷ ys) x n | inr n ↦ Has-right xs (i ∷ ys) x (inr n) ]),
  distinct_without xs ys i d.1,
)

-- what follows the first of a list without repeats
pub distinct_rest : (xs ys : List ℕ) (i first : ℕ) (later : List ℕ) → IsDistinct (xs ++ i ∷ ys) → xs ≡ first ∷ later → IsDistinct (later ++ i ∷ ys)
distinct_rest xs ys i first later d e = (subst (λ l. IsDistinct (l ++ i ∷ ys)) e d).1

pub sound_within : (nodes : List TreeNode) (at : ℕ) → IsSound nodes at → at ≢ none → at < length nodes
sound_within nodes at t n = tree_within nodes at t.order t.high t.tree n

module _ (nodes : List TreeNode) (at : ℕ) (t : IsSound nodes at) (n : at ≢ none) (node : TreeNode) (read : node ≡ get_or nodes at node) where
  abbrev pub top : Opened nodes at node t.order t.high
  top = opened nodes at t.order t.high t.tree n node read

  pub all_distinct : IsDistinct (top.before ++ at ∷ top.after)
  all_distinct = subst (λ l. IsDistinct l) (sym top.order_is) t.distinct

  pub sides : Apart top.before at top.after
  sides = apart top.before top.after at all_distinct

  abbrev pub left_sound : IsSound nodes node.left
  left_sound = record { order = top.before; high = top.left_high; tree = top.left; distinct = sides.left; low = omega (arith, top.height_is, t.low) }

  abbrev pub right_sound : IsSound nodes node.right
  right_sound = record { order = top.after; high = top.right_high; tree = top.right; distinct = sides.right; low = omega (arith, top.height_is, t.low) }

  left_keeps : (new : List TreeNode) → KeepsOthers top.before nodes new → KeepsOthers t.order nodes new
  left_keeps new k = KeepsOthers-wider top.before t.order nodes new (λ j m. subst (λ l. Has l j) top.order_is (Has-left top.before (at ∷ top.after) j m)) k

  right_keeps : (new : List TreeNode) → KeepsOthers top.after nodes new → KeepsOthers t.order nodes new
  right_keeps new k = KeepsOthers-wider top.after t.order nodes new (λ j m. subst (λ l. Has l j) top.order_is (Has-right top.before (at ∷ top.after) j (inr m))) k

  -- ---- the first node is the top

  pub first_is_top : node.left ≡ none → IsFirstRemoved nodes nodes at node.right t.order t.high
  first_is_top e =
      let s : Stands nodes top.left.tree none = subst (λ z. Stands nodes top.left.tree z) e top.left.stands in
      let nothing : top.before ≡ [] = sym top.left.order_is ∙ leaf_order nodes top.left.tree s in
      let low : top.left_high ≡ 0 = sym top.left.height_is ∙ leaf_height nodes top.left.tree s in
      record {
        later = top.after;
        order_is = sym top.order_is ∙ ap (λ l. l ++ at ∷ top.after) nothing;
        high = top.right_high;
        tree = top.right;
        keeps = record { same_length = refl; others = λ j m. refl };
        at_most = omega (arith, top.height_is);
        at_least = omega (arith, top.height_is, low);
      }

  -- ---- the first node is on the left

  module _ (mid : List TreeNode) (first rest : ℕ) (f : IsFirstRemoved nodes mid first rest top.before top.left_high) where
    abbrev pub first_joinable : AreJoinable mid rest at node.right
    first_joinable = record {
      before = f.later;
      after = top.after;
      left_height = f.high;
      right_height = top.right_high;
      left_tree = f.tree;
      right_tree = IsTree-kept top.before nodes mid node.right top.after top.right_high f.keeps (λ j m k. sides.disjoint j k m) top.right;
      at_within = rw f.keeps.same_length top.at_within;
      at_some = top.at_some;
      distinct = distinct_rest top.before top.after at first f.later all_distinct f.order_is;
      left_near = omega (arith, f.at_most, top.left_near);
      right_near = omega (arith, f.at_least, top.right_near);
      left_low = omega (arith, f.at_most, top.height_is, t.low);
      right_low = omega (arith, top.height_is, t.low);
    }

    pub first_removed : (new : List TreeNode) (result : ℕ) → IsJoined mid new result (f.later ++ at ∷ top.after) f.high top.right_high → IsFirstRemoved nodes new first result t.order t.high
    first_removed new result k = record {
      later = f.later ++ at ∷ top.after;
      order_is = sym top.order_is ∙ ap (λ l. l ++ at ∷ top.after) f.order_is;
      high = k.high;
      tree = k.tree;
      keeps = KeepsOthers-trans t.order nodes mid new (left_keeps mid f.keeps)
          (KeepsOthers-wider (f.later ++ at ∷ top.after) t.order mid new (λ j m. subst (λ l. Has l j) (ap (λ l. l ++ at ∷ top.after) (sym f.order_is) ∙ top.order_is) (inr m)) k.keeps);
      at_most = lower_at_most top.left_high top.right_high f.high t.high k.high f.at_most top.height_is k.at_most;
      at_least = lower_at_least top.left_high top.right_high f.high t.high k.high f.at_least f.at_most top.left_near top.right_near top.height_is k.at_least_left k.at_least_right k.exact;
    }

  -- ---- the top, with nothing to its right

  pub top_is_last : node.right ≡ none → IsTopRemoved nodes nodes at node.left t.order t.high
  top_is_last e =
      let s : Stands nodes top.right.tree none = subst (λ z. Stands nodes top.right.tree z) e top.right.stands in
      let nothing : top.after ≡ [] = sym top.right.order_is ∙ leaf_order nodes top.right.tree s in
      let low : top.right_high ≡ 0 = sym top.right.height_is ∙ leaf_height nodes top.right.tree s in
      record {
        before = top.before;
        after = top.after;
        order_is = sym top.order_is;
        high = top.left_high;
        tree = subst (λ l. IsTree nodes node.left l top.left_high) (sym (ap (λ l. top.before ++ l) nothing ∙ append-nil top.before)) top.left;
        keeps = record { same_length = refl; others = λ j m. refl };
        at_most = omega (arith, top.height_is);
        at_least = omega (arith, top.height_is, low);
      }

  -- ---- the top, whose place the first on its right takes

  module _ (mid : List TreeNode) (next rest : ℕ) (f : IsFirstRemoved nodes mid next rest top.after top.right_high) where
    pub next_known : (next < length nodes) × (next < none)
    next_known = Stands-member nodes top.right.tree node.right next top.right.stands (subst (λ l. Has l next) (sym (top.right.order_is ∙ f.order_is)) (inl refl))

    abbrev pub next_joinable : AreJoinable mid node.left next rest
    next_joinable = record {
      before = top.before;
      after = f.later;
      left_height = top.left_high;
      right_height = f.high;
      left_tree = IsTree-kept top.after nodes mid node.left top.before top.left_high f.keeps (λ j m k. sides.disjoint j m k) top.left;
      right_tree = f.tree;
      at_within = rw f.keeps.same_length next_known.0;
      at_some = next_known.1;
      distinct = subst (λ l. IsDistinct (top.before ++ l)) f.order_is (distinct_without top.before top.after at all_distinct);
      left_near = omega (arith, f.at_least, top.left_near);
      right_near = omega (arith, f.at_most, top.right_near);
      left_low = omega (arith, top.height_is, t.low);
      right_low = omega (arith, f.at_most, top.height_is, t.low);
    }

    pub top_removed : (new : List TreeNode) (result : ℕ) → IsJoined mid new result (top.before ++ next ∷ f.later) top.left_high f.high → IsTopRemoved nodes new at result t.order t.high
    top_removed new result k = record {
      before = top.before;
      after = top.after;
      order_is = sym top.order_is;
      high = k.high;
      tree = subst (λ l. IsTree new result (top.before ++ l) k.high) (sym f.order_is) k.tree;
      keeps = KeepsOthers-trans t.order nodes mid new (right_keeps mid f.keeps)
          (KeepsOthers-wider (top.before ++ next ∷ f.later) t.order mid new (λ j m. subst (λ l. Has l j) top.order_is (wider j (subst (λ l. Has (top.before ++ l) j) (sym f.order_is) m))) k.keeps);
      at_most = right_lower_at_most top.left_high top.right_high f.high t.high k.high f.at_most top.height_is k.at_most;
      at_least = right_lower_at_least top.left_high top.right_high f.high t.high k.high f.at_least f.at_most top.left_near top.right_near top.height_is k.at_least_left k.at_least_right k.exact;
    }
      where
        wider : (j : ℕ) → Has (top.before ++ top.after) j → Has (top.before ++ at ∷ top.after) j
        wider j m = elim (Has-parts top.before top.after j m) [ inl n ↦ Has-left top.before (at ∷ top.after) j n | inr n ↦ Has-right top.before (at ∷ top.after) j (inr n) ]

  pub left_height_less : subtree_height nodes node.left < subtree_height nodes at
  left_height_less = omega (arith, tree_height nodes node.left top.before top.left_high top.left, tree_height nodes at t.order t.high t.tree, top.height_is)
