-- Joining two trees by a node: turned once or twice where one is too high.
use Rattle.std.proofs.Common.{◌≡◌, ◌≢◌, ap, refl, sym, subst, ◌∙◌, arith, inl, inr}
use Rattle.std.specs.Prelude.{ℕ, ◌+◌, ◌<◌, ◌≤◌, max, List, [], ◌∷◌, ◌++◌, length, slice_set}
use Rattle.overlay_upstream.specs.declared.build.tree_shape.TreeNode.{TreeNode}
use Rattle.overlay_sweep.specs.LiveRows.{Has, none}
use Rattle.overlay_upstream.specs.TreeShapes.{Tree, leaf, fork, in_order, height, IsHeightBalanced, IsDistinct, node_at, subtree_height, parent_of, Stands, IsTree, KeepsOthers}
use Rattle.overlay_sweep.proofs.laws.list.Members.{Has-left, Has-right}
use Rattle.overlay_upstream.proofs.laws.tree.TreeNodes.{Apart, apart, within, height_is, Stands-kept, KeepsOthers-set, KeepsOthers-trans, KeepsOthers-wider, Stands-fork}

-- a write at one node keeps a tree that does not have it
pub Stands-beside : (nodes : List TreeNode) (i : ℕ) (v : TreeNode) (t : Tree) (at : ℕ) → Stands nodes t at → (Has (in_order t) i → ⊥) → Stands (slice_set nodes i v) t at
Stands-beside nodes i v t at s h = Stands-kept (i ∷ []) nodes (slice_set nodes i v) (KeepsOthers-set nodes i v) t at s (λ j m k. elim k [ inl e ↦ h (subst (λ z. Has (in_order t) z) (sym e) m) | inr x ↦ x ])

pub set_within : (nodes : List TreeNode) (i j : ℕ) (v : TreeNode) → j < length nodes → j < length (slice_set nodes i v)
set_within nodes i j v h = rw (KeepsOthers-set nodes i v).same_length h

one_kept : (order : List ℕ) (nodes : List TreeNode) (i : ℕ) (v : TreeNode) → Has order i → KeepsOthers order nodes (slice_set nodes i v)
one_kept order nodes i v m = KeepsOthers-wider (i ∷ []) order nodes (slice_set nodes i v) (λ j k. elim k [ inl e ↦ subst (λ z. Has order z) e m | inr x ↦ absurd x ]) (KeepsOthers-set nodes i v)

-- ---- a node, and one above it to its left: A o (B i C)

module _ (nodes : List TreeNode) (o i left mid right : ℕ) (a b c : Tree) (sa : Stands nodes a left) (sb : Stands nodes b mid) (sc : Stands nodes c right)
    (o_in : o < length nodes) (o_some : o < none) (i_in : i < length nodes) (i_some : i < none) (d : IsDistinct (in_order a ++ o ∷ (in_order b ++ i ∷ in_order c))) where
  outer_left : Apart (in_order a) o (in_order b ++ i ∷ in_order c)
  outer_left = apart (in_order a) (in_order b ++ i ∷ in_order c) o d

  inner_right : Apart (in_order b) i (in_order c)
  inner_right = apart (in_order b) (in_order c) i outer_left.right

  abbrev pub right_first : List TreeNode
  right_first = slice_set nodes i (parent_of nodes mid right)

  pub right_inner : Stands right_first (fork b i c) i
  right_inner = Stands-fork nodes i mid right b c sb sc inner_right.not_left inner_right.not_right i_in i_some

  pub left_kept : Stands right_first a left
  left_kept = Stands-beside nodes i (parent_of nodes mid right) a left sa (λ m. outer_left.disjoint i m (Has-right (in_order b) (i ∷ in_order c) i (inl refl)))

  abbrev pub right_second : List TreeNode
  right_second = slice_set right_first o (parent_of right_first left i)

  pub turned_right : Stands right_second (fork a o (fork b i c)) o
  turned_right = Stands-fork right_first o left i a (fork b i c) left_kept right_inner outer_left.not_left outer_left.not_right (set_within nodes i o (parent_of nodes mid right) o_in) o_some

  pub turned_right_keeps : KeepsOthers (in_order a ++ o ∷ (in_order b ++ i ∷ in_order c)) nodes right_second
  turned_right_keeps =
      KeepsOthers-trans _ nodes right_first right_second
      (one_kept _ nodes i (parent_of nodes mid right) (Has-right (in_order a) (o ∷ (in_order b ++ i ∷ in_order c)) i (inr (Has-right (in_order b) (i ∷ in_order c) i (inl refl)))))
      (one_kept _ right_first o (parent_of right_first left i) (Has-right (in_order a) (o ∷ (in_order b ++ i ∷ in_order c)) o (inl refl)))

-- ---- a node, and one above it to its right: (A i B) o C

module _ (nodes : List TreeNode) (i o left mid right : ℕ) (a b c : Tree) (sa : Stands nodes a left) (sb : Stands nodes b mid) (sc : Stands nodes c right)
    (o_in : o < length nodes) (o_some : o < none) (i_in : i < length nodes) (i_some : i < none) (d : IsDistinct ((in_order a ++ i ∷ in_order b) ++ o ∷ in_order c)) where
  outer_right : Apart (in_order a ++ i ∷ in_order b) o (in_order c)
  outer_right = apart (in_order a ++ i ∷ in_order b) (in_order c) o d

  inner_left : Apart (in_order a) i (in_order b)
  inner_left = apart (in_order a) (in_order b) i outer_right.left

  abbrev pub left_first : List TreeNode
  left_first = slice_set nodes i (parent_of nodes left mid)

  pub left_inner : Stands left_first (fork a i b) i
  left_inner = Stands-fork nodes i left mid a b sa sb inner_left.not_left inner_left.not_right i_in i_some

  pub right_kept : Stands left_first c right
  right_kept = Stands-beside nodes i (parent_of nodes left mid) c right sc (λ m. outer_right.disjoint i (Has-right (in_order a) (i ∷ in_order b) i (inl refl)) m)

  abbrev pub left_second : List TreeNode
  left_second = slice_set left_first o (parent_of left_first i right)

  pub turned_left : Stands left_second (fork (fork a i b) o c) o
  turned_left = Stands-fork left_first o i right (fork a i b) c left_inner right_kept outer_right.not_left outer_right.not_right (set_within nodes i o (parent_of nodes left mid) o_in) o_some

  pub turned_left_keeps : KeepsOthers ((in_order a ++ i ∷ in_order b) ++ o ∷ in_order c) nodes left_second
  turned_left_keeps =
      KeepsOthers-trans _ nodes left_first left_second
      (one_kept _ nodes i (parent_of nodes left mid) (Has-left (in_order a ++ i ∷ in_order b) (o ∷ in_order c) i (Has-right (in_order a) (i ∷ in_order b) i (inl refl))))
      (one_kept _ left_first o (parent_of left_first i right) (Has-right (in_order a ++ i ∷ in_order b) (o ∷ in_order c) o (inl refl)))

-- ---- a node over two: (A p B) m (C q D)

module _ (nodes : List TreeNode) (p m q first second third fourth : ℕ) (a b c e : Tree) (sa : Stands nodes a first) (sb : Stands nodes b second) (sc : Stands nodes c third) (se : Stands nodes e fourth)
    (p_in : p < length nodes) (p_some : p < none) (m_in : m < length nodes) (m_some : m < none) (q_in : q < length nodes) (q_some : q < none)
    (d : IsDistinct ((in_order a ++ p ∷ in_order b) ++ m ∷ (in_order c ++ q ∷ in_order e))) where
  outer : Apart (in_order a ++ p ∷ in_order b) m (in_order c ++ q ∷ in_order e)
  outer = apart (in_order a ++ p ∷ in_order b) (in_order c ++ q ∷ in_order e) m d

  one : Apart (in_order a) p (in_order b)
  one = apart (in_order a) (in_order b) p outer.left

  two : Apart (in_order c) q (in_order e)
  two = apart (in_order c) (in_order e) q outer.right

  has_p : Has (in_order a ++ p ∷ in_order b) p
  has_p = Has-right (in_order a) (p ∷ in_order b) p (inl refl)

  has_q : Has (in_order c ++ q ∷ in_order e) q
  has_q = Has-right (in_order c) (q ∷ in_order e) q (inl refl)

  abbrev pub after_p : List TreeNode
  after_p = slice_set nodes p (parent_of nodes first second)

  pub at_p : Stands after_p (fork a p b) p
  at_p = Stands-fork nodes p first second a b sa sb one.not_left one.not_right p_in p_some

  pub third_kept : Stands after_p c third
  third_kept = Stands-beside nodes p (parent_of nodes first second) c third sc (λ n. outer.disjoint p has_p (Has-left (in_order c) (q ∷ in_order e) p n))

  pub fourth_kept : Stands after_p e fourth
  fourth_kept = Stands-beside nodes p (parent_of nodes first second) e fourth se (λ n. outer.disjoint p has_p (Has-right (in_order c) (q ∷ in_order e) p (inr n)))

  pub q_within : q < length after_p
  q_within = set_within nodes p q (parent_of nodes first second) q_in

  abbrev pub after_q : List TreeNode
  after_q = slice_set after_p q (parent_of after_p third fourth)

  pub at_q : Stands after_q (fork c q e) q
  at_q = Stands-fork after_p q third fourth c e third_kept fourth_kept two.not_left two.not_right q_within q_some

  pub p_kept : Stands after_q (fork a p b) p
  p_kept = Stands-beside after_p q (parent_of after_p third fourth) (fork a p b) p at_p (λ n. outer.disjoint q n has_q)

  pub m_within : m < length after_q
  m_within = set_within after_p q m (parent_of after_p third fourth) (set_within nodes p m (parent_of nodes first second) m_in)

  abbrev pub after_m : List TreeNode
  after_m = slice_set after_q m (parent_of after_q p q)

  pub at_m : Stands after_m (fork (fork a p b) m (fork c q e)) m
  at_m = Stands-fork after_q m p q (fork a p b) (fork c q e) p_kept at_q outer.not_left outer.not_right m_within m_some

  pub three_keep : KeepsOthers ((in_order a ++ p ∷ in_order b) ++ m ∷ (in_order c ++ q ∷ in_order e)) nodes after_m
  three_keep =
      let order : List ℕ = (in_order a ++ p ∷ in_order b) ++ m ∷ (in_order c ++ q ∷ in_order e) in
      KeepsOthers-trans order nodes after_q after_m
      (KeepsOthers-trans order nodes after_p after_q
      (one_kept order nodes p (parent_of nodes first second) (Has-left (in_order a ++ p ∷ in_order b) (m ∷ (in_order c ++ q ∷ in_order e)) p has_p))
      (one_kept order after_p q (parent_of after_p third fourth) (Has-right (in_order a ++ p ∷ in_order b) (m ∷ (in_order c ++ q ∷ in_order e)) q (inr has_q))))
      (one_kept order after_q m (parent_of after_q p q) (Has-right (in_order a ++ p ∷ in_order b) (m ∷ (in_order c ++ q ∷ in_order e)) m (inl refl)))

-- ---- the trees that a join is given

-- a tree that is not empty
pub record Forked (nodes : List TreeNode) (at : ℕ) (order : List ℕ) (high : ℕ) : Type 0 where
  pub left : Tree
  pub right : Tree
  pub at_within : at < length nodes
  pub at_some : at < none
  pub left_stands : Stands nodes left (node_at nodes at).left
  pub right_stands : Stands nodes right (node_at nodes at).right
  pub left_balanced : IsHeightBalanced left
  pub right_balanced : IsHeightBalanced right
  pub left_near : height left ≤ height right + 1
  pub right_near : height right ≤ height left + 1
  pub order_is : in_order left ++ at ∷ in_order right ≡ order
  pub height_is : 1 + max (height left) (height right) ≡ high

pub forked : (nodes : List TreeNode) (at : ℕ) (order : List ℕ) (high : ℕ) (t : Tree) → Stands nodes t at → IsHeightBalanced t → in_order t ≡ order → height t ≡ high → at ≢ none → Forked nodes at order high
forked nodes at order high leaf s b o h n = absurd (n s)
forked nodes at order high (fork l i r) s b o h n = record {
  left = l;
  right = r;
  at_within = rw s.0 s.1;
  at_some = rw s.0 s.2;
  left_stands = rw s.0 s.4;
  right_stands = rw s.0 s.5;
  left_balanced = b.0;
  right_balanced = b.1;
  left_near = b.2;
  right_near = b.3;
  order_is = ap (λ z. in_order l ++ z ∷ in_order r) s.0 ∙ o;
  height_is = h;
}

pub tree_forked : (nodes : List TreeNode) (at : ℕ) (order : List ℕ) (high : ℕ) → IsTree nodes at order high → at ≢ none → Forked nodes at order high
tree_forked nodes at order high t n = forked nodes at order high t.tree t.stands t.balanced t.order_is t.height_is n

pub high_is_some : (nodes : List TreeNode) (at : ℕ) (order : List ℕ) (high : ℕ) → IsTree nodes at order high → 0 < high → at ≢ none
high_is_some nodes at order high t h = by_tree t.tree t.stands t.height_is
  where
    by_tree : (t : Tree) → Stands nodes t at → height t ≡ high → at ≢ none
    by_tree leaf s e = absurd (omega (arith, e, h))
    by_tree (fork l i r) s e = λ z. (let k : i < none = s.2 in let f : i ≡ none = sym s.0 ∙ z in omega (arith, k, f))

pub tree_height : (nodes : List TreeNode) (at : ℕ) (order : List ℕ) (high : ℕ) → IsTree nodes at order high → subtree_height nodes at ≡ high
tree_height nodes at order high t = height_is nodes t.tree at t.stands ∙ t.height_is

pub tree_within : (nodes : List TreeNode) (at : ℕ) (order : List ℕ) (high : ℕ) → IsTree nodes at order high → at ≢ none → at < length nodes
tree_within nodes at order high t n = within nodes t.tree at t.stands n
