-- Trees whose nodes are in a list: what a write elsewhere keeps, and a node with two sides.
use Rattle.std.proofs.Common.{◌≡◌, ◌≢◌, ap, refl, sym, subst, ◌∙◌, arith, inl, inr}
use Rattle.std.specs.Prelude.{ℕ, false, ◌+◌, ◌<◌, max, List, [], ◌∷◌, ◌++◌, length, slice_set, ◌==◌}
use Rattle.std.proofs.lemmas.List.{length-set, get_or-set_same, get_or-set_other}
use Rattle.overlay_upstream.specs.declared.build.tree_shape.TreeNode.{TreeNode}
use Rattle.overlay_sweep.specs.LiveRows.{Has, none}
use Rattle.overlay_upstream.specs.TreeShapes.{Tree, leaf, fork, in_order, height, IsDistinct, node_at, subtree_height, parent_of, MayHaveSides, Stands, KeepsOthers}
use Rattle.overlay_sweep.proofs.laws.list.Members.{Has-left, Has-right}

-- ---- lists without repeats

pub record Apart (xs : List ℕ) (i : ℕ) (ys : List ℕ) : Type 0 where
  pub left : IsDistinct xs
  pub right : IsDistinct ys
  pub not_left : Has xs i → ⊥
  pub not_right : Has ys i → ⊥
  pub disjoint : (j : ℕ) → Has xs j → Has ys j → ⊥

pub apart : (xs ys : List ℕ) (i : ℕ) → IsDistinct (xs ++ i ∷ ys) → Apart xs i ys
apart [] ys i d = record { left = tt; right = d.1; not_left = λ h. h; not_right = d.0; disjoint = λ j h k. h }
apart (x ∷ xs) ys i d =
    let r = apart xs ys i d.1 in
    record {
      left = (λ h. d.0 (Has-left xs (i ∷ ys) x h), r.left);
      right = r.right;
      not_left = λ h. elim h [ inl e ↦ d.0 (Has-right xs (i ∷ ys) x (inl (sym e))) | inr m ↦ r.not_left m ];
      not_right = r.not_right;
      disjoint = λ j h k. elim h [ inl e ↦ d.0 (Has-right xs (i ∷ ys) x (inr (subst (λ z. Has ys z) (sym e) k))) | inr m ↦ r.disjoint j m k ];
    }

-- ---- heights and indexes

lt_not : (i n : ℕ) → i < n → i ≡ n → ⊥
lt_not i n h e = omega (arith, h, e)

nat_eq_not : (i n : ℕ) → (i ≡ n → ⊥) → (i == n) ≡ false
nat_eq_not i n h = grind (arith, h)

pub within : (nodes : List TreeNode) (t : Tree) (at : ℕ) → Stands nodes t at → at ≢ none → at < length nodes
within nodes leaf at s n = absurd (n s)
within nodes (fork l i r) at s n = rw s.0 s.1

pub height_is : (nodes : List TreeNode) (t : Tree) (at : ℕ) → Stands nodes t at → subtree_height nodes at ≡ height t
height_is nodes leaf at s = rw s refl
height_is nodes (fork l i r) at s = rw s.0 (not_none i s.2 ∙ s.3)
  where
    not_none : (i : ℕ) → i < none → subtree_height nodes i ≡ (node_at nodes i).height
    not_none i h = rw (nat_eq_not i none (λ e. lt_not i none h e)) refl

-- ---- what is not written to stays

pub Stands-kept : (order : List ℕ) (old new : List TreeNode) → KeepsOthers order old new → (t : Tree) (at : ℕ) → Stands old t at → ((j : ℕ) → Has (in_order t) j → Has order j → ⊥) → Stands new t at
Stands-kept order old new k leaf at s h = s
Stands-kept order old new k (fork l i r) at s h =
    let same : node_at new i ≡ node_at old i = k.others i (λ m. h i (Has-right (in_order l) (i ∷ in_order r) i (inl refl)) m) in (
      s.0,
      rw k.same_length s.1,
      s.2,
      ap (λ (n : TreeNode). n.height) same ∙ s.3,
      subst (λ (n : TreeNode). Stands new l n.left) (sym same) (Stands-kept order old new k l _ s.4 (λ j m. h j (Has-left (in_order l) (i ∷ in_order r) j m))),
      subst (λ (n : TreeNode). Stands new r n.right) (sym same) (Stands-kept order old new k r _ s.5 (λ j m. h j (Has-right (in_order l) (i ∷ in_order r) j (inr m)))),
    )

pub KeepsOthers-set : (nodes : List TreeNode) (i : ℕ) (v : TreeNode) → KeepsOthers (i ∷ []) nodes (slice_set nodes i v)
KeepsOthers-set nodes i v = record {
  same_length = length-set nodes i v;
  others = λ j h. get_or-set_other nodes i j v _ (λ e. h (inl (sym e)));
}

pub KeepsOthers-trans : (order : List ℕ) (old mid new : List TreeNode) → KeepsOthers order old mid → KeepsOthers order mid new → KeepsOthers order old new
KeepsOthers-trans order old mid new h k = record {
  same_length = k.same_length ∙ h.same_length;
  others = λ j m. k.others j m ∙ h.others j m;
}

pub KeepsOthers-wider : (few more : List ℕ) (old new : List TreeNode) → ((j : ℕ) → Has few j → Has more j) → KeepsOthers few old new → KeepsOthers more old new
KeepsOthers-wider few more old new f h = record {
  same_length = h.same_length;
  others = λ j m. h.others j (λ n. m (f j n));
}

-- ---- a node with two sides

pub ready : (nodes : List TreeNode) (i left right : ℕ) (a b : Tree) → Stands nodes a left → Stands nodes b right → height a < none → height b < none → i < length nodes → MayHaveSides nodes i left right
ready nodes i left right a b sa sb la lb h = record {
  at_within = h;
  left_within = within nodes a left sa;
  right_within = within nodes b right sb;
  left_low = rw (height_is nodes a left sa) la;
  right_low = rw (height_is nodes b right sb) lb;
}

pub Stands-fork : (nodes : List TreeNode) (i left right : ℕ) (a b : Tree) → Stands nodes a left → Stands nodes b right → (Has (in_order a) i → ⊥) → (Has (in_order b) i → ⊥) → i < length nodes → i < none → Stands (slice_set nodes i (parent_of nodes left right)) (fork a i b) i
Stands-fork nodes i left right a b sa sb na nb h n =
    let new : List TreeNode = slice_set nodes i (parent_of nodes left right) in
    let same : node_at new i ≡ parent_of nodes left right = get_or-set_same nodes i (parent_of nodes left right) _ h in
    let keeps = KeepsOthers-set nodes i (parent_of nodes left right) in (
      refl,
      rw keeps.same_length h,
      n,
      ap (λ (m : TreeNode). m.height) same ∙ ap (λ z. 1 + max z (subtree_height nodes right)) (height_is nodes a left sa) ∙ ap (λ z. 1 + max (height a) z) (height_is nodes b right sb),
      subst (λ (m : TreeNode). Stands new a m.left) (sym same) (Stands-kept (i ∷ []) nodes new keeps a left sa (λ j m k. elim k [ inl e ↦ na (subst (λ z. Has (in_order a) z) (sym e) m) | inr x ↦ x ])),
      subst (λ (m : TreeNode). Stands new b m.right) (sym same) (Stands-kept (i ∷ []) nodes new keeps b right sb (λ j m k. elim k [ inl e ↦ nb (subst (λ z. Has (in_order b) z) (sym e) m) | inr x ↦ x ])),
    )
