-- A way down a tree: what it leaves above a side that it has changed.
use Rattle.std.proofs.Common.{◌≡◌, ◌≢◌, ap, ap₂, refl, sym, subst, ◌∙◌, arith, inl, inr, get_or, tests}
use Rattle.std.specs.Prelude.{ℕ, Bool, true, false, not, ◌&&◌, ◌==◌, ◌+◌, ◌<◌, ◌≤◌, ◌⊎◌, max, List, [], ◌∷◌, ◌++◌, length}
use Rattle.std.proofs.lemmas.List.{append-nil, get_or_read}
use Rattle.std.proofs.lemmas.Bool.{cases_lt, both_ways}
use Rattle.overlay_upstream.specs.declared.build.tree_shape.TreeNode.{TreeNode}
use Rattle.overlay_sweep.specs.LiveRows.{Has, none, HasLast, HasFirst}
use Rattle.overlay_upstream.specs.TreeShapes.{Tree, leaf, fork, height, node_at, subtree_height, IsParent, IsDistinct, Stands, IsTree, KeepsOthers, AreJoinable, IsJoined, IsTopRemoved, MayGoDown, IsStopped, IsPlaced}
use Rattle.overlay_upstream.proofs.laws.tree.TreeNodes.{Apart, apart, KeepsOthers-trans, KeepsOthers-wider}
use Rattle.overlay_sweep.proofs.laws.list.Members.{Has-left, Has-right, Has-parts}
use Rattle.overlay_upstream.proofs.laws.tree.HighSides.{assoc}
use Rattle.overlay_upstream.proofs.laws.tree.TreeTurns.{tree_within, tree_height}
use Rattle.overlay_upstream.proofs.laws.tree.TreeRemovals.{Opened, opened, IsTree-kept, leaf_order, leaf_height, lower_at_least, right_lower_at_least, lower_at_most, right_lower_at_most, distinct_without}

-- ---- lists without repeats, one within another

pub distinct_append : (xs ys : List ℕ) → IsDistinct xs → IsDistinct ys → ((j : ℕ) → Has xs j → Has ys j → ⊥) → IsDistinct (xs ++ ys)
distinct_append [] ys d e h = e
distinct_append (x ∷ xs) ys d e h = (
  λ m. elim (Has-parts xs ys x m) [ inl n ↦ d.0 n | inr n ↦ h x (inl refl) n ],
  distinct_append xs ys d.1 e (λ j m n. h j (inr m) n),
)

pub distinct_between : (xs ys zs : List ℕ) → IsDistinct (xs ++ zs) → IsDistinct ys → ((j : ℕ) → Has (xs ++ zs) j → Has ys j → ⊥) → IsDistinct (xs ++ (ys ++ zs))
distinct_between [] ys zs d e h = distinct_append ys zs e d (λ j m n. h j n m)
distinct_between (x ∷ xs) ys zs d e h = (
  λ m. elim (Has-parts xs (ys ++ zs) x m) [
    | inl n ↦ d.0 (Has-left xs zs x n)
    | inr n ↦ elim (Has-parts ys zs x n) [ inl o ↦ h x (inl refl) o | inr o ↦ d.0 (Has-right xs zs x o) ]
  ],
  distinct_between xs ys zs d.1 e (λ j m n. h j (inr m) n),
)

-- ---- heights, where one side has grown

grown_at_least : (l r m was high : ℕ) → l ≤ m → m ≤ l + 1 → l ≤ r + 1 → r ≤ l + 1 → 1 + max l r ≡ was → m ≤ high → r ≤ high → (m ≤ r + 1 → r ≤ m + 1 → high ≡ 1 + max m r) → was ≤ high
grown_at_least l r m was high a b c d e f g h = elim (cases_lt (r + 1) m) [
  | inl far ↦ omega (arith, a, b, c, d, e, f, g, far)
  | inr near ↦ (let it : high ≡ 1 + max m r = h near (omega (arith, a, d)) in omega (arith, a, b, c, d, e, it))
]

right_grown_at_least : (l r m was high : ℕ) → r ≤ m → m ≤ r + 1 → l ≤ r + 1 → r ≤ l + 1 → 1 + max l r ≡ was → l ≤ high → m ≤ high → (l ≤ m + 1 → m ≤ l + 1 → high ≡ 1 + max l m) → was ≤ high
right_grown_at_least l r m was high a b c d e f g h = elim (cases_lt (l + 1) m) [
  | inl far ↦ omega (arith, a, b, c, d, e, f, g, far)
  | inr near ↦ (let it : high ≡ 1 + max l m = h (omega (arith, a, c)) near in omega (arith, a, b, c, d, e, it))
]

grown_at_most : (l r m was high : ℕ) → m ≤ l + 1 → 1 + max l r ≡ was → ((high ≤ 1 + m) ⊎ (high ≤ 1 + r)) → high ≤ was + 1
grown_at_most l r m was high a e f = elim f [ inl g ↦ omega (arith, a, e, g) | inr g ↦ omega (arith, a, e, g) ]

right_grown_at_most : (l r m was high : ℕ) → m ≤ r + 1 → 1 + max l r ≡ was → ((high ≤ 1 + l) ⊎ (high ≤ 1 + m)) → high ≤ was + 1
right_grown_at_most l r m was high a e f = elim f [ inl g ↦ omega (arith, a, e, g) | inr g ↦ omega (arith, a, e, g) ]

-- ---- no node

pub nowhere_placed : (lasts before : ℕ → Bool) (nodes : List TreeNode) (new given : ℕ) (m : MayGoDown nodes none new) → IsPlaced lasts before nodes nodes given given new m.sound.order m.placed m.sound.high
nowhere_placed lasts before nodes new given m =
    let empty : m.sound.order ≡ [] = sym m.sound.tree.order_is ∙ leaf_order nodes m.sound.tree.tree m.sound.tree.stands in
    let low : m.sound.high ≡ 0 = sym m.sound.tree.height_is ∙ leaf_height nodes m.sound.tree.tree m.sound.tree.stands in
    record {
      earlier = [];
      later = [];
      order_is = empty;
      high = m.placed_high;
      tree = subst (λ l. IsTree nodes new l m.placed_high) (sym (append-nil m.placed)) m.placed_tree;
      keeps = record { same_length = refl; others = λ j h. refl };
      at_least = omega (arith, low);
      at_most = omega (arith, low, m.placed_low);
      last_is = inl (refl, refl);
      first_is = inl refl;
    }

-- ---- a node that has ended

pub stopped_here : (lasts : ℕ → Bool) (old new : List TreeNode) (at top : ℕ) (order : List ℕ) (was : ℕ) → lasts at ≡ false → IsTopRemoved old new at top order was → IsStopped lasts old new top order was
stopped_here lasts old new at top order was e r = record {
  earlier = r.before;
  ended = at;
  later = r.after;
  order_is = r.order_is;
  has_ended = e;
  high = r.high;
  tree = r.tree;
  keeps = r.keeps;
  at_most = r.at_most;
  at_least = r.at_least;
}

module _ (nodes : List TreeNode) (at new : ℕ) (m : MayGoDown nodes at new) (n : at ≢ none) (node : TreeNode) (read : node ≡ get_or nodes at node) where
  abbrev pub parts : Opened nodes at node m.sound.order m.sound.high
  parts = opened nodes at m.sound.order m.sound.high m.sound.tree n node read

  pub in_one : IsDistinct (parts.before ++ at ∷ parts.after)
  in_one = subst (λ l. IsDistinct l) (sym parts.order_is) m.sound.distinct

  pub two_sides : Apart parts.before at parts.after
  two_sides = apart parts.before parts.after at in_one

  pub left_away : (j : ℕ) → Has parts.before j → Has m.placed j → ⊥
  left_away j h = m.disjoint j (subst (λ l. Has l j) parts.order_is (Has-left parts.before (at ∷ parts.after) j h))

  pub right_away : (j : ℕ) → Has parts.after j → Has m.placed j → ⊥
  right_away j h = m.disjoint j (subst (λ l. Has l j) parts.order_is (Has-right parts.before (at ∷ parts.after) j (inr h)))

  abbrev pub left_may : MayGoDown nodes node.left new
  left_may = record {
    sound = record { order = parts.before; high = parts.left_high; tree = parts.left; distinct = two_sides.left; low = omega (arith, parts.height_is, m.sound.low) };
    placed = m.placed;
    placed_high = m.placed_high;
    placed_tree = m.placed_tree;
    placed_low = m.placed_low;
    placed_distinct = m.placed_distinct;
    disjoint = left_away;
  }

  abbrev pub right_may : MayGoDown nodes node.right new
  right_may = record {
    sound = record { order = parts.after; high = parts.right_high; tree = parts.right; distinct = two_sides.right; low = omega (arith, parts.height_is, m.sound.low) };
    placed = m.placed;
    placed_high = m.placed_high;
    placed_tree = m.placed_tree;
    placed_low = m.placed_low;
    placed_distinct = m.placed_distinct;
    disjoint = right_away;
  }

  -- ---- what is joined above a changed side

  module _ (written : List ℕ) (mid : List TreeNode) (kept : KeepsOthers written nodes mid) (side : ℕ) (order : List ℕ) (high : ℕ) (tree : IsTree mid side order high) where
    abbrev pub right_joinable : ((j : ℕ) → Has parts.before j → Has written j → ⊥) → IsDistinct (parts.before ++ at ∷ order) → high ≤ parts.right_high + 1 → parts.right_high ≤ high + 1 → AreJoinable mid node.left at side
    right_joinable away d h k = record {
      before = parts.before;
      after = order;
      left_height = parts.left_high;
      right_height = high;
      left_tree = IsTree-kept written nodes mid node.left parts.before parts.left_high kept away parts.left;
      right_tree = tree;
      at_within = rw kept.same_length parts.at_within;
      at_some = parts.at_some;
      distinct = d;
      left_near = omega (arith, k, parts.left_near);
      right_near = omega (arith, h, parts.right_near);
      left_low = omega (arith, parts.height_is, m.sound.low);
      right_low = omega (arith, h, parts.height_is, m.sound.low);
    }

    abbrev pub left_joinable : ((j : ℕ) → Has parts.after j → Has written j → ⊥) → IsDistinct (order ++ at ∷ parts.after) → high ≤ parts.left_high + 1 → parts.left_high ≤ high + 1 → AreJoinable mid side at node.right
    left_joinable away d h k = record {
      before = order;
      after = parts.after;
      left_height = high;
      right_height = parts.right_high;
      left_tree = tree;
      right_tree = IsTree-kept written nodes mid node.right parts.after parts.right_high kept away parts.right;
      at_within = rw kept.same_length parts.at_within;
      at_some = parts.at_some;
      distinct = d;
      left_near = omega (arith, h, parts.left_near);
      right_near = omega (arith, k, parts.right_near);
      left_low = omega (arith, h, parts.height_is, m.sound.low);
      right_low = omega (arith, parts.height_is, m.sound.low);
    }

  -- ---- the way was stopped on one side

  module _ (lasts : ℕ → Bool) (mid : List TreeNode) (side : ℕ) where
    module _ (s : IsStopped lasts nodes mid side parts.after parts.right_high) where
      pub right_stopped_order : (parts.before ++ at ∷ s.earlier) ++ s.ended ∷ s.later ≡ parts.before ++ at ∷ parts.after
      right_stopped_order = assoc parts.before (at ∷ s.earlier) (s.ended ∷ s.later) ∙ ap (λ l. parts.before ++ at ∷ l) (sym s.order_is)

      pub right_stopped_rest : (parts.before ++ at ∷ s.earlier) ++ s.later ≡ parts.before ++ at ∷ (s.earlier ++ s.later)
      right_stopped_rest = assoc parts.before (at ∷ s.earlier) s.later

      pub right_stopped_distinct : IsDistinct (parts.before ++ at ∷ (s.earlier ++ s.later))
      right_stopped_distinct = subst (λ l. IsDistinct l) right_stopped_rest (distinct_without (parts.before ++ at ∷ s.earlier) s.later s.ended (subst (λ l. IsDistinct l) (sym right_stopped_order) in_one))

      abbrev pub right_stopped_joinable : AreJoinable mid node.left at side
      right_stopped_joinable = right_joinable parts.after mid s.keeps side (s.earlier ++ s.later) s.high s.tree (λ j h k. two_sides.disjoint j h k) right_stopped_distinct (omega (arith, s.at_most)) s.at_least

      pub right_stopped : (last : List TreeNode) (top : ℕ) → IsJoined mid last top (parts.before ++ at ∷ (s.earlier ++ s.later)) parts.left_high s.high → IsStopped lasts nodes last top m.sound.order m.sound.high
      right_stopped last top j = record {
        earlier = parts.before ++ at ∷ s.earlier;
        ended = s.ended;
        later = s.later;
        order_is = sym parts.order_is ∙ sym right_stopped_order;
        has_ended = s.has_ended;
        high = j.high;
        tree = subst (λ l. IsTree last top l j.high) (sym right_stopped_rest) j.tree;
        keeps = KeepsOthers-trans m.sound.order nodes mid last
            (KeepsOthers-wider parts.after m.sound.order nodes mid (λ i h. subst (λ l. Has l i) parts.order_is (Has-right parts.before (at ∷ parts.after) i (inr h))) s.keeps)
            (KeepsOthers-wider (parts.before ++ at ∷ (s.earlier ++ s.later)) m.sound.order mid last (λ i h. subst (λ l. Has l i) (right_stopped_order ∙ parts.order_is) (more i (subst (λ l. Has l i) (sym right_stopped_rest) h))) j.keeps);
        at_most = right_lower_at_most parts.left_high parts.right_high s.high m.sound.high j.high s.at_most parts.height_is j.at_most;
        at_least = right_lower_at_least parts.left_high parts.right_high s.high m.sound.high j.high s.at_least s.at_most parts.left_near parts.right_near parts.height_is j.at_least_left j.at_least_right j.exact;
      }
        where
          more : (i : ℕ) → Has ((parts.before ++ at ∷ s.earlier) ++ s.later) i → Has ((parts.before ++ at ∷ s.earlier) ++ s.ended ∷ s.later) i
          more i h = elim (Has-parts (parts.before ++ at ∷ s.earlier) s.later i h) [ inl k ↦ Has-left (parts.before ++ at ∷ s.earlier) (s.ended ∷ s.later) i k | inr k ↦ Has-right (parts.before ++ at ∷ s.earlier) (s.ended ∷ s.later) i (inr k) ]

    module _ (s : IsStopped lasts nodes mid side parts.before parts.left_high) where
      pub left_stopped_order : s.earlier ++ s.ended ∷ (s.later ++ at ∷ parts.after) ≡ parts.before ++ at ∷ parts.after
      left_stopped_order = sym (assoc s.earlier (s.ended ∷ s.later) (at ∷ parts.after)) ∙ ap (λ l. l ++ at ∷ parts.after) (sym s.order_is)

      pub left_stopped_rest : s.earlier ++ (s.later ++ at ∷ parts.after) ≡ (s.earlier ++ s.later) ++ at ∷ parts.after
      left_stopped_rest = sym (assoc s.earlier s.later (at ∷ parts.after))

      pub left_stopped_distinct : IsDistinct ((s.earlier ++ s.later) ++ at ∷ parts.after)
      left_stopped_distinct = subst (λ l. IsDistinct l) left_stopped_rest (distinct_without s.earlier (s.later ++ at ∷ parts.after) s.ended (subst (λ l. IsDistinct l) (sym left_stopped_order) in_one))

      abbrev pub left_stopped_joinable : AreJoinable mid side at node.right
      left_stopped_joinable = left_joinable parts.before mid s.keeps side (s.earlier ++ s.later) s.high s.tree (λ j h k. two_sides.disjoint j k h) left_stopped_distinct (omega (arith, s.at_most)) s.at_least

      pub left_stopped : (last : List TreeNode) (top : ℕ) → IsJoined mid last top ((s.earlier ++ s.later) ++ at ∷ parts.after) s.high parts.right_high → IsStopped lasts nodes last top m.sound.order m.sound.high
      left_stopped last top j = record {
        earlier = s.earlier;
        ended = s.ended;
        later = s.later ++ at ∷ parts.after;
        order_is = sym parts.order_is ∙ sym left_stopped_order;
        has_ended = s.has_ended;
        high = j.high;
        tree = subst (λ l. IsTree last top l j.high) (sym left_stopped_rest) j.tree;
        keeps = KeepsOthers-trans m.sound.order nodes mid last
            (KeepsOthers-wider parts.before m.sound.order nodes mid (λ i h. subst (λ l. Has l i) parts.order_is (Has-left parts.before (at ∷ parts.after) i h)) s.keeps)
            (KeepsOthers-wider ((s.earlier ++ s.later) ++ at ∷ parts.after) m.sound.order mid last (λ i h. subst (λ l. Has l i) (left_stopped_order ∙ parts.order_is) (more i (subst (λ l. Has l i) (sym left_stopped_rest) h))) j.keeps);
        at_most = lower_at_most parts.left_high parts.right_high s.high m.sound.high j.high s.at_most parts.height_is j.at_most;
        at_least = lower_at_least parts.left_high parts.right_high s.high m.sound.high j.high s.at_least s.at_most parts.left_near parts.right_near parts.height_is j.at_least_left j.at_least_right j.exact;
      }
        where
          more : (i : ℕ) → Has (s.earlier ++ (s.later ++ at ∷ parts.after)) i → Has (s.earlier ++ s.ended ∷ (s.later ++ at ∷ parts.after)) i
          more i h = elim (Has-parts s.earlier (s.later ++ at ∷ parts.after) i h) [ inl k ↦ Has-left s.earlier (s.ended ∷ (s.later ++ at ∷ parts.after)) i k | inr k ↦ Has-right s.earlier (s.ended ∷ (s.later ++ at ∷ parts.after)) i (inr k) ]

  -- ---- the way came to its place on one side

  module _ (lasts before : ℕ → Bool) (mid : List TreeNode) (given last_one side : ℕ) where
    -- nothing of one side was written to, nor of what is new
    pub before_away : (j : ℕ) → Has parts.before j → Has (parts.after ++ m.placed) j → ⊥
    before_away j h k = elim (Has-parts parts.after m.placed j k) [ inl o ↦ two_sides.disjoint j h o | inr o ↦ left_away j h o ]

    pub after_away : (j : ℕ) → Has parts.after j → Has (parts.before ++ m.placed) j → ⊥
    after_away j h k = elim (Has-parts parts.before m.placed j k) [ inl o ↦ two_sides.disjoint j o h | inr o ↦ right_away j h o ]

    module _ (on : lasts at ≡ true) (stands : before at ≡ true) (p : IsPlaced lasts before nodes mid at last_one side parts.after m.placed parts.right_high) where
      pub right_placed_order : (parts.before ++ at ∷ p.earlier) ++ p.later ≡ parts.before ++ at ∷ parts.after
      right_placed_order = assoc parts.before (at ∷ p.earlier) p.later ∙ ap (λ l. parts.before ++ at ∷ l) (sym p.order_is)

      pub right_placed_all : (parts.before ++ at ∷ p.earlier) ++ (m.placed ++ p.later) ≡ parts.before ++ at ∷ (p.earlier ++ (m.placed ++ p.later))
      right_placed_all = assoc parts.before (at ∷ p.earlier) (m.placed ++ p.later)

      pub right_placed_distinct : IsDistinct (parts.before ++ at ∷ (p.earlier ++ (m.placed ++ p.later)))
      right_placed_distinct =
          subst (λ l. IsDistinct l) right_placed_all
          (distinct_between (parts.before ++ at ∷ p.earlier) m.placed p.later (subst (λ l. IsDistinct l) (sym right_placed_order) in_one) m.placed_distinct
          (λ j h k. m.disjoint j (subst (λ l. Has l j) (right_placed_order ∙ parts.order_is) h) k))

      abbrev pub right_placed_joinable : AreJoinable mid node.left at side
      right_placed_joinable = right_joinable (parts.after ++ m.placed) mid p.keeps side (p.earlier ++ (m.placed ++ p.later)) p.high p.tree before_away right_placed_distinct p.at_most (omega (arith, p.at_least))

      last_there : ((p.earlier ≡ []) × (last_one ≡ at)) ⊎ HasLast lasts before p.earlier last_one → HasLast lasts before (parts.before ++ at ∷ p.earlier) last_one
      last_there (inl e) = record {
        front = parts.before;
        earlier_is = ap₂ (λ l i. parts.before ++ i ∷ l) e.0 (sym e.1);
        lasts_on = ap lasts e.1 ∙ on;
        is_before = ap before e.1 ∙ stands;
      }
      last_there (inr h) = record {
        front = parts.before ++ at ∷ h.front;
        earlier_is = ap (λ l. parts.before ++ at ∷ l) h.earlier_is ∙ sym (assoc parts.before (at ∷ h.front) (last_one ∷ []));
        lasts_on = h.lasts_on;
        is_before = h.is_before;
      }

      pub right_placed : (last : List TreeNode) (top : ℕ) → IsJoined mid last top (parts.before ++ at ∷ (p.earlier ++ (m.placed ++ p.later))) parts.left_high p.high → IsPlaced lasts before nodes last given last_one top m.sound.order m.placed m.sound.high
      right_placed last top j = record {
        earlier = parts.before ++ at ∷ p.earlier;
        later = p.later;
        order_is = sym parts.order_is ∙ sym right_placed_order;
        high = j.high;
        tree = subst (λ l. IsTree last top l j.high) (sym right_placed_all) j.tree;
        keeps = KeepsOthers-trans (m.sound.order ++ m.placed) nodes mid last
            (KeepsOthers-wider (parts.after ++ m.placed) (m.sound.order ++ m.placed) nodes mid from_side p.keeps)
            (KeepsOthers-wider (parts.before ++ at ∷ (p.earlier ++ (m.placed ++ p.later))) (m.sound.order ++ m.placed) mid last (λ i h. from_all i (subst (λ l. Has l i) (sym right_placed_all) h)) j.keeps);
        at_least = right_grown_at_least parts.left_high parts.right_high p.high m.sound.high j.high p.at_least p.at_most parts.left_near parts.right_near parts.height_is j.at_least_left j.at_least_right j.exact;
        at_most = right_grown_at_most parts.left_high parts.right_high p.high m.sound.high j.high p.at_most parts.height_is j.at_most;
        last_is = inr (last_there p.last_is);
        first_is = p.first_is;
      }
        where
          whole : (i : ℕ) → Has (parts.before ++ at ∷ parts.after) i → Has (m.sound.order ++ m.placed) i
          whole i h = Has-left m.sound.order m.placed i (subst (λ l. Has l i) parts.order_is h)

          from_side : (i : ℕ) → Has (parts.after ++ m.placed) i → Has (m.sound.order ++ m.placed) i
          from_side i h = elim (Has-parts parts.after m.placed i h) [ inl k ↦ whole i (Has-right parts.before (at ∷ parts.after) i (inr k)) | inr k ↦ Has-right m.sound.order m.placed i k ]

          from_all : (i : ℕ) → Has ((parts.before ++ at ∷ p.earlier) ++ (m.placed ++ p.later)) i → Has (m.sound.order ++ m.placed) i
          from_all i h = elim (Has-parts (parts.before ++ at ∷ p.earlier) (m.placed ++ p.later) i h) [
            | inl k ↦ whole i (subst (λ l. Has l i) right_placed_order (Has-left (parts.before ++ at ∷ p.earlier) p.later i k))
            | inr k ↦ elim (Has-parts m.placed p.later i k) [
              | inl o ↦ Has-right m.sound.order m.placed i o
              | inr o ↦ whole i (subst (λ l. Has l i) right_placed_order (Has-right (parts.before ++ at ∷ p.earlier) p.later i o))
            ]
          ]

    module _ (on : lasts at ≡ true) (stands : before at ≡ false) (p : IsPlaced lasts before nodes mid given last_one side parts.before m.placed parts.left_high) where
      pub left_placed_order : p.earlier ++ (p.later ++ at ∷ parts.after) ≡ parts.before ++ at ∷ parts.after
      left_placed_order = sym (assoc p.earlier p.later (at ∷ parts.after)) ∙ ap (λ l. l ++ at ∷ parts.after) (sym p.order_is)

      pub left_placed_all : p.earlier ++ (m.placed ++ (p.later ++ at ∷ parts.after)) ≡ (p.earlier ++ (m.placed ++ p.later)) ++ at ∷ parts.after
      left_placed_all = sym (assoc p.earlier (m.placed ++ p.later) (at ∷ parts.after) ∙ ap (λ l. p.earlier ++ l) (assoc m.placed p.later (at ∷ parts.after)))

      pub left_placed_distinct : IsDistinct ((p.earlier ++ (m.placed ++ p.later)) ++ at ∷ parts.after)
      left_placed_distinct =
          subst (λ l. IsDistinct l) left_placed_all
          (distinct_between p.earlier m.placed (p.later ++ at ∷ parts.after) (subst (λ l. IsDistinct l) (sym left_placed_order) in_one) m.placed_distinct
          (λ j h k. m.disjoint j (subst (λ l. Has l j) (left_placed_order ∙ parts.order_is) h) k))

      abbrev pub left_placed_joinable : AreJoinable mid side at node.right
      left_placed_joinable = left_joinable (parts.before ++ m.placed) mid p.keeps side (p.earlier ++ (m.placed ++ p.later)) p.high p.tree after_away left_placed_distinct p.at_most (omega (arith, p.at_least))

      first_there : (p.later ≡ []) ⊎ HasFirst lasts before p.later → HasFirst lasts before (p.later ++ at ∷ parts.after)
      first_there (inl e) = record {
        first = at;
        rest = parts.after;
        later_is = ap (λ l. l ++ at ∷ parts.after) e;
        lasts_on = on;
        is_after = stands;
      }
      first_there (inr h) = record {
        first = h.first;
        rest = h.rest ++ at ∷ parts.after;
        later_is = ap (λ l. l ++ at ∷ parts.after) h.later_is;
        lasts_on = h.lasts_on;
        is_after = h.is_after;
      }

      pub left_placed : (last : List TreeNode) (top : ℕ) → IsJoined mid last top ((p.earlier ++ (m.placed ++ p.later)) ++ at ∷ parts.after) p.high parts.right_high → IsPlaced lasts before nodes last given last_one top m.sound.order m.placed m.sound.high
      left_placed last top j = record {
        earlier = p.earlier;
        later = p.later ++ at ∷ parts.after;
        order_is = sym parts.order_is ∙ sym left_placed_order;
        high = j.high;
        tree = subst (λ l. IsTree last top l j.high) (sym left_placed_all) j.tree;
        keeps = KeepsOthers-trans (m.sound.order ++ m.placed) nodes mid last
            (KeepsOthers-wider (parts.before ++ m.placed) (m.sound.order ++ m.placed) nodes mid from_side p.keeps)
            (KeepsOthers-wider ((p.earlier ++ (m.placed ++ p.later)) ++ at ∷ parts.after) (m.sound.order ++ m.placed) mid last (λ i h. from_all i (subst (λ l. Has l i) (sym left_placed_all) h)) j.keeps);
        at_least = grown_at_least parts.left_high parts.right_high p.high m.sound.high j.high p.at_least p.at_most parts.left_near parts.right_near parts.height_is j.at_least_left j.at_least_right j.exact;
        at_most = grown_at_most parts.left_high parts.right_high p.high m.sound.high j.high p.at_most parts.height_is j.at_most;
        last_is = p.last_is;
        first_is = inr (first_there p.first_is);
      }
        where
          whole : (i : ℕ) → Has (parts.before ++ at ∷ parts.after) i → Has (m.sound.order ++ m.placed) i
          whole i h = Has-left m.sound.order m.placed i (subst (λ l. Has l i) parts.order_is h)

          from_side : (i : ℕ) → Has (parts.before ++ m.placed) i → Has (m.sound.order ++ m.placed) i
          from_side i h = elim (Has-parts parts.before m.placed i h) [ inl k ↦ whole i (Has-left parts.before (at ∷ parts.after) i k) | inr k ↦ Has-right m.sound.order m.placed i k ]

          from_all : (i : ℕ) → Has (p.earlier ++ (m.placed ++ (p.later ++ at ∷ parts.after))) i → Has (m.sound.order ++ m.placed) i
          from_all i h = elim (Has-parts p.earlier (m.placed ++ (p.later ++ at ∷ parts.after)) i h) [
            | inl k ↦ whole i (subst (λ l. Has l i) left_placed_order (Has-left p.earlier (p.later ++ at ∷ parts.after) i k))
            | inr k ↦ elim (Has-parts m.placed (p.later ++ at ∷ parts.after) i k) [
              | inl o ↦ Has-right m.sound.order m.placed i o
              | inr o ↦ whole i (subst (λ l. Has l i) left_placed_order (Has-right p.earlier (p.later ++ at ∷ parts.after) i o))
            ]
          ]

-- ---- the same at a node that is none

pub placed_nowhere : (lasts before : ℕ → Bool) (nodes : List TreeNode) (at new given : ℕ) → at ≡ none → (m : MayGoDown nodes at new) → IsPlaced lasts before nodes nodes given given new m.sound.order m.placed m.sound.high
placed_nowhere lasts before nodes at new given e =
    subst (λ a. (m : MayGoDown nodes a new) → IsPlaced lasts before nodes nodes given given new m.sound.order m.placed m.sound.high) (sym e) (nowhere_placed lasts before nodes new given)

pub down_within : (nodes : List TreeNode) (at new : ℕ) → MayGoDown nodes at new → at ≢ none → at < length nodes
down_within nodes at new m n = tree_within nodes at m.sound.order m.sound.high m.sound.tree n

node_height : (nodes : List TreeNode) (at : ℕ) (t : Tree) → Stands nodes t at → at ≢ none → (node_at nodes at).height ≡ height t
node_height nodes at leaf s n = absurd (n s)
node_height nodes at (fork l i r) s n = rw s.0 s.3

module _ (nodes : List TreeNode) (at new : ℕ) (m : MayGoDown nodes at new) (n : at ≢ none) (node : TreeNode) (read : node ≡ get_or nodes at node) where
  pub right_lower : (parts nodes at new m n node read).right_high < m.sound.high
  right_lower = omega (arith, (parts nodes at new m n node read).height_is)

  pub left_lower : (parts nodes at new m n node read).left_high < m.sound.high
  left_lower = omega (arith, (parts nodes at new m n node read).height_is)

  -- neither side is lower by three or more than the whole
  -- the node is the parent of its sides
  pub still_parent : IsParent nodes node.left at node.right
  still_parent =
      let is : node ≡ node_at nodes at = get_or_read nodes at node (parts nodes at new m n node read).at_within read (record { left = 0; right = 0; height = 0 }) in
      let l = tree_height nodes node.left _ _ (parts nodes at new m n node read).left in
      let r = tree_height nodes node.right _ _ (parts nodes at new m n node read).right in
      let high : (node_at nodes at).height ≡ m.sound.high = node_height nodes at m.sound.tree.tree m.sound.tree.stands n ∙ m.sound.tree.height_is in
      let same : (node_at nodes at).height ≡ 1 + max (subtree_height nodes node.left) (subtree_height nodes node.right) =
      high ∙ sym (parts nodes at new m n node read).height_is ∙ ap₂ (λ a b. 1 + max a b) (sym l) (sym r) in
      record {
        node_is = λ i. record { left = (sym is i).left; right = (sym is i).right; height = same i };
        left_near = omega (arith, l, r, (parts nodes at new m n node read).left_near);
        right_near = omega (arith, l, r, (parts nodes at new m n node read).right_near);
      }

  pub right_falls : subtree_height nodes node.right < subtree_height nodes at
  right_falls = omega (arith, right_lower, tree_height nodes node.right _ _ (parts nodes at new m n node read).right, tree_height nodes at _ _ m.sound.tree)

  pub left_falls : subtree_height nodes node.left < subtree_height nodes at
  left_falls = omega (arith, left_lower, tree_height nodes node.left _ _ (parts nodes at new m n node read).left, tree_height nodes at _ _ m.sound.tree)

pub either : {P : Type 0} (b : Bool) → (b ≡ true → P) → (b ≡ false → P) → P
either true f g = f refl
either false f g = g refl

-- what is below is as it was
pub kept_parent : (nodes mid : List TreeNode) (left at right side : ℕ) → IsParent nodes left at right → (mid ≡ nodes) × (side ≡ right) → IsParent mid left at side
kept_parent nodes mid left at right side p e = rw (e.0, e.1) p

pub kept_parent_left : (nodes mid : List TreeNode) (left at right side : ℕ) → IsParent nodes left at right → (mid ≡ nodes) × (side ≡ left) → IsParent mid side at right
kept_parent_left nodes mid left at right side p e = rw (e.0, e.1) p

pub told_same : (stopped : Bool) (new : ℕ) (b : Bool) → b ≡ (not stopped && (new == none)) → b ≡ true → (stopped ≡ false) × (new ≡ none)
told_same true new b e h = absurd (both_ways b e h)
told_same false new b e h = (refl, search (tests, sym e ∙ h))

pub is_told_same : (stopped : Bool) (new : ℕ) (b : Bool) → b ≡ (not stopped && (new == none)) → stopped ≡ false → new ≡ none → b ≡ true
is_told_same stopped new b e s n = e ∙ rw (s, n) refl
