-- A scan tree from one way down to the next, and from one call to the next.
use Rattle.std.proofs.Common.{◌≡◌, ap, refl, sym, subst, ◌∙◌, arith, inl, inr}
use Rattle.std.specs.Prelude.{ℕ, zero, suc, ◌+◌, ◌-◌, ◌*◌, ◌/◌, ◌^◌, ◌<◌, ◌≤◌, ℤ, ◌≤ℤ◌, int_le, Bool, true, ◌⊎◌, List, [], ◌∷◌, ◌++◌, length, All}
use Rattle.std.proofs.lemmas.Bool.{and_parts, both_ways, cases_lt}
use Rattle.overlay_base.specs.Segments.{WholeSegment}
use Rattle.overlay_sweep.specs.ChainWindings.{is_live}
use Rattle.overlay_upstream.specs.declared.build.tree_shape.TreeNode.{TreeNode}
use Rattle.overlay_sweep.specs.LiveRows.{Has, none, segment_at, lasts_past, is_live_at, IsFromBelow}
use Rattle.overlay_upstream.specs.TreeShapes.{Tree, leaf, fork, node_at, IsDistinct, Stands, IsTree, IsStopped, IsPlaced}
use Rattle.overlay_upstream.specs.ScanTrees.{IsScanTree, IsGrowing, IsGrown}
use Rattle.overlay_sweep.proofs.laws.live.LiveSums.{begins_later}
use Rattle.overlay_sweep.proofs.laws.list.Members.{Has-left, Has-right, Has-parts}
use Rattle.overlay_upstream.proofs.laws.tree.TreeHeights.{tree_holds, height_low}
use Rattle.overlay_upstream.proofs.laws.tree.TreeRemovals.{IsTree-kept, Stands-member, distinct_without}
use Rattle.overlay_upstream.proofs.laws.tree.TreeWays.{distinct_between}
use Rattle.overlay_upstream.proofs.laws.tree.ScanOrders.{from_below_without}
use Rattle.overlay_sweep.proofs.laws.list.RowOrders.{live_within}
use Rattle.overlay_sweep.proofs.laws.list.RowGrowth.{begun_by_index, begun_pushed, from_below_later, from_below_pushed, length_pushed, live_earlier, segment_at_pushed}

pub length_append : (xs ys : List ℕ) → length (xs ++ ys) ≡ length xs + length ys
length_append [] ys = omega arith
length_append (x ∷ xs) ys = let e = length_append xs ys in omega (arith, e)

length_without : (xs ys : List ℕ) (i : ℕ) → length (xs ++ i ∷ ys) ≡ suc (length (xs ++ ys))
length_without xs ys i = let e = length_append xs (i ∷ ys) in let f = length_append xs ys in omega (arith, e, f)

member_without : (xs ys : List ℕ) (i j : ℕ) → Has (xs ++ ys) j → Has (xs ++ i ∷ ys) j
member_without xs ys i j m = elim (Has-parts xs ys j m) [ inl n ↦ Has-left xs (i ∷ ys) j n | inr n ↦ Has-right xs (i ∷ ys) j (inr n) ]

member_other : (xs ys : List ℕ) (i j : ℕ) → Has (xs ++ i ∷ ys) j → (i ≡ j → ⊥) → Has (xs ++ ys) j
member_other xs ys i j m n = elim (Has-parts xs (i ∷ ys) j m) [ inl o ↦ Has-left xs ys j o | inr o ↦ elim o [ inl e ↦ absurd (n e) | inr q ↦ Has-right xs ys j q ] ]

live_lasts : (x : ℤ) (segments : List WholeSegment) (i : ℕ) → is_live_at x segments i ≡ true → lasts_past x segments i ≡ true
live_lasts x segments i l = (and_parts (int_le (segment_at segments i).pair.a.x x) _ l).1

-- ---- one that has ended is taken out

module _ (x : ℤ) (segments : List WholeSegment) (nodes : List TreeNode) (root new kept : ℕ) (m : IsGrowing x segments nodes root new kept) where
  module _ (after : List TreeNode) (top : ℕ) (s : IsStopped (lasts_past x segments) nodes after top m.down.sound.order m.down.sound.high) where
    pub some_kept : 1 ≤ kept
    some_kept = omega (arith, m.kept_is ∙ ap (λ l. length l) s.order_is ∙ length_without s.earlier s.later s.ended)

    pub stopped_member : (j : ℕ) → Has (s.earlier ++ s.later) j → Has m.down.sound.order j
    stopped_member j h = subst (λ l. Has l j) (sym s.order_is) (member_without s.earlier s.later s.ended j h)

    pub stopped_distinct : IsDistinct (s.earlier ++ s.later)
    stopped_distinct = distinct_without s.earlier s.later s.ended (subst (λ l. IsDistinct l) s.order_is m.down.sound.distinct)

    pub stopped_live : (i : ℕ) → is_live_at x segments i ≡ true → Has (s.earlier ++ s.later) i ⊎ Has m.down.placed i
    stopped_live i l = elim (m.has_live i l) [
      | inl h ↦ inl (member_other s.earlier s.later s.ended i (subst (λ l. Has l i) s.order_is h) (λ e. both_ways _ s.has_ended (subst (λ j. lasts_past x segments j ≡ true) (sym e) (live_lasts x segments i l))))
      | inr h ↦ inr h
    ]

    pub stopped_placed : IsTree after new m.down.placed m.down.placed_high
    stopped_placed = IsTree-kept m.down.sound.order nodes after new m.down.placed m.down.placed_high s.keeps (λ j h k. m.down.disjoint j k h) m.down.placed_tree

    pub stopped_kept : kept - 1 ≡ length (s.earlier ++ s.later)
    stopped_kept = omega (arith, m.kept_is ∙ ap (λ l. length l) s.order_is ∙ length_without s.earlier s.later s.ended)

    pub stopped_from_below : IsFromBelow x segments (s.earlier ++ s.later)
    stopped_from_below = from_below_without x segments s.earlier s.later s.ended (subst (λ l. IsFromBelow x segments l) s.order_is m.from_below)

    pub stopped_low : s.high < 2 ^ 63
    stopped_low = omega (arith, s.at_most, m.down.sound.low)

    abbrev pub stopped_growing : IsGrowing x segments after top new (kept - 1)
    stopped_growing = record {
      down = record {
        sound = record { order = s.earlier ++ s.later; high = s.high; tree = s.tree; distinct = stopped_distinct; low = stopped_low };
        placed = m.down.placed;
        placed_high = m.down.placed_high;
        placed_tree = stopped_placed;
        placed_low = m.down.placed_low;
        placed_distinct = m.down.placed_distinct;
        disjoint = λ j h. m.down.disjoint j (stopped_member j h);
      };
      kept_is = stopped_kept;
      same_length = s.keeps.same_length ∙ m.same_length;
      begun = m.begun;
      has_live = stopped_live;
      from_below = stopped_from_below;
    }

  -- ---- the way came to its place

  pub grown : (before : ℕ → Bool) (after : List TreeNode) (last top : ℕ) → IsPlaced (lasts_past x segments) before nodes after none last top m.down.sound.order m.down.placed m.down.sound.high → IsGrown x segments before m.down.placed after top kept last
  grown before after last top p = record {
    earlier = p.earlier;
    later = p.later;
    high = p.high;
    tree = p.tree;
    distinct = distinct_between p.earlier m.down.placed p.later (subst (λ l. IsDistinct l) p.order_is m.down.sound.distinct) m.down.placed_distinct (λ j h k. m.down.disjoint j (subst (λ l. Has l j) (sym p.order_is) h) k);
    kept_is = m.kept_is ∙ ap (λ l. length l) p.order_is;
    same_length = p.keeps.same_length ∙ m.same_length;
    has_live = λ i l. elim (m.has_live i l) [ inl h ↦ inl (subst (λ l. Has l i) p.order_is h) | inr h ↦ inr h ];
    known = λ i h.
        let k = Stands-member nodes m.down.sound.tree.tree root i m.down.sound.tree.stands (subst (λ l. Has l i) (sym (m.down.sound.tree.order_is ∙ p.order_is)) h) in
        (subst (λ n. i < n) m.same_length k.0, k.1);
    from_below = subst (λ l. IsFromBelow x segments l) p.order_is m.from_below;
    last_is = p.last_is;
    first_is = p.first_is;
  }

  -- ---- how many orders are compared

  pub high_within : (d was : ℕ) → kept ≤ was → ((h : ℕ) → 2 ^ (h / 2) ≤ was + 1 → h ≤ d) → m.down.sound.high ≤ d
  high_within d was h f = f m.down.sound.high (omega (arith, tree_holds nodes root m.down.sound.order m.down.sound.high m.down.sound.tree, m.kept_is, h))

-- the tree after some ways down, with the same still to be placed
pub record StillGrows (x : ℤ) (segments : List WholeSegment) (nodes : List TreeNode) (root new kept : ℕ) (placed : List ℕ) : Type 0 where
  pub now : IsGrowing x segments nodes root new kept
  pub placed_is : now.down.placed ≡ placed

pub still_begins : (x : ℤ) (segments : List WholeSegment) (nodes : List TreeNode) (root new kept : ℕ) (m : IsGrowing x segments nodes root new kept) → StillGrows x segments nodes root new kept m.down.placed
still_begins x segments nodes root new kept m = record { now = m; placed_is = refl }

pub still_grows : (x : ℤ) (segments : List WholeSegment) (nodes after : List TreeNode) (root new kept top : ℕ) (placed : List ℕ) (g : StillGrows x segments nodes root new kept placed) → IsStopped (lasts_past x segments) nodes after top g.now.down.sound.order g.now.down.sound.high → StillGrows x segments after top new (kept - 1) placed
still_grows x segments nodes after root new kept top placed g s = record { now = stopped_growing x segments nodes root new kept g.now after top s; placed_is = g.placed_is }

pub at_last : (x : ℤ) (segments : List WholeSegment) (before : ℕ → Bool) (nodes after : List TreeNode) (root new kept last top : ℕ) (placed : List ℕ) (g : StillGrows x segments nodes root new kept placed) →
    IsPlaced (lasts_past x segments) before nodes after none last top g.now.down.sound.order g.now.down.placed g.now.down.sound.high → IsGrown x segments before placed after top kept last
at_last x segments before nodes after root new kept last top placed g p = subst (λ l. IsGrown x segments before l after top kept last) g.placed_is (grown x segments nodes root new kept g.now before after last top p)

one_way_more : (n d : ℕ) → suc n * d ≡ n * d + d
one_way_more n d = omega arith

pub asked_more : (before after high d was kept : ℕ) → before ≤ (was - kept) * d → after ≤ before + high → high ≤ d → 1 ≤ kept → kept ≤ was → after ≤ (was - (kept - 1)) * d
asked_more before after high d was kept a b c e f =
    let step : was - (kept - 1) ≡ suc (was - kept) = omega (arith, e, f) in
    rw (step, one_way_more (was - kept) d) (omega (arith, a, b, c))

pub asked_last : (before after high d was kept : ℕ) → before ≤ (was - kept) * d → after ≤ before + high → high ≤ d → after ≤ suc (was - kept) * d
asked_last before after high d was kept a b c = rw (one_way_more (was - kept) d) (omega (arith, a, b, c))

-- ---- the tree at a later x

pub scan_later : (x y : ℤ) (segments : List WholeSegment) (nodes : List TreeNode) (root kept : ℕ) → x ≤ℤ y → IsScanTree x segments nodes root kept → IsScanTree y segments nodes root kept
scan_later x y segments nodes root kept h t = record {
  order = t.order;
  high = t.high;
  tree = t.tree;
  distinct = t.distinct;
  kept_is = t.kept_is;
  fits = t.fits;
  short = t.short;
  same_length = t.same_length;
  begun = begins_later x y segments h t.begun;
  has_live = λ i l. t.has_live i (live_earlier x y segments i h (begun_by_index x segments t.begun) l);
  from_below = from_below_later x y segments t.order (λ i l. live_earlier x y segments i h (begun_by_index x segments t.begun) l) t.from_below;
}

-- ---- the empty tree

pub scan_empty : (x : ℤ) (segments : List WholeSegment) (nodes : List TreeNode) (root kept : ℕ) → segments ≡ [] → nodes ≡ [] → root ≡ none → kept ≡ 0 → IsScanTree x segments nodes root kept
scan_empty x segments nodes root kept e f r k =
    subst (λ l. IsScanTree x l nodes root kept) (sym e)
    (record {
      order = [];
      high = 0;
      tree = record { tree = leaf; stands = r; balanced = tt; order_is = refl; height_is = refl };
      distinct = tt;
      kept_is = k;
      fits = omega arith;
      short = omega arith;
      same_length = ap (λ l. length l) f;
      begun = λ k d h. absurd (omega (arith, h));
      has_live = λ i l. absurd (let h = live_within x [] i l in omega (arith, h));
      from_below = tt;
    })

-- ---- a look that places nothing

pub scan_low : (x : ℤ) (segments : List WholeSegment) (nodes : List TreeNode) (root kept : ℕ) (t : IsScanTree x segments nodes root kept) → t.high < 2 ^ 63
scan_low x segments nodes root kept t = height_low t.high (length t.order) (tree_holds nodes root t.order t.high t.tree) (omega (arith, t.fits, t.short))

abbrev pub looking : (x : ℤ) (segments : List WholeSegment) (nodes : List TreeNode) (root kept : ℕ) → IsScanTree x segments nodes root kept → IsGrowing x segments nodes root none kept
looking x segments nodes root kept t = record {
  down = record {
    sound = record { order = t.order; high = t.high; tree = t.tree; distinct = t.distinct; low = scan_low x segments nodes root kept t };
    placed = [];
    placed_high = 0;
    placed_tree = record { tree = leaf; stands = refl; balanced = tt; order_is = refl; height_is = refl };
    placed_low = omega arith;
    placed_distinct = tt;
    disjoint = λ j h k. k;
  };
  kept_is = t.kept_is;
  same_length = t.same_length;
  begun = t.begun;
  has_live = λ i l. inl (t.has_live i l);
  from_below = t.from_below;
}

pub looked : (x : ℤ) (segments : List WholeSegment) (before : ℕ → Bool) (nodes : List TreeNode) (root kept last was : ℕ) → All (λ s. s.pair.a.x ≤ℤ x) segments → was ≤ length segments → length segments < 2 ^ 64 → kept ≤ was → IsGrown x segments before [] nodes root kept last → IsScanTree x segments nodes root kept
looked x segments before nodes root kept last was b f q k g = record {
  order = g.earlier ++ g.later;
  high = g.high;
  tree = g.tree;
  distinct = g.distinct;
  kept_is = g.kept_is;
  fits = omega (arith, f, k, g.kept_is);
  short = q;
  same_length = g.same_length;
  begun = b;
  has_live = λ i l. elim (g.has_live i l) [ inl h ↦ h | inr h ↦ absurd h ];
  from_below = g.from_below;
}

-- ---- a segment more, with a node of its own

node_at_pushed : (nodes : List TreeNode) (v : TreeNode) (i : ℕ) → i < length nodes → node_at (nodes ++ v ∷ []) i ≡ node_at nodes i
node_at_pushed [] v i h = absurd (omega (arith, h))
node_at_pushed (n ∷ nodes) v zero h = refl
node_at_pushed (n ∷ nodes) v (suc i) h = node_at_pushed nodes v i (omega (arith, h))

node_at_last : (nodes : List TreeNode) (v : TreeNode) → node_at (nodes ++ v ∷ []) (length nodes) ≡ v
node_at_last [] v = refl
node_at_last (n ∷ nodes) v = node_at_last nodes v

Stands-pushed : (nodes : List TreeNode) (v : TreeNode) (t : Tree) (at : ℕ) → Stands nodes t at → Stands (nodes ++ v ∷ []) t at
Stands-pushed nodes v leaf at s = s
Stands-pushed nodes v (fork l i r) at s =
    let same : node_at (nodes ++ v ∷ []) i ≡ node_at nodes i = node_at_pushed nodes v i s.1 in (
      s.0,
      rw (length_pushed nodes v) (omega (arith, s.1)),
      s.2,
      ap (λ (n : TreeNode). n.height) same ∙ s.3,
      subst (λ (n : TreeNode). Stands (nodes ++ v ∷ []) l n.left) (sym same) (Stands-pushed nodes v l _ s.4),
      subst (λ (n : TreeNode). Stands (nodes ++ v ∷ []) r n.right) (sym same) (Stands-pushed nodes v r _ s.5),
    )

module _ (x : ℤ) (segments : List WholeSegment) (nodes : List TreeNode) (root kept : ℕ) (t : IsScanTree x segments nodes root kept) (s : WholeSegment) (begins : s.pair.a.x ≤ℤ x) where
  abbrev pub lone : TreeNode
  lone = record { left = none; right = none; height = 1 }

  pub order_known : (i : ℕ) → Has t.order i → i < length segments
  order_known i h = let k = Stands-member nodes t.tree.tree root i t.tree.stands (subst (λ l. Has l i) (sym t.tree.order_is) h) in subst (λ n. i < n) t.same_length k.0

  pub live_pushed : (i : ℕ) → is_live_at x (segments ++ s ∷ []) i ≡ true → Has t.order i ⊎ Has (length segments ∷ []) i
  live_pushed i l = elim (cases_lt i (length segments)) [
    | inl h ↦ inl (t.has_live i (subst (λ (w : WholeSegment). is_live x w.pair ≡ true) (segment_at_pushed segments s i h) l))
    | inr h ↦ inr (inl (let k = live_within x (segments ++ s ∷ []) i l in let e = length_pushed segments s in omega (arith, h, k, e)))
  ]

  pub tree_pushed : IsTree (nodes ++ lone ∷ []) root t.order t.high
  tree_pushed = record { tree = t.tree.tree; stands = Stands-pushed nodes lone t.tree.tree root t.tree.stands; balanced = t.tree.balanced; order_is = t.tree.order_is; height_is = t.tree.height_is }

  pub lone_tree : length segments < none → IsTree (nodes ++ lone ∷ []) (length segments) (length segments ∷ []) 1
  lone_tree h =
      let is : node_at (nodes ++ lone ∷ []) (length segments) ≡ lone = subst (λ n. node_at (nodes ++ lone ∷ []) n ≡ lone) t.same_length (node_at_last nodes lone) in
      record {
        tree = fork leaf (length segments) leaf;
        stands = (refl, rw (length_pushed nodes lone) (omega (arith, t.same_length)), h, ap (λ (n : TreeNode). n.height) is, ap (λ (n : TreeNode). n.left) is, ap (λ (n : TreeNode). n.right) is);
        balanced = (tt, tt, omega arith, omega arith);
        order_is = refl;
        height_is = refl;
      }

  abbrev pub growing : length segments < none → IsGrowing x (segments ++ s ∷ []) (nodes ++ lone ∷ []) root (length segments) kept
  growing h = record {
    down = record {
      sound = record { order = t.order; high = t.high; tree = tree_pushed; distinct = t.distinct; low = scan_low x segments nodes root kept t };
      placed = length segments ∷ [];
      placed_high = 1;
      placed_tree = lone_tree h;
      placed_low = omega arith;
      placed_distinct = (λ m. m, tt);
      disjoint = λ j m n. elim n [ inl e ↦ (let k = order_known j m in omega (arith, e, k)) | inr none ↦ none ];
    };
    kept_is = t.kept_is;
    same_length = length_pushed nodes lone ∙ ap suc t.same_length ∙ sym (length_pushed segments s);
    begun = begun_pushed x segments s begins t.begun;
    has_live = live_pushed;
    from_below = from_below_pushed x segments s t.order order_known t.from_below;
  }

pub scan_depth : (x : ℤ) (segments : List WholeSegment) (nodes : List TreeNode) (root kept : ℕ) (t : IsScanTree x segments nodes root kept) (depth : ℕ) → depth ≡ t.high → 2 ^ (depth / 2) ≤ kept + 1
scan_depth x segments nodes root kept t depth e = rw (e, t.kept_is) (tree_holds nodes root t.order t.high t.tree)
