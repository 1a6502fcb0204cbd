-- What a search in a scan tree returns, and the tree after a segment is placed in it.
use Rattle.std.proofs.Common.{◌≡◌, ◌≢◌, ap, refl, sym, subst, ◌∙◌, arith, inl, inr}
use Rattle.std.specs.Prelude.{ℕ, suc, ◌+◌, ◌-◌, ◌*◌, ◌<◌, ◌≤◌, ◌^◌, ℤ, pos, ◌≤ℤ◌, ◌<ℤ◌, map, int_lt, Bool, true, not, List, [], ◌∷◌, ◌++◌, length, All}
use Rattle.std.specs.Ordering.{is_lt}
use Rattle.std.proofs.lemmas.Bool.{and_from}
use Rattle.std.proofs.lemmas.List.{length-map, map-append}
use Rattle.overlay_geometry.specs.Points.{Point, Pair, turn}
use Rattle.overlay_base.specs.Segments.{WholeSegment}
use Rattle.overlay_base.specs.Windings.{Winding}
use Rattle.overlay_geometry.specs.Below.{under_segment_order}
use Rattle.overlay_geometry.proofs.laws.lists.Lists as lists
use Rattle.overlay_sweep.specs.ChainWindings.{is_live}
use Rattle.overlay_sweep.specs.Live.{sum_below, AreFreeAt, HoldSameFrom}
use Rattle.overlay_upstream.specs.declared.build.tree_shape.TreeNode.{TreeNode}
use Rattle.overlay_sweep.specs.LiveRows.{Has, none, HasLast, segment_at, lasts_past, is_live_at}
use Rattle.overlay_upstream.specs.ScanTrees.{IsScanTree, IsGrown}
use Rattle.overlay_sweep.proofs.laws.live.LiveSums.{HoldSameFrom-push}
use Rattle.overlay_sweep.proofs.laws.list.Members.{Has-left, Has-right, Has-parts}
use Rattle.overlay_sweep.proofs.laws.list.RowOrders.{sum_of_none, sum_of_last, placed_from_below}
use Rattle.overlay_upstream.proofs.laws.tree.ScanGrowth.{length_append, StillGrows, growing}
use Rattle.overlay_sweep.proofs.laws.list.RowGrowth.{length_pushed, segment_at_last, free_pushed, begun_pushed, begun_member}
use Rattle.overlay_geometry.proofs.laws.integers.Tests.{le-test, lt-test}

module _ (x : ℤ) (segments : List WholeSegment) (before : ℕ → Bool) (nodes : List TreeNode) (root kept last : ℕ) (g : IsGrown x segments before [] nodes root kept last) where
  pub last_there : last ≢ none → HasLast (lasts_past x segments) before g.earlier last
  last_there n = elim g.last_is [ inl e ↦ absurd (n e.1) | inr h ↦ h ]

  pub last_within : last ≢ none → last < length segments
  last_within n = let h = last_there n in (g.known last (Has-left g.earlier g.later last (subst (λ z. Has z last) (sym h.earlier_is) (Has-right h.front (last ∷ []) last (inl refl))))).0

  nothing_before : last ≡ none → g.earlier ≡ []
  nothing_before e = elim g.last_is [
    | inl h ↦ h.0
    | inr h ↦ (let k = (g.known last (Has-left g.earlier g.later last (subst (λ z. Has z last) (sym h.earlier_is) (Has-right h.front (last ∷ []) last (inl refl))))).1 in absurd (omega (arith, k, e)))
  ]

  all_live : (i : ℕ) → is_live_at x segments i ≡ true → Has (g.earlier ++ g.later) i
  all_live i l = elim (g.has_live i l) [ inl h ↦ h | inr h ↦ absurd h ]

module _ (p : Point) (segments : List WholeSegment) (free : AreFreeAt p.x segments) (begun : All (λ s. s.pair.a.x ≤ℤ p.x) segments) (nodes : List TreeNode) (root kept last : ℕ)
    (g : IsGrown p.x segments (λ i. int_lt (pos 0) (turn (segment_at segments i).pair.a (segment_at segments i).pair.b p)) [] nodes root kept last) (default : Winding) where
  default_below : last ≡ none → default ≡ sum_below segments p default
  default_below e = sym (sum_of_none p segments free (begun_member p.x segments begun) g.earlier g.later (λ i h. (g.known i h).0) (all_live p.x segments _ nodes root kept last g) g.from_below g.first_is default (nothing_before p.x segments _ nodes root kept last g e))

  last_below : last ≢ none → (segment_at segments last).count ≡ sum_below segments p default
  last_below n = sym (sum_of_last p segments free (begun_member p.x segments begun) g.earlier g.later (λ i h. (g.known i h).0) (all_live p.x segments _ nodes root kept last g) g.from_below g.first_is default last (last_there p.x segments _ nodes root kept last g n))

pub default_answers : (p : Point) (x : ℤ) → p.x ≡ x → (segments : List WholeSegment) → AreFreeAt x segments → All (λ s. s.pair.a.x ≤ℤ x) segments → (nodes : List TreeNode) (root kept last : ℕ) →
    IsGrown x segments (λ i. int_lt (pos 0) (turn (segment_at segments i).pair.a (segment_at segments i).pair.b p)) [] nodes root kept last → (default : Winding) → last ≡ none → default ≡ sum_below segments p default
default_answers p x e segments free begun nodes root kept last g default =
    default_below p segments (subst (λ z. AreFreeAt z segments) (sym e) free) (subst (λ z. All (λ s. s.pair.a.x ≤ℤ z) segments) (sym e) begun) nodes root kept last
    (subst (λ z. IsGrown z segments (λ i. int_lt (pos 0) (turn (segment_at segments i).pair.a (segment_at segments i).pair.b p)) [] nodes root kept last) (sym e) g) default

pub last_answers : (p : Point) (x : ℤ) → p.x ≡ x → (segments : List WholeSegment) → AreFreeAt x segments → All (λ s. s.pair.a.x ≤ℤ x) segments → (nodes : List TreeNode) (root kept last : ℕ) →
    IsGrown x segments (λ i. int_lt (pos 0) (turn (segment_at segments i).pair.a (segment_at segments i).pair.b p)) [] nodes root kept last → (default : Winding) → last ≢ none → (segment_at segments last).count ≡ sum_below segments p default
last_answers p x e segments free begun nodes root kept last g default =
    last_below p segments (subst (λ z. AreFreeAt z segments) (sym e) free) (subst (λ z. All (λ s. s.pair.a.x ≤ℤ z) segments) (sym e) begun) nodes root kept last
    (subst (λ z. IsGrown z segments (λ i. int_lt (pos 0) (turn (segment_at segments i).pair.a (segment_at segments i).pair.b p)) [] nodes root kept last) (sym e) g) default

-- ---- a segment was placed

placed_after : (x : ℤ) (segments : List WholeSegment) (new : ℕ) (nodes : List TreeNode) (root kept last was : ℕ) → AreFreeAt x segments → All (λ s. s.pair.a.x ≤ℤ x) segments → is_live_at x segments new ≡ true → suc was ≤ length segments → length segments < 2 ^ 64 → kept ≤ was →
    IsGrown x segments (λ i. not (is_lt (under_segment_order (segment_at segments new).pair (segment_at segments i).pair))) (new ∷ []) nodes root kept last → IsScanTree x segments nodes root (kept + 1)
placed_after x segments new nodes root kept last was free begun live w q k g = record {
  order = g.earlier ++ new ∷ g.later;
  high = g.high;
  tree = g.tree;
  distinct = g.distinct;
  kept_is = long;
  fits = omega (arith, long, w, k);
  short = q;
  same_length = g.same_length;
  begun = begun;
  has_live = λ i l. elim (g.has_live i l) [
    | inl h ↦ elim (Has-parts g.earlier g.later i h) [ inl o ↦ Has-left g.earlier (new ∷ g.later) i o | inr o ↦ Has-right g.earlier (new ∷ g.later) i (inr o) ]
    | inr h ↦ elim h [ inl e ↦ Has-right g.earlier (new ∷ g.later) i (inl e) | inr none ↦ absurd none ]
  ];
  from_below = placed_from_below x segments free (begun_member x segments begun) g.earlier g.later (λ i h. (g.known i h).0) g.from_below new live none last g.last_is g.first_is;
}
  where
    long : kept + 1 ≡ length (g.earlier ++ new ∷ g.later)
    long = let a = length_append g.earlier (new ∷ g.later) in let b = length_append g.earlier g.later in omega (arith, g.kept_is, a, b)

-- the same, where the code knows the segment by itself
pub placed_scan : (x : ℤ) (segments : List WholeSegment) (new : ℕ) (s : Pair) → (segment_at segments new).pair ≡ s → (nodes : List TreeNode) (root kept last was : ℕ) → AreFreeAt x segments → All (λ s. s.pair.a.x ≤ℤ x) segments → is_live_at x segments new ≡ true → suc was ≤ length segments → length segments < 2 ^ 64 → kept ≤ was →
    IsGrown x segments (λ i. not (is_lt (under_segment_order s (segment_at segments i).pair))) (new ∷ []) nodes root kept last → IsScanTree x segments nodes root (kept + 1)
placed_scan x segments new s e nodes root kept last was free begun live w q k g =
    placed_after x segments new nodes root kept last was free begun live w q k (subst (λ r. IsGrown x segments (λ i. not (is_lt (under_segment_order r (segment_at segments i).pair))) (new ∷ []) nodes root kept last) (sym e) g)

-- ---- a segment that was pushed and is to be placed

module _ {E : Type 0} (f : E → WholeSegment) (x : ℤ) (old items : List E) (entry : E) (is : items ≡ old ++ entry ∷ []) (new : ℕ) (new_is : new ≡ length old) (new_some : new < none) (nodes : List TreeNode) (root kept : ℕ) (t : IsScanTree x (map f old) nodes root kept) where
  pushed_segments : map f items ≡ map f old ++ f entry ∷ []
  pushed_segments = ap (map f) is ∙ map-append f old (entry ∷ [])

  index_is : new ≡ length (map f old)
  index_is = new_is ∙ sym (length-map old f)

  pub pushed_grows : (f entry).pair.a.x ≤ℤ x → (after : List TreeNode) (top count : ℕ) → after ≡ nodes ++ record { left = none; right = none; height = 1 } ∷ [] → top ≡ root → count ≡ kept → StillGrows x (map f items) after top new count (new ∷ [])
  pushed_grows begins after top count e r k =
      rw (pushed_segments, e, r, k, index_is)
      (record { now = growing x (map f old) nodes root kept t (f entry) begins (subst (λ n. n < none) index_is new_some); placed_is = refl })

  pub pushed_at : segment_at (map f items) new ≡ f entry
  pushed_at = rw (pushed_segments, index_is) (segment_at_last (map f old) (f entry))

  pub pushed_free : AreFreeAt x (f entry ∷ map f old) → AreFreeAt x (map f items)
  pushed_free free = subst (λ l. AreFreeAt x l) (sym pushed_segments) (free_pushed x (map f old) (f entry) free)

  pub pushed_begun : (f entry).pair.a.x ≤ℤ x → All (λ s. s.pair.a.x ≤ℤ x) (map f items)
  pushed_begun begins = subst (λ l. All (λ s. s.pair.a.x ≤ℤ x) l) (sym pushed_segments) (begun_pushed x (map f old) (f entry) begins t.begun)

  pub pushed_live : (f entry).pair.a.x ≤ℤ x → x <ℤ (f entry).pair.b.x → is_live_at x (map f items) new ≡ true
  pushed_live begins ends = subst (λ (s : WholeSegment). is_live x s.pair ≡ true) (sym pushed_at) (and_from _ _ (le-test (f entry).pair.a.x x begins) (lt-test x (f entry).pair.b.x ends))

  pushed_length : length (map f items) ≡ suc (length (map f old))
  pushed_length = ap (λ l. length l) pushed_segments ∙ length_pushed (map f old) (f entry)

  pub pushed_room : suc kept ≤ length (map f items)
  pushed_room = omega (arith, pushed_length, t.kept_is, t.fits)

  pub pushed_short : length (map f items) < 2 ^ 64
  pushed_short = omega (arith, pushed_length, index_is, new_some)

  pub pushed_sums : HoldSameFrom x (map f items) (f entry ∷ map f old)
  pushed_sums = subst (λ l. HoldSameFrom x l (f entry ∷ map f old)) (sym pushed_segments) (HoldSameFrom-push x (f entry) (map f old))

pub asked_by_insert : (asked was kept d : ℕ) → kept ≤ was → asked ≤ suc (was - kept) * d → asked ≤ suc (suc was - (kept + 1)) * d
asked_by_insert asked was kept d k h = let e : suc was - (kept + 1) ≡ was - kept = omega (arith, k) in rw e h
