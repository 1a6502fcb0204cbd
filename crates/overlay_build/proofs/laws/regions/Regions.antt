-- A graph of the segments whose sides differ under a rule encloses the places at which the rule differs from outside.
use Rattle.std.proofs.Common.{◌≡◌, refl, sym, ap, subst, ◌∙◌, arith, ℕ}
use Rattle.std.specs.Prelude.{ℤ, pos, ◌+ℤ◌, ◌-ℤ◌, ◌<ℤ◌, ◌≤ℤ◌, ◌%◌, ◌==◌, IsTrue, Bool, true, false, ◌&&◌, List, filter, map, length}
use Rattle.std.specs.List.{list_all}
use Rattle.std.proofs.lemmas.Int.{ints}
use Rattle.std.proofs.lemmas.Bool.{and_parts}
use Rattle.std.proofs.lemmas.List.{length-map}
use Rattle.overlay_geometry.specs.Points.{Pair}
use Rattle.overlay_base.specs.Windings.{Winding, empty}
use Rattle.overlay_base.specs.Segments.{WholeSegment, is_map}
use Rattle.overlay_geometry.specs.Below.{width}
use Rattle.overlay_base.specs.Planar.{is_planar}
use Rattle.overlay_base.specs.Balance.{IsBalanced}
use Rattle.overlay_base.specs.declared.overlay_core.fill_rule.FillRule.{FillRule}
use Rattle.overlay_geometry.proofs.laws.lists.Lists.{Has, Has-filter_out, filter-map, list_all-from_Has}
use Rattle.overlay_base.specs.Places.{RationalPoint, runs_below, lies_below, winding_below}
use Rattle.overlay_sweep.specs.ColumnWindings.{spans_column, is_below_in_column, column_bottom, column_top, side_bottom, side_top}
use Rattle.overlay_sweep.specs.Fill.{is_inside, flag_value}
use Rattle.overlay_build.specs.Graph.{Filled, Link, graph_of}
use Rattle.overlay_build.specs.Values.{value_at, tells_apart}
use Rattle.overlay_build.specs.Boundary.{truth}
use Rattle.overlay_build.specs.Sides.{has_sides_apart, with_sides, overlay_graph}
use Rattle.overlay_sweep.proofs.laws.columns.WeightSums.{when, sum_of, sum_of-filter, sum_of-same}
use Rattle.overlay_sweep.proofs.laws.columns.ColumnLines.{column_weights, column_weights_are, filter_weights_are, spans_column_parts}
use Rattle.overlay_sweep.proofs.laws.columns.Parity.{odd_of, odd_of_is}
use Rattle.overlay_sweep.proofs.laws.columns.Chains.{is_pairwise, gain_along_chain}
use Rattle.overlay_sweep.proofs.laws.columns.Heights.{gap, is_below_is}
use Rattle.overlay_sweep.proofs.laws.columns.ColumnOrder.{low_parts, one_is_below, below_itself, is_below-trans}
use Rattle.overlay_sweep.proofs.laws.columns.AlongSegments.{is_same_along}
use Rattle.overlay_sweep.proofs.laws.columns.Members.{IsArranged, is_arranged}
use Rattle.overlay_sweep.proofs.laws.live.Sides.{sum_of-same_in, apart_in}
use Rattle.overlay_build.proofs.laws.sides.Vertices.{gain, gain_of, pairwise_in}
use Rattle.overlay_build.proofs.laws.sides.Parities.{tells, tells_sides_of, odd_of-filter, same_parity, parity_of_sum, parity_of_gain, parity_where}
use Rattle.overlay_build.specs.Regions.{encloses, EnclosesRegion}
use Rattle.overlay_build.specs.Laws.{GraphsEncloseRegions}
use Rattle.overlay_build.proofs.laws.graphs.GraphExact.{graphs_are_exact}
use Rattle.overlay_build.proofs.laws.regions.PlaceColumns.{IsInColumn, column_of, spans_alike, lower_in_column}
use Rattle.overlay_geometry.proofs.laws.integers.Tests.{lt-test, lt-tested}

-- ---- the lower part of a column

in_lower_part : (sp bl lo : Bool) (z : ℤ) → (sp ≡ true → bl ≡ true → lo ≡ true) → when (sp && bl) z ≡ when (sp && lo) (when bl z)
in_lower_part true true lo z h = rw (h refl refl) refl
in_lower_part true false true z h = refl
in_lower_part true false false z h = refl
in_lower_part false bl lo z h = refl

-- a test that holds of what is below a segment for which it holds
abbrev pub IsLower : List WholeSegment → ℤ → (Pair → Bool) → Type 0
IsLower xs x low =
    (u s : WholeSegment) → Has xs u → Has xs s → IsTrue (spans_column x u.pair) → IsTrue (spans_column x s.pair) → IsTrue (is_below_in_column x u.pair s.pair) → IsTrue (low s.pair) → IsTrue (low u.pair)

module _ (xs : List WholeSegment) (arranged : IsArranged xs) (balanced : IsBalanced xs) (x : ℤ) (low : Pair → Bool) (closed : IsLower xs x low) where
  abbrev is_there : WholeSegment → Bool
  is_there s = spans_column x s.pair && low s.pair

  abbrev below_there : WholeSegment → WholeSegment → Bool
  below_there t s = is_below_in_column x t.pair s.pair

  -- what is below a member is a member
  below_members : (w : WholeSegment → ℤ) (s : WholeSegment) → Has xs s → IsTrue (spans_column x s.pair) → IsTrue (low s.pair) →
      sum_of (λ u. when (spans_column x u.pair && is_below_in_column x u.pair s.pair) (w u)) xs ≡ sum_of (λ t. when (below_there t s) (w t)) (filter is_there xs)
  below_members w s m hs ls =
      sum_of-same_in (λ u. when (spans_column x u.pair && is_below_in_column x u.pair s.pair) (w u)) (λ u. when (is_there u) (when (below_there u s) (w u))) xs
      (λ u n. in_lower_part (spans_column x u.pair) (is_below_in_column x u.pair s.pair) (low u.pair) (w u) (λ h b. closed u s n m h hs b ls))
      ∙ sym (sum_of-filter is_there (λ t. when (below_there t s) (w t)) xs)

  there_in : (s : WholeSegment) → Has (filter is_there xs) s → Has xs s × IsTrue (spans_column x s.pair) × IsTrue (low s.pair)
  there_in s n = let k = Has-filter_out is_there xs s n in let parts = and_parts (spans_column x s.pair) (low s.pair) k.1 in (k.0, parts.0, parts.1)

  spans_there : (s : WholeSegment) → is_there s ≡ true → IsTrue (spans_column x s.pair)
  spans_there s h = (and_parts (spans_column x s.pair) (low s.pair) h).0

  pairwise_there : is_pairwise below_there (filter is_there xs) ≡ true
  pairwise_there = pairwise_in below_there is_there xs arranged.sorted
      (λ s t m n a b other. one_is_below x s.pair t.pair (spans_there s a) (spans_there t b) (apart_in xs arranged balanced s t m n) other)

  module _ (G : ℤ → ℤ → ℤ) where
    same_gain : (b c b' c' d e d' e' : ℤ) → b ≡ b' → c ≡ c' → d ≡ d' → e ≡ e' → G d e -ℤ G b c ≡ G d' e' -ℤ G b' c'
    same_gain b c b' c' d e d' e' p q r s = rw (p, q, r, s) refl

    column_gain : (s : WholeSegment) → Has xs s → IsTrue (spans_column x s.pair) →
        gain_of G xs s ≡ G (sum_of (λ u. when (spans_column x u.pair && is_below_in_column x u.pair s.pair) u.count.subj) xs +ℤ s.count.subj) (sum_of (λ u. when (spans_column x u.pair && is_below_in_column x u.pair s.pair) u.count.clip) xs +ℤ s.count.clip)
        -ℤ G (sum_of (λ u. when (spans_column x u.pair && is_below_in_column x u.pair s.pair) u.count.subj) xs) (sum_of (λ u. when (spans_column x u.pair && is_below_in_column x u.pair s.pair) u.count.clip) xs)
    unfolding column_top column_bottom
    column_gain s m h =
        let along = is_same_along xs s (arranged.free s m) balanced in
        rw (← along.below x h, ← along.above x h, column_weights_are (λ u. is_below_in_column x u s.pair) xs x) refl

    abbrev chain_gain : WholeSegment → ℤ
    chain_gain s = G ((pos 0 +ℤ sum_of (λ t. when (below_there t s) t.count.subj) (filter is_there xs)) +ℤ s.count.subj) ((pos 0 +ℤ sum_of (λ t. when (below_there t s) t.count.clip) (filter is_there xs)) +ℤ s.count.clip)
        -ℤ G (pos 0 +ℤ sum_of (λ t. when (below_there t s) t.count.subj) (filter is_there xs)) (pos 0 +ℤ sum_of (λ t. when (below_there t s) t.count.clip) (filter is_there xs))

    from_nothing : (u v : ℤ) → u ≡ v → u ≡ pos 0 +ℤ v
    from_nothing u v e = omega (arith, ints, e)

    gain_there : (s : WholeSegment) → Has (filter is_there xs) s → gain_of G xs s ≡ chain_gain s
    gain_there s n =
        let k = there_in s n in
        let u = from_nothing _ _ (below_members (λ t. t.count.subj) s k.0 k.1 k.2) in
        let v = from_nothing _ _ (below_members (λ t. t.count.clip) s k.0 k.1 k.2) in
        column_gain s k.0 k.1 ∙ same_gain _ _ _ _ _ _ _ _ u v (ap (λ (z : ℤ). z +ℤ s.count.subj) u) (ap (λ (z : ℤ). z +ℤ s.count.clip) v)

    -- the gains of the members add up to that from nothing to what is above them all
    pub sum_lower : sum_of (gain_of G xs) (filter is_there xs) ≡ gain G empty (column_weights low xs x)
    sum_lower =
        let there : list_all is_there (filter is_there xs) ≡ true = list_all-from_Has is_there (filter is_there xs) (λ s n. (Has-filter_out is_there xs s n).1) in
        let chain = gain_along_chain below_there is_there
        (λ s t u a b c h k. is_below-trans x s.pair t.pair u.pair (spans_there s a) (spans_there t b) (spans_there u c) h k)
        (λ s a. below_itself x s.pair) G (λ s. s.count.subj) (λ s. s.count.clip) (pos 0) (pos 0) (filter is_there xs) there pairwise_there in
        sum_of-same_in (gain_of G xs) chain_gain (filter is_there xs) gain_there ∙ chain
        ∙ same_gain _ _ _ _ _ _ _ _ refl refl
        (sym (from_nothing _ _ (ap (λ (w : Winding). w.subj) (column_weights_are low xs x) ∙ sym (sum_of-filter is_there (λ s. s.count.subj) xs))))
        (sym (from_nothing _ _ (ap (λ (w : Winding). w.clip) (column_weights_are low xs x) ∙ sym (sum_of-filter is_there (λ s. s.count.clip) xs))))

-- ---- what lies below a place

module _ (xs : List WholeSegment) (arranged : IsArranged xs) (balanced : IsBalanced xs) (p : RationalPoint) (x : ℤ) (at : IsInColumn p.x p.bottom x) where
  pub wide : (s : Pair) → IsTrue (spans_column x s) → pos 0 <ℤ width s
  wide s h = let k = spans_column_parts x s h in plain s.a.x s.b.x x k.0 k.1
    where
      plain : (a b x : ℤ) → a ≤ℤ x → x <ℤ b → pos 0 <ℤ (b -ℤ a)
      plain a b x l k = omega (arith, ints, l, k)

  below_is_lower : IsLower xs x (λ s. runs_below s p)
  below_is_lower u s m n hu hs below low =
      let parts = low_parts (gap x u.pair s.pair) (gap (x +ℤ pos 1) u.pair s.pair) (sym (is_below_is x u.pair s.pair) ∙ below) in
      lt-test _ _ (lower_in_column p x u.pair s.pair at (wide u.pair hu) (wide s.pair hs) parts.0 parts.1 (lt-tested _ _ low))

  pub same_weights : column_weights (λ s. runs_below s p) xs x ≡ winding_below xs p
  unfolding winding_below
  same_weights =
      column_weights_are (λ s. runs_below s p) xs x
      ∙ (λ i. record { subj = alike (λ s. s.count.subj) i; clip = alike (λ s. s.count.clip) i; mask = 0 })
      ∙ sym (filter_weights_are (λ s. lies_below s p) xs)
    where
      alike : (w : WholeSegment → ℤ) → sum_of (λ s. when (spans_column x s.pair && runs_below s.pair p) (w s)) xs ≡ sum_of (λ s. when (lies_below s.pair p) (w s)) xs
      alike w = sum_of-same (λ s. when (spans_column x s.pair && runs_below s.pair p) (w s)) (λ s. when (lies_below s.pair p) (w s)) xs (λ s. ap (λ (b : Bool). when (b && runs_below s.pair p) (w s)) (sym (spans_alike p x s.pair at)))

  -- the gains of the segments below p add up to that from nothing to the winding at p
  pub sum_below : (G : ℤ → ℤ → ℤ) → sum_of (λ s. when (lies_below s.pair p) (gain_of G xs s)) xs ≡ gain G empty (winding_below xs p)
  sum_below G =
      sum_of-same (λ s. when (lies_below s.pair p) (gain_of G xs s)) (λ s. when (spans_column x s.pair && runs_below s.pair p) (gain_of G xs s)) xs
      (λ s. ap (λ (b : Bool). when (b && runs_below s.pair p) (gain_of G xs s)) (spans_alike p x s.pair at))
      ∙ sym (sum_of-filter (λ s. spans_column x s.pair && runs_below s.pair p) (gain_of G xs) xs)
      ∙ sum_lower xs arranged balanced x (λ s. runs_below s p) below_is_lower G
      ∙ ap (λ (w : Winding). gain G empty w) same_weights

  -- so of the segments below p an odd number have sides that F separates exactly when it separates nothing from the winding at p
  pub odd_below : (F : ℤ → ℤ → Bool) → odd_of (λ s. tells_sides_of F xs s && lies_below s.pair p) xs ≡ tells F empty (winding_below xs p)
  odd_below F =
      let G : ℤ → ℤ → ℤ = λ b c. truth (F b c) in
      let sum = parity_of_sum (λ s. when (lies_below s.pair p) (gain_of G xs s)) (λ s. tells_sides_of F xs s && lies_below s.pair p) xs
      (λ s. parity_where (lies_below s.pair p) (tells_sides_of F xs s) (gain_of G xs s) (parity_of_gain (F (side_bottom xs s).subj (side_bottom xs s).clip) (F (side_top xs s).subj (side_top xs s).clip))) in
      let whole = parity_of_gain (F (pos 0) (pos 0)) (F (winding_below xs p).subj (winding_below xs p).clip) in
      same_parity (gain G empty (winding_below xs p)) _ _ (sum.0, sym (sum_below G) ∙ sum.1) whole

-- ---- graphs

-- how many links lie below p
links_below : (kept : List Filled) (p : RationalPoint) → length (filter (λ l. lies_below l.pair p) (graph_of kept).links) ≡ length (filter (λ f. lies_below f.pair p) kept)
unfolding graph_of
links_below kept p = ap length (filter-map (λ (l : Link). lies_below l.pair p) _ kept) ∙ length-map (filter (λ f. lies_below f.pair p) kept) _

sides_below : (rule : Bool → Bool → Bool) (fill_rule : FillRule) (segments xs : List WholeSegment) (p : RationalPoint) → length (filter (λ f. lies_below f.pair p) (map (λ s. with_sides fill_rule segments s) xs)) ≡ length (filter (λ s. lies_below s.pair p) xs)
unfolding with_sides
sides_below rule fill_rule segments xs p = ap length (filter-map (λ (f : Filled). lies_below f.pair p) (λ s. with_sides fill_rule segments s) xs) ∙ length-map (filter (λ s. lies_below s.pair p) xs) _

is_odd : (n : ℕ) (b : Bool) → n % 2 ≡ flag_value b 1 → (n % 2 == 1) ≡ b
is_odd n true e = rw e refl
is_odd n false e = rw e refl

-- the graph of the segments whose sides a rule separates
pub overlay_encloses : (rule : Bool → Bool → Bool) (fill_rule : FillRule) (segments : List WholeSegment) → IsTrue (is_map segments) → IsTrue (is_planar segments) → IsBalanced segments → EnclosesRegion rule fill_rule segments (overlay_graph rule fill_rule segments)
unfolding encloses overlay_graph has_sides_apart tells_apart value_at
overlay_encloses rule fill_rule segments mapped planar balanced p some =
    let column = column_of p.x p.bottom some in
    let F : ℤ → ℤ → Bool = λ b c. rule (is_inside fill_rule b) (is_inside fill_rule c) in
    let apart = filter (λ s. has_sides_apart rule fill_rule segments s) segments in
    ap (λ (n : ℕ). n % 2 == 1) (links_below (map (λ s. with_sides fill_rule segments s) apart) p ∙ sides_below rule fill_rule segments apart p)
    ∙ is_odd (length (filter (λ s. lies_below s.pair p) apart)) (odd_of (λ s. lies_below s.pair p) apart) (odd_of_is (λ s. lies_below s.pair p) apart)
    ∙ odd_of-filter (λ s. has_sides_apart rule fill_rule segments s) (λ s. lies_below s.pair p) segments
    ∙ odd_below segments (is_arranged segments mapped planar) balanced p column.0 column.1 F

-- a rule's graph
pub graphs_enclose_regions : GraphsEncloseRegions
graphs_enclose_regions fill_rule rule segments mapped polygons planar balanced =
    subst (EnclosesRegion rule fill_rule segments) (sym (graphs_are_exact fill_rule rule segments mapped polygons planar balanced))
    (overlay_encloses rule fill_rule segments mapped planar balanced)
