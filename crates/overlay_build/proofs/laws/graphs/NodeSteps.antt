-- The nodes at the ends of links, one after another: what is done when the ends up to a place have their nodes.
use Rattle.std.proofs.Common.{inl, inr, subst, Ordering, Equal, Greater, ◌≡◌, refl, sym, ap, ap₂, ◌&&◌, ◌∙◌, arith, ℕ, zero, zero-add, suc, ◌+◌, ◌<◌, ◌≤◌, ◌-◌, ◌==◌, Bool, true, false, ◌||◌, List, [], ◌∷◌, ◌++◌, map, filter, take, drop, length, length-append, get_or, if◌then◌else◌, Less}
use Rattle.std.specs.Prelude.{◌⊎◌, All, ℤ, nat_lt}
use Rattle.std.specs.List.{list_all, list_any, enumerate_from}
use Rattle.std.proofs.lemmas.List.{map-append, get_or_default, take_more, length-map, get_or-map}
use Rattle.std.proofs.lemmas.List.Sorted.{All-permutation, list_any-IsPermutation, ranks_by}
use Rattle.std.proofs.lemmas.Bool.{or_left, or_right, or_cases, both_ways, false_from_ne_true, eqb-true, lt-ltb}
use Rattle.std.proofs.lemmas.Bool.Decides.{nat_tests}
use Rattle.std.proofs.lemmas.List.Folds.{list_all-append, list_any_at, Any-from_list_any}
use Rattle.std.proofs.lemmas.Simd.{map-map}
use Rattle.overlay_geometry.specs.Points.{Point, Pair, point_cmp, pair_cmp, point_eq, point_lt, is_end}
use Rattle.overlay_geometry.specs.Sorting.{stably_sorted}
use Rattle.overlay_geometry.specs.PointOf.{point_of}
use Rattle.overlay_base.specs.declared.overlay_core.link.OverlayLink.{OverlayLink}
use Rattle.overlay_geometry.proofs.laws.lists.Keys.{IsStrictlySortedBy-from_test}
use Rattle.overlay_geometry.proofs.laws.geometry.Points.{point_cmp_total, pair_cmp_total, same_by_eq, point_eq_same}
use Rattle.overlay_geometry.proofs.laws.lists.Lists.{filter-map}
use Rattle.overlay_base.proofs.laws.lists.StableSorts.{stably_sorted-IsPermutation, stably_sorted-stable, stably_sorted_is_stable}
use Rattle.overlay_build.specs.steps.EndOf.{WholeEnd}
use Rattle.std.specs.List.Sorted.{IsStrictlySortedBy, ties}
use Rattle.std.proofs.lemmas.List.FromFn.{length-enumerate_from, get_or-enumerate_from}
use Rattle.overlay_geometry.specs.Sorting.{is_strictly_sorted}
use Rattle.overlay_build.specs.steps.LinksOf.{AreNumberedAt, IsNextPoint, IsRunAt, indexes_between}
use Rattle.std.specs.Ordering.{is_lt, ordering_reverse}
use Rattle.std.proofs.lemmas.List.Elements.{filter_agree}
use Rattle.overlay_build.proofs.laws.graphs.GraphBlocks.{tied_where_equal, IsBlockOf, filter-block}
use Rattle.overlay_build.specs.Graph.{node_points, node_number, links_at, indexes_where}
use Rattle.overlay_build.specs.GraphOf.{pairs_of_links, link_of, names_node, with_start, with_end}
use Rattle.overlay_build.specs.steps.LinkEnds.{numbered_starts, numbered_ends}
use Rattle.overlay_build.proofs.laws.graphs.Indexes.{indexes_where-exactly}
use Rattle.overlay_base.proofs.laws.geometry.Pairs.{has_point}
use Rattle.overlay_build.proofs.laws.graphs.GraphNodes.{has_start, has_end, sorted_at, sorted_ends, node_number-of, node_number-at, node_number-is, node_points-exactly}

-- the second ends of links in order of their points
abbrev pub sorted_ends_of : List Pair → List WholeEnd
sorted_ends_of links = stably_sorted (λ e f. point_cmp e.point f.point) (numbered_ends links)

-- the number of the node at an end
abbrev pub rank : List Pair → List WholeEnd → ℕ → WholeEnd → ℕ
rank links ends k d = node_number links (get_or ends k d).point

-- a link whose ends at the first m nodes have their numbers
abbrev pub numbered_to : {I D : Type 0} → (I → ℤ) → List Pair → ℕ → OverlayLink I D → OverlayLink I D
numbered_to whole links m l = record {
  a = record { id = if nat_lt (node_number links (point_of whole l.a.point)) m then node_number links (point_of whole l.a.point) else l.a.id; point = l.a.point };
  b = record { id = if nat_lt (node_number links (point_of whole l.b.point)) m then node_number links (point_of whole l.b.point) else l.b.id; point = l.b.point };
  fill = l.fill;
  edge_data = l.edge_data;
}

-- The ends before a place lie at the first m nodes, and those from there on at later ones.
pub record IsReached (links : List Pair) (ends : List WholeEnd) (place m : ℕ) : Type 0 where
  pub within : place ≤ length ends
  pub before : (k : ℕ) (d : WholeEnd) → k < place → rank links ends k d < m
  pub behind : (k : ℕ) (d : WholeEnd) → place ≤ k → k < length ends → m ≤ rank links ends k d

-- The first ends before one place and the second ends before another have their nodes, and the links there know them; the others lie at later nodes.
pub record IsConnectedUpTo {N I D : Type 0} (indexes : N → List ℕ) (is_canonical : N → Bool) (whole : I → ℤ) (given : List (OverlayLink I D)) (start end : ℕ) (nodes : List N) (links : List (OverlayLink I D)) : Type 0 where
  pub few : length nodes ≤ length (node_points (pairs_of_links whole given))
  pub made : map indexes nodes ≡ map (λ p. links_at (pairs_of_links whole given) p) (take (length nodes) (node_points (pairs_of_links whole given)))
  pub form : list_all is_canonical nodes ≡ true
  pub as_many : length links ≡ length given
  pub numbers : (k : ℕ) (d : OverlayLink I D) → k < length given → get_or links k d ≡ numbered_to whole (pairs_of_links whole given) (length nodes) (get_or given k d)
  pub firsts : IsReached (pairs_of_links whole given) (numbered_starts (pairs_of_links whole given)) start (length nodes)
  pub seconds : IsReached (pairs_of_links whole given) (sorted_ends_of (pairs_of_links whole given)) end (length nodes)

-- ---- numbers of nodes follow the order of points

-- of two ends the one that comes before the other has the lesser number
pub number_less : (links : List Pair) (p q : Point) → has_point (node_points links) p ≡ true → has_point (node_points links) q ≡ true → node_number links p < node_number links q → point_cmp p q ≡ Less
number_less links p q hp hq h =
    let np = node_number-of links p p hp in
    let nq = node_number-of links q p hq in
    ap₂ point_cmp (sym np.1) (sym nq.1) ∙ sorted_at (node_points links) (node_number links p) (node_number links q) p (sorted_ends links) h nq.0

-- and ends with one number lie at one point
pub same_number : (links : List Pair) (p q : Point) → has_point (node_points links) p ≡ true → has_point (node_points links) q ≡ true → node_number links p ≡ node_number links q → p ≡ q
same_number links p q hp hq e = sym (node_number-of links p p hp).1 ∙ ap (λ n. get_or (node_points links) n p) e ∙ (node_number-of links q p hq).1

-- ---- the ends in order

any_end : (n : ℕ) (links : List Pair) (q : Point) →
    (list_any (λ (e : WholeEnd). point_eq q e.point) (map (λ (e : ℕ × Pair). record { index = e.0; point = e.1.a }) (enumerate_from n links)) || list_any (λ (e : WholeEnd). point_eq q e.point) (map (λ (e : ℕ × Pair). record { index = e.0; point = e.1.b }) (enumerate_from n links)))
    ≡ list_any (λ l. is_end l q) links
any_end n [] q = refl
any_end n (l ∷ links) q = spread (point_eq q l.a) (point_eq q l.b) _ _ ∙ ap (λ b. is_end l q || b) (any_end (n + 1) links q)
  where
    spread : (a b x y : Bool) → ((a || x) || (b || y)) ≡ ((a || b) || (x || y))
    spread true b x y = refl
    spread false true true y = refl
    spread false true false y = refl
    spread false false x y = refl

-- a point is that of an end of one of the two lists where it is that of a node
pub ends_are_nodes : (links : List Pair) (q : Point) → (list_any (λ (e : WholeEnd). point_eq q e.point) (numbered_starts links) || list_any (λ (e : WholeEnd). point_eq q e.point) (sorted_ends_of links)) ≡ has_point (node_points links) q
ends_are_nodes links q =
    ap (λ b. list_any (λ (e : WholeEnd). point_eq q e.point) (numbered_starts links) || b)
    (sym (list_any-IsPermutation (λ (e : WholeEnd). point_eq q e.point) (numbered_ends links) (sorted_ends_of links) (stably_sorted-IsPermutation (λ e f. point_cmp e.point f.point) (numbered_ends links))))
    ∙ any_end 0 links q
    ∙ sym (node_points-exactly links q)

-- the first ends of links in strict order rise
start_at : (links : List Pair) (k : ℕ) (d : WholeEnd) (s : Pair) → k < length links → (get_or (numbered_starts links) k d).point ≡ (get_or links k s).a
start_at links k d s h =
    let listed : k < length (enumerate_from 0 links) = rw length-enumerate_from h in
    ap (λ (x : WholeEnd). x.point)
    (get_or-map (λ (e : ℕ × Pair). record { index = e.0; point = e.1.a }) (enumerate_from 0 links) k (0, s) d listed
    ∙ ap (λ (e : ℕ × Pair). record { index = e.0; point = e.1.a }) (get_or-enumerate_from 0 links k (0, s) h))

neighbors : (links : List Pair) (k : ℕ) (s : Pair) → IsStrictlySortedBy pair_cmp links → k + 1 < length links → pair_cmp (get_or links k s) (get_or links (k + 1) s) ≡ Less
unfolding IsStrictlySortedBy
neighbors [] k s sorted h = absurd (omega (arith, h))
neighbors (x ∷ []) k s sorted h = absurd (omega (arith, h))
neighbors (x ∷ y ∷ ys) zero s sorted h = sorted.0.0
neighbors (x ∷ y ∷ ys) (suc k) s sorted h = let e : suc k + 1 ≡ suc (k + 1) = omega arith in rw e (neighbors (y ∷ ys) k s sorted.1 (omega (arith, h)))

not_below : (s t : Pair) → pair_cmp s t ≡ Less → point_lt t.a s.a ≡ false
not_below s t h = by_order (point_cmp t.a s.a) refl
  where
    by_order : (o : Ordering) → point_cmp t.a s.a ≡ o → point_lt t.a s.a ≡ false
    by_order Less e = absurd (let back : point_cmp s.a t.a ≡ Greater = point_cmp_total.antisymm s.a t.a ∙ ap ordering_reverse e in let more : pair_cmp s t ≡ Greater = rw back refl in cc)
    by_order Equal e = rw e refl
    by_order Greater e = rw e refl

starts_rise : (links : List Pair) → IsStrictlySortedBy pair_cmp links → (k : ℕ) (d : WholeEnd) → k + 1 < length (numbered_starts links) → point_lt (get_or (numbered_starts links) (k + 1) d).point (get_or (numbered_starts links) k d).point ≡ false
starts_rise links sorted k d h =
    let s : Pair = record { a = d.point; b = d.point } in
    let as_many : length (numbered_starts links) ≡ length links = length-map (enumerate_from 0 links) _ ∙ length-enumerate_from 0 links in
    let within : k + 1 < length links = rw as_many at h in
    ap₂ point_lt (start_at links (k + 1) d s within) (start_at links k d s (omega (arith, within)))
    ∙ not_below (get_or links k s) (get_or links (k + 1) s) (neighbors links k s sorted within)

-- a list of ends of links in order of their points
pub record AreEndsOf (links : List Pair) (ends : List WholeEnd) : Type 0 where
  pub at_node : (k : ℕ) (d : WholeEnd) → k < length ends → has_point (node_points links) (get_or ends k d).point ≡ true
  pub rises : (k : ℕ) (d : WholeEnd) → k + 1 < length ends → point_lt (get_or ends (k + 1) d).point (get_or ends k d).point ≡ false

pub starts_are_ends : (links : List Pair) → is_strictly_sorted pair_cmp links ≡ true → AreEndsOf links (numbered_starts links)
starts_are_ends links sorted = record {
  at_node = λ k d h.
      let q : Point = (get_or (numbered_starts links) k d).point in
      sym (ends_are_nodes links q) ∙ or_left _ _ (list_any_at (λ (e : WholeEnd). point_eq q e.point) (numbered_starts links) k d h (point_eq_same q));
  rises = starts_rise links (IsStrictlySortedBy-from_test pair_cmp_total links sorted);
}

pub seconds_are_ends : (links : List Pair) → AreEndsOf links (sorted_ends_of links)
seconds_are_ends links = record {
  at_node = λ k d h.
      let q : Point = (get_or (sorted_ends_of links) k d).point in
      sym (ends_are_nodes links q) ∙ or_right _ _ (list_any_at (λ (e : WholeEnd). point_eq q e.point) (sorted_ends_of links) k d h (point_eq_same q));
  rises = λ k d h. (stably_sorted_is_stable (λ (e f : WholeEnd). point_cmp e.point f.point) (ranks_by point_cmp_total (λ (e : WholeEnd). e.point)) (numbered_ends links)).0 k d (omega arith) h;
}

-- at each node lies an end of one of the lists
pub node_has_end : (links : List Pair) (m : ℕ) (d : Point) → m < length (node_points links) →
    ((k : ℕ) × (k < length (numbered_starts links)) × ((e : WholeEnd) → rank links (numbered_starts links) k e ≡ m)) ⊎ ((k : ℕ) × (k < length (sorted_ends_of links)) × ((e : WholeEnd) → rank links (sorted_ends_of links) k e ≡ m))
node_has_end links m d h =
    let there : has_point (node_points links) (get_or (node_points links) m d) ≡ true = list_any_at (λ k. point_eq (get_or (node_points links) m d) k) (node_points links) m d h (point_eq_same (get_or (node_points links) m d)) in
    elim (or_cases _ _ (ends_are_nodes links (get_or (node_points links) m d) ∙ there)) [
      | inl own ↦ inl (of_list (numbered_starts links) own)
      | inr own ↦ inr (of_list (sorted_ends_of links) own)
    ]
  where
    of_list : (ends : List WholeEnd) → list_any (λ (e : WholeEnd). point_eq (get_or (node_points links) m d) e.point) ends ≡ true → (k : ℕ) × (k < length ends) × ((e : WholeEnd) → rank links ends k e ≡ m)
    of_list ends own =
        let found = Any-from_list_any (λ (e : WholeEnd). point_eq (get_or (node_points links) m d) e.point) ends own in
        (found.0, found.2, λ e. ap (node_number links) (ap (λ (x : WholeEnd). x.point) (get_or_default ends found.0 e found.1 found.2 ∙ found.3) ∙ sym (same_by_eq (get_or (node_points links) m d) found.1.point found.4)) ∙ node_number-at links m d h)

-- the ends at a point are those of the links that start there, then of those that end there, by rising index
pub starts_at_point : (links : List Pair) (p : Point) → map (λ (e : WholeEnd). e.index) (filter (λ e. point_eq e.point p) (numbered_starts links)) ≡ indexes_where (λ l. point_eq l.a p) links
unfolding indexes_where
starts_at_point links p =
    ap (map (λ (e : WholeEnd). e.index)) (filter-map (λ (e : WholeEnd). point_eq e.point p) (λ (e : ℕ × Pair). record { index = e.0; point = e.1.a }) (enumerate_from 0 links))
    ∙ map-map (λ (e : WholeEnd). e.index) (λ (e : ℕ × Pair). record { index = e.0; point = e.1.a }) (filter (λ e. point_eq e.1.a p) (enumerate_from 0 links))

pub seconds_at_point : (links : List Pair) (p : Point) → map (λ (e : WholeEnd). e.index) (filter (λ e. point_eq e.point p) (sorted_ends_of links)) ≡ indexes_where (λ l. point_eq l.b p) links
unfolding indexes_where
seconds_at_point links p =
    let mark : WholeEnd = record { index = 0; point = p } in
    let tied : WholeEnd → Bool = ties (λ x y. is_lt (point_cmp x.point y.point)) mark in
    let at_p : WholeEnd → Bool = λ e. point_eq e.point p in
    let same : (l : List WholeEnd) → filter at_p l ≡ filter tied l = filter_agree at_p tied (λ e. tied_where_equal e.point p) in
    let kept : filter at_p (sorted_ends_of links) ≡ filter at_p (numbered_ends links) = same (sorted_ends_of links) ∙ stably_sorted-stable (λ (e : WholeEnd). e.point) point_cmp point_cmp_total (numbered_ends links) mark ∙ sym (same (numbered_ends links)) in
    ap (map (λ (e : WholeEnd). e.index)) kept
    ∙ ap (map (λ (e : WholeEnd). e.index)) (filter-map (λ (e : WholeEnd). point_eq e.point p) (λ (e : ℕ × Pair). record { index = e.0; point = e.1.b }) (enumerate_from 0 links))
    ∙ map-map (λ (e : WholeEnd). e.index) (λ (e : ℕ × Pair). record { index = e.0; point = e.1.b }) (filter (λ e. point_eq e.1.b p) (enumerate_from 0 links))

-- one of two numbers is less, or not
pub by_less : {P : Type 0} (a b : ℕ) → (a < b → P) → (b ≤ a → P) → P
by_less zero zero f g = g (omega arith)
by_less zero (suc b) f g = f (omega arith)
by_less (suc a) zero f g = g (omega arith)
by_less (suc a) (suc b) f g = by_less a b (λ h. f (omega (arith, h))) (λ h. g (omega (arith, h)))

-- ---- the numbers of nodes along a list of ends

-- a point that is not below another has no lesser number
number_rises : (links : List Pair) (p q : Point) → has_point (node_points links) p ≡ true → has_point (node_points links) q ≡ true → point_lt q p ≡ false → node_number links p ≤ node_number links q
number_rises links p q hp hq h =
    by_less (node_number links q) (node_number links p)
    (λ less. absurd (both_ways _ h (ap is_lt (number_less links q p hq hp less))))
    (λ up. up)

module _ (links : List Pair) (ends : List WholeEnd) (are : AreEndsOf links ends) where
  -- the numbers of nodes rise along the ends
  rank_rises : (k : ℕ) (d : WholeEnd) → k + 1 < length ends → rank links ends k d ≤ rank links ends (k + 1) d
  rank_rises k d h = number_rises links (get_or ends k d).point (get_or ends (k + 1) d).point (are.at_node k d (omega (arith, h))) (are.at_node (k + 1) d h) (are.rises k d h)

  -- from any end to a later one
  pub rank_later : (j n : ℕ) (d : WholeEnd) → j + n < length ends → rank links ends j d ≤ rank links ends (j + n) d
  rank_later j zero d h = let same : j + 0 ≡ j = omega arith in rw same (omega arith)
  rank_later j (suc n) d h =
      let before = rank_later j n d (omega (arith, h)) in
      let step = rank_rises (j + n) d (omega (arith, h)) in
      let same : j + suc n ≡ (j + n) + 1 = omega arith in
      rw same (omega (arith, before, step))

  -- an end at node m is at the place or later, where the ends before it lie at the first m nodes; so what is at the place lies at node m or
  -- before
  pub front_rank : (place m k : ℕ) (d : WholeEnd) → IsReached links ends place m → k < length ends → ((e : WholeEnd) → rank links ends k e ≡ m) → (place < length ends) × (rank links ends place d ≤ m)
  front_rank place m k d reached h its =
      by_less k place
      (λ early. let low = reached.before k d early in let own = its d in absurd (omega (arith, low, own)))
      (λ late.
      let gap : place + (k - place) ≡ k = omega (arith, late) in
      let more = rw gap at (rank_later place (k - place) d (rw gap h)) in
      let own = its d in (omega (arith, late, h), omega (arith, more, own)))

  -- ---- a run of ends at the point of node m

  module _ (p : Point) (place next m : ℕ) (there : has_point (node_points links) p ≡ true) (number : node_number links p ≡ m) (reached : IsReached links ends place m) (run : IsRunAt ends p place next) where
    rank_in_run : (k : ℕ) (e : WholeEnd) → place ≤ k → k < next → rank links ends k e ≡ m
    rank_in_run k e h l = ap (node_number links) (run.same k e h l) ∙ number

    later_node : (k : ℕ) (e : WholeEnd) → next ≤ k → k < length ends → m + 1 ≤ rank links ends k e
    later_node k e h l =
        let order = run.order in
        let inside : next < length ends = omega (arith, h, l) in
        let least = reached.behind next e order inside in
        let gap : next + (k - next) ≡ k = omega (arith, h) in
        let more = rw gap at (rank_later next (k - next) e (rw gap l)) in
        by_less m (rank links ends next e)
        (λ up. omega (arith, up, more))
        (λ down. absurd (run.other e inside (same_number links _ p (are.at_node next e inside) there (let equal : rank links ends next e ≡ node_number links p = omega (arith, down, least, number) in equal))))

    -- the ends after the run lie at later nodes
    pub reached_next : IsReached links ends next (m + 1)
    reached_next = record {
      within = run.within;
      before = λ k e l. by_less k place (λ h. let low = reached.before k e h in omega (arith, low)) (λ h. let its = rank_in_run k e h l in omega (arith, its));
      behind = later_node;
    }

    -- the run is all that lies at its point
    is_block : IsBlockOf (λ x. point_eq x.point p) ends place (next - place)
    is_block = record {
      within = let order = run.order in let within = run.within in omega (arith, order, within);
      before = λ k d l. other_point k d (let place_in = reached.within in omega (arith, place_in, l)) (λ its. let low = reached.before k d l in omega (arith, low, its));
      inside = λ k d l. ap (λ q. point_eq q p) (run.same (place + k) d (omega arith) (let order = run.order in omega (arith, l, order))) ∙ point_eq_same p;
      behind = λ k d h l. other_point k d l (λ its. let up = later_node k d (let order = run.order in omega (arith, h, order)) l in omega (arith, up, its));
    }
      where
        other_point : (k : ℕ) (d : WholeEnd) → k < length ends → (rank links ends k d ≡ m → ⊥) → point_eq (get_or ends k d).point p ≡ false
        other_point k d l none = false_from_ne_true _ (λ t. none (ap (node_number links) (same_by_eq _ _ t) ∙ number))

    pub indexes_of_run : map (λ (x : WholeEnd). x.index) (take (next - place) (drop place ends)) ≡ map (λ (x : WholeEnd). x.index) (filter (λ x. point_eq x.point p) ends)
    indexes_of_run = ap (map (λ (x : WholeEnd). x.index)) (sym (filter-block (λ x. point_eq x.point p) ends place (next - place) is_block))

-- ---- the next node

module _ (links : List Pair) (sorted : is_strictly_sorted pair_cmp links ≡ true) (start end m : ℕ) (p : Point)
    (firsts : IsReached links (numbered_starts links) start m) (seconds : IsReached links (sorted_ends_of links) end m) (next : IsNextPoint (numbered_starts links) (sorted_ends_of links) start end p) where
  mark : WholeEnd
  mark = record { index = 0; point = p }

  starts : AreEndsOf links (numbered_starts links)
  starts = starts_are_ends links sorted

  ends : AreEndsOf links (sorted_ends_of links)
  ends = seconds_are_ends links

  -- it is a node's point
  pub next_is_node : has_point (node_points links) p ≡ true
  next_is_node = elim next.own [
    | inl own ↦ ap (has_point (node_points links)) (sym (own.1 mark)) ∙ starts.at_node start mark own.0
    | inr own ↦ ap (has_point (node_points links)) (sym (own.1 mark)) ∙ ends.at_node end mark own.0
  ]

  -- of a node from m on
  late : m ≤ node_number links p
  late = elim next.own [
    | inl own ↦ subst (λ q. m ≤ node_number links q) (own.1 mark) (firsts.behind start mark (omega arith) own.0)
    | inr own ↦ subst (λ q. m ≤ node_number links q) (own.1 mark) (seconds.behind end mark (omega arith) own.0)
  ]

  pub next_inside : m < length (node_points links)
  next_inside = let low = (node_number-of links p p next_is_node).0 in let up = late in omega (arith, low, up)

  -- so it is node m
  pub next_number : node_number links p ≡ m
  next_number = elim (node_has_end links m p next_inside) [
    | inl found ↦
        (let front = front_rank links (numbered_starts links) starts start m found.0 mark firsts found.1 found.2 in
        let up = number_rises links p (get_or (numbered_starts links) start mark).point next_is_node (starts.at_node start mark front.0) (next.first mark front.0) in
        let low = late in let high = front.1 in omega (arith, up, low, high))
    | inr found ↦
        (let front = front_rank links (sorted_ends_of links) ends end m found.0 mark seconds found.1 found.2 in
        let up = number_rises links p (get_or (sorted_ends_of links) end mark).point next_is_node (ends.at_node end mark front.0) (next.second mark front.0) in
        let low = late in let high = front.1 in omega (arith, up, low, high))
  ]

  pub node_of_next : (d : Point) → get_or (node_points links) m d ≡ p
  node_of_next d = ap (λ n. get_or (node_points links) n d) (sym next_number) ∙ (node_number-of links p d next_is_node).1

  -- one of the two runs has an end
  pub run_is_some : (next_start next_end : ℕ) → IsRunAt (numbered_starts links) p start next_start → IsRunAt (sorted_ends_of links) p end next_end → (start < next_start) ⊎ (end < next_end)
  run_is_some next_start next_end first second = elim next.own [
    | inl own ↦ inl (let order = first.order in by_less start next_start (λ h. h) (λ h. absurd (let same : next_start ≡ start = omega (arith, h, order) in first.other mark (rw same own.0) (rw same (own.1 mark)))))
    | inr own ↦ inr (let order = second.order in by_less end next_end (λ h. h) (λ h. absurd (let same : next_end ≡ end = omega (arith, h, order) in second.other mark (rw same own.0) (rw same (own.1 mark)))))
  ]

  -- the indexes of one run are those of the links that start at node m
  pub indexes_of_starts : (next_start : ℕ) → IsRunAt (numbered_starts links) p start next_start → indexes_between (numbered_starts links) start next_start ≡ indexes_where (λ l. point_eq l.a p) links
  indexes_of_starts next_start run = indexes_of_run links (numbered_starts links) starts p start next_start m next_is_node next_number firsts run ∙ starts_at_point links p

  -- and those of the other are those of the links that end there
  pub indexes_of_ends : (next_end : ℕ) → IsRunAt (sorted_ends_of links) p end next_end → indexes_between (sorted_ends_of links) end next_end ≡ indexes_where (λ l. point_eq l.b p) links
  indexes_of_ends next_end run = indexes_of_run links (sorted_ends_of links) ends p end next_end m next_is_node next_number seconds run ∙ seconds_at_point links p

-- each end has the index of a link
pub indexes_within : (links : List Pair) → All (λ (e : WholeEnd). e.index < length links) (sorted_ends_of links)
indexes_within links = All-permutation (λ (e : WholeEnd). e.index < length links) (numbered_ends links) (sorted_ends_of links) (stably_sorted-IsPermutation (λ e f. point_cmp e.point f.point) (numbered_ends links)) each
  where
    each : All (λ (e : WholeEnd). e.index < length links) (numbered_ends links)
    each k d h =
        let s : Pair = record { a = d.point; b = d.point } in
        let as_many : length (numbered_ends links) ≡ length links = length-map (enumerate_from 0 links) _ ∙ length-enumerate_from 0 links in
        let within : k < length links = rw as_many at h in
        let listed : k < length (enumerate_from 0 links) = rw length-enumerate_from within in
        let its : (get_or (numbered_ends links) k d).index ≡ k =
        ap (λ (e : WholeEnd). e.index)
        (get_or-map (λ (e : ℕ × Pair). record { index = e.0; point = e.1.b }) (enumerate_from 0 links) k (0, s) d listed
        ∙ ap (λ (e : ℕ × Pair). record { index = e.0; point = e.1.b }) (get_or-enumerate_from 0 links k (0, s) within)) ∙ zero-add k in
        rw its within

-- ---- the numbers of nodes in a link

lt_next : (n m : ℕ) → (n == m) ≡ false → nat_lt n (m + 1) ≡ nat_lt n m
lt_next n m e = grind (arith, nat_tests)

lt_own : (n m : ℕ) → (n == m) ≡ true → nat_lt n (m + 1) ≡ true
lt_own n m e = grind (arith, nat_tests)

-- a link with the number of a node at its first end, if that lies there, and at its second end, if that does
abbrev pub numbered_at : {I D : Type 0} → ℕ → Bool → Bool → OverlayLink I D → OverlayLink I D
numbered_at m starts ends l = if ends then with_end m (if starts then with_start m l else l) else (if starts then with_start m l else l)

-- one more node's number in a link
pub numbered_next : {I D : Type 0} (whole : I → ℤ) (links : List Pair) (m : ℕ) (d : Point) (l : OverlayLink I D) → m < length (node_points links) →
    has_point (node_points links) (point_of whole l.a.point) ≡ true → has_point (node_points links) (point_of whole l.b.point) ≡ true →
    numbered_to whole links (m + 1) l ≡ numbered_at m (point_eq (point_of whole l.a.point) (get_or (node_points links) m d)) (point_eq (point_of whole l.b.point) (get_or (node_points links) m d)) (numbered_to whole links m l)
numbered_next whole links m d l h ha hb =
    by (point_eq (point_of whole l.a.point) (get_or (node_points links) m d)) (point_eq (point_of whole l.b.point) (get_or (node_points links) m d))
    (node_number-is links (point_of whole l.a.point) d m ha h) (node_number-is links (point_of whole l.b.point) d m hb h)
  where
    by : (x y : Bool) → (node_number links (point_of whole l.a.point) == m) ≡ x → (node_number links (point_of whole l.b.point) == m) ≡ y →
        numbered_to whole links (m + 1) l ≡ numbered_at m x y (numbered_to whole links m l)
    by true true e f =
        let a_own = lt_own (node_number links (point_of whole l.a.point)) m e in
        let b_own = lt_own (node_number links (point_of whole l.b.point)) m f in
        let a_number : node_number links (point_of whole l.a.point) ≡ m = eqb-true _ m e in
        let b_number : node_number links (point_of whole l.b.point) ≡ m = eqb-true _ m f in
        ap₂ (λ (a b : ℕ). record { a = record { id = a; point = l.a.point }; b = record { id = b; point = l.b.point }; fill = l.fill; edge_data = l.edge_data })
        (rw a_own a_number) (rw b_own b_number)
    by true false e f =
        let own = lt_own (node_number links (point_of whole l.a.point)) m e in
        let not_own = lt_next (node_number links (point_of whole l.b.point)) m f in
        let number : node_number links (point_of whole l.a.point) ≡ m = eqb-true _ m e in
        rw (own, not_own, number) refl
    by false true e f =
        let own = lt_own (node_number links (point_of whole l.b.point)) m f in
        let not_own = lt_next (node_number links (point_of whole l.a.point)) m e in
        let number : node_number links (point_of whole l.b.point) ≡ m = eqb-true _ m f in
        rw (own, not_own, number) refl
    by false false e f =
        let a_not = lt_next (node_number links (point_of whole l.a.point)) m e in
        let b_not = lt_next (node_number links (point_of whole l.b.point)) m f in
        rw (a_not, b_not) refl

-- ---- before the first node

reached_none : (links : List Pair) (ends : List WholeEnd) → IsReached links ends 0 0
reached_none links ends = record { within = omega arith; before = λ k d l. absurd (omega (arith, l)); behind = λ k d h l. omega arith }

none_below : (n : ℕ) → nat_lt n 0 ≡ false
none_below n = grind (arith, nat_tests)

pub connected_none : {N I D : Type 0} (indexes : N → List ℕ) (is_canonical : N → Bool) (whole : I → ℤ) (given : List (OverlayLink I D)) → IsConnectedUpTo indexes is_canonical whole given 0 0 [] given
connected_none {I = I} {D = D} indexes is_canonical whole given = record {
  few = omega arith;
  made = refl;
  form = refl;
  as_many = refl;
  numbers = λ k d h.
      let l : OverlayLink I D = get_or given k d in
      let a = none_below (node_number (pairs_of_links whole given) (point_of whole l.a.point)) in
      let b = none_below (node_number (pairs_of_links whole given) (point_of whole l.b.point)) in
      rw (a, b) refl;
  firsts = reached_none (pairs_of_links whole given) (numbered_starts (pairs_of_links whole given));
  seconds = reached_none (pairs_of_links whole given) (sorted_ends_of (pairs_of_links whole given));
}

-- ---- one node more

module _ {N I D : Type 0} (indexes : N → List ℕ) (is_canonical : N → Bool) (whole : I → ℤ) (given : List (OverlayLink I D))
    (sorted : is_strictly_sorted pair_cmp (pairs_of_links whole given) ≡ true)
    (start end next_start next_end : ℕ) (nodes : List N) (links with_starts more : List (OverlayLink I D)) (node : N) (firsts seconds : List ℕ) (p : Point)
    (up : IsConnectedUpTo indexes is_canonical whole given start end nodes links)
    (next : IsNextPoint (numbered_starts (pairs_of_links whole given)) (sorted_ends_of (pairs_of_links whole given)) start end p)
    (first : IsRunAt (numbered_starts (pairs_of_links whole given)) p start next_start)
    (second : IsRunAt (sorted_ends_of (pairs_of_links whole given)) p end next_end)
    (its : indexes node ≡ links_at (pairs_of_links whole given) p)
    (of_starts : firsts ≡ indexes_where (λ l. point_eq l.a p) (pairs_of_links whole given)) (of_ends : seconds ≡ indexes_where (λ l. point_eq l.b p) (pairs_of_links whole given))
    (canonical : is_canonical node ≡ true) (many_starts : length with_starts ≡ length links) (as_many : length more ≡ length with_starts)
    (numbers_starts : AreNumberedAt (with_start (length nodes)) firsts links with_starts) (numbers_ends : AreNumberedAt (with_end (length nodes)) seconds with_starts more) where
  inside : length nodes < length (node_points (pairs_of_links whole given))
  inside = next_inside (pairs_of_links whole given) sorted start end (length nodes) p up.firsts up.seconds next

  at_node : (d : Point) → get_or (node_points (pairs_of_links whole given)) (length nodes) d ≡ p
  at_node = node_of_next (pairs_of_links whole given) sorted start end (length nodes) p up.firsts up.seconds next

  longer : length (nodes ++ node ∷ []) ≡ length nodes + 1
  longer = length-append nodes (node ∷ [])

  made_next : map indexes (nodes ++ node ∷ []) ≡ map (λ p. links_at (pairs_of_links whole given) p) (take (length nodes + 1) (node_points (pairs_of_links whole given)))
  made_next =
      map-append indexes nodes (node ∷ [])
      ∙ ap₂ (λ a b. a ++ b ∷ []) up.made (its ∙ ap (links_at (pairs_of_links whole given)) (sym (at_node p)))
      ∙ sym (ap (map (λ p. links_at (pairs_of_links whole given) p)) (take_more (node_points (pairs_of_links whole given)) (length nodes) p inside) ∙ map-append (λ p. links_at (pairs_of_links whole given) p) (take (length nodes) (node_points (pairs_of_links whole given))) (get_or (node_points (pairs_of_links whole given)) (length nodes) p ∷ []))

  -- whether a link is among those that start or end at the node's point
  named : (side : Pair → Point) (indexes : List ℕ) → indexes ≡ indexes_where (λ l. point_eq (side l) p) (pairs_of_links whole given) → (k : ℕ) (d : OverlayLink I D) → k < length given →
      names_node k indexes ≡ point_eq (side (link_of whole (get_or given k d)).pair) p
  named side indexes its k d h =
      let pairs : List Pair = pairs_of_links whole given in
      let f : OverlayLink I D → Pair = λ l. (link_of whole l).pair in
      ap (names_node k) its
      ∙ indexes_where-exactly (λ l. point_eq (side l) p) k (f d) pairs
      ∙ ap (λ c. c && point_eq (side (get_or pairs k (f d))) p) (lt-ltb k (length pairs) (rw (length-map given f) h))
      ∙ ap (λ (s : Pair). point_eq (side s) p) (get_or-map f given k d (f d) h)

  numbers_next : (k : ℕ) (d : OverlayLink I D) → k < length given → get_or more k d ≡ numbered_to whole (pairs_of_links whole given) (length nodes + 1) (get_or given k d)
  numbers_next k d h =
      let pairs : List Pair = pairs_of_links whole given in
      let m : ℕ = length nodes in
      let l : OverlayLink I D = get_or given k d in
      let f : OverlayLink I D → Pair = λ l. (link_of whole l).pair in
      let h' : k < length pairs = rw (length-map given f) h in
      let pair_at : get_or pairs k (f d) ≡ f l = get_or-map f given k d (f d) h in
      let ha : has_point (node_points pairs) (point_of whole l.a.point) ≡ true = ap (λ (s : Pair). has_point (node_points pairs) s.a) (sym pair_at) ∙ has_start pairs k (f d) h' in
      let hb : has_point (node_points pairs) (point_of whole l.b.point) ≡ true = ap (λ (s : Pair). has_point (node_points pairs) s.b) (sym pair_at) ∙ has_end pairs k (f d) h' in
      let before : k < length links = rw up.as_many h in
      numbers_ends k d (rw many_starts before)
      ∙ ap (λ (x : OverlayLink I D). if names_node k seconds then with_end m x else x) (numbers_starts k d before)
      ∙ ap (numbered_at m (names_node k firsts) (names_node k seconds)) (up.numbers k d h)
      ∙ ap₂ (λ (s t : Bool). numbered_at m s t (numbered_to whole pairs m l)) (named (λ s. s.a) firsts of_starts k d h) (named (λ s. s.b) seconds of_ends k d h)
      ∙ ap (λ q. numbered_at m (point_eq (point_of whole l.a.point) q) (point_eq (point_of whole l.b.point) q) (numbered_to whole pairs m l)) (sym (at_node p))
      ∙ sym (numbered_next whole pairs m p l inside ha hb)

  pub connected_next : IsConnectedUpTo indexes is_canonical whole given next_start next_end (nodes ++ node ∷ []) more
  connected_next =
      let pairs : List Pair = pairs_of_links whole given in
      let there = next_is_node pairs sorted start end (length nodes) p up.firsts up.seconds next in
      let number = next_number pairs sorted start end (length nodes) p up.firsts up.seconds next in
      record {
        few = rw longer (omega (arith, inside));
        made = rw longer made_next;
        form = list_all-append is_canonical nodes (node ∷ []) ∙ ap₂ (λ a b. a && (b && true)) up.form canonical;
        as_many = as_many ∙ many_starts ∙ up.as_many;
        numbers = rw longer numbers_next;
        firsts = rw longer (reached_next pairs (numbered_starts pairs) (starts_are_ends pairs sorted) p start next_start (length nodes) there number up.firsts first);
        seconds = rw longer (reached_next pairs (sorted_ends_of pairs) (seconds_are_ends pairs) p end next_end (length nodes) there number up.seconds second);
      }
