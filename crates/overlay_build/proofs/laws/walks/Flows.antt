-- Where the links of a graph are balanced in their directions, as many of them start as end at every node.
use Rattle.std.proofs.Common.{◌≡◌, ℕ, ◌+◌, ◌<◌, ◌≤◌, ◌==◌, ◌⊎◌, inl, inr, Bool, true, false, List, [], ◌∷◌, map, filter, length, get_or, refl, sym, ap, ◌∙◌, arith, if◌then◌else◌}
use Rattle.std.specs.Prelude.{ℤ, pos, negsuc, ◌+ℤ◌, ◌-ℤ◌}
use Rattle.std.specs.List.{list_all}
use Rattle.std.proofs.lemmas.Int.{ints}
use Rattle.std.proofs.lemmas.Bool.{and_parts, ne_eqb, cases_lt}
use Rattle.std.proofs.lemmas.List.Folds.{list_all-map}
use Rattle.std.proofs.lemmas.List.Sums.{list_all-from_AllPass}
use Rattle.std.proofs.lemmas.Simd.{map-map}
use Rattle.overlay_geometry.specs.Points.{Point, Pair, point_eq}
use Rattle.overlay_base.specs.Windings.{Winding}
use Rattle.overlay_base.specs.Segments.{WholeSegment}
use Rattle.overlay_base.specs.Balance.{balance, IsBalanced}
use Rattle.overlay_base.specs.Rules.{top_value}
use Rattle.overlay_base.proofs.laws.geometry.Pairs.{has_point}
use Rattle.overlay_sweep.specs.Fill.{flag_value}
use Rattle.overlay_sweep.proofs.laws.columns.WeightSums.{when}
use Rattle.overlay_sweep.proofs.laws.columns.BalancedSums.{flow, balance_is}
use Rattle.overlay_build.specs.Graph.{Filled, Link, node_points, node_number, graph_of, graph_by}
use Rattle.overlay_build.specs.Boundary.{of_subject, direction, directed_links}
use Rattle.overlay_build.specs.DirectedWalks.{turned, in_direction, arcs, IsFlow}
use Rattle.overlay_build.specs.Laws.{GraphsFlow}
use Rattle.overlay_build.proofs.laws.graphs.GraphNodes.{has_start, has_end, node_number-of, node_number-is}
use Rattle.overlay_build.proofs.laws.graphs.GraphLaws.{pairs_of, link_of}
use Rattle.overlay_build.proofs.laws.regions.Boundaries.{graphs_bound_regions}

-- ---- one link more

count_more : (end : Link → ℕ) (l : Link) (ls : List Link) (u : ℕ) → length (filter (λ l. end l == u) (l ∷ ls)) ≡ flag_value (end l == u) 1 + length (filter (λ l. end l == u) ls)
count_more end l ls u = by (end l == u) refl
  where
    by : (b : Bool) → (end l == u) ≡ b → length (filter (λ l. end l == u) (l ∷ ls)) ≡ flag_value (end l == u) 1 + length (filter (λ l. end l == u) ls)
    by true e = rw e (omega arith)
    by false e = rw e (omega arith)

start_eq : (t : Bool) (l : Link) (u : ℕ) → ((if t then l else turned l).a_node == u) ≡ (if t then (l.a_node == u) else (l.b_node == u))
start_eq true l u = refl
start_eq false l u = refl

end_eq : (t : Bool) (l : Link) (u : ℕ) → ((if t then l else turned l).b_node == u) ≡ (if t then (l.b_node == u) else (l.a_node == u))
end_eq true l u = refl
end_eq false l u = refl

abbrev way : Bool → ℤ
way t = if t then pos 1 else negsuc 0

gains : (t p q : Bool) (m n : ℕ) (z : ℤ) → pos m ≡ pos n +ℤ z → pos (flag_value (if t then p else q) 1 + m) ≡ pos (flag_value (if t then q else p) 1 + n) +ℤ ((when p (way t) -ℤ when q (way t)) +ℤ z)
gains true true true m n z h = omega (arith, ints, h)
gains true true false m n z h = omega (arith, ints, h)
gains true false true m n z h = omega (arith, ints, h)
gains true false false m n z h = omega (arith, ints, h)
gains false true true m n z h = omega (arith, ints, h)
gains false true false m n z h = omega (arith, ints, h)
gains false false true m n z h = omega (arith, ints, h)
gains false false false m n z h = omega (arith, ints, h)

same_numbers : (m n : ℕ) (z : ℤ) → pos m ≡ pos n +ℤ z → z ≡ pos 0 → m ≡ n
same_numbers m n z h e = omega (arith, ints, h, e)

nothing_flows : (w : WholeSegment → ℤ) (xs : List WholeSegment) → flow w (λ q. false) xs ≡ pos 0
nothing_flows w [] = refl
nothing_flows w (s ∷ ss) = omega (arith, ints, nothing_flows w ss)

-- ---- the links of a graph

module _ (rule : Bool → Bool → Bool) (kept : List Filled) where
  abbrev pub run : Filled → WholeSegment
  run f = record { pair = f.pair; count = of_subject (direction rule f.fill) }

  abbrev pub ways : List Filled → List Link
  ways fs = arcs rule (map (λ f. link_of kept f) fs)

  -- a test of points for those with this number
  abbrev pub TellsNumber : ℕ → (Point → Bool) → Type 0
  TellsNumber u test = (q : Point) → has_point (node_points (pairs_of kept)) q ≡ true → (node_number (pairs_of kept) q == u) ≡ test q

  pub counted : (u : ℕ) (test : Point → Bool) → TellsNumber u test → (fs : List Filled) → list_all (λ f. has_point (node_points (pairs_of kept)) f.pair.a) fs ≡ true → list_all (λ f. has_point (node_points (pairs_of kept)) f.pair.b) fs ≡ true
      → pos (length (filter (λ l. l.a_node == u) (ways fs))) ≡ pos (length (filter (λ l. l.b_node == u) (ways fs))) +ℤ flow (λ s. s.count.subj) test (map run fs)
  unfolding direction
  counted u test tells [] ma mb = refl
  counted u test tells (f ∷ fs) ma mb =
      let pa = and_parts (has_point (node_points (pairs_of kept)) f.pair.a) (list_all (λ f. has_point (node_points (pairs_of kept)) f.pair.a) fs) ma in
      let pb = and_parts (has_point (node_points (pairs_of kept)) f.pair.b) (list_all (λ f. has_point (node_points (pairs_of kept)) f.pair.b) fs) mb in
      let l : Link = link_of kept f in
      let t : Bool = top_value rule f.fill in
      let m : ℕ = length (filter (λ l. l.a_node == u) (ways fs)) in
      let n : ℕ = length (filter (λ l. l.b_node == u) (ways fs)) in
      let z : ℤ = flow (λ s. s.count.subj) test (map run fs) in
      let step = gains t (l.a_node == u) (l.b_node == u) m n z (counted u test tells fs pa.1 pb.1) in
      ap (λ (k : ℕ). pos k) (count_more (λ l. l.a_node) (in_direction rule l) (ways fs) u ∙ ap (λ b. flag_value b 1 + m) (start_eq t l u))
      ∙ step
      ∙ ap (λ (k : ℕ). pos k +ℤ ((when (l.a_node == u) (way t) -ℤ when (l.b_node == u) (way t)) +ℤ z)) (sym (count_more (λ l. l.b_node) (in_direction rule l) (ways fs) u ∙ ap (λ b. flag_value b 1 + n) (end_eq t l u)))
      ∙ ap (λ (b : Bool). pos (length (filter (λ l. l.b_node == u) (ways (f ∷ fs)))) +ℤ ((when b (way t) -ℤ when (l.b_node == u) (way t)) +ℤ z)) (tells f.pair.a pa.0)
      ∙ ap (λ (b : Bool). pos (length (filter (λ l. l.b_node == u) (ways (f ∷ fs)))) +ℤ ((when (test f.pair.a) (way t) -ℤ when b (way t)) +ℤ z)) (tells f.pair.b pb.0)

  pub starts_stand : list_all (λ f. has_point (node_points (pairs_of kept)) f.pair.a) kept ≡ true
  starts_stand =
      sym (list_all-map (λ (q : Pair). has_point (node_points (pairs_of kept)) q.a) (λ (f : Filled). f.pair) kept)
      ∙ list_all-from_AllPass (λ q. has_point (node_points (pairs_of kept)) q.a) (pairs_of kept) (λ k d h. has_start (pairs_of kept) k d h)

  pub ends_stand : list_all (λ f. has_point (node_points (pairs_of kept)) f.pair.b) kept ≡ true
  ends_stand =
      sym (list_all-map (λ (q : Pair). has_point (node_points (pairs_of kept)) q.b) (λ (f : Filled). f.pair) kept)
      ∙ list_all-from_AllPass (λ q. has_point (node_points (pairs_of kept)) q.b) (pairs_of kept) (λ k d h. has_end (pairs_of kept) k d h)

  pub runs_are : directed_links rule (graph_of kept) ≡ map run kept
  unfolding directed_links graph_of
  runs_are = map-map (λ (l : Link). record { pair = l.pair; count = of_subject (direction rule l.fill) }) _ kept

  level_by : (u : ℕ) (test : Point → Bool) → TellsNumber u test → flow (λ s. s.count.subj) test (map run kept) ≡ pos 0 → length (filter (λ l. l.a_node == u) (arcs rule (graph_of kept).links)) ≡ length (filter (λ l. l.b_node == u) (arcs rule (graph_of kept).links))
  unfolding graph_of
  level_by u test tells none = same_numbers (length (filter (λ l. l.a_node == u) (ways kept))) (length (filter (λ l. l.b_node == u) (ways kept))) (flow (λ s. s.count.subj) test (map run kept)) (counted u test tells kept starts_stand ends_stand) none

  pub flow_from_balance : IsBalanced (directed_links rule (graph_of kept)) → IsFlow (arcs rule (graph_of kept).links)
  flow_from_balance balanced u = by (cases_lt u (length (node_points (pairs_of kept))))
    where
      d : Point
      d = record { x = pos 0; y = pos 0 }

      p : Point
      p = get_or (node_points (pairs_of kept)) u d

      none : flow (λ s. s.count.subj) (λ q. point_eq q p) (map run kept) ≡ pos 0
      none = sym (ap (λ (w : Winding). w.subj) (balance_is (map run kept) p)) ∙ ap (λ (xs : List WholeSegment). (balance xs p).subj) (sym runs_are) ∙ ap (λ (w : Winding). w.subj) (balanced p)

      by : ((u < length (node_points (pairs_of kept))) ⊎ (length (node_points (pairs_of kept)) ≤ u)) → length (filter (λ l. l.a_node == u) (arcs rule (graph_of kept).links)) ≡ length (filter (λ l. l.b_node == u) (arcs rule (graph_of kept).links))
      by (inl h) = level_by u (λ q. point_eq q p) (λ q m. node_number-is (pairs_of kept) q d u m h) none
      by (inr h) = level_by u (λ q. false) (λ q m. let low : node_number (pairs_of kept) q < length (node_points (pairs_of kept)) = (node_number-of (pairs_of kept) q d m).0 in ne_eqb (node_number (pairs_of kept) q) u (λ k. omega (arith, low, h, k))) (nothing_flows (λ s. s.count.subj) (map run kept))

-- with balanced counts so it is in a rule's graph
pub graphs_flow : GraphsFlow
unfolding graph_by
graphs_flow fill_rule rule segments mapped polygons planar balanced = flow_from_balance rule _ (graphs_bound_regions fill_rule rule segments mapped polygons planar balanced).closed
