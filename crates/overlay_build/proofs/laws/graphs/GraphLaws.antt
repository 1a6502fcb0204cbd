-- Laws of graphs: which links meet at a node, how many, and how a rule's graph compares to that of all segments.
use Rattle.std.proofs.Common.{◌≡◌, ℕ, ◌+◌, ◌<◌, ◌%◌, ◌==◌, suc, Bool, true, false, ◌&&◌, ◌||◌, IsTrue, List, [], ◌∷◌, map, filter, length, get_or, length-append, refl, sym, ap, ap₂, ◌∙◌}
use Rattle.std.specs.Prelude.{nat_lt}
use Rattle.std.specs.List.{list_all}
use Rattle.std.proofs.lemmas.List.{get_or-map, length-map}
use Rattle.std.proofs.lemmas.List.Folds.{list_any-append, list_all-map}
use Rattle.std.proofs.lemmas.Bool.{lt-ltb, eq-eqb}
use Rattle.overlay_geometry.specs.Points.{Point, Pair, point_eq}
use Rattle.overlay_base.specs.Segments.{WholeSegment}
use Rattle.overlay_base.specs.declared.overlay_core.fill_rule.FillRule.{FillRule}
use Rattle.overlay_sweep.specs.Sweep.{fill_of}
use Rattle.overlay_build.specs.Graph.{Filled, Link, Node, Graph, filled, node_points, indexes_where, links_at, nodes_of_pairs, node_number, graph_of, graph_by, has_even_nodes}
use Rattle.overlay_build.specs.Graph.{without_nodes}
use Rattle.overlay_build.specs.Laws.{FilterGivesLinks}
use Rattle.overlay_base.proofs.laws.geometry.Pairs.{has_point}
use Rattle.overlay_build.proofs.laws.graphs.GraphNodes.{has_start, has_end, node_number-of, node_number-is}
use Rattle.overlay_build.proofs.laws.graphs.Indexes.{has_number, indexes_where-exactly, length-indexes_where}

-- ---- the links that meet at a point

or_of_ands : (c a b : Bool) → ((c && a) || (c && b)) ≡ (c && (a || b))
or_of_ands true a b = refl
or_of_ands false a b = refl

-- a link meets a point where it starts or ends there
pub links_at-exactly : (links : List Pair) (p : Point) (i : ℕ) (d : Pair) → has_number i (links_at links p) ≡ (nat_lt i (length links) && (point_eq (get_or links i d).a p || point_eq (get_or links i d).b p))
unfolding links_at
links_at-exactly links p i d =
    list_any-append (λ k. k == i) (indexes_where (λ l. point_eq l.a p) links) (indexes_where (λ l. point_eq l.b p) links)
    ∙ ap₂ (λ b c. b || c) (indexes_where-exactly (λ l. point_eq l.a p) i d links) (indexes_where-exactly (λ l. point_eq l.b p) i d links)
    ∙ or_of_ands (nat_lt i (length links)) (point_eq (get_or links i d).a p) (point_eq (get_or links i d).b p)

-- as many as start there and as end there
pub length-links_at : (links : List Pair) (p : Point) → length (links_at links p) ≡ length (filter (λ l. point_eq l.a p) links) + length (filter (λ l. point_eq l.b p) links)
unfolding links_at
length-links_at links p =
    length-append (indexes_where (λ l. point_eq l.a p) links) (indexes_where (λ l. point_eq l.b p) links)
    ∙ ap₂ (λ m n. m + n) (length-indexes_where (λ l. point_eq l.a p) links) (length-indexes_where (λ l. point_eq l.b p) links)

-- ---- links and nodes of a graph name one another

-- the pairs of filled segments
abbrev pub pairs_of : List Filled → List Pair
pairs_of kept = map (λ f. f.pair) kept

pub length-links : (kept : List Filled) → length (graph_of kept).links ≡ length kept
unfolding graph_of
length-links kept = length-map kept _

pub length-nodes : (kept : List Filled) → length (graph_of kept).nodes ≡ length (node_points (pairs_of kept))
unfolding graph_of nodes_of_pairs
length-nodes kept = length-map (node_points (pairs_of kept)) _

-- the node of a point, and the link of a filled segment
abbrev pub node_of : List Filled → Point → Node
node_of kept p = record { point = p; links = links_at (pairs_of kept) p }

abbrev pub link_of : List Filled → Filled → Link
link_of kept f = record { pair = f.pair; fill = f.fill; a_node = node_number (pairs_of kept) f.pair.a; b_node = node_number (pairs_of kept) f.pair.b }

pub node_at : (kept : List Filled) (m : ℕ) (d : Node) (e : Point) → m < length (node_points (pairs_of kept)) → get_or (graph_of kept).nodes m d ≡ node_of kept (get_or (node_points (pairs_of kept)) m e)
unfolding graph_of nodes_of_pairs
node_at kept m d e h = get_or-map (λ p. node_of kept p) (node_points (pairs_of kept)) m e d h

pub link_at : (kept : List Filled) (i : ℕ) (d : Link) (f : Filled) → i < length kept → get_or (graph_of kept).links i d ≡ link_of kept (get_or kept i f)
unfolding graph_of
link_at kept i d f h = get_or-map (λ f. link_of kept f) kept i f d h

pair_at : (kept : List Filled) (i : ℕ) (d : Pair) (f : Filled) → i < length kept → get_or (pairs_of kept) i d ≡ (get_or kept i f).pair
pair_at kept i d f h = get_or-map (λ (f : Filled). f.pair) kept i f d h

-- a link's numbers name the nodes at its ends
pub record NamesItsNodes (graph : Graph) (l : Link) : Type 0 where
  pub a_in : l.a_node < length graph.nodes
  pub a_point : (d : Node) → (get_or graph.nodes l.a_node d).point ≡ l.pair.a
  pub b_in : l.b_node < length graph.nodes
  pub b_point : (d : Node) → (get_or graph.nodes l.b_node d).point ≡ l.pair.b

names_nodes_of : (kept : List Filled) (f : Filled) → has_point (node_points (pairs_of kept)) f.pair.a ≡ true → has_point (node_points (pairs_of kept)) f.pair.b ≡ true → NamesItsNodes (graph_of kept) (link_of kept f)
names_nodes_of kept f ha hb =
    let a = node_number-of (pairs_of kept) f.pair.a f.pair.a ha in
    let b = node_number-of (pairs_of kept) f.pair.b f.pair.b hb in
    record {
      a_in = rw (length-nodes kept) a.0;
      a_point = λ d. ap (λ (n : Node). n.point) (node_at kept (node_number (pairs_of kept) f.pair.a) d f.pair.a a.0) ∙ a.1;
      b_in = rw (length-nodes kept) b.0;
      b_point = λ d. ap (λ (n : Node). n.point) (node_at kept (node_number (pairs_of kept) f.pair.b) d f.pair.b b.0) ∙ b.1;
    }

pub names_its_nodes : (kept : List Filled) (i : ℕ) (d : Link) → i < length kept → NamesItsNodes (graph_of kept) (get_or (graph_of kept).links i d)
names_its_nodes kept i d h =
    let f : Filled = record { pair = d.pair; fill = d.fill } in
    let h' : i < length (pairs_of kept) = rw (length-map kept (λ (f : Filled). f.pair)) h in
    let e = pair_at kept i d.pair f h in
    let ha = ap (λ (s : Pair). has_point (node_points (pairs_of kept)) s.a) (sym e) ∙ has_start (pairs_of kept) i d.pair h' in
    let hb = ap (λ (s : Pair). has_point (node_points (pairs_of kept)) s.b) (sym e) ∙ has_end (pairs_of kept) i d.pair h' in
    rw (link_at kept i d f h) (names_nodes_of kept (get_or kept i f) ha hb)

-- a link's index is in the lists of its two nodes, and in no other
pub stands_at_its_nodes : (kept : List Filled) (i m : ℕ) (d : Link) (e : Node) → i < length kept → m < length (graph_of kept).nodes
    → has_number i (get_or (graph_of kept).nodes m e).links ≡ (((get_or (graph_of kept).links i d).a_node == m) || ((get_or (graph_of kept).links i d).b_node == m))
stands_at_its_nodes kept i m d e h l =
    let f : Filled = record { pair = d.pair; fill = d.fill } in
    let n : m < length (node_points (pairs_of kept)) = rw (length-nodes kept) at l in
    let h' : i < length (pairs_of kept) = rw (length-map kept (λ (f : Filled). f.pair)) h in
    let s : Pair = get_or (pairs_of kept) i d.pair in
    let p : Point = get_or (node_points (pairs_of kept)) m e.point in
    let here : has_number i (get_or (graph_of kept).nodes m e).links ≡ has_number i (links_at (pairs_of kept) p) = ap (λ (n : Node). has_number i n.links) (node_at kept m e e.point n) in
    let meets : has_number i (links_at (pairs_of kept) p) ≡ (point_eq s.a p || point_eq s.b p) = links_at-exactly (pairs_of kept) p i d.pair ∙ ap (λ c. c && (point_eq s.a p || point_eq s.b p)) (lt-ltb i (length (pairs_of kept)) h') in
    let a = node_number-is (pairs_of kept) s.a e.point m (has_start (pairs_of kept) i d.pair h') n in
    let b = node_number-is (pairs_of kept) s.b e.point m (has_end (pairs_of kept) i d.pair h') n in
    let link : link_of kept (record { pair = s; fill = (get_or kept i f).fill }) ≡ get_or (graph_of kept).links i d =
    ap (λ (q : Pair). link_of kept (record { pair = q; fill = (get_or kept i f).fill })) (pair_at kept i d.pair f h) ∙ sym (link_at kept i d f h) in
    here ∙ meets ∙ ap₂ (λ x y. x || y) (sym a) (sym b) ∙ ap (λ (k : Link). (k.a_node == m) || (k.b_node == m)) link

-- ---- an even number of links

-- how many pairs start or end at a point
abbrev pub degree : List Pair → Point → ℕ
degree links p = length (filter (λ l. point_eq l.a p) links) + length (filter (λ l. point_eq l.b p) links)

pub has_even_nodes-is : (kept : List Filled) → has_even_nodes (graph_of kept) ≡ list_all (λ p. degree (pairs_of kept) p % 2 == 0) (node_points (pairs_of kept))
unfolding has_even_nodes graph_of nodes_of_pairs
has_even_nodes-is kept =
    list_all-map (λ n. length n.links % 2 == 0) (λ p. node_of kept p) (node_points (pairs_of kept))
    ∙ (λ i. list_all (λ p. length-links_at (pairs_of kept) p i % 2 == 0) (node_points (pairs_of kept)))

all_pass : {X : Type 0} (test : X → Bool) → ((x : X) → test x ≡ true) → (xs : List X) → list_all test xs ≡ true
all_pass test h [] = refl
all_pass test h (x ∷ xs) = rw (h x) (all_pass test h xs)

-- where an even number of the pairs meets at every point, each node has an even number of links
pub has_even_nodes-from : (kept : List Filled) → ((p : Point) → degree (pairs_of kept) p % 2 ≡ 0) → IsTrue (has_even_nodes (graph_of kept))
has_even_nodes-from kept h = has_even_nodes-is kept ∙ all_pass (λ p. degree (pairs_of kept) p % 2 == 0) (λ p. eq-eqb (degree (pairs_of kept) p % 2) 0 (h p)) (node_points (pairs_of kept))

-- ---- a rule's graph

-- a graph by a test is that of the filled segments that pass
pub graph_by-is : (keeps : ℕ → Bool) (rule : FillRule) (segments : List WholeSegment) → graph_by keeps rule segments ≡ graph_of (filter (λ f. keeps f.fill) (filled rule segments))
unfolding graph_by
graph_by-is keeps rule segments = refl

filter_all : {X : Type 0} (xs : List X) → filter (λ x. true) xs ≡ xs
filter_all [] = refl
filter_all (x ∷ xs) = ap (λ l. x ∷ l) (filter_all xs)

pub graph_by-all : (rule : FillRule) (segments : List WholeSegment) → graph_by (λ f. true) rule segments ≡ graph_of (filled rule segments)
graph_by-all rule segments = graph_by-is (λ f. true) rule segments ∙ ap graph_of (filter_all (filled rule segments))

back : (kept fs : List Filled) → map without_nodes (map (λ f. link_of kept f) fs) ≡ fs
back kept [] = refl
back kept (f ∷ fs) = ap (λ l. f ∷ l) (back kept fs)

filter_back : (keeps : ℕ → Bool) (kept fs : List Filled) → map without_nodes (filter (λ l. keeps l.fill) (map (λ f. link_of kept f) fs)) ≡ filter (λ f. keeps f.fill) fs
filter_back keeps kept [] = refl
filter_back keeps kept (f ∷ fs) = by (keeps f.fill) refl (filter_back keeps kept fs)
  where
    by : (b : Bool) → keeps f.fill ≡ b → map without_nodes (filter (λ l. keeps l.fill) (map (λ f. link_of kept f) fs)) ≡ filter (λ f. keeps f.fill) fs
        → map without_nodes (filter (λ l. keeps l.fill) (map (λ f. link_of kept f) (f ∷ fs))) ≡ filter (λ f. keeps f.fill) (f ∷ fs)
    by true e ih = rw e (ap (λ l. f ∷ l) ih)
    by false e ih = rw e ih

-- the links of a graph are its segments
pub links-back : (kept : List Filled) → map without_nodes (graph_of kept).links ≡ kept
unfolding graph_of
links-back kept = back kept kept

pub links-filtered : (keeps : ℕ → Bool) (kept : List Filled) → map without_nodes (filter (λ l. keeps l.fill) (graph_of kept).links) ≡ filter (λ f. keeps f.fill) kept
unfolding graph_of
links-filtered keeps kept = filter_back keeps kept kept

-- The links that a test keeps of the graph of all segments are, but for their nodes, those of the test's graph, in the same order.
pub filter_of_all : FilterGivesLinks
filter_of_all keeps rule segments =
    ap (λ (g : Graph). map without_nodes (filter (λ l. keeps l.fill) g.links)) (graph_by-all rule segments)
    ∙ links-filtered keeps (filled rule segments)
    ∙ sym (links-back (filter (λ f. keeps f.fill) (filled rule segments)))
    ∙ ap (λ (g : Graph). map without_nodes g.links) (sym (graph_by-is keeps rule segments))

-- ---- how many links of a rule's graph meet at a point

length_through : (keeps : ℕ → Bool) (test : Pair → Bool) (fill : WholeSegment → ℕ) (segments : List WholeSegment) → length (filter test (pairs_of (filter (λ f. keeps f.fill) (map (λ s. record { pair = s.pair; fill = fill s }) segments)))) ≡ length (filter (λ s. keeps (fill s) && test s.pair) segments)
length_through keeps test fill [] = refl
length_through keeps test fill (s ∷ segments) = by (keeps (fill s)) refl (test s.pair) refl (length_through keeps test fill segments)
  where
    by : (b : Bool) → keeps (fill s) ≡ b → (c : Bool) → test s.pair ≡ c
        → length (filter test (pairs_of (filter (λ f. keeps f.fill) (map (λ s. record { pair = s.pair; fill = fill s }) segments)))) ≡ length (filter (λ s. keeps (fill s) && test s.pair) segments)
        → length (filter test (pairs_of (filter (λ f. keeps f.fill) (map (λ s. record { pair = s.pair; fill = fill s }) (s ∷ segments))))) ≡ length (filter (λ s. keeps (fill s) && test s.pair) (s ∷ segments))
    by true e true k ih = rw (e, k) (ap suc ih)
    by true e false k ih = rw (e, k) ih
    by false e c k ih = rw e ih

-- how many kept segments start or end at a point
abbrev pub kept_degree : (ℕ → Bool) → FillRule → List WholeSegment → Point → ℕ
kept_degree keeps rule segments p =
    length (filter (λ s. keeps (fill_of rule segments s) && point_eq s.pair.a p) segments)
    + length (filter (λ s. keeps (fill_of rule segments s) && point_eq s.pair.b p) segments)

pub degree-kept : (keeps : ℕ → Bool) (rule : FillRule) (segments : List WholeSegment) (p : Point) → degree (pairs_of (filter (λ f. keeps f.fill) (filled rule segments))) p ≡ kept_degree keeps rule segments p
unfolding filled
degree-kept keeps rule segments p =
    ap₂ (λ m n. m + n) (length_through keeps (λ l. point_eq l.a p) (λ s. fill_of rule segments s) segments) (length_through keeps (λ l. point_eq l.b p) (λ s. fill_of rule segments s) segments)

-- Where an even number of kept segments meets at every point, each node of the rule's graph has an even number of links.
pub has_even_nodes-kept : (keeps : ℕ → Bool) (rule : FillRule) (segments : List WholeSegment) → ((p : Point) → kept_degree keeps rule segments p % 2 ≡ 0) → IsTrue (has_even_nodes (graph_by keeps rule segments))
has_even_nodes-kept keeps rule segments h =
    rw (graph_by-is keeps rule segments) (has_even_nodes-from (filter (λ f. keeps f.fill) (filled rule segments)) (λ p. ap (λ n. n % 2) (degree-kept keeps rule segments p) ∙ h p))
