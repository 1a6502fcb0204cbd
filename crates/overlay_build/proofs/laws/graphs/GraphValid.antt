-- A graph with an even number of links at each node is valid: the links at all nodes are twice the links.
use Rattle.std.proofs.Common.{◌≡◌, ℕ, ◌+◌, ◌*◌, ◌<◌, ◌≤◌, ◌%◌, ◌==◌, Bool, true, false, ◌||◌, IsTrue, List, [], ◌∷◌, filter, length, get_or, Less, is_eq, refl, sym, ap, ap₂, ◌∙◌, arith}
use Rattle.std.specs.Prelude.{nat_le}
use Rattle.std.specs.List.{AllByRecursion, list_all, list_any}
use Rattle.std.specs.List.Sorted.{IsStrictlySortedBy}
use Rattle.std.proofs.lemmas.Bool.{and_parts, and_from, or_parts, or_right, le-leb, eqb-true, leb-true}
use Rattle.std.proofs.lemmas.List.{length-map}
use Rattle.std.proofs.lemmas.List.Sums.{AllPass-from_list_all, list_all-from_AllPass}
use Rattle.std.proofs.lemmas.List.Folds.{list_any_at, list_all-map}
use Rattle.overlay_geometry.specs.Points.{Point, Pair, point_cmp, point_eq, is_end}
use Rattle.overlay_build.specs.Graph.{Filled, node_points, nodes_of_pairs, links_at, graph_of, node_number, is_bridge, is_valid_graph, has_even_nodes}
use Rattle.overlay_geometry.proofs.laws.geometry.Points.{point_cmp_total, same_by_eq, point_eq_same}
use Rattle.overlay_base.proofs.laws.geometry.Pairs.{has_point}
use Rattle.overlay_build.proofs.laws.graphs.GraphNodes.{sorted_ends, node_points-exactly, has_start, has_end, node_number-of}
use Rattle.overlay_build.proofs.laws.graphs.GraphLaws.{pairs_of, node_of, degree, length-links, length-nodes, length-links_at, has_even_nodes-is}
use Rattle.overlay_geometry.proofs.laws.lists.Keys.{is_eq-reverse}

-- ---- sums over points

abbrev pub summed_over : (Point → ℕ) → List Point → ℕ
summed_over g [] = 0
summed_over g (p ∷ ps) = g p + summed_over g ps

summed_over-add : (f g : Point → ℕ) (ps : List Point) → summed_over (λ p. f p + g p) ps ≡ summed_over f ps + summed_over g ps
summed_over-add f g [] = refl
summed_over-add f g (p ∷ ps) = let e = summed_over-add f g ps in omega (arith, e)

-- at least two at each point
summed_over-twice : (g : Point → ℕ) (ps : List Point) → list_all (λ p. nat_le 2 (g p)) ps ≡ true → 2 * length ps ≤ summed_over g ps
summed_over-twice g [] h = omega arith
summed_over-twice g (p ∷ ps) h =
    let parts = and_parts (nat_le 2 (g p)) (list_all (λ p. nat_le 2 (g p)) ps) h in
    let here : 2 ≤ g p = leb-true 2 (g p) parts.0 in
    let rest = summed_over-twice g ps parts.1 in
    omega (arith, here, rest)

-- ---- each end once

none_above : (q : Point) (ks : List Point) → AllByRecursion (λ k. point_cmp q k ≡ Less) ks → length (filter (λ k. point_eq q k) ks) ≡ 0
none_above q [] a = refl
none_above q (k ∷ ks) a = rw (a.0) (none_above q ks a.1)

once : (q : Point) (ks : List Point) → IsStrictlySortedBy point_cmp ks → has_point ks q ≡ true → length (filter (λ k. point_eq q k) ks) ≡ 1
unfolding IsStrictlySortedBy
once q [] s h = cc
once q (k ∷ ks) s h = by (point_eq q k) refl (once q ks s.1)
  where
    by : (b : Bool) → point_eq q k ≡ b → (has_point ks q ≡ true → length (filter (λ k. point_eq q k) ks) ≡ 1) → length (filter (λ k. point_eq q k) (k ∷ ks)) ≡ 1
    by true e ih =
        let none : length (filter (λ j. point_eq q j) ks) ≡ 0 = ap (λ z. length (filter (λ j. point_eq z j) ks)) (same_by_eq q k e) ∙ none_above k ks s.0 in
        rw (e, none) refl
    by false e ih = rw e (ih (rw e at h))

one_more : (f : Pair → Point) (l : Pair) (links : List Pair) (ks : List Point) → summed_over (λ p. length (filter (λ l. point_eq (f l) p) (l ∷ links))) ks ≡ length (filter (λ k. point_eq (f l) k) ks) + summed_over (λ p. length (filter (λ l. point_eq (f l) p) links)) ks
one_more f l links [] = refl
one_more f l links (k ∷ ks) = by (point_eq (f l) k) refl (one_more f l links ks)
  where
    by : (b : Bool) → point_eq (f l) k ≡ b
        → summed_over (λ p. length (filter (λ l. point_eq (f l) p) (l ∷ links))) ks ≡ length (filter (λ k. point_eq (f l) k) ks) + summed_over (λ p. length (filter (λ l. point_eq (f l) p) links)) ks
        → summed_over (λ p. length (filter (λ l. point_eq (f l) p) (l ∷ links))) (k ∷ ks) ≡ length (filter (λ k. point_eq (f l) k) (k ∷ ks)) + summed_over (λ p. length (filter (λ l. point_eq (f l) p) links)) (k ∷ ks)
    by true e ih = rw (e, ih) (omega arith)
    by false e ih = rw (e, ih) (omega arith)

-- where each link's f is among the points, their counts sum to the links
counted_once : (f : Pair → Point) (ks : List Point) → IsStrictlySortedBy point_cmp ks → (links : List Pair) → list_all (λ l. has_point ks (f l)) links ≡ true → summed_over (λ p. length (filter (λ l. point_eq (f l) p) links)) ks ≡ length links
counted_once f ks s [] h = nothing ks
  where
    nothing : (ks : List Point) → summed_over (λ p. 0) ks ≡ 0
    nothing [] = refl
    nothing (k ∷ ks) = let e = nothing ks in omega (arith, e)
counted_once f ks s (l ∷ links) h =
    let parts = and_parts (has_point ks (f l)) (list_all (λ l. has_point ks (f l)) links) h in
    one_more f l links ks ∙ ap₂ (λ m n. m + n) (once (f l) ks s parts.0) (counted_once f ks s links parts.1) ∙ omega arith

-- the degrees of all ends sum to twice the links
pub sum_of_degrees : (links : List Pair) → summed_over (degree links) (node_points links) ≡ 2 * length links
sum_of_degrees links =
    summed_over-add (λ p. length (filter (λ l. point_eq l.a p) links)) (λ p. length (filter (λ l. point_eq l.b p) links)) (node_points links)
    ∙ ap₂ (λ m n. m + n)
    (counted_once (λ l. l.a) (node_points links) (sorted_ends links) links (list_all-from_AllPass (λ l. has_point (node_points links) l.a) links (λ k d h. has_start links k d h)))
    (counted_once (λ l. l.b) (node_points links) (sorted_ends links) links (list_all-from_AllPass (λ l. has_point (node_points links) l.b) links (λ k d h. has_end links k d h)))
    ∙ omega arith

-- ---- ends have a positive degree, and other points none

point_eq-comm : (p q : Point) → point_eq p q ≡ point_eq q p
point_eq-comm p q = ap is_eq (point_cmp_total.antisymm p q) ∙ is_eq-reverse (point_cmp q p)

positive_degree : (links : List Pair) (p : Point) → list_any (λ l. is_end l p) links ≡ true → 0 < degree links p
positive_degree [] p h = cc
positive_degree (l ∷ links) p h = by (point_eq l.a p) refl (point_eq l.b p) refl (positive_degree links p)
  where
    by : (b : Bool) → point_eq l.a p ≡ b → (c : Bool) → point_eq l.b p ≡ c → (list_any (λ l. is_end l p) links ≡ true → 0 < degree links p) → 0 < degree (l ∷ links) p
    by true e c k ih = rw e (omega arith)
    by false e true k ih = rw (e, k) (omega arith)
    by false e false k ih =
        let u : point_eq p l.a ≡ false = point_eq-comm p l.a ∙ e in
        let v : point_eq p l.b ≡ false = point_eq-comm p l.b ∙ k in
        rw (e, k) (ih (rw (u, v) at h))

zero_degree : (links : List Pair) (p : Point) → list_any (λ l. is_end l p) links ≡ false → degree links p ≡ 0
zero_degree [] p h = refl
zero_degree (l ∷ links) p h =
    let parts = or_parts (is_end l p) (list_any (λ l. is_end l p) links) h in
    let both = or_parts (point_eq p l.a) (point_eq p l.b) parts.0 in
    let u : point_eq l.a p ≡ false = point_eq-comm l.a p ∙ both.0 in
    let v : point_eq l.b p ≡ false = point_eq-comm l.b p ∙ both.1 in
    rw (u, v) (zero_degree links p parts.1)

has_point-at : (ks : List Point) (i : ℕ) (d : Point) → i < length ks → has_point ks (get_or ks i d) ≡ true
has_point-at ks i d h = list_any_at (λ k. point_eq (get_or ks i d) k) ks i d h (point_eq_same (get_or ks i d))

-- at each node some link starts or ends
pub node_points-positive : (links : List Pair) → list_all (λ p. nat_le 1 (degree links p)) (node_points links) ≡ true
node_points-positive links =
    list_all-from_AllPass (λ p. nat_le 1 (degree links p)) (node_points links)
    (λ k d h.
    let p : Point = get_or (node_points links) k d in
    let more : 0 < degree links p = positive_degree links p (sym (node_points-exactly links p) ∙ has_point-at (node_points links) k d h) in
    le-leb 1 (degree links p) (omega (arith, more)))

-- ---- even degrees

-- where each node has an even number of links, an even number of pairs meets at every point
pub even_degree : (kept : List Filled) (p : Point) → IsTrue (has_even_nodes (graph_of kept)) → degree (pairs_of kept) p % 2 ≡ 0
even_degree kept p h = by (has_point (node_points (pairs_of kept)) p) refl
  where
    by : (b : Bool) → has_point (node_points (pairs_of kept)) p ≡ b → degree (pairs_of kept) p % 2 ≡ 0
    by true e =
        let stands = node_number-of (pairs_of kept) p p e in
        let test : (degree (pairs_of kept) (get_or (node_points (pairs_of kept)) (node_number (pairs_of kept) p) p) % 2 == 0) ≡ true =
        AllPass-from_list_all (λ q. degree (pairs_of kept) q % 2 == 0) (node_points (pairs_of kept)) (sym (has_even_nodes-is kept) ∙ h) (node_number (pairs_of kept) p) p stands.0 in
        eqb-true (degree (pairs_of kept) p % 2) 0 (ap (λ q. degree (pairs_of kept) q % 2 == 0) (sym stands.1) ∙ test)
    by false e = ap (λ n. n % 2) (zero_degree (pairs_of kept) p (sym (node_points-exactly (pairs_of kept) p) ∙ e))

even_and_positive : (n : ℕ) → (n % 2 == 0) ≡ true → nat_le 1 n ≡ true → nat_le 2 n ≡ true
even_and_positive n e h =
    let zero_rest : n % 2 ≡ 0 = eqb-true (n % 2) 0 e in
    let more : 1 ≤ n = leb-true 1 n h in
    le-leb 2 n (omega (arith, zero_rest, more))

all_at_least_two : (g : Point → ℕ) (ps : List Point) → list_all (λ p. g p % 2 == 0) ps ≡ true → list_all (λ p. nat_le 1 (g p)) ps ≡ true → list_all (λ p. nat_le 2 (g p)) ps ≡ true
all_at_least_two g [] e h = refl
all_at_least_two g (p ∷ ps) e h =
    let es = and_parts (g p % 2 == 0) (list_all (λ p. g p % 2 == 0) ps) e in
    let hs = and_parts (nat_le 1 (g p)) (list_all (λ p. nat_le 1 (g p)) ps) h in
    and_from (nat_le 2 (g p)) (list_all (λ p. nat_le 2 (g p)) ps) (even_and_positive (g p) es.0 hs.0) (all_at_least_two g ps es.1 hs.1)

-- each node has two links or more, so there are no more nodes than links
pub two_at_each : (kept : List Filled) → IsTrue (has_even_nodes (graph_of kept)) → list_all (λ p. nat_le 2 (degree (pairs_of kept) p)) (node_points (pairs_of kept)) ≡ true
two_at_each kept h = all_at_least_two (degree (pairs_of kept)) (node_points (pairs_of kept)) (sym (has_even_nodes-is kept) ∙ h) (node_points-positive (pairs_of kept))

pub nodes_up_to_links : (kept : List Filled) → IsTrue (has_even_nodes (graph_of kept)) → length (graph_of kept).nodes ≤ length (graph_of kept).links
nodes_up_to_links kept h =
    let twice : 2 * length (node_points (pairs_of kept)) ≤ summed_over (degree (pairs_of kept)) (node_points (pairs_of kept)) = summed_over-twice (degree (pairs_of kept)) (node_points (pairs_of kept)) (two_at_each kept h) in
    let sum = sum_of_degrees (pairs_of kept) in
    let links : length (pairs_of kept) ≡ length kept = length-map kept (λ (f : Filled). f.pair) in
    let few : length (node_points (pairs_of kept)) ≤ length kept = omega (arith, twice, sum, links) in
    rw (length-nodes kept, length-links kept) few

weaker : (g : Point → Bool) (f : Point → Bool) → ((p : Point) → f p ≡ true → g p ≡ true) → (ps : List Point) → list_all f ps ≡ true → list_all g ps ≡ true
weaker g f w [] h = refl
weaker g f w (p ∷ ps) h =
    let parts = and_parts (f p) (list_all f ps) h in
    and_from (g p) (list_all g ps) (w p parts.0) (weaker g f w ps parts.1)

enough_links : (kept : List Filled) → list_all (λ p. is_bridge (node_of kept p) || nat_le 2 (length (links_at (pairs_of kept) p))) (node_points (pairs_of kept)) ≡ true → list_all (λ n. is_bridge n || nat_le 2 (length n.links)) (graph_of kept).nodes ≡ true
unfolding graph_of nodes_of_pairs
enough_links kept h = list_all-map (λ n. is_bridge n || nat_le 2 (length n.links)) (λ p. node_of kept p) (node_points (pairs_of kept)) ∙ h

-- A graph with an even number of links at each node is valid.
pub valid_by_even_nodes : (kept : List Filled) → IsTrue (has_even_nodes (graph_of kept)) → IsTrue (is_valid_graph (graph_of kept))
unfolding is_valid_graph
valid_by_even_nodes kept h =
    let tests : list_all (λ n. is_bridge n || nat_le 2 (length n.links)) (graph_of kept).nodes ≡ true =
    enough_links kept (weaker (λ p. is_bridge (node_of kept p) || nat_le 2 (length (links_at (pairs_of kept) p))) (λ p. nat_le 2 (degree (pairs_of kept) p))
    (λ p e. or_right (is_bridge (node_of kept p)) (nat_le 2 (length (links_at (pairs_of kept) p))) (ap (nat_le 2) (length-links_at (pairs_of kept) p) ∙ e))
    (node_points (pairs_of kept)) (two_at_each kept h)) in
    let few : nat_le (length (graph_of kept).nodes) (length (graph_of kept).links) ≡ true = le-leb _ _ (nodes_up_to_links kept h) in
    and_from _ _ tests (or_right (list_all is_bridge (graph_of kept).nodes) _ few)
