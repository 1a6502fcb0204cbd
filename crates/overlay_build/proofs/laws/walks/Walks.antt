-- Walks over unused links: where each node has an even number of links, a walk can stop only where it began.
use Rattle.std.proofs.Common.{cond, get_or-set_same, get_or-set_other, ◌≡◌, ℕ, ◌+◌, ◌<◌, ◌≤◌, ◌%◌, ◌==◌, ◌⊎◌, inl, inr, zero, suc, Bool, true, false, IsTrue, List, [], ◌∷◌, ◌++◌, ◌||◌, map, filter, length, get_or, set, replicate, Option, Some, None, refl, sym, ap, ap₂, ◌∙◌, arith}
use Rattle.std.specs.Prelude.{pos, option_and_then, slice_get}
use Rattle.std.specs.List.{list_all, count_by, flat_map, All}
use Rattle.std.proofs.lemmas.Bool.{and_parts, or_parts, eqb-true, eq-eqb, ne_eqb, cases_lt}
use Rattle.std.proofs.lemmas.List.{length-map}
use Rattle.std.proofs.lemmas.List.Folds.{list_all-map}
use Rattle.std.proofs.lemmas.List.Sums.{list_all-from_AllPass, sum_by_push}
use Rattle.overlay_geometry.specs.Points.{Point, Pair, point_eq}
use Rattle.overlay_sweep.specs.Fill.{flag_value}
use Rattle.overlay_base.specs.Rules.{differ}
use Rattle.overlay_build.specs.Graph.{Filled, Link, Node, node_points, node_number, graph_of, has_even_nodes}
use Rattle.overlay_build.specs.steps.UnusedLinks.{touches, unused_degree, AreCounted}
use Rattle.overlay_build.specs.Walks.{other_node, walk_end, IsClosedWalk, IsFirstReturn, AreClosedWalks}
use Rattle.overlay_base.proofs.laws.geometry.Pairs.{has_point}
use Rattle.overlay_build.proofs.laws.graphs.GraphNodes.{has_start, has_end, node_number-of, node_number-is}
use Rattle.overlay_build.proofs.laws.graphs.GraphLaws.{pairs_of, link_of, degree, length-links, stands_at_its_nodes}
use Rattle.overlay_build.proofs.laws.graphs.Indexes.{has_number}
use Rattle.overlay_build.proofs.laws.graphs.GraphValid.{even_degree}
use Rattle.overlay_geometry.proofs.laws.lists.Lists.{filter-map}
use Rattle.overlay_geometry.proofs.laws.integers.Tests.{eqb-turned}

-- ---- links at a node, and those of them that no walk has used

abbrev pub link_degree : List Link → ℕ → ℕ
link_degree links u = length (filter (λ l. l.a_node == u) links) + length (filter (λ l. l.b_node == u) links)

link_degree-more : (l : Link) (links : List Link) (u : ℕ) → link_degree (l ∷ links) u ≡ touches l u + link_degree links u
link_degree-more l links u = by (l.a_node == u) refl (l.b_node == u) refl
  where
    by : (b : Bool) → (l.a_node == u) ≡ b → (c : Bool) → (l.b_node == u) ≡ c → link_degree (l ∷ links) u ≡ touches l u + link_degree links u
    by true e true k = rw (e, k) (omega arith)
    by true e false k = rw (e, k) (omega arith)
    by false e true k = rw (e, k) (omega arith)
    by false e false k = rw (e, k) (omega arith)

-- at first all are unused
pub unused_degree-all : (links : List Link) (u : ℕ) → unused_degree (replicate (length links) false) links u ≡ link_degree links u
unused_degree-all [] u = refl
unused_degree-all (l ∷ links) u = ap (λ n. touches l u + n) (unused_degree-all links u) ∙ sym (link_degree-more l links u)

-- one link more is used
pub unused_degree-set : (used : List Bool) (links : List Link) (i u : ℕ) (d : Link) → i < length links → get_or used i true ≡ false → unused_degree used links u ≡ touches (get_or links i d) u + unused_degree (set used i true) links u
unused_degree-set [] links i u d h e = cc
unused_degree-set (b ∷ used) [] i u d h e = absurd (omega arith)
unused_degree-set (true ∷ used) (l ∷ links) zero u d h e = cc
unused_degree-set (false ∷ used) (l ∷ links) zero u d h e = refl
unused_degree-set (true ∷ used) (l ∷ links) (suc i) u d h e = unused_degree-set used links i u d (omega arith) e
unused_degree-set (false ∷ used) (l ∷ links) (suc i) u d h e = let rest = unused_degree-set used links i u d (omega arith) e in omega (arith, rest)

-- where no unused link touches a node, none is left there
pub unused_degree-none : (used : List Bool) (links : List Link) (u : ℕ) → ((i : ℕ) (d : Link) → i < length links → get_or used i true ≡ false → touches (get_or links i d) u ≡ 0) → unused_degree used links u ≡ 0
unused_degree-none [] links u h = refl
unused_degree-none (b ∷ used) [] u h = refl
unused_degree-none (true ∷ used) (l ∷ links) u h = unused_degree-none used links u (λ i d k e. h (suc i) d (omega arith) e)
unused_degree-none (false ∷ used) (l ∷ links) u h =
    let here : touches l u ≡ 0 = h 0 l (omega arith) refl in
    let rest = unused_degree-none used links u (λ i d k e. h (suc i) d (omega arith) e) in
    omega (arith, here, rest)

-- ---- a walk from one node to another

-- an odd number of unused links at the walk's two ends where these differ, and an even number elsewhere
pub record IsWalking (links : List Link) (used : List Bool) (start node : ℕ) : Type 0 where
  pub parity : (u : ℕ) → unused_degree used links u % 2 ≡ flag_value (differ (u == start) (u == node)) 1

differ_same : (b : Bool) → differ b b ≡ false
differ_same true = refl
differ_same false = refl

-- a walk may begin at every node while an even number of links is unused everywhere
pub IsWalking-start : (links : List Link) (used : List Bool) (start : ℕ) → ((u : ℕ) → unused_degree used links u % 2 ≡ 0) → IsWalking links used start start
IsWalking-start links used start h = record { parity = λ u. h u ∙ ap (λ b. flag_value b 1) (sym (differ_same (u == start))) }

passed_on : (p q r : Bool) (x y : ℕ) → x % 2 ≡ flag_value (differ p q) 1 → x ≡ flag_value q 1 + flag_value r 1 + y → y % 2 ≡ flag_value (differ p r) 1
passed_on true true true x y h e = omega (arith, h, e)
passed_on true true false x y h e = omega (arith, h, e)
passed_on true false true x y h e = omega (arith, h, e)
passed_on true false false x y h e = omega (arith, h, e)
passed_on false true true x y h e = omega (arith, h, e)
passed_on false true false x y h e = omega (arith, h, e)
passed_on false false true x y h e = omega (arith, h, e)
passed_on false false false x y h e = omega (arith, h, e)

exchanged : (m n k : ℕ) → m + n + k ≡ n + m + k
exchanged m n k = omega arith

given : {m n : ℕ} → Some m ≡ Some n → m ≡ n
given e = cc

-- a step along an unused link
pub IsWalking-step : (links : List Link) (used : List Bool) (start node next i : ℕ) (d : Link) → IsWalking links used start node → i < length links → get_or used i true ≡ false → other_node node (get_or links i d) ≡ Some next → IsWalking links (set used i true) start next
IsWalking-step links used start node next i d w h e o = record { parity = λ u. by u ((get_or links i d).a_node == node) refl ((get_or links i d).b_node == node) refl }
  where
    l : Link
    l = get_or links i d

    by : (u : ℕ) (b : Bool) → (l.a_node == node) ≡ b → (c : Bool) → (l.b_node == node) ≡ c → unused_degree (set used i true) links u % 2 ≡ flag_value (differ (u == start) (u == next)) 1
    by u true x c y =
        let some : Some l.b_node ≡ Some next = rw x at o in
        let there : next ≡ l.b_node = sym (given some) in
        passed_on (u == start) (u == node) (u == next) _ _ (w.parity u)
        (unused_degree-set used links i u d h e
        ∙ ap₂ (λ m n. flag_value m 1 + flag_value n 1 + unused_degree (set used i true) links u) (ap (λ n. n == u) (eqb-true l.a_node node x) ∙ eqb-turned node u) (ap (λ n. n == u) (sym there) ∙ eqb-turned next u))
    by u false x true y =
        let some : Some l.a_node ≡ Some next = rw (x, y) at o in
        let there : next ≡ l.a_node = sym (given some) in
        passed_on (u == start) (u == node) (u == next) _ _ (w.parity u)
        (unused_degree-set used links i u d h e
        ∙ ap₂ (λ m n. flag_value m 1 + flag_value n 1 + unused_degree (set used i true) links u) (ap (λ n. n == u) (sym there) ∙ eqb-turned next u) (ap (λ n. n == u) (eqb-true l.b_node node y) ∙ eqb-turned node u)
        ∙ exchanged (flag_value (u == next) 1) (flag_value (u == node) 1) (unused_degree (set used i true) links u))
    by u false x false y = let none : None ≡ Some next = rw (x, y) at o in cc

-- ---- the links of a graph with even nodes

number_count : (links : List Pair) (g : Pair → Point) (u : ℕ) (d : Point) → u < length (node_points links) → (fs : List Filled) → list_all (λ f. has_point (node_points links) (g f.pair)) fs ≡ true
    → length (filter (λ f. node_number links (g f.pair) == u) fs) ≡ length (filter (λ q. point_eq (g q) (get_or (node_points links) u d)) (pairs_of fs))
number_count links g u d h [] m = refl
number_count links g u d h (f ∷ fs) m =
    let parts = and_parts (has_point (node_points links) (g f.pair)) (list_all (λ f. has_point (node_points links) (g f.pair)) fs) m in
    by (point_eq (g f.pair) (get_or (node_points links) u d)) refl (node_number-is links (g f.pair) d u parts.0 h) (number_count links g u d h fs parts.1)
  where
    by : (b : Bool) → point_eq (g f.pair) (get_or (node_points links) u d) ≡ b → (node_number links (g f.pair) == u) ≡ point_eq (g f.pair) (get_or (node_points links) u d)
        → length (filter (λ f. node_number links (g f.pair) == u) fs) ≡ length (filter (λ q. point_eq (g q) (get_or (node_points links) u d)) (pairs_of fs))
        → length (filter (λ f. node_number links (g f.pair) == u) (f ∷ fs)) ≡ length (filter (λ q. point_eq (g q) (get_or (node_points links) u d)) (pairs_of (f ∷ fs)))
    by true e k ih = let t : (node_number links (g f.pair) == u) ≡ true = k ∙ e in rw (t, e) (ap suc ih)
    by false e k ih = let t : (node_number links (g f.pair) == u) ≡ false = k ∙ e in rw (t, e) ih

number_none : (links : List Pair) (g : Pair → Point) (u : ℕ) → length (node_points links) ≤ u → (fs : List Filled) → list_all (λ f. has_point (node_points links) (g f.pair)) fs ≡ true → length (filter (λ f. node_number links (g f.pair) == u) fs) ≡ 0
number_none links g u h [] m = refl
number_none links g u h (f ∷ fs) m =
    let parts = and_parts (has_point (node_points links) (g f.pair)) (list_all (λ f. has_point (node_points links) (g f.pair)) fs) m in
    let low : node_number links (g f.pair) < length (node_points links) = (node_number-of links (g f.pair) (g f.pair) parts.0).0 in
    let t : (node_number links (g f.pair) == u) ≡ false = ne_eqb (node_number links (g f.pair)) u (λ k. omega (arith, low, h, k)) in
    rw t (number_none links g u h fs parts.1)

starts_stand : (kept : List Filled) → list_all (λ f. has_point (node_points (pairs_of kept)) f.pair.a) kept ≡ true
starts_stand kept =
    sym (list_all-map (λ (q : Pair). has_point (node_points (pairs_of kept)) q.a) (λ (f : Filled). f.pair) kept)
    ∙ list_all-from_AllPass (λ q. has_point (node_points (pairs_of kept)) q.a) (pairs_of kept) (λ k d h. has_start (pairs_of kept) k d h)

ends_stand : (kept : List Filled) → list_all (λ f. has_point (node_points (pairs_of kept)) f.pair.b) kept ≡ true
ends_stand kept =
    sym (list_all-map (λ (q : Pair). has_point (node_points (pairs_of kept)) q.b) (λ (f : Filled). f.pair) kept)
    ∙ list_all-from_AllPass (λ q. has_point (node_points (pairs_of kept)) q.b) (pairs_of kept) (λ k d h. has_end (pairs_of kept) k d h)

length-filtered_map : {X Y : Type 0} (test : Y → Bool) (f : X → Y) (xs : List X) → length (filter test (map f xs)) ≡ length (filter (λ x. test (f x)) xs)
length-filtered_map test f xs = ap length (filter-map test f xs) ∙ length-map (filter (λ x. test (f x)) xs) f

link_degree-numbers : (kept : List Filled) (u : ℕ) → link_degree (graph_of kept).links u ≡ length (filter (λ f. node_number (pairs_of kept) f.pair.a == u) kept) + length (filter (λ f. node_number (pairs_of kept) f.pair.b == u) kept)
unfolding graph_of
link_degree-numbers kept u = ap₂ (λ m n. m + n) (length-filtered_map (λ (l : Link). l.a_node == u) (λ f. link_of kept f) kept) (length-filtered_map (λ (l : Link). l.b_node == u) (λ f. link_of kept f) kept)

-- as many links touch a node as pairs start or end at its point
pub link_degree-is : (kept : List Filled) (u : ℕ) (d : Point) → u < length (node_points (pairs_of kept)) → link_degree (graph_of kept).links u ≡ degree (pairs_of kept) (get_or (node_points (pairs_of kept)) u d)
link_degree-is kept u d h =
    link_degree-numbers kept u
    ∙ ap₂ (λ m n. m + n) (number_count (pairs_of kept) (λ q. q.a) u d h kept (starts_stand kept)) (number_count (pairs_of kept) (λ q. q.b) u d h kept (ends_stand kept))

pub link_degree-past : (kept : List Filled) (u : ℕ) → length (node_points (pairs_of kept)) ≤ u → link_degree (graph_of kept).links u ≡ 0
link_degree-past kept u h =
    link_degree-numbers kept u
    ∙ ap₂ (λ m n. m + n) (number_none (pairs_of kept) (λ q. q.a) u h kept (starts_stand kept)) (number_none (pairs_of kept) (λ q. q.b) u h kept (ends_stand kept))

pub link_degree-even : (kept : List Filled) (u : ℕ) → IsTrue (has_even_nodes (graph_of kept)) → link_degree (graph_of kept).links u % 2 ≡ 0
link_degree-even kept u even = by (cases_lt u (length (node_points (pairs_of kept))))
  where
    d : Point
    d = record { x = pos 0; y = pos 0 }

    by : ((u < length (node_points (pairs_of kept))) ⊎ (length (node_points (pairs_of kept)) ≤ u)) → link_degree (graph_of kept).links u % 2 ≡ 0
    by (inl h) = ap (λ n. n % 2) (link_degree-is kept u d h) ∙ even_degree kept (get_or (node_points (pairs_of kept)) u d) even
    by (inr h) = ap (λ n. n % 2) (link_degree-past kept u h)

no_touch : (l : Link) (u : ℕ) → ((l.a_node == u) || (l.b_node == u)) ≡ false → touches l u ≡ 0
no_touch l u e =
    let parts = or_parts (l.a_node == u) (l.b_node == u) e in
    rw (parts.0, parts.1) refl

-- where each link of a node's list is used, no unused link is left there
pub none_left : (kept : List Filled) (used : List Bool) (u : ℕ) (e : Node) → u < length (graph_of kept).nodes → ((i : ℕ) → has_number i (get_or (graph_of kept).nodes u e).links ≡ true → get_or used i true ≡ true) → unused_degree used (graph_of kept).links u ≡ 0
none_left kept used u e h all = unused_degree-none used (graph_of kept).links u (λ i d k free. no_touch (get_or (graph_of kept).links i d) u (free_apart i d k free (((get_or (graph_of kept).links i d).a_node == u) || ((get_or (graph_of kept).links i d).b_node == u)) refl))
  where
    free_apart : (i : ℕ) (d : Link) → i < length (graph_of kept).links → get_or used i true ≡ false → (b : Bool) → (((get_or (graph_of kept).links i d).a_node == u) || ((get_or (graph_of kept).links i d).b_node == u)) ≡ b
        → (((get_or (graph_of kept).links i d).a_node == u) || ((get_or (graph_of kept).links i d).b_node == u)) ≡ false
    free_apart i d k free false t = t
    free_apart i d k free true t =
        let low : i < length kept = rw (length-links kept) at k in
        let c : true ≡ false = sym (all i (stands_at_its_nodes kept i u d e low h ∙ t)) ∙ free in
        cc

-- ---- where a walk ends

then_then : {A B C : Type 0} (f : A → Option B) (g : B → Option C) (o : Option A) → option_and_then g (option_and_then f o) ≡ option_and_then (λ a. option_and_then g (f a)) o
then_then f g None = refl
then_then f g (Some a) = refl

-- one link more
pub walk_end-push : (links : List Link) (node : ℕ) (walk : List ℕ) (i : ℕ) → walk_end links node (walk ++ (i ∷ [])) ≡ option_and_then (λ u. option_and_then (λ link. other_node u link) (slice_get links i)) (walk_end links node walk)
unfolding walk_end
walk_end-push links node [] i = some_then (option_and_then (λ link. other_node node link) (slice_get links i))
  where
    some_then : (o : Option ℕ) → option_and_then (λ next. Some next) o ≡ o
    some_then None = refl
    some_then (Some n) = refl
walk_end-push links node (j ∷ walk) i =
    (λ k. option_and_then (λ next. walk_end-push links next walk i k) (option_and_then (λ link. other_node node link) (slice_get links j)))
    ∙ sym (then_then (λ next. walk_end links next walk) (λ u. option_and_then (λ link. other_node u link) (slice_get links i)) (option_and_then (λ link. other_node node link) (slice_get links j)))

-- ---- which links the walks have

none_used : (n j : ℕ) → get_or (replicate n false) j false ≡ false
none_used zero j = refl
none_used (suc n) zero = refl
none_used (suc n) (suc j) = none_used n j

pub AreCounted-none : (n : ℕ) → AreCounted (replicate n false) []
AreCounted-none n = record { once = λ j. ap (λ b. flag_value b 1) (sym (none_used n j)) }

-- one link more at the end
pub AreCounted-push : (used : List Bool) (walked : List ℕ) (i : ℕ) → AreCounted used walked → i < length used → get_or used i false ≡ false → AreCounted (set used i true) (walked ++ (i ∷ []))
AreCounted-push used walked i c h free = record { once = λ j. sum_by_push (λ k. cond (k == j) 1 0) walked i ∙ by j (i == j) refl }
  where
    by : (j : ℕ) (b : Bool) → (i == j) ≡ b → count_by (λ k. k == j) walked + cond (i == j) 1 0 ≡ flag_value (get_or (set used i true) j false) 1
    by j true e =
        let same : j ≡ i = sym (eqb-true i j e) in
        let before : count_by (λ k. k == j) walked ≡ 0 = c.once j ∙ ap (λ n. flag_value (get_or used n false) 1) same ∙ ap (λ b. flag_value b 1) free in
        let now : get_or (set used i true) j false ≡ true = ap (λ n. get_or (set used i true) n false) same ∙ get_or-set_same used i true false h in
        rw (e, before, now) refl
    by j false e =
        let other : get_or (set used i true) j false ≡ get_or used j false = get_or-set_other used i j true false (λ k. let t : (i == j) ≡ true = eq-eqb i j (sym k) in let f : true ≡ false = sym t ∙ e in cc) in
        rw (e, other) (omega (arith, c.once j))

-- where all links are used, closed walks are closed walks over the whole graph
pub AreClosedWalks-from : (links : List Link) (used : List Bool) (walks : List (List ℕ)) → All (IsClosedWalk links) walks → All (IsFirstReturn links) walks → AreCounted used (flat_map (λ walk. walk) walks) → ((i : ℕ) → i < length links → get_or used i false ≡ true) → AreClosedWalks links walks
AreClosedWalks-from links used walks closed returns c all = record { closed = closed; first_return = returns; once = λ i h. c.once i ∙ ap (λ b. flag_value b 1) (all i h) }
