-- The edges of the contours of directed walks are the links of the graph, each once in its direction.
use Rattle.std.proofs.Common.{◌≡◌, refl, sym, ap, ap₂, ◌∙◌, ℕ, zero, suc, ◌+◌, ◌<◌, ◌≤◌, get_or, take, length, Bool, true, false, not, if◌then◌else◌, List, [], ◌∷◌, ◌++◌, map, filter, cond, arith}
use Rattle.std.specs.Prelude.{◌≢◌, count_by, flat_map}
use Rattle.std.specs.List.{AllByRecursion, list_all, zip}
use Rattle.std.proofs.lemmas.Bool.{and_parts, and_from}
use Rattle.std.proofs.lemmas.List.{map-append}
use Rattle.std.proofs.lemmas.List.Elements.{All-from_recursion, recursion_from_All}
use Rattle.std.proofs.lemmas.List.Folds.{list_all-map}
use Rattle.std.proofs.lemmas.Simd.{map-map}
use Rattle.overlay_geometry.specs.Points.{Point, Pair, point_lt, point_eq, is_ordered}
use Rattle.overlay_geometry.proofs.laws.geometry.Points.{point_lt-trans, point_lt-irreflexive, same_by_eq}
use Rattle.overlay_geometry.proofs.laws.lists.Lists.{sum_by-map, AllByRecursion-weaker, AllByRecursion-flat_map}
use Rattle.overlay_base.specs.Rules.{top_value}
use Rattle.overlay_build.specs.Graph.{Filled, Link, graph_of}
use Rattle.overlay_build.specs.DirectedWalks.{arcs, no_link, IsDirectedWalk, AreDirectedWalks, contour}
use Rattle.overlay_build.specs.DirectedWalks.{turned as turned_link, edges as edges_of_walk}
use Rattle.overlay_build.proofs.laws.walks.Contours.{contours_follow_links}
use Rattle.overlay_contours.specs.Contours.{steps_from, steps_of, steps, turned, in_order, is_edge, directed_edges, edges, AreProper}
use Rattle.overlay_contours.specs.Laws.{ContoursTakeLinks}
use Rattle.overlay_contours.proofs.laws.Counting.{count_by-once_each}

-- ---- one contour more

all_taken : {X : Type 0} (xs : List X) (n : ℕ) → length xs ≤ n → take n xs ≡ xs
all_taken [] zero h = refl
all_taken [] (suc n) h = refl
all_taken (x ∷ xs) zero h = absurd (omega arith)
all_taken (x ∷ xs) (suc n) h = ap (λ (l : List _). x ∷ l) (all_taken xs n (omega arith))

-- after the last one: of each part of an element
pub all_mapped : {X Y Z : Type 0} (f : Y → Z) (h : X → Y) (now items : List X) (n : ℕ) (zs : List Z) → zs ≡ map (λ x. f (h x)) (take n now) → length now ≤ n → now ≡ items → zs ≡ map f (map h items)
all_mapped f h now items n zs e done same = e ∙ ap (map (λ x. f (h x))) (all_taken now n done ∙ same) ∙ sym (map-map f h items)

take_next : {X : Type 0} (xs : List X) (k : ℕ) (x : X) → k < length xs → x ≡ get_or xs k x → take (k + 1) xs ≡ take k xs ++ x ∷ []
take_next xs k x h e = let next : k + 1 ≡ suc k = omega arith in rw next (by xs k h e)
  where
    by : (ys : List _) (i : ℕ) → i < length ys → x ≡ get_or ys i x → take (suc i) ys ≡ take i ys ++ x ∷ []
    by [] i h e = absurd (omega arith)
    by (y ∷ ys) zero h e = ap (λ (z : _). z ∷ []) (sym e)
    by (y ∷ ys) (suc i) h e = ap (λ (l : List _). y ∷ l) (by ys i (omega arith) e)

pub one_more : {X Y Z : Type 0} (f : X → Z) (g : Y → Z) (xs : List X) (ys : List Y) (k : ℕ) (x : X) (y : Y) → map f xs ≡ map g (take k ys) → k < length ys → y ≡ get_or ys k y → f x ≡ g y → map f (xs ++ x ∷ []) ≡ map g (take (k + 1) ys)
one_more f g xs ys k x y e h is same =
    map-append f xs (x ∷ []) ∙ ap₂ (λ (u v : List _). u ++ v) e (ap (λ (z : _). z ∷ []) same) ∙ sym (map-append g (take k ys) (y ∷ [])) ∙ sym (ap (map g) (take_next ys k y h is))

pub mapped_at : {X Y : Type 0} (f : X → Y) (xs : List X) (i : ℕ) (x : X) (d : Y) → i < length xs → x ≡ get_or xs i x → get_or (map f xs) i d ≡ f x
mapped_at f [] i x d h e = absurd (omega arith)
mapped_at f (y ∷ ys) zero x d h e = ap f (sym e)
mapped_at f (y ∷ ys) (suc i) x d h e = mapped_at f ys i x d (omega arith) e

-- ---- a link in its direction

pub points_apart : (p q : Point) → point_lt p q ≡ true → (point_eq p q ≡ false) × (point_eq q p ≡ false)
points_apart p q h = (by (point_eq p q) refl, back (point_eq q p) refl)
  where
    never : p ≡ q → point_lt p q ≡ false
    never e = ap (λ (r : Point). point_lt p r) (sym e) ∙ point_lt-irreflexive p

    by : (b : Bool) → point_eq p q ≡ b → b ≡ false
    by true e = let no = never (same_by_eq p q e) in cc
    by false e = refl

    back : (b : Bool) → point_eq q p ≡ b → b ≡ false
    back true e = let no = never (sym (same_by_eq q p e)) in cc
    back false e = refl

edge_either_way : (t : Bool) (l : Link) → is_ordered l.pair ≡ true → is_edge (if t then l else turned_link l).pair ≡ true
edge_either_way true l h = ap not (points_apart l.pair.a l.pair.b h).0
edge_either_way false l h = ap not (points_apart l.pair.a l.pair.b h).1

-- in order it is the link's own pair
pub in_order_either_way : (t : Bool) (l : Link) → is_ordered l.pair ≡ true → in_order (if t then l else turned_link l).pair ≡ l.pair
in_order_either_way true l h = rw h refl
in_order_either_way false l h = by (point_lt l.pair.b l.pair.a) refl
  where
    by : (b : Bool) → point_lt l.pair.b l.pair.a ≡ b → cond b (turned l.pair) l.pair ≡ l.pair
    by true e = let loop : point_lt l.pair.a l.pair.a ≡ true = point_lt-trans l.pair.a l.pair.b l.pair.a h e in let no : point_lt l.pair.a l.pair.a ≡ false = point_lt-irreflexive l.pair.a in cc
    by false e = refl

abbrev pub ways_of : List Link → List Pair
ways_of links = map (λ l. l.pair) links

ways_are_edges : (rule : Bool → Bool → Bool) (links : List Link) → list_all (λ l. is_ordered l.pair) links ≡ true → list_all (λ l. is_edge l.pair) (arcs rule links) ≡ true
ways_are_edges rule [] h = refl
ways_are_edges rule (l ∷ links) h =
    let parts = and_parts (is_ordered l.pair) (list_all (λ l. is_ordered l.pair) links) h in
    and_from _ _ (edge_either_way (top_value rule l.fill) l parts.0) (ways_are_edges rule links parts.1)

ways_in_order : (rule : Bool → Bool → Bool) (links : List Link) → list_all (λ l. is_ordered l.pair) links ≡ true → map in_order (ways_of (arcs rule links)) ≡ ways_of links
ways_in_order rule [] h = refl
ways_in_order rule (l ∷ links) h =
    let parts = and_parts (is_ordered l.pair) (list_all (λ l. is_ordered l.pair) links) h in
    ap₂ (λ (p : Pair) (ps : List Pair). p ∷ ps) (in_order_either_way (top_value rule l.fill) l parts.0) (ways_in_order rule links parts.1)

-- ---- the steps of a contour are its edges

steps_zipped : (p q : Point) (points : List Point) → steps_from p (points ++ q ∷ []) ≡ map (λ e. record { a = e.0; b = e.1 }) (zip (p ∷ points) (points ++ q ∷ []))
steps_zipped p q [] = refl
steps_zipped p q (r ∷ points) = ap (λ (l : List Pair). record { a = p; b = r } ∷ l) (steps_zipped r q points)

steps_are_edges : (points : List Point) → steps_of points ≡ edges_of_walk points
steps_are_edges [] = refl
steps_are_edges (p ∷ points) = steps_zipped p p points

pub all_pass : {X : Type 0} (p : X → Bool) (xs : List X) → list_all p xs ≡ true → filter p xs ≡ xs
all_pass p [] h = refl
all_pass p (x ∷ xs) h =
    let parts = and_parts (p x) (list_all p xs) h in
    ap (λ (b : Bool). cond b (x ∷ filter p xs) (filter p xs)) parts.0 ∙ ap (λ (l : List _). x ∷ l) (all_pass p xs parts.1)

passes_at : {X : Type 0} (p : X → Bool) (xs : List X) (i : ℕ) (d : X) → list_all p xs ≡ true → i < length xs → p (get_or xs i d) ≡ true
passes_at p [] i d a h = absurd (omega arith)
passes_at p (x ∷ xs) zero d a h = (and_parts (p x) (list_all p xs) a).0
passes_at p (x ∷ xs) (suc i) d a h = passes_at p xs i d (and_parts (p x) (list_all p xs) a).1 (omega arith)

all_pass_at : {X : Type 0} (p : X → Bool) (xs : List X) (d : X) → list_all p xs ≡ true → (indexes : List ℕ) → AllByRecursion (λ i. i < length xs) indexes → list_all (λ i. p (get_or xs i d)) indexes ≡ true
all_pass_at p xs d a [] h = refl
all_pass_at p xs d a (i ∷ indexes) h = and_from _ _ (passes_at p xs i d a h.0) (all_pass_at p xs d a indexes h.1)

-- ---- the contours of directed walks

module _ (rule : Bool → Bool → Bool) (kept : List Filled) (ordered : list_all (λ f. is_ordered f.pair) kept ≡ true) where
  abbrev pub links : List Link
  links = (graph_of kept).links

  abbrev pub ways : List Link
  ways = arcs rule links

  abbrev pub way_at : ℕ → Pair
  way_at i = (get_or ways i no_link).pair

  pub links_are_ordered : list_all (λ l. is_ordered l.pair) links ≡ true
  unfolding graph_of
  links_are_ordered = list_all-map (λ (l : Link). is_ordered l.pair) _ kept ∙ ordered

  pub steps_of_walk : (walk : List ℕ) → IsDirectedWalk ways walk → steps_of (contour ways walk) ≡ map way_at walk
  steps_of_walk walk w = steps_are_edges (contour ways walk) ∙ contours_follow_links rule kept walk w ∙ map-map (λ (l : Link). l.pair) (λ i. get_or ways i no_link) walk

  pub steps_of_walks : (walks : List (List ℕ)) → AllByRecursion (IsDirectedWalk ways) walks → steps (map (contour ways) walks) ≡ map way_at (flat_map (λ w. w) walks)
  steps_of_walks [] h = refl
  steps_of_walks (w ∷ walks) h =
      ap₂ (λ (u v : List Pair). u ++ v) (steps_of_walk w h.0) (steps_of_walks walks h.1)
      ∙ sym (map-append way_at w (flat_map (λ v. v) walks))

  has_points : (walk : List ℕ) → IsDirectedWalk ways walk → contour ways walk ≢ []
  has_points [] w e = let starts = w.1.1.starts in cc
  has_points (i ∷ walk) w e = cc

  walks_have_points : (walks : List (List ℕ)) → AllByRecursion (IsDirectedWalk ways) walks → AllByRecursion (λ c. c ≢ []) (map (contour ways) walks)
  walks_have_points [] h = tt
  walks_have_points (w ∷ walks) h = (has_points w h.0, walks_have_points walks h.1)

  module _ (walks : List (List ℕ)) (are : AreDirectedWalks ways walks) where
    closed : AllByRecursion (IsDirectedWalk ways) walks
    closed = recursion_from_All (IsDirectedWalk ways) walks are.closed

    abbrev indexes : List ℕ
    indexes = flat_map (λ w. w) walks

    low : AllByRecursion (λ i. i < length ways) indexes
    low =
        AllByRecursion-flat_map (λ w. w) (λ i. i < length ways) walks
        (AllByRecursion-weaker (IsDirectedWalk ways) (λ w. AllByRecursion (λ i. i < length ways) w) (λ w k. recursion_from_All (λ i. i < length ways) w k.1.1.within) walks closed)

    -- each step is an edge
    steps_pass : list_all is_edge (steps (map (contour ways) walks)) ≡ true
    steps_pass = ap (list_all is_edge) (steps_of_walks walks closed) ∙ list_all-map is_edge way_at indexes ∙ all_pass_at (λ (l : Link). is_edge l.pair) ways no_link (ways_are_edges rule links links_are_ordered) indexes low

    pub steps_are_directed : directed_edges (map (contour ways) walks) ≡ steps (map (contour ways) walks)
    steps_are_directed = all_pass is_edge (steps (map (contour ways) walks)) steps_pass

    pub contours_are_proper : AreProper (map (contour ways) walks)
    contours_are_proper = record {
      points = All-from_recursion (λ c. c ≢ []) (map (contour ways) walks) (walks_have_points walks closed);
      apart = steps_pass;
    }

    pub directed_count : (test : Pair → Bool) → count_by test (directed_edges (map (contour ways) walks)) ≡ count_by test (ways_of ways)
    directed_count test =
        ap (count_by test) (steps_are_directed ∙ steps_of_walks walks closed)
        ∙ sum_by-map (λ (e : Pair). cond (test e) 1 0) way_at indexes
        ∙ sym (sum_by-map (λ (l : Link). cond (test l.pair) 1 0) (λ i. get_or ways i no_link) indexes)
        ∙ count_by-once_each (λ (l : Link). test l.pair) ways no_link indexes low are.once
        ∙ sym (sum_by-map (λ (e : Pair). cond (test e) 1 0) (λ (l : Link). l.pair) ways)

    -- without directions they are the links
    pub edges_count : (test : Pair → Bool) → count_by test (edges (map (contour ways) walks)) ≡ count_by test (ways_of links)
    edges_count test =
        sum_by-map (λ (e : Pair). cond (test e) 1 0) in_order (directed_edges (map (contour ways) walks))
        ∙ directed_count (λ e. test (in_order e))
        ∙ sym (sum_by-map (λ (e : Pair). cond (test e) 1 0) in_order (ways_of ways))
        ∙ ap (count_by test) (ways_in_order rule links links_are_ordered)

pub contours_take_links : ContoursTakeLinks
contours_take_links rule kept walks ordered are test = directed_count rule kept ordered walks are test
