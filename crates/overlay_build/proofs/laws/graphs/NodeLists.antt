-- Lists of nodes and of ends, element by element.
use Rattle.std.proofs.Common.{◌≡◌, refl, sym, ap, ap₂, ◌∙◌, arith, inl, inr, append_assoc, ℕ, ◌+◌, ◌-◌, ◌<◌, ◌≤◌, ◌%◌, ◌==◌, zero-add, Bool, true, false, ◌&&◌, ◌||◌, List, [], ◌∷◌, ◌++◌, map, take, drop, length, get_or, set, if◌then◌else◌}
use Rattle.std.specs.Prelude.{nat_le, min, ℤ}
use Rattle.std.specs.List.{list_all, enumerate_from}
use Rattle.std.proofs.lemmas.Bool.{and_parts, cases_lt, eqb-true, eq-eqb, false≢true}
use Rattle.std.proofs.lemmas.List.{append-nil, get_or_default, get_or-map, length-map, drop_more, take_all, take_more, map-append, get_or-set_same, get_or-set_other}
use Rattle.std.proofs.lemmas.List.Sums.{AllPass-from_list_all}
use Rattle.std.proofs.lemmas.List.Folds.{list_all-map, list_any-append}
use Rattle.std.proofs.lemmas.List.FromFn.{length-enumerate_from, get_or-enumerate_from}
use Rattle.overlay_geometry.specs.Coordinates.{is_pair_in_range}
use Rattle.overlay_geometry.specs.InRange.{IsPointInRange}
use Rattle.overlay_geometry.specs.Points.{Point, Pair, point_lt}
use Rattle.overlay_geometry.proofs.laws.geometry.Points.{point_lt-irreflexive}
use Rattle.overlay_sweep.proofs.laws.live.StartPoints.{each_more, take_drop-more}
use Rattle.overlay_build.specs.steps.LinksOf.{starts_of, indexes_between, AreEndsInRange, IsNextPoint, IsRunAt}
use Rattle.overlay_geometry.specs.PointOf.{point_of}
use Rattle.overlay_build.specs.declared.build.link_ends.PackedEnd.{PackedEnd}
use Rattle.overlay_build.specs.steps.EndOf.{WholeEnd, unpacked, end_of, ends_of}
use Rattle.overlay_base.specs.declared.overlay_core.link.OverlayLink.{OverlayLink}
use Rattle.overlay_build.specs.GraphOf.{link_of, pairs_of_links, names_node}
use Rattle.overlay_build.proofs.laws.graphs.PackedEnds.{unpacked-not_less}
use Rattle.overlay_build.specs.Graph.{Node, Graph, is_bridge, is_valid_graph, has_even_nodes}
use Rattle.std.proofs.Math.Bool.{or-true}

-- ---- what is left of a list

pub rest-next : {X : Type 0} (xs : List X) (j : ℕ) (x : X) → j < length xs → x ≡ get_or xs j x → drop j xs ≡ x ∷ drop (j + 1) xs
rest-next xs j x lt is = drop_more xs j x lt ∙ ap (λ y. y ∷ drop (j + 1) xs) (sym is)

-- one element more, under a function
pub map-take_next : {X Y : Type 0} (f : X → Y) (xs : List X) (i : ℕ) (x : X) → i < length xs → x ≡ get_or xs i x → map f (take (i + 1) xs) ≡ map f (take i xs) ++ f x ∷ []
map-take_next f xs i x lt is = ap (map f) (take_more xs i x lt ∙ ap (λ y. take i xs ++ y ∷ []) (sym is)) ∙ map-append f (take i xs) (x ∷ [])

-- ---- valid graphs

-- whether a node with these indexes is a bridge, or has two or more where there are enough links
abbrev pub is_sound : Bool → List ℕ → Bool
is_sound enough indexes = length indexes == 2 || (nat_le 2 (length indexes) && enough)

both : (b t e a c : Bool) → ((b || (t && e)) && (a && (c || e))) ≡ (((b || t) && a) && ((b && c) || e))
both true t e a c = refl
both false false e a c = refl
both false true true true true = refl
both false true true true false = refl
both false true true false c = refl
both false true false true c = refl
both false true false false c = refl

sound_each : (enough : Bool) (ns : List Node) → list_all (λ n. is_sound enough n.links) ns ≡ (list_all (λ n. is_bridge n || nat_le 2 (length n.links)) ns && (list_all is_bridge ns || enough))
sound_each enough [] = refl
sound_each enough (n ∷ ns) =
    ap (λ b. is_sound enough n.links && b) (sound_each enough ns)
    ∙ both (is_bridge n) (nat_le 2 (length n.links)) enough (list_all (λ n. is_bridge n || nat_le 2 (length n.links)) ns) (list_all is_bridge ns)

-- a graph is valid where each of its nodes is sound
pub sound_is_valid : {N : Type 0} (indexes : N → List ℕ) (nodes : List N) (graph : Graph) (enough : Bool) → map indexes nodes ≡ map (λ n. n.links) graph.nodes → enough ≡ nat_le (length graph.nodes) (length graph.links) →
    list_all (λ n. is_sound enough (indexes n)) nodes ≡ is_valid_graph graph
unfolding is_valid_graph
sound_is_valid indexes nodes graph enough same e =
    sym (list_all-map (is_sound enough) indexes nodes)
    ∙ ap (list_all (is_sound enough)) same
    ∙ list_all-map (is_sound enough) (λ (n : Node). n.links) graph.nodes
    ∙ sound_each enough graph.nodes
    ∙ ap (λ b. list_all (λ n. is_bridge n || nat_le 2 (length n.links)) graph.nodes && (list_all is_bridge graph.nodes || b)) e

-- and whether an even number of links meets at each node follows from these lists
pub even_nodes-is : {N : Type 0} (indexes : N → List ℕ) (nodes : List N) (graph : Graph) → map indexes nodes ≡ map (λ n. n.links) graph.nodes → list_all (λ n. length (indexes n) % 2 == 0) nodes ≡ has_even_nodes graph
unfolding has_even_nodes
even_nodes-is indexes nodes graph same =
    sym (list_all-map (λ (ks : List ℕ). length ks % 2 == 0) indexes nodes) ∙ ap (list_all (λ (ks : List ℕ). length ks % 2 == 0)) same ∙ list_all-map (λ (ks : List ℕ). length ks % 2 == 0) (λ (n : Node). n.links) graph.nodes

-- ---- ends in whole numbers

pub end_point_at : (ends : List PackedEnd) (k : ℕ) (x : PackedEnd) (d : WholeEnd) → k < length ends → (get_or (ends_of ends) k d).point ≡ unpacked (get_or ends k x).key
end_point_at ends k x d h = ap (λ (e : WholeEnd). e.point) (get_or-map end_of ends k x d h)

pub end_at : (ends : List PackedEnd) (k : ℕ) (x : PackedEnd) (d : WholeEnd) → k < length ends → x ≡ get_or ends k x → get_or (ends_of ends) k d ≡ end_of x
end_at ends k x d h is = get_or-map end_of ends k x d h ∙ ap end_of (sym is)

pub length-ends : (ends : List PackedEnd) → length (ends_of ends) ≡ length ends
length-ends ends = length-map ends end_of

-- the ends of one of several links that are all in range
pub ends_in_range : {I D : Type 0} (whole : I → ℤ) (least greatest : I) (links : List (OverlayLink I D)) (k : ℕ) (d : OverlayLink I D) → AreEndsInRange whole least greatest links → k < length links →
    IsPointInRange whole least greatest (get_or links k d).a.point × IsPointInRange whole least greatest (get_or links k d).b.point
ends_in_range whole least greatest links k d all h =
    let each = AllPass-from_list_all (λ (l : OverlayLink _ _). is_pair_in_range (whole least) (whole greatest) (link_of whole l).pair) links (sym (list_all-map (is_pair_in_range (whole least) (whole greatest)) (λ (l : OverlayLink _ _). (link_of whole l).pair) links) ∙ all) in
    and_parts _ _ (each k d h)

-- the ends of links, numbered in their order
abbrev pub numbered : (Pair → Point) → List Pair → List WholeEnd
numbered side links = map (λ e. record { index = e.0; point = side e.1 }) (enumerate_from 0 links)

pub numbered-more : {X : Type 0} (side : Pair → Point) (f : X → Pair) (xs : List X) (i : ℕ) (x : X) → i < length xs → x ≡ get_or xs i x →
    take (i + 1) (numbered side (map f xs)) ≡ take i (numbered side (map f xs)) ++ record { index = i; point = side (f x) } ∷ []
numbered-more side f xs i x h is =
    let within : i < length (map f xs) = rw length-map h in
    let listed : i < length (enumerate_from 0 (map f xs)) = rw length-enumerate_from within in
    let all : i < length (numbered side (map f xs)) = rw length-map listed in
    let first : get_or (numbered side (map f xs)) i (record { index = i; point = side (f x) }) ≡ record { index = i; point = side (f x) } =
    get_or-map (λ (e : ℕ × Pair). record { index = e.0; point = side e.1 }) (enumerate_from 0 (map f xs)) i (0, f x) (record { index = i; point = side (f x) }) listed
    ∙ ap (λ (e : ℕ × Pair). record { index = e.0; point = side e.1 }) (get_or-enumerate_from 0 (map f xs) i (0, f x) within)
    ∙ ap₂ (λ (n : ℕ) (s : Pair). record { index = n; point = side s }) (zero-add i) (get_or-map f xs i x (f x) h ∙ ap f (sym is)) in
    take_more (numbered side (map f xs)) i (record { index = i; point = side (f x) }) all ∙ ap (λ e. take i (numbered side (map f xs)) ++ e ∷ []) first

pub numbered-all : {X : Type 0} (side : Pair → Point) (f : X → Pair) (xs : List X) (i : ℕ) → length xs ≤ i → take i (numbered side (map f xs)) ≡ numbered side (map f xs)
numbered-all side f xs i h =
    let n : length (numbered side (map f xs)) ≡ length xs = length-map (enumerate_from 0 (map f xs)) _ ∙ length-enumerate_from 0 (map f xs) ∙ length-map xs f in
    take_all i (numbered side (map f xs)) (omega (arith, n, h))

-- ---- runs of ends at a point

-- The ends from a place up to another lie at a point, and the indexes of their links follow on others.
pub record IsRunListed (ends : List WholeEnd) (p : Point) (from next : ℕ) (old indexes : List ℕ) : Type 0 where
  pub order : from ≤ next
  pub within : next ≤ length ends
  pub same : (k : ℕ) (d : WholeEnd) → from ≤ k → k < next → (get_or ends k d).point ≡ p
  pub listed : indexes ≡ old ++ indexes_between ends from next

pub run-none : (ends : List WholeEnd) (p : Point) (from : ℕ) (old : List ℕ) → from ≤ length ends → IsRunListed ends p from from old old
run-none ends p from old h = record {
  order = omega arith;
  within = h;
  same = λ k d l m. absurd (omega (arith, l, m));
  listed = let none : from - from ≡ 0 = omega arith in rw none (sym (append-nil old));
}

-- one end more
pub indexes_between-more : (ends : List WholeEnd) (from next : ℕ) (e : WholeEnd) → from ≤ next → next < length ends → get_or ends next e ≡ e → indexes_between ends from (next + 1) ≡ indexes_between ends from next ++ e.index ∷ []
indexes_between-more ends from next e order h here = ap (map (λ (x : WholeEnd). x.index)) (take_drop-more ends from next e order h here) ∙ map-append (λ (x : WholeEnd). x.index) (take (next - from) (drop from ends)) (e ∷ [])

pub run-more : (ends : List WholeEnd) (p : Point) (from next : ℕ) (old indexes : List ℕ) (e : WholeEnd) → IsRunListed ends p from next old indexes → next < length ends → get_or ends next e ≡ e → e.point ≡ p → IsRunListed ends p from (next + 1) old (indexes ++ e.index ∷ [])
run-more ends p from next old indexes e run h here at = record {
  order = let o = run.order in omega (arith, o);
  within = omega (arith, h);
  same = λ k d l m. each_more (λ (k : ℕ) (d : WholeEnd). from ≤ k → (get_or ends k d).point ≡ p) next (λ k d m l. run.same k d l m) (λ d l. ap (λ (x : WholeEnd). x.point) (get_or_default ends next d e h ∙ here) ∙ at) k d m l;
  listed =
      ap (λ (l : List ℕ). l ++ e.index ∷ []) run.listed
      ∙ append_assoc old (indexes_between ends from next) (e.index ∷ [])
      ∙ ap (λ l. old ++ l) (sym (indexes_between-more ends from next e run.order h here));
}

-- a run ends where the next end lies elsewhere, or where there is none
pub run-ends : (ends : List WholeEnd) (p : Point) (from next : ℕ) (old indexes : List ℕ) → IsRunListed ends p from next old indexes → ((d : WholeEnd) → next < length ends → (get_or ends next d).point ≡ p → ⊥) → IsRunAt ends p from next
run-ends ends p from next old indexes run other = record { order = run.order; within = run.within; same = run.same; other = other }

-- the next point is that at the front of one list, and that of the other is not before it
pub next-first : (firsts seconds : List WholeEnd) (start end : ℕ) (p : Point) → start < length firsts → ((d : WholeEnd) → (get_or firsts start d).point ≡ p) → ((d : WholeEnd) → end < length seconds → point_lt (get_or seconds end d).point p ≡ false) → IsNextPoint firsts seconds start end p
next-first firsts seconds start end p h here other = record { first = λ d l. ap (λ q. point_lt q p) (here d) ∙ point_lt-irreflexive p; second = other; own = inl (h, here) }

pub next-second : (firsts seconds : List WholeEnd) (start end : ℕ) (p : Point) → end < length seconds → ((d : WholeEnd) → (get_or seconds end d).point ≡ p) → ((d : WholeEnd) → start < length firsts → point_lt (get_or firsts start d).point p ≡ false) → IsNextPoint firsts seconds start end p
next-second firsts seconds start end p h here other = record { first = other; second = λ d l. ap (λ q. point_lt q p) (here d) ∙ point_lt-irreflexive p; own = inr (h, here) }

-- so it is the lesser of the two, which their numbers show
pub next-lesser : (firsts seconds : List WholeEnd) (start end j k : ℕ) → start < length firsts → ((d : WholeEnd) → (get_or firsts start d).point ≡ unpacked j) → end < length seconds → ((d : WholeEnd) → (get_or seconds end d).point ≡ unpacked k) →
    IsNextPoint firsts seconds start end (unpacked (min k j))
next-lesser firsts seconds start end j k h first l second = elim (cases_lt k j) [
  | inl less ↦
      (let is : min k j ≡ k = omega (arith, less) in
      rw is (next-second firsts seconds start end (unpacked k) l second (λ d _. ap (λ q. point_lt q (unpacked k)) (first d) ∙ unpacked-not_less j k (omega (arith, less)))))
  | inr up ↦
      (let is : min k j ≡ j = omega (arith, up) in
      rw is (next-first firsts seconds start end (unpacked j) h first (λ d _. ap (λ q. point_lt q (unpacked j)) (second d) ∙ unpacked-not_less k j up)))
]

-- the first ends of links of code
pub start_at : {I D : Type 0} (whole : I → ℤ) (links : List (OverlayLink I D)) (k : ℕ) (x : OverlayLink I D) (d : WholeEnd) → k < length links → x ≡ get_or links k x → get_or (starts_of whole links) k d ≡ record { index = k; point = point_of whole x.a.point }
start_at whole links k x d h is =
    let f : OverlayLink _ _ → Pair = λ l. (link_of whole l).pair in
    let within : k < length (map f links) = rw length-map h in
    let listed : k < length (enumerate_from 0 (map f links)) = rw length-enumerate_from within in
    get_or-map (λ (e : ℕ × Pair). record { index = e.0; point = e.1.a }) (enumerate_from 0 (map f links)) k (0, f x) d listed
    ∙ ap (λ (e : ℕ × Pair). record { index = e.0; point = e.1.a }) (get_or-enumerate_from 0 (map f links) k (0, f x) within)
    ∙ ap₂ (λ (n : ℕ) (s : Pair). record { index = n; point = s.a }) (zero-add k) (get_or-map f links k x (f x) h ∙ ap f (sym is))

pub start_point_at : {I D : Type 0} (whole : I → ℤ) (links : List (OverlayLink I D)) (k : ℕ) (x : OverlayLink I D) (d : WholeEnd) → k < length links → (get_or (starts_of whole links) k d).point ≡ point_of whole (get_or links k x).a.point
start_point_at whole links k x d h = ap (λ (e : WholeEnd). e.point) (start_at whole links k (get_or links k x) d h (get_or_default links k x (get_or links k x) h))

pub length-starts : {I D : Type 0} (whole : I → ℤ) (links : List (OverlayLink I D)) → length (starts_of whole links) ≡ length links
length-starts whole links = length-map (enumerate_from 0 (pairs_of_links whole links)) _ ∙ length-enumerate_from 0 (pairs_of_links whole links) ∙ length-map links _

-- ---- elements changed at some indexes

or_false : (a b : Bool) → b ≡ false → (a || (b || false)) ≡ a
or_false true b e = refl
or_false false b e = rw e refl

-- one more element is changed, and the others stay
pub changed_next : {X : Type 0} (change : X → X) → ((x : X) → change (change x) ≡ change x) → (given seen : List X) (done : List ℕ) (j : ℕ) (y : X) →
    length seen ≡ length given → j < length seen →
    ((k : ℕ) (d : X) → k < length given → get_or seen k d ≡ (if names_node k done then change (get_or given k d) else get_or given k d)) →
    ((d : X) → y ≡ change (get_or seen j d)) →
    (k : ℕ) (d : X) → k < length given → get_or (set seen j y) k d ≡ (if names_node k (done ++ j ∷ []) then change (get_or given k d) else get_or given k d)
changed_next change twice given seen done j y same before earlier made k d l =
    by (j == k) refl ∙ ap (λ b. if b then change (get_or given k d) else get_or given k d) (sym (list_any-append (λ i. i == k) done (j ∷ [])))
  where
    settle : (b : Bool) (x : _) → change (if b then change x else x) ≡ change x
    settle true x = twice x
    settle false x = refl

    by : (b : Bool) → (j == k) ≡ b → get_or (set seen j y) k d ≡ (if names_node k done || ((j == k) || false) then change (get_or given k d) else get_or given k d)
    by true e =
        let jk : j ≡ k = eqb-true j k e in
        let named : (names_node k done || ((j == k) || false)) ≡ true = ap (λ b. names_node k done || (b || false)) e ∙ or-true (names_node k done) in
        ap (λ n. get_or (set seen j y) n d) (sym jk) ∙ get_or-set_same seen j y d before ∙ made d ∙ ap (λ n. change (get_or seen n d)) jk ∙ ap change (earlier k d l) ∙ settle (names_node k done) (get_or given k d)
        ∙ ap (λ b. if b then change (get_or given k d) else get_or given k d) (sym named)
    by false e =
        get_or-set_other seen j k y d (λ h. false≢true (sym e ∙ eq-eqb j k (sym h))) ∙ earlier k d l
        ∙ ap (λ b. if b then change (get_or given k d) else get_or given k d) (sym (or_false (names_node k done) (j == k) e))
