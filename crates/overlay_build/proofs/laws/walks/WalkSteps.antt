-- Walks found link by link: what holds while a walk is under way, and between walks.
use Rattle.std.proofs.Common.{◌≡◌, ◌≢◌, ℕ, ◌+◌, ◌<◌, ◌≤◌, ◌%◌, ◌==◌, ◌⊎◌, inl, inr, zero, suc, Bool, true, false, IsTrue, List, [], ◌∷◌, ◌++◌, map, length, take, Option, unwrap_or, get_or, set, replicate, Some, refl, sym, ap, subst, ◌∙◌, arith, get_or-set_same, get_or-set_other, cond, not, if◌then◌else◌}
use Rattle.std.specs.Prelude.{ℤ, pos, count_by}
use Rattle.std.specs.List.{flat_map, All}
use Rattle.std.proofs.lemmas.Bool.{and_parts, eqb-true, eq-eqb, ltb-true, cases_lt, false≢true}
use Rattle.std.proofs.lemmas.List.{length-map, length-append, take-append-le, length-set, get_or-map, get_or_default, length-replicate, append_assoc, append-nil}
use Rattle.std.proofs.Math.Seq.{take-append_seam}
use Rattle.std.proofs.lemmas.List.Folds.{list_any_at, Any-from_list_any}
use Rattle.std.proofs.lemmas.List.Sums.{sum_by-set}
use Rattle.std.proofs.lemmas.List.Elements.{All-append, All-from_recursion}
use Rattle.std.proofs.lemmas.Option.{slice_get-get_or}
use Rattle.std.proofs.lemmas.Grind.{flat_map-append}
use Rattle.overlay_geometry.specs.Points.{Point}
use Rattle.overlay_base.specs.declared.overlay_core.link.OverlayLink.{OverlayLink}
use Rattle.overlay_build.specs.Graph.{Filled, Link, Node, node_points, graph_of, has_even_nodes}
use Rattle.overlay_build.specs.GraphOf.{link_of, kept_of, graph_with, HoldGraph}
use Rattle.overlay_build.specs.steps.UnusedLinks.{meets, unused_degree, AreUnusedEven, AreCounted, ArePassed}
use Rattle.overlay_build.specs.Walks.{other_node, walk_end, IsClosedWalk, IsFirstReturn, AreClosedWalks}
use Rattle.overlay_build.proofs.laws.graphs.Indexes.{has_number}
use Rattle.overlay_build.proofs.laws.graphs.GraphLaws.{pairs_of, node_of, length-links, length-nodes, node_at, links_at-exactly, names_its_nodes, stands_at_its_nodes}
use Rattle.overlay_build.proofs.laws.walks.Walks.{link_degree-even, unused_degree-all, none_left, IsWalking, IsWalking-start, IsWalking-step, walk_end-push, AreCounted-none, AreCounted-push, AreClosedWalks-from}

-- ---- links, and nodes that list their indexes

-- what walks need of a graph
pub record ListLinks (links : List Link) (nodes : List (List ℕ)) : Type 0 where
  pub a_in : (i : ℕ) (d : Link) → i < length links → (get_or links i d).a_node < length nodes
  pub b_in : (i : ℕ) (d : Link) → i < length links → (get_or links i d).b_node < length nodes
  pub listed : (u k : ℕ) → u < length nodes → k < length (get_or nodes u []) → get_or (get_or nodes u []) k 0 < length links
  pub meet : (u k : ℕ) (d : Link) → u < length nodes → k < length (get_or nodes u []) → IsTrue (meets (get_or links (get_or (get_or nodes u []) k 0) d) u)
  pub complete : (i u : ℕ) (d : Link) → i < length links → u < length nodes → IsTrue (meets (get_or links i d) u) → has_number i (get_or nodes u []) ≡ true
  pub none_unused : (used : List Bool) (u : ℕ) → u < length nodes → ((k : ℕ) → k < length (get_or nodes u []) → get_or used (get_or (get_or nodes u []) k 0) false ≡ true) → unused_degree used links u ≡ 0

has_own : (ks : List ℕ) (k : ℕ) → k < length ks → has_number (get_or ks k 0) ks ≡ true
has_own ks k h = list_any_at (λ j. j == get_or ks k 0) ks k 0 h (eq-eqb (get_or ks k 0) (get_or ks k 0) refl)

used_as : (used : List Bool) (i : ℕ) → get_or used i false ≡ true → get_or used i true ≡ true
used_as [] i e = refl
used_as (b ∷ used) zero e = e
used_as (b ∷ used) (suc i) e = used_as used i e

-- a graph's links and nodes are such
module _ (kept : List Filled) where
  abbrev no_link : Link
  no_link = record { pair = record { a = record { x = pos 0; y = pos 0 }; b = record { x = pos 0; y = pos 0 } }; fill = 0; a_node = 0; b_node = 0 }

  abbrev no_node : Node
  no_node = record { point = record { x = pos 0; y = pos 0 }; links = [] }

  -- the lists of its nodes
  abbrev pub lists : List (List ℕ)
  lists = map (λ (n : Node). n.links) (graph_of kept).nodes

  many : length lists ≡ length (graph_of kept).nodes
  many = length-map (graph_of kept).nodes (λ (n : Node). n.links)

  listed_at : (u : ℕ) → u < length lists → get_or lists u [] ≡ (get_or (graph_of kept).nodes u no_node).links
  listed_at u h = get_or-map (λ (n : Node). n.links) (graph_of kept).nodes u no_node [] (rw many at h)

  link_in : (i u : ℕ) → u < length lists → has_number i (get_or lists u []) ≡ true → i < length kept
  link_in i u h e =
      let n : u < length (node_points (pairs_of kept)) = rw (many ∙ length-nodes kept) at h in
      let p : Point = get_or (node_points (pairs_of kept)) u no_node.point in
      let here : has_number i (get_or lists u []) ≡ has_number i (node_of kept p).links = ap (has_number i) (listed_at u h ∙ ap (λ (n : Node). n.links) (node_at kept u no_node no_node.point n)) in
      let stands = and_parts _ _ (sym (links_at-exactly (pairs_of kept) p i no_link.pair) ∙ sym here ∙ e) in
      let low : i < length (pairs_of kept) = ltb-true i (length (pairs_of kept)) stands.0 in
      rw (length-map kept (λ (f : Filled). f.pair)) at low

  pub ListLinks-graph : ListLinks (graph_of kept).links lists
  ListLinks-graph = record {
    a_in = λ i d h. let low : i < length kept = rw (length-links kept) at h in subst (λ n. (get_or (graph_of kept).links i d).a_node < n) (sym many) (names_its_nodes kept i d low).a_in;
    b_in = λ i d h. let low : i < length kept = rw (length-links kept) at h in subst (λ n. (get_or (graph_of kept).links i d).b_node < n) (sym many) (names_its_nodes kept i d low).b_in;
    listed = λ u k h l. let low = link_in (get_or (get_or lists u []) k 0) u h (has_own (get_or lists u []) k l) in rw (length-links kept) low;
    meet = λ u k d h l.
        let i : ℕ = get_or (get_or lists u []) k 0 in
        let low = link_in i u h (has_own (get_or lists u []) k l) in
        sym (stands_at_its_nodes kept i u d no_node low (rw many at h)) ∙ sym (ap (has_number i) (listed_at u h)) ∙ has_own (get_or lists u []) k l;
    complete = λ i u d h l m. let low : i < length kept = rw (length-links kept) at h in ap (has_number i) (listed_at u l) ∙ stands_at_its_nodes kept i u d no_node low (rw many at l) ∙ m;
    none_unused = λ used u h all. none_left kept used u no_node (rw many at h) (λ i e.
        let found = Any-from_list_any (λ k. k == i) (get_or lists u []) (ap (has_number i) (listed_at u h) ∙ e) in
        let is : get_or (get_or lists u []) found.0 0 ≡ i = get_or_default (get_or lists u []) found.0 0 found.1 found.2 ∙ found.3 ∙ eqb-true found.1 i found.4 in
        used_as used i (ap (λ n. get_or used n false) (sym is) ∙ all found.0 found.2));
  }

module _ {N I D : Type 0} (indexes : N → List ℕ) (is_canonical : N → Bool) (whole : I → ℤ) (nodes : List N) (links : List (OverlayLink I D)) where
  -- so are those that hold one
  pub ListLinks-held : HoldGraph indexes is_canonical whole nodes links (graph_with whole links) → ListLinks (map (link_of whole) links) (map indexes nodes)
  ListLinks-held holds =
      subst (λ ls. ListLinks ls (map indexes nodes)) (sym holds.same_links)
      (subst (λ ns. ListLinks (graph_with whole links).links ns) (sym holds.same_nodes) (ListLinks-graph (kept_of whole links)))

  -- and where each node has an even number of links, an even number is unused at first
  pub AreUnusedEven-first : HoldGraph indexes is_canonical whole nodes links (graph_with whole links) → IsTrue (has_even_nodes (graph_with whole links)) → AreUnusedEven (map (link_of whole) links) (replicate (length links) false)
  AreUnusedEven-first holds even =
      subst (λ n. AreUnusedEven (map (link_of whole) links) (replicate n false)) (length-map links (link_of whole))
      (subst (λ ls. AreUnusedEven ls (replicate (length ls) false)) (sym holds.same_links)
      (record { even = λ u. ap (λ n. n % 2) (unused_degree-all (graph_with whole links).links u) ∙ link_degree-even (kept_of whole links) u even }))

-- the end away from a node, as code has it
pub other_end : {I D : Type 0} (whole : I → ℤ) (l : OverlayLink I D) (node : ℕ) → IsTrue (meets (link_of whole l) node) → other_node node (link_of whole l) ≡ Some (if l.a.id == node then l.b else l.a).id
other_end whole l node h = by (l.a.id == node) refl (l.b.id == node) refl
  where
    by : (b : Bool) → (l.a.id == node) ≡ b → (c : Bool) → (l.b.id == node) ≡ c → other_node node (link_of whole l) ≡ Some (if l.a.id == node then l.b else l.a).id
    by true e c k = rw e refl
    by false e true k = rw (e, k) refl
    by false e false k = let none : false ≡ true = rw (e, k) at h in cc

-- ---- used links and cursors

free_as : (used : List Bool) (i : ℕ) → i < length used → get_or used i false ≡ false → get_or used i true ≡ false
free_as used i h e = get_or_default used i true false h ∙ e

-- a used link stays used
pub set_keeps : (used : List Bool) (i j : ℕ) → get_or used j false ≡ true → get_or (set used i true) j false ≡ true
set_keeps [] i j h = h
set_keeps (b ∷ used) zero zero h = refl
set_keeps (b ∷ used) zero (suc j) h = h
set_keeps (b ∷ used) (suc i) zero h = h
set_keeps (b ∷ used) (suc i) (suc j) h = set_keeps used i j h

-- each use of a link leaves fewer unused
pub fewer_left : (used : List Bool) (i : ℕ) → i < length used → get_or used i false ≡ false → count_by not (set used i true) < count_by not used
fewer_left used i h free =
    let sums = sum_by-set (λ b. cond (not b) 1 0) used i true false h in
    let sum : count_by not (set used i true) + 1 ≡ count_by not used + 0 = rw free at sums in
    omega (arith, sum)

pub ArePassed-none : (nodes : List (List ℕ)) (used : List Bool) (n : ℕ) → n ≡ length nodes → ArePassed nodes used (replicate n 0)
ArePassed-none nodes used n same = record {
  each = length-replicate n 0 ∙ same;
  within = λ u h. rw (zeros n u) (omega arith);
  passed = λ u k h l. let low : k < 0 = rw (zeros n u) at l in absurd (omega (arith, low));
}
  where
    zeros : (n u : ℕ) → get_or {A = ℕ} (replicate n 0) u 0 ≡ 0
    zeros zero u = refl
    zeros (suc n) zero = refl
    zeros (suc n) (suc u) = zeros n u

-- one link more is used, and the cursor of a node may go on past used links
pub ArePassed-step : (nodes : List (List ℕ)) (used : List Bool) (cursors : List ℕ) (u place i : ℕ) → ArePassed nodes used cursors → u < length nodes → place ≤ length (get_or nodes u []) →
    ((k : ℕ) → k < place → get_or used (get_or (get_or nodes u []) k 0) false ≡ true) → ArePassed nodes (set used i true) (set cursors u place)
ArePassed-step nodes used cursors u place i p h l all = record {
  each = length-set cursors u place ∙ p.each;
  within = λ v hv. within v hv (u == v) refl;
  passed = λ v k hv lk. set_keeps used i (get_or (get_or nodes v []) k 0) (passed v k hv lk (u == v) refl);
}
  where
    inside : u < length cursors
    inside = rw p.each h

    here : (v : ℕ) → (u == v) ≡ true → get_or (set cursors u place) v 0 ≡ place
    here v e = ap (λ n. get_or (set cursors u place) n 0) (sym (eqb-true u v e)) ∙ get_or-set_same cursors u place 0 inside

    elsewhere : (v : ℕ) → (u == v) ≡ false → get_or (set cursors u place) v 0 ≡ get_or cursors v 0
    elsewhere v e = get_or-set_other cursors u v place 0 (λ k. false≢true (sym e ∙ eq-eqb u v (sym k)))

    within : (v : ℕ) → v < length nodes → (b : Bool) → (u == v) ≡ b → get_or (set cursors u place) v 0 ≤ length (get_or nodes v [])
    within v hv true e = rw (here v e) (subst (λ n. place ≤ length (get_or nodes n [])) (eqb-true u v e) l)
    within v hv false e = rw (elsewhere v e) (p.within v hv)

    passed : (v k : ℕ) → v < length nodes → k < get_or (set cursors u place) v 0 → (b : Bool) → (u == v) ≡ b → get_or used (get_or (get_or nodes v []) k 0) false ≡ true
    passed v k hv lk true e = subst (λ n. get_or used (get_or (get_or nodes n []) k 0) false ≡ true) (eqb-true u v e) (all k (rw (here v e) at lk))
    passed v k hv lk false e = p.passed v k hv (rw (elsewhere v e) at lk)

-- where an unused link is left at a node, the used ones are not all that it lists
pub one_is_left : (links : List Link) (nodes : List (List ℕ)) (used : List Bool) (u place : ℕ) → ListLinks links nodes → u < length nodes → 0 < unused_degree used links u → place ≤ length (get_or nodes u []) →
    ((k : ℕ) → k < place → get_or used (get_or (get_or nodes u []) k 0) false ≡ true) → place < length (get_or nodes u [])
one_is_left links nodes used u place g h left l all = by (cases_lt place (length (get_or nodes u [])))
  where
    by : ((place < length (get_or nodes u [])) ⊎ (length (get_or nodes u []) ≤ place)) → place < length (get_or nodes u [])
    by (inl low) = low
    by (inr high) = let none = g.none_unused used u h (λ k lk. all k (omega (arith, lk, high))) in absurd (omega (arith, left, none))

-- what a node lists, as code has it
pub list_of : {N : Type 0} (indexes : N → List ℕ) (nodes given : List N) (u : ℕ) (n : N) (ks : List ℕ) → given ≡ nodes → u < length nodes → n ≡ get_or given u n → ks ≡ indexes n → ks ≡ get_or (map indexes nodes) u []
list_of indexes nodes given u n ks same h is e = e ∙ ap indexes (is ∙ ap (λ ns. get_or ns u n) same) ∙ sym (get_or-map indexes nodes u n [] h)

-- ---- while a walk is under way

-- from a start to a node, over links that were unused before
pub record IsUnderWay (links : List Link) (nodes : List (List ℕ)) (before used : List Bool) (cursors : List ℕ) (start node : ℕ) (walk : List ℕ) : Type 0 where
  pub node_in : node < length nodes
  pub flags : length used ≡ length links
  pub passed : ArePassed nodes used cursors
  pub walking : IsWalking links used start node
  pub leads : walk_end links start walk ≡ Some node
  pub counted : (walked : List ℕ) → AreCounted before walked → AreCounted used (walked ++ walk)
  pub kept : (j : ℕ) → get_or before j false ≡ true → get_or used j false ≡ true

pub IsUnderWay-start : (links : List Link) (nodes : List (List ℕ)) (used : List Bool) (cursors : List ℕ) (start : ℕ) → start < length nodes → length used ≡ length links → ArePassed nodes used cursors → AreUnusedEven links used → IsUnderWay links nodes used used cursors start start []
unfolding walk_end
IsUnderWay-start links nodes used cursors start h same p even = record {
  node_in = h;
  flags = same;
  passed = p;
  walking = IsWalking-start links used start even.even;
  leads = refl;
  counted = λ walked c. subst (AreCounted used) (sym (append-nil walked)) c;
  kept = λ j e. e;
}

pub IsUnderWay-step : (links : List Link) (nodes : List (List ℕ)) (before used : List Bool) (cursors after : List ℕ) (start node next i : ℕ) (walk : List ℕ) (d : Link) → IsUnderWay links nodes before used cursors start node walk → next < length nodes → i < length links →
    get_or used i false ≡ false → other_node node (get_or links i d) ≡ Some next → ArePassed nodes (set used i true) after → IsUnderWay links nodes before (set used i true) after start next (walk ++ (i ∷ []))
IsUnderWay-step links nodes before used cursors after start node next i walk d w n h free other p =
    let inside : i < length used = rw w.flags h in
    record {
      node_in = n;
      flags = length-set used i true ∙ w.flags;
      passed = p;
      walking = IsWalking-step links used start node next i d w.walking h (free_as used i inside free) other;
      leads = walk_end-push links start walk i ∙ rw (w.leads, slice_get-get_or links i d h) other;
      counted = λ walked c. subst (AreCounted (set used i true)) (append_assoc walked walk (i ∷ [])) (AreCounted-push used (walked ++ walk) i (w.counted walked c) inside free);
      kept = λ j e. set_keeps used i j (w.kept j e);
    }

pub walk_is_some : (walk : List ℕ) (i : ℕ) → walk ++ (i ∷ []) ≢ []
walk_is_some [] i e = cc
walk_is_some (j ∷ walk) i e = cc

-- a walk that comes back at its end, if at all
abbrev pub IsAway : List Link → ℕ → List ℕ → Type 0
IsAway links start walk = (k : ℕ) → 0 < k → k < length walk → walk_end links start (take k walk) ≢ Some start

pub IsAway-first : (links : List Link) (start i : ℕ) → IsAway links start ([] ++ (i ∷ []))
IsAway-first links start i = λ k some within. absurd (omega (arith, some, within))

pub IsAway-push : (links : List Link) (start node : ℕ) (walk : List ℕ) (i : ℕ) → IsAway links start walk → walk_end links start walk ≡ Some node → node ≢ start → IsAway links start (walk ++ (i ∷ []))
IsAway-push links start node walk i away leads gone = λ k some within back. elim (cases_lt k (length walk)) [
  | inl low ↦ away k some low (ap (walk_end links start) (sym (take-append-le k walk (i ∷ []) (omega (arith, low)))) ∙ back)
  | inr high ↦
      let k_is : length walk ≡ k = omega (arith, within, length-append walk (i ∷ []), high) in
      let same : Some node ≡ Some start = sym leads ∙ ap (walk_end links start) (sym (take-append_seam walk (i ∷ [])) ∙ ap (λ n. take n (walk ++ (i ∷ []))) k_is) ∙ back in
      gone (ap (λ (o : Option ℕ). unwrap_or o node) same)
]

-- ---- between walks

-- closed walks over just the used links, among them all before an index
pub record HaveWalked (links : List Link) (nodes : List (List ℕ)) (used : List Bool) (cursors : List ℕ) (walks : List (List ℕ)) (first : ℕ) : Type 0 where
  pub flags : length used ≡ length links
  pub passed : ArePassed nodes used cursors
  pub even : AreUnusedEven links used
  pub closed : All (IsClosedWalk links) walks
  pub first_return : All (IsFirstReturn links) walks
  pub counted : AreCounted used (flat_map (λ walk. walk) walks)
  pub all : (j : ℕ) → j < first → get_or used j false ≡ true

pub HaveWalked-none : (links : List Link) (nodes : List (List ℕ)) (n m : ℕ) → n ≡ length links → m ≡ length nodes → AreUnusedEven links (replicate n false) → HaveWalked links nodes (replicate n false) (replicate m 0) [] 0
HaveWalked-none links nodes n m same each even = record {
  flags = length-replicate n false ∙ same;
  passed = ArePassed-none nodes (replicate n false) m each;
  even = even;
  closed = All-from_recursion (IsClosedWalk links) [] tt;
  first_return = All-from_recursion (IsFirstReturn links) [] tt;
  counted = AreCounted-none n;
  all = λ j l. absurd (omega (arith, l));
}

up_to : (used : List Bool) (first : ℕ) → ((j : ℕ) → j < first → get_or used j false ≡ true) → get_or used first false ≡ true → (j : ℕ) → j < first + 1 → get_or used j false ≡ true
up_to used first before here j l = by (cases_lt j first)
  where
    by : ((j < first) ⊎ (first ≤ j)) → get_or used j false ≡ true
    by (inl low) = before j low
    by (inr high) = let same : first ≡ j = omega (arith, l, high) in ap (λ n. get_or used n false) (sym same) ∙ here

-- a used link is passed over
pub HaveWalked-over : (links : List Link) (nodes : List (List ℕ)) (used : List Bool) (cursors : List ℕ) (walks : List (List ℕ)) (first : ℕ) → HaveWalked links nodes used cursors walks first → get_or used first false ≡ true → HaveWalked links nodes used cursors walks (first + 1)
HaveWalked-over links nodes used cursors walks first w here = record { flags = w.flags; passed = w.passed; even = w.even; closed = w.closed; first_return = w.first_return; counted = w.counted; all = up_to used first w.all here }

-- one walk more
pub HaveWalked-more : (links : List Link) (nodes : List (List ℕ)) (used after : List Bool) (cursors next : List ℕ) (walks : List (List ℕ)) (walk : List ℕ) (first : ℕ) → HaveWalked links nodes used cursors walks first → length after ≡ length used → ArePassed nodes after next → AreUnusedEven links after → IsClosedWalk links walk → IsFirstReturn links walk →
    ((walked : List ℕ) → AreCounted used walked → AreCounted after (walked ++ walk)) → ((j : ℕ) → get_or used j false ≡ true → get_or after j false ≡ true) → get_or after first false ≡ true → HaveWalked links nodes after next (walks ++ (walk ∷ [])) (first + 1)
HaveWalked-more links nodes used after cursors next walks walk first w same passed even closed returns counted kept here = record {
  flags = same ∙ w.flags;
  passed = passed;
  even = even;
  closed = All-append (IsClosedWalk links) walks (walk ∷ []) w.closed (All-from_recursion (IsClosedWalk links) (walk ∷ []) (closed, tt));
  first_return = All-append (IsFirstReturn links) walks (walk ∷ []) w.first_return (All-from_recursion (IsFirstReturn links) (walk ∷ []) (returns, tt));
  counted = subst (AreCounted after) (sym (flat_map-append (λ (walk : List ℕ). walk) walks (walk ∷ []) ∙ ap (λ ws. flat_map (λ (walk : List ℕ). walk) walks ++ ws) (append-nil walk))) (counted (flat_map (λ walk. walk) walks) w.counted);
  all = up_to after first (λ j l. kept j (w.all j l)) here;
}

-- when all links are passed over
pub HaveWalked-all : (links : List Link) (nodes : List (List ℕ)) (used : List Bool) (cursors : List ℕ) (walks : List (List ℕ)) (first : ℕ) → HaveWalked links nodes used cursors walks first → length links ≤ first → AreClosedWalks links walks
HaveWalked-all links nodes used cursors walks first w done = AreClosedWalks-from links used walks w.closed w.first_return w.counted (λ i h. w.all i (omega (arith, h, done)))

-- ---- walks over links as code has them

pub ArePassed-use : (nodes : List (List ℕ)) (used : List Bool) (cursors : List ℕ) (i : ℕ) → ArePassed nodes used cursors → ArePassed nodes (set used i true) cursors
ArePassed-use nodes used cursors i p = record { each = p.each; within = p.within; passed = λ u k h l. set_keeps used i (get_or (get_or nodes u []) k 0) (p.passed u k h l) }

module _ {I D : Type 0} (whole : I → ℤ) (links : List (OverlayLink I D)) (nodes : List (List ℕ)) (lists : ListLinks (map (link_of whole) links) nodes) where
  inside : (i : ℕ) → i < length links → i < length (map (link_of whole) links)
  inside i h = rw (length-map links (link_of whole)) h

  same_at : (i : ℕ) (l x : OverlayLink I D) → i < length links → l ≡ get_or links i x → get_or (map (link_of whole) links) i (link_of whole x) ≡ link_of whole l
  same_at i l x h is = get_or-map (link_of whole) links i x (link_of whole x) h ∙ ap (link_of whole) (sym is)

  a_inside : (i : ℕ) (l x : OverlayLink I D) → i < length links → l ≡ get_or links i x → l.a.id < length nodes
  a_inside i l x h is = subst (λ (k : Link). k.a_node < length nodes) (same_at i l x h is) (lists.a_in i (link_of whole x) (inside i h))

  b_inside : (i : ℕ) (l x : OverlayLink I D) → i < length links → l ≡ get_or links i x → l.b.id < length nodes
  b_inside i l x h is = subst (λ (k : Link). k.b_node < length nodes) (same_at i l x h is) (lists.b_in i (link_of whole x) (inside i h))

  -- a walk begins along a link
  pub walk_begun : (used : List Bool) (cursors : List ℕ) (first : ℕ) (l x : OverlayLink I D) → first < length links → l ≡ get_or links first x → get_or used first false ≡ false → length used ≡ length links → ArePassed nodes used cursors → AreUnusedEven (map (link_of whole) links) used →
      IsUnderWay (map (link_of whole) links) nodes used (set used first true) cursors l.a.id l.b.id (first ∷ [])
  walk_begun used cursors first l x h is free same p even =
      let there = a_inside first l x h is in
      let before = IsUnderWay-start (map (link_of whole) links) nodes used cursors l.a.id there (same ∙ sym (length-map links (link_of whole))) p even in
      IsUnderWay-step (map (link_of whole) links) nodes used used cursors cursors l.a.id l.a.id l.b.id first [] (link_of whole x) before (b_inside first l x h is) (inside first h) free
      (ap (other_node l.a.id) (same_at first l x h is) ∙ along) (ArePassed-use nodes used cursors first p)
    where
      along : other_node l.a.id (link_of whole l) ≡ Some l.b.id
      along = let e : (l.a.id == l.a.id) ≡ true = eq-eqb l.a.id l.a.id refl in rw e refl

  -- and goes on along another
  pub walk_gone_on : (before used : List Bool) (cursors after : List ℕ) (start node i : ℕ) (walk : List ℕ) (l x : OverlayLink I D) → IsUnderWay (map (link_of whole) links) nodes before used cursors start node walk → i < length links → l ≡ get_or links i x → get_or used i false ≡ false →
      ((d : Link) → IsTrue (meets (get_or (map (link_of whole) links) i d) node)) → ArePassed nodes (set used i true) after →
      IsUnderWay (map (link_of whole) links) nodes before (set used i true) after start (if l.a.id == node then l.b else l.a).id (walk ++ (i ∷ []))
  walk_gone_on before used cursors after start node i walk l x w h is free meet p =
      IsUnderWay-step (map (link_of whole) links) nodes before used cursors after start node (if l.a.id == node then l.b else l.a).id i walk (link_of whole x) w (within (l.a.id == node)) (inside i h) free
      (ap (other_node node) (same_at i l x h is) ∙ other_end whole l node (subst (λ (k : Link). IsTrue (meets k node)) (same_at i l x h is) (meet (link_of whole x)))) p
    where
      within : (b : Bool) → (if b then l.b else l.a).id < length nodes
      within true = b_inside i l x h is
      within false = a_inside i l x h is
