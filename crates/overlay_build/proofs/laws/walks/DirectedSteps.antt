-- Directed walks found link by link: what holds while a walk is under way, and between walks.
use Rattle.std.proofs.Common.{◌≡◌, ◌≢◌, ℕ, ◌+◌, ◌<◌, ◌≤◌, ◌==◌, ◌⊎◌, inl, inr, zero, suc, Bool, true, false, ◌||◌, List, [], ◌∷◌, ◌++◌, map, filter, length, get_or, set, replicate, refl, sym, ap, subst, ◌∙◌, arith, get_or-set_same, get_or-set_other, if◌then◌else◌}
use Rattle.std.specs.Prelude.{ℤ}
use Rattle.std.specs.List.{flat_map, All}
use Rattle.std.proofs.lemmas.Bool.{eqb-true, eq-eqb, or_left, or_right, cases_lt, false≢true}
use Rattle.std.proofs.lemmas.List.{length-map, length-set, get_or-map, map-append, get_or_default, length-replicate, append_assoc, append-nil}
use Rattle.std.proofs.lemmas.List.Folds.{Any-from_list_any}
use Rattle.std.proofs.lemmas.List.Elements.{All-append, All-from_recursion}
use Rattle.std.proofs.lemmas.Grind.{flat_map-append}
use Rattle.overlay_base.specs.Rules.{top_value}
use Rattle.overlay_base.specs.declared.overlay_core.link.OverlayLink.{OverlayLink}
use Rattle.overlay_sweep.specs.Fill.{flag_value}
use Rattle.overlay_build.specs.Graph.{Link}
use Rattle.overlay_build.specs.GraphOf.{link_of, graph_with, HoldGraph}
use Rattle.overlay_build.specs.DirectedWalks.{turned, in_direction, arcs, IsFlow, no_link, along, IsDirectedWalk, AreDirectedWalks}
use Rattle.overlay_build.specs.steps.UnusedLinks.{AreCounted}
use Rattle.overlay_build.specs.steps.FreeArcs.{unused_at, unused_starts, unused_ends, AreUnusedFlow, starts_of, ArePassedOver}
use Rattle.overlay_build.proofs.laws.graphs.Indexes.{has_number}
use Rattle.overlay_build.proofs.laws.walks.Walks.{AreCounted-none, AreCounted-push}
use Rattle.overlay_build.proofs.laws.walks.WalkSteps.{ListLinks, ListLinks-held, set_keeps}

-- ---- links in their directions, and nodes that list their indexes

-- what directed walks need of a graph
pub record ListArcs (arcs : List Link) (nodes : List (List ℕ)) : Type 0 where
  pub start_in : (i : ℕ) → i < length arcs → (get_or arcs i no_link).a_node < length nodes
  pub end_in : (i : ℕ) → i < length arcs → (get_or arcs i no_link).b_node < length nodes
  pub listed : (u k : ℕ) → u < length nodes → k < length (get_or nodes u []) → get_or (get_or nodes u []) k 0 < length arcs
  pub found : (i u : ℕ) → i < length arcs → u < length nodes → (get_or arcs i no_link).a_node ≡ u → has_number i (get_or nodes u []) ≡ true

module _ (rule : Bool → Bool → Bool) (links : List Link) where
  many : length (arcs rule links) ≡ length links
  many = length-map links (in_direction rule)

  arc_at : (i : ℕ) → i < length links → get_or (arcs rule links) i no_link ≡ in_direction rule (get_or links i no_link)
  arc_at i h = get_or-map (in_direction rule) links i no_link no_link h

  starts_within : (b : Bool) (l : Link) (n : ℕ) → l.a_node < n → l.b_node < n → (if b then l else turned l).a_node < n
  starts_within true l n h k = h
  starts_within false l n h k = k

  ends_within : (b : Bool) (l : Link) (n : ℕ) → l.a_node < n → l.b_node < n → (if b then l else turned l).b_node < n
  ends_within true l n h k = k
  ends_within false l n h k = h

  start_meets : (b : Bool) (l : Link) (u : ℕ) → (if b then l else turned l).a_node ≡ u → ((l.a_node == u) || (l.b_node == u)) ≡ true
  start_meets true l u e = or_left (l.a_node == u) (l.b_node == u) (eq-eqb l.a_node u e)
  start_meets false l u e = or_right (l.a_node == u) (l.b_node == u) (eq-eqb l.b_node u e)

  pub ListArcs-of : (nodes : List (List ℕ)) → ListLinks links nodes → ListArcs (arcs rule links) nodes
  ListArcs-of nodes g = record {
    start_in = λ i h.
        let low : i < length links = rw many at h in
        let l : Link = get_or links i no_link in
        subst (λ (k : Link). k.a_node < length nodes) (sym (arc_at i low)) (starts_within (top_value rule l.fill) l (length nodes) (g.a_in i no_link low) (g.b_in i no_link low));
    end_in = λ i h.
        let low : i < length links = rw many at h in
        let l : Link = get_or links i no_link in
        subst (λ (k : Link). k.b_node < length nodes) (sym (arc_at i low)) (ends_within (top_value rule l.fill) l (length nodes) (g.a_in i no_link low) (g.b_in i no_link low));
    listed = λ u k h l. subst (λ n. get_or (get_or nodes u []) k 0 < n) (sym many) (g.listed u k h l);
    found = λ i u h l e.
        let low : i < length links = rw many at h in
        let k : Link = get_or links i no_link in
        g.complete i u no_link low l (start_meets (top_value rule k.fill) k u (sym (ap (λ (x : Link). x.a_node) (arc_at i low)) ∙ e));
  }

-- ---- unused links at a node

-- at first all are unused
pub unused_at-all : (end : Link → ℕ) (arcs : List Link) (u : ℕ) → unused_at end (replicate (length arcs) false) arcs u ≡ length (filter (λ l. end l == u) arcs)
unused_at-all end [] u = refl
unused_at-all end (l ∷ arcs) u = by (end l == u) refl (unused_at-all end arcs u)
  where
    by : (b : Bool) → (end l == u) ≡ b → unused_at end (replicate (length arcs) false) arcs u ≡ length (filter (λ l. end l == u) arcs) → unused_at end (replicate (length (l ∷ arcs)) false) (l ∷ arcs) u ≡ length (filter (λ l. end l == u) (l ∷ arcs))
    by true e ih = rw e (omega (arith, ih))
    by false e ih = rw e (omega (arith, ih))

-- one link more is used
pub unused_at-set : (end : Link → ℕ) (used : List Bool) (arcs : List Link) (i u : ℕ) (d : Link) → i < length arcs → get_or used i true ≡ false → unused_at end used arcs u ≡ flag_value (end (get_or arcs i d) == u) 1 + unused_at end (set used i true) arcs u
unused_at-set end [] arcs i u d h e = cc
unused_at-set end (b ∷ used) [] i u d h e = absurd (omega arith)
unused_at-set end (true ∷ used) (l ∷ arcs) zero u d h e = cc
unused_at-set end (false ∷ used) (l ∷ arcs) zero u d h e = refl
unused_at-set end (true ∷ used) (l ∷ arcs) (suc i) u d h e = unused_at-set end used arcs i u d (omega arith) e
unused_at-set end (false ∷ used) (l ∷ arcs) (suc i) u d h e = let rest = unused_at-set end used arcs i u d (omega arith) e in omega (arith, rest)

-- where no unused link has its end at a node, none is left there
pub unused_at-none : (end : Link → ℕ) (used : List Bool) (arcs : List Link) (u : ℕ) (d : Link) → ((i : ℕ) → i < length arcs → get_or used i true ≡ false → (end (get_or arcs i d) == u) ≡ false) → unused_at end used arcs u ≡ 0
unused_at-none end [] arcs u d h = refl
unused_at-none end (b ∷ used) [] u d h = refl
unused_at-none end (true ∷ used) (l ∷ arcs) u d h = unused_at-none end used arcs u d (λ i k e. h (suc i) (omega arith) e)
unused_at-none end (false ∷ used) (l ∷ arcs) u d h =
    let here : (end l == u) ≡ false = h 0 (omega arith) refl in
    let rest = unused_at-none end used arcs u d (λ i k e. h (suc i) (omega arith) e) in
    rw here (omega (arith, rest))

-- with a flow through the graph one is left for the unused links at first
pub AreUnusedFlow-first : (arcs : List Link) → IsFlow arcs → AreUnusedFlow arcs (replicate (length arcs) false)
AreUnusedFlow-first arcs flow = record { level = λ u. unused_at-all (λ l. l.a_node) arcs u ∙ flow u ∙ sym (unused_at-all (λ l. l.b_node) arcs u) }

-- ---- a walk from one node to another

-- one unused link less starts at the walk's start, and one less ends at its end
pub record IsRunning (arcs : List Link) (used : List Bool) (start node : ℕ) : Type 0 where
  pub level : (u : ℕ) → unused_starts used arcs u + flag_value (start == u) 1 ≡ unused_ends used arcs u + flag_value (node == u) 1

level_step : (s t e f p n x : ℕ) → s + p ≡ e + n → s ≡ n + t → e ≡ x + f → t + p ≡ f + x
level_step s t e f p n x h k l = omega (arith, h, k, l)

pub IsRunning-step : (arcs : List Link) (used : List Bool) (start node i : ℕ) → IsRunning arcs used start node → i < length arcs → get_or used i true ≡ false → (get_or arcs i no_link).a_node ≡ node → IsRunning arcs (set used i true) start (get_or arcs i no_link).b_node
IsRunning-step arcs used start node i w h e o = record {
  level = λ u.
      level_step (unused_starts used arcs u) (unused_starts (set used i true) arcs u) (unused_ends used arcs u) (unused_ends (set used i true) arcs u) (flag_value (start == u) 1) (flag_value (node == u) 1) (flag_value ((get_or arcs i no_link).b_node == u) 1) (w.level u)
      (unused_at-set (λ l. l.a_node) used arcs i u no_link h e ∙ ap (λ n. flag_value (n == u) 1 + unused_starts (set used i true) arcs u) o)
      (unused_at-set (λ l. l.b_node) used arcs i u no_link h e);
}

-- ---- used links and cursors

free_as : (used : List Bool) (i : ℕ) → i < length used → get_or used i false ≡ false → get_or used i true ≡ false
free_as used i h e = get_or_default used i true false h ∙ e

as_free : (used : List Bool) (i : ℕ) → get_or used i true ≡ false → get_or used i false ≡ false
as_free [] i e = refl
as_free (b ∷ used) zero e = e
as_free (b ∷ used) (suc i) e = as_free used i e

-- a link that is unused still was unused before
was_free : (used : List Bool) (i j : ℕ) → get_or (set used i true) j false ≡ false → get_or used j false ≡ false
was_free used i j e = by (get_or used j false) refl
  where
    by : (b : Bool) → get_or used j false ≡ b → get_or used j false ≡ false
    by true k = absurd (false≢true (sym e ∙ set_keeps used i j k))
    by false k = k

pub ArePassedOver-none : (arcs : List Link) (nodes : List (List ℕ)) (used : List Bool) (n : ℕ) → n ≡ length nodes → ArePassedOver arcs nodes used (replicate n 0)
ArePassedOver-none arcs nodes used n same = record {
  each = length-replicate n 0 ∙ same;
  within = λ u h. rw (zeros n u) (omega arith);
  passed = λ u k h l. let low : k < 0 = rw (zeros n u) at l in absurd (omega (arith, low));
}
  where
    zeros : (n u : ℕ) → get_or {A = ℕ} (replicate n 0) u 0 ≡ 0
    zeros zero u = refl
    zeros (suc n) zero = refl
    zeros (suc n) (suc u) = zeros n u

-- the links of a list before a place are not free at a node
abbrev pub NoneFree : List Link → List Bool → List ℕ → ℕ → ℕ → Type 0
NoneFree arcs used ks u place = (k : ℕ) → k < place → get_or used (get_or ks k 0) false ≡ false → get_or (starts_of arcs) (get_or ks k 0) 0 ≢ u

-- one link more is used, and the cursor of a node may go on past links that are not free there
pub ArePassedOver-step : (arcs : List Link) (nodes : List (List ℕ)) (used : List Bool) (cursors : List ℕ) (u place i : ℕ) → ArePassedOver arcs nodes used cursors → u < length nodes → place ≤ length (get_or nodes u []) →
    NoneFree arcs used (get_or nodes u []) u place → ArePassedOver arcs nodes (set used i true) (set cursors u place)
ArePassedOver-step arcs nodes used cursors u place i p h l all = record {
  each = length-set cursors u place ∙ p.each;
  within = λ v hv. within v hv (u == v) refl;
  passed = λ v k hv lk free. passed v k hv lk (was_free used i (get_or (get_or nodes v []) k 0) free) (u == v) refl;
}
  where
    inside : u < length cursors
    inside = rw p.each h

    here : (v : ℕ) → (u == v) ≡ true → get_or (set cursors u place) v 0 ≡ place
    here v e = ap (λ n. get_or (set cursors u place) n 0) (sym (eqb-true u v e)) ∙ get_or-set_same cursors u place 0 inside

    elsewhere : (v : ℕ) → (u == v) ≡ false → get_or (set cursors u place) v 0 ≡ get_or cursors v 0
    elsewhere v e = get_or-set_other cursors u v place 0 (λ k. false≢true (sym e ∙ eq-eqb u v (sym k)))

    within : (v : ℕ) → v < length nodes → (b : Bool) → (u == v) ≡ b → get_or (set cursors u place) v 0 ≤ length (get_or nodes v [])
    within v hv true e = rw (here v e) (subst (λ n. place ≤ length (get_or nodes n [])) (eqb-true u v e) l)
    within v hv false e = rw (elsewhere v e) (p.within v hv)

    passed : (v k : ℕ) → v < length nodes → k < get_or (set cursors u place) v 0 → get_or used (get_or (get_or nodes v []) k 0) false ≡ false → (b : Bool) → (u == v) ≡ b → get_or (starts_of arcs) (get_or (get_or nodes v []) k 0) 0 ≢ v
    passed v k hv lk free true e = subst (λ n. NoneFree arcs used (get_or nodes n []) n place) (eqb-true u v e) all k (rw (here v e) at lk) free
    passed v k hv lk free false e = p.passed v k hv (rw (elsewhere v e) at lk) free

pub ArePassedOver-use : (arcs : List Link) (nodes : List (List ℕ)) (used : List Bool) (cursors : List ℕ) (i : ℕ) → ArePassedOver arcs nodes used cursors → ArePassedOver arcs nodes (set used i true) cursors
ArePassedOver-use arcs nodes used cursors i p = record { each = p.each; within = p.within; passed = λ u k h l free. p.passed u k h l (was_free used i (get_or (get_or nodes u []) k 0) free) }

-- where an unused link starts at a node, its list has a free one
pub one_is_free : (arcs : List Link) (nodes : List (List ℕ)) (used : List Bool) (u place : ℕ) → ListArcs arcs nodes → u < length nodes → 0 < unused_starts used arcs u → place ≤ length (get_or nodes u []) →
    NoneFree arcs used (get_or nodes u []) u place → place < length (get_or nodes u [])
one_is_free arcs nodes used u place g h left l all = by (cases_lt place (length (get_or nodes u [])))
  where
    none : length (get_or nodes u []) ≤ place → (i : ℕ) → i < length arcs → get_or used i true ≡ false → (b : Bool) → ((get_or arcs i no_link).a_node == u) ≡ b → ((get_or arcs i no_link).a_node == u) ≡ false
    none high i low free false e = e
    none high i low free true e =
        let start : (get_or arcs i no_link).a_node ≡ u = eqb-true (get_or arcs i no_link).a_node u e in
        let found = Any-from_list_any (λ k. k == i) (get_or nodes u []) (g.found i u low h start) in
        let is : get_or (get_or nodes u []) found.0 0 ≡ i = get_or_default (get_or nodes u []) found.0 0 found.1 found.2 ∙ found.3 ∙ eqb-true found.1 i found.4 in
        let before : found.0 < place = omega (arith, found.2, high) in
        absurd (all found.0 before (ap (λ n. get_or used n false) is ∙ as_free used i free) (ap (λ n. get_or (starts_of arcs) n 0) is ∙ get_or-map (λ (k : Link). k.a_node) arcs i no_link 0 low ∙ start))

    by : ((place < length (get_or nodes u [])) ⊎ (length (get_or nodes u []) ≤ place)) → place < length (get_or nodes u [])
    by (inl low) = low
    by (inr high) = let zero_left : unused_starts used arcs u ≡ 0 = unused_at-none (λ k. k.a_node) used arcs u no_link (λ i low free. none high i low free ((get_or arcs i no_link).a_node == u) refl) in absurd (omega (arith, left, zero_left))

-- ---- while a walk is under way

-- from a start over other nodes to a node, over links that were unused before
pub record IsOnWay (arcs : List Link) (nodes : List (List ℕ)) (before used : List Bool) (cursors : List ℕ) (start node : ℕ) (walk : List ℕ) : Type 0 where
  pub node_in : node < length nodes
  pub flags : length used ≡ length arcs
  pub passed : ArePassedOver arcs nodes used cursors
  pub running : IsRunning arcs used start node
  pub within : All (λ i. i < length arcs) walk
  pub rest : List ℕ
  pub starts : map (λ l. l.a_node) (along arcs walk) ≡ start ∷ rest
  pub ends : map (λ l. l.b_node) (along arcs walk) ≡ rest ++ (node ∷ [])
  pub apart : All (λ u. u ≢ start) rest
  pub counted : (walked : List ℕ) → AreCounted before walked → AreCounted used (walked ++ walk)
  pub kept : (j : ℕ) → get_or before j false ≡ true → get_or used j false ≡ true

pub IsOnWay-start : (arcs : List Link) (nodes : List (List ℕ)) (used : List Bool) (cursors : List ℕ) (i : ℕ) → ListArcs arcs nodes → i < length arcs → get_or used i false ≡ false → length used ≡ length arcs → ArePassedOver arcs nodes used cursors → AreUnusedFlow arcs used →
    IsOnWay arcs nodes used (set used i true) cursors (get_or arcs i no_link).a_node (get_or arcs i no_link).b_node (i ∷ [])
IsOnWay-start arcs nodes used cursors i g h free same p flow =
    let inside : i < length used = rw same h in
    record {
      node_in = g.end_in i h;
      flags = length-set used i true ∙ same;
      passed = ArePassedOver-use arcs nodes used cursors i p;
      running = IsRunning-step arcs used (get_or arcs i no_link).a_node (get_or arcs i no_link).a_node i (record { level = λ u. ap (λ n. n + flag_value ((get_or arcs i no_link).a_node == u) 1) (flow.level u) }) h (free_as used i inside free) refl;
      within = All-from_recursion (λ j. j < length arcs) (i ∷ []) (h, tt);
      rest = [];
      starts = refl;
      ends = refl;
      apart = All-from_recursion (λ u. u ≢ (get_or arcs i no_link).a_node) [] tt;
      counted = λ walked c. AreCounted-push used walked i c inside free;
      kept = λ j e. set_keeps used i j e;
    }

pushed : (end : Link → ℕ) (arcs : List Link) (walk : List ℕ) (i : ℕ) → map end (along arcs (walk ++ (i ∷ []))) ≡ map end (along arcs walk) ++ (end (get_or arcs i no_link) ∷ [])
pushed end arcs walk i = ap (map end) (map-append (λ j. get_or arcs j no_link) walk (i ∷ [])) ∙ map-append end (along arcs walk) (get_or arcs i no_link ∷ [])

pub IsOnWay-step : (arcs : List Link) (nodes : List (List ℕ)) (before used : List Bool) (cursors after : List ℕ) (start node i : ℕ) (walk : List ℕ) → ListArcs arcs nodes → IsOnWay arcs nodes before used cursors start node walk → node ≢ start → i < length arcs →
    get_or used i false ≡ false → get_or (starts_of arcs) i 0 ≡ node → ArePassedOver arcs nodes (set used i true) after → IsOnWay arcs nodes before (set used i true) after start (get_or arcs i no_link).b_node (walk ++ (i ∷ []))
IsOnWay-step arcs nodes before used cursors after start node i walk g w away h free from p =
    let inside : i < length used = rw w.flags h in
    let there : (get_or arcs i no_link).a_node ≡ node = sym (get_or-map (λ (k : Link). k.a_node) arcs i no_link 0 h) ∙ from in
    record {
      node_in = g.end_in i h;
      flags = length-set used i true ∙ w.flags;
      passed = p;
      running = IsRunning-step arcs used start node i w.running h (free_as used i inside free) there;
      within = All-append (λ j. j < length arcs) walk (i ∷ []) w.within (All-from_recursion (λ j. j < length arcs) (i ∷ []) (h, tt));
      rest = w.rest ++ (node ∷ []);
      starts = pushed (λ l. l.a_node) arcs walk i ∙ ap (λ (us : List ℕ). us ++ ((get_or arcs i no_link).a_node ∷ [])) w.starts ∙ ap (λ n. start ∷ (w.rest ++ (n ∷ []))) there;
      ends = pushed (λ l. l.b_node) arcs walk i ∙ ap (λ (us : List ℕ). us ++ ((get_or arcs i no_link).b_node ∷ [])) w.ends;
      apart = All-append (λ u. u ≢ start) w.rest (node ∷ []) w.apart (All-from_recursion (λ u. u ≢ start) (node ∷ []) (away, tt));
      counted = λ walked c. subst (AreCounted (set used i true)) (append_assoc walked walk (i ∷ [])) (AreCounted-push used (walked ++ walk) i (w.counted walked c) inside free);
      kept = λ j e. set_keeps used i j (w.kept j e);
    }

-- where it has come back, it is closed
pub IsOnWay-closed : (arcs : List Link) (nodes : List (List ℕ)) (before used : List Bool) (cursors : List ℕ) (start node : ℕ) (walk : List ℕ) → IsOnWay arcs nodes before used cursors start node walk → node ≡ start → IsDirectedWalk arcs walk
IsOnWay-closed arcs nodes before used cursors start node walk w back = (start, (w.rest, record { within = w.within; starts = w.starts; ends = w.ends ∙ ap (λ n. w.rest ++ (n ∷ [])) back; apart = w.apart }))

-- ---- between walks

-- directed walks over just the used links, among them all before an index
pub record HaveRun (arcs : List Link) (nodes : List (List ℕ)) (used : List Bool) (cursors : List ℕ) (walks : List (List ℕ)) (first : ℕ) : Type 0 where
  pub flags : length used ≡ length arcs
  pub passed : ArePassedOver arcs nodes used cursors
  pub level : AreUnusedFlow arcs used
  pub closed : All (IsDirectedWalk arcs) walks
  pub counted : AreCounted used (flat_map (λ walk. walk) walks)
  pub all : (j : ℕ) → j < first → get_or used j false ≡ true

pub HaveRun-none : (arcs : List Link) (nodes : List (List ℕ)) (n m : ℕ) → n ≡ length arcs → m ≡ length nodes → IsFlow arcs → HaveRun arcs nodes (replicate n false) (replicate m 0) [] 0
HaveRun-none arcs nodes n m same each flow = record {
  flags = length-replicate n false ∙ same;
  passed = ArePassedOver-none arcs nodes (replicate n false) m each;
  level = subst (λ k. AreUnusedFlow arcs (replicate k false)) (sym same) (AreUnusedFlow-first arcs flow);
  closed = All-from_recursion (IsDirectedWalk arcs) [] tt;
  counted = AreCounted-none n;
  all = λ j l. absurd (omega (arith, l));
}

up_to : (used : List Bool) (first : ℕ) → ((j : ℕ) → j < first → get_or used j false ≡ true) → get_or used first false ≡ true → (j : ℕ) → j < first + 1 → get_or used j false ≡ true
up_to used first before here j l = by (cases_lt j first)
  where
    by : ((j < first) ⊎ (first ≤ j)) → get_or used j false ≡ true
    by (inl low) = before j low
    by (inr high) = let same : first ≡ j = omega (arith, l, high) in ap (λ n. get_or used n false) (sym same) ∙ here

-- a used link is passed over
pub HaveRun-over : (arcs : List Link) (nodes : List (List ℕ)) (used : List Bool) (cursors : List ℕ) (walks : List (List ℕ)) (first : ℕ) → HaveRun arcs nodes used cursors walks first → get_or used first false ≡ true → HaveRun arcs nodes used cursors walks (first + 1)
HaveRun-over arcs nodes used cursors walks first w here = record { flags = w.flags; passed = w.passed; level = w.level; closed = w.closed; counted = w.counted; all = up_to used first w.all here }

-- one walk more
pub HaveRun-more : (arcs : List Link) (nodes : List (List ℕ)) (used after : List Bool) (cursors next : List ℕ) (walks : List (List ℕ)) (walk : List ℕ) (first : ℕ) → HaveRun arcs nodes used cursors walks first → length after ≡ length used → ArePassedOver arcs nodes after next → AreUnusedFlow arcs after → IsDirectedWalk arcs walk →
    ((walked : List ℕ) → AreCounted used walked → AreCounted after (walked ++ walk)) → ((j : ℕ) → get_or used j false ≡ true → get_or after j false ≡ true) → get_or after first false ≡ true → HaveRun arcs nodes after next (walks ++ (walk ∷ [])) (first + 1)
HaveRun-more arcs nodes used after cursors next walks walk first w same passed level closed counted kept here = record {
  flags = same ∙ w.flags;
  passed = passed;
  level = level;
  closed = All-append (IsDirectedWalk arcs) walks (walk ∷ []) w.closed (All-from_recursion (IsDirectedWalk arcs) (walk ∷ []) (closed, tt));
  counted = subst (AreCounted after) (sym (flat_map-append (λ (walk : List ℕ). walk) walks (walk ∷ []) ∙ ap (λ ws. flat_map (λ (walk : List ℕ). walk) walks ++ ws) (append-nil walk))) (counted (flat_map (λ walk. walk) walks) w.counted);
  all = up_to after first (λ j l. kept j (w.all j l)) here;
}

-- when all links are passed over
pub HaveRun-all : (arcs : List Link) (nodes : List (List ℕ)) (used : List Bool) (cursors : List ℕ) (walks : List (List ℕ)) (first : ℕ) → HaveRun arcs nodes used cursors walks first → length arcs ≤ first → AreDirectedWalks arcs walks
HaveRun-all arcs nodes used cursors walks first w done = record { closed = w.closed; once = λ i h. w.counted.once i ∙ ap (λ b. flag_value b 1) (w.all i (omega (arith, h, done))) }

-- ---- links as code has them

module _ {N I D : Type 0} (indexes : N → List ℕ) (is_canonical : N → Bool) (whole : I → ℤ) (nodes : List N) (links : List (OverlayLink I D)) (rule : Bool → Bool → Bool) (holds : HoldGraph indexes is_canonical whole nodes links (graph_with whole links)) where
  pub ListArcs-held : ListArcs (arcs rule (map (link_of whole) links)) (map indexes nodes)
  ListArcs-held = ListArcs-of rule (map (link_of whole) links) (map indexes nodes) (ListLinks-held indexes is_canonical whole nodes links holds)

pub length-arcs : {I D : Type 0} (whole : I → ℤ) (rule : Bool → Bool → Bool) (links : List (OverlayLink I D)) → length (arcs rule (map (link_of whole) links)) ≡ length links
length-arcs whole rule links = length-map (map (link_of whole) links) (in_direction rule) ∙ length-map links (link_of whole)

-- the link at an index
pub arc_is : {I D : Type 0} (whole : I → ℤ) (rule : Bool → Bool → Bool) (links : List (OverlayLink I D)) (i : ℕ) (l : OverlayLink I D) → i < length links → l ≡ get_or links i l → get_or (arcs rule (map (link_of whole) links)) i no_link ≡ in_direction rule (link_of whole l)
arc_is whole rule links i l h is =
    let low : i < length (map (link_of whole) links) = rw (length-map links (link_of whole)) h in
    get_or-map (in_direction rule) (map (link_of whole) links) i (link_of whole l) no_link low
    ∙ ap (in_direction rule) (get_or-map (link_of whole) links i l (link_of whole l) h ∙ ap (link_of whole) (sym is))

pub start_is : {I D : Type 0} (whole : I → ℤ) (rule : Bool → Bool → Bool) (links : List (OverlayLink I D)) (i : ℕ) (l : OverlayLink I D) → i < length links → l ≡ get_or links i l → get_or (starts_of (arcs rule (map (link_of whole) links))) i 0 ≡ (in_direction rule (link_of whole l)).a_node
start_is whole rule links i l h is =
    let low : i < length (arcs rule (map (link_of whole) links)) = rw (length-arcs whole rule links) h in
    get_or-map (λ (k : Link). k.a_node) (arcs rule (map (link_of whole) links)) i no_link 0 low ∙ ap (λ (k : Link). k.a_node) (arc_is whole rule links i l h is)
