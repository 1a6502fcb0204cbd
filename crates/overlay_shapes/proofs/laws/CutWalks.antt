-- A walk while it is cut where it comes to a node again: the path that is not cut off yet, and the parts that are.
use Rattle.std.proofs.Common.{◌≡◌, ◌≢◌, ℕ, ◌+◌, ◌-◌, ◌<◌, ◌≤◌, ◌==◌, inl, inr, zero, suc, Bool, cond, List, [], ◌∷◌, ◌++◌, map, length, take, drop, get_or, set, refl, sym, ap, ap₂, subst, ◌∙◌, arith, get_or-set_same, get_or-set_other, append_assoc}
use Rattle.std.specs.Prelude.{count_by, flat_map, All}
use Rattle.std.proofs.lemmas.Bool.{eqb-true, ne_eqb, cases_lt, cases_Bool}
use Rattle.std.proofs.lemmas.List.{append-nil, length-drop, take-append-drop}
use Rattle.std.proofs.lemmas.List.Elements.{All-append, All-from_recursion}
use Rattle.std.proofs.lemmas.List.Sums.{sum_by-cons}
use Rattle.std.proofs.lemmas.Grind.{flat_map-append}
use Rattle.overlay_build.specs.Graph.{Link}
use Rattle.overlay_build.specs.DirectedWalks.{no_link, along, IsDirectedWalk}
use Rattle.overlay_shapes.specs.SimpleWalks.{PassesOnce}
use Rattle.overlay_shapes.specs.steps.CutWalks.{IsClosedChain, AppendsParts}

-- ---- counts

abbrev hits : (ℕ → ℕ) → ℕ → ℕ → ℕ
hits f u i = cond (f i == u) 1 0

none_hit : (f : ℕ → ℕ) (u : ℕ) (xs : List ℕ) → ((k : ℕ) → k < length xs → f (get_or xs k 0) ≡ u → ⊥) → count_by (λ i. f i == u) xs ≡ 0
none_hit f u [] h = refl
none_hit f u (x ∷ xs) h =
    let more = sum_by-cons (hits f u) x xs in
    let here : hits f u x ≡ 0 = ap (λ b. cond b 1 0) (ne_eqb (f x) u (λ e. h 0 (omega arith) e)) in
    let rest = none_hit f u xs (λ k l. h (suc k) (omega (arith, l))) in
    omega (arith, more, here, rest)

-- what has another value at each place has each at most once
pub at_most_once : (f : ℕ → ℕ) (u : ℕ) (xs : List ℕ) → ((j k : ℕ) → j < length xs → k < length xs → f (get_or xs j 0) ≡ f (get_or xs k 0) → j ≡ k) → count_by (λ i. f i == u) xs ≤ 1
at_most_once f u [] h = omega arith
at_most_once f u (x ∷ xs) h = elim (cases_Bool (f x == u)) [
  | inl e ↦
      let more = sum_by-cons (hits f u) x xs in
      let here : hits f u x ≡ 1 = ap (λ b. cond b 1 0) e in
      let rest = none_hit f u xs (λ k l s. let z = h 0 (suc k) (omega arith) (omega (arith, l)) (eqb-true (f x) u e ∙ sym s) in absurd (omega (arith, z))) in
      omega (arith, more, here, rest)
  | inr e ↦
      let more = sum_by-cons (hits f u) x xs in
      let here : hits f u x ≡ 0 = ap (λ b. cond b 1 0) e in
      let rest = at_most_once f u xs (λ j k l m s. let z = h (suc j) (suc k) (omega (arith, l)) (omega (arith, m)) s in omega (arith, z)) in
      omega (arith, more, here, rest)
]

pub count_by-both : {X : Type 0} (test : X → Bool) (xs ys : List X) → count_by test (xs ++ ys) ≡ count_by test xs + count_by test ys
count_by-both test [] ys = omega arith
count_by-both test (x ∷ xs) ys =
    let a = sum_by-cons (λ y. cond (test y) 1 0) x (xs ++ ys) in
    let b = sum_by-cons (λ y. cond (test y) 1 0) x xs in
    let r = count_by-both test xs ys in
    omega (arith, a, b, r)

get_or-take : {X : Type 0} (n k : ℕ) (xs : List X) (d : X) → k < n → get_or (take n xs) k d ≡ get_or xs k d
get_or-take zero k xs d h = absurd (omega (arith, h))
get_or-take (suc n) k [] d h = refl
get_or-take (suc n) zero (x ∷ xs) d h = refl
get_or-take (suc n) (suc k) (x ∷ xs) d h = get_or-take n k xs d (omega (arith, h))

get_or-drop : {X : Type 0} (n k : ℕ) (xs : List X) (d : X) → get_or (drop n xs) k d ≡ get_or xs (n + k) d
get_or-drop zero k xs d = let e : 0 + k ≡ k = omega arith in ap (λ i. get_or xs i d) (sym e)
get_or-drop (suc n) k [] d = refl
get_or-drop (suc n) k (x ∷ xs) d = let e : suc n + k ≡ suc (n + k) = omega arith in get_or-drop n k xs d ∙ ap (λ i. get_or (x ∷ xs) i d) (sym e)

get_or-pushed : {X : Type 0} (xs : List X) (x : X) (k : ℕ) (d : X) → k < length xs → get_or (xs ++ x ∷ []) k d ≡ get_or xs k d
get_or-pushed [] x k d h = absurd (omega (arith, h))
get_or-pushed (y ∷ xs) x zero d h = refl
get_or-pushed (y ∷ xs) x (suc k) d h = get_or-pushed xs x k d (omega (arith, h))

get_or-last : {X : Type 0} (xs : List X) (x : X) (d : X) → get_or (xs ++ x ∷ []) (length xs) d ≡ x
get_or-last [] x d = refl
get_or-last (y ∷ xs) x d = get_or-last xs x d

length-pushed : {X : Type 0} (xs : List X) (x : X) → length (xs ++ x ∷ []) ≡ length xs + 1
length-pushed [] x = omega arith
length-pushed (y ∷ xs) x = let r = length-pushed xs x in omega (arith, r)

pub taken_more : {X : Type 0} (xs : List X) (k : ℕ) (d : X) → k < length xs → take (k + 1) xs ≡ take k xs ++ get_or xs k d ∷ []
taken_more [] k d h = absurd (omega (arith, h))
taken_more (x ∷ xs) zero d h = refl
taken_more (x ∷ xs) (suc k) d h = let e : suc k + 1 ≡ suc (k + 1) = omega arith in rw e (ap (λ l. x ∷ l) (taken_more xs k d (omega (arith, h))))

pub dropped_more : {X : Type 0} (xs : List X) (k : ℕ) (d : X) → k < length xs → drop k xs ≡ get_or xs k d ∷ drop (k + 1) xs
dropped_more [] k d h = absurd (omega (arith, h))
dropped_more (x ∷ xs) zero d h = refl
dropped_more (x ∷ xs) (suc k) d h = let e : suc k + 1 ≡ suc (k + 1) = omega arith in rw e (dropped_more xs k d (omega (arith, h)))

pub dropped_all : {X : Type 0} (xs : List X) (k : ℕ) → length xs ≤ k → drop k xs ≡ []
dropped_all [] zero h = refl
dropped_all [] (suc k) h = refl
dropped_all (x ∷ xs) zero h = absurd (omega (arith, h))
dropped_all (x ∷ xs) (suc k) h = dropped_all xs k (omega (arith, h))

pub taken_whole : {X : Type 0} (xs : List X) (n : ℕ) → length xs ≤ n → take n xs ≡ xs
taken_whole [] zero h = refl
taken_whole [] (suc n) h = refl
taken_whole (x ∷ xs) zero h = absurd (omega (arith, h))
taken_whole (x ∷ xs) (suc n) h = ap (λ l. x ∷ l) (taken_whole xs n (omega (arith, h)))

-- ---- links that lead from one node to another

module _ (arcs : List Link) where
  abbrev pub start : ℕ → ℕ
  start i = (get_or arcs i no_link).a_node

  abbrev pub end : ℕ → ℕ
  end i = (get_or arcs i no_link).b_node

  abbrev pub Leads : ℕ → List ℕ → ℕ → Type 0
  Leads u [] v = u ≡ v
  Leads u (i ∷ path) v = (start i ≡ u) × Leads (end i) path v

  leads_from : (walk : List ℕ) (u : ℕ) (rest : List ℕ) (v : ℕ) → map (λ l. l.a_node) (along arcs walk) ≡ u ∷ rest → map (λ l. l.b_node) (along arcs walk) ≡ rest ++ v ∷ [] → Leads u walk v
  leads_from [] u rest v e f = absurd (cc)
  leads_from (i ∷ []) u [] v e f = (cc, cc)
  leads_from (i ∷ []) u (r ∷ rest) v e f = absurd (cc)
  leads_from (i ∷ j ∷ walk) u [] v e f = absurd (cc)
  leads_from (i ∷ j ∷ walk) u (r ∷ rest) v e f =
      let next : end i ≡ r = cc in
      (cc, subst (λ w. Leads w (j ∷ walk) v) (sym next) (leads_from (j ∷ walk) r rest v (cc) (cc)))

  leads_around : (walk : List ℕ) → IsClosedChain arcs walk → (u : ℕ) × Leads u walk u
  leads_around [] c = (0, refl)
  leads_around (i ∷ walk) c = (start i, leads_from (i ∷ walk) (start i) (map (λ l. l.a_node) (along arcs walk)) (start i) refl c.meets)

  ends_from : (i : ℕ) (walk : List ℕ) (v : ℕ) → Leads (end i) walk v → map (λ l. l.b_node) (along arcs (i ∷ walk)) ≡ map (λ l. l.a_node) (along arcs walk) ++ v ∷ []
  ends_from i [] v l = ap (λ w. w ∷ []) l
  ends_from i (j ∷ walk) v l = ap₂ (λ w ws. w ∷ ws) (sym l.0) (ends_from j walk v l.1)

  leads_push : (u : ℕ) (path : List ℕ) (w i : ℕ) → Leads u path w → start i ≡ w → Leads u (path ++ i ∷ []) (end i)
  leads_push u [] w i l e = (e ∙ sym l, refl)
  leads_push u (j ∷ path) w i l e = (l.0, leads_push (end j) path w i l.1 e)

  leads_front : (u : ℕ) (path : List ℕ) (v n : ℕ) → Leads u path v → n < length path → Leads u (take n path) (start (get_or path n 0))
  leads_front u [] v n l h = absurd (omega (arith, h))
  leads_front u (i ∷ path) v zero l h = sym l.0
  leads_front u (i ∷ path) v (suc n) l h = (l.0, leads_front (end i) path v n l.1 (omega (arith, h)))

  leads_back : (u : ℕ) (path : List ℕ) (v n : ℕ) → Leads u path v → n < length path → Leads (start (get_or path n 0)) (drop n path) v
  leads_back u [] v n l h = absurd (omega (arith, h))
  leads_back u (i ∷ path) v zero l h = (refl, l.1)
  leads_back u (i ∷ path) v (suc n) l h = leads_back (end i) path v n l.1 (omega (arith, h))

  -- each of its links is one
  abbrev pub AreLinks : List ℕ → Type 0
  AreLinks path = (k : ℕ) → k < length path → get_or path k 0 < length arcs

  -- it comes to no node twice, by the places of its links
  abbrev pub ArePlaced : List ℕ → List ℕ → Type 0
  ArePlaced places path = (k : ℕ) → k < length path → get_or places (start (get_or path k 0)) 0 ≡ k

  abbrev pub IsAway : List ℕ → ℕ → Type 0
  IsAway path u = (k : ℕ) → k < length path → start (get_or path k 0) ≡ u → ⊥

  not_away_apart : (path : List ℕ) (u : ℕ) → IsAway path u → All (λ w. w ≢ u) (map (λ l. l.a_node) (along arcs path))
  not_away_apart [] u a = All-from_recursion (λ w. w ≢ u) [] tt
  not_away_apart (i ∷ path) u a = All-append (λ w. w ≢ u) (start i ∷ []) (map (λ l. l.a_node) (along arcs path)) (All-from_recursion (λ w. w ≢ u) (start i ∷ []) (a 0 (omega arith), tt)) (not_away_apart path u (λ k h. a (suc k) (omega (arith, h))))

  all_links : (path : List ℕ) → AreLinks path → All (λ i. i < length arcs) path
  all_links [] a = All-from_recursion (λ i. i < length arcs) [] tt
  all_links (i ∷ path) a = All-append (λ j. j < length arcs) (i ∷ []) path (All-from_recursion (λ j. j < length arcs) (i ∷ []) (a 0 (omega arith), tt)) (all_links path (λ k h. a (suc k) (omega (arith, h))))

  -- a path from a node back to it, whose links start at different nodes
  closed_part : (path : List ℕ) (u : ℕ) → 0 < length path → Leads u path u → AreLinks path → ((j k : ℕ) → j < length path → k < length path → start (get_or path j 0) ≡ start (get_or path k 0) → j ≡ k) → IsDirectedWalk arcs path
  closed_part [] u h l a d = absurd (omega (arith, h))
  closed_part (i ∷ path) u h l a d = (
    u,
    (
      map (λ l. l.a_node) (along arcs path),
      record {
        within = all_links (i ∷ path) a;
        starts = ap (λ w. w ∷ map (λ l. l.a_node) (along arcs path)) l.0;
        ends = ends_from i path u l.1;
        apart = not_away_apart path u (λ k m e. let z = d 0 (suc k) (omega arith) (omega (arith, m)) (l.0 ∙ sym e) in absurd (omega (arith, z)));
      },
    ),
  )

  -- ---- the state

  pub record IsUnderWay (walk : List ℕ) (k here : ℕ) (places path : List ℕ) (before after : List (List ℕ)) : Type 0 where
    pub first : ℕ
    pub ahead : Leads here (drop k walk) first
    pub behind : Leads first path here
    pub links : AreLinks path
    pub placed : ArePlaced places path
    pub parts : List (List ℕ)
    pub appended : after ≡ before ++ parts
    pub closed : All (IsDirectedWalk arcs) parts
    pub simple : All (PassesOnce arcs) parts
    pub counted : (i : ℕ) → count_by (λ j. j == i) (flat_map (λ part. part) parts) + count_by (λ j. j == i) path ≡ count_by (λ j. j == i) (take k walk)

  pub record IsCut (walk : List ℕ) (k : ℕ) (places path : List ℕ) (before after : List (List ℕ)) : Type 0 where
    pub at : ℕ
    pub way : IsUnderWay walk k at places path before after
    pub away : IsAway path at

  pub cut_at_first : (walk places : List ℕ) (before : List (List ℕ)) → IsClosedChain arcs walk → IsCut walk 0 places [] before before
  cut_at_first walk places before w = record {
    at = (leads_around walk w).0;
    way = record {
      first = (leads_around walk w).0;
      ahead = (leads_around walk w).1;
      behind = refl;
      links = λ k h. absurd (omega (arith, h));
      placed = λ k h. absurd (omega (arith, h));
      parts = [];
      appended = sym (append-nil before);
      closed = All-from_recursion (IsDirectedWalk arcs) [] tt;
      simple = All-from_recursion (PassesOnce arcs) [] tt;
      counted = λ i. refl;
    };
    away = λ k h. absurd (omega (arith, h));
  }

  module _ (walk : List ℕ) (k : ℕ) (places path : List ℕ) (before after : List (List ℕ)) where
    abbrev step : ℕ
    step = get_or walk k 0

    -- one link more
    pub pushed : IsCut walk k places path before after → k < length walk → step < length arcs → start step < length places →
        IsUnderWay walk (k + 1) (end step) (set places (start step) (length path)) (path ++ step ∷ []) before after
    pushed c inside low node =
        let ahead : Leads c.at (step ∷ drop (k + 1) walk) c.way.first = subst (λ l. Leads c.at l c.way.first) (dropped_more walk k 0 inside) c.way.ahead in
        let long = length-pushed path step in
        record {
          first = c.way.first;
          ahead = ahead.1;
          behind = leads_push c.way.first path c.at step c.way.behind ahead.0;
          links = λ j h. elim (cases_lt j (length path)) [
            | inl l ↦ subst (λ i. i < length arcs) (sym (get_or-pushed path step j 0 l)) (c.way.links j l)
            | inr l ↦ (let e : j ≡ length path = omega (arith, h, l, long) in subst (λ i. i < length arcs) (sym (ap (λ n. get_or (path ++ step ∷ []) n 0) e ∙ get_or-last path step 0)) low)
          ];
          placed = λ j h. elim (cases_lt j (length path)) [
            | inl l ↦
                let e = get_or-pushed path step j 0 l in
                ap (λ i. get_or (set places (start step) (length path)) (start i) 0) e
                ∙ get_or-set_other places (start step) (start (get_or path j 0)) (length path) 0 (λ s. c.away j l (s ∙ ahead.0))
                ∙ c.way.placed j l
            | inr l ↦
                let e : j ≡ length path = omega (arith, h, l, long) in
                ap (λ i. get_or (set places (start step) (length path)) (start i) 0) (ap (λ n. get_or (path ++ step ∷ []) n 0) e ∙ get_or-last path step 0)
                ∙ get_or-set_same places (start step) (length path) 0 node ∙ sym e
          ];
          parts = c.way.parts;
          appended = c.way.appended;
          closed = c.way.closed;
          simple = c.way.simple;
          counted = λ i.
              let a = count_by-both (λ j. j == i) path (step ∷ []) in
              let b = count_by-both (λ j. j == i) (take k walk) (step ∷ []) in
              let t = ap (count_by (λ j. j == i)) (taken_more walk k 0 inside) in
              omega (arith, a, b, t, c.way.counted i);
        }

    module _ (here : ℕ) (way : IsUnderWay walk k here places path before after) where
      -- no link of the path starts where it has come
      pub went_on : ((get_or places here 0 < length path) → (start (get_or path (get_or places here 0) 0) ≡ here) → ⊥) → IsCut walk k places path before after
      went_on n = record {
        at = here;
        way = way;
        away = λ j h e.
            let p : get_or places here 0 ≡ j = ap (λ u. get_or places u 0) (sym e) ∙ way.placed j h in
            n (omega (arith, p, h)) (ap (λ i. start (get_or path i 0)) p ∙ e);
      }

      -- a link of the path does: what leads from there is cut off
      pub came_back : (place : ℕ) → place ≡ get_or places here 0 → place < length path → start (get_or path place 0) ≡ here →
          IsCut walk k places (take place path) before (after ++ drop place path ∷ [])
      came_back place at inside same =
          let short : length (take place path) ≡ place = length-taken place path inside in
          let long : length (drop place path) ≡ length path - place = length-drop place path in
          let differ : (i j : ℕ) → i < length (drop place path) → j < length (drop place path) → start (get_or (drop place path) i 0) ≡ start (get_or (drop place path) j 0) → i ≡ j =
          (λ i j h l e.
          let p = ap start (get_or-drop place i path 0) in
          let q = ap start (get_or-drop place j path 0) in
          let a = way.placed (place + i) (omega (arith, h, long)) in
          let b = way.placed (place + j) (omega (arith, l, long)) in
          let s : get_or places (start (get_or path (place + i) 0)) 0 ≡ get_or places (start (get_or path (place + j) 0)) 0 = ap (λ u. get_or places u 0) (sym p ∙ e ∙ q) in
          omega (arith, a, b, s)) in
          let closed : IsDirectedWalk arcs (drop place path) =
          closed_part (drop place path) here (omega (arith, long, inside)) (subst (λ u. Leads u (drop place path) here) same (leads_back way.first path here place way.behind inside))
          (λ i h. subst (λ j. j < length arcs) (sym (get_or-drop place i path 0)) (way.links (place + i) (omega (arith, h, long)))) differ in
          record {
            at = here;
            way = record {
              first = way.first;
              ahead = way.ahead;
              behind = subst (Leads way.first (take place path)) same (leads_front way.first path here place way.behind inside);
              links = λ i h. subst (λ j. j < length arcs) (sym (get_or-take place i path 0 (omega (arith, h, short)))) (way.links i (omega (arith, h, short, inside)));
              placed = λ i h. ap (λ j. get_or places (start j) 0) (get_or-take place i path 0 (omega (arith, h, short))) ∙ way.placed i (omega (arith, h, short, inside));
              parts = way.parts ++ drop place path ∷ [];
              appended = ap (λ l. l ++ drop place path ∷ []) way.appended ∙ append_assoc before way.parts (drop place path ∷ []);
              closed = All-append (IsDirectedWalk arcs) way.parts (drop place path ∷ []) way.closed (All-from_recursion (IsDirectedWalk arcs) (drop place path ∷ []) (closed, tt));
              simple = All-append (PassesOnce arcs) way.parts (drop place path ∷ []) way.simple (All-from_recursion (PassesOnce arcs) (drop place path ∷ []) ((λ u. at_most_once start u (drop place path) differ), tt));
              counted = λ i.
                  let a = ap (count_by (λ j. j == i)) (flat_map-append (λ (part : List ℕ). part) way.parts (drop place path ∷ []) ∙ ap (λ l. flat_map (λ (part : List ℕ). part) way.parts ++ l) (append-nil (drop place path))) in
                  let b = count_by-both (λ j. j == i) (flat_map (λ (part : List ℕ). part) way.parts) (drop place path) in
                  let t = ap (count_by (λ j. j == i)) (take-append-drop place path) in
                  let d = count_by-both (λ j. j == i) (take place path) (drop place path) in
                  omega (arith, a, b, t, d, way.counted i);
            };
            away = λ i h e.
                let p = way.placed i (omega (arith, h, short, inside)) in
                let q : get_or places (start (get_or path i 0)) 0 ≡ get_or places here 0 = ap (λ u. get_or places u 0) (sym (ap start (get_or-take place i path 0 (omega (arith, h, short)))) ∙ e) in
                absurd (omega (arith, p, q, at, h, short));
          }
        where
          length-taken : (n : ℕ) (xs : List ℕ) → n < length xs → length (take n xs) ≡ n
          length-taken zero xs h = refl
          length-taken (suc n) [] h = absurd (omega (arith, h))
          length-taken (suc n) (x ∷ xs) h = let r = length-taken n xs (omega (arith, h)) in omega (arith, r)

    -- at the end nothing is left
    pub all_cut : IsCut walk k places path before after → length walk ≤ k → AppendsParts arcs walk before after
    all_cut c done =
        let back : c.at ≡ c.way.first = subst (λ l. Leads c.at l c.way.first) (dropped_all walk k done) c.way.ahead in
        let none : path ≡ [] = nothing_left path c.way.behind c.away back in
        record {
          parts = c.way.parts;
          appended = c.way.appended;
          closed = c.way.closed;
          simple = c.way.simple;
          counted = λ i.
              let e = c.way.counted i in
              let n : count_by (λ j. j == i) path ≡ 0 = ap (count_by (λ j. j == i)) none in
              let t = ap (count_by (λ j. j == i)) (taken_whole walk k done) in
              omega (arith, e, n, t);
        }
      where
        nothing_left : (rest : List ℕ) → Leads c.way.first rest c.at → IsAway rest c.at → c.at ≡ c.way.first → rest ≡ []
        nothing_left [] l a b = refl
        nothing_left (i ∷ rest) l a b = absurd (a 0 (omega arith) (l.0 ∙ sym b))
