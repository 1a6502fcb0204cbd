-- Cycles of numbers along the ones that lead on from them: while one is followed, and while they are cut into walks.
use Rattle.std.proofs.Common.{◌≡◌, ℕ, zero, suc, ◌+◌, ◌-◌, ◌<◌, ◌≤◌, ◌==◌, inl, inr, Bool, true, false, cond, not, List, [], ◌∷◌, ◌++◌, map, length, get_or, set, replicate, refl, sym, ap, ap₂, subst, ◌∙◌, arith, get_or-set_same, get_or-set_other}
use Rattle.std.specs.Prelude.{count_by, flat_map, All}
use Rattle.std.specs.List.{AllByRecursion}
use Rattle.std.proofs.lemmas.Bool.{cases_Bool, cases_lt, eq-eqb, ne_eqb, false≢true}
use Rattle.std.proofs.lemmas.List.{length-set, length-replicate, map-append, get_or-map}
use Rattle.std.proofs.lemmas.List.Elements.{All-append, All-from_recursion, recursion_from_All}
use Rattle.std.proofs.lemmas.List.Sums.{sum_by-cons, sum_by-set}
use Rattle.std.proofs.lemmas.Grind.{flat_map-append}
use Rattle.overlay_geometry.proofs.laws.lists.Elements.{Has-from_Contains}
use Rattle.overlay_geometry.proofs.laws.lists.Lists.{Has, AllByRecursion-from_Has}
use Rattle.overlay_build.specs.Graph.{Link}
use Rattle.overlay_build.specs.DirectedWalks.{along, rotated, IsDirectedWalk, AreDirectedWalks}
use Rattle.overlay_shapes.specs.Classes.{AreLinked}
use Rattle.overlay_shapes.specs.Classes.AreLinked.{here}
use Rattle.overlay_shapes.specs.SimpleWalks.{PassesOnce}
use Rattle.overlay_shapes.specs.steps.CutWalks.{IsClosedChain, AppendsParts}
use Rattle.overlay_shapes.specs.steps.Cycles.{IsOneToOne, IsCycle, LeadsTo, AreOnOneCycle, times_used, AreUsedBack}
use Rattle.overlay_shapes.specs.steps.LeadOn.{LeadOn}
use Rattle.overlay_shapes.proofs.laws.CutWalks.{start, count_by-both}
use Rattle.overlay_shapes.proofs.laws.Forests.{by_eq}
use Rattle.overlay_shapes.proofs.laws.Gathering.{Has-counted, Has-count, link_of_walk, flag, hit}
use Rattle.overlay_shapes.proofs.laws.Linked.{AreLinked-trans, AreLinked-sym, AreLinked-step}

-- ---- counts

Has_at : (xs : List ℕ) (k : ℕ) → k < length xs → Has xs (get_or xs k 0)
Has_at [] k h = absurd (omega (arith, h))
Has_at (x ∷ xs) zero h = inl refl
Has_at (x ∷ xs) (suc k) h = inr (Has_at xs k (omega (arith, h)))

at_of : (xs : List ℕ) (x : ℕ) → Has xs x → (k : ℕ) × (k < length xs) × (get_or xs k 0 ≡ x)
at_of [] x none = elim none [ ]
at_of (y ∷ xs) x (inl e) = (0, omega arith, e)
at_of (y ∷ xs) x (inr m) = let r = at_of xs x m in (suc r.0, omega (arith, r.1), r.2)

-- what is counted at most once is at one index
one_index : (xs : List ℕ) (x j k : ℕ) → count_by (λ i. i == x) xs ≤ 1 → j < length xs → k < length xs → get_or xs j 0 ≡ x → get_or xs k 0 ≡ x → j ≡ k
one_index [] x j k once h l e f = absurd (omega (arith, h))
one_index (y ∷ xs) x zero zero once h l e f = refl
one_index (y ∷ xs) x zero (suc k) once h l e f =
    let m = sum_by-cons (λ i. hit i x) y xs in
    let z : hit y x ≡ 1 = ap flag (eq-eqb y x e) in
    let r = Has-count xs x (subst (Has xs) f (Has_at xs k (omega (arith, l)))) in
    absurd (omega (arith, once, m, z, r))
one_index (y ∷ xs) x (suc j) zero once h l e f =
    let m = sum_by-cons (λ i. hit i x) y xs in
    let z : hit y x ≡ 1 = ap flag (eq-eqb y x f) in
    let r = Has-count xs x (subst (Has xs) e (Has_at xs j (omega (arith, h)))) in
    absurd (omega (arith, once, m, z, r))
one_index (y ∷ xs) x (suc j) (suc k) once h l e f =
    let m = sum_by-cons (λ i. hit i x) y xs in
    let r = one_index xs x j k (omega (arith, once, m)) (omega (arith, h)) (omega (arith, l)) e f in
    omega (arith, r)

get_or-in_front : (xs : List ℕ) (x k : ℕ) → k < length xs → get_or (xs ++ x ∷ []) k 0 ≡ get_or xs k 0
get_or-in_front [] x k h = absurd (omega (arith, h))
get_or-in_front (y ∷ xs) x zero h = refl
get_or-in_front (y ∷ xs) x (suc k) h = get_or-in_front xs x k (omega (arith, h))

get_or-at_end : (xs : List ℕ) (x : ℕ) → get_or (xs ++ x ∷ []) (length xs) 0 ≡ x
get_or-at_end [] x = refl
get_or-at_end (y ∷ xs) x = get_or-at_end xs x

-- ---- flags

times_yes : (used : List Bool) (i : ℕ) → get_or used i false ≡ true → times_used used i ≡ 1
times_yes used i e = ap flag e

times_no : (used : List Bool) (i : ℕ) → get_or used i false ≡ false → times_used used i ≡ 0
times_no used i e = ap flag e

yes_times : (used : List Bool) (i : ℕ) → 0 < times_used used i → get_or used i false ≡ true
yes_times used i h = elim (cases_Bool (get_or used i false)) [ inl e ↦ e | inr e ↦ absurd (let z = times_no used i e in omega (arith, h, z)) ]

times_set : (used : List Bool) (at i : ℕ) → at < length used → get_or used at false ≡ false → times_used (set used at true) i ≡ times_used used i + hit at i
times_set used at i h free = by_eq i at
    (λ e.
    let a : times_used (set used at true) i ≡ 1 = times_yes (set used at true) i (ap (λ j. get_or (set used at true) j false) e ∙ get_or-set_same used at true false h) in
    let b : times_used used i ≡ 0 = times_no used i (ap (λ j. get_or used j false) e ∙ free) in
    let z : hit at i ≡ 1 = ap flag (eq-eqb at i (sym e)) in
    omega (arith, a, b, z))
    (λ e.
    let a : times_used (set used at true) i ≡ times_used used i = ap flag (get_or-set_other used at i true false e) in
    let z : hit at i ≡ 0 = ap flag (ne_eqb at i (λ s. e (sym s))) in
    omega (arith, a, z))

-- one flag more leaves fewer
pub fewer_unused : (used : List Bool) (i : ℕ) → i < length used → get_or used i false ≡ false → count_by not (set used i true) < count_by not used
fewer_unused used i h free =
    let sums = sum_by-set (λ b. cond (not b) 1 0) used i true false h in
    let sum : count_by not (set used i true) + 1 ≡ count_by not used + 0 = rw free at sums in
    omega (arith, sum)

-- ---- a cycle while it is followed

module _ (next : List ℕ) where
  abbrev pub to : ℕ → ℕ
  to i = get_or next i 0

  pub record IsOnCycle (old used : List Bool) (cycle : List ℕ) (first at : ℕ) : Type 0 where
    pub flags : length used ≡ length next
    pub low : at < length next
    pub within : All (λ i. i < length next) cycle
    pub trail : first ∷ map to cycle ≡ cycle ++ at ∷ []
    pub counted : (i : ℕ) → times_used used i ≡ times_used old i + count_by (λ j. j == i) cycle

  pub cycle_begun : (old : List Bool) (first : ℕ) → length old ≡ length next → first < length next → IsOnCycle old old [] first first
  cycle_begun old first many low = record { flags = many; low = low; within = All-from_recursion (λ i. i < length next) [] tt; trail = refl; counted = λ i. let z : count_by (λ j. j == i) [] ≡ 0 = refl in omega (arith, z) }

  pub one_further : (old used : List Bool) (cycle : List ℕ) (first at : ℕ) → IsOneToOne next → IsOnCycle old used cycle first at → get_or used at false ≡ false → IsOnCycle old (set used at true) (cycle ++ at ∷ []) first (to at)
  one_further old used cycle first at one c free = record {
    flags = length-set used at true ∙ c.flags;
    low = one.within at c.low;
    within = All-append (λ i. i < length next) cycle (at ∷ []) c.within (All-from_recursion (λ i. i < length next) (at ∷ []) (c.low, tt));
    trail = ap (λ l. first ∷ l) (map-append to cycle (at ∷ [])) ∙ ap (λ l. l ++ to at ∷ []) c.trail;
    counted = λ i.
        let a = times_set used at i (omega (arith, c.low, c.flags)) free in
        let b = count_by-both (λ j. j == i) cycle (at ∷ []) in
        let z : count_by (λ j. j == i) (at ∷ []) ≡ hit at i = (let m = sum_by-cons (λ j. hit j i) at [] in let n : count_by (λ j. j == i) [] ≡ 0 = refl in omega (arith, m, n)) in
        omega (arith, a, b, z, c.counted i);
  }

  module _ (old used : List Bool) (cycle : List ℕ) (first at : ℕ) (one : IsOneToOne next) (back : AreUsedBack next old) (free : get_or old first false ≡ false) (c : IsOnCycle old used cycle first at) (done : get_or used at false ≡ true) where
    goes_on : (k : ℕ) → k < length cycle → to (get_or cycle k 0) ≡ get_or (cycle ++ at ∷ []) (suc k) 0
    goes_on k h = sym (get_or-map to cycle k 0 0 h) ∙ ap (λ l. get_or l (suc k) 0) c.trail

    begins : 0 < length cycle → first ≡ get_or cycle 0 0
    begins h = ap (λ l. get_or l 0 0) c.trail ∙ get_or-in_front cycle at 0 h

    low_at : (k : ℕ) → k < length cycle → get_or cycle k 0 < length next
    low_at k h = c.within k 0 h

    not_empty : 0 < length cycle
    not_empty = elim (cases_lt 0 (length cycle)) [
      | inl h ↦ h
      | inr h ↦ absurd (
          let none : cycle ≡ [] = is_empty cycle h in
          let same : at ≡ first = ap (λ l. get_or (l ++ at ∷ []) 0 0) (sym none) ∙ sym (ap (λ l. get_or l 0 0) c.trail) in
          let a = c.counted at in
          let b = times_yes used at done in
          let d = times_no old at (ap (λ j. get_or old j false) same ∙ free) in
          let z : count_by (λ j. j == at) cycle ≡ 0 = ap (count_by (λ j. j == at)) none in
          omega (arith, a, b, d, z))
    ]
      where
        is_empty : (xs : List ℕ) → length xs ≤ 0 → xs ≡ []
        is_empty [] h = refl
        is_empty (x ∷ xs) h = absurd (omega (arith, h))

    last_leads : (q : ℕ) → suc q ≡ length cycle → to (get_or cycle q 0) ≡ at
    last_leads q e = goes_on q (omega (arith, e)) ∙ ap (λ k. get_or (cycle ++ at ∷ []) k 0) e ∙ get_or-at_end cycle at

    last : (q : ℕ) × (suc q ≡ length cycle)
    last = by (length cycle) not_empty
      where
        by : (n : ℕ) → 0 < n → (q : ℕ) × (suc q ≡ n)
        by zero h = absurd (omega (arith, h))
        by (suc q) h = (q, refl)

    was_free : get_or old at false ≡ false
    was_free = elim (cases_Bool (get_or old at false)) [
      | inr e ↦ e
      | inl e ↦ absurd (
          let q = last in
          let x = get_or cycle q.0 0 in
          let h : q.0 < length cycle = (let f = q.1 in omega (arith, f)) in
          let u = back x (low_at q.0 h) (ap (λ j. get_or old j false) (last_leads q.0 q.1) ∙ e) in
          let a = times_yes old x u in
          let b = Has-count cycle x (Has_at cycle q.0 h) in
          let n = c.counted x in
          let m = at_most used x in
          omega (arith, a, b, n, m))
    ]
      where
        at_most : (used : List Bool) (i : ℕ) → times_used used i ≤ 1
        at_most used i = elim (cases_Bool (get_or used i false)) [ inl e ↦ (let z = times_yes used i e in omega (arith, z)) | inr e ↦ (let z = times_no used i e in omega (arith, z)) ]

    once : (x : ℕ) → count_by (λ j. j == x) cycle ≤ 1
    once x =
        let n = c.counted x in
        elim (cases_Bool (get_or used x false)) [ inl e ↦ (let z = times_yes used x e in omega (arith, z, n)) | inr e ↦ (let z = times_no used x e in omega (arith, z, n)) ]

    -- it has come back to where it began
    came_round : at ≡ first
    came_round =
        let q = last in
        let h : q.0 < length cycle = (let f = q.1 in omega (arith, f)) in
        let there = Has-counted cycle at (let n = c.counted at in let a = times_yes used at done in let b = times_no old at was_free in omega (arith, n, a, b)) in
        let p = at_of cycle at there in
        by p.0 p.1 p.2 q.0 q.1 h
      where
        by : (j : ℕ) → j < length cycle → get_or cycle j 0 ≡ at → (q : ℕ) → suc q ≡ length cycle → q < length cycle → at ≡ first
        by zero l e q f h = sym e ∙ sym (begins not_empty)
        by (suc j) l e q f h =
            let lj : j < length cycle = omega (arith, l) in
            let g : to (get_or cycle j 0) ≡ at = goes_on j lj ∙ get_or-in_front cycle at (suc j) l ∙ e in
            let same = one.apart (get_or cycle j 0) (get_or cycle q 0) (low_at j lj) (low_at q h) (g ∙ sym (last_leads q f)) in
            let i = one_index cycle (get_or cycle q 0) j q (once (get_or cycle q 0)) lj h same refl in
            absurd (omega (arith, i, l, f))

    pub is_cycle : IsCycle next cycle
    is_cycle = record { within = c.within; along = round cycle first came_round c.trail not_empty }
      where
        round : (xs : List ℕ) (f : ℕ) → at ≡ f → f ∷ map to xs ≡ xs ++ at ∷ [] → 0 < length xs → map to xs ≡ rotated xs
        round [] f r e h = absurd (omega (arith, h))
        round (x ∷ xs) f r e h = cc

    pub begun_used : get_or used first false ≡ true
    begun_used = ap (λ j. get_or used j false) (sym came_round) ∙ done

    in_cycle : (x : ℕ) → Has cycle x → get_or used x false ≡ true
    in_cycle x m = yes_times used x (let b = Has-count cycle x m in let n = c.counted x in omega (arith, b, n))

    was_used : (x : ℕ) → get_or old x false ≡ true → get_or used x false ≡ true
    was_used x e = yes_times used x (let b = times_yes old x e in let n = c.counted x in omega (arith, b, n))

    pub used_back : AreUsedBack next used
    used_back i low u = elim (cases_Bool (get_or old (to i) false)) [
      | inl e ↦ was_used i (back i low e)
      | inr e ↦
          let there = Has-counted cycle (to i) (let n = c.counted (to i) in let a = times_yes used (to i) u in let b = times_no old (to i) e in omega (arith, n, a, b)) in
          let p = at_of cycle (to i) there in
          by p.0 p.1 p.2
    ]
      where
        from : (k : ℕ) → k < length cycle → to (get_or cycle k 0) ≡ to i → get_or used i false ≡ true
        from k h e = in_cycle i (subst (Has cycle) (one.apart (get_or cycle k 0) i (low_at k h) low e) (Has_at cycle k h))

        by : (j : ℕ) → j < length cycle → get_or cycle j 0 ≡ to i → get_or used i false ≡ true
        by zero l e = let q = last in from q.0 (let f = q.1 in omega (arith, f)) (last_leads q.0 q.1 ∙ came_round ∙ begins not_empty ∙ e)
        by (suc j) l e = let lj : j < length cycle = omega (arith, l) in from j lj (goes_on j lj ∙ get_or-in_front cycle at (suc j) l ∙ e)

  -- ---- what is on one cycle

  from_first : (x : ℕ) (xs : List ℕ) (v : ℕ) → AllByRecursion (λ i. i < length next) (x ∷ xs) → map to (x ∷ xs) ≡ xs ++ v ∷ [] → (y : ℕ) → Has (x ∷ xs) y → AreLinked (LeadsTo next) x y
  from_first x xs v a e y (inl s) = subst (AreLinked (LeadsTo next) x) s here
  from_first x [] v a e y (inr none) = elim none [ ]
  from_first x (z ∷ xs) v a e y (inr m) =
      let step : to x ≡ z = cc in
      AreLinked-trans (LeadsTo next) (AreLinked-step (LeadsTo next) (a.0, step)) (from_first z xs v a.1 (cc) y m)

  linked_in : (cycle : List ℕ) → IsCycle next cycle → (x y : ℕ) → Has cycle x → Has cycle y → AreLinked (LeadsTo next) x y
  linked_in [] c x y none n = elim none [ ]
  linked_in (z ∷ zs) c x y m n =
      let a = recursion_from_All (λ i. i < length next) (z ∷ zs) c.within in
      AreLinked-trans (LeadsTo next) (AreLinked-sym (LeadsTo next) (from_first z zs z a c.along x m)) (from_first z zs z a c.along y n)

map-rotated : {X Y : Type 0} (f : X → Y) (xs : List X) → map f (rotated xs) ≡ rotated (map f xs)
map-rotated f [] = refl
map-rotated f (x ∷ xs) = map-append f xs (x ∷ [])

-- ---- walks, cycle after cycle

module _ (arcs : List Link) (next : List ℕ) where
  pub record AreWalked (n : ℕ) (used : List Bool) (walks : List (List ℕ)) : Type 0 where
    pub flags : length used ≡ length next
    pub back : AreUsedBack next used
    pub passed : (i : ℕ) → i < n → get_or used i false ≡ true
    pub closed : All (IsDirectedWalk arcs) walks
    pub simple : All (PassesOnce arcs) walks
    pub cycles : All (AreOnOneCycle next) walks
    pub counted : (i : ℕ) → count_by (λ j. j == i) (flat_map (λ walk. walk) walks) ≡ times_used used i

  none_used : (n i : ℕ) → get_or (replicate n false) i false ≡ false
  none_used zero i = refl
  none_used (suc n) zero = refl
  none_used (suc n) (suc i) = none_used n i

  pub none_walked : AreWalked 0 (replicate (length next) false) []
  none_walked = record {
    flags = length-replicate (length next) false;
    back = λ i h u. absurd (false≢true (sym (none_used (length next) (get_or next i 0)) ∙ u));
    passed = λ i h. absurd (omega (arith, h));
    closed = All-from_recursion (IsDirectedWalk arcs) [] tt;
    simple = All-from_recursion (PassesOnce arcs) [] tt;
    cycles = All-from_recursion (AreOnOneCycle next) [] tt;
    counted = λ i. let z = times_no (replicate (length next) false) i (none_used (length next) i) in let n : count_by (λ j. j == i) (flat_map (λ walk. walk) []) ≡ 0 = refl in omega (arith, z, n);
  }

  pub one_walked : (n : ℕ) (old used : List Bool) (cycle : List ℕ) (before after : List (List ℕ)) → AreWalked n old before → length used ≡ length old → IsCycle next cycle → ((i : ℕ) → times_used used i ≡ times_used old i + count_by (λ j. j == i) cycle) → get_or used n false ≡ true →
      AreUsedBack next used → AppendsParts arcs cycle before after → AreWalked (n + 1) used after
  one_walked n old used cycle before after w long c counted begun back a = record {
    flags = long ∙ w.flags;
    back = back;
    passed = λ i h. elim (cases_lt i n) [
      | inl l ↦ yes_times used i (let b = times_yes old i (w.passed i l) in let m = counted i in omega (arith, b, m))
      | inr l ↦ (let e : i ≡ n = omega (arith, h, l) in ap (λ j. get_or used j false) e ∙ begun)
    ];
    closed = subst (All (IsDirectedWalk arcs)) (sym a.appended) (All-append (IsDirectedWalk arcs) before a.parts w.closed a.closed);
    simple = subst (All (PassesOnce arcs)) (sym a.appended) (All-append (PassesOnce arcs) before a.parts w.simple a.simple);
    cycles = subst (All (AreOnOneCycle next)) (sym a.appended) (All-append (AreOnOneCycle next) before a.parts w.cycles
        (All-from_recursion (AreOnOneCycle next) a.parts (AllByRecursion-from_Has (AreOnOneCycle next) a.parts (λ part m i j ci cj.
        linked_in next cycle c i j (in_cycle part i m (Has-from_Contains part i ci)) (in_cycle part j m (Has-from_Contains part j cj))))));
    counted = λ i.
        let l = ap (count_by (λ j. j == i)) (ap (flat_map (λ (part : List ℕ). part)) a.appended ∙ flat_map-append (λ (part : List ℕ). part) before a.parts) in
        let m = count_by-both (λ j. j == i) (flat_map (λ (part : List ℕ). part) before) (flat_map (λ (part : List ℕ). part) a.parts) in
        omega (arith, l, m, counted i, w.counted i, a.counted i);
  }
    where
      in_cycle : (part : List ℕ) (i : ℕ) → Has a.parts part → Has part i → Has cycle i
      in_cycle part i m k = Has-counted cycle i (let b = Has-count (flat_map (λ (walk : List ℕ). walk) a.parts) i (link_of_walk a.parts part i m k) in let n = a.counted i in omega (arith, b, n))

  pub none_more_walked : (n : ℕ) (used : List Bool) (walks : List (List ℕ)) → AreWalked n used walks → get_or used n false ≡ true → AreWalked (n + 1) used walks
  none_more_walked n used walks w e = record {
    flags = w.flags;
    back = w.back;
    passed = λ i h. elim (cases_lt i n) [
      | inl l ↦ w.passed i l
      | inr l ↦ (let f : i ≡ n = omega (arith, h, l) in ap (λ j. get_or used j false) f ∙ e)
    ];
    closed = w.closed;
    simple = w.simple;
    cycles = w.cycles;
    counted = w.counted;
  }

  -- ---- a cycle of links that lead on is a closed chain

  module _ (lead : LeadOn arcs next) where
    starts_along : (walk : List ℕ) → map (λ l. l.a_node) (along arcs walk) ≡ map (start arcs) walk
    starts_along [] = refl
    starts_along (i ∷ walk) = ap (λ l. start arcs i ∷ l) (starts_along walk)

    ends_along : (walk : List ℕ) → AllByRecursion (λ i. i < length next) walk → map (λ l. l.b_node) (along arcs walk) ≡ map (start arcs) (map (λ i. get_or next i 0) walk)
    ends_along [] a = refl
    ends_along (i ∷ walk) a = ap₂ (λ x l. x ∷ l) (lead.meets i (let h = a.0 in omega (arith, h, lead.each))) (ends_along walk a.1)

    pub closed_chain : (cycle : List ℕ) → IsCycle next cycle → IsClosedChain arcs cycle
    closed_chain cycle c = record {
      within = subst (λ n. All (λ i. i < n) cycle) lead.each c.within;
      meets = ends_along cycle (recursion_from_All (λ i. i < length next) cycle c.within) ∙ ap (map (start arcs)) c.along ∙ map-rotated (start arcs) cycle ∙ ap rotated (sym (starts_along cycle));
    }

    pub all_walked : (n : ℕ) (used : List Bool) (walks : List (List ℕ)) → AreWalked n used walks → length next ≤ n → AreDirectedWalks arcs walks
    all_walked n used walks w done = record {
      closed = w.closed;
      once = λ i h. w.counted i ∙ times_yes used i (w.passed i (omega (arith, h, done, lead.each)));
    }
