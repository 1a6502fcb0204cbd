-- Walks while they are gathered into groups.
use Rattle.std.proofs.Common.{◌≡◌, ℕ, zero, suc, ◌+◌, ◌<◌, ◌≤◌, ◌==◌, ◌⊎◌, inl, inr, Bool, true, false, cond, ◌||◌, if◌then◌else◌, List, [], ◌∷◌, ◌++◌, map, length, get_or, set, refl, sym, ap, subst, ◌∙◌, arith, get_or-set_same, get_or-set_other}
use Rattle.std.specs.Prelude.{count_by}
use Rattle.std.specs.List.{list_any}
use Rattle.std.proofs.lemmas.Bool.{eqb-true, eq-eqb, cases_lt, cases_Bool}
use Rattle.std.proofs.lemmas.List.{append-nil, length-set}
use Rattle.std.proofs.lemmas.List.Sums.{sum_by-cons}
use Rattle.std.proofs.lemmas.Grind.{flat_map-append}
use Rattle.overlay_geometry.proofs.laws.lists.Elements.{Contains-from_Has, Has-from_Contains, Has-append_out}
use Rattle.overlay_geometry.proofs.laws.lists.Lists.{Has, Has-append_left, Has-append_right}
use Rattle.overlay_shapes.specs.Gathered.{all_walks, all_links, group_at, AreGathered}
use Rattle.overlay_shapes.specs.steps.Fronts.{AreFronts}
use Rattle.overlay_shapes.specs.steps.Gathering.{MayBeGathered, AreNumbered}
use Rattle.overlay_shapes.proofs.laws.CutWalks.{count_by-both}
use Rattle.overlay_shapes.proofs.laws.Forests.{by_eq}

-- ---- heads, one after another

get_or-before : (xs : List ℕ) (x k : ℕ) → k < length xs → get_or (xs ++ x ∷ []) k 0 ≡ get_or xs k 0
get_or-before [] x k h = absurd (omega (arith, h))
get_or-before (y ∷ xs) x zero h = refl
get_or-before (y ∷ xs) x (suc k) h = get_or-before xs x k (omega (arith, h))

get_or-new : (xs : List ℕ) (x : ℕ) → get_or (xs ++ x ∷ []) (length xs) 0 ≡ x
get_or-new [] x = refl
get_or-new (y ∷ xs) x = get_or-new xs x

length-more : {X : Type 0} (xs : List X) (x : X) → length (xs ++ x ∷ []) ≡ length xs + 1
length-more [] x = omega arith
length-more (y ∷ xs) x = let r = length-more xs x in omega (arith, r)

group-before : (gs : List (List (List ℕ))) (g : List (List ℕ)) (k : ℕ) → k < length gs → group_at (gs ++ g ∷ []) k ≡ group_at gs k
group-before [] g k h = absurd (omega (arith, h))
group-before (y ∷ gs) g zero h = refl
group-before (y ∷ gs) g (suc k) h = group-before gs g k (omega (arith, h))

group-new : (gs : List (List (List ℕ))) (g : List (List ℕ)) → group_at (gs ++ g ∷ []) (length gs) ≡ g
group-new [] g = refl
group-new (y ∷ gs) g = group-new gs g

-- those below an index that lead themselves are numbered
pub record IsNumbering (leaders numbers : List ℕ) (groups : List (List (List ℕ))) (n : ℕ) : Type 0 where
  pub heads : List ℕ
  pub each : length heads ≡ length groups
  pub below : (k : ℕ) → k < length heads → get_or heads k 0 < n
  pub rising : (j k : ℕ) → j < k → k < length heads → get_or heads j 0 < get_or heads k 0
  pub leading : (k : ℕ) → k < length heads → (get_or heads k 0 < length leaders) × (get_or leaders (get_or heads k 0) 0 ≡ get_or heads k 0)
  pub number : (i : ℕ) → i < n → get_or leaders i 0 ≡ i → (get_or numbers i 0 < length heads) × (get_or heads (get_or numbers i 0) 0 ≡ i)
  pub empty : (k : ℕ) → k < length groups → group_at groups k ≡ []

pub none_numbered : (leaders numbers : List ℕ) → IsNumbering leaders numbers [] 0
none_numbered leaders numbers = record {
  heads = [];
  each = refl;
  below = λ k h. absurd (omega (arith, h));
  rising = λ j k l h. absurd (omega (arith, h));
  leading = λ k h. absurd (omega (arith, h));
  number = λ i h e. absurd (omega (arith, h));
  empty = λ k h. absurd (omega (arith, h));
}

-- one that leads itself gets the next number
pub one_numbered : (leaders numbers : List ℕ) (groups : List (List (List ℕ))) (n size : ℕ) → IsNumbering leaders numbers groups n → n < length leaders → length numbers ≡ length leaders → get_or leaders n 0 ≡ n → size ≡ length groups → IsNumbering leaders (set numbers n size) (groups ++ [] ∷ []) (n + 1)
one_numbered leaders numbers groups n size s inside long own same =
    let more = length-more s.heads n in
    let wide = length-more groups [] in
    record {
      heads = s.heads ++ n ∷ [];
      each = omega (arith, more, wide, s.each);
      below = λ k h. elim (cases_lt k (length s.heads)) [
        | inl l ↦ (let e = get_or-before s.heads n k l in let b = s.below k l in omega (arith, e, b))
        | inr l ↦ (let f : k ≡ length s.heads = omega (arith, h, l, more) in let e : get_or (s.heads ++ n ∷ []) k 0 ≡ n = ap (λ i. get_or (s.heads ++ n ∷ []) i 0) f ∙ get_or-new s.heads n in omega (arith, e))
      ];
      rising = λ j k l h. elim (cases_lt k (length s.heads)) [
        | inl m ↦ (let e = get_or-before s.heads n k m in let f = get_or-before s.heads n j (omega (arith, l, m)) in let r = s.rising j k l m in omega (arith, e, f, r))
        | inr m ↦
            let f : k ≡ length s.heads = omega (arith, h, m, more) in
            let e : get_or (s.heads ++ n ∷ []) k 0 ≡ n = ap (λ i. get_or (s.heads ++ n ∷ []) i 0) f ∙ get_or-new s.heads n in
            let d = get_or-before s.heads n j (omega (arith, l, f)) in
            let b = s.below j (omega (arith, l, f)) in
            omega (arith, e, d, b)
      ];
      leading = λ k h. elim (cases_lt k (length s.heads)) [
        | inl l ↦ subst (λ i. (i < length leaders) × (get_or leaders i 0 ≡ i)) (sym (get_or-before s.heads n k l)) (s.leading k l)
        | inr l ↦ (let f : k ≡ length s.heads = omega (arith, h, l, more) in subst (λ i. (i < length leaders) × (get_or leaders i 0 ≡ i)) (sym (ap (λ i. get_or (s.heads ++ n ∷ []) i 0) f ∙ get_or-new s.heads n)) (inside, own))
      ];
      number = λ i h e. by_eq i n
          (λ f.
          let at : get_or (set numbers n size) i 0 ≡ size = ap (λ j. get_or (set numbers n size) j 0) f ∙ get_or-set_same numbers n size 0 (omega (arith, inside, long)) in
          let last : size ≡ length s.heads = omega (arith, same, s.each) in
          (omega (arith, at, last, more), ap (λ j. get_or (s.heads ++ n ∷ []) j 0) (at ∙ last) ∙ get_or-new s.heads n ∙ sym f))
          (λ f.
          let at : get_or (set numbers n size) i 0 ≡ get_or numbers i 0 = get_or-set_other numbers n i size 0 f in
          let r = s.number i (omega (arith, h, f)) e in
          (omega (arith, at, r.0, more), ap (λ j. get_or (s.heads ++ n ∷ []) j 0) at ∙ get_or-before s.heads n (get_or numbers i 0) r.0 ∙ r.1));
      empty = λ k h. elim (cases_lt k (length groups)) [
        | inl l ↦ group-before groups [] k l ∙ s.empty k l
        | inr l ↦ (let f : k ≡ length groups = omega (arith, h, l, wide) in ap (group_at (groups ++ [] ∷ [])) f ∙ group-new groups [])
      ];
    }

pub none_more : (leaders numbers : List ℕ) (groups : List (List (List ℕ))) (n : ℕ) → IsNumbering leaders numbers groups n → (get_or leaders n 0 ≡ n → ⊥) → IsNumbering leaders numbers groups (n + 1)
none_more leaders numbers groups n s other = record {
  heads = s.heads;
  each = s.each;
  below = λ k h. let b = s.below k h in omega (arith, b);
  rising = s.rising;
  leading = s.leading;
  number = λ i h e. by_eq i n (λ f. absurd (other (ap (λ j. get_or leaders j 0) (sym f) ∙ e ∙ f))) (λ f. s.number i (omega (arith, h, f)) e);
  empty = s.empty;
}

pub all_numbered : (leaders numbers : List ℕ) (groups : List (List (List ℕ))) (n : ℕ) → IsNumbering leaders numbers groups n → length leaders ≤ n → AreNumbered leaders numbers groups
all_numbered leaders numbers groups n s done = record { heads = s.heads; each = s.each; rising = s.rising; leading = s.leading; number = λ i h e. s.number i (omega (arith, h, done)) e; empty = s.empty }

-- ---- groups, one walk after another

-- all walks of groups, where one group is another
counted-set : (i : ℕ) (gs : List (List (List ℕ))) (k : ℕ) (g : List (List ℕ)) → k < length gs →
    count_by (λ j. j == i) (all_links (all_walks (set gs k g))) + count_by (λ j. j == i) (all_links (group_at gs k)) ≡ count_by (λ j. j == i) (all_links (all_walks gs)) + count_by (λ j. j == i) (all_links g)
counted-set i [] k g h = absurd (omega (arith, h))
counted-set i (y ∷ gs) zero g h =
    let a = ap (count_by (λ j. j == i)) (flat_map-append (λ (w : List ℕ). w) g (all_walks gs)) ∙ count_by-both (λ j. j == i) (all_links g) (all_links (all_walks gs)) in
    let b = ap (count_by (λ j. j == i)) (flat_map-append (λ (w : List ℕ). w) y (all_walks gs)) ∙ count_by-both (λ j. j == i) (all_links y) (all_links (all_walks gs)) in
    omega (arith, a, b)
counted-set i (y ∷ gs) (suc k) g h =
    let a = ap (count_by (λ j. j == i)) (flat_map-append (λ (w : List ℕ). w) y (all_walks (set gs k g))) ∙ count_by-both (λ j. j == i) (all_links y) (all_links (all_walks (set gs k g))) in
    let b = ap (count_by (λ j. j == i)) (flat_map-append (λ (w : List ℕ). w) y (all_walks gs)) ∙ count_by-both (λ j. j == i) (all_links y) (all_links (all_walks gs)) in
    let r = counted-set i gs k g (omega (arith, h)) in
    omega (arith, a, b, r)

-- a walk in front of a group or behind it
abbrev pub added : List (List ℕ) → List ℕ → ℕ → List (List ℕ)
added group walk front = if list_any (λ i. i == front) walk then walk ∷ group else group ++ walk ∷ []

counted-added : (i : ℕ) (group : List (List ℕ)) (walk : List ℕ) (front : ℕ) → count_by (λ j. j == i) (all_links (added group walk front)) ≡ count_by (λ j. j == i) (all_links group) + count_by (λ j. j == i) walk
counted-added i group walk front = by (list_any (λ i. i == front) walk)
  where
    by : (b : Bool) → count_by (λ j. j == i) (all_links (cond b (walk ∷ group) (group ++ walk ∷ []))) ≡ count_by (λ j. j == i) (all_links group) + count_by (λ j. j == i) walk
    by true = let a = count_by-both (λ j. j == i) walk (all_links group) in omega (arith, a)
    by false =
        let a = ap (count_by (λ j. j == i)) (flat_map-append (λ (w : List ℕ). w) group (walk ∷ []) ∙ ap (λ l. all_links group ++ l) (append-nil walk)) ∙ count_by-both (λ j. j == i) (all_links group) walk in
        omega (arith, a)

Has-added : (group : List (List ℕ)) (walk : List ℕ) (front : ℕ) (w : List ℕ) → Has (added group walk front) w → (walk ≡ w) ⊎ Has group w
Has-added group walk front w = by (list_any (λ i. i == front) walk)
  where
    by : (b : Bool) → Has (cond b (walk ∷ group) (group ++ walk ∷ [])) w → (walk ≡ w) ⊎ Has group w
    by true m = m
    by false m = elim (Has-append_out group (walk ∷ []) w m) [ inl n ↦ inr n | inr (inl e) ↦ inl e | inr (inr none) ↦ elim none [ ] ]

-- what is among the links of walks is in one of them
pub link_in : (walks : List (List ℕ)) (i : ℕ) → Has (all_links walks) i → (w : List ℕ) × Has walks w × Has w i
link_in [] i m = absurd m
link_in (w ∷ walks) i m = elim (Has-append_out w (all_links walks) i m) [
  | inl n ↦ (w, inl refl, n)
  | inr n ↦ (let r = link_in walks i n in (r.0, inr r.1, r.2))
]

pub link_of_walk : (walks : List (List ℕ)) (w : List ℕ) (i : ℕ) → Has walks w → Has w i → Has (all_links walks) i
link_of_walk [] w i none n = elim none [ ]
link_of_walk (v ∷ walks) w i (inl e) n = Has-append_left v (all_links walks) i (subst (λ u. Has u i) (sym e) n)
link_of_walk (v ∷ walks) w i (inr m) n = Has-append_right v (all_links walks) i (link_of_walk walks w i m n)

pub walk_in : (groups : List (List (List ℕ))) (w : List ℕ) → Has (all_walks groups) w → (k : ℕ) × (k < length groups) × Has (group_at groups k) w
walk_in [] w m = absurd m
walk_in (g ∷ groups) w m = elim (Has-append_out g (all_walks groups) w m) [
  | inl n ↦ (0, omega arith, n)
  | inr n ↦ (let r = walk_in groups w n in (suc r.0, omega (arith, r.1), r.2))
]

abbrev pub flag : Bool → ℕ
flag b = cond b 1 0

abbrev pub hit : ℕ → ℕ → ℕ
hit x i = flag (x == i)

-- what is counted is there
pub Has-counted : (xs : List ℕ) (i : ℕ) → 0 < count_by (λ j. j == i) xs → Has xs i
Has-counted [] i h = absurd (omega (arith, h))
Has-counted (x ∷ xs) i h = elim (cases_Bool (x == i)) [
  | inl e ↦ inl (eqb-true x i e)
  | inr e ↦ (let m = sum_by-cons (λ j. hit j i) x xs in let z : hit x i ≡ 0 = ap (λ (b : Bool). flag b) e in inr (Has-counted xs i (omega (arith, h, m, z))))
]

-- and what is there is counted
pub Has-count : (xs : List ℕ) (i : ℕ) → Has xs i → 0 < count_by (λ j. j == i) xs
Has-count [] i none = elim none [ ]
Has-count (x ∷ xs) i (inl e) = let m = sum_by-cons (λ j. hit j i) x xs in let z : hit x i ≡ 1 = ap flag (eq-eqb x i e) in omega (arith, m, z)
Has-count (x ∷ xs) i (inr n) = let m = sum_by-cons (λ j. hit j i) x xs in let r = Has-count xs i n in omega (arith, m, r)

any_has : (xs : List ℕ) (i : ℕ) → Has xs i → list_any (λ j. j == i) xs ≡ true
any_has [] i none = elim none [ ]
any_has (x ∷ xs) i (inl e) = rw (eq-eqb x i e) refl
any_has (x ∷ xs) i (inr m) = by (x == i) (any_has xs i m)
  where
    by : (b : Bool) → list_any (λ j. j == i) xs ≡ true → (b || list_any (λ j. j == i) xs) ≡ true
    by true e = refl
    by false e = e

-- the groups of the walks so far
pub record AreAdded (leaders fronts numbers : List ℕ) (walks : List (List ℕ)) (groups : List (List (List ℕ))) : Type 0 where
  pub heads : List ℕ
  pub each : length heads ≡ length groups
  pub rising : (j k : ℕ) → j < k → k < length heads → get_or heads j 0 < get_or heads k 0
  pub leading : (k : ℕ) → k < length heads → (get_or heads k 0 < length leaders) × (get_or leaders (get_or heads k 0) 0 ≡ get_or heads k 0)
  pub number : (i : ℕ) → i < length leaders → get_or leaders i 0 ≡ i → (get_or numbers i 0 < length heads) × (get_or heads (get_or numbers i 0) 0 ≡ i)
  pub taken : (k : ℕ) (w : List ℕ) → k < length groups → Has (group_at groups k) w → Has walks w
  pub counted : (i : ℕ) → count_by (λ j. j == i) (all_links (all_walks groups)) ≡ count_by (λ j. j == i) (all_links walks)
  pub led : (k : ℕ) (w : List ℕ) (i : ℕ) → k < length groups → Has (group_at groups k) w → Has w i → get_or leaders i 0 ≡ get_or heads k 0
  -- the walk that has the front of the leader is in front
  pub front : (k : ℕ) (w : List ℕ) → k < length groups → Has (group_at groups k) w → Has w (get_or fronts (get_or heads k 0) 0) → (f : List ℕ) × (later : List (List ℕ)) × (group_at groups k ≡ f ∷ later) × Has f (get_or fronts (get_or heads k 0) 0)

pub none_added : (leaders fronts numbers : List ℕ) (groups : List (List (List ℕ))) → AreNumbered leaders numbers groups → AreAdded leaders fronts numbers [] groups
none_added leaders fronts numbers groups s = record {
  heads = s.heads;
  each = s.each;
  rising = s.rising;
  leading = s.leading;
  number = s.number;
  taken = λ k w h m. subst (λ g. Has g w) (s.empty k h) m;
  counted = λ i. ap (λ l. count_by (λ j. j == i) (all_links l)) (no_walks groups s.empty);
  led = λ k w i h m n. absurd (subst (λ g. Has g w) (s.empty k h) m);
  front = λ k w h m n. absurd (subst (λ g. Has g w) (s.empty k h) m);
}
  where
    no_walks : (gs : List (List (List ℕ))) → ((k : ℕ) → k < length gs → group_at gs k ≡ []) → all_walks gs ≡ []
    no_walks [] e = refl
    no_walks (g ∷ gs) e = rw (e 0 (omega arith)) (no_walks gs (λ k h. e (suc k) (omega (arith, h))))

group-same : (gs : List (List (List ℕ))) (k : ℕ) (g : List (List ℕ)) → k < length gs → group_at (set gs k g) k ≡ g
group-same gs k g h = get_or-set_same gs k g [] h

group-other : (gs : List (List (List ℕ))) (k j : ℕ) (g : List (List ℕ)) → (j ≡ k → ⊥) → group_at (set gs k g) j ≡ group_at gs j
group-other gs k j g n = get_or-set_other gs k j g [] n

-- one walk more, which has one leader
pub one_added : (leaders fronts numbers : List ℕ) (walks : List (List ℕ)) (groups : List (List (List ℕ))) (walk : List ℕ) (leader k : ℕ) → AreAdded leaders fronts numbers walks groups → leader < length leaders → get_or leaders leader 0 ≡ leader →
    ((i : ℕ) → Has walk i → get_or leaders i 0 ≡ leader) → k ≡ get_or numbers leader 0 → AreAdded leaders fronts numbers (walks ++ walk ∷ []) (set groups k (added (group_at groups k) walk (get_or fronts leader 0)))
one_added leaders fronts numbers walks groups walk leader k a inside own one same =
    let link = get_or fronts leader 0 in
    let at = a.number leader inside own in
    let head : get_or a.heads k 0 ≡ leader = ap (λ j. get_or a.heads j 0) same ∙ at.1 in
    let low : k < length groups = omega (arith, same, at.0, a.each) in
    let now : List (List (List ℕ)) = set groups k (added (group_at groups k) walk link) in
    let wide : length now ≡ length groups = length-set groups k (added (group_at groups k) walk link) in
    let here : group_at now k ≡ added (group_at groups k) walk link = group-same groups k (added (group_at groups k) walk link) low in
    record {
      heads = a.heads;
      each = a.each ∙ sym wide;
      rising = a.rising;
      leading = a.leading;
      number = a.number;
      taken = λ j w h m. by_eq j k
          (λ e. elim (Has-added (group_at groups k) walk link w (subst (λ g. Has g w) (ap (group_at now) e ∙ here) m)) [
            | inl f ↦ Has-append_right walks (walk ∷ []) w (inl f)
            | inr n ↦ Has-append_left walks (walk ∷ []) w (a.taken k w low n)
          ])
          (λ e. Has-append_left walks (walk ∷ []) w (a.taken j w (omega (arith, h, wide)) (subst (λ g. Has g w) (group-other groups k j (added (group_at groups k) walk link) e) m)));
      counted = λ i.
          let s = counted-set i groups k (added (group_at groups k) walk link) low in
          let t = counted-added i (group_at groups k) walk link in
          let r = ap (count_by (λ j. j == i)) (flat_map-append (λ (w : List ℕ). w) walks (walk ∷ []) ∙ ap (λ l. all_links walks ++ l) (append-nil walk)) ∙ count_by-both (λ j. j == i) (all_links walks) walk in
          omega (arith, s, t, r, a.counted i);
      led = λ j w i h m n. by_eq j k
          (λ e. elim (Has-added (group_at groups k) walk link w (subst (λ g. Has g w) (ap (group_at now) e ∙ here) m)) [
            | inl f ↦ one i (subst (λ u. Has u i) (sym f) n) ∙ sym (ap (λ l. get_or a.heads l 0) e ∙ head)
            | inr o ↦ a.led k w i low o n ∙ ap (λ l. get_or a.heads l 0) (sym e)
          ])
          (λ e. a.led j w i (omega (arith, h, wide)) (subst (λ g. Has g w) (group-other groups k j (added (group_at groups k) walk link) e) m) n);
      front = λ j w h m n. by_eq j k
          (λ e.
          let lead : get_or fronts (get_or a.heads j 0) 0 ≡ link = ap (λ l. get_or fronts l 0) (ap (λ l. get_or a.heads l 0) e ∙ head) in
          let has : Has w link = subst (λ l. Has w l) lead n in
          let r = fronted link (list_any (λ i. i == link) walk) refl w has (Has-added (group_at groups k) walk link w (subst (λ g. Has g w) (ap (group_at now) e ∙ here) m)) (λ v o p. let q = a.front k v low o (subst (λ l. Has v l) (sym (ap (λ l. get_or fronts l 0) head)) p) in (q.0, q.1, q.2, subst (λ l. Has q.0 l) (ap (λ l. get_or fronts l 0) head) q.3)) in
          (r.0, r.1, ap (group_at now) e ∙ here ∙ r.2, subst (λ l. Has r.0 l) (sym lead) r.3))
          (λ e.
          let other = group-other groups k j (added (group_at groups k) walk link) e in
          let r = a.front j w (omega (arith, h, wide)) (subst (λ g. Has g w) other m) n in
          (r.0, r.1, other ∙ r.2, r.3));
    }
  where
    fronted : (link : ℕ) (b : Bool) → list_any (λ i. i == link) walk ≡ b → (w : List ℕ) → Has w link → (walk ≡ w) ⊎ Has (group_at groups k) w →
        ((v : List ℕ) → Has (group_at groups k) v → Has v link → (f : List ℕ) × (later : List (List ℕ)) × (group_at groups k ≡ f ∷ later) × Has f link) →
        (f : List ℕ) × (later : List (List ℕ)) × (added (group_at groups k) walk link ≡ f ∷ later) × Has f link
    fronted link b e w has (inl f) old =
        let yes : list_any (λ i. i == link) walk ≡ true = any_has walk link (subst (λ u. Has u link) (sym f) has) in
        (walk, group_at groups k, rw yes refl, subst (λ u. Has u link) (sym f) has)
    fronted link true e w has (inr m) old = (walk, group_at groups k, rw e refl, has_any walk link e)
      where
        has_any : (xs : List ℕ) (i : ℕ) → list_any (λ j. j == i) xs ≡ true → Has xs i
        has_any [] i h = absurd (cc)
        has_any (x ∷ xs) i h = elim (cases_Bool (x == i)) [ inl t ↦ inl (eqb-true x i t) | inr t ↦ inr (has_any xs i (rw t at h)) ]
    fronted link false e w has (inr m) old = let r = old w m has in (r.0, r.1 ++ walk ∷ [], rw (e, r.2) refl, r.3)

-- the groups of all walks
pub all_added : (leaders fronts numbers : List ℕ) (walks : List (List ℕ)) (groups : List (List (List ℕ))) → AreFronts leaders fronts → MayBeGathered leaders walks → AreAdded leaders fronts numbers walks groups → AreGathered leaders fronts walks groups
all_added leaders fronts numbers walks groups are may a = record {
  taken = λ k w h m. Contains-from_Has walks w (a.taken k w h (Has-from_Contains (group_at groups k) w m));
  counted = a.counted;
  heads = a.heads;
  each = a.each;
  rising = a.rising;
  led = λ k i h m. let r = link_in (group_at groups k) i (Has-from_Contains (all_links (group_at groups k)) i m) in a.led k r.0 i h r.1 r.2;
  first = λ k h.
      let lead = a.leading k (omega (arith, h, a.each)) in
      let link = get_or fronts (get_or a.heads k 0) 0 in
      let once = may.once link (are.within (get_or a.heads k 0) lead.0 lead.1) in
      let there = Has-counted (all_links (all_walks groups)) link (let c = a.counted link in omega (arith, c, once)) in
      let w = link_in (all_walks groups) link there in
      let g = walk_in groups w.0 w.1 in
      let told = a.led g.0 w.0 link g.1 g.2 w.2 in
      let same : g.0 ≡ k = one_head a.heads a.rising g.0 k (omega (arith, g.1, a.each)) (omega (arith, h, a.each)) (sym told ∙ are.own (get_or a.heads k 0) lead.0 lead.1) in
      let r = a.front k w.0 h (subst (λ j. Has (group_at groups j) w.0) same g.2) w.2 in
      (r.0, r.1, r.2, Contains-from_Has r.0 link r.3);
}
  where
    one_head : (heads : List ℕ) → ((j k : ℕ) → j < k → k < length heads → get_or heads j 0 < get_or heads k 0) → (j k : ℕ) → j < length heads → k < length heads → get_or heads j 0 ≡ get_or heads k 0 → j ≡ k
    one_head heads rising j k h l e = elim (cases_lt j k) [
      | inl m ↦ (let r = rising j k m l in absurd (omega (arith, r, e)))
      | inr m ↦ elim (cases_lt k j) [
        | inl n ↦ (let r = rising k j n h in absurd (omega (arith, r, e)))
        | inr n ↦ omega (arith, m, n)
      ]
    ]

pub map_set : {X Y : Type 0} (f : X → Y) (xs : List X) (k : ℕ) (x : X) → map f (set xs k x) ≡ set (map f xs) k (f x)
map_set f [] k x = refl
map_set f (y ∷ xs) zero x = refl
map_set f (y ∷ xs) (suc k) x = ap (λ l. f y ∷ l) (map_set f xs k x)
