-- The links at a node of a graph: their indexes, their rays, and the order of these.
use Rattle.std.proofs.Common.{◌≡◌, ◌≢◌, ℕ, ◌+◌, ◌-◌, ◌<◌, ◌≤◌, ◌==◌, eqb, ◌⊎◌, inl, inr, zero, suc, Bool, true, false, List, [], ◌∷◌, ◌++◌, map, length, get_or, refl, sym, ap, subst, ◌∙◌, arith}
use Rattle.std.specs.Prelude.{pos, int_lt, nat_lt, All, Contains}
use Rattle.std.specs.List.{IsDistinct, AllByRecursion}
use Rattle.std.specs.List.Sorted.{IsPermutation, IsSortedBy}
use Rattle.std.specs.Cmp.{IsStrictWeakOrder}
use Rattle.std.specs.Ordering.{is_lt}
use Rattle.std.proofs.lemmas.Bool.{and_parts, and_left, and_right, or_from, both_ways, cases_Bool, cases_lt, eqb-true, eq-eqb, ne_eqb, false_from_ne_true, false≢true}
use Rattle.std.proofs.lemmas.Int.{ints}
use Rattle.std.proofs.lemmas.List.{length-map, get_or-map, get_or_default}
use Rattle.std.proofs.lemmas.List.Elements.{All-get_or, All-from_get_or}
use Rattle.std.proofs.lemmas.List.Sorted.{All-permutation, Contains-permutation, IsPermutation-map, sorted_far}
use Rattle.std.proofs.lemmas.Map.Keys.{IsDistinct-IsPermutation, IsDistinct-cons, IsDistinct-head, IsDistinct-tail, apart_from_distinct}
use Rattle.std.proofs.lemmas.Simd.{map-map}
use Rattle.overlay_geometry.specs.Points.{Point, point_eq, point_lt, is_ordered}
use Rattle.overlay_geometry.proofs.laws.geometry.Points.{Before, from_before, from_not_same, point_eq_same, Before-irreflexive}
use Rattle.overlay_geometry.proofs.laws.integers.Tests.{eqb-turned, nat_lt-test_false}
use Rattle.overlay_geometry.proofs.laws.lists.Lists.{list_any-from_Has, none_from_list_any, AllByRecursion-from_Has, AllByRecursion-append, AllByRecursion-weaker}
use Rattle.overlay_sweep.proofs.laws.columns.ColumnLines.{point_lt-cases}
use Rattle.overlay_sweep.proofs.laws.columns.Members.{IsArranged}
use Rattle.overlay_sweep.proofs.laws.live.Supports.{is_lt-angle_cmp, angle_asymmetric, angle-chain}
use Rattle.overlay_build.specs.DirectedWalks.{in_direction, no_link}
use Rattle.overlay_build.specs.Graph.{Link, indexes_where}
use Rattle.overlay_build.proofs.laws.graphs.Indexes.{has_number, RisesFrom, indexes_from, indexes_where-exactly}
use Rattle.overlay_shapes.specs.Sectors.{lies_in_sector, leads_into_sector}
use Rattle.overlay_shapes.specs.steps.Rays.{WholeRay, no_ray, ray_at, center, tip, around_cmp, one_before, ray_before, AreAround}
use Rattle.overlay_shapes.proofs.laws.Rays.{comes_before, cyclic, in_sector_is, before_one_way}
use Rattle.overlay_shapes.proofs.laws.Sectors.{other_end, slope_of_starts, slope_of_ends}
use Rattle.overlay_shapes.proofs.laws.Turns.{Has_at, runs, link, Meets, apart_at, away_at, ordered_at}

pub nat_lt-tested : (m n : ℕ) → nat_lt m n ≡ true → m < n
nat_lt-tested m n e = elim (cases_lt m n) [ inl h ↦ h | inr h ↦ absurd (both_ways _ (nat_lt-test_false m n h) e) ]

-- ---- the indexes at a point differ

rises_less : (m n : ℕ) (ks : List ℕ) → m ≤ n → RisesFrom n ks → RisesFrom m ks
rises_less m n [] h r = tt
rises_less m n (k ∷ ks) h r = (omega (arith, h, r.0), r.1)

indexes_rise : {X : Type 0} (test : X → Bool) (n : ℕ) (xs : List X) → RisesFrom n (indexes_from n test xs)
indexes_rise test n [] = tt
indexes_rise test n (x ∷ xs) = by (test x) refl (indexes_rise test (n + 1) xs)
  where
    by : (b : Bool) → test x ≡ b → RisesFrom (n + 1) (indexes_from (n + 1) test xs) → RisesFrom n (indexes_from n test (x ∷ xs))
    by true e ih = rw e (omega arith, ih)
    by false e ih = rw e (rises_less n (n + 1) (indexes_from (n + 1) test xs) (omega arith) ih)

differ_above : (k n : ℕ) (ks : List ℕ) → k < n → RisesFrom n ks → AllByRecursion (λ y. (k == y) ≡ false) ks
differ_above k n [] h r = tt
differ_above k n (y ∷ ks) h r = (ne_eqb k y (λ e. omega (arith, h, r.0, e)), differ_above k (y + 1) ks (omega (arith, h, r.0)) r.1)

rising_differ : (n : ℕ) (ks : List ℕ) → RisesFrom n ks → IsDistinct eqb ks
unfolding IsDistinct
rising_differ n [] r = tt
rising_differ n (k ∷ ks) r = (differ_above k (k + 1) ks (omega arith) r.1, rising_differ (k + 1) ks r.1)

both_differ : (xs ys : List ℕ) → IsDistinct eqb xs → IsDistinct eqb ys → AllByRecursion (λ x. has_number x ys ≡ false) xs → IsDistinct eqb (xs ++ ys)
both_differ [] ys dx dy none = dy
both_differ (x ∷ xs) ys dx dy none =
    let ahead = AllByRecursion-weaker (λ y. (y == x) ≡ false) (λ y. (x == y) ≡ false) (λ y e. eqb-turned x y ∙ e) ys (none_from_list_any (λ k. k == x) ys none.0) in
    IsDistinct-cons eqb x (xs ++ ys) (AllByRecursion-append (λ y. (x == y) ≡ false) xs ys (IsDistinct-head eqb x xs dx) ahead) (both_differ xs ys (IsDistinct-tail eqb x xs dx) dy none.1)

pub indexes_differ : {X : Type 0} (first second : X → Bool) (xs : List X) (d : X) → ((i : ℕ) → i < length xs → first (get_or xs i d) ≡ true → second (get_or xs i d) ≡ false) → IsDistinct eqb (indexes_where first xs ++ indexes_where second xs)
unfolding indexes_where
indexes_differ first second xs d apart =
    both_differ (indexes_where first xs) (indexes_where second xs) (rising_differ 0 _ (indexes_rise first 0 xs)) (rising_differ 0 _ (indexes_rise second 0 xs))
    (AllByRecursion-from_Has (λ x. has_number x (indexes_where second xs) ≡ false) (indexes_where first xs) (λ i m.
    let found = and_parts (nat_lt i (length xs)) (first (get_or xs i d)) (sym (indexes_where-exactly first i d xs) ∙ list_any-from_Has (λ k. k == i) (indexes_where first xs) i m (eq-eqb i i refl)) in
    indexes_where-exactly second i d xs ∙ and_right _ _ (apart i (nat_lt-tested i (length xs) found.0) found.1)))

-- ---- the rays from a node

module _ (rule : Bool → Bool → Bool) (ls : List Link) (arranged : IsArranged (runs rule ls)) (u : ℕ) (p : Point)
    (a_at : (i : ℕ) → i < length ls → ((get_or ls i no_link).a_node ≡ u → (get_or ls i no_link).pair.a ≡ p) × ((get_or ls i no_link).pair.a ≡ p → (get_or ls i no_link).a_node ≡ u))
    (b_at : (i : ℕ) → i < length ls → ((get_or ls i no_link).b_node ≡ u → (get_or ls i no_link).pair.b ≡ p) × ((get_or ls i no_link).pair.b ≡ p → (get_or ls i no_link).b_node ≡ u)) where
  abbrev lk : ℕ → Link
  lk i = get_or ls i no_link

  abbrev pub HasNode : ℕ → Type 0
  HasNode i = ((lk i).a_node ≡ u) ⊎ ((lk i).b_node ≡ u)

  before_at : (i : ℕ) → i < length ls → Before (lk i).pair.a (lk i).pair.b
  before_at i h = point_lt-cases (lk i).pair.a (lk i).pair.b (ordered_at rule ls arranged i h)

  pub record IsRay (i : ℕ) (r : WholeRay) : Type 0 where
    pub inside : i < length ls
    pub link_is : r.link ≡ i
    pub comes_is : r.comes_in ≡ ((in_direction rule (lk i)).b_node == u)
    pub meets : Meets rule ls (lk i) p (tip r)
    pub center_is : center r ≡ p
    pub ahead : point_lt p (tip r) ≡ r.leads_on
    pub starts : r.leads_on ≡ true → r.pair.a ≡ p
    pub ends : r.leads_on ≡ false → r.pair.b ≡ p

  pub ray_is : (i : ℕ) → i < length ls → HasNode i → IsRay i (ray_at rule ls u i)
  ray_is i h at = elim (cases_Bool ((lk i).a_node == u)) [
    | inl e ↦
        (let here = (a_at i h).0 (eqb-true (lk i).a_node u e) in
        let later : Before p (lk i).pair.b = subst (λ (z : Point). Before z (lk i).pair.b) here (before_at i h) in
        record {
          inside = h;
          link_is = refl;
          comes_is = refl;
          meets = record { at = inl here; far_is = rw e (rw (start_test i here) refl) };
          center_is = rw e here;
          ahead = rw e (from_before p (lk i).pair.b later);
          starts = λ k. here;
          ends = λ k. absurd (both_ways _ k e);
        })
    | inr e ↦
        (let there = (b_at i h).0 (elim at [ inl k ↦ absurd (both_ways _ e (eq-eqb (lk i).a_node u k)) | inr k ↦ k ]) in
        let other : (lk i).pair.a ≡ p → ⊥ = λ k. both_ways _ e (eq-eqb (lk i).a_node u ((a_at i h).1 k)) in
        let earlier : Before (lk i).pair.a p = subst (λ (z : Point). Before (lk i).pair.a z) there (before_at i h) in
        record {
          inside = h;
          link_is = refl;
          comes_is = refl;
          meets = record { at = inr there; far_is = rw e (rw (from_not_same (lk i).pair.a p other) refl) };
          center_is = rw e there;
          ahead = rw e (false_from_ne_true (point_lt p (lk i).pair.a) (λ k. no_circle p (lk i).pair.a (point_lt-cases p (lk i).pair.a k) earlier));
          starts = λ k. absurd (both_ways _ e k);
          ends = λ k. there;
        })
  ]
    where
      start_test : (i : ℕ) → (lk i).pair.a ≡ p → point_eq (lk i).pair.a p ≡ true
      start_test i e = ap (λ (z : Point). point_eq z p) e ∙ point_eq_same p

      no_circle : (q r : Point) → Before q r → Before r q → ⊥
      no_circle q r h k = grind (arith, ints)

  -- ---- their order

  order_by : (i j : ℕ) (r s : WholeRay) → IsRay i r → IsRay j s → (b c : Bool) → r.leads_on ≡ b → s.leads_on ≡ c → is_lt (around_cmp r s) ≡ comes_before p (tip r) (tip s)
  order_by i j r s ri sj true true eb ec = rw (ri.ahead, sj.ahead, eb, ec) (is_lt-angle_cmp r.pair s.pair ∙ ap (int_lt (pos 0)) (slope_of_starts (runs rule ls) arranged p r.pair s.pair (ri.starts eb) (sj.starts ec)))
  order_by i j r s ri sj true false eb ec = rw (ri.ahead, sj.ahead, eb, ec) refl
  order_by i j r s ri sj false true eb ec = rw (ri.ahead, sj.ahead, eb, ec) refl
  order_by i j r s ri sj false false eb ec = rw (ri.ahead, sj.ahead, eb, ec) (is_lt-angle_cmp r.pair s.pair ∙ ap (int_lt (pos 0)) (slope_of_ends (runs rule ls) arranged p r.pair s.pair (ri.ends eb) (sj.ends ec)))

  order_is : (i j : ℕ) (r s : WholeRay) → IsRay i r → IsRay j s → is_lt (around_cmp r s) ≡ comes_before p (tip r) (tip s)
  order_is i j r s ri sj = order_by i j r s ri sj r.leads_on s.leads_on refl refl

  -- ---- sectors between neighbors

  not_itself : (q : Point) → comes_before p q q ≡ false
  not_itself q = false_from_ne_true _ (λ e. both_ways _ (before_one_way p q q e) e)

  leads_no : (q s far : Point) (i : ℕ) → i < length ls → Meets rule ls (lk i) p far → lies_in_sector p q s far ≡ false → leads_into_sector p q s (lk i).pair ≡ false
  leads_no q s far i h m none = by m.at (ap (lies_in_sector p q s) m.far_is ∙ none)
    where
      by : ((lk i).pair.a ≡ p) ⊎ ((lk i).pair.b ≡ p) → lies_in_sector p q s (other_end (lk i).pair p) ≡ false → leads_into_sector p q s (lk i).pair ≡ false
      by (inl e) k =
          let here : point_eq (lk i).pair.a p ≡ true = ap (λ (z : Point). point_eq z p) e ∙ point_eq_same p in
          let away : point_eq (lk i).pair.b p ≡ false = from_not_same (lk i).pair.b p (λ f. Before-irreflexive p (subst (λ (z : Point). Before p z) f (subst (λ (z : Point). Before z (lk i).pair.b) e (before_at i h)))) in
          or_from _ _ (and_right _ _ (rw here at k)) (and_left _ _ away)
      by (inr e) k =
          let away : point_eq (lk i).pair.a p ≡ false = from_not_same (lk i).pair.a p (λ f. Before-irreflexive p (subst (λ (z : Point). Before p z) e (subst (λ (z : Point). Before z (lk i).pair.b) f (before_at i h)))) in
          or_from _ _ (and_left _ _ away) (and_right _ _ (rw away at k))

  leads_nowhere : (q s : Point) (i : ℕ) → i < length ls → (HasNode i → ⊥) → leads_into_sector p q s (lk i).pair ≡ false
  leads_nowhere q s i h none =
      or_from _ _ (and_left _ _ (from_not_same (lk i).pair.a p (λ e. none (inl ((a_at i h).1 e))))) (and_left _ _ (from_not_same (lk i).pair.b p (λ e. none (inr ((b_at i h).1 e)))))

  by_node : {P : Type 0} (i : ℕ) → (HasNode i → P) → ((HasNode i → ⊥) → P) → P
  by_node i f g = elim (cases_Bool ((lk i).a_node == u)) [
    | inl e ↦ f (inl (eqb-true (lk i).a_node u e))
    | inr e ↦ elim (cases_Bool ((lk i).b_node == u)) [
      | inl k ↦ f (inr (eqb-true (lk i).b_node u k))
      | inr k ↦ g (λ m. elim m [ inl x ↦ both_ways _ e (eq-eqb (lk i).a_node u x) | inr x ↦ both_ways _ k (eq-eqb (lk i).b_node u x) ])
    ]
  ]

  -- what is known of a list of rays: each is one, each link at the node has one, no two have one link
  pub record AreRays (rays : List WholeRay) : Type 0 where
    pub each : (k : ℕ) → k < length rays → IsRay (get_or rays k no_ray).link (get_or rays k no_ray)
    pub all : (i : ℕ) → i < length ls → HasNode i → (k : ℕ) × (k < length rays) × (get_or rays k no_ray ≡ ray_at rule ls u i)
    pub once : (j k : ℕ) → j < length rays → k < length rays → (get_or rays j no_ray).link ≡ (get_or rays k no_ray).link → j ≡ k

  before_within : (n k : ℕ) → k < n → one_before n k < n
  before_within n zero h = omega (arith, h)
  before_within n (suc k) h = omega (arith, h)

  module _ (rays : List WholeRay) (are : AreRays rays) where
    abbrev at : ℕ → WholeRay
    at k = get_or rays k no_ray

    abbrev prior : ℕ → ℕ
    prior k = one_before (length rays) k

    abbrev from_prior : ℕ → ℕ → Bool
    from_prior k j = comes_before p (tip (at (prior k))) (tip (at j))

    abbrev to_next : ℕ → ℕ → Bool
    to_next k j = comes_before p (tip (at j)) (tip (at k))

    abbrev goes_around : ℕ → Bool
    goes_around k = comes_before p (tip (at k)) (tip (at (prior k)))

    abbrev NoneBetween : ℕ → Type 0
    NoneBetween k = (j : ℕ) → j < length rays → cyclic (from_prior k j) (to_next k j) (goes_around k) ≡ false

    abbrev OutOfSector : ℕ → Link → Type 0
    OutOfSector k l = leads_into_sector (center (at k)) (tip (at (prior k))) (tip (at k)) l.pair ≡ false

    sector_free : (k : ℕ) → k < length rays → (at (prior k)).link ≢ (at k).link → NoneBetween k → All (OutOfSector k) ls
    sector_free k h other none =
        let e = are.each k h in
        let f = are.each (prior k) (before_within (length rays) k h) in
        let apart = apart_at rule ls arranged (at (prior k)).link (at k).link f.inside e.inside other p (tip (at (prior k))) (tip (at k)) f.meets e.meets in
        All-from_get_or (OutOfSector k) ls no_link (λ i m.
        ap (λ (z : Point). leads_into_sector z (tip (at (prior k))) (tip (at k)) (lk i).pair) e.center_is
        ∙ by_node i
        (λ node.
        let found = are.all i m node in
        let g : IsRay i (at found.0) = subst (λ (r : WholeRay). IsRay i r) (sym found.2) (ray_is i m node) in
        leads_no (tip (at (prior k))) (tip (at k)) (tip (at found.0)) i m g.meets
        (in_sector_is p (tip (at (prior k))) (tip (at k)) (tip (at found.0)) (away_at rule ls arranged _ f.inside p _ f.meets) (away_at rule ls arranged _ e.inside p _ e.meets) (away_at rule ls arranged _ m p _ g.meets) apart ∙ none found.0 found.1))
        (λ away. leads_nowhere (tip (at (prior k))) (tip (at k)) i m away))

    neither_side : (a b c : Bool) → a ≡ false → b ≡ false → cyclic a b c ≡ false
    neither_side a b c e f = rw (e, f) (and_right c false refl)

    not_up_to : (a b c : Bool) → b ≡ false → c ≡ false → cyclic a b c ≡ false
    not_up_to true b c e f = rw (e, f) refl
    not_up_to false b c e f = rw (e, f) refl

    not_from : (a b c : Bool) → a ≡ false → c ≡ false → cyclic a b c ≡ false
    not_from a true c e f = rw (e, f) refl
    not_from a false c e f = rw (e, f) refl

    at_next : (a b c : Bool) → b ≡ false → (c ≡ true → a ≡ false) → cyclic a b c ≡ false
    at_next a b true e f = rw (e, f refl) refl
    at_next true b false e f = rw e refl
    at_next false b false e f = rw e refl

    at_prior : (a b c : Bool) → a ≡ false → (c ≡ true → b ≡ false) → cyclic a b c ≡ false
    at_prior a b true e f = rw (e, f refl) refl
    at_prior a true false e f = rw e refl
    at_prior a false false e f = rw e refl

    by_two : (n k j : ℕ) → n ≤ 2 → k < n → j < n → (j ≡ k) ⊎ (j ≡ one_before n k)
    by_two n zero zero few h l = inl refl
    by_two n zero (suc j) few h l = inr (omega (arith, few, h, l))
    by_two n (suc k) zero few h l = inr (omega (arith, few, h, l))
    by_two n (suc k) (suc j) few h l = inl (omega (arith, few, h, l))

    -- at most two have no other between
    two_between : length rays ≤ 2 → (k : ℕ) → k < length rays → NoneBetween k
    two_between few k h j l = elim (by_two (length rays) k j few h l) [
      | inl e ↦
          subst (λ (n : ℕ). cyclic (from_prior k n) (to_next k n) (goes_around k) ≡ false) (sym e)
          (at_next (from_prior k k) (to_next k k) (goes_around k) (not_itself (tip (at k))) (λ c. before_one_way p (tip (at k)) (tip (at (prior k))) c))
      | inr e ↦
          subst (λ (n : ℕ). cyclic (from_prior k n) (to_next k n) (goes_around k) ≡ false) (sym e)
          (at_prior (from_prior k (prior k)) (to_next k (prior k)) (goes_around k) (not_itself (tip (at (prior k)))) (λ c. before_one_way p (tip (at k)) (tip (at (prior k))) c))
    ]

    -- nor have neighbors in order
    module _ (sorted : (i j : ℕ) → i ≤ j → j < length rays → comes_before p (tip (at j)) (tip (at i)) ≡ false) where
      sorted_between : (k : ℕ) → k < length rays → NoneBetween k
      sorted_between zero h j l = neither_side (from_prior 0 j) (to_next 0 j) (goes_around 0) (sorted j (length rays - 1) (omega (arith, l)) (omega (arith, h))) (sorted 0 j (omega arith) l)
      sorted_between (suc k) h j l =
          let back = sorted k (suc k) (omega arith) h in
          elim (cases_lt k j) [
            | inl above ↦ not_up_to (from_prior (suc k) j) (to_next (suc k) j) (goes_around (suc k)) (sorted (suc k) j (omega (arith, above)) l) back
            | inr below ↦ not_from (from_prior (suc k) j) (to_next (suc k) j) (goes_around (suc k)) (sorted j k below (omega (arith, h))) back
          ]

    pub few_free : length rays ≤ 2 → (k : ℕ) → k < length rays → (ray_before rays k).link ≢ (at k).link → All (OutOfSector k) ls
    few_free few k h other = sector_free k h other (two_between few k h)

    pub sorted_free : ((i j : ℕ) → i ≤ j → j < length rays → is_lt (around_cmp (at j) (at i)) ≡ false) → (k : ℕ) → k < length rays → (ray_before rays k).link ≢ (at k).link → All (OutOfSector k) ls
    sorted_free up k h other = sector_free k h other (sorted_between (λ i j low l. sym (order_is _ _ (at j) (at i) (are.each j l) (are.each i (omega (arith, low, l)))) ∙ up i j low l) k h)

  -- ---- from the indexes at the node

  module _ (indexes : List ℕ) (listed : (i : ℕ) → has_number i indexes ≡ true → (i < length ls) × HasNode i) (found : (i : ℕ) → i < length ls → HasNode i → Contains indexes i) (distinct : IsDistinct eqb indexes) where
    abbrev first_rays : List WholeRay
    first_rays = map (ray_at rule ls u) indexes

    IsSome : WholeRay → Type 0
    IsSome r = IsRay r.link r

    pub are_rays : (rays : List WholeRay) → IsPermutation first_rays rays → AreRays rays
    unfolding IsSome
    are_rays rays moved = record {
      each = λ k h. All-get_or IsSome rays k no_ray h (All-permutation IsSome first_rays rays moved (All-from_get_or IsSome first_rays no_ray (λ k h.
          let low : k < length indexes = subst (λ (n : ℕ). k < n) (length-map indexes (ray_at rule ls u)) h in
          let i : ℕ = get_or indexes k 0 in
          let is = listed i (list_any-from_Has (λ m. m == i) indexes i (Has_at indexes k 0 low) (eq-eqb i i refl)) in
          subst (λ (r : WholeRay). IsRay r.link r) (sym (get_or-map (ray_at rule ls u) indexes k 0 no_ray low)) (ray_is i is.0 is.1))));
      all = λ i h node.
          let there : Contains first_rays (ray_at rule ls u i) = Contains-map (ray_at rule ls u) indexes i (found i h node) in
          let now = Contains-permutation first_rays rays (ray_at rule ls u i) moved there in
          (now.0, now.1, get_or_default rays now.0 no_ray (ray_at rule ls u i) now.1 ∙ now.2);
      once = λ j k h l e.
          let same : map (λ (r : WholeRay). r.link) first_rays ≡ indexes = map-map (λ (r : WholeRay). r.link) (ray_at rule ls u) indexes ∙ map_itself indexes in
          let apart : IsDistinct eqb (map (λ (r : WholeRay). r.link) rays) =
          IsDistinct-IsPermutation eqb eqb-turned (map (λ (r : WholeRay). r.link) first_rays) (map (λ (r : WholeRay). r.link) rays) (IsPermutation-map (λ (r : WholeRay). r.link) first_rays rays moved) (subst (IsDistinct eqb) (sym same) distinct) in
          by_places j k (λ low. differ j k apart h l low e) (λ low. differ k j apart l h low (sym e));
    }
      where
        map_itself : (ks : List ℕ) → map (λ (k : ℕ). k) ks ≡ ks
        map_itself [] = refl
        map_itself (k ∷ ks) = ap (λ (z : List ℕ). k ∷ z) (map_itself ks)

        Contains-map : {X Y : Type 0} (f : X → Y) (xs : List X) (x : X) → Contains xs x → Contains (map f xs) (f x)
        Contains-map f xs x h = (h.0, subst (λ (n : ℕ). h.0 < n) (sym (length-map xs f)) h.1, get_or-map f xs h.0 x (f x) h.1 ∙ ap f h.2)

        by_places : (j k : ℕ) → (j < k → ⊥) → (k < j → ⊥) → j ≡ k
        by_places j k f g = elim (cases_lt j k) [ inl h ↦ absurd (f h) | inr h ↦ elim (cases_lt k j) [ inl l ↦ absurd (g l) | inr l ↦ omega (arith, h, l) ] ]

        differ : (j k : ℕ) → IsDistinct eqb (map (λ (r : WholeRay). r.link) rays) → j < length rays → k < length rays → j < k → (get_or rays j no_ray).link ≡ (get_or rays k no_ray).link → ⊥
        differ j k apart h l low e =
            let many = length-map rays (λ (r : WholeRay). r.link) in
            both_ways _ (apart_from_distinct eqb (map (λ (r : WholeRay). r.link) rays) j k 0 apart low (subst (λ (n : ℕ). k < n) (sym many) l))
            (eq-eqb _ _ (get_or-map (λ (r : WholeRay). r.link) rays j no_ray 0 h ∙ e ∙ sym (get_or-map (λ (r : WholeRay). r.link) rays k no_ray 0 l)))

    pub few_around : (rays : List WholeRay) → IsPermutation first_rays rays → length rays ≤ 2 → AreAround rule ls u indexes rays
    few_around rays moved few = record { same = moved; none_between = few_free rays (are_rays rays moved) few }

    pub sorted_around : (rays : List WholeRay) → IsPermutation first_rays rays → ((i j : ℕ) → i ≤ j → j < length rays → is_lt (around_cmp (get_or rays j no_ray) (get_or rays i no_ray)) ≡ false) → AreAround rule ls u indexes rays
    sorted_around rays moved up = record { same = moved; none_between = sorted_free rays (are_rays rays moved) up }

-- ---- the order of code's rays

around_one_way : (r s : WholeRay) (b c : Bool) → r.leads_on ≡ b → s.leads_on ≡ c → is_lt (around_cmp r s) ≡ true → is_lt (around_cmp s r) ≡ false
around_one_way r s true true eb ec h = rw (eb, ec) (angle_asymmetric r.pair s.pair (rw (eb, ec) at h))
around_one_way r s true false eb ec h = rw (eb, ec) refl
around_one_way r s false true eb ec h = absurd (false≢true (rw (eb, ec) at h))
around_one_way r s false false eb ec h = rw (eb, ec) (angle_asymmetric r.pair s.pair (rw (eb, ec) at h))

around_chain : (r s t : WholeRay) (b c d : Bool) → r.leads_on ≡ b → s.leads_on ≡ c → t.leads_on ≡ d → is_ordered r.pair ≡ true → is_ordered s.pair ≡ true → is_ordered t.pair ≡ true → is_lt (around_cmp r s) ≡ false → is_lt (around_cmp s t) ≡ false → is_lt (around_cmp r t) ≡ false
around_chain r s t true true true eb ec ed hr hs ht h k = rw (eb, ed) (angle-chain r.pair s.pair t.pair hr hs ht (rw (eb, ec) at h) (rw (ec, ed) at k))
around_chain r s t true true false eb ec ed hr hs ht h k = absurd (false≢true (sym (rw (ec, ed) at k)))
around_chain r s t true false d eb ec ed hr hs ht h k = absurd (false≢true (sym (rw (eb, ec) at h)))
around_chain r s t false c true eb ec ed hr hs ht h k = rw (eb, ed) refl
around_chain r s t false true false eb ec ed hr hs ht h k = absurd (false≢true (sym (rw (ec, ed) at k)))
around_chain r s t false false false eb ec ed hr hs ht h k = rw (eb, ed) (angle-chain r.pair s.pair t.pair hr hs ht (rw (eb, ec) at h) (rw (ec, ed) at k))

pub around_ranks : {X : Type 0} (f : X → WholeRay) → ((x : X) → is_ordered (f x).pair ≡ true) → IsStrictWeakOrder (λ x y. is_lt (around_cmp (f x) (f y)))
around_ranks f ordered = record {
  one_way = λ x y. around_one_way (f x) (f y) (f x).leads_on (f y).leads_on refl refl;
  chain = λ x y z. around_chain (f x) (f y) (f z) (f x).leads_on (f y).leads_on (f z).leads_on refl refl refl (ordered x) (ordered y) (ordered z);
}

pub rays_in_order : {X : Type 0} (f : X → WholeRay) → ((x : X) → is_ordered (f x).pair ≡ true) → (xs : List X) → IsSortedBy (λ x y. is_lt (around_cmp (f x) (f y))) xs → (i j : ℕ) → i ≤ j → j < length (map f xs) → is_lt (around_cmp (get_or (map f xs) j no_ray) (get_or (map f xs) i no_ray)) ≡ false
rays_in_order f ordered [] up i j low h = absurd (omega (arith, h))
rays_in_order f ordered (x ∷ xs) up i j low h =
    let inside : j < length (x ∷ xs) = subst (λ (n : ℕ). j < n) (length-map (x ∷ xs) f) h in
    let a = get_or-map f (x ∷ xs) j x no_ray inside in
    let b = get_or-map f (x ∷ xs) i x no_ray (omega (arith, low, inside)) in
    ap (λ (r : WholeRay). is_lt (around_cmp r (get_or (map f (x ∷ xs)) i no_ray))) a ∙ ap (λ (r : WholeRay). is_lt (around_cmp (f (get_or (x ∷ xs) j x)) r)) b
    ∙ sorted_far (λ x y. is_lt (around_cmp (f x) (f y))) (around_ranks f ordered) (x ∷ xs) up i j x low inside
