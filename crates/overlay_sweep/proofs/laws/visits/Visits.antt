-- The visits of a sweep, block by block: those of the segments that start at one point, in order of angle.
use Rattle.std.proofs.Common.{◌≡◌, ap, refl, sym, subst, ◌∙◌, arith, inl, inr, get_or, zero-add, Ordering, Less, Equal, Greater}
use Rattle.std.specs.Prelude.{ℕ, zero, suc, ◌+◌, ◌-◌, ◌<◌, ℤ, pos, neg_ℤ, ◌-ℤ◌, ◌*ℤ◌, true, false, ◌⊎◌, List, [], ◌∷◌, ◌++◌, map, length, take, drop}
use Rattle.std.specs.List.{AllByRecursion, enumerate_from, take-map, drop-map}
use Rattle.std.specs.Ordering.{is_lt, is_eq, int_cmp, ordering_then, MatchOrdering}
use Rattle.std.proofs.lemmas.Int.{ints}
use Rattle.std.proofs.lemmas.Bool.{cases_Bool, both_ways}
use Rattle.std.proofs.lemmas.List.{take-append-drop}
use Rattle.std.proofs.Common.{append_assoc}
use Rattle.overlay_geometry.specs.Points.{Point, Pair, turn, step, cross_product, point_cmp, point_eq, point_lt, pair_cmp, pair_lt, is_ordered}
use Rattle.overlay_geometry.specs.Sorting.{is_strictly_sorted, stably_sorted}
use Rattle.overlay_base.specs.Segments.{WholeSegment, pairs}
use Rattle.overlay_base.specs.EdgeData.{DataSegment, without_data}
use Rattle.overlay_geometry.specs.Below.{angle_cmp}
use Rattle.overlay_base.specs.declared.overlay_core.fill_rule.FillRule.{FillRule}
use Rattle.overlay_geometry.proofs.laws.lists.Lists.{Pairwise, AllByRecursion-take, AllByRecursion-map, AllByRecursion-map_out, AllByRecursion-from_list_all, AllByRecursion-at, AllByRecursion-from_Has, Has, Has-map, Has-map_out}
use Rattle.overlay_geometry.proofs.laws.geometry.Polynomials.{as_D, diffs, D-eq}
use Rattle.overlay_geometry.proofs.laws.geometry.Points.{Before, before, point_ranked, same_pair, inside_from_order, turn_swaps_last, point_eq_same, point_lt-irreflexive}
use Rattle.overlay_sweep.specs.Sweep.{Visit, whole_of, fill_of, visits}
use Rattle.overlay_sweep.specs.steps.WayOf.{WholeWay, ways_between, by_angle}
use Rattle.overlay_sweep.proofs.laws.columns.ColumnOrder.{IsApart}
use Rattle.overlay_sweep.proofs.laws.columns.Members.{sorted_all, sorted_tail, differ_when_less, IsArranged}
use Rattle.overlay_sweep.proofs.laws.live.PointChains.{AreStartingAt, angle_trans}
use Rattle.overlay_base.proofs.laws.lists.StableSorts.{AllByRecursion-stably_sorted}
use Rattle.overlay_sweep.proofs.laws.visits.BlockSorts.{Has-stably_sorted, stably_sorted-append, stably_sorted-map, rising_sorted}
use Rattle.overlay_sweep.proofs.laws.live.DirectlyBelow.{apart_members}
use Rattle.overlay_sweep.proofs.laws.live.Boundaries.{Has-take, Has-drop, cut_twice, IsBlock, block_complete, early_complete, boundary_next}
use Rattle.overlay_geometry.proofs.laws.integers.Products.{neg_zero}

-- ---- the order of visits

abbrev pub visit_cmp : {D : Type 0} → Visit D → Visit D → Ordering
visit_cmp v w = ordering_then (point_cmp v.segment.pair.a w.segment.pair.a) (angle_cmp v.segment.pair w.segment.pair)

then_equal : (o r : Ordering) → is_eq o ≡ true → ordering_then o r ≡ r
then_equal Less r h = absurd (both_ways false refl h)
then_equal Equal r h = refl
then_equal Greater r h = absurd (both_ways false refl h)

-- at one start the order is that by angle
visit_cmp_same : {D : Type 0} (v w : Visit D) → v.segment.pair.a ≡ w.segment.pair.a → visit_cmp v w ≡ angle_cmp v.segment.pair w.segment.pair
visit_cmp_same v w e = then_equal (point_cmp v.segment.pair.a w.segment.pair.a) _ (subst (λ q. point_eq v.segment.pair.a q ≡ true) e (point_eq_same v.segment.pair.a))

not_both : (p q : Point) → Before p q → Before q p → ⊥
not_both p q f g = grind (arith, ints)

is_not_less : (p q : Point) (r : Ordering) → point_lt p q ≡ true → is_lt (ordering_then (point_cmp q p) r) ≡ false
is_not_less p q r h = by_rank (point_cmp q p) (point_ranked q p (point_cmp q p) refl)
  where
    by_rank : (o : Ordering) → MatchOrdering o (Before q p) (q ≡ p) (Before p q) → is_lt (ordering_then o r) ≡ false
    by_rank Less m = absurd (not_both p q (before p q h) m)
    by_rank Equal m = absurd (both_ways (point_lt q q) (point_lt-irreflexive q) (subst (λ v. point_lt v q ≡ true) (sym m) h))
    by_rank Greater m = refl

-- ---- visits as they are listed

module _ {D : Type 0} (rule : FillRule) (xs : List WholeSegment) where
  abbrev pub visit_to : ℕ × DataSegment D → Visit D
  visit_to e = record { index = e.0; segment = e.1; fill = fill_of rule xs (whole_of e.1) }

  abbrev pub listed_from : ℕ → List (DataSegment D) → List (Visit D)
  listed_from n data_list = map visit_to (enumerate_from n data_list)

  -- a visit of the list: its index, its segment, its fill
  pub record IsListed (list : List (DataSegment D)) (v : Visit D) : Type 0 where
    pub within : v.index < length list
    pub segment : (d : DataSegment D) → get_or list v.index d ≡ v.segment
    pub fill : v.fill ≡ fill_of rule xs (whole_of v.segment)

  listed_at : (n : ℕ) (list : List (DataSegment D)) (v : Visit D) → Has (listed_from n list) v → (k : ℕ) × (v.index ≡ n + k) × (k < length list) × ((d : DataSegment D) → get_or list k d ≡ v.segment) × (v.fill ≡ fill_of rule xs (whole_of v.segment))
  listed_at n [] v m = absurd m
  listed_at n (s ∷ ss) v (inl e) = (0, ap (λ (w : Visit D). w.index) (sym e) ∙ (let same : n ≡ n + 0 = omega arith in same), omega arith, λ d. ap (λ (w : Visit D). w.segment) e, ap (λ (w : Visit D). w.fill) (sym e) ∙ ap (λ (w : Visit D). fill_of rule xs (whole_of w.segment)) e)
  listed_at n (s ∷ ss) v (inr m) =
      let k = listed_at (n + 1) ss v m in
      (suc k.0, k.1 ∙ (let same : (n + 1) + k.0 ≡ n + suc k.0 = omega arith in same), omega (arith, k.2), k.3, k.4)

  pub is_listed : (list : List (DataSegment D)) (v : Visit D) → Has (listed_from 0 list) v → IsListed list v
  is_listed list v m =
      let k = listed_at 0 list v m in
      let same : k.0 ≡ v.index = sym (k.1 ∙ zero-add k.0) in
      record { within = subst (λ j. j < length list) same k.2; segment = λ d. subst (λ j. get_or list j d ≡ v.segment) same (k.3 d); fill = k.4 }

abbrev pub wholes : {D : Type 0} → List (Visit D) → List WholeSegment
wholes vs = map (λ v. whole_of v.segment) vs

pub wholes-listed : {D : Type 0} (rule : FillRule) (xs : List WholeSegment) (n : ℕ) (list : List (DataSegment D)) → wholes (listed_from rule xs n list) ≡ without_data list
wholes-listed rule xs n [] = refl
wholes-listed rule xs n (s ∷ ss) = ap (λ l. whole_of s ∷ l) (wholes-listed rule xs (n + 1) ss)

-- the way of a visit's segment
abbrev pub visit_way : {D : Type 0} → Visit D → WholeWay
visit_way v = record { index = v.index; pair = v.segment.pair }

ways-listed : {D : Type 0} (rule : FillRule) (xs : List WholeSegment) (n : ℕ) (list : List (DataSegment D)) → map visit_way (listed_from rule xs n list) ≡ map (λ (e : ℕ × WholeSegment). record { index = e.0; pair = e.1.pair }) (enumerate_from n (without_data list))
ways-listed rule xs n [] = refl
ways-listed rule xs n (s ∷ ss) = ap (λ l. visit_way (visit_to rule xs (n, s)) ∷ l) (ways-listed rule xs (n + 1) ss)

pub ways_of_block : {D : Type 0} (rule : FillRule) (xs : List WholeSegment) (list : List (DataSegment D)) (i next : ℕ) → ways_between (without_data list) i next ≡ map visit_way (take (next - i) (drop i (listed_from rule xs 0 list)))
ways_of_block rule xs list i next =
    ap (λ l. take (next - i) (drop i l)) (sym (ways-listed rule xs 0 list))
    ∙ ap (take (next - i)) (drop-map visit_way i (listed_from rule xs 0 list)) ∙ take-map visit_way (next - i) (drop i (listed_from rule xs 0 list))

pub wholes_of_block : {D : Type 0} (rule : FillRule) (xs : List WholeSegment) (list : List (DataSegment D)) (i next : ℕ) → wholes (take (next - i) (drop i (listed_from rule xs 0 list))) ≡ take (next - i) (drop i (without_data list))
wholes_of_block rule xs list i next =
    sym (take-map (λ v. whole_of v.segment) (next - i) (drop i (listed_from rule xs 0 list)))
    ∙ ap (take (next - i)) (sym (drop-map (λ v. whole_of v.segment) i (listed_from rule xs 0 list)) ∙ ap (drop i) (wholes-listed rule xs 0 list))

pub wholes_before : {D : Type 0} (rule : FillRule) (xs : List WholeSegment) (list : List (DataSegment D)) (i : ℕ) → wholes (take i (listed_from rule xs 0 list)) ≡ take i (without_data list)
wholes_before rule xs list i = sym (take-map (λ v. whole_of v.segment) i (listed_from rule xs 0 list)) ∙ ap (take i) (wholes-listed rule xs 0 list)

pub wholes_after : {D : Type 0} (rule : FillRule) (xs : List WholeSegment) (list : List (DataSegment D)) (i : ℕ) → wholes (drop i (listed_from rule xs 0 list)) ≡ drop i (without_data list)
wholes_after rule xs list i = sym (drop-map (λ v. whole_of v.segment) i (listed_from rule xs 0 list)) ∙ ap (drop i) (wholes-listed rule xs 0 list)

-- ---- two segments with one start differ in angle

opposite_products : (a b c d : ℤ) → c *ℤ b -ℤ d *ℤ a ≡ neg_ℤ (a *ℤ d -ℤ b *ℤ c)
opposite_products a b c d = rw (as_D a, as_D b, as_D c, as_D d) (simp diffs (D-eq _ _ _ _ (omega arith)))

zero_between : (m n : ℤ) → n ≡ neg_ℤ m → is_lt (int_cmp (pos 0) m) ≡ false → is_lt (int_cmp (pos 0) n) ≡ false → m ≡ pos 0
zero_between m n e h k = grind (arith, ints)

cross_zero : (s t : Pair) → is_lt (angle_cmp s t) ≡ false → is_lt (angle_cmp t s) ≡ false → cross_product (step s.a s.b) (step t.a t.b) ≡ pos 0
unfolding angle_cmp
cross_zero s t h k = zero_between (cross_product (step s.a s.b) (step t.a t.b)) (cross_product (step t.a t.b) (step s.a s.b)) (opposite_products (s.b.x -ℤ s.a.x) (s.b.y -ℤ s.a.y) (t.b.x -ℤ t.a.x) (t.b.y -ℤ t.a.y)) h k

turn_is_cross : (s t : Pair) → t.a ≡ s.a → cross_product (step s.a s.b) (step t.a t.b) ≡ pos 0 → turn s.a s.b t.b ≡ pos 0
unfolding turn
turn_is_cross s t e h = subst (λ q. cross_product (step s.a s.b) (step q t.b) ≡ pos 0) e h

same_from_turn : (s t : Pair) → is_ordered s ≡ true → is_ordered t ≡ true → t.a ≡ s.a → IsApart s t → turn s.a s.b t.b ≡ pos 0 → s ≡ t
same_from_turn s t os ot e apart flat = by_rank (point_cmp s.b t.b) (point_ranked s.b t.b (point_cmp s.b t.b) refl)
  where
    by_rank : (o : Ordering) → MatchOrdering o (Before s.b t.b) (s.b ≡ t.b) (Before t.b s.b) → s ≡ t
    by_rank Less m = absurd (apart.b_around (inside_from_order t s.b (before t.a t.b ot)
        (subst (λ q. turn q t.b s.b ≡ pos 0) (sym e) (neg_zero (turn s.a t.b s.b) (turn s.a s.b t.b) (turn_swaps_last s.a t.b s.b) flat))
        (subst (λ q. Before q s.b) (sym e) (before s.a s.b os)) m))
    by_rank Equal m = same_pair s t (sym e) m
    by_rank Greater m = absurd (apart.b_inside (inside_from_order s t.b (before s.a s.b os) flat (subst (λ q. Before q t.b) e (before t.a t.b ot)) m))

angles_differ : (s t : Pair) → is_ordered s ≡ true → is_ordered t ≡ true → t.a ≡ s.a → IsApart s t → (s ≡ t → ⊥) → (is_lt (angle_cmp s t) ≡ true) ⊎ (is_lt (angle_cmp t s) ≡ true)
angles_differ s t os ot e apart other = elim (cases_Bool (is_lt (angle_cmp s t))) [
  | inl less ↦ inl less
  | inr h ↦ elim (cases_Bool (is_lt (angle_cmp t s))) [
    | inl more ↦ inr more
    | inr k ↦ absurd (other (same_from_turn s t os ot e apart (turn_is_cross s t e (cross_zero s t h k))))
  ]
]

-- ---- each two of a sorted list

pub pairwise_sorted : (ss : List WholeSegment) → is_strictly_sorted pair_cmp (pairs ss) ≡ true → Pairwise (λ s t. pair_lt s.pair t.pair ≡ true) ss
pairwise_sorted [] o = tt
pairwise_sorted (s ∷ ss) o = (AllByRecursion-from_list_all (λ t. pair_lt s.pair t.pair) ss (sorted_all s ss o), pairwise_sorted ss (sorted_tail s ss o))

Pairwise-take : {X : Type 0} (R : X → X → Type 0) (n : ℕ) (ks : List X) → Pairwise R ks → Pairwise R (take n ks)
Pairwise-take R zero ks h = tt
Pairwise-take R (suc n) [] h = tt
Pairwise-take R (suc n) (x ∷ ks) h = (AllByRecursion-take (R x) n ks h.0, Pairwise-take R n ks h.1)

Pairwise-drop : {X : Type 0} (R : X → X → Type 0) (n : ℕ) (ks : List X) → Pairwise R ks → Pairwise R (drop n ks)
Pairwise-drop R zero ks h = h
Pairwise-drop R (suc n) [] h = tt
Pairwise-drop R (suc n) (x ∷ ks) h = Pairwise-drop R n ks h.1

Pairwise-map : {X Y : Type 0} (R : Y → Y → Type 0) (f : X → Y) (ks : List X) → Pairwise (λ x y. R (f x) (f y)) ks → Pairwise R (map f ks)
Pairwise-map R f [] h = tt
Pairwise-map R f (x ∷ ks) h = (AllByRecursion-map (R (f x)) f ks h.0, Pairwise-map R f ks h.1)

Pairwise-map_out : {X Y : Type 0} (R : Y → Y → Type 0) (f : X → Y) (ks : List X) → Pairwise R (map f ks) → Pairwise (λ x y. R (f x) (f y)) ks
Pairwise-map_out R f [] h = tt
Pairwise-map_out R f (x ∷ ks) h = (AllByRecursion-map_out (R (f x)) f ks h.0, Pairwise-map_out R f ks h.1)

AllByRecursion-under : {X : Type 0} (M R S : X → Type 0) → ((x : X) → M x → R x → S x) → (ks : List X) → AllByRecursion M ks → AllByRecursion R ks → AllByRecursion S ks
AllByRecursion-under M R S f [] m h = tt
AllByRecursion-under M R S f (x ∷ ks) m h = (f x m.0 h.0, AllByRecursion-under M R S f ks m.1 h.1)

Pairwise-under : {X : Type 0} (M : X → Type 0) (R S : X → X → Type 0) → ((x y : X) → M x → M y → R x y → S x y) → (ks : List X) → AllByRecursion M ks → Pairwise R ks → Pairwise S ks
Pairwise-under M R S f [] m h = tt
Pairwise-under M R S f (x ∷ ks) m h = (AllByRecursion-under M (R x) (S x) (λ y n r. f x y m.0 n r) ks m.1 h.0, Pairwise-under M R S f ks m.1 h.1)

-- ---- a block of a sweep

visits_cross : {D : Type 0} (vs ws : List (Visit D)) → ((v w : Visit D) → Has vs v → Has ws w → point_lt v.segment.pair.a w.segment.pair.a ≡ true) → AllByRecursion (λ x. AllByRecursion (λ y. is_lt (visit_cmp y x) ≡ false) ws) vs
visits_cross vs ws h = AllByRecursion-from_Has (λ x. AllByRecursion (λ y. is_lt (visit_cmp y x) ≡ false) ws) vs (λ v m. AllByRecursion-from_Has (λ y. is_lt (visit_cmp y v) ≡ false) ws (λ w n. is_not_less v.segment.pair.a w.segment.pair.a _ (h v w m n)))

module _ {D : Type 0} (rule : FillRule) (list : List (DataSegment D)) (arranged : IsArranged (without_data list)) where
  abbrev pub listed : List (Visit D)
  listed = listed_from rule (without_data list) 0 list

  -- the visits before a place, and those of a block
  abbrev pub visits_before : ℕ → List (Visit D)
  visits_before i = stably_sorted visit_cmp (take i listed)

  abbrev pub visits_of_block : ℕ → ℕ → List (Visit D)
  visits_of_block i next = stably_sorted visit_cmp (take (next - i) (drop i listed))

  abbrev pub visits_after : ℕ → List (Visit D)
  visits_after next = stably_sorted visit_cmp (drop next listed)

  Has-wholes : (vs : List (Visit D)) (ss : List WholeSegment) → wholes vs ≡ ss → (v : Visit D) → Has vs v → Has ss (whole_of v.segment)
  Has-wholes vs ss e v m = subst (λ l. Has l (whole_of v.segment)) e (Has-map (λ v. whole_of v.segment) vs v m)

  all_before : (P : WholeSegment → Type 0) (i : ℕ) → AllByRecursion P (take i (without_data list)) → (v : Visit D) → Has (take i listed) v → P (whole_of v.segment)
  all_before P i a v m = AllByRecursion-at P (take i (without_data list)) (whole_of v.segment) a (Has-wholes (take i listed) _ (wholes_before rule (without_data list) list i) v m)

  all_of_block : (P : WholeSegment → Type 0) (i next : ℕ) → AllByRecursion P (take (next - i) (drop i (without_data list))) → (v : Visit D) → Has (take (next - i) (drop i listed)) v → P (whole_of v.segment)
  all_of_block P i next a v m = AllByRecursion-at P (take (next - i) (drop i (without_data list))) (whole_of v.segment) a (Has-wholes (take (next - i) (drop i listed)) _ (wholes_of_block rule (without_data list) list i next) v m)

  module _ (i next : ℕ) (p : Point) (order : i < next) (block : IsBlock (without_data list) i next p) where
    pub before_next : visits_before next ≡ visits_before i ++ visits_of_block i next
    before_next =
        ap (stably_sorted visit_cmp) (cut_twice i next listed (omega (arith, order)))
        ∙ stably_sorted-append visit_cmp (take i listed) (take (next - i) (drop i listed)) (visits_cross _ _ (λ v w m n.
        subst (λ q. point_lt v.segment.pair.a q ≡ true) (sym (all_of_block (λ s. s.pair.a ≡ p) i next block.here w n)) (all_before (λ s. point_lt s.pair.a p ≡ true) i block.early v m)))

    in_block_before : (v : Visit D) → Has (take next listed) v → (w : Visit D) → Has (drop next listed) w → point_lt v.segment.pair.a w.segment.pair.a ≡ true
    in_block_before v m w n =
        AllByRecursion-at (λ t. point_lt v.segment.pair.a t.pair.a ≡ true) (drop next (without_data list)) (whole_of w.segment)
        (all_before (λ s. AllByRecursion (λ t. point_lt s.pair.a t.pair.a ≡ true) (drop next (without_data list))) next (boundary_next (without_data list) arranged i next p order block) v m)
        (Has-wholes (drop next listed) _ (wholes_after rule (without_data list) list next) w n)

    pub visits_cut : visits rule list ≡ visits_before i ++ (visits_of_block i next ++ visits_after next)
    unfolding visits
    visits_cut =
        ap (stably_sorted visit_cmp) (sym (take-append-drop next listed))
        ∙ stably_sorted-append visit_cmp (take next listed) (drop next listed) (visits_cross _ _ (λ v w m n. in_block_before v m w n))
        ∙ ap (λ l. l ++ visits_after next) before_next ∙ append_assoc (visits_before i) (visits_of_block i next) (visits_after next)

    starts_here : AllByRecursion (λ v. Has (without_data list) (whole_of v.segment) × (v.segment.pair.a ≡ p)) (take (next - i) (drop i listed))
    starts_here = AllByRecursion-from_Has (λ v. Has (without_data list) (whole_of v.segment) × (v.segment.pair.a ≡ p)) (take (next - i) (drop i listed)) (λ v m. (
      Has-drop i (without_data list) (whole_of v.segment) (Has-take (next - i) (drop i (without_data list)) (whole_of v.segment) (Has-wholes (take (next - i) (drop i listed)) _ (wholes_of_block rule (without_data list) list i next) v m)),
      all_of_block (λ s. s.pair.a ≡ p) i next block.here v m,
    ))

    differ_in_block : Pairwise (λ v w. (is_lt (visit_cmp v w) ≡ true) ⊎ (is_lt (visit_cmp w v) ≡ true)) (take (next - i) (drop i listed))
    differ_in_block =
        Pairwise-under (λ v. Has (without_data list) (whole_of v.segment) × (v.segment.pair.a ≡ p)) (λ v w. pair_lt v.segment.pair w.segment.pair ≡ true) (λ v w. (is_lt (visit_cmp v w) ≡ true) ⊎ (is_lt (visit_cmp w v) ≡ true))
        (λ v w m n h.
        let same = m.1 ∙ sym n.1 in
        elim (angles_differ v.segment.pair w.segment.pair (arranged.ordered (whole_of v.segment) m.0) (arranged.ordered (whole_of w.segment) n.0) (sym same) (apart_members (without_data list) arranged (whole_of v.segment) (whole_of w.segment) m.0 n.0) (differ_when_less v.segment.pair w.segment.pair h)) [
          | inl less ↦ inl (ap is_lt (visit_cmp_same v w same) ∙ less)
          | inr more ↦ inr (ap is_lt (visit_cmp_same w v (sym same)) ∙ more)
        ])
        (take (next - i) (drop i listed)) starts_here
        (Pairwise-map_out (λ s t. pair_lt s.pair t.pair ≡ true) (λ v. whole_of v.segment) (take (next - i) (drop i listed))
        (subst (λ l. Pairwise (λ s t. pair_lt s.pair t.pair ≡ true) l) (sym (wholes_of_block rule (without_data list) list i next))
        (Pairwise-take (λ s t. pair_lt s.pair t.pair ≡ true) (next - i) (drop i (without_data list)) (Pairwise-drop (λ s t. pair_lt s.pair t.pair ≡ true) i (without_data list) (pairwise_sorted (without_data list) arranged.sorted)))))

    angle_at : (v w : Visit D) → v.segment.pair.a ≡ p → w.segment.pair.a ≡ p → is_lt (visit_cmp v w) ≡ is_lt (angle_cmp v.segment.pair w.segment.pair)
    angle_at v w e f = ap is_lt (visit_cmp_same v w (e ∙ sym f))

    visit_trans : (u v w : Visit D) → Has (without_data list) (whole_of u.segment) × (u.segment.pair.a ≡ p) → Has (without_data list) (whole_of v.segment) × (v.segment.pair.a ≡ p) → Has (without_data list) (whole_of w.segment) × (w.segment.pair.a ≡ p) →
        is_lt (visit_cmp u v) ≡ true → is_lt (visit_cmp v w) ≡ true → is_lt (visit_cmp u w) ≡ true
    visit_trans u v w mu mv mw h k =
        angle_at u w mu.1 mw.1 ∙ angle_trans (without_data list) arranged p (whole_of u.segment) (whole_of v.segment) (whole_of w.segment) mu.0 mv.0 mw.0 mu.1 mv.1 mw.1 (sym (angle_at u v mu.1 mv.1) ∙ h) (sym (angle_at v w mv.1 mw.1) ∙ k)

    pub members_of_block : AllByRecursion (λ v. Has (without_data list) (whole_of v.segment) × (v.segment.pair.a ≡ p)) (visits_of_block i next)
    members_of_block = AllByRecursion-stably_sorted visit_cmp (λ v. Has (without_data list) (whole_of v.segment) × (v.segment.pair.a ≡ p)) (take (next - i) (drop i listed)) starts_here

    -- the segments of a block are those that start at p
    pub block_starts_at_point : AreStartingAt (without_data list) p (wholes (visits_of_block i next))
    block_starts_at_point = record {
      members = AllByRecursion-map (λ s. Has (without_data list) s × (s.pair.a ≡ p)) (λ v. whole_of v.segment) (visits_of_block i next) members_of_block;
      complete = λ s m e.
          let here = block_complete (without_data list) arranged i next p order block s m e in
          let found = Has-map_out (λ (v : Visit D). whole_of v.segment) (take (next - i) (drop i listed)) s (subst (λ l. Has l s) (sym (wholes_of_block rule (without_data list) list i next)) here) in
          subst (λ z. Has (wholes (visits_of_block i next)) z) found.2 (Has-map (λ v. whole_of v.segment) (visits_of_block i next) found.0 (Has-stably_sorted visit_cmp found.0 (take (next - i) (drop i listed)) found.1));
      rising = Pairwise-map (λ s t. is_lt (angle_cmp s.pair t.pair) ≡ true) (λ v. whole_of v.segment) (visits_of_block i next)
          (Pairwise-under (λ v. Has (without_data list) (whole_of v.segment) × (v.segment.pair.a ≡ p)) (λ v w. is_lt (visit_cmp v w) ≡ true) (λ v w. is_lt (angle_cmp v.segment.pair w.segment.pair) ≡ true)
          (λ v w m n h. sym (angle_at v w m.1 n.1) ∙ h) (visits_of_block i next) members_of_block
          (rising_sorted visit_cmp (λ v. Has (without_data list) (whole_of v.segment) × (v.segment.pair.a ≡ p)) visit_trans (take (next - i) (drop i listed)) starts_here differ_in_block));
    }

    -- the collected ways are those of the visits
    pub ways_of_visits : by_angle (ways_between (without_data list) i next) ≡ map visit_way (visits_of_block i next)
    ways_of_visits =
        ap by_angle (ways_of_block rule (without_data list) list i next)
        ∙ stably_sorted-map visit_way visit_cmp (λ w z. angle_cmp w.pair z.pair) (λ v. Has (without_data list) (whole_of v.segment) × (v.segment.pair.a ≡ p))
        (λ v w m n. sym (visit_cmp_same v w (m.1 ∙ sym n.1)))
        (take (next - i) (drop i listed)) starts_here

    pub listed_in_block : AllByRecursion (λ v. Has listed v) (visits_of_block i next)
    listed_in_block = AllByRecursion-stably_sorted visit_cmp (λ v. Has listed v) (take (next - i) (drop i listed)) (AllByRecursion-from_Has (λ v. Has listed v) (take (next - i) (drop i listed)) (λ v m. Has-drop i listed v (Has-take (next - i) (drop i listed) v m)))

    -- all that begin earlier have been visited
    pub early_visited : (s : WholeSegment) → Has (without_data list) s → point_lt s.pair.a p ≡ true → Has (wholes (visits_before i)) s
    early_visited s m h =
        let here = early_complete (without_data list) arranged i next p order block s m h in
        let found = Has-map_out (λ (v : Visit D). whole_of v.segment) (take i listed) s (subst (λ l. Has l s) (sym (wholes_before rule (without_data list) list i)) here) in
        subst (λ z. Has (wholes (visits_before i)) z) found.2 (Has-map (λ v. whole_of v.segment) (visits_before i) found.0 (Has-stably_sorted visit_cmp found.0 (take i listed) found.1))

  pub known_before : (i : ℕ) (s : WholeSegment) → Has (wholes (visits_before i)) s → Has (without_data list) s
  known_before i s m =
      let found = Has-map_out (λ (v : Visit D). whole_of v.segment) (visits_before i) s m in
      subst (λ z. Has (without_data list) z) found.2
      (AllByRecursion-at (λ v. Has (without_data list) (whole_of v.segment)) (visits_before i) found.0
      (AllByRecursion-stably_sorted visit_cmp (λ v. Has (without_data list) (whole_of v.segment)) (take i listed) (AllByRecursion-from_Has (λ v. Has (without_data list) (whole_of v.segment)) (take i listed) (λ v n.
      Has-take i (without_data list) (whole_of v.segment) (Has-wholes (take i listed) _ (wholes_before rule (without_data list) list i) v n))))
      found.1)
