-- What the grid finds are the marks of a pass.
use Rattle.std.proofs.Common.{◌≡◌, refl, sym, ap, subst, ◌∙◌, ◌⊎◌, inl, inr, ℕ, ◌+◌, ◌-◌, ◌<◌, ◌==◌, arith, Bool, true, false, ◌&&◌, if◌then◌else◌, IsTrue, List, [], ◌∷◌, ◌++◌}
use Rattle.std.specs.Prelude.{ℤ, pos, ◌≤ℤ◌, flat_map, nat_lt, IsPermutation}
use Rattle.std.specs.List.{list_any, AllByRecursion, range_with_len}
use Rattle.std.specs.Ordering.{int_eq}
use Rattle.std.specs.Cmp.{both_ways as same_tests}
use Rattle.std.proofs.lemmas.Int.{ints}
use Rattle.std.proofs.lemmas.Bool.{and_parts, and_from, or_left, or_right, or_cases, eqb-true, eq-eqb, false≢true}
use Rattle.std.proofs.lemmas.List.{map-id}
use Rattle.std.proofs.lemmas.List.Sorted.{IsPermutation-sym}
use Rattle.overlay_geometry.specs.Points.{Point, Pair, pair_lt, turn, is_ordered, is_vertical, is_strictly_inside}
use Rattle.overlay_geometry.specs.Ranges.{Rect, do_rects_meet}
use Rattle.overlay_geometry.specs.Meeting.{do_cross}
use Rattle.overlay_geometry.specs.Coordinates.{is_pair_in_range}
use Rattle.overlay_base.specs.SegmentOf.{segments_of, ends_of}
use Rattle.overlay_base.specs.declared.segm.segment.Segment.{Segment}
use Rattle.overlay_base.proofs.laws.geometry.Apart.{pairs-map}
use Rattle.std.specs.Prelude.{All}
use Rattle.std.proofs.lemmas.List.Elements.{recursion_from_All}
use Rattle.overlay_base.specs.Segments.{WholeSegment, pairs}
use Rattle.overlay_geometry.proofs.laws.lists.Lists.{Has, Has-append_left, Has-append_right, Has-map, Has-map_out, Has-filter, Has-filter_out, Has-flat_map, list_any-from_Has, Has-from_list_any, AllByRecursion-at, AllByRecursion-from_list_all, AllByRecursion-from_Has, AllByRecursion-map}
use Rattle.overlay_geometry.proofs.laws.lists.Elements.{Has-append_out, Has-flat_map_out, Has-permutation}
use Rattle.overlay_intersections.specs.Marks.{Placing, marks_by, cross_inexactly}
use Rattle.overlay_intersections.specs.PassMarks.{is_rounded}
use Rattle.overlay_intersections.specs.MarkOf.{Mark}
use Rattle.overlay_intersections.specs.MarksBetween.{marks_at, marks_between, marks_of_each}
use Rattle.overlay_grid.specs.Grid.{Layout, Fragment, column_index, pos_of, group_count, rect_between, fragments, IsInside}
use Rattle.overlay_grid.specs.GridLooks.{is_on_border}
use Rattle.overlay_grid.specs.FragmentOf.{KeptFragment, in_column, kept_in}
use Rattle.overlay_grid.specs.steps.FragmentFinder.{kept_group, marks_of_two, marks_of_group, marks_of_ends, marks_of_border, meet_inexactly, is_group_rounded, stands_at, is_ready}
use Rattle.overlay_intersections.proofs.laws.marks.FoundEach.{StandsAt, each_out, each_in, at_out, at_in, none_on_itself, some_out, some_in, some_cross_inexactly-is, cross_inexactly-back, exact_with_itself}
use Rattle.overlay_grid.proofs.laws.grid.FoundFragments.{two_first, two_second, two_apart}
use Rattle.overlay_intersections.proofs.laws.marks.Marks.{marks_at_ends}
use Rattle.overlay_intersections.proofs.laws.marks.MarkBoxes.{inside, crossing_rises}
use Rattle.overlay_grid.proofs.laws.grid.GridFinder.{Together, TouchesOnBorder, together_where_crossing, found_by_a, found_by_b, Has-range}
use Rattle.overlay_grid.proofs.laws.grid.GridAdding.{fragments_of_vertical}
use Rattle.overlay_grid.proofs.laws.grid.GridBounds.{fragments_within_grid}
use Rattle.overlay_geometry.proofs.laws.integers.Tests.{eq-tested}

-- ---- fragments that are kept

-- what a group keeps of segments
pub record IsKept (l : Layout) (i : ℕ) (ss : List Pair) (column : ℕ) (f : KeptFragment) : Type 0 where
  pub stands : StandsAt i ss f.index f.pair
  pub has : Has ss f.pair
  pub part : Fragment
  pub part_of : Has (fragments l f.pair) part
  pub place : part.column ≡ column
  pub rect : part.rect ≡ f.rect

kept_out : (l : Layout) (i : ℕ) (s : Pair) (column : ℕ) (f : KeptFragment) → Has (kept_in l i s column) f → (part : Fragment) × Has (fragments l s) part × (part.column ≡ column) × ((let made : KeptFragment = record { index = i; pair = s; rect = part.rect } in made) ≡ f)
kept_out l i s column f h =
    let r = Has-map_out (λ p. let made : KeptFragment = record { index = i; pair = s; rect = p.rect } in made) (in_column column (fragments l s)) f h in
    let k = Has-filter_out (λ p. p.column == column) (fragments l s) r.0 r.1 in
    (r.0, k.0, eqb-true r.0.column column k.1, r.2)

pub group_out : (l : Layout) (i : ℕ) (ss : List Pair) (column : ℕ) (f : KeptFragment) → Has (kept_group l i ss column) f → IsKept l i ss column f
unfolding kept_group
group_out l i [] column f h = absurd h
group_out l i (s ∷ ss) column f h = elim (Has-append_out (kept_in l i s column) (kept_group l (i + 1) ss column) f h) [
  | inl here ↦ (
      let r = kept_out l i s column f here in
      let same : s ≡ f.pair = ap (λ (k : KeptFragment). k.pair) r.3 in
      record {
        stands = inl (ap (λ (k : KeptFragment). k.index) r.3, same);
        has = inl same;
        part = r.0;
        part_of = subst (λ (t : Pair). Has (fragments l t) r.0) same r.1;
        place = r.2;
        rect = ap (λ (k : KeptFragment). k.rect) r.3;
      })
  | inr later ↦ (let k = group_out l (i + 1) ss column f later in record { stands = inr k.stands; has = inr k.has; part = k.part; part_of = k.part_of; place = k.place; rect = k.rect })
]

made : ℕ → Pair → Fragment → KeptFragment
made n s part = record { index = n; pair = s; rect = part.rect }

kept_here : (l : Layout) (n : ℕ) (s : Pair) (part : Fragment) (column : ℕ) → Has (fragments l s) part → part.column ≡ column → Has (kept_in l n s column) (record { index = n; pair = s; rect = part.rect })
kept_here l n s part column h e =
    Has-map (λ p. let m : KeptFragment = record { index = n; pair = s; rect = p.rect } in m) (in_column column (fragments l s)) part
    (Has-filter (λ p. p.column == column) (fragments l s) part h (eq-eqb part.column column e))

pub group_has : (l : Layout) (i : ℕ) (ss : List Pair) (n : ℕ) (s : Pair) (part : Fragment) (column : ℕ) → StandsAt i ss n s → Has (fragments l s) part → part.column ≡ column → Has (kept_group l i ss column) (record { index = n; pair = s; rect = part.rect })
unfolding kept_group
group_has l i [] n s part column h k e = absurd h
group_has l i (x ∷ ss) n s part column (inl same) k e =
    Has-append_left (kept_in l i x column) (kept_group l (i + 1) ss column) _
    (subst (λ (t : Pair). Has (kept_in l i t column) (record { index = n; pair = s; rect = part.rect })) (sym same.1) (subst (λ (j : ℕ). Has (kept_in l j s column) (record { index = n; pair = s; rect = part.rect })) (sym same.0) (kept_here l n s part column k e)))
group_has l i (x ∷ ss) n s part column (inr h) k e = Has-append_right (kept_in l i x column) (kept_group l (i + 1) ss column) _ (group_has l (i + 1) ss n s part column h k e)

pub stands_somewhere : (i : ℕ) (ss : List Pair) (t : Pair) → Has ss t → (n : ℕ) × StandsAt i ss n t
stands_somewhere i [] t h = absurd h
stands_somewhere i (x ∷ ss) t (inl e) = (i, inl (refl, e))
stands_somewhere i (x ∷ ss) t (inr h) = let r = stands_somewhere (i + 1) ss t h in (r.0, inr r.1)

-- ---- two fragments

between_out : (placing : Placing) (ps : List Pair) (i : ℕ) (s : Pair) (j : ℕ) (t : Pair) (m : Mark) → StandsAt 0 ps i s → Has ps s → StandsAt 0 ps j t → Has ps t → Has (marks_between placing i s j t) m → Has (marks_of_each placing 0 ps) m
unfolding marks_between
between_out placing ps i s j t m si hs sj ht h = elim (Has-append_out (marks_at i (marks_by placing s t)) (marks_at j (marks_by placing t s)) m h) [
  | inl first ↦ (let r = at_out i (marks_by placing s t) m first in subst (λ (k : ℕ). Has (marks_of_each placing 0 ps) (record { index = k; point = m.point })) r.0 (each_in placing 0 ps i s t m.point si ht r.1))
  | inr second ↦ (let r = at_out j (marks_by placing t s) m second in subst (λ (k : ℕ). Has (marks_of_each placing 0 ps) (record { index = k; point = m.point })) r.0 (each_in placing 0 ps j t s m.point sj hs r.1))
]

between_back : (placing : Placing) (i : ℕ) (s : Pair) (j : ℕ) (t : Pair) (m : Mark) → Has (marks_between placing i s j t) m → Has (marks_between placing j t i s) m
unfolding marks_between
between_back placing i s j t m h = elim (Has-append_out (marks_at i (marks_by placing s t)) (marks_at j (marks_by placing t s)) m h) [
  | inl first ↦ Has-append_right (marks_at j (marks_by placing t s)) (marks_at i (marks_by placing s t)) m first
  | inr second ↦ Has-append_left (marks_at j (marks_by placing t s)) (marks_at i (marks_by placing s t)) m second
]

two_out : (placing : Placing) (f g : KeptFragment) (m : Mark) → Has (marks_of_two placing f g) m → Has (marks_between placing f.index f.pair g.index g.pair) m
two_out placing f g m h = by (do_rects_meet f.rect g.rect) refl (pair_lt f.pair g.pair) refl
  where
    by : (b : Bool) → do_rects_meet f.rect g.rect ≡ b → (c : Bool) → pair_lt f.pair g.pair ≡ c → Has (marks_between placing f.index f.pair g.index g.pair) m
    by false e c d = absurd (subst (λ (ms : List Mark). Has ms m) (two_apart placing f g e) h)
    by true e true d = subst (λ (ms : List Mark). Has ms m) (two_first placing f g e d) h
    by true e false d = between_back placing g.index g.pair f.index f.pair m (subst (λ (ms : List Mark). Has ms m) (two_second placing f g e d) h)

two_in : (placing : Placing) (f g : KeptFragment) (m : Mark) → do_rects_meet f.rect g.rect ≡ true → Has (marks_between placing f.index f.pair g.index g.pair) m → Has (marks_of_two placing f g) m
two_in placing f g m e h = by (pair_lt f.pair g.pair) refl
  where
    by : (c : Bool) → pair_lt f.pair g.pair ≡ c → Has (marks_of_two placing f g) m
    by true d = subst (λ (ms : List Mark). Has ms m) (sym (two_first placing f g e d)) h
    by false d = subst (λ (ms : List Mark). Has ms m) (sym (two_second placing f g e d)) (between_back placing f.index f.pair g.index g.pair m h)

meet_back : (f g : KeptFragment) → do_rects_meet f.rect g.rect ≡ true → do_rects_meet g.rect f.rect ≡ true
meet_back f g e = grind (arith, ints)

none_of_itself : (placing : Placing) (i j : ℕ) (s : Pair) (m : Mark) → Has (marks_between placing i s j s) m → ⊥
unfolding marks_between
none_of_itself placing i j s m h = elim (Has-append_out (marks_at i (marks_by placing s s)) (marks_at j (marks_by placing s s)) m h) [
  | inl first ↦ subst (λ (ps : List Point). Has ps m.point) (none_on_itself placing s) (at_out i (marks_by placing s s) m first).1
  | inr second ↦ subst (λ (ps : List Point). Has ps m.point) (none_on_itself placing s) (at_out j (marks_by placing s s) m second).1
]

-- ---- groups

met_out : (placing : Placing) (f g : KeptFragment) (m : Mark) → Has (marks_of_two placing f g) m → do_rects_meet f.rect g.rect ≡ true
unfolding marks_of_two
met_out placing f g m h = by (do_rects_meet f.rect g.rect) refl
  where
    by : (b : Bool) → do_rects_meet f.rect g.rect ≡ b → do_rects_meet f.rect g.rect ≡ true
    by true e = e
    by false e = absurd (subst (λ (b : Bool). Has (if b then (if pair_lt f.pair g.pair then marks_between placing f.index f.pair g.index g.pair else marks_between placing g.index g.pair f.index f.pair) else []) m) e h)

group_marks_out : (placing : Placing) (fs : List KeptFragment) (m : Mark) → Has (marks_of_group placing fs) m →
    (f : KeptFragment) × (g : KeptFragment) × Has fs f × Has fs g × Has (marks_between placing f.index f.pair g.index g.pair) m × (do_rects_meet f.rect g.rect ≡ true)
unfolding marks_of_group
group_marks_out placing [] m h = absurd h
group_marks_out placing (f ∷ fs) m h = elim (Has-append_out (flat_map (λ g. marks_of_two placing f g) fs) (marks_of_group placing fs) m h) [
  | inl here ↦ (let r = Has-flat_map_out (λ g. marks_of_two placing f g) fs m here in (f, r.0, inl refl, inr r.1, two_out placing f r.0 m r.2, met_out placing f r.0 m r.2))
  | inr later ↦ (let r = group_marks_out placing fs m later in (r.0, r.1, inr r.2, inr r.3, r.4, r.5))
]

group_marks_in : (placing : Placing) (fs : List KeptFragment) (f g : KeptFragment) (m : Mark) → Has fs f → Has fs g → do_rects_meet f.rect g.rect ≡ true → Has (marks_between placing f.index f.pair g.index g.pair) m → Has (marks_of_group placing fs) m
unfolding marks_of_group
group_marks_in placing [] f g m h k e b = absurd h
group_marks_in placing (x ∷ xs) f g m (inl p) (inl q) e b =
    absurd (none_of_itself placing f.index g.index f.pair m (subst (λ (t : Pair). Has (marks_between placing f.index f.pair g.index t) m) (ap (λ (k : KeptFragment). k.pair) (sym q ∙ p)) b))
group_marks_in placing (x ∷ xs) f g m (inl p) (inr k) e b =
    Has-append_left (flat_map (λ u. marks_of_two placing x u) xs) (marks_of_group placing xs) m
    (Has-flat_map (λ u. marks_of_two placing x u) xs g m k (subst (λ (u : KeptFragment). Has (marks_of_two placing u g) m) (sym p) (two_in placing f g m e b)))
group_marks_in placing (x ∷ xs) f g m (inr h) (inl q) e b =
    Has-append_left (flat_map (λ u. marks_of_two placing x u) xs) (marks_of_group placing xs) m
    (Has-flat_map (λ u. marks_of_two placing x u) xs f m h (subst (λ (u : KeptFragment). Has (marks_of_two placing u f) m) (sym q) (two_in placing g f m (meet_back f g e) (between_back placing f.index f.pair g.index g.pair m b))))
group_marks_in placing (x ∷ xs) f g m (inr h) (inr k) e b = Has-append_right (flat_map (λ u. marks_of_two placing x u) xs) (marks_of_group placing xs) m (group_marks_in placing xs f g m h k e b)

group_rounded_out : (fs : List KeptFragment) → is_group_rounded fs ≡ true → (f : KeptFragment) × (g : KeptFragment) × Has fs f × Has fs g × (cross_inexactly f.pair g.pair ≡ true) × (do_rects_meet f.rect g.rect ≡ true)
unfolding is_group_rounded
group_rounded_out [] h = cc
group_rounded_out (f ∷ fs) h = elim (or_cases (list_any (λ g. meet_inexactly f g) fs) (is_group_rounded fs) h) [
  | inl here ↦ (let r = Has-from_list_any (λ g. meet_inexactly f g) fs here in (let p = and_parts (do_rects_meet f.rect r.0.rect) (cross_inexactly f.pair r.0.pair) r.2 in (f, r.0, inl refl, inr r.1, p.1, p.0)))
  | inr later ↦ (let r = group_rounded_out fs later in (r.0, r.1, inr r.2, inr r.3, r.4, r.5))
]

not_itself : (s : Pair) → cross_inexactly s s ≡ true → ⊥
not_itself s h = false≢true (sym (exact_with_itself s) ∙ h)

group_rounded_in : (fs : List KeptFragment) (f g : KeptFragment) → Has fs f → Has fs g → do_rects_meet f.rect g.rect ≡ true → cross_inexactly f.pair g.pair ≡ true → is_group_rounded fs ≡ true
unfolding is_group_rounded
group_rounded_in [] f g h k e c = absurd h
group_rounded_in (x ∷ xs) f g (inl p) (inl q) e c = absurd (not_itself f.pair (subst (λ (t : Pair). cross_inexactly f.pair t ≡ true) (ap (λ (k : KeptFragment). k.pair) (sym q ∙ p)) c))
group_rounded_in (x ∷ xs) f g (inl p) (inr k) e c = or_left _ _ (list_any-from_Has (λ u. meet_inexactly x u) xs g k (subst (λ (u : KeptFragment). meet_inexactly u g ≡ true) (sym p) (and_from _ _ e c)))
group_rounded_in (x ∷ xs) f g (inr h) (inl q) e c = or_left _ _ (list_any-from_Has (λ u. meet_inexactly x u) xs f h (subst (λ (u : KeptFragment). meet_inexactly u f ≡ true) (sym q) (and_from _ _ (meet_back f g e) (cross_inexactly-back g.pair f.pair ∙ c))))
group_rounded_in (x ∷ xs) f g (inr h) (inr k) e c = or_right _ _ (group_rounded_in xs f g h k e c)

-- ---- a group in another order

pub same_has : {X : Type 0} (xs ys : List X) → IsPermutation xs ys → (x : X) → Has xs x → Has ys x
same_has xs ys p x h = subst (λ (zs : List _). Has zs x) (map-id ys) (Has-permutation (λ y. y) xs ys p x (subst (λ (zs : List _). Has zs x) (sym (map-id xs)) h))

pub all-permuted : (P : KeptFragment → Type 0) (fs gs : List KeptFragment) → IsPermutation fs gs → AllByRecursion P fs → AllByRecursion P gs
all-permuted P fs gs p all = AllByRecursion-from_Has P gs (λ f h. AllByRecursion-at P fs f all (same_has gs fs (IsPermutation-sym fs gs p) f h))

pub marks-permuted : (placing : Placing) (fs gs : List KeptFragment) → IsPermutation fs gs → (m : Mark) → Has (marks_of_group placing fs) m → Has (marks_of_group placing gs) m
marks-permuted placing fs gs p m h = let r = group_marks_out placing fs m h in group_marks_in placing gs r.0 r.1 m (same_has fs gs p r.0 r.2) (same_has fs gs p r.1 r.3) r.5 r.4

pub rounded-permuted : (fs gs : List KeptFragment) → IsPermutation fs gs → is_group_rounded fs ≡ is_group_rounded gs
rounded-permuted fs gs p = same_tests _ _ (through fs gs p) (through gs fs (IsPermutation-sym fs gs p))
  where
    through : (fs gs : List KeptFragment) → IsPermutation fs gs → is_group_rounded fs ≡ true → is_group_rounded gs ≡ true
    through fs gs p h = let r = group_rounded_out fs h in group_rounded_in gs r.0 r.1 (same_has fs gs p r.0 r.2) (same_has fs gs p r.1 r.3) r.5 r.4

-- ---- marks from borders

pub ends_out : (f : KeptFragment) (left : List KeptFragment) (m : Mark) → Has (marks_of_ends f left) m → (e : KeptFragment) × Has left e × IsTrue (is_strictly_inside f.pair e.pair.b) × ((let made : Mark = record { index = f.index; point = e.pair.b } in made) ≡ m)
unfolding marks_of_ends
ends_out f left m h =
    let r = Has-flat_map_out (λ e. if is_strictly_inside f.pair e.pair.b then marks_at f.index (e.pair.b ∷ []) else []) left m h in
    let k = by (is_strictly_inside f.pair r.0.pair.b) refl r.0.pair.b r.2 in
    (r.0, r.1, k.0, k.1)
  where
    by : (b : Bool) → {c : Bool} → c ≡ b → (p : Point) → Has (if b then marks_at f.index (p ∷ []) else []) m → (c ≡ true) × ((let made : Mark = record { index = f.index; point = p } in made) ≡ m)
    by true e p (inl same) = (e, same)
    by true e p (inr none) = absurd none
    by false e p none = absurd none

border_out : (x : ℤ) (left group : List KeptFragment) (m : Mark) → Has (marks_of_border x left group) m → (f : KeptFragment) × (e : KeptFragment) × Has group f × Has left e × IsTrue (is_strictly_inside f.pair e.pair.b) × ((let made : Mark = record { index = f.index; point = e.pair.b } in made) ≡ m)
unfolding marks_of_border
border_out x left group m h =
    let r = Has-flat_map_out (λ f. if stands_at x f then marks_of_ends f left else []) group m h in
    let k = ends_out r.0 left m (by (stands_at x r.0) (marks_of_ends r.0 left) r.2) in
    (r.0, k.0, r.1, k.1, k.2, k.3)
  where
    by : (b : Bool) (ms : List Mark) → Has (if b then ms else []) m → Has ms m
    by true ms h = h
    by false ms h = absurd h

border_in : (x : ℤ) (left group : List KeptFragment) (f e : KeptFragment) → Has group f → Has left e → stands_at x f ≡ true → is_strictly_inside f.pair e.pair.b ≡ true → Has (marks_of_border x left group) (record { index = f.index; point = e.pair.b })
unfolding marks_of_border marks_of_ends
border_in x left group f e hf he s i =
    Has-flat_map (λ f. if stands_at x f then marks_of_ends f left else []) group f _ hf
    (subst (λ (b : Bool). Has (if b then marks_of_ends f left else []) (record { index = f.index; point = e.pair.b })) (sym s)
    (Has-flat_map (λ e. if is_strictly_inside f.pair e.pair.b then marks_at f.index (e.pair.b ∷ []) else []) left e _ he
    (subst (λ (b : Bool). Has (if b then marks_at f.index (e.pair.b ∷ []) else []) (record { index = f.index; point = e.pair.b })) (sym i) (at_in f.index (e.pair.b ∷ []) e.pair.b (inl refl)))))

-- ---- where a mark comes from

-- an end that lies strictly inside is no crossing
end_is_no_crossing : (s t : Pair) (p : Point) → p ≡ t.b → IsTrue (is_strictly_inside s p) → do_cross s t ≡ false
end_is_no_crossing s t p e i = by (do_cross s t) refl
  where
    at : turn s.a s.b t.b ≡ pos 0
    at = subst (λ (q : Point). turn s.a s.b q ≡ pos 0) e (inside s p i).on_line

    by : (b : Bool) → do_cross s t ≡ b → b ≡ false
    by false h = refl
    by true h = elim (crossing_rises s t h) [
      | inl r ↦ absurd (let k = r.end_above in let z = at in omega (arith, ints))
      | inr r ↦ absurd (let k = r.right_below in let z = at in omega (arith, ints))
    ]

right_end_marks : (placing : Placing) (s t : Pair) → IsTrue (is_strictly_inside s t.b) → Has (marks_by placing s t) t.b
right_end_marks placing s t i =
    subst (λ (ps : List Point). Has ps t.b) (sym (marks_at_ends placing s t (end_is_no_crossing s t t.b refl i))) (Has-filter (λ p. is_strictly_inside s p) (t.a ∷ t.b ∷ []) t.b (inr (inl refl)) i)

point_from : (placing : Placing) (s t : Pair) (p : Point) → Has (marks_by placing s t) p → IsTrue (do_cross s t) ⊎ ((IsTrue (is_strictly_inside s t.a)) ⊎ ((IsTrue (is_strictly_inside s t.b)) × (p ≡ t.b)))
point_from placing s t p h = by (do_cross s t) refl
  where
    by : (b : Bool) → do_cross s t ≡ b → IsTrue (do_cross s t) ⊎ ((IsTrue (is_strictly_inside s t.a)) ⊎ ((IsTrue (is_strictly_inside s t.b)) × (p ≡ t.b)))
    by true e = inl e
    by false e =
        let r = Has-filter_out (λ q. is_strictly_inside s q) (t.a ∷ t.b ∷ []) p (subst (λ (ps : List Point). Has ps p) (marks_at_ends placing s t e) h) in
        inr (which r.0 r.1)
      where
        which : Has (t.a ∷ t.b ∷ []) p → is_strictly_inside s p ≡ true → (IsTrue (is_strictly_inside s t.a)) ⊎ ((IsTrue (is_strictly_inside s t.b)) × (p ≡ t.b))
        which (inl same) i = inl (subst (λ (q : Point). IsTrue (is_strictly_inside s q)) (sym same) i)
        which (inr (inl same)) i = inr (subst (λ (q : Point). IsTrue (is_strictly_inside s q)) (sym same) i, sym same)
        which (inr (inr none)) i = absurd none

-- ---- small steps

stands_has : (i : ℕ) (ss : List Pair) (n : ℕ) (s : Pair) → StandsAt i ss n s → Has ss s
stands_has i [] n s h = absurd h
stands_has i (x ∷ ss) n s (inl e) = inl e.1
stands_has i (x ∷ ss) n s (inr h) = inr (stands_has (i + 1) ss n s h)

first_between : (placing : Placing) (i : ℕ) (s : Pair) (j : ℕ) (t : Pair) (p : Point) → Has (marks_by placing s t) p → Has (marks_between placing i s j t) (record { index = i; point = p })
unfolding marks_between
first_between placing i s j t p h = Has-append_left (marks_at i (marks_by placing s t)) (marks_at j (marks_by placing t s)) _ (at_in i (marks_by placing s t) p h)

rects_meet : (l : Layout) (s t : Pair) (w : Together l s t) → do_rects_meet w.f.rect w.g.rect ≡ true
rects_meet l s t w = meet_from w.f.rect w.g.rect w.left w.right w.low w.high
  where
    meet_from : (r q : Rect) → r.min_x ≤ℤ q.max_x → q.min_x ≤ℤ r.max_x → r.min_y ≤ℤ q.max_y → q.min_y ≤ℤ r.max_y → do_rects_meet r q ≡ true
    meet_from r q a b c d = grind (arith, ints)

part_below : (l : Layout) (s : Pair) (part : Fragment) → IsTrue (is_ordered s) → IsInside l s → Has (fragments l s) part → part.column < group_count l
part_below l s part o i h =
    let all = AllByRecursion-at (λ (f : Fragment). IsTrue (nat_lt f.column (group_count l))) (fragments l s) part (AllByRecursion-from_list_all (λ (f : Fragment). nat_lt f.column (group_count l)) (fragments l s) (fragments_within_grid l s o i.from i.to)) h in
    lt_from part.column (group_count l) all
  where
    lt_from : (m n : ℕ) → IsTrue (nat_lt m n) → m < n
    lt_from m n e = grind arith

border_parts : (l : Layout) (s : Pair) → IsTrue (is_on_border l s) → IsTrue (is_vertical s) × (s.a.x ≡ pos_of l (column_index l s.a.x))
unfolding is_on_border
border_parts l s h =
    let p = and_parts (is_vertical s && nat_lt 0 (column_index l s.a.x)) (int_eq s.a.x (pos_of l (column_index l s.a.x))) h in
    ((and_parts (is_vertical s) (nat_lt 0 (column_index l s.a.x)) p.0).0, eq-tested _ _ p.1)

eq_at : (a b c : ℤ) → a ≡ b → b ≡ c → int_eq a c ≡ true
eq_at a b c e f = grind (arith, ints)

inexact_crosses : (s t : Pair) → cross_inexactly s t ≡ true → IsTrue (do_cross s t)
unfolding cross_inexactly
inexact_crosses s t h = (and_parts _ _ h).0

pub Has-number : (n i : ℕ) → i < n → Has (range_with_len 0 n) i
Has-number n i h = subst (λ (xs : List ℕ). Has xs i) (map-id (range_with_len 0 n)) (Has-range (λ k. k) 0 n i (omega arith) (omega arith))

-- ---- all columns

module _ (placing : Placing) (l : Layout) (segments : List WholeSegment) (groups : ℕ → List KeptFragment)
    (ordered : AllByRecursion (λ s. IsTrue (is_ordered s)) (pairs segments)) (within : AllByRecursion (IsInside l) (pairs segments))
    (same : (column : ℕ) → IsPermutation (kept_group l 0 (pairs segments) column) (groups column)) where
  from_group : (column : ℕ) (f : KeptFragment) → Has (groups column) f → IsKept l 0 (pairs segments) column f
  from_group column f h = group_out l 0 (pairs segments) column f (same_has (groups column) (kept_group l 0 (pairs segments) column) (IsPermutation-sym _ _ (same column)) f h)

  to_group : (column : ℕ) (f : KeptFragment) → Has (kept_group l 0 (pairs segments) column) f → Has (groups column) f
  to_group column f h = same_has (kept_group l 0 (pairs segments) column) (groups column) (same column) f h

  column_sound : (column : ℕ) (m : Mark) → Has (marks_of_group placing (groups column)) m → Has (marks_of_each placing 0 (pairs segments)) m
  column_sound column m h =
      let r = group_marks_out placing (groups column) m h in
      let f = from_group column r.0 r.2 in
      let g = from_group column r.1 r.3 in
      between_out placing (pairs segments) r.0.index r.0.pair r.1.index r.1.pair m f.stands f.has g.stands g.has r.4

  border_sound : (column : ℕ) (m : Mark) → Has (marks_of_border (pos_of l (column + 1)) (groups column) (groups (column + 1))) m → Has (marks_of_each placing 0 (pairs segments)) m
  border_sound column m h =
      let r = border_out (pos_of l (column + 1)) (groups column) (groups (column + 1)) m h in
      let f = from_group (column + 1) r.0 r.2 in
      let e = from_group column r.1 r.3 in
      subst (λ (n : Mark). Has (marks_of_each placing 0 (pairs segments)) n) r.5 (each_in placing 0 (pairs segments) r.0.index r.0.pair r.1.pair r.1.pair.b f.stands e.has (right_end_marks placing r.0.pair r.1.pair r.4))

  pub sound : (m : Mark) → Has (flat_map (λ column. marks_of_group placing (groups column)) (range_with_len 0 (group_count l)) ++ flat_map (λ column. marks_of_border (pos_of l (column + 1)) (groups column) (groups (column + 1))) (range_with_len 0 (group_count l - 1))) m →
      Has (marks_of_each placing 0 (pairs segments)) m
  sound m h = elim (Has-append_out (flat_map (λ column. marks_of_group placing (groups column)) (range_with_len 0 (group_count l))) (flat_map (λ column. marks_of_border (pos_of l (column + 1)) (groups column) (groups (column + 1))) (range_with_len 0 (group_count l - 1))) m h) [
    | inl here ↦ (let r = Has-flat_map_out (λ column. marks_of_group placing (groups column)) (range_with_len 0 (group_count l)) m here in column_sound r.0 m r.2)
    | inr there ↦ (let r = Has-flat_map_out (λ column. marks_of_border (pos_of l (column + 1)) (groups column) (groups (column + 1))) (range_with_len 0 (group_count l - 1)) m there in border_sound r.0 m r.2)
  ]

  column_below : (s : Pair) (part : Fragment) → Has (pairs segments) s → Has (fragments l s) part → part.column < group_count l
  column_below s part h k =
      let i = AllByRecursion-at (IsInside l) (pairs segments) s within h in
      let o = AllByRecursion-at (λ t. IsTrue (is_ordered t)) (pairs segments) s ordered h in
      part_below l s part o i k

  -- two that have fragments together
  together_found : (s t : Pair) (i j : ℕ) (m : Mark) → StandsAt 0 (pairs segments) i s → Has (pairs segments) s → StandsAt 0 (pairs segments) j t → Together l s t → Has (marks_between placing i s j t) m →
      Has (flat_map (λ column. marks_of_group placing (groups column)) (range_with_len 0 (group_count l))) m
  together_found s t i j m si hs sj w h =
      let f = to_group w.f.column (record { index = i; pair = s; rect = w.f.rect }) (group_has l 0 (pairs segments) i s w.f w.f.column si w.f_of refl) in
      let g = to_group w.f.column (record { index = j; pair = t; rect = w.g.rect }) (group_has l 0 (pairs segments) j t w.g w.f.column sj w.g_of (sym w.one_column)) in
      Has-flat_map (λ column. marks_of_group placing (groups column)) (range_with_len 0 (group_count l)) w.f.column m (Has-number (group_count l) w.f.column (column_below s w.f hs w.f_of))
      (group_marks_in placing (groups w.f.column) (record { index = i; pair = s; rect = w.f.rect }) (record { index = j; pair = t; rect = w.g.rect }) m f g (rects_meet l s t w) h)

  -- a right end on a vertical segment on a border
  touch_found : (s t : Pair) (i j : ℕ) → StandsAt 0 (pairs segments) i s → Has (pairs segments) s → StandsAt 0 (pairs segments) j t → TouchesOnBorder l s t →
      Has (flat_map (λ column. marks_of_border (pos_of l (column + 1)) (groups column) (groups (column + 1))) (range_with_len 0 (group_count l - 1))) (record { index = i; point = t.b })
  touch_found s t i j si hs sj w =
      let v = border_parts l s w.on_border in
      let own : Fragment = record { column = column_index l s.a.x; rect = rect_between s.a.x s.a.y s.b.x s.b.y } in
      let own_of : Has (fragments l s) own = subst (λ (fs : List Fragment). Has fs own) (sym (fragments_of_vertical l s v.0)) (inl refl) in
      let f = to_group (w.f.column + 1) (record { index = i; pair = s; rect = own.rect }) (group_has l 0 (pairs segments) i s own (w.f.column + 1) si own_of (sym w.column)) in
      let e = to_group w.f.column (record { index = j; pair = t; rect = w.f.rect }) (group_has l 0 (pairs segments) j t w.f w.f.column sj w.f_of refl) in
      let below = column_below s own hs own_of in
      let at = w.column in
      Has-flat_map (λ column. marks_of_border (pos_of l (column + 1)) (groups column) (groups (column + 1))) (range_with_len 0 (group_count l - 1)) w.f.column _ (Has-number (group_count l - 1) w.f.column (omega arith))
      (border_in (pos_of l (w.f.column + 1)) (groups w.f.column) (groups (w.f.column + 1)) (record { index = i; pair = s; rect = own.rect }) (record { index = j; pair = t; rect = w.f.rect }) f e
      (and_from _ _ v.0 (eq_at s.a.x (pos_of l (column_index l s.a.x)) (pos_of l (w.f.column + 1)) v.1 (ap (pos_of l) (sym w.column)))) w.inside)

  pub complete : (m : Mark) → Has (marks_of_each placing 0 (pairs segments)) m →
      Has (flat_map (λ column. marks_of_group placing (groups column)) (range_with_len 0 (group_count l)) ++ flat_map (λ column. marks_of_border (pos_of l (column + 1)) (groups column) (groups (column + 1))) (range_with_len 0 (group_count l - 1))) m
  complete m h =
      let put = each_out placing 0 (pairs segments) m h in
      let s = put.on in
      let t = put.by in
      let hs = stands_has 0 (pairs segments) m.index s put.stands in
      let j = stands_somewhere 0 (pairs segments) t put.has in
      let os = AllByRecursion-at (λ u. IsTrue (is_ordered u)) (pairs segments) s ordered hs in
      let ot = AllByRecursion-at (λ u. IsTrue (is_ordered u)) (pairs segments) t ordered put.has in
      let is = AllByRecursion-at (IsInside l) (pairs segments) s within hs in
      let it = AllByRecursion-at (IsInside l) (pairs segments) t within put.has in
      let columns = flat_map (λ column. marks_of_group placing (groups column)) (range_with_len 0 (group_count l)) in
      let borders = flat_map (λ column. marks_of_border (pos_of l (column + 1)) (groups column) (groups (column + 1))) (range_with_len 0 (group_count l - 1)) in
      let between = first_between placing m.index s j.0 t m.point put.put in
      let by_column : Together l s t → Has (columns ++ borders) m = λ w. Has-append_left columns borders m (together_found s t m.index j.0 m put.stands hs j.1 w between) in
      elim (point_from placing s t m.point put.put) [
        | inl crossing ↦ by_column (together_where_crossing l s t os ot is.from it.from crossing)
        | inr end ↦ elim end [
          | inl a ↦ by_column (found_by_a l s t os ot is.from it.from a)
          | inr b ↦ elim (found_by_b l s t os ot is.from it.from b.0) [
            | inl w ↦ by_column w
            | inr w ↦ Has-append_right columns borders m (subst (λ (p : Point). Has borders (record { index = m.index; point = p })) (sym b.1) (touch_found s t m.index j.0 put.stands hs j.1 w))
          ]
        ]
      ]

  pub rounded_is : list_any (λ column. is_group_rounded (groups column)) (range_with_len 0 (group_count l)) ≡ is_rounded segments
  rounded_is = same_tests _ _
      (λ h. let r = Has-from_list_any (λ column. is_group_rounded (groups column)) (range_with_len 0 (group_count l)) h in
      let k = group_rounded_out (groups r.0) r.2 in
      let f = from_group r.0 k.0 k.2 in
      let g = from_group r.0 k.1 k.3 in
      sym (some_cross_inexactly-is segments) ∙ some_in (pairs segments) k.0.pair k.1.pair f.has g.has k.4)
      (λ h. let r = some_out (pairs segments) (some_cross_inexactly-is segments ∙ h) in
      rounded_from r.0 r.1 r.2 r.3 r.4)
    where
      rounded_from : (s t : Pair) → Has (pairs segments) s → Has (pairs segments) t → cross_inexactly s t ≡ true → list_any (λ column. is_group_rounded (groups column)) (range_with_len 0 (group_count l)) ≡ true
      rounded_from s t hs ht c =
          let i = stands_somewhere 0 (pairs segments) s hs in
          let j = stands_somewhere 0 (pairs segments) t ht in
          let os = AllByRecursion-at (λ u. IsTrue (is_ordered u)) (pairs segments) s ordered hs in
          let ot = AllByRecursion-at (λ u. IsTrue (is_ordered u)) (pairs segments) t ordered ht in
          let is = AllByRecursion-at (IsInside l) (pairs segments) s within hs in
          let it = AllByRecursion-at (IsInside l) (pairs segments) t within ht in
          let w = together_where_crossing l s t os ot is.from it.from (inexact_crosses s t c) in
          let f = to_group w.f.column (record { index = i.0; pair = s; rect = w.f.rect }) (group_has l 0 (pairs segments) i.0 s w.f w.f.column i.1 w.f_of refl) in
          let g = to_group w.f.column (record { index = j.0; pair = t; rect = w.g.rect }) (group_has l 0 (pairs segments) j.0 t w.g w.f.column j.1 w.g_of (sym w.one_column)) in
          list_any-from_Has (λ column. is_group_rounded (groups column)) (range_with_len 0 (group_count l)) w.f.column (Has-number (group_count l) w.f.column (column_below s w.f hs w.f_of))
          (group_rounded_in (groups w.f.column) (record { index = i.0; pair = s; rect = w.f.rect }) (record { index = j.0; pair = t; rect = w.g.rect }) f g (rects_meet l s t w) c)

  -- every fragment's segment is in range and in order
  pub all_ready : (least greatest : ℤ) → AllByRecursion (λ s. IsTrue (is_pair_in_range least greatest s)) (pairs segments) → (column : ℕ) → AllByRecursion (λ f. IsTrue (is_ready least greatest f)) (groups column)
  all_ready least greatest in_range column = AllByRecursion-from_Has (λ f. IsTrue (is_ready least greatest f)) (groups column)
      (λ f h. let k = from_group column f h in
      and_from _ _ (AllByRecursion-at (λ s. IsTrue (is_pair_in_range least greatest s)) (pairs segments) f.pair in_range k.has) (AllByRecursion-at (λ s. IsTrue (is_ordered s)) (pairs segments) f.pair ordered k.has))

-- what holds of all segments of code holds of their pairs
pub all_pairs : {C I D : Type 0} {m : _} {w : _} {o : _} {e : _} {p : _} (P : Pair → Type 0) (xs : List (Segment C I D m w o e p)) → All (λ s. P (ends_of s)) xs → AllByRecursion P (pairs (segments_of xs))
all_pairs P xs h = subst (AllByRecursion P) (sym (pairs-map xs)) (AllByRecursion-map P ends_of xs (recursion_from_All (λ s. P (ends_of s)) xs h))
