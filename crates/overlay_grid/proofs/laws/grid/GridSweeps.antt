-- A walk over the columns of a grid from the left.
use Rattle.std.proofs.Common.{◌≡◌, refl, sym, ap, ap₂, subst, ◌∙◌, ℕ, zero, suc, ◌+◌, ◌-◌, ◌<◌, ◌≤◌, ◌==◌, arith, append_assoc, append-nil, Bool, true, false, not, ◌&&◌, if◌then◌else◌, IsTrue, List, [], ◌∷◌, ◌++◌, take, drop, get_or, length, map, All}
use Rattle.std.specs.Prelude.{ℤ, pos, ◌-ℤ◌, ◌≤ℤ◌, nat_lt, flat_map}
use Rattle.std.specs.List.{AllByRecursion, range_with_len}
use Rattle.std.proofs.lemmas.Grind.{flat_map-append}
use Rattle.std.proofs.lemmas.Bool.{and_parts}
use Rattle.std.proofs.lemmas.List.Elements.{All-weaker}
use Rattle.overlay_geometry.specs.Points.{Point, Pair, is_vertical, is_ordered}
use Rattle.overlay_geometry.specs.Coordinates.{is_pair_in_range}
use Rattle.overlay_geometry.specs.Ranges.{Rect}
use Rattle.overlay_grid.specs.Grid.{Layout, Fragment, column_index, pos_of, rect_between, toward, least_rise, greatest_rise, fragment_in, IsInside}
use Rattle.overlay_grid.specs.FragmentOf.{KeptFragment, kept, in_column, kept_in}
use Rattle.overlay_grid.specs.steps.FragmentFinder.{kept_group}
use Rattle.overlay_grid.specs.steps.Entering.{KeptRest, corner_in, entering, entering_in, rest_of, rests_of}
use Rattle.overlay_grid.specs.steps.Sweeps.{AreParted, IsPartAt, goes_on}
use Rattle.overlay_geometry.proofs.laws.geometry.Coordinates.{pair_in_range}
use Rattle.overlay_geometry.proofs.laws.geometry.Points.{ordered_x}
use Rattle.overlay_geometry.proofs.laws.lists.Elements.{AllByRecursion-drop, AllByRecursion-drop_later}
use Rattle.overlay_geometry.proofs.laws.lists.Lists.{AllByRecursion-append, AllByRecursion-weaker}
use Rattle.overlay_base.specs.ArrangedOf.{AreInRange}
use Rattle.overlay_base.specs.SegmentOf.{ends_of, pairs_in, x_segment_of}
use Rattle.overlay_base.specs.declared.segm.segment.Segment.{Segment}
use Rattle.overlay_base.proofs.laws.geometry.Apart.{are_ordered}
use Rattle.overlay_base.proofs.laws.joins.Rests.{rest-more, rest-none}
use Rattle.overlay_grid.specs.declared.split.column_parts.Rest.{Rest}
use Rattle.overlay_grid.proofs.laws.grid.GridFills.{fill_more}
use Rattle.overlay_grid.proofs.laws.grid.GridFound.{all_pairs}
use Rattle.overlay_grid.proofs.laws.grid.GridFragments.{RunsRight, RunsRight-not_vertical, fragments_flat, column_count, column_count-end, fragment_in-column}
use Rattle.overlay_grid.proofs.laws.grid.GridAdding.{added_to, first_corner, first_to_last, fragments_of_vertical, inner_rect, last_rect, next_left, one_kept, runs_forward}

-- ---- lists that are put together from one list for each segment

abbrev pub each : {X : Type 0} → (ℕ → Pair → List X) → ℕ → List Pair → List X
each f i [] = []
each f i (s ∷ ss) = f i s ++ each f (i + 1) ss

kept_each : (l : Layout) (i : ℕ) (ss : List Pair) (c : ℕ) → kept_group l i ss c ≡ each (λ j s. kept_in l j s c) i ss
unfolding kept_group
kept_each l i [] c = refl
kept_each l i (s ∷ ss) c = ap (λ (fs : List KeptFragment). kept_in l i s c ++ fs) (kept_each l (i + 1) ss c)

entering_each : (l : Layout) (i : ℕ) (ss : List Pair) (c : ℕ) → entering l i ss c ≡ each (λ j s. entering_in l j s c) i ss
unfolding entering
entering_each l i [] c = refl
entering_each l i (s ∷ ss) c = ap (λ (rs : List KeptRest). entering_in l i s c ++ rs) (entering_each l (i + 1) ss c)

each-none : {X : Type 0} (f : ℕ → Pair → List X) (P : Pair → Type 0) → ((j : ℕ) (s : Pair) → P s → f j s ≡ []) → (i : ℕ) (ss : List Pair) → AllByRecursion P ss → each f i ss ≡ []
each-none f P h i [] all = refl
each-none f P h i (s ∷ ss) all = ap (λ (xs : List _). xs ++ each f (i + 1) ss) (h i s all.0) ∙ each-none f P h (i + 1) ss all.1

-- what is made of each segment that enters a column, and of each that does not begin left of it
each-through : {X : Type 0} (l : Layout) (c : ℕ) (f : ℕ → Pair → List X) → ((j : ℕ) (s : Pair) → column_index l s.a.x < c → flat_map (λ r. f r.index r.pair) (entering_in l j s c) ≡ f j s) → ((j : ℕ) (s : Pair) → c ≤ column_index l s.a.x → entering_in l j s c ≡ []) →
    (i : ℕ) (ss : List Pair) (n : ℕ) → AllByRecursion (λ s. column_index l s.a.x < c) (take n ss) → AllByRecursion (λ s. c ≤ column_index l s.a.x) (drop n ss) →
    flat_map (λ r. f r.index r.pair) (each (λ j s. entering_in l j s c) i ss) ++ each f (i + n) (drop n ss) ≡ each f i ss
each-through l c f own none i ss zero b a =
    ap (λ (rs : List KeptRest). flat_map (λ r. f r.index r.pair) rs ++ each f (i + 0) ss) (each-none (λ j s. entering_in l j s c) (λ s. c ≤ column_index l s.a.x) none i ss a) ∙ ap (λ (k : ℕ). each f k ss) (let e : i + 0 ≡ i = omega arith in e)
each-through l c f own none i [] (suc n) b a = refl
each-through l c f own none i (s ∷ ss) (suc n) b a =
    let first = entering_in l i s c in
    let rest = each (λ j t. entering_in l j t c) (i + 1) ss in
    let g : KeptRest → List _ = λ r. f r.index r.pair in
    ap (λ (xs : List _). xs ++ each f (i + suc n) (drop n ss)) (flat_map-append g first rest)
    ∙ append_assoc (flat_map g first) (flat_map g rest) (each f (i + suc n) (drop n ss))
    ∙ ap₂ (λ (xs ys : List _). xs ++ ys) (own i s b.0) (ap (λ (k : ℕ). flat_map g rest ++ each f k (drop n ss)) (let e : i + suc n ≡ i + 1 + n = omega arith in e) ∙ each-through l c f own none (i + 1) ss n b.1 a)

-- ---- one segment

not_yet : (b c : Bool) (m n k : ℕ) → n ≤ m → (b && nat_lt m n && c) ≡ false
not_yet b c m n k h = grind arith

pub entering_none : (l : Layout) (c j : ℕ) (s : Pair) → c ≤ column_index l s.a.x → entering_in l j s c ≡ []
unfolding entering_in
entering_none l c j s h = ap (λ (b : Bool). if b then (let rest : KeptRest = record { index = j; pair = s; corner = corner_in l s c } in rest) ∷ [] else []) (not_yet (not (is_vertical s)) (nat_lt c (column_index l (s.b.x -ℤ pos 1) + 1)) (column_index l s.a.x) c 0 h)

-- the fragments of columns apart from one
none_in : (l : Layout) (s : Pair) (c a n : ℕ) → c < a → in_column c (map (λ i. fragment_in l s i) (range_with_len a n)) ≡ []
none_in l s c a zero h = refl
none_in l s c a (suc n) h = ap (λ (b : Bool). if b then fragment_in l s a ∷ in_column c (map (λ i. fragment_in l s i) (range_with_len (a + 1) n)) else in_column c (map (λ i. fragment_in l s i) (range_with_len (a + 1) n))) (apart (fragment_in l s a).column a c (fragment_in-column l s a) h) ∙ none_in l s c (a + 1) n (omega arith)
  where
    apart : (k a c : ℕ) → k ≡ a → c < a → (k == c) ≡ false
    apart k a c e h = grind arith

-- and the one in it
only_in : (l : Layout) (s : Pair) (c a n : ℕ) → a ≤ c → c < a + n → in_column c (map (λ i. fragment_in l s i) (range_with_len a n)) ≡ fragment_in l s c ∷ []
only_in l s c a zero h k = absurd (omega arith)
only_in l s c a (suc n) h k = by (c - a) refl (λ more. only_in l s c (a + 1) n (omega arith) (omega arith))
  where
    rest : List Fragment
    rest = in_column c (map (λ i. fragment_in l s i) (range_with_len (a + 1) n))

    test : (j a c : ℕ) → j ≡ a → c ≡ a → (j == c) ≡ true
    test j a c e f = grind arith

    apart : (j a c : ℕ) → j ≡ a → a < c → (j == c) ≡ false
    apart j a c e f = grind arith

    by : (d : ℕ) → c - a ≡ d → (a < c → rest ≡ fragment_in l s c ∷ []) → (if (fragment_in l s a).column == c then fragment_in l s a ∷ rest else rest) ≡ fragment_in l s c ∷ []
    by zero e later =
        let same : c ≡ a = omega arith in
        ap (λ (b : Bool). if b then fragment_in l s a ∷ rest else rest) (test (fragment_in l s a).column a c (fragment_in-column l s a) same)
        ∙ ap₂ (λ (i : ℕ) (fs : List Fragment). fragment_in l s i ∷ fs) (sym same) (none_in l s c (a + 1) n (omega arith))
    by (suc d) e later =
        let more : a < c = omega arith in
        ap (λ (b : Bool). if b then fragment_in l s a ∷ rest else rest) (apart (fragment_in l s a).column a c (fragment_in-column l s a) more)
        ∙ later more

-- a fragment, as it is kept
abbrev pub as_kept : ℕ → Pair → Rect → List KeptFragment
as_kept index s rect = (let part : KeptFragment = record { index = index; pair = s; rect = rect } in part) ∷ []

one_here : (index : ℕ) (s : Pair) (rect : Rect) (k c : ℕ) → k ≡ c → added_to k index s rect c ≡ as_kept index s rect
one_here index s rect k c e = ap (λ (b : Bool). if b then as_kept index s rect else []) (test k c e)
  where
    test : (k c : ℕ) → k ≡ c → (k == c) ≡ true
    test k c e = grind arith

kept_slanted : (l : Layout) (index : ℕ) (s : Pair) (c : ℕ) (rect : Rect) → RunsRight s → l.min_x ≤ℤ s.a.x → column_index l s.a.x ≤ c → c ≤ column_index l (s.b.x -ℤ pos 1) → (fragment_in l s c).rect ≡ rect → kept_in l index s c ≡ as_kept index s rect
kept_slanted l index s c rect r h from to e =
    ap (λ (fs : List Fragment). kept index s (in_column c fs)) (fragments_flat l s (RunsRight-not_vertical s r))
    ∙ ap (kept index s) (only_in l s c (column_index l s.a.x) (column_count l s) from (within (column_index l s.a.x) (column_count l s) (column_index l (s.b.x -ℤ pos 1)) c (column_count-end l s r h) to))
    ∙ ap (λ (box : Rect). as_kept index s box) e
  where
    within : (a n b c : ℕ) → a + n ≡ b + 1 → c ≤ b → c < a + n
    within a n b c p q = omega arith

kept_upright : (l : Layout) (index : ℕ) (s : Pair) (c : ℕ) → IsTrue (is_vertical s) → column_index l s.a.x ≡ c → kept_in l index s c ≡ as_kept index s (rect_between s.a.x s.a.y s.b.x s.b.y)
kept_upright l index s c v e =
    ap (λ (fs : List Fragment). kept index s (in_column c fs)) (fragments_of_vertical l s v)
    ∙ one_kept index s (record { column = column_index l s.a.x; rect = rect_between s.a.x s.a.y s.b.x s.b.y }) (rect_between s.a.x s.a.y s.b.x s.b.y) (column_index l s.a.x) c refl refl
    ∙ one_here index s (rect_between s.a.x s.a.y s.b.x s.b.y) (column_index l s.a.x) c e

below : (m n : ℕ) → nat_lt m n ≡ true → m < n
below m n e = grind arith

not_below : (m n : ℕ) → nat_lt m n ≡ false → n ≤ m
not_below m n e = grind arith

-- a segment that does not go on is in its last column
last_column : (v : Bool) (m n : ℕ) → (not v && nat_lt m n) ≡ false → v ≡ false → m ≤ n → m ≡ n
last_column v m n e f k =
    let above = not_below m n (subst (λ (b : Bool). (not b && nat_lt m n) ≡ false) f e) in
    omega arith

-- the part in the last column of a segment
pub last_part : (l : Layout) (index : ℕ) (s : Pair) (c : ℕ) (corner : Point) → s.a.x ≤ℤ s.b.x → l.min_x ≤ℤ s.a.x → IsPartAt l s c corner → goes_on l s c ≡ false → kept_in l index s c ≡ as_kept index s (rect_between corner.x corner.y s.b.x s.b.y)
last_part l index s c corner o h p g = by (is_vertical s) refl
  where
    by : (b : Bool) → is_vertical s ≡ b → kept_in l index s c ≡ as_kept index s (rect_between corner.x corner.y s.b.x s.b.y)
    by true v =
        let at = p.upright v in
        kept_upright l index s c v at.0 ∙ ap (λ (q : Point). as_kept index s (rect_between q.x q.y s.b.x s.b.y)) (sym at.1)
    by false v =
        let r = runs_forward s (ap not v) o in
        let last = last_column (is_vertical s) c (column_index l (s.b.x -ℤ pos 1)) g v (p.up_to (ap not v)) in
        let at = p.slanted (ap not v) in
        kept_slanted l index s c (rect_between corner.x corner.y s.b.x s.b.y) r h p.from (p.up_to (ap not v))
        (last_rect l s c corner r h last (ap (λ (q : Point). q.x) at) (ap (λ (q : Point). q.y) at))

pub record GoesOn (l : Layout) (s : Pair) (c : ℕ) : Type 0 where
  pub flat : not (is_vertical s) ≡ true
  pub runs : RunsRight s
  pub past : c < column_index l (s.b.x -ℤ pos 1)

pub goes_right : (l : Layout) (s : Pair) (c : ℕ) → s.a.x ≤ℤ s.b.x → goes_on l s c ≡ true → GoesOn l s c
goes_right l s c o g =
    let p = and_parts (not (is_vertical s)) (nat_lt c (column_index l (s.b.x -ℤ pos 1))) g in
    record { flat = p.0; runs = runs_forward s p.0 o; past = below c (column_index l (s.b.x -ℤ pos 1)) p.1 }

-- the part in a column that the segment leaves through the right border
pub inner_part : (l : Layout) (index : ℕ) (s : Pair) (c : ℕ) (corner : Point) (x far : ℤ) → l.min_x ≤ℤ s.a.x → IsPartAt l s c corner → GoesOn l s c → x ≡ pos_of l (c + 1) → far ≡ toward s (greatest_rise s x) →
    kept_in l index s c ≡ as_kept index s (rect_between corner.x corner.y x far)
inner_part l index s c corner x far h p g e f =
    let at = p.slanted g.flat in
    kept_slanted l index s c (rect_between corner.x corner.y x far) g.runs h p.from (p.up_to g.flat)
    (inner_rect l s c corner x far g.runs h p.from g.past (ap (λ (q : Point). q.x) at) (ap (λ (q : Point). q.y) at) e f)

abbrev as_rest : ℕ → Pair → Point → List KeptRest
as_rest index s corner = (let rest : KeptRest = record { index = index; pair = s; corner = corner } in rest) ∷ []

-- nothing goes on into the next column, or the rest does
pub ends_here : (l : Layout) (index : ℕ) (s : Pair) (c : ℕ) → goes_on l s c ≡ false → entering_in l index s (c + 1) ≡ []
unfolding entering_in
ends_here l index s c g = ap (λ (b : Bool). if b then as_rest index s (corner_in l s (c + 1)) else []) (test (not (is_vertical s)) (nat_lt (column_index l s.a.x) (c + 1)) c (column_index l (s.b.x -ℤ pos 1)) g)
  where
    test : (v b : Bool) (m n : ℕ) → (v && nat_lt m n) ≡ false → (v && b && nat_lt (m + 1) (n + 1)) ≡ false
    test v b m n e = grind arith

pub rest_goes_on : (l : Layout) (index : ℕ) (s : Pair) (c : ℕ) (next : Point) → l.min_x ≤ℤ s.a.x → column_index l s.a.x ≤ c → GoesOn l s c → next.x ≡ pos_of l (c + 1) → next.y ≡ toward s (least_rise s next.x) → entering_in l index s (c + 1) ≡ as_rest index s next
unfolding entering_in
rest_goes_on l index s c next h from g x y =
    ap (λ (b : Bool). if b then as_rest index s (corner_in l s (c + 1)) else []) (test (not (is_vertical s)) (column_index l s.a.x) c (column_index l (s.b.x -ℤ pos 1)) g.flat from g.past)
    ∙ ap (λ (z : ℤ). as_rest index s (record { x = z; y = toward s (least_rise s z) })) (sym (x ∙ next_left l s c h from))
    ∙ ap (λ (z : ℤ). as_rest index s (record { x = next.x; y = z })) (sym y)
  where
    test : (v : Bool) (k m n : ℕ) → v ≡ true → k ≤ m → m < n → (v && nat_lt k (m + 1) && nat_lt (m + 1) (n + 1)) ≡ true
    test v k m n e f h = grind arith

-- a segment that begins in another column, or ends left of one, has no part there
apart_columns : (k c : ℕ) → c < k → (k == c) ≡ false
apart_columns k c h = grind arith

apart_before : (k c : ℕ) → k < c → (k == c) ≡ false
apart_before k c h = grind arith

none_past : (l : Layout) (s : Pair) (c a n : ℕ) → a + n ≤ c → in_column c (map (λ i. fragment_in l s i) (range_with_len a n)) ≡ []
none_past l s c a zero h = refl
none_past l s c a (suc n) h = ap (λ (b : Bool). if b then fragment_in l s a ∷ in_column c (map (λ i. fragment_in l s i) (range_with_len (a + 1) n)) else in_column c (map (λ i. fragment_in l s i) (range_with_len (a + 1) n))) (apart (fragment_in l s a).column a c (fragment_in-column l s a) (omega arith)) ∙ none_past l s c (a + 1) n (omega arith)
  where
    apart : (k a c : ℕ) → k ≡ a → a < c → (k == c) ≡ false
    apart k a c e h = grind arith

upright_elsewhere : (l : Layout) (index : ℕ) (s : Pair) (c : ℕ) → IsTrue (is_vertical s) → (column_index l s.a.x == c) ≡ false → kept_in l index s c ≡ []
upright_elsewhere l index s c v e =
    ap (λ (fs : List Fragment). kept index s (in_column c fs)) (fragments_of_vertical l s v)
    ∙ one_kept index s (record { column = column_index l s.a.x; rect = rect_between s.a.x s.a.y s.b.x s.b.y }) (rect_between s.a.x s.a.y s.b.x s.b.y) (column_index l s.a.x) c refl refl
    ∙ ap (λ (b : Bool). if b then as_kept index s (rect_between s.a.x s.a.y s.b.x s.b.y) else []) e

kept_before : (l : Layout) (index : ℕ) (s : Pair) (c : ℕ) → c < column_index l s.a.x → kept_in l index s c ≡ []
kept_before l index s c h = by (is_vertical s) refl
  where
    by : (b : Bool) → is_vertical s ≡ b → kept_in l index s c ≡ []
    by true v = upright_elsewhere l index s c v (apart_columns (column_index l s.a.x) c h)
    by false v =
        ap (λ (fs : List Fragment). kept index s (in_column c fs)) (fragments_flat l s v)
        ∙ ap (kept index s) (none_in l s c (column_index l s.a.x) (column_count l s) h)

-- whether a segment that begins left of a column enters it
abbrev enters_in : Layout → Pair → ℕ → Bool
enters_in l s c = not (is_vertical s) && nat_lt (column_index l s.a.x) c && nat_lt c (column_index l (s.b.x -ℤ pos 1) + 1)

entering_by : (l : Layout) (index : ℕ) (s : Pair) (c : ℕ) (b : Bool) → enters_in l s c ≡ b → entering_in l index s c ≡ (if b then as_rest index s (corner_in l s c) else [])
unfolding entering_in
entering_by l index s c b e = ap (λ (b : Bool). if b then as_rest index s (corner_in l s c) else []) e

ends_before : (v : Bool) (k c n : ℕ) → (not v && nat_lt k c && nat_lt c n) ≡ false → v ≡ false → k < c → n ≤ c
ends_before v k c n e f h = not_below c n (last (nat_lt k c) (nat_lt c n) (subst (λ (b : Bool). (not b && nat_lt k c && nat_lt c n) ≡ false) f e) (above k c h))
  where
    last : (a b : Bool) → (a && b) ≡ false → a ≡ true → b ≡ false
    last a b e f = grind arith

    above : (m n : ℕ) → m < n → nat_lt m n ≡ true
    above m n h = grind arith

kept_past : (l : Layout) (index : ℕ) (s : Pair) (c : ℕ) → column_index l s.a.x < c → enters_in l s c ≡ false → kept_in l index s c ≡ []
unfolding column_count
kept_past l index s c h e = by (is_vertical s) refl
  where
    by : (b : Bool) → is_vertical s ≡ b → kept_in l index s c ≡ []
    by true v = upright_elsewhere l index s c v (apart_before (column_index l s.a.x) c h)
    by false v =
        let past = ends_before (is_vertical s) (column_index l s.a.x) c (column_index l (s.b.x -ℤ pos 1) + 1) e v h in
        ap (λ (fs : List Fragment). kept index s (in_column c fs)) (fragments_flat l s v)
        ∙ ap (kept index s) (none_past l s c (column_index l s.a.x) (column_count l s) (omega arith))

own_kept : (l : Layout) (c index : ℕ) (s : Pair) → column_index l s.a.x < c → flat_map (λ r. kept_in l r.index r.pair c) (entering_in l index s c) ≡ kept_in l index s c
own_kept l c index s h = by (enters_in l s c) refl
  where
    by : (b : Bool) → enters_in l s c ≡ b → flat_map (λ r. kept_in l r.index r.pair c) (entering_in l index s c) ≡ kept_in l index s c
    by true e = ap (flat_map (λ r. kept_in l r.index r.pair c)) (entering_by l index s c true e) ∙ append-nil (kept_in l index s c)
    by false e = ap (flat_map (λ r. kept_in l r.index r.pair c)) (entering_by l index s c false e) ∙ sym (kept_past l index s c h e)

enters_no_more : (v : Bool) (k c n : ℕ) → (v && nat_lt k c && nat_lt c n) ≡ false → k < c → (v && nat_lt k (c + 1) && nat_lt (c + 1) n) ≡ false
enters_no_more v k c n e h = grind arith

own_entering : (l : Layout) (c index : ℕ) (s : Pair) → column_index l s.a.x < c → flat_map (λ r. entering_in l r.index r.pair (c + 1)) (entering_in l index s c) ≡ entering_in l index s (c + 1)
own_entering l c index s h = by (enters_in l s c) refl
  where
    by : (b : Bool) → enters_in l s c ≡ b → flat_map (λ r. entering_in l r.index r.pair (c + 1)) (entering_in l index s c) ≡ entering_in l index s (c + 1)
    by true e = ap (flat_map (λ r. entering_in l r.index r.pair (c + 1))) (entering_by l index s c true e) ∙ append-nil (entering_in l index s (c + 1))
    by false e =
        ap (flat_map (λ r. entering_in l r.index r.pair (c + 1))) (entering_by l index s c false e)
        ∙ sym (entering_by l index s (c + 1) false (enters_no_more (not (is_vertical s)) (column_index l s.a.x) c (column_index l (s.b.x -ℤ pos 1) + 1) e h))

-- ---- what holds of rests

-- where a rest is at the left border of a column
pub record IsRestAt (l : Layout) (c : ℕ) (r : KeptRest) : Type 0 where
  pub flat : not (is_vertical r.pair) ≡ true
  pub from : column_index l r.pair.a.x < c
  pub to : c < column_index l (r.pair.b.x -ℤ pos 1) + 1
  pub corner : r.corner ≡ corner_in l r.pair c

each_rest : (l : Layout) (P : Pair → Type 0) (index : ℕ) (s : Pair) (c : ℕ) → P s → AllByRecursion (λ r. P r.pair × IsRestAt l c r) (entering_in l index s c)
each_rest l P index s c p = by (enters_in l s c) refl
  where
    by : (b : Bool) → enters_in l s c ≡ b → AllByRecursion (λ r. P r.pair × IsRestAt l c r) (entering_in l index s c)
    by true e =
        let h = and_parts (not (is_vertical s) && nat_lt (column_index l s.a.x) c) (nat_lt c (column_index l (s.b.x -ℤ pos 1) + 1)) e in
        let k = and_parts (not (is_vertical s)) (nat_lt (column_index l s.a.x) c) h.0 in
        subst (AllByRecursion (λ r. P r.pair × IsRestAt l c r)) (sym (entering_by l index s c true e))
        ((p, record { flat = k.0; from = below (column_index l s.a.x) c k.1; to = below c (column_index l (s.b.x -ℤ pos 1) + 1) h.1; corner = refl }), tt)
    by false e = subst (AllByRecursion (λ r. P r.pair × IsRestAt l c r)) (sym (entering_by l index s c false e)) tt

pub all_rests : (l : Layout) (P : Pair → Type 0) (i : ℕ) (ss : List Pair) (c : ℕ) → AllByRecursion P ss → AllByRecursion (λ r. P r.pair × IsRestAt l c r) (entering l i ss c)
unfolding entering
all_rests l P i [] c h = tt
all_rests l P i (s ∷ ss) c h = AllByRecursion-append (λ r. P r.pair × IsRestAt l c r) (entering_in l i s c) (entering l (i + 1) ss c) (each_rest l P i s c h.0) (all_rests l P (i + 1) ss c h.1)

pub part_of_rest : (l : Layout) (c : ℕ) (r : KeptRest) → IsRestAt l c r → IsPartAt l r.pair c r.corner
part_of_rest l c r h = record {
  from = (let f = h.from in omega arith);
  upright = λ v. absurd (both (is_vertical r.pair) v h.flat);
  up_to = λ v. (let t = h.to in omega arith);
  slanted = λ v. h.corner;
}
  where
    both : (b : Bool) → b ≡ true → not b ≡ true → ⊥
    both true e f = cc
    both false e f = cc

-- the part of a segment where it begins
pub part_at_start : (l : Layout) (s : Pair) (c : ℕ) → s.a.x ≤ℤ s.b.x → l.min_x ≤ℤ s.a.x → column_index l s.a.x ≡ c → IsPartAt l s c s.a
part_at_start l s c o h e = record {
  from = omega arith;
  upright = λ v. (e, refl);
  up_to = λ v. subst (λ (k : ℕ). k ≤ column_index l (s.b.x -ℤ pos 1)) e (first_to_last l s (runs_forward s v o) h);
  slanted = λ v. subst (λ (k : ℕ). s.a ≡ corner_in l s k) e (first_corner l s (runs_forward s v o) h);
}

-- ---- what a segment has to be

pub record IsFit (least greatest : ℤ) (l : Layout) (s : Pair) : Type 0 where
  pub in_range : IsTrue (is_pair_in_range least greatest s)
  pub order : s.a.x ≤ℤ s.b.x
  pub inside : IsInside l s

pub all_fit : (least greatest : ℤ) (l : Layout) (ss : List Pair) → AllByRecursion (λ s. IsTrue (is_pair_in_range least greatest s)) ss → AllByRecursion (λ s. IsTrue (is_ordered s)) ss → AllByRecursion (IsInside l) ss → AllByRecursion (IsFit least greatest l) ss
all_fit least greatest l [] r o i = tt
all_fit least greatest l (s ∷ ss) r o i = (record { in_range = r.0; order = ordered_x s o.0; inside = i.0 }, all_fit least greatest l ss r.1 o.1 i.1)

-- of segments of code
pub segments_fit : {C I D : Type 0} {m : _} {w : _} {o : _} {e : _} {p : _} (xs : List (Segment C I D m w o e p)) (l : Layout) → AreInRange xs → All (λ s. IsInside l (ends_of s)) xs → AllByRecursion (IsFit (w.whole w.MIN_COORD) (w.whole w.MAX_COORD) l) (pairs_in xs)
segments_fit {w = w} xs l r i =
    all_fit (w.whole w.MIN_COORD) (w.whole w.MAX_COORD) l (pairs_in xs)
    (all_pairs (λ s. IsTrue (is_pair_in_range (w.whole w.MIN_COORD) (w.whole w.MAX_COORD) s)) xs (All-weaker _ _ (λ s h. pair_in_range w.whole w.MIN_COORD w.MAX_COORD (x_segment_of s) h) xs r))
    (are_ordered xs) (all_pairs (IsInside l) xs i)

-- a rest of a list of code
pub rests-next : {I : Type 0} (whole : I → ℤ) (rests : List (Rest I)) (j : ℕ) (r : Rest I) → j < length rests → r ≡ get_or rests j r → drop j (rests_of whole rests) ≡ rest_of whole r ∷ drop (j + 1) (rests_of whole rests)
rests-next whole rests j r lt is = rest-more (rest_of whole) rests j r lt is

pub rests-none : {I : Type 0} (whole : I → ℤ) (rests : List (Rest I)) (j : ℕ) → length rests ≤ j → drop j (rests_of whole rests) ≡ []
rests-none whole rests j h = rest-none (rest_of whole) rests j h

pub rest_at : (least greatest : ℤ) (l : Layout) (ss : List Pair) (c : ℕ) (rests : List KeptRest) (j : ℕ) (r : KeptRest) → AllByRecursion (IsFit least greatest l) ss → rests ≡ entering l 0 ss c → drop j rests ≡ r ∷ drop (j + 1) rests → IsFit least greatest l r.pair × IsRestAt l c r
rest_at least greatest l ss c rests j r fit e d =
    let all = subst (AllByRecursion (λ r. IsFit least greatest l r.pair × IsRestAt l c r)) (sym e) (all_rests l (IsFit least greatest l) 0 ss c fit) in
    (subst (AllByRecursion (λ r. IsFit least greatest l r.pair × IsRestAt l c r)) d (AllByRecursion-drop (λ r. IsFit least greatest l r.pair × IsRestAt l c r) j rests all)).0

-- ---- where the walk over a column is

pub record IsTaken (l : Layout) (ss : List Pair) (n c : ℕ) (group : List KeptFragment) (rests : List KeptRest) : Type 0 where
  pub before : AllByRecursion (λ s. column_index l s.a.x < c + 1) (take n ss)
  pub after : AllByRecursion (λ s. c ≤ column_index l s.a.x) (drop n ss)
  pub group_is : group ++ kept_group l n (drop n ss) c ≡ kept_group l 0 ss c
  pub rests_is : rests ++ entering l n (drop n ss) (c + 1) ≡ entering l 0 ss (c + 1)

pub record IsTakenFrom (l : Layout) (ss : List Pair) (n c : ℕ) (left : List KeptRest) (group : List KeptFragment) (rests : List KeptRest) : Type 0 where
  pub group_is : group ++ (flat_map (λ r. kept_in l r.index r.pair c) left ++ kept_group l n (drop n ss) c) ≡ kept_group l 0 ss c
  pub rests_is : rests ++ (flat_map (λ r. entering_in l r.index r.pair (c + 1)) left ++ entering l n (drop n ss) (c + 1)) ≡ entering l 0 ss (c + 1)

pub taken_from_start : (l : Layout) (ss : List Pair) (n c : ℕ) → AreParted l ss n c → IsTakenFrom l ss n c (entering l 0 ss c) [] []
taken_from_start l ss n c p = record {
  group_is =
      ap₂ (λ (rs : List KeptRest) (fs : List KeptFragment). flat_map (λ r. kept_in l r.index r.pair c) rs ++ fs) (entering_each l 0 ss c) (kept_each l n (drop n ss) c)
      ∙ ap (λ (k : ℕ). flat_map (λ r. kept_in l r.index r.pair c) (each (λ j s. entering_in l j s c) 0 ss) ++ each (λ j s. kept_in l j s c) k (drop n ss)) (let e : n ≡ 0 + n = omega arith in e)
      ∙ each-through l c (λ j s. kept_in l j s c) (λ j s h. own_kept l c j s h) (λ j s h. entering_none l c j s h) 0 ss n p.before p.after
      ∙ sym (kept_each l 0 ss c);
  rests_is =
      ap₂ (λ (rs : List KeptRest) (more : List KeptRest). flat_map (λ r. entering_in l r.index r.pair (c + 1)) rs ++ more) (entering_each l 0 ss c) (entering_each l n (drop n ss) (c + 1))
      ∙ ap (λ (k : ℕ). flat_map (λ r. entering_in l r.index r.pair (c + 1)) (each (λ j s. entering_in l j s c) 0 ss) ++ each (λ j s. entering_in l j s (c + 1)) k (drop n ss)) (let e : n ≡ 0 + n = omega arith in e)
      ∙ each-through l c (λ j s. entering_in l j s (c + 1)) (λ j s h. own_entering l c j s h) (λ j s h. entering_none l c j s h) 0 ss n p.before p.after
      ∙ sym (entering_each l 0 ss (c + 1));
}

pub taken_from_more : (l : Layout) (ss : List Pair) (n c : ℕ) (r : KeptRest) (left now : List KeptRest) (group group' : List KeptFragment) (rests rests' : List KeptRest) → IsTakenFrom l ss n c now group rests → now ≡ r ∷ left →
    group' ≡ group ++ kept_in l r.index r.pair c → rests' ≡ rests ++ entering_in l r.index r.pair (c + 1) → IsTakenFrom l ss n c left group' rests'
taken_from_more l ss n c r left now group group' rests rests' w e g h = record {
  group_is =
      ap (λ (fs : List KeptFragment). fs ++ (flat_map (λ r. kept_in l r.index r.pair c) left ++ kept_group l n (drop n ss) c)) g
      ∙ append_assoc group (kept_in l r.index r.pair c) (flat_map (λ r. kept_in l r.index r.pair c) left ++ kept_group l n (drop n ss) c)
      ∙ ap (λ (fs : List KeptFragment). group ++ fs) (sym (append_assoc (kept_in l r.index r.pair c) (flat_map (λ r. kept_in l r.index r.pair c) left) (kept_group l n (drop n ss) c)))
      ∙ subst (λ (rs : List KeptRest). group ++ (flat_map (λ r. kept_in l r.index r.pair c) rs ++ kept_group l n (drop n ss) c) ≡ kept_group l 0 ss c) e w.group_is;
  rests_is =
      ap (λ (rs : List KeptRest). rs ++ (flat_map (λ r. entering_in l r.index r.pair (c + 1)) left ++ entering l n (drop n ss) (c + 1))) h
      ∙ append_assoc rests (entering_in l r.index r.pair (c + 1)) (flat_map (λ r. entering_in l r.index r.pair (c + 1)) left ++ entering l n (drop n ss) (c + 1))
      ∙ ap (λ (rs : List KeptRest). rests ++ rs) (sym (append_assoc (entering_in l r.index r.pair (c + 1)) (flat_map (λ r. entering_in l r.index r.pair (c + 1)) left) (entering l n (drop n ss) (c + 1))))
      ∙ subst (λ (rs : List KeptRest). rests ++ (flat_map (λ r. entering_in l r.index r.pair (c + 1)) rs ++ entering l n (drop n ss) (c + 1)) ≡ entering l 0 ss (c + 1)) e w.rests_is;
}

pub taken_start : (l : Layout) (ss : List Pair) (n c : ℕ) (left : List KeptRest) (group : List KeptFragment) (rests : List KeptRest) → AreParted l ss n c → IsTakenFrom l ss n c left group rests → left ≡ [] → IsTaken l ss n c group rests
taken_start l ss n c left group rests p w e = record {
  before = AllByRecursion-weaker (λ s. column_index l s.a.x < c) (λ s. column_index l s.a.x < c + 1) (λ s h. omega arith) (take n ss) p.before;
  after = p.after;
  group_is = subst (λ (rs : List KeptRest). group ++ (flat_map (λ r. kept_in l r.index r.pair c) rs ++ kept_group l n (drop n ss) c) ≡ kept_group l 0 ss c) e w.group_is;
  rests_is = subst (λ (rs : List KeptRest). rests ++ (flat_map (λ r. entering_in l r.index r.pair (c + 1)) rs ++ entering l n (drop n ss) (c + 1)) ≡ entering l 0 ss (c + 1)) e w.rests_is;
}

-- one more of the front of a list
front_more : (P : Pair → Type 0) (n : ℕ) (ss : List Pair) (s : Pair) (rest : List Pair) → AllByRecursion P (take n ss) → drop n ss ≡ s ∷ rest → P s → AllByRecursion P (take (n + 1) ss)
front_more P zero [] s rest h e p = tt
front_more P zero (x ∷ ss) s rest h e p = (subst P (let f : s ≡ x = cc in f) p, tt)
front_more P (suc n) [] s rest h e p = subst (λ (k : ℕ). AllByRecursion P (take k [])) (let f : suc (n + 1) ≡ suc n + 1 = omega arith in f) tt
front_more P (suc n) (x ∷ ss) s rest h e p = subst (λ (k : ℕ). AllByRecursion P (take k (x ∷ ss))) (let f : suc (n + 1) ≡ suc n + 1 = omega arith in f) (h.0, front_more P n ss s rest h.1 e p)

enter_more : (l : Layout) (index : ℕ) (s : Pair) (ps : List Pair) (old next total : List KeptRest) (column : ℕ) → drop index ps ≡ s ∷ drop (index + 1) ps → next ≡ old ++ entering_in l index s column →
    old ++ entering l index (drop index ps) column ≡ total → next ++ entering l (index + 1) (drop (index + 1) ps) column ≡ total
unfolding entering
enter_more l index s ps old next total column d n h =
    let start = rw d at h in
    ap (λ (list : List KeptRest). list ++ entering l (index + 1) (drop (index + 1) ps) column) n
    ∙ append_assoc old (entering_in l index s column) (entering l (index + 1) (drop (index + 1) ps) column) ∙ start

pub taken_more : (l : Layout) (ss : List Pair) (n c : ℕ) (s : Pair) (group group' : List KeptFragment) (rests rests' : List KeptRest) → IsTaken l ss n c group rests → drop n ss ≡ s ∷ drop (n + 1) ss → column_index l s.a.x ≤ c →
    group' ≡ group ++ kept_in l n s c → rests' ≡ rests ++ entering_in l n s (c + 1) → IsTaken l ss (n + 1) c group' rests'
taken_more l ss n c s group group' rests rests' w d up g h = record {
  before = front_more (λ s. column_index l s.a.x < c + 1) n ss s (drop (n + 1) ss) w.before d (omega arith);
  after = (subst (AllByRecursion (λ s. c ≤ column_index l s.a.x)) d w.after).1;
  group_is = fill_more l l n s s ss group group' (kept_group l 0 ss c) c refl refl d g w.group_is;
  rests_is = enter_more l n s ss rests rests' (entering l 0 ss (c + 1)) (c + 1) d h w.rests_is;
}

-- the first in a list of those that begin in a column
pub first_in : (l : Layout) (ss : List Pair) (n c : ℕ) (s : Pair) (rest : List Pair) (group : List KeptFragment) (rests : List KeptRest) → IsTaken l ss n c group rests → drop n ss ≡ s ∷ rest → c ≤ column_index l s.a.x
first_in l ss n c s rest group rests w d = (subst (AllByRecursion (λ s. c ≤ column_index l s.a.x)) d w.after).0

none_kept : (l : Layout) (c i : ℕ) (ss : List Pair) → AllByRecursion (λ s. c + 1 ≤ column_index l s.a.x) ss → kept_group l i ss c ≡ []
none_kept l c i ss h = kept_each l i ss c ∙ each-none (λ j s. kept_in l j s c) (λ s. c + 1 ≤ column_index l s.a.x) (λ j s k. kept_before l j s c (omega arith)) i ss h

pub none_enter : (l : Layout) (c i : ℕ) (ss : List Pair) → AllByRecursion (λ s. c ≤ column_index l s.a.x) ss → entering l i ss c ≡ []
none_enter l c i ss h = entering_each l i ss c ∙ each-none (λ j s. entering_in l j s c) (λ s. c ≤ column_index l s.a.x) (λ j s k. entering_none l c j s k) i ss h

-- the walk that has come to the first that begins right of the column, or past it
pub taken_all : (l : Layout) (ss : List Pair) (n until c : ℕ) (group : List KeptFragment) (rests : List KeptRest) → IsTaken l ss n c group rests → AreParted l ss until (c + 1) → until ≤ n → (group ≡ kept_group l 0 ss c) × (rests ≡ entering l 0 ss (c + 1))
taken_all l ss n until c group rests w p le =
    let h = AllByRecursion-drop_later (λ s. c + 1 ≤ column_index l s.a.x) until n ss le p.after in (
      sym (append-nil group) ∙ ap (λ (fs : List KeptFragment). group ++ fs) (sym (none_kept l c n (drop n ss) h)) ∙ w.group_is,
      sym (append-nil rests) ∙ ap (λ (rs : List KeptRest). rests ++ rs) (sym (none_enter l (c + 1) n (drop n ss) h)) ∙ w.rests_is,
    )
