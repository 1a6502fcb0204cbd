-- The walk over the columns that a segment enters: what is added to each group.
use Rattle.std.proofs.Common.{◌≡◌, refl, sym, ap, ap₂, subst, ℕ, zero, suc, ◌+◌, ◌-◌, ◌<◌, ◌≤◌, ◌==◌, ◌∙◌, arith, append_assoc, append-nil, Bool, true, false, if◌then◌else◌, IsTrue, List, [], ◌∷◌, ◌++◌, map, not, Result, Ok, Err, OnOk, IfOk}
use Rattle.std.specs.Prelude.{ℤ, pos, ◌-ℤ◌, ◌+ℤ◌, ◌≤ℤ◌, ◌<ℤ◌, unsigned_abs}
use Rattle.std.specs.Int.{int_min, int_max}
use Rattle.std.specs.List.{range_with_len}
use Rattle.std.proofs.lemmas.Int.{ints, clamps, by_lt_z}
use Rattle.std.proofs.lemmas.List.{map-append}
use Rattle.std.proofs.lemmas.List.Elements.{filter-append}
use Rattle.overlay_geometry.specs.Points.{Point, Pair, is_vertical}
use Rattle.overlay_geometry.specs.Ranges.{Rect}
use Rattle.overlay_grid.specs.Grid.{Layout, Fragment, column_index, pos_of, group_count, rect_between, toward, least_rise, greatest_rise, fragment_in, fragments}
use Rattle.overlay_grid.specs.FragmentOf.{KeptFragment, kept, in_column, kept_in}
use Rattle.overlay_grid.proofs.laws.grid.GridColumns.{pos_of-column_index, pos_of-column_index_next, pos_of-monotone, column_index-monotone, less_to}
use Rattle.overlay_grid.proofs.laws.grid.GridFragments.{RunsRight, RunsRight-not_vertical, left_in, right_in, fragments_flat, column_count, column_count-end, toward_up, toward_down, abs_neg, max_right, min_left, fragment_in-column}
use Rattle.overlay_grid.proofs.laws.grid.GridBounds.{least_rise-at_a, greatest_rise-at_b}
use Rattle.overlay_geometry.proofs.laws.integers.Tests.{le_weak, le_through, lt_through, lt_before}
use Rattle.overlay_geometry.proofs.laws.integers.Products.{abs_nonneg}

-- a fragment, as it is added to the group of its column
abbrev pub added_to : ℕ → ℕ → Pair → Rect → ℕ → List KeptFragment
added_to column index s rect other = if column == other then (let part : KeptFragment = record { index = index; pair = s; rect = rect } in part) ∷ [] else []

-- the fragments in so many columns from the first on
abbrev pub parts : Layout → Pair → ℕ → List Fragment
parts l s n = map (λ i. fragment_in l s i) (range_with_len (column_index l s.a.x) n)

pub range-more : (a n : ℕ) → range_with_len a (n + 1) ≡ range_with_len a n ++ (a + n) ∷ []
range-more a zero = ap (λ (k : ℕ). k ∷ []) (omega arith)
range-more a (suc n) = ap (range_with_len a) (let e : suc n + 1 ≡ suc (n + 1) = omega arith in e) ∙ ap (λ (ks : List ℕ). a ∷ ks) (range-more (a + 1) n ∙ ap (λ (k : ℕ). range_with_len (a + 1) n ++ k ∷ []) (omega arith))

parts-more : (l : Layout) (s : Pair) (n : ℕ) → parts l s (n + 1) ≡ parts l s n ++ fragment_in l s (column_index l s.a.x + n) ∷ []
parts-more l s n =
    ap (λ (ks : List ℕ). map (λ i. fragment_in l s i) ks) (range-more (column_index l s.a.x) n)
    ∙ map-append (λ i. fragment_in l s i) (range_with_len (column_index l s.a.x) n) ((column_index l s.a.x + n) ∷ [])

kept-append : (index : ℕ) (s : Pair) (fs gs : List Fragment) → kept index s (fs ++ gs) ≡ kept index s fs ++ kept index s gs
kept-append index s fs gs = map-append (λ f. let made : KeptFragment = record { index = index; pair = s; rect = f.rect } in made) fs gs

pick_kept : (index : ℕ) (s : Pair) (f : Fragment) (b : Bool) → kept index s (if b then f ∷ [] else []) ≡ (if b then (let part : KeptFragment = record { index = index; pair = s; rect = f.rect } in part) ∷ [] else [])
pick_kept index s f true = refl
pick_kept index s f false = refl

pub one_kept : (index : ℕ) (s : Pair) (f : Fragment) (rect : Rect) (k other : ℕ) → f.column ≡ k → f.rect ≡ rect → kept index s (in_column other (f ∷ [])) ≡ added_to k index s rect other
one_kept index s f rect k other e r =
    pick_kept index s f (f.column == other)
    ∙ ap₂ (λ (j : ℕ) (box : Rect). if j == other then (let part : KeptFragment = record { index = index; pair = s; rect = box } in part) ∷ [] else []) e r

kept_parts-more : (l : Layout) (s : Pair) (index n other : ℕ) → kept index s (in_column other (parts l s (n + 1))) ≡ kept index s (in_column other (parts l s n)) ++ kept index s (in_column other (fragment_in l s (column_index l s.a.x + n) ∷ []))
kept_parts-more l s index n other =
    ap (λ (fs : List Fragment). kept index s (in_column other fs)) (parts-more l s n)
    ∙ ap (kept index s) (filter-append (λ f. f.column == other) (parts l s n) (fragment_in l s (column_index l s.a.x + n) ∷ []))
    ∙ kept-append index s (in_column other (parts l s n)) (in_column other (fragment_in l s (column_index l s.a.x + n) ∷ []))

-- ---- the walk

-- where it is at a column: the corner at its left border, and what was added
pub record IsAdding (l : Layout) (index : ℕ) (s : Pair) (old now : ℕ → List KeptFragment) (corner : Point) (k : ℕ) : Type 0 where
  pub from : column_index l s.a.x ≤ k
  pub x : corner.x ≡ left_in l s k
  pub y : corner.y ≡ toward s (least_rise s (left_in l s k))
  pub groups : (other : ℕ) → now other ≡ old other ++ kept index s (in_column other (parts l s (k - column_index l s.a.x)))

max_is_left : (u v : ℤ) → v ≤ℤ u → u ≡ int_max u v
max_is_left u v h = omega (arith, ints, clamps)

min_is_right : (u v : ℤ) → v ≤ℤ u → int_min u v ≡ v
min_is_right u v h = omega (arith, ints, clamps)

toward_none : (s : Pair) → toward s 0 ≡ s.a.y
toward_none s = by_lt_z s.b.y s.a.y
    (λ falls. toward_down s 0 falls ∙ (let e : s.a.y -ℤ pos 0 ≡ s.a.y = omega (arith, ints) in e))
    (λ climbs. toward_up s 0 climbs ∙ (let e : s.a.y +ℤ pos 0 ≡ s.a.y = omega (arith, ints) in e))

toward_all : (s : Pair) → toward s (unsigned_abs (s.b.y -ℤ s.a.y)) ≡ s.b.y
toward_all s = by_lt_z s.b.y s.a.y
    (λ (falls : s.b.y <ℤ s.a.y). toward_down s _ falls ∙ (let f = abs_neg (s.b.y -ℤ s.a.y) (omega (arith, ints)) in let e : s.a.y -ℤ pos (unsigned_abs (s.b.y -ℤ s.a.y)) ≡ s.b.y = omega (arith, ints) in e))
    (λ (climbs : s.a.y ≤ℤ s.b.y). toward_up s _ climbs ∙ (let f = abs_nonneg (s.b.y -ℤ s.a.y) (omega (arith, ints)) in let e : s.a.y +ℤ pos (unsigned_abs (s.b.y -ℤ s.a.y)) ≡ s.b.y = omega (arith, ints) in e))

none_yet : (l : Layout) (s : Pair) (index other : ℕ) → [] ≡ kept index s (in_column other (parts l s (column_index l s.a.x - column_index l s.a.x)))
none_yet l s index other = ap (λ (n : ℕ). kept index s (in_column other (parts l s n))) (let e : 0 ≡ column_index l s.a.x - column_index l s.a.x = omega arith in e)

pub IsAdding-start : (l : Layout) (index : ℕ) (s : Pair) (old : ℕ → List KeptFragment) → RunsRight s → l.min_x ≤ℤ s.a.x → IsAdding l index s old old s.a (column_index l s.a.x)
IsAdding-start l index s old r h =
    let x = max_is_left s.a.x (pos_of l (column_index l s.a.x)) (pos_of-column_index l s.a.x h) in
    record {
      from = omega arith;
      x = x;
      y = sym (ap (λ (z : ℤ). toward s (least_rise s z)) (sym x) ∙ ap (toward s) (least_rise-at_a s r) ∙ toward_none s);
      groups = λ other. sym (append-nil (old other)) ∙ ap (λ (list : List KeptFragment). old other ++ list) (none_yet l s index other);
    }

-- where the fragment of a segment in its first column begins
pub first_corner : (l : Layout) (s : Pair) → RunsRight s → l.min_x ≤ℤ s.a.x → s.a ≡ (let corner : Point = record { x = left_in l s (column_index l s.a.x); y = toward s (least_rise s (left_in l s (column_index l s.a.x))) } in corner)
first_corner l s r h =
    let x = max_is_left s.a.x (pos_of l (column_index l s.a.x)) (pos_of-column_index l s.a.x h) in
    ap₂ (λ (u v : ℤ). let corner : Point = record { x = u; y = v } in corner) x (sym (ap (λ (z : ℤ). toward s (least_rise s z)) (sym x) ∙ ap (toward s) (least_rise-at_a s r) ∙ toward_none s))

fragment_in-rect : (l : Layout) (s : Pair) (k : ℕ) (corner : Point) (x y : ℤ) → corner.x ≡ left_in l s k → corner.y ≡ toward s (least_rise s (left_in l s k)) → x ≡ right_in l s k → y ≡ toward s (greatest_rise s (right_in l s k)) →
    (fragment_in l s k).rect ≡ rect_between corner.x corner.y x y
unfolding fragment_in
fragment_in-rect l s k corner x y a b c d = rw (a, b, c, d) refl

next_count : (a k : ℕ) → a ≤ k → k + 1 - a ≡ (k - a) + 1
next_count a k h = omega arith

here_again : (a k : ℕ) → a ≤ k → a + (k - a) ≡ k
here_again a k h = omega arith

-- one more fragment is added
groups_more : (l : Layout) (index : ℕ) (s : Pair) (old now next : ℕ → List KeptFragment) (corner : Point) (k : ℕ) (rect : Rect) → IsAdding l index s old now corner k → (fragment_in l s k).rect ≡ rect →
    ((other : ℕ) → next other ≡ now other ++ added_to k index s rect other) → (other : ℕ) → next other ≡ old other ++ kept index s (in_column other (parts l s (k + 1 - column_index l s.a.x)))
groups_more l index s old now next corner k rect w e n other =
    let first : ℕ = column_index l s.a.x in
    let before : List KeptFragment = kept index s (in_column other (parts l s (k - first))) in
    let one : kept index s (in_column other (fragment_in l s (first + (k - first)) ∷ [])) ≡ added_to k index s rect other =
    ap (λ (j : ℕ). kept index s (in_column other (fragment_in l s j ∷ []))) (here_again first k w.from) ∙ one_kept index s (fragment_in l s k) rect k other (fragment_in-column l s k) e in
    n other ∙ ap (λ (list : List KeptFragment). list ++ added_to k index s rect other) (w.groups other) ∙ append_assoc (old other) before (added_to k index s rect other)
    ∙ ap (λ (list : List KeptFragment). old other ++ list)
    (ap (λ (list : List KeptFragment). before ++ list) (sym one) ∙ sym (kept_parts-more l s index (k - first) other)
    ∙ ap (λ (m : ℕ). kept index s (in_column other (parts l s m))) (sym (next_count first k w.from)))

-- the fragment in a column that the segment leaves through the right border
pub inner_rect : (l : Layout) (s : Pair) (k : ℕ) (corner : Point) (x far : ℤ) → RunsRight s → l.min_x ≤ℤ s.a.x → column_index l s.a.x ≤ k → k < column_index l (s.b.x -ℤ pos 1) → corner.x ≡ left_in l s k → corner.y ≡ toward s (least_rise s (left_in l s k)) →
    x ≡ pos_of l (k + 1) → far ≡ toward s (greatest_rise s x) → (fragment_in l s k).rect ≡ rect_between corner.x corner.y x far
inner_rect l s k corner x far r h from lt cx cy e f =
    let up_to_last = pos_of-monotone l (k + 1) (column_index l (s.b.x -ℤ pos 1)) (omega arith) in
    let at_last = pos_of-column_index l (s.b.x -ℤ pos 1) (less_to l.min_x s.a.x s.b.x h r.forward) in
    let before_b : pos_of l (k + 1) ≤ℤ s.b.x = (let m = le_through _ _ _ up_to_last at_last in let o : (s.b.x -ℤ pos 1) ≤ℤ s.b.x = omega (arith, ints) in le_through _ _ _ m o) in
    let right : pos_of l (k + 1) ≡ right_in l s k = sym (min_is_right s.b.x (pos_of l (k + 1)) before_b) in
    fragment_in-rect l s k corner x far cx cy (e ∙ right) (f ∙ ap (λ (z : ℤ). toward s (greatest_rise s z)) (e ∙ right))

-- where the next one begins
pub next_left : (l : Layout) (s : Pair) (k : ℕ) → l.min_x ≤ℤ s.a.x → column_index l s.a.x ≤ k → pos_of l (k + 1) ≡ left_in l s (k + 1)
next_left l s k h from =
    let after_first = pos_of-monotone l (column_index l s.a.x + 1) (k + 1) (omega arith) in
    let past_a = pos_of-column_index_next l s.a.x h in
    sym (max_right s.a.x (pos_of l (k + 1)) (le_weak _ _ (lt_through _ _ _ past_a after_first)))

-- the fragment in the last column
pub last_rect : (l : Layout) (s : Pair) (k : ℕ) (corner : Point) → RunsRight s → l.min_x ≤ℤ s.a.x → k ≡ column_index l (s.b.x -ℤ pos 1) → corner.x ≡ left_in l s k → corner.y ≡ toward s (least_rise s (left_in l s k)) →
    (fragment_in l s k).rect ≡ rect_between corner.x corner.y s.b.x s.b.y
last_rect l s k corner r h last cx cy =
    let past_b = pos_of-column_index_next l (s.b.x -ℤ pos 1) (less_to l.min_x s.a.x s.b.x h r.forward) in
    let b_first : s.b.x ≤ℤ pos_of l (k + 1) = subst (λ (j : ℕ). s.b.x ≤ℤ pos_of l (j + 1)) (sym last) (let m : s.b.x ≤ℤ pos_of l (column_index l (s.b.x -ℤ pos 1) + 1) = omega (arith, ints) in m) in
    let right : s.b.x ≡ right_in l s k = sym (min_left s.b.x (pos_of l (k + 1)) b_first) in
    let top : s.b.y ≡ toward s (greatest_rise s s.b.x) = sym (ap (toward s) (greatest_rise-at_b s r) ∙ toward_all s) in
    fragment_in-rect l s k corner s.b.x s.b.y cx cy right (top ∙ ap (λ (z : ℤ). toward s (greatest_rise s z)) right)

pub IsAdding-more : (l : Layout) (index : ℕ) (s : Pair) (old now next : ℕ → List KeptFragment) (corner corner' : Point) (k : ℕ) (far : ℤ) (rect : Rect) → RunsRight s → l.min_x ≤ℤ s.a.x →
    IsAdding l index s old now corner k → k < column_index l (s.b.x -ℤ pos 1) → corner'.x ≡ pos_of l (k + 1) → corner'.y ≡ toward s (least_rise s corner'.x) → far ≡ toward s (greatest_rise s corner'.x) →
    rect ≡ rect_between corner.x corner.y corner'.x far → ((other : ℕ) → next other ≡ now other ++ added_to k index s rect other) → IsAdding l index s old next corner' (k + 1)
IsAdding-more l index s old now next corner corner' k far rect r h w lt x y f e n =
    let left = next_left l s k h w.from in
    let box = inner_rect l s k corner corner'.x far r h w.from lt w.x w.y x f in
    record {
      from = (let m = w.from in omega arith);
      x = x ∙ left;
      y = y ∙ ap (λ (z : ℤ). toward s (least_rise s z)) (x ∙ left);
      groups = groups_more l index s old now next corner k rect w (box ∙ sym e) n;
    }

all_columns : (a k n : ℕ) → a ≤ k → a + n ≡ k + 1 → k + 1 - a ≡ n
all_columns a k n h e = omega arith

pub IsAdding-end : (l : Layout) (index : ℕ) (s : Pair) (old now next : ℕ → List KeptFragment) (corner : Point) (k : ℕ) (rect : Rect) → RunsRight s → l.min_x ≤ℤ s.a.x →
    IsAdding l index s old now corner k → k ≡ column_index l (s.b.x -ℤ pos 1) → rect ≡ rect_between corner.x corner.y s.b.x s.b.y → ((other : ℕ) → next other ≡ now other ++ added_to k index s rect other) →
    (other : ℕ) → next other ≡ old other ++ kept_in l index s other
IsAdding-end l index s old now next corner k rect r h w last e n other =
    let box = last_rect l s k corner r h last w.x w.y in
    groups_more l index s old now next corner k rect w (box ∙ sym e) n other
    ∙ ap (λ (list : List KeptFragment). old other ++ list)
    (ap (λ (m : ℕ). kept index s (in_column other (parts l s m))) (all_columns (column_index l s.a.x) k (column_count l s) w.from (column_count-end l s r h ∙ ap (λ (j : ℕ). j + 1) (sym last)))
    ∙ ap (λ (fs : List Fragment). kept index s (in_column other fs)) (sym (fragments_flat l s (RunsRight-not_vertical s r))))

-- ---- a vertical segment

pub fragments_of_vertical : (l : Layout) (s : Pair) → IsTrue (is_vertical s) → fragments l s ≡ (let part : Fragment = record { column = column_index l s.a.x; rect = rect_between s.a.x s.a.y s.b.x s.b.y } in part) ∷ []
unfolding fragments
fragments_of_vertical l s v = by (is_vertical s) v
  where
    by : (b : Bool) → IsTrue b → (if b then (let part : Fragment = record { column = column_index l s.a.x; rect = rect_between s.a.x s.a.y s.b.x s.b.y } in part) ∷ []
        else map (λ i. fragment_in l s i) (range_with_len (column_index l s.a.x) (column_index l (s.b.x -ℤ pos 1) + 1 - column_index l s.a.x))) ≡ (let part : Fragment = record { column = column_index l s.a.x; rect = rect_between s.a.x s.a.y s.b.x s.b.y } in part) ∷ []
    by true h = refl
    by false h = cc

pub added_vertical : (l : Layout) (index : ℕ) (s : Pair) (old next : ℕ → List KeptFragment) → IsTrue (is_vertical s) →
    ((other : ℕ) → next other ≡ old other ++ added_to (column_index l s.a.x) index s (rect_between s.a.x s.a.y s.b.x s.b.y) other) → (other : ℕ) → next other ≡ old other ++ kept_in l index s other
added_vertical l index s old next v n other =
    n other ∙ ap (λ (list : List KeptFragment). old other ++ list)
    (sym (one_kept index s (record { column = column_index l s.a.x; rect = rect_between s.a.x s.a.y s.b.x s.b.y }) (rect_between s.a.x s.a.y s.b.x s.b.y) (column_index l s.a.x) other refl refl)
    ∙ ap (λ (fs : List Fragment). kept index s (in_column other fs)) (sym (fragments_of_vertical l s v)))

-- ---- what the code's tests show

pub runs_forward : (s : Pair) → not (is_vertical s) ≡ true → s.a.x ≤ℤ s.b.x → RunsRight s
runs_forward s v h = record { forward = by_lt_z s.a.x s.b.x (λ less. less) (λ more. absurd (grind (arith, ints))) }

pub vertical_from : (s : Pair) → not (is_vertical s) ≡ false → IsTrue (is_vertical s)
vertical_from s v = grind arith

pub column_within : (l : Layout) (x : ℤ) (n : ℕ) → l.min_x ≤ℤ x → x ≤ℤ l.max_x → n ≡ group_count l → column_index l x < n
column_within l x n h k e = let m = column_index-monotone l x l.max_x h k in omega arith

pub column_before_within : (l : Layout) (s : Pair) (n k : ℕ) → RunsRight s → l.min_x ≤ℤ s.a.x → s.b.x ≤ℤ l.max_x → n ≡ group_count l → k ≤ column_index l (s.b.x -ℤ pos 1) → k < n
column_before_within l s n k r h m e lt =
    let i = column_index-monotone l (s.b.x -ℤ pos 1) l.max_x (less_to l.min_x s.a.x s.b.x h r.forward) (le_through (s.b.x -ℤ pos 1) s.b.x l.max_x (omega (arith, ints)) m) in
    omega arith

pub next_within : (l : Layout) (s : Pair) (k : ℕ) → RunsRight s → l.min_x ≤ℤ s.a.x → s.b.x ≤ℤ l.max_x → k < column_index l (s.b.x -ℤ pos 1) → k + 1 ≤ column_index l l.max_x
next_within l s k r h m lt =
    let i = column_index-monotone l (s.b.x -ℤ pos 1) l.max_x (less_to l.min_x s.a.x s.b.x h r.forward) (le_through (s.b.x -ℤ pos 1) s.b.x l.max_x (omega (arith, ints)) m) in
    omega arith

-- an inner border lies between the ends
pub border_between : (l : Layout) (s : Pair) (k : ℕ) → RunsRight s → l.min_x ≤ℤ s.a.x → column_index l s.a.x ≤ k → k < column_index l (s.b.x -ℤ pos 1) → (s.a.x ≤ℤ pos_of l (k + 1)) × (pos_of l (k + 1) ≤ℤ s.b.x)
border_between l s k r h from lt =
    let after_first = pos_of-monotone l (column_index l s.a.x + 1) (k + 1) (omega arith) in
    let past_a = pos_of-column_index_next l s.a.x h in
    let up_to_last = pos_of-monotone l (k + 1) (column_index l (s.b.x -ℤ pos 1)) (omega arith) in
    let at_last = pos_of-column_index l (s.b.x -ℤ pos 1) (less_to l.min_x s.a.x s.b.x h r.forward) in
    (le_weak _ _ (lt_through _ _ _ past_a after_first), le_through _ _ _ (le_through _ _ _ up_to_last at_last) (let o : (s.b.x -ℤ pos 1) ≤ℤ s.b.x = omega (arith, ints) in o))

pub on_ok : {X E : Type 0} (r : Result X E) (P Q : Type 0) → (P → Q) → OnOk r P → OnOk r Q
on_ok (Ok x) P Q f h = f h
on_ok (Err e) P Q f h = h

-- a fragment as code adds it
pub as_added : (column k index : ℕ) (s : Pair) (rect : Rect) (f : KeptFragment) (other : ℕ) → column ≡ k → f ≡ (let part : KeptFragment = record { index = index; pair = s; rect = rect } in part) → (if column == other then f ∷ [] else []) ≡ added_to k index s rect other
as_added column k index s rect f other e p = ap₂ (λ (j : ℕ) (part : KeptFragment). if j == other then part ∷ [] else []) e p

pub first_to_last : (l : Layout) (s : Pair) → RunsRight s → l.min_x ≤ℤ s.a.x → column_index l s.a.x ≤ column_index l (s.b.x -ℤ pos 1)
first_to_last l s r h = column_index-monotone l s.a.x (s.b.x -ℤ pos 1) h (lt_before _ _ r.forward)

pub if_ok : {X E : Type 0} (r : Result X E) (P Q : X → Type 0) → ((x : X) → P x → Q x) → IfOk r P → IfOk r Q
if_ok (Ok x) P Q f h = f x h
if_ok (Err e) P Q f h = h
