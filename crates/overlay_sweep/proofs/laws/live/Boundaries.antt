-- An arrangement, cut before the segments that start at one point and after them.
use Rattle.std.proofs.Common.{◌≡◌, ap, refl, sym, subst, ◌∙◌, arith, inl, inr, get_or}
use Rattle.std.specs.Prelude.{ℕ, zero, suc, ◌+◌, ◌-◌, ◌<◌, ◌≤◌, pos, true, ◌⊎◌, List, [], ◌∷◌, ◌++◌, length, take, drop}
use Rattle.std.specs.List.{AllByRecursion}
use Rattle.std.proofs.lemmas.Int.{ints}
use Rattle.std.proofs.Math.Seq.{take-add}
use Rattle.std.proofs.lemmas.Bool.{and_parts, both_ways, or_left}
use Rattle.overlay_sweep.specs.ColumnWindings.{spans_column}
use Rattle.std.specs.List.{take-map, drop-map}
use Rattle.overlay_geometry.specs.Points.{Point, Pair, turn, point_lt, pair_cmp, pair_lt}
use Rattle.overlay_geometry.specs.Sorting.{is_strictly_sorted}
use Rattle.overlay_base.specs.Segments.{WholeSegment, pairs}
use Rattle.overlay_geometry.proofs.laws.lists.Lists.{AllByRecursion-weaker, AllByRecursion-map_out, AllByRecursion-from_list_all, AllByRecursion-at, AllByRecursion-from_Has, Has}
use Rattle.overlay_geometry.proofs.laws.geometry.Points.{from_before, pair_before, turn_same_outer, point_lt-trans, point_lt-irreflexive}
use Rattle.overlay_sweep.specs.ChainWindings.{is_live}
use Rattle.overlay_sweep.proofs.laws.columns.Members.{sorted_all, sorted_tail, IsArranged}
use Rattle.overlay_sweep.proofs.laws.live.Supports.{earlier-cases, earlier_beneath}
use Rattle.overlay_sweep.proofs.laws.columns.ColumnLines.{is_under}
use Rattle.overlay_sweep.proofs.laws.columns.Tops.{spans_live}
use Rattle.overlay_sweep.proofs.laws.live.DirectlyBelow.{lies_below}
use Rattle.overlay_geometry.proofs.laws.integers.Tests.{lt-tested}

-- ---- parts of lists

pub Has-take : {X : Type 0} (n : ℕ) (xs : List X) (x : X) → Has (take n xs) x → Has xs x
Has-take zero xs x m = absurd m
Has-take (suc n) [] x m = absurd m
Has-take (suc n) (y ∷ ys) x (inl e) = inl e
Has-take (suc n) (y ∷ ys) x (inr m) = inr (Has-take n ys x m)

pub Has-drop : {X : Type 0} (n : ℕ) (xs : List X) (x : X) → Has (drop n xs) x → Has xs x
Has-drop zero xs x m = m
Has-drop (suc n) [] x m = absurd m
Has-drop (suc n) (y ∷ ys) x m = inr (Has-drop n ys x m)

pub Has-cut : {X : Type 0} (n : ℕ) (xs : List X) (x : X) → Has xs x → Has (take n xs) x ⊎ Has (drop n xs) x
Has-cut zero xs x m = inr m
Has-cut (suc n) [] x m = absurd m
Has-cut (suc n) (y ∷ ys) x (inl e) = inl (inl e)
Has-cut (suc n) (y ∷ ys) x (inr m) = elim (Has-cut n ys x m) [ inl k ↦ inl (inr k) | inr k ↦ inr k ]

-- from places to a part of a list
pub block_all : {X : Type 0} (P : X → Type 0) (i n : ℕ) (xs : List X) → ((k : ℕ) (d : X) → i ≤ k → k < i + n → P (get_or xs k d)) → AllByRecursion P (take n (drop i xs))
block_all P zero zero xs h = tt
block_all P zero (suc n) [] h = tt
block_all P zero (suc n) (x ∷ xs) h = (h 0 x (omega arith) (omega arith), block_all P zero n xs (λ k d l m. h (suc k) d (omega arith) (omega (arith, m))))
block_all P (suc i) zero [] h = tt
block_all P (suc i) (suc n) [] h = tt
block_all P (suc i) n (x ∷ xs) h = block_all P i n xs (λ k d l m. h (suc k) d (omega (arith, l)) (omega (arith, m)))

pub drop_first : {X : Type 0} (n : ℕ) (xs : List X) (q : X) (qs : List X) → drop n xs ≡ q ∷ qs → (n < length xs) × ((d : X) → get_or xs n d ≡ q)
drop_first zero [] q qs e = absurd (cc)
drop_first zero (x ∷ xs) q qs e = (omega arith, λ d. cc)
drop_first (suc n) [] q qs e = absurd (cc)
drop_first (suc n) (x ∷ xs) q qs e = let k = drop_first n xs q qs e in (omega (arith, k.0), k.1)

-- ---- starts before and after a place

-- every segment before the place starts before every one from it on
abbrev pub IsBoundary : List WholeSegment → ℕ → Type 0
IsBoundary xs i = AllByRecursion (λ s. AllByRecursion (λ t. point_lt s.pair.a t.pair.a ≡ true) (drop i xs)) (take i xs)

sorted_cross : (n : ℕ) (xs : List WholeSegment) → is_strictly_sorted pair_cmp (pairs xs) ≡ true → (s t : WholeSegment) → Has (take n xs) s → Has (drop n xs) t → pair_lt s.pair t.pair ≡ true
sorted_cross zero xs o s t m k = absurd m
sorted_cross (suc n) [] o s t m k = absurd m
sorted_cross (suc n) (x ∷ xs) o s t (inl e) k = subst (λ (v : WholeSegment). pair_lt v.pair t.pair ≡ true) e (AllByRecursion-at (λ y. pair_lt x.pair y.pair ≡ true) xs t (AllByRecursion-from_list_all (λ y. pair_lt x.pair y.pair) xs (sorted_all x xs o)) (Has-drop n xs t k))
sorted_cross (suc n) (x ∷ xs) o s t (inr m) k = sorted_cross n xs (sorted_tail x xs o) s t m k

sorted_drop : (n : ℕ) (xs : List WholeSegment) → is_strictly_sorted pair_cmp (pairs xs) ≡ true → is_strictly_sorted pair_cmp (pairs (drop n xs)) ≡ true
sorted_drop zero xs o = o
sorted_drop (suc n) [] o = o
sorted_drop (suc n) (x ∷ xs) o = sorted_drop n xs (sorted_tail x xs o)

first_start : (s t : Pair) → pair_lt s t ≡ true → (point_lt s.a t.a ≡ true) ⊎ (s.a ≡ t.a)
first_start s t h = elim (pair_before s t h) [ inl b ↦ inl (from_before s.a t.a b) | inr e ↦ inr e.0 ]

-- the segments between two places start at p, those before earlier, those after later
pub record IsBlock (xs : List WholeSegment) (i next : ℕ) (p : Point) : Type 0 where
  pub early : AllByRecursion (λ s. point_lt s.pair.a p ≡ true) (take i xs)
  pub here : AllByRecursion (λ s. s.pair.a ≡ p) (take (next - i) (drop i xs))
  pub late : AllByRecursion (λ s. point_lt p s.pair.a ≡ true) (drop next xs)

module _ (xs : List WholeSegment) (arranged : IsArranged xs) where
  early_by_boundary : (i : ℕ) (u : WholeSegment) → Has (drop i xs) u → IsBoundary xs i → AllByRecursion (λ s. point_lt s.pair.a u.pair.a ≡ true) (take i xs)
  early_by_boundary i u m b = AllByRecursion-weaker (λ s. AllByRecursion (λ t. point_lt s.pair.a t.pair.a ≡ true) (drop i xs)) (λ s. point_lt s.pair.a u.pair.a ≡ true) (λ s a. AllByRecursion-at (λ t. point_lt s.pair.a t.pair.a ≡ true) (drop i xs) u a m) (take i xs) b

  -- one that starts at p, and a first later one that does not
  late_from_first : (p : Point) (u q : WholeSegment) (qs : List WholeSegment) → u.pair.a ≡ p → pair_lt u.pair q.pair ≡ true → (q.pair.a ≡ p → ⊥) → is_strictly_sorted pair_cmp (pairs (q ∷ qs)) ≡ true → (t : WholeSegment) → Has (q ∷ qs) t → point_lt p t.pair.a ≡ true
  late_from_first p u q qs e h n o t m =
      let start : point_lt p q.pair.a ≡ true = elim (first_start u.pair q.pair h) [ inl l ↦ subst (λ v. point_lt v q.pair.a ≡ true) e l | inr same ↦ absurd (n (sym same ∙ e)) ] in
      elim m [
        | inl same ↦ subst (λ (v : WholeSegment). point_lt p v.pair.a ≡ true) same start
        | inr later ↦ elim (first_start q.pair t.pair (sorted_cross 1 (q ∷ qs) o q t (inl refl) later)) [
          | inl l ↦ point_lt-trans p q.pair.a t.pair.a start l
          | inr same ↦ subst (λ v. point_lt p v ≡ true) same start
        ]
      ]

pub by_drop : {X P : Type 0} (n : ℕ) (xs : List X) → n < length xs → ((q : X) (qs : List X) → drop n xs ≡ q ∷ qs → P) → P
by_drop n [] h f = absurd (omega (arith, h))
by_drop zero (x ∷ xs) h f = f x xs refl
by_drop (suc n) (x ∷ xs) h f = by_drop n xs (omega (arith, h)) f

by_list : {X P : Type 0} (xs : List X) → (xs ≡ [] → P) → ((q : X) (qs : List X) → xs ≡ q ∷ qs → P) → P
by_list [] f g = f refl
by_list (x ∷ xs) f g = g x xs refl

Has-take_at : {X : Type 0} (i next : ℕ) (xs : List X) (q : X) (qs : List X) → drop i xs ≡ q ∷ qs → i < next → Has (take next xs) q
Has-take_at zero zero xs q qs e h = absurd (omega (arith, h))
Has-take_at zero (suc n) [] q qs e h = absurd (cc)
Has-take_at zero (suc n) (x ∷ xs) q qs e h = inl (cc)
Has-take_at (suc i) zero xs q qs e h = absurd (omega (arith, h))
Has-take_at (suc i) (suc n) [] q qs e h = absurd (cc)
Has-take_at (suc i) (suc n) (x ∷ xs) q qs e h = inr (Has-take_at i n xs q qs e (omega (arith, h)))

Has-take_split : {X : Type 0} (i next : ℕ) (xs : List X) (x : X) → i ≤ next → Has (take next xs) x → Has (take i xs) x ⊎ Has (take (next - i) (drop i xs)) x
Has-take_split zero next xs x h m = let same : next ≡ next - 0 = omega arith in inr (subst (λ n. Has (take n xs) x) same m)
Has-take_split (suc i) zero xs x h m = absurd m
Has-take_split (suc i) (suc n) [] x h m = absurd m
Has-take_split (suc i) (suc n) (y ∷ ys) x h (inl e) = inl (inl e)
Has-take_split (suc i) (suc n) (y ∷ ys) x h (inr m) = let same : suc n - suc i ≡ n - i = omega arith in elim (Has-take_split i n ys x (omega (arith, h)) m) [ inl k ↦ inl (inr k) | inr k ↦ inr (subst (λ j. Has (take j (drop i ys)) x) (sym same) k) ]

-- a list, cut at two places
pub cut_twice : {X : Type 0} (i next : ℕ) (xs : List X) → i ≤ next → take next xs ≡ take i xs ++ take (next - i) (drop i xs)
cut_twice i next xs h = let same : next ≡ i + (next - i) = omega (arith, h) in ap (λ n. take n xs) same ∙ take-add i (next - i) xs

not_before_itself : (p q : Point) → p ≡ q → point_lt p q ≡ true → ⊥
not_before_itself p q e h = both_ways (point_lt q q) (point_lt-irreflexive q) (subst (λ v. point_lt v q ≡ true) e h)

module _ (xs : List WholeSegment) (arranged : IsArranged xs) (i next : ℕ) (p : Point) (order : i < next) where
  block_here : ((k : ℕ) (d : Pair) → i ≤ k → k < next → (get_or (pairs xs) k d).a ≡ p) → AllByRecursion (λ s. s.pair.a ≡ p) (take (next - i) (drop i xs))
  block_here same =
      let all = block_all (λ (q : Pair). q.a ≡ p) i (next - i) (pairs xs) (λ k d h l. same k d h (omega (arith, l, order))) in
      AllByRecursion-map_out (λ (q : Pair). q.a ≡ p) (λ (s : WholeSegment). s.pair) (take (next - i) (drop i xs))
      (subst (λ l. AllByRecursion (λ (q : Pair). q.a ≡ p) l) (ap (take (next - i)) (drop-map (λ (s : WholeSegment). s.pair) i xs) ∙ take-map (λ (s : WholeSegment). s.pair) (next - i) (drop i xs)) all)

  -- what the end of the segments at one start point shows
  pub block_from_point : next ≤ length xs → IsBoundary xs i → ((k : ℕ) (d : Pair) → i ≤ k → k < next → (get_or (pairs xs) k d).a ≡ p) → ((d : Pair) → next < length xs → (get_or (pairs xs) next d).a ≡ p → ⊥) → IsBlock xs i next p
  block_from_point within bound same other =
      by_drop i xs (omega (arith, within, order)) (λ u us e.
      let m : Has (drop i xs) u = subst (λ l. Has l u) (sym e) (inl refl) in
      let first : u.pair.a ≡ p = ap (λ (q : Pair). q.a) (sym (pair_of_first i xs u us e u.pair)) ∙ same i u.pair (omega arith) order in
      record {
        early = subst (λ v. AllByRecursion (λ s. point_lt s.pair.a v ≡ true) (take i xs)) first (early_by_boundary xs arranged i u m bound);
        here = block_here same;
        late = by_list (drop next xs) (λ f. subst (λ l. AllByRecursion (λ s. point_lt p s.pair.a ≡ true) l) (sym f) tt) (λ q qs f.
            subst (λ l. AllByRecursion (λ s. point_lt p s.pair.a ≡ true) l) (sym f)
            (AllByRecursion-from_Has (λ s. point_lt p s.pair.a ≡ true) (q ∷ qs) (late_from_first xs arranged p u q qs first
            (sorted_cross next xs arranged.sorted u q (Has-take_at i next xs u us e order) (subst (λ l. Has l q) (sym f) (inl refl)))
            (λ same_start. other q.pair (drop_first next xs q qs f).0 (ap (λ (s : Pair). s.a) (pair_of_first next xs q qs f q.pair) ∙ same_start))
            (subst (λ l. is_strictly_sorted pair_cmp (pairs l) ≡ true) f (sorted_drop next xs arranged.sorted)))));
      })
    where
      pair_of_first : (n : ℕ) (ys : List WholeSegment) (q : WholeSegment) (qs : List WholeSegment) → drop n ys ≡ q ∷ qs → (d : Pair) → get_or (pairs ys) n d ≡ q.pair
      pair_of_first zero [] q qs e d = absurd (cc)
      pair_of_first zero (y ∷ ys) q qs e d = let same : y ≡ q = cc in ap (λ (s : WholeSegment). s.pair) same
      pair_of_first (suc n) [] q qs e d = absurd (cc)
      pair_of_first (suc n) (y ∷ ys) q qs e d = pair_of_first n ys q qs e d

  module _ (block : IsBlock xs i next p) where
    pub boundary_next : IsBoundary xs next
    boundary_next =
        AllByRecursion-from_Has (λ s. AllByRecursion (λ t. point_lt s.pair.a t.pair.a ≡ true) (drop next xs)) (take next xs) (λ s m.
        elim (Has-take_split i next xs s (omega (arith, order)) m) [
          | inl e ↦ (let before = AllByRecursion-at (λ s. point_lt s.pair.a p ≡ true) (take i xs) s block.early e in
              AllByRecursion-weaker (λ t. point_lt p t.pair.a ≡ true) (λ t. point_lt s.pair.a t.pair.a ≡ true) (λ t h. point_lt-trans s.pair.a p t.pair.a before h) (drop next xs) block.late)
          | inr k ↦ subst (λ v. AllByRecursion (λ t. point_lt v t.pair.a ≡ true) (drop next xs)) (sym (AllByRecursion-at (λ s. s.pair.a ≡ p) (take (next - i) (drop i xs)) s block.here k)) block.late
        ])

    -- the block has all segments that start at p, and those before it all that start earlier
    pub block_complete : (s : WholeSegment) → Has xs s → s.pair.a ≡ p → Has (take (next - i) (drop i xs)) s
    block_complete s m e = elim (Has-cut next xs s m) [
      | inl k ↦ elim (Has-take_split i next xs s (omega (arith, order)) k) [
        | inl l ↦ absurd (not_before_itself s.pair.a p e (AllByRecursion-at (λ s. point_lt s.pair.a p ≡ true) (take i xs) s block.early l))
        | inr l ↦ l
      ]
      | inr k ↦ absurd (not_before_itself p s.pair.a (sym e) (AllByRecursion-at (λ s. point_lt p s.pair.a ≡ true) (drop next xs) s block.late k))
    ]

    pub early_complete : (s : WholeSegment) → Has xs s → point_lt s.pair.a p ≡ true → Has (take i xs) s
    early_complete s m h = elim (Has-cut next xs s m) [
      | inl k ↦ elim (Has-take_split i next xs s (omega (arith, order)) k) [
        | inl l ↦ l
        | inr l ↦ absurd (not_before_itself s.pair.a p (AllByRecursion-at (λ s. s.pair.a ≡ p) (take (next - i) (drop i xs)) s block.here l) h)
      ]
      | inr k ↦ absurd (not_before_itself p p refl (point_lt-trans p s.pair.a p (AllByRecursion-at (λ s. point_lt p s.pair.a ≡ true) (drop next xs) s block.late k) h))
    ]

-- what lies below a point begins before it
pub below_begins_before : (p : Point) (t : WholeSegment) (s : Pair) → s.a ≡ p → lies_below p t ≡ true → point_lt t.pair.a p ≡ true
below_begins_before p t s e h =
    let parts = and_parts (is_live p.x t.pair) _ h in
    let spanned = subst (λ (q : Point). spans_column q.x t.pair ≡ true) (sym e) (spans_live p.x t.pair parts.0) in
    let under : is_under s.a t.pair ≡ true = subst (λ q. is_under q t.pair ≡ true) (sym e) parts.1 in
    elim (earlier-cases t.pair s (earlier_beneath s t.pair spanned (or_left (is_under s.a t.pair) _ under))) [
      | inl l ↦ subst (λ v. point_lt t.pair.a v ≡ true) e l
      | inr same ↦
          let level : turn t.pair.a t.pair.b s.a ≡ pos 0 = ap (turn t.pair.a t.pair.b) (sym same.0) ∙ turn_same_outer t.pair.a t.pair.b in
          let up = lt-tested (pos 0) (turn t.pair.a t.pair.b s.a) under in
          absurd (omega (arith, ints))
    ]
