-- Rows one behind another: where an index of a row is among all, and what is left of all where one row changes.
use Rattle.std.proofs.Common.{◌≡◌, ◌≢◌, ap, ap₂, refl, sym, subst, ◌∙◌, arith, inl, inr, get_or, add-one}
use Rattle.std.specs.Prelude.{ℕ, zero, suc, ◌+◌, ◌-◌, ◌*◌, ◌/◌, ◌^◌, ◌<◌, ◌≤◌, ◌⊎◌, ℤ, ◌≤ℤ◌, int_lt, Bool, true, false, not, cond, List, [], ◌∷◌, ◌++◌, map, filter, take, drop, length, slice_set, All}
use Rattle.std.specs.List.{remove, insert}
use Rattle.std.proofs.lemmas.Bool.{both_ways, cases_lt, cases_eq}
use Rattle.std.proofs.lemmas.List.{length-append, length-map, length-take, length-set, take-append-drop, take-append-le, drop-append-le, append_assoc, append-nil, take-set, map-set, take_more, get_or-set_same, get_or-set_other, get_or-take}
use Rattle.std.proofs.lemmas.List.Elements.{All-append, All-take, All-drop, filter-append}
use Rattle.std.proofs.lemmas.List.Edits.{get_or-remove_below, get_or-remove_above, length-remove}
use Rattle.std.proofs.lemmas.List.Concat.{flat_map-append, get_or-flat_map}
use Rattle.std.proofs.lemmas.List.Folds.{length-flat_map-take}
use Rattle.std.proofs.Math.Nat.{two-pow-succ}
use Rattle.std.proofs.Math.Pow.{pow_mono}
use Rattle.std.proofs.Math.Seq.{take-append-add, drop-append-add}
use Rattle.overlay_base.specs.Segments.{WholeSegment}
use Rattle.overlay_sweep.specs.LiveRows.{segment_at, lasts_past, joined, row_at, HaveSome, index_in, IsIndexIn, AreCursorRows}
use Rattle.overlay_geometry.specs.Points.{Point}
use Rattle.overlay_sweep.specs.Costs.{IsHighest}
use Rattle.overlay_sweep.specs.LivePositions.{HasNext, IsLivePosition}
use Rattle.overlay_sweep.specs.steps.Positions.{IsElsewhere, IsPutIn}
use Rattle.overlay_sweep.proofs.laws.list.LastingRows.{lasting_of, found_last, all_before, skip_ended, drop_whole, entries_put}
use Rattle.overlay_sweep.proofs.laws.list.ListAnswers.{row_empty}
use Rattle.overlay_sweep.proofs.laws.list.Cursors.{cursor_none}
use Rattle.overlay_sweep.specs.steps.Rows.{KeepsLasting, EndsWith, IsTrimmed, IsRowDropped, HaveSomeBut, IsNextNear}

-- ---- what is kept

pub keeps_all : (x : ℤ) (ks : List WholeSegment) → KeepsLasting x ks ks
keeps_all x ks = record { kept = refl; begun = λ z a. a; fewer = omega arith }

pub keeps_on : (x : ℤ) (ks ls ms : List WholeSegment) → KeepsLasting x ks ls → KeepsLasting x ls ms → KeepsLasting x ks ms
keeps_on x ks ls ms f g = record { kept = g.kept ∙ f.kept; begun = λ z a. g.begun z (f.begun z a); fewer = omega (arith, f.fewer, g.fewer) }

all_first : {X : Type 0} (P : X → Type 0) (xs ys : List X) → All P (xs ++ ys) → All P xs
all_first P xs ys a = subst (All P) (take-append-le (length xs) xs ys (omega arith) ∙ take_whole xs) (All-take P (length xs) (xs ++ ys) a)
  where
    take_whole : {X : Type 0} (xs : List X) → take (length xs) xs ≡ xs
    take_whole [] = refl
    take_whole (x ∷ xs) = ap (λ l. x ∷ l) (take_whole xs)

all_second : {X : Type 0} (P : X → Type 0) (xs ys : List X) → All P (xs ++ ys) → All P ys
all_second P xs ys a = subst (All P) (drop_all xs ys) (All-drop P (length xs) (xs ++ ys) a)
  where
    drop_all : {X : Type 0} (xs ys : List X) → drop (length xs) (xs ++ ys) ≡ ys
    drop_all [] ys = refl
    drop_all (x ∷ xs) ys = drop_all xs ys

keeps_between : (x : ℤ) (fs fs' gs gs' : List WholeSegment) → KeepsLasting x fs fs' → KeepsLasting x gs gs' → KeepsLasting x (fs ++ gs) (fs' ++ gs')
keeps_between x fs fs' gs gs' f g = record {
  kept = filter-append (λ s. int_lt x s.pair.b.x) fs' gs' ∙ ap₂ (λ k l. k ++ l) f.kept g.kept ∙ sym (filter-append (λ s. int_lt x s.pair.b.x) fs gs);
  begun = λ z a. All-append (λ s. s.pair.a.x ≤ℤ z) fs' gs' (f.begun z (all_first (λ s. s.pair.a.x ≤ℤ z) fs gs a)) (g.begun z (all_second (λ s. s.pair.a.x ≤ℤ z) fs gs a));
  fewer = omega (arith, f.fewer, g.fewer, length-append fs gs, length-append fs' gs');
}

pub keeps_set : (x : ℤ) (rows : List (List WholeSegment)) (i : ℕ) (row : List WholeSegment) → KeepsLasting x (row_at rows i) row → KeepsLasting x (joined rows) (joined (slice_set rows i row))
keeps_set x [] i row k = keeps_all x []
keeps_set x (r ∷ rows) zero row k = keeps_between x r row (joined rows) (joined rows) k (keeps_all x (joined rows))
keeps_set x (r ∷ rows) (suc i) row k = keeps_between x r r (joined rows) (joined (slice_set rows i row)) (keeps_all x r) (keeps_set x rows i row k)

pub keeps_removed : (x : ℤ) (rows : List (List WholeSegment)) (i : ℕ) → KeepsLasting x (row_at rows i) [] → KeepsLasting x (joined rows) (joined (remove rows i))
keeps_removed x [] zero k = keeps_all x []
keeps_removed x [] (suc i) k = keeps_all x []
keeps_removed x (r ∷ rows) zero k = keeps_between x r [] (joined rows) (joined rows) k (keeps_all x (joined rows))
keeps_removed x (r ∷ rows) (suc i) k = keeps_between x r r (joined rows) (joined (remove rows i)) (keeps_all x r) (keeps_removed x rows i k)

-- what lasts of a row that has one that lasts
pub some_left : (x : ℤ) (old new : List WholeSegment) (i : ℕ) → KeepsLasting x old new → i < length old → lasts_past x old i ≡ true → 1 ≤ length new
some_left x old [] i k h l = absurd (none_left old i h l (sym k.kept))
  where
    none_left : (ks : List WholeSegment) (i : ℕ) → i < length ks → lasts_past x ks i ≡ true → filter (λ s. int_lt x s.pair.b.x) ks ≡ [] → ⊥
    none_left [] i h l e = omega (arith, h)
    none_left (k ∷ ks) zero h l e = let n = ap (λ m. length m) (rw l at e) in omega (arith, n)
    none_left (k ∷ ks) (suc i) h l e = elim (cases_lt 0 0) [ inl z ↦ omega (arith, z) | inr z ↦ none_left ks i (omega (arith, h)) l (tail_none (int_lt x k.pair.b.x) e) ]
      where
        tail_none : (b : Bool) → cond b (k ∷ filter (λ s. int_lt x s.pair.b.x) ks) (filter (λ s. int_lt x s.pair.b.x) ks) ≡ [] → filter (λ s. int_lt x s.pair.b.x) ks ≡ []
        tail_none true f = let n = ap (λ m. length m) f in absurd (omega (arith, n))
        tail_none false f = f
some_left x old (n ∷ new) i k h l = omega arith

-- ---- how long

later_some : (r : List WholeSegment) (rows : List (List WholeSegment)) → HaveSome (r ∷ rows) → HaveSome rows
later_some r rows some i h = some (suc i) (omega (arith, h))

pub many_of : (rows : List (List WholeSegment)) → HaveSome rows → length rows ≤ length (joined rows)
many_of [] some = omega arith
many_of (r ∷ rows) some =
    let first : 1 ≤ length r = some 0 (omega arith) in
    let m = many_of rows (later_some r rows some) in omega (arith, m, first, length-append r (joined rows))

pub room_of : (rows : List (List WholeSegment)) (i : ℕ) → HaveSome rows → i < length rows → length rows + length (row_at rows i) ≤ length (joined rows) + 1
room_of [] i some h = absurd (omega (arith, h))
room_of (r ∷ rows) zero some h = let m = many_of rows (later_some r rows some) in omega (arith, m, length-append r (joined rows))
room_of (r ∷ rows) (suc i) some h =
    let first : 1 ≤ length r = some 0 (omega arith) in
    let m = room_of rows i (later_some r rows some) (omega (arith, h)) in omega (arith, m, first, length-append r (joined rows))

-- ---- where an index of a row is

module _ (rows : List (List WholeSegment)) (i : ℕ) (inside : i < length rows) where
  abbrev base : ℕ
  base = length (joined (take i rows))

  pub read_in : (k : ℕ) → k < length (row_at rows i) → segment_at (joined rows) (base + k) ≡ segment_at (row_at rows i) k
  read_in k h = get_or-flat_map (λ row. row) rows i k [] _ inside h

  pub base_next : length (joined (take (i + 1) rows)) ≡ base + length (row_at rows i)
  base_next =
      ap (λ l. length (joined l)) (take_more rows i [] inside) ∙ ap (λ l. length l) (flat_map-append (λ row. row) (take i rows) (row_at rows i ∷ []))
      ∙ length-append (joined (take i rows)) (row_at rows i ++ []) ∙ ap (λ l. base + length l) (append-nil (row_at rows i))

  pub base_within : base + length (row_at rows i) ≤ length (joined rows)
  base_within = length-flat_map-take (λ row. row) rows i [] inside

  pub base_last : i + 1 ≡ length rows → base + length (row_at rows i) ≡ length (joined rows)
  base_last e = sym base_next ∙ ap (λ n. length (joined (take n rows))) e ∙ ap (λ l. length (joined l)) (take_whole rows)
    where
      take_whole : (rows : List (List WholeSegment)) → take (length rows) rows ≡ rows
      take_whole [] = refl
      take_whole (r ∷ rows) = ap (λ l. r ∷ l) (take_whole rows)

pub index_most : (rows : List (List WholeSegment)) (row at : ℕ) → IsIndexIn rows row at → index_in rows row at ≤ length (joined rows)
index_most rows r at (inl none) = let e : length (joined (take r rows)) ≡ 0 = ap (λ n. length (joined (take n rows))) none.1 in omega (arith, e, none.2)
index_most rows r at (inr is) = let b = base_within rows r is.0 in omega (arith, b, is.1)

pub joined_next : (rows : List (List WholeSegment)) (i : ℕ) → i < length rows → joined (take (i + 1) rows) ≡ joined (take i rows) ++ row_at rows i
joined_next rows i h = ap joined (take_more rows i [] h) ∙ flat_map-append (λ r. r) (take i rows) (row_at rows i ∷ []) ∙ ap (λ l. joined (take i rows) ++ l) (append-nil (row_at rows i))

pub joined_whole : (rows : List (List WholeSegment)) (i : ℕ) → i ≡ length rows → joined (take i rows) ≡ joined rows
joined_whole [] i e = rw e refl
joined_whole (r ∷ rows) zero e = absurd (omega (arith, e))
joined_whole (r ∷ rows) (suc i) e = ap (λ l. r ++ l) (joined_whole rows i (omega (arith, e)))

-- the one just before a row
pub read_before_row : (rows : List (List WholeSegment)) (i : ℕ) → i ≤ length rows → i ≢ 0 → 1 ≤ length (row_at rows (i - 1)) →
    (1 ≤ length (joined (take i rows))) × (segment_at (joined rows) (length (joined (take i rows)) - 1) ≡ segment_at (row_at rows (i - 1)) (length (row_at rows (i - 1)) - 1))
read_before_row rows i h some there =
    let inside : i - 1 < length rows = omega (arith, h, some) in
    let same : i - 1 + 1 ≡ i = omega (arith, some) in
    let next = sym (ap (λ n. length (joined (take n rows))) same) ∙ base_next rows (i - 1) inside in
    let last : length (joined (take i rows)) - 1 ≡ length (joined (take (i - 1) rows)) + (length (row_at rows (i - 1)) - 1) = omega (arith, next, there) in
    (omega (arith, next, there), ap (segment_at (joined rows)) last ∙ read_in rows (i - 1) inside (length (row_at rows (i - 1)) - 1) (omega (arith, there)))

-- ---- a position in a row, among all

module _ (lasts before : WholeSegment → Bool) (rows : List (List WholeSegment)) (i : ℕ) (inside : i < length rows) (at : ℕ) where
  abbrev row : List WholeSegment
  row = row_at rows i

  abbrev all : List WholeSegment
  all = joined rows

  abbrev from : ℕ
  from = length (joined (take i rows))

  read_at : (k : ℕ) → from ≤ k → k - from < length row → segment_at all k ≡ segment_at row (k - from)
  read_at k a b = let same : k ≡ from + (k - from) = omega (arith, a) in ap (segment_at all) same ∙ read_in rows i inside (k - from) b

  module _ (place : IsLivePosition (λ k. lasts (segment_at row k)) (λ k. before (segment_at row k)) (length row) at) where
    last_of_all : (at ≡ 0 → (i ≡ 0) ⊎ ((1 ≤ length (row_at rows (i - 1))) × (lasts (segment_at (row_at rows (i - 1)) (length (row_at rows (i - 1)) - 1)) ≡ true) × (before (segment_at (row_at rows (i - 1)) (length (row_at rows (i - 1)) - 1)) ≡ true))) →
        (from + at ≡ 0) ⊎ ((lasts (segment_at all (from + at - 1)) ≡ true) × (before (segment_at all (from + at - 1)) ≡ true))
    last_of_all first = elim (cases_lt 0 at) [
      | inl some ↦ elim place.last_is [
        | inl none ↦ absurd (omega (arith, some, none))
        | inr is ↦
            (let index : from + at - 1 ≡ from + (at - 1) = omega (arith, some) in
            let read = ap (segment_at all) index ∙ read_in rows i inside (at - 1) (omega (arith, some, place.within)) in
            inr (ap lasts read ∙ is.0, ap before read ∙ is.1))
      ]
      | inr none ↦
          (let zero_at : at ≡ 0 = omega (arith, none) in
          elim (first zero_at) [
            | inl lowest ↦ inl (let e : length (joined (take i rows)) ≡ 0 = ap (λ n. length (joined (take n rows))) lowest in omega (arith, e, zero_at))
            | inr is ↦ elim (cases_eq i 0) [
              | inl lowest ↦ inl (let e : length (joined (take i rows)) ≡ 0 = ap (λ n. length (joined (take n rows))) lowest in omega (arith, e, zero_at))
              | inr some ↦
                  (let b = read_before_row rows i (omega (arith, inside)) some is.0 in
                  let index : from + at - 1 ≡ from - 1 = omega (arith, zero_at) in
                  let read = ap (segment_at all) index ∙ b.1 in
                  inr (ap lasts read ∙ is.1, ap before read ∙ is.2))
            ]
          ])
    ]

    next_of_all : (place.behind.next < length row) ⊎ (length rows ≤ i + 1) → HasNext (λ k. lasts (segment_at all k)) (λ k. before (segment_at all k)) (length all) (from + at)
    next_of_all near = record {
      next = from + place.behind.next;
      order = omega (arith, place.behind.order);
      within = omega (arith, place.behind.within, base_within rows i inside);
      ended = λ k a b. ap lasts (read_at k (omega (arith, a)) (omega (arith, a, b, place.behind.within))) ∙ place.behind.ended (k - from) (omega (arith, a)) (omega (arith, a, b));
      is = elim (cases_lt place.behind.next (length row)) [
        | inl within ↦ elim place.behind.is [
          | inl whole ↦ absurd (omega (arith, whole, within))
          | inr is ↦ (let read = read_in rows i inside place.behind.next within in inr (ap lasts read ∙ is.0, ap before read ∙ is.1))
        ]
        | inr past ↦ elim near [
          | inl within ↦ absurd (omega (arith, past, within))
          | inr last ↦ inl (let e = base_last rows i inside (omega (arith, last, inside)) in omega (arith, e, past, place.behind.within))
        ]
      ];
    }

    pub whole_position : (at ≡ 0 → (i ≡ 0) ⊎ ((1 ≤ length (row_at rows (i - 1))) × (lasts (segment_at (row_at rows (i - 1)) (length (row_at rows (i - 1)) - 1)) ≡ true) × (before (segment_at (row_at rows (i - 1)) (length (row_at rows (i - 1)) - 1)) ≡ true))) →
        (place.behind.next < length row) ⊎ (length rows ≤ i + 1) → IsLivePosition (λ k. lasts (segment_at all k)) (λ k. before (segment_at all k)) (length all) (index_in rows i at)
    whole_position first near = record { within = omega (arith, place.within, base_within rows i inside); last_is = last_of_all first; behind = next_of_all near }

  -- where the next one is elsewhere
  pub whole_elsewhere : (there : WholeSegment → Bool) → at ≤ length row → (length rows ≤ i + 1) ⊎ ((k : ℕ) × (at ≤ k) × (k < length row) × (lasts (segment_at row k) ≡ true)) → IsElsewhere (λ k. lasts (segment_at row k)) (λ k. there (segment_at row k)) (length row) at →
      IsElsewhere (λ k. lasts (segment_at all k)) (λ k. there (segment_at all k)) (length all) (index_in rows i at)
  whole_elsewhere there within near other next a b ended l = elim (cases_lt (next - from) (length row)) [
    | inl here ↦
        (let read = read_at next (omega (arith, a)) here in
        ap there read ∙ other (next - from) (omega (arith, a)) here
        (λ k c d. sym (ap lasts (read_in rows i inside k (omega (arith, d, here)))) ∙ ended (from + k) (omega (arith, c)) (omega (arith, d, a)))
        (sym (ap lasts read) ∙ l))
    | inr past ↦ elim near [
      | inl last ↦ (let e = base_last rows i inside (omega (arith, last, inside)) in absurd (omega (arith, e, past, b, a)))
      | inr some ↦ absurd (both_ways _ (sym (ap lasts (read_in rows i inside some.0 some.2)) ∙ ended (from + some.0) (omega (arith, some.1)) (omega (arith, some.2, past, a))) some.3)
    ]
  ]

-- ---- the next one is in the row

module _ (x : ℤ) (before : WholeSegment → Bool) (old new : List WholeSegment) (keeps : KeepsLasting x old new) (ends : EndsWith x before false old) (at : ℕ) (place : IsLivePosition (lasts_past x new) (λ i. before (segment_at new i)) (length new) at) where
  abbrev whole_old : IsLivePosition (lasts_past x old) (λ i. not (before (segment_at old i))) (length old) (length old)
  whole_old = record {
    within = omega arith;
    last_is = inr (ends.lasts, ap not ends.is_before);
    behind = record { next = length old; order = omega arith; within = omega arith; ended = λ k a b. absurd (omega (arith, a, b)); is = inl refl };
  }

  last_old : (length (lasting_of x old) ≢ 0) × (segment_at (lasting_of x old) (length (lasting_of x old) - 1) ≡ segment_at old (length old - 1))
  last_old =
      let some : length old ≢ 0 = λ z. omega (arith, z, ends.some) in
      let f = found_last x old (length old) (λ i. not (before (segment_at old i))) whole_old some in
      let size = all_before x old (length old) (λ i. not (before (segment_at old i))) whole_old refl in
      (λ z. f.0 (size ∙ z), ap (λ n. segment_at (lasting_of x old) (n - 1)) (sym size) ∙ f.1)

  pub next_inside : place.behind.next < length new
  next_inside = elim (cases_lt place.behind.next (length new)) [
    | inl h ↦ h
    | inr past ↦
        (let size = all_before x new at (λ i. before (segment_at new i)) place (omega (arith, past, place.behind.within)) in
        elim (cases_eq at 0) [
          | inl none ↦ absurd (last_old.0 (sym (ap (λ l. length l) keeps.kept) ∙ sym size ∙ ap (λ n. length (lasting_of x (take n new))) none))
          | inr some ↦
              (let f = found_last x new at (λ i. before (segment_at new i)) place some in
              let same = sym f.1 ∙ ap (λ n. segment_at (lasting_of x new) (n - 1)) size ∙ ap (λ l. segment_at l (length l - 1)) keeps.kept ∙ last_old.1 in
              absurd (both_ways _ ends.is_before (sym (ap before same) ∙ f.2)))
        ])
  ]

  -- one that lasts is at the index or behind it
  pub next_lasts : lasts_past x new place.behind.next ≡ true
  next_lasts = elim place.behind.is [ inl whole ↦ absurd (let h = next_inside in omega (arith, whole, h)) | inr is ↦ is.0 ]

-- ---- after a search among rows

-- a row that is set, where the others have some
pub set_some : (rows : List (List WholeSegment)) (i : ℕ) (new : List WholeSegment) → HaveSomeBut i rows → 1 ≤ length new → HaveSome (slice_set rows i new)
set_some rows i new some here j h = elim (cases_eq j i) [
  | inl same ↦ (let read : row_at (slice_set rows i new) j ≡ new = ap (λ k. row_at (slice_set rows i new) k) same ∙ get_or-set_same rows i new [] (omega (arith, h, same, length-set rows i new)) in rw read here)
  | inr other ↦
      (let read : row_at (slice_set rows i new) j ≡ row_at rows j = get_or-set_other rows i j new [] other in
      rw read (elim (some j (omega (arith, h, length-set rows i new))) [ inl same ↦ absurd (other same) | inr is ↦ is ]))
]

position_of : (lasts before : WholeSegment → Bool) (rows : List (List WholeSegment)) (i : ℕ) (inside : i < length rows) (at : ℕ) (r : List WholeSegment) → row_at rows i ≡ r → (place : IsLivePosition (λ k. lasts (segment_at r k)) (λ k. before (segment_at r k)) (length r) at) →
    (at ≡ 0 → (i ≡ 0) ⊎ ((1 ≤ length (row_at rows (i - 1))) × (lasts (segment_at (row_at rows (i - 1)) (length (row_at rows (i - 1)) - 1)) ≡ true) × (before (segment_at (row_at rows (i - 1)) (length (row_at rows (i - 1)) - 1)) ≡ true))) →
    (place.behind.next < length r) ⊎ (length rows ≤ i + 1) → IsLivePosition (λ k. lasts (segment_at (joined rows) k)) (λ k. before (segment_at (joined rows) k)) (length (joined rows)) (index_in rows i at)
position_of lasts before rows i inside at r e =
    subst (λ q. (place : IsLivePosition (λ k. lasts (segment_at q k)) (λ k. before (segment_at q k)) (length q) at) →
    (at ≡ 0 → (i ≡ 0) ⊎ ((1 ≤ length (row_at rows (i - 1))) × (lasts (segment_at (row_at rows (i - 1)) (length (row_at rows (i - 1)) - 1)) ≡ true) × (before (segment_at (row_at rows (i - 1)) (length (row_at rows (i - 1)) - 1)) ≡ true))) →
    (place.behind.next < length q) ⊎ (length rows ≤ i + 1) → IsLivePosition (λ k. lasts (segment_at (joined rows) k)) (λ k. before (segment_at (joined rows) k)) (length (joined rows)) (index_in rows i at)) e
    (λ place first near. whole_position lasts before rows i inside at place first near)

pub next_of_end : (x : ℤ) (before : WholeSegment → Bool) (r : List WholeSegment) (many end : ℕ) → EndsWith x before false r → many ≡ length r → end ≡ many - 1 → HasNext (lasts_past x r) (λ i. before (segment_at r i)) many end
next_of_end x before r many end ends m e =
    let same : end ≡ length r - 1 = omega (arith, m, e) in record {
      next = end;
      order = omega arith;
      within = omega (arith, e);
      ended = λ k a b. absurd (omega (arith, a, b));
      is = inr (ap (lasts_past x r) same ∙ ends.lasts, ap (λ i. before (segment_at r i)) same ∙ ends.is_before);
    }

-- in a row whose last one does not come before the place
module _ (x : ℤ) (before : WholeSegment → Bool) (rows : List (List WholeSegment)) (row : ℕ) (inside : row < length rows) (new : List WholeSegment) (below : (row ≡ 0) ⊎ EndsWith x before true (row_at rows (row - 1))) (ends : EndsWith x before false (row_at rows row)) (keeps : KeepsLasting x (row_at rows row) new) where
  abbrev pub after : List (List WholeSegment)
  after = slice_set rows row new

  there : row_at after row ≡ new
  there = get_or-set_same rows row new [] inside

  inside_after : row < length after
  inside_after = omega (arith, inside, length-set rows row new)

  pub searched_some : HaveSome rows → HaveSome after
  searched_some some = set_some rows row new (λ i h. inr (some i h)) (some_left x (row_at rows row) new (length (row_at rows row) - 1) keeps (omega (arith, ends.some)) ends.lasts)

  module _ (at : ℕ) (place : IsLivePosition (lasts_past x new) (λ i. before (segment_at new i)) (length new) at) where
    pub searched_index : IsIndexIn after row at
    searched_index = inr (inside_after, subst (λ r. at ≤ length r) (sym there) place.within)

    pub searched_near : IsNextNear x after row at
    searched_near = inr (subst (λ r. (k : ℕ) × (at ≤ k) × (k < length r) × (lasts_past x r k ≡ true)) (sym there) (place.behind.next, place.behind.order, next_inside x before (row_at rows row) new keeps ends at place, next_lasts x before (row_at rows row) new keeps ends at place))

    under_it : (row ≡ 0) ⊎ EndsWith x before true (row_at rows (row - 1)) → (row ≡ 0) ⊎ ((1 ≤ length (row_at after (row - 1))) × (lasts_past x (row_at after (row - 1)) (length (row_at after (row - 1)) - 1) ≡ true) × (before (segment_at (row_at after (row - 1)) (length (row_at after (row - 1)) - 1)) ≡ true))
    under_it (inl none) = inl none
    under_it (inr e) = elim (cases_eq row 0) [
      | inl none ↦ inl none
      | inr some ↦
          (let read : row_at after (row - 1) ≡ row_at rows (row - 1) = get_or-set_other rows row (row - 1) new [] (λ z. omega (arith, z, some)) in
          inr (subst (λ r. (1 ≤ length r) × (lasts_past x r (length r - 1) ≡ true) × (before (segment_at r (length r - 1)) ≡ true)) (sym read) (e.some, e.lasts, e.is_before)))
    ]

    pub searched_position : IsLivePosition (lasts_past x (joined after)) (λ i. before (segment_at (joined after) i)) (length (joined after)) (index_in after row at)
    searched_position = position_of (λ s. int_lt x s.pair.b.x) before after row inside_after at new there place (λ z. under_it below) (inl (next_inside x before (row_at rows row) new keeps ends at place))

-- in the only row
module _ (x : ℤ) (before : WholeSegment → Bool) (rows : List (List WholeSegment)) (one : length rows ≡ 1) (new : List WholeSegment) (at : ℕ) (place : IsLivePosition (lasts_past x new) (λ i. before (segment_at new i)) (length new) at) where
  abbrev only : List (List WholeSegment)
  only = slice_set rows 0 new

  only_there : row_at only 0 ≡ new
  only_there = get_or-set_same rows 0 new [] (omega (arith, one))

  only_inside : 0 < length only
  only_inside = omega (arith, one, length-set rows 0 new)

  pub only_position : IsLivePosition (lasts_past x (joined only)) (λ i. before (segment_at (joined only) i)) (length (joined only)) (index_in only 0 at)
  only_position = position_of (λ s. int_lt x s.pair.b.x) before only 0 only_inside at new only_there place (λ z. inl refl) (inr (omega (arith, one, length-set rows 0 new)))

-- behind all
pub ended_position : (x : ℤ) (before : WholeSegment → Bool) (rows : List (List WholeSegment)) (found row at : ℕ) → found ≡ length rows → (found ≡ 0) ⊎ EndsWith x before true (row_at rows (found - 1)) → (length rows ≡ 0) ⊎ ((row + 1 ≡ length rows) × (at ≡ length (row_at rows row))) → IsIndexIn rows row at →
    IsLivePosition (lasts_past x (joined rows)) (λ i. before (segment_at (joined rows) i)) (length (joined rows)) (index_in rows row at)
ended_position x before [] found row at f below last (inr i) = absurd (omega (arith, i.0))
ended_position x before [] found row at f below last (inl i) =
    rw (i.1, i.2) (record { within = omega arith; last_is = inl (omega arith); behind = record { next = 0; order = omega arith; within = omega arith; ended = λ k a b. absurd (omega (arith, b)); is = inl refl } })
ended_position x before (r ∷ rows) found row at f below (inl none) i = absurd (omega (arith, none))
ended_position x before (r ∷ rows) found row at f below (inr last) i =
    let all : List (List WholeSegment) = r ∷ rows in
    let same : found - 1 ≡ row = omega (arith, f, last.0) in
    elim below [
      | inl none ↦ absurd (omega (arith, none, f))
      | inr e ↦
          (let ends : EndsWith x before true (row_at all row) = subst (λ k. EndsWith x before true (row_at all k)) same e in
          let index : at - 1 ≡ length (row_at all row) - 1 = omega (arith, last.1) in
          whole_position (λ s. int_lt x s.pair.b.x) before all row (omega (arith, last.0)) at (record {
            within = omega (arith, last.1);
            last_is = inr (ap (lasts_past x (row_at all row)) index ∙ ends.lasts, ap (λ k. before (segment_at (row_at all row) k)) index ∙ ends.is_before);
            behind = record { next = at; order = omega arith; within = omega (arith, last.1); ended = λ k a b. absurd (omega (arith, a, b)); is = inl last.1 };
          }) (λ z. absurd (omega (arith, z, last.1, ends.some))) (inr (omega (arith, last.0))))
    ]

pub ended_near : (x : ℤ) (rows : List (List WholeSegment)) (row at : ℕ) → (length rows ≡ 0) ⊎ ((row + 1 ≡ length rows) × (at ≡ length (row_at rows row))) → IsNextNear x rows row at
ended_near x rows row at (inl none) = inl (omega (arith, none))
ended_near x rows row at (inr last) = inl (omega (arith, last.0))

-- ---- an entry put in

put_whole : (rows : List (List WholeSegment)) (i at rest m n : ℕ) (e : WholeSegment) → i < length rows → at ≤ length (row_at rows i) → rest ≤ length (row_at rows i) → m ≡ index_in rows i at → n ≡ index_in rows i rest →
    joined (slice_set rows i (take at (row_at rows i) ++ e ∷ drop rest (row_at rows i))) ≡ take m (joined rows) ++ e ∷ drop n (joined rows)
put_whole [] i at rest m n e h a r p q = absurd (omega (arith, h))
put_whole (row ∷ rows) zero at rest m n e h a r p q =
    let same_m : m ≡ at = omega (arith, p) in
    let same_n : n ≡ rest = omega (arith, q) in
    append_assoc (take at row) (e ∷ drop rest row) (joined rows)
    ∙ sym (ap₂ (λ k l. k ++ e ∷ l) (ap (λ z. take z (row ++ joined rows)) same_m ∙ take-append-le at row (joined rows) a) (ap (λ z. drop z (row ++ joined rows)) same_n ∙ drop-append-le rest row (joined rows) r))
put_whole (row ∷ rows) (suc i) at rest m n e h a r p q =
    let many = length-append row (joined (take i rows)) in
    let same_m : m ≡ length row + index_in rows i at = omega (arith, p, many) in
    let same_n : n ≡ length row + index_in rows i rest = omega (arith, q, many) in
    ap (λ l. row ++ l) (put_whole rows i at rest (index_in rows i at) (index_in rows i rest) e (omega (arith, h)) a r refl refl)
    ∙ sym (append_assoc row (take (index_in rows i at) (joined rows)) (e ∷ drop (index_in rows i rest) (joined rows)))
    ∙ sym (ap₂ (λ k l. k ++ e ∷ l) (ap (λ z. take z (row ++ joined rows)) same_m ∙ take-append-add row (joined rows) (index_in rows i at)) (ap (λ z. drop z (row ++ joined rows)) same_n ∙ drop-append-add row (joined rows) (index_in rows i rest)))

module _ (x : ℤ) (rows : List (List WholeSegment)) (i at : ℕ) (inside : i < length rows) (within : at ≤ length (row_at rows i)) (e : WholeSegment) (new : List WholeSegment) (put : IsPutIn (lasts_past x (row_at rows i)) at e (row_at rows i) new) where
  pub rows_put : IsPutIn (lasts_past x (joined rows)) (index_in rows i at) e (joined rows) (joined (slice_set rows i new))
  rows_put = elim put [
    | inl f ↦ inl (ap (λ l. joined (slice_set rows i l)) f ∙ put_whole rows i at at (index_in rows i at) (index_in rows i at) e inside within within refl refl)
    | inr f ↦
        (let base = base_within rows i inside in inr (
          omega (arith, f.0, base),
          ap (λ (s : WholeSegment). int_lt x s.pair.b.x) (read_in rows i inside at f.0) ∙ f.1,
          ap (λ l. joined (slice_set rows i l)) f.2 ∙ put_whole rows i at (suc at) (index_in rows i at) (suc (index_in rows i at)) e inside within (omega (arith, f.0)) refl (omega arith),
        ))
  ]

  pub some_put : 1 ≤ length new
  some_put = elim put [
    | inl f ↦ omega (arith, ap (λ l. length l) f, length-append (take at (row_at rows i)) (e ∷ drop at (row_at rows i)))
    | inr f ↦ omega (arith, ap (λ l. length l) f.2, length-append (take at (row_at rows i)) (e ∷ drop (suc at) (row_at rows i)))
  ]

  pub longer_put : at + 1 ≤ length new
  longer_put = elim put [
    | inl f ↦ omega (arith, within, ap (λ l. length l) f, length-append (take at (row_at rows i)) (e ∷ drop at (row_at rows i)), length-take at (row_at rows i))
    | inr f ↦ omega (arith, within, ap (λ l. length l) f.2, length-append (take at (row_at rows i)) (e ∷ drop (suc at) (row_at rows i)), length-take at (row_at rows i))
  ]

pub index_set : (rows : List (List WholeSegment)) (i at : ℕ) (new : List WholeSegment) → index_in (slice_set rows i new) i at ≡ index_in rows i at
index_set rows i at new = ap (λ l. length (joined l) + at) (take-set rows i new)

-- ---- a row that is cut in two

abbrev pub cut_at : List (List WholeSegment) → ℕ → List WholeSegment → List WholeSegment → List (List WholeSegment)
cut_at rows i lower upper = insert (slice_set rows i lower) (suc i) upper

pub cut_joined : (rows : List (List WholeSegment)) (i : ℕ) (lower upper : List WholeSegment) → i < length rows → lower ++ upper ≡ row_at rows i → joined (cut_at rows i lower upper) ≡ joined rows
cut_joined [] i lower upper h e = absurd (omega (arith, h))
cut_joined (r ∷ rows) zero lower upper h e = sym (append_assoc lower upper (joined rows)) ∙ ap (λ l. l ++ joined rows) e
cut_joined (r ∷ rows) (suc i) lower upper h e = ap (λ l. r ++ l) (cut_joined rows i lower upper (omega (arith, h)) e)

pub cut_low : (rows : List (List WholeSegment)) (i : ℕ) (lower upper : List WholeSegment) → i < length rows → row_at (cut_at rows i lower upper) i ≡ lower
cut_low [] i lower upper h = absurd (omega (arith, h))
cut_low (r ∷ rows) zero lower upper h = refl
cut_low (r ∷ rows) (suc i) lower upper h = cut_low rows i lower upper (omega (arith, h))

pub cut_high : (rows : List (List WholeSegment)) (i : ℕ) (lower upper : List WholeSegment) → i < length rows → row_at (cut_at rows i lower upper) (suc i) ≡ upper
cut_high [] i lower upper h = absurd (omega (arith, h))
cut_high (r ∷ rows) zero lower upper h = refl
cut_high (r ∷ rows) (suc i) lower upper h = cut_high rows i lower upper (omega (arith, h))

pub cut_length : (rows : List (List WholeSegment)) (i : ℕ) (lower upper : List WholeSegment) → i < length rows → length (cut_at rows i lower upper) ≡ suc (length rows)
cut_length [] i lower upper h = absurd (omega (arith, h))
cut_length (r ∷ rows) zero lower upper h = refl
cut_length (r ∷ rows) (suc i) lower upper h = ap suc (cut_length rows i lower upper (omega (arith, h)))

cut_take : (rows : List (List WholeSegment)) (i : ℕ) (lower upper : List WholeSegment) → i < length rows → take i (cut_at rows i lower upper) ≡ take i rows
cut_take [] i lower upper h = absurd (omega (arith, h))
cut_take (r ∷ rows) zero lower upper h = refl
cut_take (r ∷ rows) (suc i) lower upper h = ap (λ l. r ∷ l) (cut_take rows i lower upper (omega (arith, h)))

pub cut_some : (rows : List (List WholeSegment)) (i : ℕ) (lower upper : List WholeSegment) → i < length rows → HaveSomeBut i rows → 1 ≤ length lower → 1 ≤ length upper → HaveSome (cut_at rows i lower upper)
cut_some [] i lower upper h some l u j k = absurd (omega (arith, h))
cut_some (r ∷ rows) zero lower upper h some l u zero k = l
cut_some (r ∷ rows) zero lower upper h some l u (suc zero) k = u
cut_some (r ∷ rows) zero lower upper h some l u (suc (suc j)) k = elim (some (suc j) (omega (arith, k))) [ inl e ↦ absurd (omega (arith, e)) | inr is ↦ is ]
cut_some (r ∷ rows) (suc i) lower upper h some l u zero k = elim (some 0 (omega arith)) [ inl e ↦ absurd (omega (arith, e)) | inr is ↦ is ]
cut_some (r ∷ rows) (suc i) lower upper h some l u (suc j) k =
    cut_some rows i lower upper (omega (arith, h)) (λ n m. elim (some (suc n) (omega (arith, m))) [ inl e ↦ inl (omega (arith, e)) | inr is ↦ inr is ]) l u j (omega (arith, k))

pub cut_index_low : (rows : List (List WholeSegment)) (i at : ℕ) (lower upper : List WholeSegment) → i < length rows → index_in (cut_at rows i lower upper) i at ≡ index_in rows i at
cut_index_low rows i at lower upper h = ap (λ l. length (joined l) + at) (cut_take rows i lower upper h)

pub cut_index_high : (rows : List (List WholeSegment)) (i at : ℕ) (lower upper : List WholeSegment) → i < length rows → length lower ≤ at → index_in (cut_at rows i lower upper) (i + 1) (at - length lower) ≡ index_in rows i at
cut_index_high rows i at lower upper h order =
    let inside : i < length (cut_at rows i lower upper) = omega (arith, h, cut_length rows i lower upper h) in
    let next = base_next (cut_at rows i lower upper) i inside in
    let low = ap (λ l. length l) (cut_low rows i lower upper h) in
    let same = cut_index_low rows i 0 lower upper h in
    omega (arith, next, low, same, order)

-- ---- how many orders

half_power : (a r : ℕ) → a ≢ 0 → (a ≡ 0) ⊎ (2 ^ a ≤ 2 * r) → 2 ^ (a - 1) ≤ r
half_power a r some few = elim few [
  | inl none ↦ absurd (some none)
  | inr most ↦ (let same : suc (a - 1) ≡ a = omega (arith, some) in let doubled = sym (ap (λ n. 2 ^ n) same) ∙ two-pow-succ (a - 1) in omega (arith, most, doubled))
]

-- among the rows, and then in one
pub two_searches : (a b r l n d : ℕ) → (a ≡ 0) ⊎ (2 ^ a ≤ 2 * r) → (b ≡ 0) ⊎ (2 ^ b ≤ 2 * l) → r + l ≤ n + 1 → IsHighest n d → a + b ≤ d
two_searches a b r l n d fa fb room high = high (a + b) (fits (cases_lt a b) (cases_lt b a))
  where
    fits : (a < b) ⊎ (b ≤ a) → (b < a) ⊎ (a ≤ b) → 2 ^ ((a + b) / 2) ≤ n + 1
    fits (inl less) m =
        let p = half_power b l (λ z. omega (arith, z, less)) fb in
        let w : 2 ^ ((a + b) / 2) ≤ 2 ^ (b - 1) = pow_mono (omega (arith, less)) in
        omega (arith, p, w, room)
    fits (inr _) (inl less) =
        let p = half_power a r (λ z. omega (arith, z, less)) fa in
        let w : 2 ^ ((a + b) / 2) ≤ 2 ^ (a - 1) = pow_mono (omega (arith, less)) in
        omega (arith, p, w, room)
    fits (inr most) (inr least) = elim (cases_eq a 0) [
      | inl none ↦ (let w : 2 ^ ((a + b) / 2) ≤ 2 ^ 0 = pow_mono {j = 0} (omega (arith, none, most)) in omega (arith, w))
      | inr some ↦
          (let p = half_power a r some fa in
          let same : b ≡ a = omega (arith, most, least) in
          let q = half_power b l (λ z. some (sym same ∙ z)) fb in
          let e = ap (λ n. 2 ^ (n - 1)) same in
          let w : 2 ^ ((a + b) / 2) ≤ 2 ^ suc (a - 1) = pow_mono (omega (arith, same, some)) in
          omega (arith, p, q, e, w, two-pow-succ (a - 1), room))
    ]

pub one_search : (n d : ℕ) → IsHighest n d → 1 ≤ d
one_search n d high = high 1 (omega arith)

-- among all, where one order was compared before
pub search_and_one : (b n d : ℕ) → (b ≡ 0) ⊎ (2 ^ b ≤ 2 * n) → 1 ≤ n → IsHighest n d → b + 1 ≤ d
search_and_one b n d few some high = high (b + 1) (elim (cases_lt 1 b) [
  | inl more ↦
      (let p = half_power b n (λ z. omega (arith, z, more)) few in
      let w : 2 ^ ((b + 1) / 2) ≤ 2 ^ (b - 1) = pow_mono (omega (arith, more)) in
      omega (arith, p, w))
  | inr one ↦ (let w : 2 ^ ((b + 1) / 2) ≤ 2 ^ 1 = pow_mono {j = 1} (omega (arith, one)) in omega (arith, w, some))
])

-- ---- the rows of the code

module _ {E : Type 0} (f : E → List WholeSegment) where
  pub row_read : (items : List E) (i : ℕ) (row : E) → i < length items → row ≡ get_or items i row → row_at (map f items) i ≡ f row
  row_read [] i row h e = absurd (omega (arith, h))
  row_read (r ∷ items) zero row h e = ap f (sym e)
  row_read (r ∷ items) (suc i) row h e = row_read items i row (omega (arith, h)) e

  pub rows_cut : (items new : List E) (i half : ℕ) (row low high : E) → i < length items → row ≡ get_or items i row → f low ≡ take half (f row) → f high ≡ drop half (f row) → new ≡ insert (slice_set items i low) (i + 1) high →
      map f new ≡ cut_at (map f items) i (take half (row_at (map f items) i)) (drop half (row_at (map f items) i))
  rows_cut items new i half row low high h read l u is =
      let here = row_read items i row h read in
      ap (map f) is ∙ entries_put f (slice_set items i low) (i + 1) (i + 1) high
      ∙ ap (λ n. take n (map f (slice_set items i low)) ++ f high ∷ drop n (map f (slice_set items i low))) (add-one i)
      ∙ ap (λ ls. insert ls (suc i) (f high)) (map-set f items i low)
      ∙ ap₂ (λ a b. cut_at (map f items) i a b) (l ∙ ap (take half) (sym here)) (u ∙ ap (drop half) (sym here))

-- an index among rows is in one of them, if there are some
pub index_inside : (rows : List (List WholeSegment)) (row at : ℕ) → IsIndexIn rows row at → length rows ≢ 0 → (row < length rows) × (at ≤ length (row_at rows row))
index_inside rows r at i some = elim i [ inl none ↦ absurd (some none.0) | inr is ↦ is ]

-- without those at the end that have ended
pub trimmed : (x : ℤ) (ks : List WholeSegment) (left : ℕ) → left ≤ length ks → ((k : ℕ) → left ≤ k → k < length ks → lasts_past x ks k ≡ false) → KeepsLasting x ks (take left ks)
trimmed x ks left within ended = record {
  kept =
      let same : left + (length ks - left) ≡ length ks = omega (arith, within) in
      let none = skip_ended x ks left (length ks - left) (omega (arith, within)) (λ k a b. ended k a (omega (arith, b))) ∙ ap (λ n. lasting_of x (drop n ks)) same ∙ ap (lasting_of x) (drop_whole ks) in
      sym (append-nil (lasting_of x (take left ks))) ∙ ap (λ l. lasting_of x (take left ks) ++ l) (sym none) ∙ sym (filter-append (λ s. int_lt x s.pair.b.x) (take left ks) (drop left ks)) ∙ ap (lasting_of x) (take-append-drop left ks);
  begun = λ z a. All-take (λ s. s.pair.a.x ≤ℤ z) left ks a;
  fewer = omega (arith, length-take left ks);
}

pub trimmed_last : (x : ℤ) (ks : List WholeSegment) (left : ℕ) → left ≤ length ks → 0 < left → lasts_past x (take left ks) (left - 1) ≡ lasts_past x ks (left - 1)
trimmed_last x ks left within some = ap (λ (s : WholeSegment). int_lt x s.pair.b.x) (get_or-take left ks (left - 1) _ (omega (arith, some)))

pub ended_down : (lasts : ℕ → Bool) (left many : ℕ) → lasts (left - 1) ≡ false → ((k : ℕ) → left ≤ k → k < many → lasts k ≡ false) → (k : ℕ) → left - 1 ≤ k → k < many → lasts k ≡ false
ended_down lasts left many here ended k a b = elim (cases_lt (left - 1) k) [
  | inl later ↦ ended k (omega (arith, later)) b
  | inr first ↦ (let same : k ≡ left - 1 = omega (arith, first, a) in rw same here)
]

-- ---- amid a search among rows

pub record IsFinding (x : ℤ) (before : WholeSegment → Bool) (old rows : List (List WholeSegment)) (low high : ℕ) : Type 0 where
  pub order : low ≤ high
  pub within : high ≤ length rows
  pub some : HaveSome rows
  pub below : (low ≡ 0) ⊎ EndsWith x before true (row_at rows (low - 1))
  pub above : (high ≡ length rows) ⊎ EndsWith x before false (row_at rows high)
  pub keeps : KeepsLasting x (joined old) (joined rows)
  pub paid : length old + length (joined rows) ≤ length rows + length (joined old)

pub finding_begins : (x : ℤ) (before : WholeSegment → Bool) (rows : List (List WholeSegment)) (high : ℕ) → HaveSome rows → high ≡ length rows → IsFinding x before rows rows 0 high
finding_begins x before rows high some whole = record {
  order = omega arith;
  within = omega (arith, whole);
  some = some;
  below = inl refl;
  above = inl whole;
  keeps = keeps_all x (joined rows);
  paid = omega arith;
}

module _ (x : ℤ) (before : WholeSegment → Bool) (old rows new : List (List WholeSegment)) (low high middle : ℕ) (s : IsFinding x before old rows low high) (over : low ≤ middle) (under : middle < high) where
  inside : middle < length rows
  inside = omega (arith, under, s.within)

  module _ (is : Bool) (t : IsTrimmed x before is middle rows new) where
    size : length new ≡ length rows
    size = ap (λ l. length l) t.set ∙ length-set rows middle t.row

    at_middle : row_at new middle ≡ t.row
    at_middle = ap (λ l. row_at l middle) t.set ∙ get_or-set_same rows middle t.row [] inside

    at_other : (i : ℕ) → i ≢ middle → row_at new i ≡ row_at rows i
    at_other i other = ap (λ l. row_at l i) t.set ∙ get_or-set_other rows middle i t.row [] other

    some_new : HaveSome new
    some_new = subst HaveSome (sym t.set) (set_some rows middle t.row (λ i h. inr (s.some i h)) t.ends.some)

    keeps_new : KeepsLasting x (joined old) (joined new)
    keeps_new = keeps_on x (joined old) (joined rows) (joined new) s.keeps (subst (λ l. KeepsLasting x (joined rows) (joined l)) (sym t.set) (keeps_set x rows middle t.row t.keeps))

    fewer_new : length (joined new) ≤ length (joined rows)
    fewer_new = (subst (λ l. KeepsLasting x (joined rows) (joined l)) (sym t.set) (keeps_set x rows middle t.row t.keeps)).fewer

    paid_new : length old + length (joined new) ≤ length new + length (joined old)
    paid_new = omega (arith, s.paid, fewer_new, size)

    below_new : (low ≡ 0) ⊎ EndsWith x before true (row_at rows (low - 1)) → (low ≡ 0) ⊎ EndsWith x before true (row_at new (low - 1))
    below_new (inl none) = inl none
    below_new (inr e) = elim (cases_eq low 0) [
      | inl none ↦ inl none
      | inr some ↦ inr (subst (EndsWith x before true) (sym (at_other (low - 1) (λ z. omega (arith, z, over, some)))) e)
    ]

    above_new : (high ≡ length rows) ⊎ EndsWith x before false (row_at rows high) → (high ≡ length new) ⊎ EndsWith x before false (row_at new high)
    above_new (inl whole) = inl (omega (arith, whole, size))
    above_new (inr e) = inr (subst (EndsWith x before false) (sym (at_other high (λ z. omega (arith, z, under)))) e)

  pub finding_up : IsTrimmed x before true middle rows new → IsFinding x before old new (middle + 1) high
  finding_up t = record {
    order = omega (arith, under);
    within = omega (arith, s.within, size true t);
    some = some_new true t;
    below = inr (let same : middle + 1 - 1 ≡ middle = omega arith in subst (EndsWith x before true) (sym (ap (row_at new) same ∙ at_middle true t)) t.ends);
    above = above_new true t s.above;
    keeps = keeps_new true t;
    paid = paid_new true t;
  }

  pub finding_down : IsTrimmed x before false middle rows new → IsFinding x before old new low middle
  finding_down t = record {
    order = over;
    within = omega (arith, inside, size false t);
    some = some_new false t;
    below = below_new false t s.below;
    above = inr (subst (EndsWith x before false) (sym (at_middle false t)) t.ends);
    keeps = keeps_new false t;
    paid = paid_new false t;
  }

  module _ (d : IsRowDropped x middle rows new) where
    one_less : length new + 1 ≡ length rows
    one_less = ap (λ l. length l + 1) d.removed ∙ length-remove rows middle inside

    left_below : (i : ℕ) → i < middle → row_at new i ≡ row_at rows i
    left_below i h = ap (λ l. row_at l i) d.removed ∙ get_or-remove_below rows middle [] i h inside

    left_above : (i : ℕ) → middle ≤ i → row_at new i ≡ row_at rows (i + 1)
    left_above i h = ap (λ l. row_at l i) d.removed ∙ get_or-remove_above rows middle [] i h inside

    some_less : HaveSome new
    some_less i h = elim (cases_lt i middle) [
      | inl under_it ↦ rw (left_below i under_it) (s.some i (omega (arith, h, one_less)))
      | inr over_it ↦ rw (left_above i over_it) (s.some (i + 1) (omega (arith, h, one_less)))
    ]

    keeps_less : KeepsLasting x (joined rows) (joined new)
    keeps_less = subst (λ l. KeepsLasting x (joined rows) (joined l)) (sym d.removed) (keeps_removed x rows middle d.keeps)

    below_less : (low ≡ 0) ⊎ EndsWith x before true (row_at rows (low - 1)) → (low ≡ 0) ⊎ EndsWith x before true (row_at new (low - 1))
    below_less (inl none) = inl none
    below_less (inr e) = elim (cases_eq low 0) [
      | inl none ↦ inl none
      | inr some ↦ inr (subst (EndsWith x before true) (sym (left_below (low - 1) (omega (arith, over, some)))) e)
    ]

    above_less : (high ≡ length rows) ⊎ EndsWith x before false (row_at rows high) → (high - 1 ≡ length new) ⊎ EndsWith x before false (row_at new (high - 1))
    above_less (inl whole) = inl (omega (arith, whole, one_less))
    above_less (inr e) = let same : high - 1 + 1 ≡ high = omega (arith, under) in inr (subst (EndsWith x before false) (sym (left_above (high - 1) (omega (arith, under)) ∙ ap (row_at rows) same)) e)

    pub finding_without : IsFinding x before old new low (high - 1)
    finding_without = record {
      order = omega (arith, over, under);
      within = omega (arith, s.within, one_less);
      some = some_less;
      below = below_less s.below;
      above = above_less s.above;
      keeps = keeps_on x (joined old) (joined rows) (joined new) s.keeps keeps_less;
      paid = omega (arith, s.paid, one_less, dropped_one);
    }
      where
        without_row : (rows : List (List WholeSegment)) (i : ℕ) → i < length rows → length (joined (remove rows i)) + length (row_at rows i) ≡ length (joined rows)
        without_row [] i h = absurd (omega (arith, h))
        without_row (r ∷ rows) zero h = omega (arith, length-append r (joined rows))
        without_row (r ∷ rows) (suc i) h = let e = without_row rows i (omega (arith, h)) in omega (arith, e, length-append r (joined rows), length-append r (joined (remove rows i)))

        dropped_one : length (joined new) + 1 ≤ length (joined rows)
        dropped_one = let first = s.some middle inside in let parts = without_row rows middle inside in omega (arith, first, parts, ap (λ l. length (joined l)) d.removed)

pub found_above : (x : ℤ) (before : WholeSegment → Bool) (old rows : List (List WholeSegment)) (low high : ℕ) → IsFinding x before old rows low high → high ≤ low → (low ≡ length rows) ⊎ EndsWith x before false (row_at rows low)
found_above x before old rows low high s all = let same : high ≡ low = omega (arith, all, s.order) in subst (λ i. (i ≡ length rows) ⊎ EndsWith x before false (row_at rows i)) same s.above

-- ---- an entry of the code put in

pub entries_put_in : {E : Type 0} (f : E → WholeSegment) (lasts : ℕ → Bool) (items new : List E) (at : ℕ) (entry : E) → IsPutIn lasts at entry items new → IsPutIn lasts at (f entry) (map f items) (map f new)
entries_put_in f lasts items new at entry (inl e) = inl (ap (map f) e ∙ entries_put f items at at entry)
entries_put_in f lasts items new at entry (inr h) = inr (omega (arith, h.0, length-map items f), h.1, ap (map f) h.2 ∙ entries_put f items at (suc at) entry)

-- the same among rows whose entries are those of others
pub put_joined : (x : ℤ) (ks os new : List WholeSegment) (at index : ℕ) (e : WholeSegment) → ks ≡ os → at ≡ index → IsPutIn (lasts_past x ks) at e ks new → IsPutIn (lasts_past x os) index e os new
put_joined x ks os new at index e same here put = subst (λ l. IsPutIn (lasts_past x l) index e l new) same (subst (λ i. IsPutIn (lasts_past x ks) i e ks new) here put)

pub remove_set : {X : Type 0} (xs : List X) (i : ℕ) (a : X) → remove (slice_set xs i a) i ≡ remove xs i
remove_set [] zero a = refl
remove_set [] (suc i) a = refl
remove_set (x ∷ xs) zero a = refl
remove_set (x ∷ xs) (suc i) a = ap (λ l. x ∷ l) (remove_set xs i a)

pub none_of : {X : Type 0} (xs : List X) → length xs ≡ 0 → xs ≡ []
none_of [] e = refl
none_of (x ∷ xs) e = absurd (omega (arith, e))

-- what holds of a row with an entry put in, or in place of one that has ended
pub put_either : (x : ℤ) (ks new : List WholeSegment) (at : ℕ) (e : WholeSegment) → IsPutIn (lasts_past x ks) at e ks new → (P : List WholeSegment → Type 0) → P (take at ks ++ e ∷ drop at ks) → (at < length ks → lasts_past x ks at ≡ false → P (take at ks ++ e ∷ drop (suc at) ks)) → P new
put_either x ks new at e (inl f) P put over = subst P (sym f) put
put_either x ks new at e (inr h) P put over = subst P (sym h.2) (over h.0 h.1)

-- ---- no rows

pub rows_none : (x : ℤ) (rows : List (List WholeSegment)) (is_kept : Bool) (p : Point) → is_kept ≡ false → rows ≡ [] → AreCursorRows x rows is_kept p 0 0
rows_none x [] is_kept p none e = record { some = λ i h. absurd (omega (arith, h)); index = inl (refl, refl, refl); whole = cursor_none x [] is_kept p _ none (row_empty x [] refl) }
rows_none x (r ∷ rows) is_kept p none e = absurd (let n = ap (λ l. length l) e in omega (arith, n))
