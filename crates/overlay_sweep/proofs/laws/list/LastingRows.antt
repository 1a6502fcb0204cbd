-- A row of entries, some of which have ended: what a search and a call leave of it, by those that last.
use Rattle.std.proofs.Common.{◌≡◌, ◌≢◌, ap, ap₂, refl, sym, subst, ◌∙◌, arith, inl, inr, add-one}
use Rattle.std.specs.Prelude.{ℕ, zero, suc, pos, ◌+◌, ◌-◌, ◌<◌, ◌≤◌, ℤ, ◌≤ℤ◌, ◌<ℤ◌, int_le, int_lt, Bool, true, false, not, cond, List, [], ◌∷◌, ◌++◌, map, filter, take, drop, length, slice_set, All}
use Rattle.std.specs.List.{Contains, range_with_len, take-map, drop-map}
use Rattle.std.specs.Ordering.{is_lt}
use Rattle.std.proofs.lemmas.Int.{ints}
use Rattle.std.proofs.lemmas.Bool.{cases_Bool, cases_eq, and_parts, both_ways}
use Rattle.std.proofs.lemmas.List.{length-append, length-map, length-take, length-drop, map-append, take-append-drop, append_assoc, take-set}
use Rattle.std.proofs.lemmas.Grind.{drop-set_at}
use Rattle.std.proofs.lemmas.List.Elements.{filter-append, All-append, All-take, All-drop}
use Rattle.std.proofs.Math.Seq.{take-append_seam, drop-append_seam}
use Rattle.overlay_base.specs.Windings.{Winding}
use Rattle.overlay_base.specs.Segments.{WholeSegment}
use Rattle.overlay_geometry.specs.Points.{Point, turn}
use Rattle.overlay_geometry.specs.Below.{under_segment_order}
use Rattle.overlay_geometry.proofs.laws.integers.Tests.{lt-test}
use Rattle.overlay_geometry.proofs.laws.lists.Lists.{filter-map}
use Rattle.overlay_sweep.specs.Live.{sum_below, AreFreeAt, HoldSameFrom}
use Rattle.overlay_sweep.specs.LiveRows.{Has, segment_at, lasts_past, IsFromBelow, IsScanRow}
use Rattle.overlay_sweep.specs.LivePositions.{IsLivePosition}
use Rattle.overlay_sweep.specs.steps.Positions.{IsPosition, IsPutIn}
use Rattle.overlay_sweep.proofs.laws.live.LiveSums.{HoldSameFrom-trans, All-between}
use Rattle.overlay_sweep.proofs.laws.live.ScanSums.{lasting, HoldSameFrom-lasting}
use Rattle.overlay_sweep.proofs.laws.list.ListReads.{read_whole}
use Rattle.overlay_sweep.proofs.laws.list.ListOrders.{from_below_same}
use Rattle.overlay_sweep.proofs.laws.list.ListAnswers.{row_kept, row_placed, placed_sums, default_found, last_found}

abbrev pub lasting_of : ℤ → List WholeSegment → List WholeSegment
lasting_of x ks = filter (λ t. lasting x t) ks

-- ---- the same lasting ones, the same sums

pub same_sums : (x : ℤ) (xs ys : List WholeSegment) → lasting_of x xs ≡ lasting_of x ys → HoldSameFrom x xs ys
same_sums x xs ys e s y h l = (
  λ m. (HoldSameFrom-lasting x ys s y h l).0 (subst (λ k. Contains k s) e ((HoldSameFrom-lasting x xs s y h l).1 m)),
  λ m. (HoldSameFrom-lasting x xs s y h l).0 (subst (λ k. Contains k s) (sym e) ((HoldSameFrom-lasting x ys s y h l).1 m)),
)

-- ---- in order, where those that last are

has_lasting : (test : ℕ → Bool) (is : List ℕ) (j : ℕ) → test j ≡ true → Has is j → Has (filter test is) j
has_lasting test (i ∷ is) j t (inl e) = rw (subst (λ k. test k ≡ true) (sym e) t) (inl e)
has_lasting test (i ∷ is) j t (inr m) = by_test (test i) (has_lasting test is j t m)
  where
    by_test : (b : Bool) → Has (filter test is) j → Has (cond b (i ∷ filter test is) (filter test is)) j
    by_test true h = inr h
    by_test false h = h
has_lasting test [] j t m = absurd m

ordered_whole : (x : ℤ) (ks : List WholeSegment) (order : List ℕ) → IsFromBelow x ks (filter (λ i. lasts_past x ks i) order) → IsFromBelow x ks order
ordered_whole x ks [] f = tt
ordered_whole x ks (i ∷ is) f = elim (cases_Bool (lasts_past x ks i)) [
  | inl t ↦
      (let g = rw t at f in (
        λ j m l o. g.0 j (has_lasting (λ k. lasts_past x ks k) is j (and_parts (int_le (segment_at ks j).pair.a.x x) _ o).1 m) l o,
        ordered_whole x ks is g.1,
      ))
  | inr t ↦ (
    λ j m l o. absurd (both_ways _ t (and_parts (int_le (segment_at ks i).pair.a.x x) _ l).1),
    ordered_whole x ks is (rw t at f),
  )
]

pub from_below_whole : (x : ℤ) (ks : List WholeSegment) → IsFromBelow x (lasting_of x ks) (range_with_len 0 (length (lasting_of x ks))) → IsFromBelow x ks (range_with_len 0 (length ks))
from_below_whole x ks f =
    let row : List ℕ = range_with_len 0 (length ks) in
    ordered_whole x ks row
    (from_below_same x (lasting_of x ks) ks (range_with_len 0 (length (lasting_of x ks))) (filter (λ i. lasts_past x ks i) row)
    (read_whole (lasting_of x ks) ∙ sym (ap (lasting_of x) (read_whole ks)) ∙ filter-map (λ t. lasting x t) (segment_at ks) row)
    f)

-- ---- parts of a row

segment_between : (ls rs : List WholeSegment) (s : WholeSegment) → segment_at (ls ++ s ∷ rs) (length ls) ≡ s
segment_between [] rs s = refl
segment_between (l ∷ ls) rs s = segment_between ls rs s

-- what is before an index, at it and behind it
pub parts_at : (ks : List WholeSegment) (i : ℕ) → i < length ks → take i ks ++ segment_at ks i ∷ drop (suc i) ks ≡ ks
parts_at [] i h = absurd (omega (arith, h))
parts_at (k ∷ ks) zero h = refl
parts_at (k ∷ ks) (suc i) h = ap (λ l. k ∷ l) (parts_at ks i (omega (arith, h)))

first_behind : (ks : List WholeSegment) (at : ℕ) → at < length ks → drop at ks ≡ segment_at ks at ∷ drop (suc at) ks
first_behind [] at h = absurd (omega (arith, h))
first_behind (k ∷ ks) zero h = refl
first_behind (k ∷ ks) (suc at) h = first_behind ks at (omega (arith, h))

last_before : (ks : List WholeSegment) (at : ℕ) → at < length ks → take (suc at) ks ≡ take at ks ++ segment_at ks at ∷ []
last_before [] at h = absurd (omega (arith, h))
last_before (k ∷ ks) zero h = refl
last_before (k ∷ ks) (suc at) h = ap (λ l. k ∷ l) (last_before ks at (omega (arith, h)))

-- ---- without an entry that has ended

pub without_ended : (x : ℤ) (ks : List WholeSegment) (i : ℕ) → i < length ks → lasts_past x ks i ≡ false → lasting_of x (take i ks ++ drop (suc i) ks) ≡ lasting_of x ks
without_ended x ks i h ended =
    filter-append (λ t. lasting x t) (take i ks) (drop (suc i) ks)
    ∙ sym (filter-append (λ t. lasting x t) (take i ks) (segment_at ks i ∷ drop (suc i) ks) ∙ rw ended refl)
    ∙ ap (lasting_of x) (parts_at ks i h)

pub all_without : {X : Type 0} (P : X → Type 0) (xs : List X) (i : ℕ) → All P xs → All P (take i xs ++ drop (suc i) xs)
all_without P xs i a = All-append P (take i xs) (drop (suc i) xs) (All-take P i xs a) (All-drop P (suc i) xs a)

-- the same of the code's entries
pub entries_without : {E Y : Type 0} (f : E → Y) (items : List E) (i : ℕ) → map f (take i items ++ drop (suc i) items) ≡ take i (map f items) ++ drop (suc i) (map f items)
entries_without f items i = map-append f (take i items) (drop (suc i) items) ∙ ap₂ (λ l r. l ++ r) (sym (take-map f i items)) (sym (drop-map f (suc i) items))

-- where the entries from one index up to another have ended
one_ended : (x : ℤ) (ks : List WholeSegment) (at : ℕ) → at < length ks → lasts_past x ks at ≡ false → lasting_of x (drop at ks) ≡ lasting_of x (drop (suc at) ks)
one_ended x ks at h ended = ap (lasting_of x) (first_behind ks at h) ∙ rw ended refl

pub skip_ended : (x : ℤ) (ks : List WholeSegment) (at n : ℕ) → at + n ≤ length ks → ((k : ℕ) → at ≤ k → k < at + n → lasts_past x ks k ≡ false) → lasting_of x (drop at ks) ≡ lasting_of x (drop (at + n) ks)
skip_ended x ks at zero h e = let same : at ≡ at + 0 = omega arith in ap (λ m. lasting_of x (drop m ks)) same
skip_ended x ks at (suc n) h e =
    let same : suc (at + n) ≡ at + suc n = omega arith in
    skip_ended x ks at n (omega (arith, h)) (λ k a b. e k a (omega (arith, b)))
    ∙ one_ended x ks (at + n) (omega (arith, h)) (e (at + n) (omega arith) (omega arith))
    ∙ ap (λ m. lasting_of x (drop m ks)) same

pub drop_whole : (ks : List WholeSegment) → drop (length ks) ks ≡ []
drop_whole [] = refl
drop_whole (k ∷ ks) = drop_whole ks

-- ---- a position among those that last

module _ (x : ℤ) (ks : List WholeSegment) (at : ℕ) where
  abbrev pub earlier : List WholeSegment
  earlier = lasting_of x (take at ks)

  abbrev pub later : List WholeSegment
  later = lasting_of x (drop at ks)

  pub lasting_parts : earlier ++ later ≡ lasting_of x ks
  lasting_parts = sym (filter-append (λ t. lasting x t) (take at ks) (drop at ks)) ∙ ap (lasting_of x) (take-append-drop at ks)

  lasting_last : (n : ℕ) → at ≡ suc n → n < length ks → lasts_past x ks n ≡ true → earlier ≡ lasting_of x (take n ks) ++ segment_at ks n ∷ []
  lasting_last n e h l = ap (λ m. lasting_of x (take m ks)) e ∙ ap (lasting_of x) (last_before ks n h) ∙ filter-append (λ t. lasting x t) (take n ks) (segment_at ks n ∷ []) ∙ rw l refl

  lasting_first : (n : ℕ) → n < length ks → lasts_past x ks n ≡ true → lasting_of x (drop n ks) ≡ segment_at ks n ∷ lasting_of x (drop (suc n) ks)
  lasting_first n h l = ap (lasting_of x) (first_behind ks n h) ∙ rw l refl

  module _ (before : ℕ → Bool) (place : IsLivePosition (lasts_past x ks) before (length ks) at) where
    -- what is below the position, among those that last
    pub found_last : at ≢ 0 → (length earlier ≢ 0) × (segment_at (lasting_of x ks) (length earlier - 1) ≡ segment_at ks (at - 1)) × (before (at - 1) ≡ true)
    found_last n = elim place.last_is [
      | inl none ↦ absurd (n none)
      | inr is ↦
          (let one : at ≡ suc (at - 1) = omega (arith, n) in
          let within : at - 1 < length ks = omega (arith, n, place.within) in
          let e = lasting_last (at - 1) one within is.0 in
          let front : List WholeSegment = lasting_of x (take (at - 1) ks) in
          let size : length earlier ≡ length front + 1 = ap (λ l. length l) e ∙ length-append front (segment_at ks (at - 1) ∷ []) in
          let index : length earlier - 1 ≡ length front = omega (arith, size) in
          let whole : (front ++ segment_at ks (at - 1) ∷ []) ++ later ≡ lasting_of x ks = ap (λ l. l ++ later) (sym e) ∙ lasting_parts in (
            (λ z. absurd (omega (arith, size, z))),
            ap₂ segment_at (sym whole ∙ append_assoc front (segment_at ks (at - 1) ∷ []) later) index ∙ segment_between front later (segment_at ks (at - 1)),
            is.1,
          ))
    ]

    from_next : later ≡ lasting_of x (drop place.behind.next ks)
    from_next =
        let far : at + (place.behind.next - at) ≡ place.behind.next = omega (arith, place.behind.order) in
        skip_ended x ks at (place.behind.next - at) (omega (arith, place.behind.order, place.behind.within)) (λ k a b. place.behind.ended k a (omega (arith, b, far)))
        ∙ ap (λ m. lasting_of x (drop m ks)) far

    found_first : place.behind.next ≢ length ks → (length earlier < length (lasting_of x ks)) × (segment_at (lasting_of x ks) (length earlier) ≡ segment_at ks place.behind.next) × (before place.behind.next ≡ false)
    found_first n = elim place.behind.is [
      | inl all ↦ absurd (n all)
      | inr is ↦
          (let within : place.behind.next < length ks = omega (arith, n, place.behind.within) in
          let e = from_next ∙ lasting_first place.behind.next within is.0 in
          let rest : List WholeSegment = lasting_of x (drop (suc place.behind.next) ks) in
          let whole : earlier ++ segment_at ks place.behind.next ∷ rest ≡ lasting_of x ks = ap (λ l. earlier ++ l) (sym e) ∙ lasting_parts in (
            (let size = ap (λ l. length l) (sym whole) ∙ length-append earlier (segment_at ks place.behind.next ∷ rest) in omega (arith, size)),
            ap (λ l. segment_at l (length earlier)) (sym whole) ∙ segment_between earlier rest (segment_at ks place.behind.next),
            is.1,
          ))
    ]

    pub all_before : place.behind.next ≡ length ks → length earlier ≡ length (lasting_of x ks)
    all_before e =
        let none : later ≡ [] = from_next ∙ ap (λ m. lasting_of x (drop m ks)) e ∙ ap (lasting_of x) (drop_whole ks) in
        let size = ap (λ l. length l) (sym lasting_parts) ∙ length-append earlier later in
        omega (arith, size, ap (λ (l : List WholeSegment). length l) none)

  pub lasting_position : (test : WholeSegment → Bool) → IsLivePosition (lasts_past x ks) (λ i. test (segment_at ks i)) (length ks) at → IsPosition (λ i. test (segment_at (lasting_of x ks) i)) (length (lasting_of x ks)) (length earlier)
  lasting_position test place = record {
    within = let size = ap (λ l. length l) (sym lasting_parts) ∙ length-append earlier later in omega (arith, size);
    last_is = elim (cases_eq at 0) [
      | inl none ↦ inl (ap (λ n. length (lasting_of x (take n ks))) none)
      | inr some ↦ (let f = found_last (λ i. test (segment_at ks i)) place some in inr (ap test f.1 ∙ f.2))
    ];
    first_is = elim (cases_eq place.behind.next (length ks)) [
      | inl all ↦ inl (all_before (λ i. test (segment_at ks i)) place all)
      | inr some ↦ (let f = found_first (λ i. test (segment_at ks i)) place some in inr (ap test f.1 ∙ f.2))
    ];
  }

-- ---- a call

module _ (x : ℤ) (os ks : List WholeSegment) (kept : lasting_of x ks ≡ lasting_of x os) where
  pub row_left : IsScanRow x os → All (λ s. s.pair.a.x ≤ℤ x) ks → IsScanRow x ks
  row_left l begun = record {
    begun = begun;
    from_below = from_below_whole x ks (row_kept x os (lasting_of x ks) kept l).from_below;
  }

  -- what is directly below a point
  module _ (p : Point) (same : p.x ≡ x) (l : IsScanRow x os) (free : AreFreeAt x os) (at : ℕ) (place : IsLivePosition (lasts_past x ks) (λ i. int_lt (pos 0) (turn (segment_at ks i).pair.a (segment_at ks i).pair.b p)) (length ks) at) (default : Winding) where
    abbrev below : WholeSegment → Bool
    below t = int_lt (pos 0) (turn t.pair.a t.pair.b p)

    pub none_found : at ≡ 0 → default ≡ sum_below os p default
    none_found none = default_found p os (lasting_of x ks) (length (earlier x ks at)) (lasting_position x ks at below place) default x same kept l free (ap (λ n. length (lasting_of x (take n ks))) none)

    pub one_found : at ≢ 0 → (segment_at ks (at - 1)).count ≡ sum_below os p default
    one_found some =
        let f = found_last x ks at (λ i. below (segment_at ks i)) place some in
        ap (λ (t : WholeSegment). t.count) (sym f.1) ∙ last_found p os (lasting_of x ks) (length (earlier x ks at)) (lasting_position x ks at below place) default x same kept l free f.0

  -- one more at its position
  module _ (e : WholeSegment) (at : ℕ) (place : IsLivePosition (lasts_past x ks) (λ i. not (is_lt (under_segment_order e.pair (segment_at ks i).pair))) (length ks) at) (ends : x <ℤ e.pair.b.x) where
    abbrev many : ℕ
    many = length (earlier x ks at)

    abbrev pub put : List WholeSegment
    put = take at ks ++ e ∷ drop at ks

    position : IsPosition (λ i. not (is_lt (under_segment_order e.pair (segment_at (lasting_of x ks) i).pair))) (length (lasting_of x ks)) many
    position = lasting_position x ks at (λ t. not (is_lt (under_segment_order e.pair t.pair))) place

    put_lasting : take many (lasting_of x ks) ++ e ∷ drop many (lasting_of x ks) ≡ lasting_of x put
    put_lasting =
        ap (λ l. take many l ++ e ∷ drop many l) (sym (lasting_parts x ks at))
        ∙ ap₂ (λ l r. l ++ e ∷ r) (take-append_seam (earlier x ks at) (later x ks at)) (drop-append_seam (earlier x ks at) (later x ks at))
        ∙ sym (filter-append (λ t. lasting x t) (take at ks) (e ∷ drop at ks) ∙ rw (lt-test x e.pair.b.x ends) refl)

    pub put_sums : HoldSameFrom x put (e ∷ os)
    put_sums =
        HoldSameFrom-trans x put (lasting_of x put) (e ∷ os)
        (λ s y h l. ((HoldSameFrom-lasting x put s y h l).1, (HoldSameFrom-lasting x put s y h l).0))
        (subst (λ l. HoldSameFrom x l (e ∷ os)) put_lasting (placed_sums x os (lasting_of x ks) kept e many position))

    pub put_row : IsScanRow x os → AreFreeAt x (e ∷ os) → e.pair.a.x ≡ x → All (λ s. s.pair.a.x ≤ℤ x) ks → IsScanRow x put
    put_row l free starts begun =
        let begins : e.pair.a.x ≤ℤ x = omega (arith, ints, starts) in
        let placed = row_placed x os (lasting_of x ks) kept e many position l free starts ends in record {
          begun = All-between (λ s. s.pair.a.x ≤ℤ x) e (take at ks) (drop at ks) begins (subst (λ l. All (λ s. s.pair.a.x ≤ℤ x) l) (sym (take-append-drop at ks)) begun);
          from_below = from_below_whole x put (subst (λ l. IsFromBelow x l (range_with_len 0 (length l))) put_lasting placed.from_below);
        }

  -- the same in place of one that has ended
  module _ (e : WholeSegment) (at : ℕ) (place : IsLivePosition (lasts_past x ks) (λ i. not (is_lt (under_segment_order e.pair (segment_at ks i).pair))) (length ks) at) (ends : x <ℤ e.pair.b.x) (inside : at < length ks) (ended : lasts_past x ks at ≡ false) where
    abbrev pub over : List WholeSegment
    over = take at ks ++ e ∷ drop (suc at) ks

    over_lasting : lasting_of x over ≡ lasting_of x (take at ks ++ e ∷ drop at ks)
    over_lasting =
        filter-append (λ t. lasting x t) (take at ks) (e ∷ drop (suc at) ks)
        ∙ ap (λ l. lasting_of x (take at ks) ++ l) (let same : lasting_of x (e ∷ drop (suc at) ks) ≡ lasting_of x (e ∷ drop at ks) = rw (lt-test x e.pair.b.x ends) (ap (λ l. e ∷ l) (sym (one_ended x ks at inside ended))) in same)
        ∙ sym (filter-append (λ t. lasting x t) (take at ks) (e ∷ drop at ks))

    pub over_sums : HoldSameFrom x over (e ∷ os)
    over_sums = HoldSameFrom-trans x over (take at ks ++ e ∷ drop at ks) (e ∷ os) (same_sums x over (take at ks ++ e ∷ drop at ks) over_lasting) (put_sums e at place ends)

    pub over_row : IsScanRow x os → AreFreeAt x (e ∷ os) → e.pair.a.x ≡ x → All (λ s. s.pair.a.x ≤ℤ x) ks → IsScanRow x over
    over_row l free starts begun =
        let begins : e.pair.a.x ≤ℤ x = omega (arith, ints, starts) in
        let row = put_row e at place ends l free starts begun in record {
          begun = All-between (λ s. s.pair.a.x ≤ℤ x) e (take at ks) (drop (suc at) ks) begins (all_without (λ s. s.pair.a.x ≤ℤ x) ks at begun);
          from_below = from_below_whole x over (row_kept x (take at ks ++ e ∷ drop at ks) (lasting_of x over) over_lasting row).from_below;
        }

-- ---- an entry put in, or in place of one that has ended

pub entries_put : {E Y : Type 0} (f : E → Y) (items : List E) (at rest : ℕ) (entry : E) → map f (take at items ++ entry ∷ drop rest items) ≡ take at (map f items) ++ f entry ∷ drop rest (map f items)
entries_put f items at rest entry = map-append f (take at items) (entry ∷ drop rest items) ∙ ap₂ (λ l r. l ++ f entry ∷ r) (sym (take-map f at items)) (sym (drop-map f rest items))

pub put_in : {E : Type 0} (f : E → WholeSegment) (x : ℤ) (items new : List E) (at : ℕ) (entry : E) → IsPutIn (lasts_past x (map f items)) at entry items new → (P : List WholeSegment → Type 0) → P (take at (map f items) ++ f entry ∷ drop at (map f items)) →
    (at < length (map f items) → lasts_past x (map f items) at ≡ false → P (take at (map f items) ++ f entry ∷ drop (suc at) (map f items))) → P (map f new)
put_in f x items new at entry (inl e) P put over = subst P (sym (ap (map f) e ∙ entries_put f items at at entry)) put
put_in f x items new at entry (inr h) P put over = subst P (sym (ap (map f) h.2 ∙ entries_put f items at (suc at) entry)) (over (omega (arith, h.0, length-map items f)) h.1)

pub put_longer : {E : Type 0} (lasts : ℕ → Bool) (items new : List E) (at : ℕ) (entry : E) → IsPutIn lasts at entry items new → length new ≤ suc (length items)
put_longer lasts items new at entry (inl e) = omega (arith, ap (λ l. length l) e, length-append (take at items) (entry ∷ drop at items), length-take at items, length-drop at items)
put_longer lasts items new at entry (inr h) = omega (arith, ap (λ l. length l) h.2, length-append (take at items) (entry ∷ drop (suc at) items), length-take at items, length-drop (suc at) items)

pub set_in : {E : Type 0} (items : List E) (at : ℕ) (entry : E) → at < length items → slice_set items at entry ≡ take at items ++ entry ∷ drop (suc at) items
set_in items at entry h =
    sym (take-append-drop at (slice_set items at entry))
    ∙ ap₂ (λ l r. l ++ r) (take-set items at entry) (drop-set_at items at at entry refl h ∙ ap (λ n. entry ∷ drop n items) (add-one at))
