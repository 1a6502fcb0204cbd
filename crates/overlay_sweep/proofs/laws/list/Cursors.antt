-- The cursor of a row: what it says where a segment starts, and what it is after a call.
use Rattle.std.proofs.Common.{◌≡◌, ◌≢◌, ap, refl, sym, subst, ◌∙◌, arith, inl, inr}
use Rattle.std.specs.Prelude.{ℕ, zero, suc, pos, ◌+◌, ◌-◌, ◌*◌, ◌^◌, ◌<◌, ◌≤◌, ℤ, ◌≤ℤ◌, ◌<ℤ◌, int_lt, Bool, true, false, not, ◌||◌, ◌⊎◌, List, [], ◌∷◌, ◌++◌, take, drop, length, All}
use Rattle.std.specs.Ordering.{is_lt}
use Rattle.std.proofs.lemmas.Int.{ints}
use Rattle.std.proofs.lemmas.Bool.{both_ways, and_from, cases_lt}
use Rattle.std.proofs.lemmas.List.{length-append, length-take, length-drop}
use Rattle.std.proofs.Math.Pow.{pow_mono, pow-lt}
use Rattle.overlay_base.specs.Segments.{WholeSegment}
use Rattle.overlay_geometry.specs.Points.{Point, turn, point_eq}
use Rattle.overlay_geometry.specs.Below.{under_segment_order}
use Rattle.overlay_geometry.proofs.laws.geometry.Points.{same_by_eq, point_eq_same}
use Rattle.overlay_geometry.proofs.laws.integers.Tests.{le-test, lt-test}
use Rattle.overlay_geometry.proofs.laws.lists.Elements.{Contains-from_Has}
use Rattle.overlay_sweep.specs.ChainWindings.{is_live}
use Rattle.overlay_sweep.specs.Live.{AreFreeAt}
use Rattle.overlay_sweep.specs.LiveRows.{segment_at, lasts_past, is_below_or_from, IsScanRow, IsCursorRow}
use Rattle.overlay_sweep.specs.LivePositions.{HasNext, IsLivePosition}
use Rattle.overlay_sweep.specs.steps.Positions.{IsElsewhere}
use Rattle.overlay_sweep.proofs.laws.columns.ColumnOrder.{is_apart}
use Rattle.overlay_sweep.proofs.laws.columns.Tops.{spans_live}
use Rattle.overlay_sweep.proofs.laws.live.UnderOrders.{under_by_point}
use Rattle.overlay_sweep.proofs.laws.list.RowOrders.{live_member}

or_parts : (a b : Bool) → (a || b) ≡ false → (a ≡ false) × (b ≡ false)
or_parts true b h = absurd (both_ways true h refl)
or_parts false b h = (refl, h)

or_other : (a b : Bool) → (a || b) ≡ true → b ≡ false → a ≡ true
or_other true b h n = refl
or_other false b h n = absurd (both_ways b n h)

or_first : (a b : Bool) → a ≡ true → (a || b) ≡ true
or_first true b h = refl
or_first false b h = absurd (both_ways false refl h)

or_neither : (a b : Bool) → a ≡ false → b ≡ false → (a || b) ≡ false
or_neither true b h n = absurd (both_ways true h refl)
or_neither false b h n = n

or_latter : (a b : Bool) → b ≡ true → (a || b) ≡ true
or_latter true b h = refl
or_latter false b h = h

-- ---- a segment at the cursor

module _ (x : ℤ) (ks : List WholeSegment) (begun : All (λ s. s.pair.a.x ≤ℤ x) ks) (e : WholeSegment) (starts : e.pair.a.x ≡ x) (ends : x <ℤ e.pair.b.x) (free : AreFreeAt x (e ∷ ks)) where
  abbrev before : ℕ → Bool
  before i = not (is_lt (under_segment_order e.pair (segment_at ks i).pair))

  same_side : (i : ℕ) → i < length ks → lasts_past x ks i ≡ true → point_eq (segment_at ks i).pair.a e.pair.a ≡ false → before i ≡ int_lt (pos 0) (turn (segment_at ks i).pair.a (segment_at ks i).pair.b e.pair.a)
  same_side i h l n =
      let t : WholeSegment = segment_at ks i in
      let early : t.pair.a.x ≤ℤ x = begun i _ h in
      let live_t : is_live x t.pair ≡ true = and_from _ _ (le-test t.pair.a.x x early) l in
      let live_e : is_live x e.pair ≡ true = and_from _ _ (le-test e.pair.a.x x (omega (arith, ints, starts))) (lt-test x e.pair.b.x ends) in
      under_by_point x e.pair t.pair (spans_live x e.pair live_e) (spans_live x t.pair live_t)
      (is_apart e.pair t.pair (free.apart e t (Contains-from_Has (e ∷ ks) e (inl refl)) (Contains-from_Has (e ∷ ks) t (inr (live_member x ks i live_t))) live_e live_t))
      (omega (arith, ints, starts, early))
      (λ s. both_ways _ n (subst (λ q. point_eq t.pair.a q ≡ true) s (point_eq_same t.pair.a)))

  pub by_cursor : (at : ℕ) → IsLivePosition (lasts_past x ks) (λ i. is_below_or_from e.pair.a (segment_at ks i).pair) (length ks) at → (at ≡ 0) ⊎ ((point_eq (segment_at ks (at - 1)).pair.a e.pair.a ≡ false) ⊎ (not (is_lt (under_segment_order e.pair (segment_at ks (at - 1)).pair)) ≡ true)) →
      IsLivePosition (lasts_past x ks) (λ i. not (is_lt (under_segment_order e.pair (segment_at ks i).pair))) (length ks) at
  by_cursor at c ask = record { within = c.within; last_is = last c.last_is ask; behind = record { next = c.behind.next; order = c.behind.order; within = c.behind.within; ended = c.behind.ended; is = further c.behind.is } }
    where
      last : (at ≡ 0) ⊎ ((lasts_past x ks (at - 1) ≡ true) × (is_below_or_from e.pair.a (segment_at ks (at - 1)).pair ≡ true)) → (at ≡ 0) ⊎ ((point_eq (segment_at ks (at - 1)).pair.a e.pair.a ≡ false) ⊎ (before (at - 1) ≡ true)) → (at ≡ 0) ⊎ ((lasts_past x ks (at - 1) ≡ true) × (before (at - 1) ≡ true))
      last (inl z) a = inl z
      last (inr is) (inl z) = inl z
      last (inr is) (inr (inr b)) = inr (is.0, b)
      last (inr is) (inr (inl n)) = elim (cases_lt 0 at) [
        | inl some ↦ inr (is.0, same_side (at - 1) (omega (arith, some, c.within)) is.0 n ∙ or_other _ _ is.1 n)
        | inr none ↦ inl (omega (arith, none))
      ]

      further : (c.behind.next ≡ length ks) ⊎ ((lasts_past x ks c.behind.next ≡ true) × (is_below_or_from e.pair.a (segment_at ks c.behind.next).pair ≡ false)) → (c.behind.next ≡ length ks) ⊎ ((lasts_past x ks c.behind.next ≡ true) × (before c.behind.next ≡ false))
      further (inl all) = inl all
      further (inr is) = elim (cases_lt c.behind.next (length ks)) [
        | inl inside ↦ (let parts = or_parts _ _ is.1 in inr (is.0, same_side c.behind.next inside is.0 parts.1 ∙ parts.0))
        | inr past ↦ inl (omega (arith, past, c.behind.within))
      ]

-- ---- after a search for a point

pub found_cursor : (x : ℤ) (ks : List WholeSegment) (p : Point) (at : ℕ) → IsLivePosition (lasts_past x ks) (λ i. int_lt (pos 0) (turn (segment_at ks i).pair.a (segment_at ks i).pair.b p)) (length ks) at → IsElsewhere (lasts_past x ks) (λ i. point_eq (segment_at ks i).pair.a p) (length ks) at →
    IsLivePosition (lasts_past x ks) (λ i. is_below_or_from p (segment_at ks i).pair) (length ks) at
found_cursor x ks p at c other = record {
  within = c.within;
  last_is = elim c.last_is [ inl z ↦ inl z | inr is ↦ inr (is.0, or_first _ _ is.1) ];
  behind = record {
    next = c.behind.next;
    order = c.behind.order;
    within = c.behind.within;
    ended = c.behind.ended;
    is = elim c.behind.is [
      | inl all ↦ inl all
      | inr is ↦ elim (cases_lt c.behind.next (length ks)) [
        | inl inside ↦ inr (is.0, or_neither _ _ is.1 (other c.behind.next c.behind.order inside c.behind.ended is.0))
        | inr past ↦ inl (omega (arith, past, c.behind.within))
      ]
    ];
  };
}

-- ---- whether one from the point is behind it

pub ended_more : (lasts : ℕ → Bool) (from at : ℕ) → ((k : ℕ) → from ≤ k → k < at → lasts k ≡ false) → lasts at ≡ false → (k : ℕ) → from ≤ k → k < at + 1 → lasts k ≡ false
ended_more lasts from at ended here k a b = elim (cases_lt k at) [
  | inl before ↦ ended k a before
  | inr late ↦ (let same : k ≡ at = omega (arith, late, b) in rw same here)
]

pub next_elsewhere : (lasts there : ℕ → Bool) (many from at : ℕ) → ((k : ℕ) → from ≤ k → k < at → lasts k ≡ false) → from ≤ at → lasts at ≡ true → there at ≡ false → IsElsewhere lasts there many from
next_elsewhere lasts there many from at ended order live other next a b gone l = elim (cases_lt next at) [
  | inl before ↦ absurd (both_ways _ (ended next a before) l)
  | inr late ↦ elim (cases_lt at next) [
    | inl behind ↦ absurd (both_ways _ (gone at order behind) live)
    | inr here ↦ (let same : next ≡ at = omega (arith, late, here) in rw same other)
  ]
]

pub none_elsewhere : (lasts there : ℕ → Bool) (many from at : ℕ) → ((k : ℕ) → from ≤ k → k < at → lasts k ≡ false) → many ≤ at → IsElsewhere lasts there many from
none_elsewhere lasts there many from at ended all next a b gone l = absurd (both_ways _ (ended next a (omega (arith, all, b))) l)

-- ---- at the start of a segment

pub cursor_at : (x : ℤ) (ks : List WholeSegment) (is_kept : Bool) (p q : Point) (at : ℕ) → IsCursorRow x ks is_kept p at → is_kept ≡ true → point_eq p q ≡ true → q.x ≡ x → IsLivePosition (lasts_past x ks) (λ i. is_below_or_from q (segment_at ks i).pair) (length ks) at
cursor_at x ks is_kept p q at c kept same here =
    let e : p ≡ q = same_by_eq p q same in
    subst (λ (z : Point). IsLivePosition (lasts_past x ks) (λ i. is_below_or_from z (segment_at ks i).pair) (length ks) at) e (c.cursor kept (ap (λ (z : Point). z.x) e ∙ here))

-- the one below it last, where it is not before the place
pub next_at_last : (lasts before : ℕ → Bool) (many at : ℕ) → at ≤ many → at ≢ 0 → lasts (at - 1) ≡ true → before (at - 1) ≡ false → HasNext lasts before many (at - 1)
next_at_last lasts before many at within some l b = record { next = at - 1; order = omega arith; within = omega (arith, within); ended = λ k a c. absurd (omega (arith, a, c)); is = inr (l, b) }

pub below_lasts : (lasts before : ℕ → Bool) (many at : ℕ) → IsLivePosition lasts before many at → at ≢ 0 → lasts (at - 1) ≡ true
below_lasts lasts before many at c some = elim c.last_is [ inl none ↦ absurd (some none) | inr is ↦ is.0 ]

-- ---- after an insert at it

put_read : (ks rs : List WholeSegment) (e : WholeSegment) (at j k : ℕ) → at ≤ length ks → j ≡ at + suc k → segment_at (take at ks ++ e ∷ rs) j ≡ segment_at rs k
put_read [] rs e zero j k h q = let z : j ≡ suc k = omega (arith, q) in rw z refl
put_read (s ∷ ks) rs e zero j k h q = let z : j ≡ suc k = omega (arith, q) in rw z refl
put_read [] rs e (suc at) j k h q = absurd (omega (arith, h))
put_read (s ∷ ks) rs e (suc at) zero k h q = absurd (omega (arith, q))
put_read (s ∷ ks) rs e (suc at) (suc j) k h q = put_read ks rs e at j k (omega (arith, h)) (omega (arith, q))

put_itself : (ks rs : List WholeSegment) (e : WholeSegment) (at : ℕ) → at ≤ length ks → segment_at (take at ks ++ e ∷ rs) at ≡ e
put_itself [] rs e zero h = refl
put_itself (s ∷ ks) rs e zero h = refl
put_itself [] rs e (suc at) h = absurd (omega (arith, h))
put_itself (s ∷ ks) rs e (suc at) h = put_itself ks rs e at (omega (arith, h))

drop_read : (ks : List WholeSegment) (n k m : ℕ) → m ≡ n + k → segment_at (drop n ks) k ≡ segment_at ks m
drop_read ks zero k m q = let z : m ≡ k = omega (arith, q) in rw z refl
drop_read [] (suc n) k m q = refl
drop_read (s ∷ ks) (suc n) k zero q = absurd (omega (arith, q))
drop_read (s ∷ ks) (suc n) k (suc m) q = drop_read ks n k m (omega (arith, q))

module _ (x : ℤ) (ks : List WholeSegment) (e : WholeSegment) (ends : x <ℤ e.pair.b.x) (at : ℕ) (c : IsLivePosition (lasts_past x ks) (λ i. is_below_or_from e.pair.a (segment_at ks i).pair) (length ks) at) where
  abbrev test : List WholeSegment → ℕ → Bool
  test ls i = is_below_or_from e.pair.a (segment_at ls i).pair

  last_put : (rs : List WholeSegment) → (suc at ≡ 0) ⊎ ((lasts_past x (take at ks ++ e ∷ rs) (suc at - 1) ≡ true) × (test (take at ks ++ e ∷ rs) (suc at - 1) ≡ true))
  last_put rs =
      let one : suc at - 1 ≡ at = omega arith in
      let read = ap (segment_at (take at ks ++ e ∷ rs)) one ∙ put_itself ks rs e at c.within in
      inr (ap (λ (s : WholeSegment). int_lt x s.pair.b.x) read ∙ lt-test x e.pair.b.x ends, ap (λ (s : WholeSegment). is_below_or_from e.pair.a s.pair) read ∙ or_latter _ _ (point_eq_same e.pair.a))

  -- what is behind it, where n entries less are kept
  behind_put : (n : ℕ) → at ≤ n → n ≤ at + 1 → n ≤ c.behind.next → HasNext (lasts_past x (take at ks ++ e ∷ drop n ks)) (test (take at ks ++ e ∷ drop n ks)) (length (take at ks ++ e ∷ drop n ks)) (suc at)
  behind_put n low high under = record {
    next = (c.behind.next - n) + suc at;
    order = omega arith;
    within = omega (arith, long, c.behind.within, under);
    ended = λ k a b. ap (λ (s : WholeSegment). int_lt x s.pair.b.x) (reads k a) ∙ c.behind.ended ((k - suc at) + n) (omega (arith, a, low)) (omega (arith, a, b, under));
    is = elim c.behind.is [
      | inl all ↦ inl (omega (arith, long, all, under))
      | inr is ↦
          (let same : (((c.behind.next - n) + suc at) - suc at) + n ≡ c.behind.next = omega (arith, under) in
          let read = reads ((c.behind.next - n) + suc at) (omega arith) ∙ ap (segment_at ks) same in
          inr (ap (λ (s : WholeSegment). int_lt x s.pair.b.x) read ∙ is.0, ap (λ (s : WholeSegment). is_below_or_from e.pair.a s.pair) read ∙ is.1))
    ];
  }
    where
      long : length (take at ks ++ e ∷ drop n ks) ≡ suc at + (length ks - n)
      long = let parts = length-append (take at ks) (e ∷ drop n ks) in omega (arith, parts, length-take at ks, length-drop n ks, c.within)

      reads : (k : ℕ) → suc at ≤ k → segment_at (take at ks ++ e ∷ drop n ks) k ≡ segment_at ks ((k - suc at) + n)
      reads k h = put_read ks (drop n ks) e at k (k - suc at) c.within (omega (arith, h)) ∙ drop_read ks n (k - suc at) ((k - suc at) + n) (omega arith)

  pub cursor_put : IsLivePosition (lasts_past x (take at ks ++ e ∷ drop at ks)) (λ i. is_below_or_from e.pair.a (segment_at (take at ks ++ e ∷ drop at ks) i).pair) (length (take at ks ++ e ∷ drop at ks)) (suc at)
  cursor_put = let b = behind_put at (omega arith) (omega arith) c.behind.order in record { within = omega (arith, b.order, b.within); last_is = last_put (drop at ks); behind = b }

  pub cursor_over : lasts_past x ks at ≡ false → at < length ks → IsLivePosition (lasts_past x (take at ks ++ e ∷ drop (suc at) ks)) (λ i. is_below_or_from e.pair.a (segment_at (take at ks ++ e ∷ drop (suc at) ks) i).pair) (length (take at ks ++ e ∷ drop (suc at) ks)) (suc at)
  cursor_over ended inside =
      let further : suc at ≤ c.behind.next = elim (cases_lt at c.behind.next) [
        | inl l ↦ omega (arith, l)
        | inr h ↦ elim c.behind.is [
          | inl all ↦ omega (arith, all, inside)
          | inr is ↦ (let same : c.behind.next ≡ at = omega (arith, h, c.behind.order) in absurd (both_ways _ ended (rw same at is.0)))
        ]
      ] in
      let b = behind_put (suc at) (omega arith) (omega arith) further in
      record { within = omega (arith, b.order, b.within); last_is = last_put (drop (suc at) ks); behind = b }

-- ---- a row with a cursor at a later x

pub cursor_row : (x y : ℤ) (ks : List WholeSegment) (is_kept : Bool) (p : Point) (at : ℕ) → IsScanRow y ks → (is_kept ≡ true → (p.x ≡ x) × IsLivePosition (lasts_past x ks) (λ i. is_below_or_from p (segment_at ks i).pair) (length ks) at) → IsCursorRow y ks is_kept p at
cursor_row x y ks is_kept p at row c = record {
  row = row;
  cursor = λ k f. let own = c k in subst (λ z. IsLivePosition (lasts_past z ks) (λ i. is_below_or_from p (segment_at ks i).pair) (length ks) at) (sym own.0 ∙ f) own.1;
}

pub cursor_none : (y : ℤ) (ks : List WholeSegment) (is_kept : Bool) (p : Point) (at : ℕ) → is_kept ≡ false → IsScanRow y ks → IsCursorRow y ks is_kept p at
cursor_none y ks is_kept p at none row = record { row = row; cursor = λ k. absurd (both_ways is_kept none k) }

-- ---- how many orders

pub few_most : (more end many asked d : ℕ) → (more ≡ 0) ⊎ (2 ^ more ≤ 2 * end) → end + asked ≤ many → asked ≤ 1 → 2 * many ≤ 2 ^ d → more + asked ≤ d
few_most more end many asked d few room one most = elim (cases_lt d (more + asked)) [ inr fits ↦ fits | inl over ↦ absurd (contra over few) ]
  where
    contra : d < more + asked → (more ≡ 0) ⊎ (2 ^ more ≤ 2 * end) → ⊥
    contra over (inl none) =
        let zero_d : d ≡ 0 = omega (arith, over, none, one) in
        let p : 2 ^ d ≡ 1 = rw zero_d refl in
        omega (arith, p, over, none, one, room, most)
    contra over (inr some) = elim (cases_lt 0 asked) [
      | inl l ↦ (let w : 2 ^ d ≤ 2 ^ more = pow_mono (omega (arith, over, one)) in omega (arith, w, some, room, most, l))
      | inr z ↦ (let w : 2 ^ d < 2 ^ more = pow-lt (omega (arith, over, z)) in omega (arith, w, some, room, most))
    ]
