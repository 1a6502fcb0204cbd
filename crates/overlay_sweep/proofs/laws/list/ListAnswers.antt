-- What a search in a list returns, and the list after a call.
use Rattle.std.proofs.Common.{◌≡◌, ◌≢◌, ap, refl, sym, subst, ◌∙◌, arith, inl, inr}
use Rattle.std.specs.Prelude.{ℕ, suc, ◌+◌, ◌-◌, ◌<◌, ℤ, pos, ◌≤ℤ◌, ◌<ℤ◌, int_le, int_lt, Bool, true, false, not, cond, ◌&&◌, List, [], ◌∷◌, ◌++◌, filter, take, drop, length, All}
use Rattle.std.specs.List.{range_with_len}
use Rattle.std.specs.Ordering.{is_lt, ordering_then}
use Rattle.std.specs.Option.{option_map_or}
use Rattle.std.proofs.lemmas.Int.{ints}
use Rattle.std.proofs.lemmas.Bool.{and_from}
use Rattle.std.proofs.lemmas.List.{take-append-drop}
use Rattle.std.proofs.lemmas.List.Elements.{All-filter}
use Rattle.std.proofs.lemmas.List.FromFn.{length-range_with_len}
use Rattle.overlay_geometry.specs.Points.{Point, turn}
use Rattle.overlay_geometry.specs.Below.{height_cmp, angle_cmp, under_segment_order}
use Rattle.overlay_geometry.specs.Sorting.{greatest}
use Rattle.overlay_base.specs.Segments.{WholeSegment}
use Rattle.overlay_base.specs.Windings.{Winding}
use Rattle.overlay_geometry.proofs.laws.integers.Tests.{le-test, lt-test, lt-tested, le_through}
use Rattle.overlay_geometry.proofs.laws.lists.Lists as lists
use Rattle.overlay_sweep.specs.ChainWindings.{is_live, directly_below}
use Rattle.overlay_sweep.specs.Live.{sum_below, AreFreeAt, HoldSameFrom}
use Rattle.overlay_sweep.specs.LiveRows.{Has, segment_at, lasts_past, is_live_at, IsFromBelow, IsScanRow, IsScanList}
use Rattle.overlay_sweep.specs.steps.Positions.{IsPosition}
use Rattle.overlay_sweep.proofs.laws.live.LiveSums.{AreFreeAt-same, HoldSameFrom-cons, HoldSameFrom-trans, HoldSameFrom-between, All-between, begins_later}
use Rattle.overlay_sweep.proofs.laws.live.ScanSums.{lasting, HoldSameFrom-lasting}
use Rattle.overlay_sweep.proofs.laws.columns.Members.{All-from_Has}
use Rattle.overlay_sweep.proofs.laws.list.RowOrders.{live_within, sum_of_none, sum_of_last}
use Rattle.overlay_sweep.proofs.laws.list.RowGrowth.{from_below_later, live_earlier, begun_by_index, begun_pushed, begun_member}
use Rattle.overlay_sweep.proofs.laws.list.ListReads.{in_row, row_has}
use Rattle.overlay_sweep.proofs.laws.list.ListOrders.{from_below_lasting, last_of_row, first_of_row, row_at, from_below_placed}

-- ---- at a later x, and without any entry

pub row_later : (x y : ℤ) (ks : List WholeSegment) → x ≤ℤ y → IsScanRow x ks → IsScanRow y ks
row_later x y ks h l = record {
  begun = begins_later x y ks h l.begun;
  from_below = from_below_later x y ks (range_with_len 0 (length ks)) (λ i k. live_earlier x y ks i h (begun_by_index x ks l.begun) k) l.from_below;
}

list_later : (x y : ℤ) (ks : List WholeSegment) (least : ℤ) → x ≤ℤ y → IsScanList x ks least → IsScanList y ks least
list_later x y ks least h l = record { row = row_later x y ks h l.row; least = l.least }

pub row_empty : (x : ℤ) (ks : List WholeSegment) → ks ≡ [] → IsScanRow x ks
row_empty x ks e = subst (IsScanRow x) (sym e) (record { begun = λ k d h. absurd (omega (arith, h)); from_below = tt })

-- ---- no end is left of a lesser one

pub ends_later : (least next : ℤ) → next ≤ℤ least → (ks : List WholeSegment) → All (λ s. least ≤ℤ s.pair.b.x) ks → All (λ s. next ≤ℤ s.pair.b.x) ks
ends_later least next h ks a j d n = le_through next least _ h (a j d n)

-- ---- what lasts of the entries

module _ (x : ℤ) (os ks : List WholeSegment) (is : ks ≡ filter (λ t. lasting x t) os) where
  pub kept_sums : HoldSameFrom x ks os
  kept_sums = subst (λ l. HoldSameFrom x l os) (sym is) (HoldSameFrom-lasting x os)

  pub kept_live : All (λ s. x <ℤ s.pair.b.x) ks
  kept_live = All-from_Has (λ s. x <ℤ s.pair.b.x) ks (λ s m. lt-tested x s.pair.b.x (lists.Has-filter_out (λ t. lasting x t) os s (subst (λ l. lists.Has l s) is m)).1)

  kept_last : (i : ℕ) → i < length ks → lasts_past x ks i ≡ true
  kept_last = by_index ks kept_live
    where
      by_index : (ls : List WholeSegment) → All (λ s. x <ℤ s.pair.b.x) ls → (i : ℕ) → i < length ls → lasts_past x ls i ≡ true
      by_index ls a i h = lt-test x (segment_at ls i).pair.b.x (a i _ h)

  kept_begun : All (λ s. s.pair.a.x ≤ℤ x) os → All (λ s. s.pair.a.x ≤ℤ x) ks
  kept_begun b = subst (λ l. All (λ s. s.pair.a.x ≤ℤ x) l) (sym is) (All-filter (λ t. lasting x t) (λ s. s.pair.a.x ≤ℤ x) os b)

  kept_ordered : IsFromBelow x os (range_with_len 0 (length os)) → IsFromBelow x ks (range_with_len 0 (length ks))
  kept_ordered f = subst (λ l. IsFromBelow x l (range_with_len 0 (length l))) (sym is) (from_below_lasting x os f)

  pub row_kept : IsScanRow x os → IsScanRow x ks
  row_kept l = record { begun = kept_begun l.begun; from_below = kept_ordered l.from_below }

  pub list_kept : (least end y : ℤ) → IsScanList x os least → All (λ s. end ≤ℤ s.pair.b.x) ks → x ≤ℤ y → IsScanList y ks end
  list_kept least end y l a h = list_later x y ks end h (record { row = row_kept l.row; least = a })

  -- ---- one more in order

  module _ (e : WholeSegment) (at : ℕ) (place : IsPosition (λ i. not (is_lt (under_segment_order e.pair (segment_at ks i).pair))) (length ks) at) where
    whole : take at ks ++ drop at ks ≡ ks
    whole = take-append-drop at ks

    pub placed_sums : HoldSameFrom x (take at ks ++ e ∷ drop at ks) (e ∷ os)
    placed_sums =
        HoldSameFrom-trans x (take at ks ++ e ∷ drop at ks) (e ∷ ks) (e ∷ os)
        (subst (λ l. HoldSameFrom x (take at ks ++ e ∷ drop at ks) (e ∷ l)) whole (HoldSameFrom-between x e (take at ks) (drop at ks)))
        (HoldSameFrom-cons x e ks os kept_sums)

    all_placed : (P : WholeSegment → Type 0) → P e → All P ks → All P (take at ks ++ e ∷ drop at ks)
    all_placed P h a = All-between P e (take at ks) (drop at ks) h (subst (λ l. All P l) (sym whole) a)

    pub placed_live : x <ℤ e.pair.b.x → All (λ s. x <ℤ s.pair.b.x) (take at ks ++ e ∷ drop at ks)
    placed_live h = all_placed (λ s. x <ℤ s.pair.b.x) h kept_live

    pub ends_placed : (least end : ℤ) → All (λ s. least ≤ℤ s.pair.b.x) ks → end ≤ℤ least → end ≤ℤ e.pair.b.x → All (λ s. end ≤ℤ s.pair.b.x) (take at ks ++ e ∷ drop at ks)
    ends_placed least end a h k = all_placed (λ s. end ≤ℤ s.pair.b.x) k (ends_later least end h ks a)

    pub row_placed : IsScanRow x os → AreFreeAt x (e ∷ os) → e.pair.a.x ≡ x → x <ℤ e.pair.b.x → IsScanRow x (take at ks ++ e ∷ drop at ks)
    row_placed l free starts ends =
        let begins : e.pair.a.x ≤ℤ x = omega (arith, ints, starts) in record {
          begun = all_placed (λ s. s.pair.a.x ≤ℤ x) begins (kept_begun l.begun);
          from_below = from_below_placed x ks e (AreFreeAt-same x (e ∷ ks) (e ∷ os) (HoldSameFrom-cons x e ks os kept_sums) free)
              (begun_member x (ks ++ e ∷ []) (begun_pushed x ks e begins (kept_begun l.begun))) kept_last (and_from _ _ (le-test e.pair.a.x x begins) (lt-test x e.pair.b.x ends)) at place (kept_ordered l.from_below);
        }

    pub list_placed : (least end y : ℤ) → IsScanList x os least → AreFreeAt x (e ∷ os) → e.pair.a.x ≡ x → x <ℤ e.pair.b.x → All (λ s. end ≤ℤ s.pair.b.x) (take at ks ++ e ∷ drop at ks) → x ≤ℤ y → IsScanList y (take at ks ++ e ∷ drop at ks) end
    list_placed least end y l free starts ends a h = list_later x y (take at ks ++ e ∷ drop at ks) end h (record { row = row_placed l.row free starts ends; least = a })

-- ---- what is directly below a point

abbrev below_point : Point → WholeSegment → Bool
below_point p t = is_live p.x t.pair && int_lt (pos 0) (turn t.pair.a t.pair.b p)

ended_is_not : (a b c : Bool) → b ≡ false → ((a && b) && c) ≡ false
ended_is_not false b c h = refl
ended_is_not true b c h = rw h refl

live_of_lasting : (p : Point) (os : List WholeSegment) → filter (below_point p) (filter (λ t. lasting p.x t) os) ≡ filter (below_point p) os
live_of_lasting p [] = refl
live_of_lasting p (o ∷ os) = by_test (int_lt p.x o.pair.b.x) refl (live_of_lasting p os)
  where
    by_test : (b : Bool) → int_lt p.x o.pair.b.x ≡ b → filter (below_point p) (filter (λ t. lasting p.x t) os) ≡ filter (below_point p) os → filter (below_point p) (cond b (o ∷ filter (λ t. lasting p.x t) os) (filter (λ t. lasting p.x t) os)) ≡ filter (below_point p) (o ∷ os)
    by_test true h e = ap (λ l. cond (below_point p o) (o ∷ l) l) e
    by_test false h e = e ∙ sym (ap (λ b. cond b (o ∷ filter (below_point p) os) (filter (below_point p) os)) (ended_is_not (int_le o.pair.a.x p.x) (int_lt p.x o.pair.b.x) _ h))

sum_of_lasting : (p : Point) (os : List WholeSegment) (default : Winding) → sum_below (filter (λ t. lasting p.x t) os) p default ≡ sum_below os p default
unfolding sum_below directly_below
sum_of_lasting p os default = ap (λ l. option_map_or (λ s. s.count) (greatest (λ t u. ordering_then (height_cmp p.x t.pair u.pair) (angle_cmp t.pair u.pair)) l) default) (live_of_lasting p os)

module _ (p : Point) (os ks : List WholeSegment) (at : ℕ) (place : IsPosition (λ i. int_lt (pos 0) (turn (segment_at ks i).pair.a (segment_at ks i).pair.b p)) (length ks) at) (default : Winding) where
  module _ (is : ks ≡ filter (λ t. lasting p.x t) os) (l : IsScanRow p.x os) (free : AreFreeAt p.x os) where
    abbrev passes : ℕ → Bool
    passes i = int_lt (pos 0) (turn (segment_at ks i).pair.a (segment_at ks i).pair.b p)

    split : range_with_len 0 (length ks) ≡ range_with_len 0 at ++ range_with_len at (length ks - at)
    split = row_at (length ks) at place.within

    free_kept : AreFreeAt p.x ks
    free_kept = AreFreeAt-same p.x ks os (kept_sums p.x os ks is) free

    known : (i : ℕ) → Has (range_with_len 0 at ++ range_with_len at (length ks - at)) i → i < length ks
    known i m = let r = in_row 0 (length ks) i (subst (λ l. Has l i) (sym split) m) in omega (arith, r.1)

    has_live : (i : ℕ) → is_live_at p.x ks i ≡ true → Has (range_with_len 0 at ++ range_with_len at (length ks - at)) i
    has_live i live = subst (λ l. Has l i) split (row_has 0 (length ks) i (omega arith) (let w = live_within p.x ks i live in omega (arith, w)))

    ordered : IsFromBelow p.x ks (range_with_len 0 at ++ range_with_len at (length ks - at))
    ordered = subst (λ l. IsFromBelow p.x ks l) split (kept_ordered p.x os ks is l.from_below)

    same_sum : sum_below ks p default ≡ sum_below os p default
    same_sum = ap (λ l. sum_below l p default) is ∙ sum_of_lasting p os default

    nothing_below : at ≡ 0 → default ≡ sum_below os p default
    nothing_below e =
        sym (sum_of_none p ks free_kept (begun_member p.x ks (kept_begun p.x os ks is l.begun)) (range_with_len 0 at) (range_with_len at (length ks - at)) known has_live ordered
        (first_of_row passes passes (lasts_past p.x ks) (length ks) at place (λ i h. refl) (kept_last p.x os ks is)) default (ap (range_with_len 0) e))
        ∙ same_sum

    last_below : at ≢ 0 → (segment_at ks (at - 1)).count ≡ sum_below os p default
    last_below n =
        sym (sum_of_last p ks free_kept (begun_member p.x ks (kept_begun p.x os ks is l.begun)) (range_with_len 0 at) (range_with_len at (length ks - at)) known has_live ordered
        (first_of_row passes passes (lasts_past p.x ks) (length ks) at place (λ i h. refl) (kept_last p.x os ks is)) default (at - 1)
        (elim (last_of_row passes passes (lasts_past p.x ks) (length ks) at place (λ i h. refl) (kept_last p.x os ks is)) [
          | inl e ↦ absurd (n (sym (length-range_with_len 0 at) ∙ ap (λ l. length l) e.0))
          | inr h ↦ h
        ]))
        ∙ same_sum

  pub default_found : (x : ℤ) → p.x ≡ x → ks ≡ filter (λ t. lasting x t) os → IsScanRow x os → AreFreeAt x os → at ≡ 0 → default ≡ sum_below os p default
  default_found x e is l free = subst (λ z. ks ≡ filter (λ t. lasting z t) os → IsScanRow z os → AreFreeAt z os → at ≡ 0 → default ≡ sum_below os p default) e nothing_below is l free

  pub last_found : (x : ℤ) → p.x ≡ x → ks ≡ filter (λ t. lasting x t) os → IsScanRow x os → AreFreeAt x os → at ≢ 0 → (segment_at ks (at - 1)).count ≡ sum_below os p default
  last_found x e is l free = subst (λ z. ks ≡ filter (λ t. lasting z t) os → IsScanRow z os → AreFreeAt z os → at ≢ 0 → (segment_at ks (at - 1)).count ≡ sum_below os p default) e last_below is l free
