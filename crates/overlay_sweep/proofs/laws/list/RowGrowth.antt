-- A row of live segments with one more.
use Rattle.std.proofs.Common.{◌≡◌, ap, refl, subst, arith, inl, inr, get_or}
use Rattle.std.specs.Prelude.{ℕ, zero, suc, ◌+◌, ◌-◌, ◌<◌, ◌≤◌, ℤ, ◌≤ℤ◌, int_le, int_lt, true, List, [], ◌∷◌, ◌++◌, length, All}
use Rattle.std.proofs.lemmas.Int.{ints}
use Rattle.std.proofs.lemmas.Bool.{and_parts, and_from}
use Rattle.std.proofs.lemmas.List.Elements.{All-contains}
use Rattle.overlay_base.specs.Segments.{WholeSegment}
use Rattle.overlay_sweep.specs.ChainWindings.{is_live}
use Rattle.overlay_sweep.specs.Live.{AreFreeAt}
use Rattle.overlay_sweep.specs.LiveRows.{Has, none, segment_at, is_live_at, IsFromBelow}
use Rattle.overlay_sweep.proofs.laws.live.LiveSums.{HoldSameFrom-push, AreFreeAt-same}
use Rattle.overlay_sweep.proofs.laws.columns.Members.{All-from_Has}
use Rattle.overlay_sweep.proofs.laws.list.RowOrders.{live_within}
use Rattle.overlay_geometry.proofs.laws.integers.Tests.{le-test, lt-test, lt-tested}
use Rattle.overlay_geometry.proofs.laws.lists.Elements.{Contains-from_Has, Has-append_out}
use Rattle.overlay_geometry.proofs.laws.lists.Lists as lists

-- ---- the tree at a later x

pub from_below_later : (x y : ℤ) (segments : List WholeSegment) (order : List ℕ) → ((i : ℕ) → is_live_at y segments i ≡ true → is_live_at x segments i ≡ true) → IsFromBelow x segments order → IsFromBelow y segments order
from_below_later x y segments [] h f = tt
from_below_later x y segments (i ∷ is) h f = (λ j m l k. f.0 j m (h i l) (h j k), from_below_later x y segments is h f.1)

pub live_earlier : (x y : ℤ) (segments : List WholeSegment) (i : ℕ) → x ≤ℤ y → ((j : ℕ) → j < length segments → (segment_at segments j).pair.a.x ≤ℤ x) → is_live_at y segments i ≡ true → is_live_at x segments i ≡ true
live_earlier x y segments i h b l =
    let parts = and_parts (int_le (segment_at segments i).pair.a.x y) (int_lt y (segment_at segments i).pair.b.x) l in
    let ends = lt-tested y (segment_at segments i).pair.b.x parts.1 in
    and_from _ _ (le-test (segment_at segments i).pair.a.x x (b i (live_within y segments i l))) (lt-test x (segment_at segments i).pair.b.x (omega (arith, ints)))

pub begun_by_index : (x : ℤ) (segments : List WholeSegment) → All (λ s. s.pair.a.x ≤ℤ x) segments → (j : ℕ) → j < length segments → (segment_at segments j).pair.a.x ≤ℤ x
begun_by_index x segments b j h = All-contains (λ s. s.pair.a.x ≤ℤ x) segments (segment_at segments j) b (j, h, get_or-default segments j h)
  where
    get_or-default : (xs : List WholeSegment) (j : ℕ) → j < length xs → get_or xs j (segment_at xs j) ≡ segment_at xs j
    get_or-default [] j h = absurd (omega (arith, h))
    get_or-default (x ∷ xs) zero h = refl
    get_or-default (x ∷ xs) (suc j) h = get_or-default xs j (omega (arith, h))

-- ---- a segment more, with a node of its own

pub length_pushed : {X : Type 0} (xs : List X) (v : X) → length (xs ++ v ∷ []) ≡ suc (length xs)
length_pushed [] v = refl
length_pushed (x ∷ xs) v = ap suc (length_pushed xs v)

pub segment_at_pushed : (segments : List WholeSegment) (s : WholeSegment) (i : ℕ) → i < length segments → segment_at (segments ++ s ∷ []) i ≡ segment_at segments i
segment_at_pushed [] s i h = absurd (omega (arith, h))
segment_at_pushed (t ∷ segments) s zero h = refl
segment_at_pushed (t ∷ segments) s (suc i) h = segment_at_pushed segments s i (omega (arith, h))

pub segment_at_last : (segments : List WholeSegment) (s : WholeSegment) → segment_at (segments ++ s ∷ []) (length segments) ≡ s
segment_at_last [] s = refl
segment_at_last (t ∷ segments) s = segment_at_last segments s

pub from_below_pushed : (x : ℤ) (segments : List WholeSegment) (s : WholeSegment) (order : List ℕ) → ((i : ℕ) → Has order i → i < length segments) → IsFromBelow x segments order → IsFromBelow x (segments ++ s ∷ []) order
from_below_pushed x segments s [] k f = tt
from_below_pushed x segments s (i ∷ is) k f =
    let same : segment_at (segments ++ s ∷ []) i ≡ segment_at segments i = segment_at_pushed segments s i (k i (inl refl)) in (
      λ j m l o.
          let too : segment_at (segments ++ s ∷ []) j ≡ segment_at segments j = segment_at_pushed segments s j (k j (inr m)) in
          rw (same, too) (f.0 j m (subst (λ (w : WholeSegment). is_live x w.pair ≡ true) same l) (subst (λ (w : WholeSegment). is_live x w.pair ≡ true) too o)),
      from_below_pushed x segments s is (λ j m. k j (inr m)) f.1,
    )

pub begun_pushed : (x : ℤ) (segments : List WholeSegment) (s : WholeSegment) → s.pair.a.x ≤ℤ x → All (λ s. s.pair.a.x ≤ℤ x) segments → All (λ s. s.pair.a.x ≤ℤ x) (segments ++ s ∷ [])
begun_pushed x segments s h b = All-from_Has (λ t. t.pair.a.x ≤ℤ x) (segments ++ s ∷ []) (λ t m. elim (Has-append_out segments (s ∷ []) t m) [
  | inl n ↦ All-contains (λ t. t.pair.a.x ≤ℤ x) segments t b (Contains-from_Has segments t n)
  | inr n ↦ elim n [ inl e ↦ subst (λ (w : WholeSegment). w.pair.a.x ≤ℤ x) e h | inr none ↦ absurd none ]
])

pub free_pushed : (x : ℤ) (segments : List WholeSegment) (s : WholeSegment) → AreFreeAt x (s ∷ segments) → AreFreeAt x (segments ++ s ∷ [])
free_pushed x segments s f = AreFreeAt-same x (segments ++ s ∷ []) (s ∷ segments) (HoldSameFrom-push x s segments) f

pub begun_member : (x : ℤ) (segments : List WholeSegment) → All (λ s. s.pair.a.x ≤ℤ x) segments → (s : WholeSegment) → lists.Has segments s → s.pair.a.x ≤ℤ x
begun_member x segments b s m = All-contains (λ s. s.pair.a.x ≤ℤ x) segments s b (Contains-from_Has segments s m)
