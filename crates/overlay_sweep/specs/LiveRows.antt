-- What a row of live segments holds: those that have begun, from below; and rows one behind another, with a cursor.
use Rattle.std.specs.Prelude.{◌≡◌, ℕ, Bool, true, false, ◌+◌, ◌-◌, ◌^◌, ◌⊎◌, List, [], ◌∷◌, ◌++◌, suc, pos, ◌<◌, ◌≤◌, ℤ, ◌≤ℤ◌, int_lt, ◌||◌, flat_map, length, take, slice_index_or, All, ⊤}
use Rattle.std.specs.List.{range_with_len}
use Rattle.std.specs.Ordering.{is_lt}
use Rattle.overlay_base.specs.Segments.{WholeSegment}
use Rattle.overlay_base.specs.Windings.{empty}
use Rattle.overlay_geometry.specs.Points.{Point, Pair, turn, point_eq}
use Rattle.overlay_geometry.specs.Below.{under_segment_order}
use Rattle.overlay_sweep.specs.ChainWindings.{is_live}
use Rattle.overlay_sweep.specs.LivePositions.{IsLivePosition}

abbrev pub Has : {X : Type 0} → List X → X → Type 0
Has [] x = ⊥
Has (y ∷ ys) x = (y ≡ x) ⊎ Has ys x

-- the index of no node
abbrev pub none : ℕ
none = 2 ^ 64 - 1

-- ---- a way down, to the place of what is new

-- the last one lasts and comes before the place
pub record HasLast (lasts before : ℕ → Bool) (earlier : List ℕ) (last : ℕ) : Type 0 where
  pub front : List ℕ
  pub earlier_is : earlier ≡ front ++ last ∷ []
  pub lasts_on : lasts last ≡ true
  pub is_before : before last ≡ true

-- the first one lasts and does not come before the place
pub record HasFirst (lasts before : ℕ → Bool) (later : List ℕ) : Type 0 where
  pub first : ℕ
  pub rest : List ℕ
  pub later_is : later ≡ first ∷ rest
  pub lasts_on : lasts first ≡ true
  pub is_after : before first ≡ false

abbrev pub segment_at : List WholeSegment → ℕ → WholeSegment
segment_at segments i = slice_index_or segments i (record { pair = record { a = record { x = pos 0; y = pos 0 }; b = record { x = pos 0; y = pos 0 } }; count = empty })

-- whether the segment ends right of x
abbrev pub lasts_past : ℤ → List WholeSegment → ℕ → Bool
lasts_past x segments i = int_lt x (segment_at segments i).pair.b.x

abbrev pub is_live_at : ℤ → List WholeSegment → ℕ → Bool
is_live_at x segments i = is_live x (segment_at segments i).pair

-- of two that are live at x, the later one does not run below the earlier one
abbrev pub IsFromBelow : ℤ → List WholeSegment → List ℕ → Type 0
IsFromBelow x segments [] = ⊤
IsFromBelow x segments (i ∷ is) =
    ((j : ℕ) → Has is j → is_live_at x segments i ≡ true → is_live_at x segments j ≡ true → is_lt (under_segment_order (segment_at segments j).pair (segment_at segments i).pair) ≡ false)
    × IsFromBelow x segments is

-- a list of segments that begin by x, from below
pub record IsScanRow (x : ℤ) (segments : List WholeSegment) : Type 0 where
  pub begun : All (λ s. s.pair.a.x ≤ℤ x) segments
  pub from_below : IsFromBelow x segments (range_with_len 0 (length segments))

-- whether a segment runs below a point, or starts there
abbrev pub is_below_or_from : Point → Pair → Bool
is_below_or_from p s = int_lt (pos 0) (turn s.a s.b p) || point_eq s.a p

-- Such a list with a cursor, if one is kept, at its point's x: the segment just below the cursor has not ended, and runs below the point or starts there; the next one above that has not ended does neither.
pub record IsCursorRow (x : ℤ) (segments : List WholeSegment) (is_kept : Bool) (p : Point) (at : ℕ) : Type 0 where
  pub row : IsScanRow x segments
  pub cursor : is_kept ≡ true → p.x ≡ x → IsLivePosition (lasts_past x segments) (λ i. is_below_or_from p (segment_at segments i).pair) (length segments) at

-- the rows of a list of rows one behind another
abbrev pub joined : List (List WholeSegment) → List WholeSegment
joined rows = flat_map (λ row. row) rows

abbrev pub row_at : List (List WholeSegment) → ℕ → List WholeSegment
row_at rows i = slice_index_or rows i []

-- no row is empty
abbrev pub HaveSome : List (List WholeSegment) → Type 0
HaveSome rows = (i : ℕ) → i < length rows → 1 ≤ length (row_at rows i)

-- where an index in a row is among all
abbrev pub index_in : List (List WholeSegment) → ℕ → ℕ → ℕ
index_in rows row at = length (joined (take row rows)) + at

-- an index in a row, or just behind it; the first one where there is no row
abbrev pub IsIndexIn : List (List WholeSegment) → ℕ → ℕ → Type 0
IsIndexIn rows row at = ((length rows ≡ 0) × (row ≡ 0) × (at ≡ 0)) ⊎ ((row < length rows) × (at ≤ length (row_at rows row)))

-- such a list with a cursor, in rows none of which is empty
pub record AreCursorRows (x : ℤ) (rows : List (List WholeSegment)) (is_kept : Bool) (p : Point) (row at : ℕ) : Type 0 where
  pub some : HaveSome rows
  pub index : IsIndexIn rows row at
  pub whole : IsCursorRow x (joined rows) is_kept p (index_in rows row at)

-- such a list with no end left of the least one
pub record IsScanList (x : ℤ) (segments : List WholeSegment) (least_end : ℤ) : Type 0 where
  pub row : IsScanRow x segments
  pub least : All (λ s. least_end ≤ℤ s.pair.b.x) segments
