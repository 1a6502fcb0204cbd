-- Data that segments carry, and the hooks that are called where segments are turned, split and merged.
-- Each hook is a function of its arguments and of a store, and returns the new store beside its result.
use Rattle.std.specs.Prelude.{◌≡◌, ℕ, Bool, ◌+◌, ◌<◌, true, false, IsTrue, IsFalse, List, [], ◌∷◌, map, filter, length, take, if◌then◌else◌}
use Rattle.overlay_geometry.specs.Points.{Point, Pair, point_lt, pair_cmp, pair_eq}
use Rattle.overlay_geometry.specs.Sorting.{stably_sorted}
use Rattle.overlay_base.specs.Windings.{Winding, add, inverse, is_not_empty}
use Rattle.overlay_base.specs.Segments.{WholeSegment}
use Rattle.overlay_base.specs.Join.{join_leaves_range}

pub record DataSegment (D : Type 0) : Type 0 where
  pub pair : Pair
  pub count : Winding
  pub edge_data : D

-- a segment from a to b is split at p
pub record SplitCall (D : Type 0) : Type 0 where
  pub edge_data : D
  pub a : Point
  pub p : Point
  pub b : Point

-- two segments on one pair are merged: the joined left ones and the next one
pub record MergeCall (D : Type 0) : Type 0 where
  pub lhs_data : D
  pub lhs_count : Winding
  pub rhs_data : D
  pub rhs_count : Winding
  pub out_count : Winding

pub record Hooks (D S : Type 0) : Type 0 where
  pub reversed : D → S → D × S
  pub split : SplitCall D → S → (D × D) × S
  pub merge : MergeCall D → S → D × S

-- The store is what calls of the hooks, one after another, make of an earlier one.
pub data IsMadeFrom {D S : Type 0} (hooks : Hooks D S) (from : S) : S → Type 0 where
  no_call : IsMadeFrom hooks from from
  after_reversed : {store : S} (edge_data : D) → IsMadeFrom hooks from store → IsMadeFrom hooks from (hooks.reversed edge_data store).1
  after_split : {store : S} (call : SplitCall D) → IsMadeFrom hooks from store → IsMadeFrom hooks from (hooks.split call store).1
  after_merge : {store : S} (call : MergeCall D) → IsMadeFrom hooks from store → IsMadeFrom hooks from (hooks.merge call store).1

-- what each hook keeps of the store that it is given
pub record HooksKeepStore {D S : Type 0} (hooks : Hooks D S) (holds : S → Bool) : Type 0 where
  pub reversed : (edge_data : D) (store : S) → IsTrue (holds store) → IsTrue (holds (hooks.reversed edge_data store).1)
  pub split : (call : SplitCall D) (store : S) → IsTrue (holds store) → IsTrue (holds (hooks.split call store).1)
  pub merge : (call : MergeCall D) (store : S) → IsTrue (holds store) → IsTrue (holds (hooks.merge call store).1)

-- a sum alone in a list, or nothing where it is empty
abbrev pub kept_sum : {D : Type 0} → DataSegment D → List (DataSegment D)
kept_sum s = if is_not_empty s.count then s ∷ [] else []

abbrev pub without_data : {D : Type 0} → List (DataSegment D) → List WholeSegment
without_data segments = map (λ s. record { pair = s.pair; count = s.count }) segments

module _ {D S : Type 0} (hooks : Hooks D S) where
  -- A segment made from p to q: where it runs backwards it is turned, its count inverted and its data reversed.
  unfoldable pub data_piece : Winding → Point → Point → D → S → DataSegment D × S
  data_piece count p q edge_data store =
      elim (point_lt p q) [
        | true ↦ (record { pair = record { a = p; b = q }; count = count; edge_data = edge_data }, store)
        | false ↦
            let turned : D × S = hooks.reversed edge_data store in
            (record { pair = record { a = q; b = p }; count = inverse count; edge_data = turned.0 }, turned.1)
      ]

  -- two segments on one pair: counts are added, then the data is merged
  unfoldable pub merged : DataSegment D → DataSegment D → S → DataSegment D × S
  merged left right store =
      let out : Winding = add left.count right.count in
      let joined : D × S = hooks.merge (record { lhs_data = left.edge_data; lhs_count = left.count; rhs_data = right.edge_data; rhs_count = right.count; out_count = out }) store in
      (record { pair = left.pair; count = out; edge_data = joined.0 }, joined.1)

  -- each run of equal pairs merged from left to right; first is what was joined so far
  unfoldable pub merge_runs : DataSegment D → List (DataSegment D) → S → List (DataSegment D) × S
  merge_runs first [] store = (first ∷ [], store)
  merge_runs first (next ∷ segments) store =
      elim (pair_eq first.pair next.pair) [
        | true ↦
            let joined : DataSegment D × S = merged first next store in
            merge_runs joined.0 segments joined.1
        | false ↦
            let rest : List (DataSegment D) × S = merge_runs next segments store in
            (first ∷ rest.0, rest.1)
      ]

  unfoldable pub merge_sorted : List (DataSegment D) → S → List (DataSegment D) × S
  merge_sorted [] store = ([], store)
  merge_sorted (first ∷ segments) store = merge_runs first segments store

  -- sorted stably by pair, merged, and without the segments whose count is empty
  unfoldable pub data_join : List (DataSegment D) → S → List (DataSegment D) × S
  data_join segments store =
      let joined : List (DataSegment D) × S = merge_sorted (stably_sorted (λ s t. pair_cmp s.pair t.pair) segments) store in
      (filter (λ s. is_not_empty s.count) joined.0, joined.1)

-- A join that was refused, of segments in order: `stop` of them were joined before the first sum that is too large was made, and the store is what that join leaves.
pub record IsStoppedJoin {D S : Type 0} (hooks : Hooks D S) (segments : List (DataSegment D)) (from left : S) : Type 0 where
  pub stop : ℕ
  pub before_end : stop < length segments
  pub fits : IsFalse (join_leaves_range (without_data (take stop segments)))
  pub leaves : IsTrue (join_leaves_range (without_data (take (stop + 1) segments)))
  pub store : left ≡ (data_join hooks (take stop segments) from).1

-- the same of segments in any order, which are sorted stably by pair first
abbrev pub IsRefusedJoin : {D S : Type 0} → Hooks D S → List (DataSegment D) → S → S → Type 0
IsRefusedJoin hooks segments from left = IsStoppedJoin hooks (stably_sorted (λ s t. pair_cmp s.pair t.pair) segments) from left
