-- What the hooks leave of a store: joins call nothing else.
use Rattle.std.proofs.Common.{◌≡◌, Bool, true, false, List, [], ◌∷◌, refl, sym, subst, take}
use Rattle.std.specs.Prelude.{Result, Ok, Err, OnOk, OnErr}
use Rattle.overlay_geometry.specs.Points.{Point, point_lt, pair_cmp, pair_eq}
use Rattle.overlay_geometry.specs.Sorting.{stably_sorted}
use Rattle.overlay_base.specs.Windings.{Winding}
use Rattle.overlay_base.specs.EdgeData.{DataSegment, Hooks, IsMadeFrom, data_piece, merged, merge_runs, merge_sorted, data_join, IsStoppedJoin}
use Rattle.overlay_base.specs.EdgeData.IsMadeFrom.{no_call, after_reversed, after_split, after_merge}
use Rattle.overlay_base.specs.Laws.{StoreKeepsWhatHooksKeep}

module _ {D S : Type 0} (hooks : Hooks D S) where
  -- what is made of what was made
  pub made_further : {from middle left : S} → IsMadeFrom hooks from middle → IsMadeFrom hooks middle left → IsMadeFrom hooks from left
  made_further first no_call = first
  made_further first (after_reversed d m) = after_reversed d (made_further first m)
  made_further first (after_split call m) = after_split call (made_further first m)
  made_further first (after_merge call m) = after_merge call (made_further first m)

  pub made_by_piece : (count : Winding) (p q : Point) (d : D) (store : S) → IsMadeFrom hooks store (data_piece hooks count p q d store).1
  unfolding data_piece
  made_by_piece count p q d store = by (point_lt p q) refl
    where
      by : (b : Bool) → point_lt p q ≡ b → IsMadeFrom hooks store (data_piece hooks count p q d store).1
      by true e = rw (e, data_piece) no_call
      by false e = rw (e, data_piece) (after_reversed d no_call)

  made_by_runs : (first : DataSegment D) (ss : List (DataSegment D)) (store : S) → IsMadeFrom hooks store (merge_runs hooks first ss store).1
  unfolding merge_runs merged
  made_by_runs first [] store = no_call
  made_by_runs first (next ∷ ss) store =
      by (pair_eq first.pair next.pair) refl (made_by_runs (merged hooks first next store).0 ss (merged hooks first next store).1) (made_by_runs next ss store)
    where
      by : (b : Bool) → pair_eq first.pair next.pair ≡ b → IsMadeFrom hooks (merged hooks first next store).1 (merge_runs hooks (merged hooks first next store).0 ss (merged hooks first next store).1).1
          → IsMadeFrom hooks store (merge_runs hooks next ss store).1 → IsMadeFrom hooks store (merge_runs hooks first (next ∷ ss) store).1
      by true e joined rest = rw (e, merge_runs) (made_further (after_merge _ no_call) joined)
      by false e joined rest = rw (e, merge_runs) rest

  made_by_sorted : (ss : List (DataSegment D)) (store : S) → IsMadeFrom hooks store (merge_sorted hooks ss store).1
  unfolding merge_sorted
  made_by_sorted [] store = no_call
  made_by_sorted (first ∷ ss) store = made_by_runs first ss store

  pub made_by_join : (ss : List (DataSegment D)) (store : S) → IsMadeFrom hooks store (data_join hooks ss store).1
  unfolding data_join
  made_by_join ss store = made_by_sorted (stably_sorted (λ s t. pair_cmp s.pair t.pair) ss) store

  -- of a join, refused or not
  pub made_by_merge : {T E : Type 0} (result : Result T E) (ss : List (DataSegment D)) (from left : S)
      → OnOk result (left ≡ (data_join hooks ss from).1) → OnErr result (IsStoppedJoin hooks ss from left) → IsMadeFrom hooks from left
  made_by_merge (Ok x) ss from left joined stopped = subst (λ s. IsMadeFrom hooks from s) (sym joined) (made_by_join ss from)
  made_by_merge (Err x) ss from left joined stopped = subst (λ s. IsMadeFrom hooks from s) (sym stopped.store) (made_by_join (take stopped.stop ss) from)

pub store_keeps_what_hooks_keep : {D S : Type 0} → StoreKeepsWhatHooksKeep D S
store_keeps_what_hooks_keep hooks holds keeps from left no_call h = h
store_keeps_what_hooks_keep hooks holds keeps from left (after_reversed d m) h = keeps.reversed d _ (store_keeps_what_hooks_keep hooks holds keeps from _ m h)
store_keeps_what_hooks_keep hooks holds keeps from left (after_split call m) h = keeps.split call _ (store_keeps_what_hooks_keep hooks holds keeps from _ m h)
store_keeps_what_hooks_keep hooks holds keeps from left (after_merge call m) h = keeps.merge call _ (store_keeps_what_hooks_keep hooks holds keeps from _ m h)
