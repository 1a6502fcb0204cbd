-- The join with data as one walk over a sorted list: neighbors on one pair are merged, and a sum is written down where its run ends, unless it is empty.
use Rattle.std.proofs.Common.{◌≡◌, Bool, true, false, List, [], ◌∷◌, ◌++◌, filter, refl, ap, ◌∙◌}
use Rattle.overlay_geometry.specs.Points.{pair_eq}
use Rattle.overlay_base.specs.Windings.{is_not_empty}
use Rattle.overlay_base.specs.EdgeData.{DataSegment, Hooks, kept_sum, merged, merge_runs, merge_sorted}

module _ {D S : Type 0} (hooks : Hooks D S) where
  -- the walk; first is what was merged so far
  unfoldable pub walked_runs : DataSegment D → List (DataSegment D) → S → List (DataSegment D) × S
  walked_runs first [] store = (kept_sum first, store)
  walked_runs first (next ∷ segments) store =
      elim (pair_eq first.pair next.pair) [
        | true ↦
            let joined : DataSegment D × S = merged hooks first next store in
            walked_runs joined.0 segments joined.1
        | false ↦
            let rest : List (DataSegment D) × S = walked_runs next segments store in
            (kept_sum first ++ rest.0, rest.1)
      ]

  unfoldable pub walked : List (DataSegment D) → S → List (DataSegment D) × S
  walked [] store = ([], store)
  walked (first ∷ segments) store = walked_runs first segments store

  -- what is kept of sums and of the store
  abbrev pub kept_of : List (DataSegment D) × S → List (DataSegment D) × S
  kept_of joined = (filter (λ s. is_not_empty s.count) joined.0, joined.1)

  kept_first : (first : DataSegment D) (rest : List (DataSegment D)) → kept_sum first ++ filter (λ s. is_not_empty s.count) rest ≡ filter (λ s. is_not_empty s.count) (first ∷ rest)
  kept_first first rest = by (is_not_empty first.count) refl
    where
      by : (b : Bool) → is_not_empty first.count ≡ b → kept_sum first ++ filter (λ s. is_not_empty s.count) rest ≡ filter (λ s. is_not_empty s.count) (first ∷ rest)
      by true e = rw e refl
      by false e = rw e refl

  pub walked_runs-is : (segments : List (DataSegment D)) (first : DataSegment D) (store : S) → walked_runs first segments store ≡ kept_of (merge_runs hooks first segments store)
  unfolding walked_runs merge_runs
  walked_runs-is [] first store = refl
  walked_runs-is (next ∷ segments) first store = by (λ f s. walked_runs-is segments f s) (pair_eq first.pair next.pair) refl
    where
      by : ((f : DataSegment D) (s : S) → walked_runs f segments s ≡ kept_of (merge_runs hooks f segments s)) → (b : Bool) → pair_eq first.pair next.pair ≡ b
          → walked_runs first (next ∷ segments) store ≡ kept_of (merge_runs hooks first (next ∷ segments) store)
      by ih true e =
          let joined : DataSegment D × S = merged hooks first next store in
          rw (e, walked_runs, merge_runs) (ih joined.0 joined.1)
      by ih false e =
          let rest : List (DataSegment D) × S = merge_runs hooks next segments store in
          rw (e, walked_runs, merge_runs) (λ i. ((ap (λ (w : List (DataSegment D) × S). kept_sum first ++ w.0) (ih next store) ∙ kept_first first rest.0) i, (ih next store i).1))

  pub walked-is : (segments : List (DataSegment D)) (store : S) → walked segments store ≡ kept_of (merge_sorted hooks segments store)
  unfolding walked merge_sorted
  walked-is [] store = refl
  walked-is (first ∷ segments) store = walked_runs-is segments first store
