-- What hooks keep of data holds of all data after a run where it holds of all that is given.
use Rattle.std.proofs.Common.{◌≡◌, ℕ, zero, suc, Bool, true, false, List, [], ◌∷◌, take, drop, flat_map, refl}
use Rattle.std.specs.List.{AllByRecursion}
use Rattle.overlay_geometry.specs.Points.{Point, Pair, point_lt, pair_cmp, pair_eq}
use Rattle.overlay_base.specs.Windings.{Winding, is_not_empty}
use Rattle.overlay_base.specs.EdgeData.{DataSegment, SplitCall, Hooks, without_data, data_piece, merged, merge_runs, merge_sorted, data_join}
use Rattle.overlay_intersections.specs.Marks.{Placing}
use Rattle.overlay_intersections.specs.PassMarks.{marks_on}
use Rattle.overlay_cuts.specs.Path.{path_from, columns_of}
use Rattle.overlay_cuts.specs.Run.{Settings, placing_of_pass}
use Rattle.overlay_cuts.specs.DataPass.{data_pieces, data_pieces_of_each, data_cut_by, data_pass_by, data_pass, data_after_passes}
use Rattle.overlay_cuts.specs.Laws.{HooksKeep, DataCutKeepsWhatHooksKeep, DataKeepsWhatHooksKeep}
use Rattle.overlay_geometry.proofs.laws.lists.Lists.{AllByRecursion-append, AllByRecursion-filter_all, AllByRecursion-flat_map, AllByRecursion-take, AllByRecursion-from_list_all, list_all-from_AllByRecursion}
use Rattle.overlay_geometry.proofs.laws.lists.Elements.{AllByRecursion-drop}
use Rattle.overlay_base.proofs.laws.lists.StableSorts.{AllByRecursion-stably_sorted}

module _ {D S : Type 0} (hooks : Hooks D S) (has : D → Bool) (keeps : HooksKeep hooks has) where
  -- ---- joins

  good_piece : (count : Winding) (p q : Point) (d : D) (store : S) → has d ≡ true → has (data_piece hooks count p q d store).0.edge_data ≡ true
  unfolding data_piece
  good_piece count p q d store h = by (point_lt p q) refl
    where
      by : (b : Bool) → point_lt p q ≡ b → has (data_piece hooks count p q d store).0.edge_data ≡ true
      by true e = rw (e, data_piece) h
      by false e = rw (e, data_piece) (keeps.reversed d store h)

  good_runs : (first : DataSegment D) (ss : List (DataSegment D)) (store : S) → has first.edge_data ≡ true → AllByRecursion (λ s. has s.edge_data ≡ true) ss → AllByRecursion (λ s. has s.edge_data ≡ true) (merge_runs hooks first ss store).0
  unfolding merge_runs merged
  good_runs first [] store h a = (h, tt)
  good_runs first (next ∷ ss) store h a =
      by (pair_eq first.pair next.pair) refl (good_runs (merged hooks first next store).0 ss (merged hooks first next store).1 (keeps.merge _ store h a.0) a.1) (good_runs next ss store a.0 a.1)
    where
      by : (b : Bool) → pair_eq first.pair next.pair ≡ b → AllByRecursion (λ s. has s.edge_data ≡ true) (merge_runs hooks (merged hooks first next store).0 ss (merged hooks first next store).1).0
          → AllByRecursion (λ s. has s.edge_data ≡ true) (merge_runs hooks next ss store).0 → AllByRecursion (λ s. has s.edge_data ≡ true) (merge_runs hooks first (next ∷ ss) store).0
      by true e joined rest = rw (e, merge_runs) joined
      by false e joined rest = rw (e, merge_runs) (h, rest)

  good_sorted : (ss : List (DataSegment D)) (store : S) → AllByRecursion (λ s. has s.edge_data ≡ true) ss → AllByRecursion (λ s. has s.edge_data ≡ true) (merge_sorted hooks ss store).0
  unfolding merge_sorted
  good_sorted [] store a = tt
  good_sorted (first ∷ ss) store a = good_runs first ss store a.0 a.1

  good_join : (ss : List (DataSegment D)) (store : S) → AllByRecursion (λ s. has s.edge_data ≡ true) ss → AllByRecursion (λ s. has s.edge_data ≡ true) (data_join hooks ss store).0
  unfolding data_join
  good_join ss store a =
      AllByRecursion-filter_all (λ s. is_not_empty s.count) (λ s. has s.edge_data ≡ true) _
      (good_sorted _ store (AllByRecursion-stably_sorted (λ s t. pair_cmp s.pair t.pair) (λ s. has s.edge_data ≡ true) ss a))

  -- ---- passes

  good_pieces : (count : Winding) (p : Point) (points : List Point) (b : Point) (d : D) (store : S) → has d ≡ true → AllByRecursion (λ s. has s.edge_data ≡ true) (data_pieces hooks count p points b d store).0
  unfolding data_pieces
  good_pieces count p [] b d store h = tt
  good_pieces count p (q ∷ []) b d store h = (good_piece count p q d store h, tt)
  good_pieces count p (q ∷ r ∷ points) b d store h =
      let call : SplitCall D = record { edge_data = d; a = p; p = q; b = b } in
      let parts = keeps.split call store h in
      let first = data_piece hooks count p q (hooks.split call store).0.0 (hooks.split call store).1 in
      (good_piece count p q _ _ parts.0, good_pieces count q (r ∷ points) b _ first.1 parts.1)

  good_each : (marks : Pair → List Point) (ss : List (DataSegment D)) (store : S) → AllByRecursion (λ s. has s.edge_data ≡ true) ss → AllByRecursion (λ ps. AllByRecursion (λ s. has s.edge_data ≡ true) ps) (data_pieces_of_each hooks marks ss store).0
  unfolding data_pieces_of_each
  good_each marks [] store a = tt
  good_each marks (s ∷ ss) store a =
      let points = path_from s.pair.a (columns_of (marks s.pair)) s.pair.b in
      let here = data_pieces hooks s.count s.pair.a points s.pair.b s.edge_data store in
      (good_pieces s.count s.pair.a points s.pair.b s.edge_data store a.0, good_each marks ss here.1 a.1)

  firsts : (each : List (List (DataSegment D))) → AllByRecursion (λ ps. AllByRecursion (λ s. has s.edge_data ≡ true) ps) each → AllByRecursion (λ ps. AllByRecursion (λ s. has s.edge_data ≡ true) (take 1 ps)) each
  firsts [] a = tt
  firsts (ps ∷ each) a = (AllByRecursion-take (λ s. has s.edge_data ≡ true) 1 ps a.0, firsts each a.1)

  others : (each : List (List (DataSegment D))) → AllByRecursion (λ ps. AllByRecursion (λ s. has s.edge_data ≡ true) ps) each → AllByRecursion (λ ps. AllByRecursion (λ s. has s.edge_data ≡ true) (drop 1 ps)) each
  others [] a = tt
  others (ps ∷ each) a = (AllByRecursion-drop (λ s. has s.edge_data ≡ true) 1 ps a.0, others each a.1)

  good_cut : (marks : Pair → List Point) (ss : List (DataSegment D)) (store : S) → AllByRecursion (λ s. has s.edge_data ≡ true) ss → AllByRecursion (λ s. has s.edge_data ≡ true) (data_cut_by hooks marks ss store).0
  unfolding data_cut_by
  good_cut marks ss store a =
      let each = (data_pieces_of_each hooks marks ss store).0 in
      let all = good_each marks ss store a in
      AllByRecursion-append (λ s. has s.edge_data ≡ true) (flat_map (λ ps. take 1 ps) each) (flat_map (λ ps. drop 1 ps) each)
      (AllByRecursion-flat_map (λ ps. take 1 ps) (λ s. has s.edge_data ≡ true) each (firsts each all))
      (AllByRecursion-flat_map (λ ps. drop 1 ps) (λ s. has s.edge_data ≡ true) each (others each all))

  good_pass_by : (marks : Pair → List Point) (ss : List (DataSegment D)) (store : S) → AllByRecursion (λ s. has s.edge_data ≡ true) ss → AllByRecursion (λ s. has s.edge_data ≡ true) (data_pass_by hooks marks ss store).0
  good_pass_by marks ss store a = good_join _ (data_cut_by hooks marks ss store).1 (good_cut marks ss store a)

  good_pass : (placing : Placing) (ss : List (DataSegment D)) (store : S) → AllByRecursion (λ s. has s.edge_data ≡ true) ss → AllByRecursion (λ s. has s.edge_data ≡ true) (data_pass hooks placing ss store).0
  unfolding data_pass
  good_pass placing ss store a = good_pass_by (marks_on placing (without_data ss)) ss store a

  good_after : (settings : Settings) (given : List (DataSegment D)) (store : S) (k : ℕ) → AllByRecursion (λ s. has s.edge_data ≡ true) given → AllByRecursion (λ s. has s.edge_data ≡ true) (data_after_passes hooks settings given store k).0
  unfolding data_after_passes
  good_after settings given store zero a = good_join given store a
  good_after settings given store (suc k) a =
      let before = data_after_passes hooks settings given store k in
      good_pass (placing_of_pass settings (suc k)) before.0 before.1 (good_after settings given store k a)

pub data_cut_keeps_what_hooks_keep : {D S : Type 0} → DataCutKeepsWhatHooksKeep D S
data_cut_keeps_what_hooks_keep hooks has keeps marks segments store h =
    list_all-from_AllByRecursion (λ s. has s.edge_data) _ (good_pass_by hooks has keeps marks segments store (AllByRecursion-from_list_all (λ s. has s.edge_data) segments h))

pub data_keeps_what_hooks_keep : {D S : Type 0} → DataKeepsWhatHooksKeep D S
data_keeps_what_hooks_keep hooks has keeps settings given store k h =
    list_all-from_AllByRecursion (λ s. has s.edge_data) _ (good_after hooks has keeps settings given store k (AllByRecursion-from_list_all (λ s. has s.edge_data) given h))
