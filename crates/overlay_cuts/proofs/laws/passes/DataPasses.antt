-- Passes with data beside passes without. Data changes neither geometry nor counts, and where nothing is marked no hook is called.
use Rattle.std.proofs.Common.{◌≡◌, ◌==◌, ℕ, zero, suc, Bool, true, false, ◌&&◌, IsTrue, List, [], ◌∷◌, ◌++◌, map, filter, take, drop, flat_map, length, append-nil, is_lt, refl, sym, ap, ap₂, ◌∙◌, arith}
use Rattle.std.specs.List.{list_all, AllByRecursion}
use Rattle.std.proofs.lemmas.List.{map-append, take-map}
use Rattle.std.proofs.lemmas.List.Elements.{recursion_from_All}
use Rattle.std.proofs.lemmas.List.Folds.{flat_map-map, sum_by-zero, list_all-map}
use Rattle.std.proofs.lemmas.Bool.{and_parts, eqb-true, eq-eqb}
use Rattle.overlay_geometry.specs.Points.{Point, Pair, point_lt, pair_cmp, pair_eq, is_ordered}
use Rattle.overlay_geometry.specs.Sorting.{is_strictly_sorted, insert_before_ties, stably_sorted, distinct_in_order}
use Rattle.overlay_base.specs.Windings.{Winding, is_not_empty}
use Rattle.overlay_base.specs.Segments.{WholeSegment, pairs, is_map}
use Rattle.overlay_base.specs.Join.{join}
use Rattle.overlay_base.specs.Planar.{is_planar}
use Rattle.overlay_base.specs.EdgeData.{DataSegment, Hooks, without_data, data_piece, merge_runs, merge_sorted, data_join}
use Rattle.overlay_intersections.specs.Marks.{Placing}
use Rattle.overlay_cuts.specs.Path.{path_from, path, columns_in_order, columns_of, piece, pieces_along, pieces}
use Rattle.overlay_cuts.specs.Pass.{cut_by, pass_by, pass}
use Rattle.overlay_intersections.specs.PassMarks.{marks_on, mark_count}
use Rattle.overlay_cuts.specs.Run.{Settings, placing_of_pass, after_passes}
use Rattle.overlay_cuts.specs.DataPass.{data_pieces, data_pieces_of_each, data_cut_by, data_pass_by, data_pass, data_after_passes}
use Rattle.overlay_cuts.specs.Laws.{DataCutIsBeside, DataIsBeside, UnmarkedDataCutIsUnchanged, UnmarkedDataIsUnchanged, ArrangedDataIsUnchanged}
use Rattle.overlay_geometry.proofs.laws.lists.Lists.{AllByRecursion-map_out, AllByRecursion-weaker, AllByRecursion-from_list_all}
use Rattle.overlay_geometry.proofs.laws.lists.Keys.{is_lt-true}
use Rattle.overlay_base.proofs.laws.geometry.Pairs.{pair_eq-less}
use Rattle.overlay_base.proofs.laws.joins.DataJoins.{bare, by_data_pair, bare-data_join}
use Rattle.overlay_cuts.proofs.laws.planar.Unmarked.{planar_mark_count}
use Rattle.overlay_intersections.proofs.laws.crossings.AnswerMarks.{pair_lt_back}

-- ---- lists of lists

module _ {D : Type 0} where
  -- what commutes on each list commutes on all of them
  bare-flat_map : (f : List (DataSegment D) → List (DataSegment D)) (g : List WholeSegment → List WholeSegment) → ((ps : List (DataSegment D)) → without_data (f ps) ≡ g (without_data ps))
      → (each : List (List (DataSegment D))) → without_data (flat_map f each) ≡ flat_map g (map (λ ps. without_data ps) each)
  bare-flat_map f g h [] = refl
  bare-flat_map f g h (ps ∷ each) = map-append bare (f ps) (flat_map f each) ∙ ap₂ (λ xs ys. xs ++ ys) (h ps) (bare-flat_map f g h each)

  bare-take : (ps : List (DataSegment D)) → without_data (take 1 ps) ≡ take 1 (without_data ps)
  bare-take ps = sym (take-map bare 1 ps)

  bare-drop : (ps : List (DataSegment D)) → without_data (drop 1 ps) ≡ drop 1 (without_data ps)
  bare-drop [] = refl
  bare-drop (p ∷ ps) = refl

-- ---- the pieces, the passes

module _ {D S : Type 0} (hooks : Hooks D S) where
  pub bare-data_piece : (count : Winding) (p q : Point) (edge_data : D) (store : S) → bare (data_piece hooks count p q edge_data store).0 ≡ piece count p q
  unfolding data_piece piece
  bare-data_piece count p q edge_data store = go (point_lt p q) refl
    where
      go : (b : Bool) → point_lt p q ≡ b → bare (data_piece hooks count p q edge_data store).0 ≡ piece count p q
      go true e = rw (e, data_piece) refl
      go false e = rw (e, data_piece) refl

  pub bare-data_pieces : (count : Winding) (points : List Point) (p b : Point) (edge_data : D) (store : S) → without_data (data_pieces hooks count p points b edge_data store).0 ≡ pieces_along count (p ∷ points)
  unfolding data_pieces pieces_along
  bare-data_pieces count [] p b edge_data store = refl
  bare-data_pieces count (q ∷ []) p b edge_data store = ap (λ s. s ∷ []) (bare-data_piece count p q edge_data store)
  bare-data_pieces count (q ∷ r ∷ points) p b edge_data store =
      let parts : (D × D) × S = hooks.split (record { edge_data = edge_data; a = p; p = q; b = b }) store in
      let first : DataSegment D × S = data_piece hooks count p q parts.0.0 parts.1 in
      ap₂ (λ s l. s ∷ l) (bare-data_piece count p q parts.0.0 parts.1) (bare-data_pieces count (r ∷ points) q b parts.0.1 first.1)

  pub bare-pieces_of_each : (marks : Pair → List Point) (segments : List (DataSegment D)) (store : S) → map (λ ps. without_data ps) (data_pieces_of_each hooks marks segments store).0 ≡ map (λ s. pieces s (marks s.pair)) (without_data segments)
  unfolding data_pieces_of_each pieces path
  bare-pieces_of_each marks [] store = refl
  bare-pieces_of_each marks (s ∷ segments) store =
      let points : List Point = path_from s.pair.a (columns_of (marks s.pair)) s.pair.b in
      let here : List (DataSegment D) × S = data_pieces hooks s.count s.pair.a points s.pair.b s.edge_data store in
      ap₂ (λ l ls. l ∷ ls) (bare-data_pieces s.count points s.pair.a s.pair.b s.edge_data store) (bare-pieces_of_each marks segments here.1)

  pub bare-data_cut : (marks : Pair → List Point) (segments : List (DataSegment D)) (store : S) → without_data (data_cut_by hooks marks segments store).0 ≡ cut_by marks (without_data segments)
  unfolding data_cut_by cut_by
  bare-data_cut marks segments store =
      let each : List (List (DataSegment D)) = (data_pieces_of_each hooks marks segments store).0 in
      let these = bare-pieces_of_each marks segments store in
      let firsts = bare-flat_map (λ ps. take 1 ps) (λ ps. take 1 ps) bare-take each ∙ ap (λ e. flat_map (λ ps. take 1 ps) e) these ∙ flat_map-map (λ ps. take 1 ps) (λ s. pieces s (marks s.pair)) (without_data segments) in
      let others = bare-flat_map (λ ps. drop 1 ps) (λ ps. drop 1 ps) bare-drop each ∙ ap (λ e. flat_map (λ ps. drop 1 ps) e) these ∙ flat_map-map (λ ps. drop 1 ps) (λ s. pieces s (marks s.pair)) (without_data segments) in
      map-append bare (flat_map (λ ps. take 1 ps) each) (flat_map (λ ps. drop 1 ps) each) ∙ ap₂ (λ xs ys. xs ++ ys) firsts others

  pub bare-data_pass_by : (marks : Pair → List Point) (segments : List (DataSegment D)) (store : S) → without_data (data_pass_by hooks marks segments store).0 ≡ pass_by marks (without_data segments)
  bare-data_pass_by marks segments store =
      let pieces : List (DataSegment D) × S = data_cut_by hooks marks segments store in
      bare-data_join hooks pieces.0 pieces.1 ∙ ap join (bare-data_cut marks segments store)

  pub bare-data_pass : (placing : Placing) (segments : List (DataSegment D)) (store : S) → without_data (data_pass hooks placing segments store).0 ≡ pass placing (without_data segments)
  unfolding data_pass pass
  bare-data_pass placing segments store = bare-data_pass_by (marks_on placing (without_data segments)) segments store

  -- data changes neither geometry nor counts
  pub bare-data_after_passes : (settings : Settings) (given : List (DataSegment D)) (store : S) (k : ℕ) → without_data (data_after_passes hooks settings given store k).0 ≡ after_passes settings (without_data given) k
  unfolding data_after_passes after_passes
  bare-data_after_passes settings given store zero = bare-data_join hooks given store
  bare-data_after_passes settings given store (suc k) =
      let before : List (DataSegment D) × S = data_after_passes hooks settings given store k in
      bare-data_pass (placing_of_pass settings (suc k)) before.0 before.1
      ∙ ap (λ l. pass (placing_of_pass settings (suc k)) l) (bare-data_after_passes settings given store k)

pub data_cut_is_beside : {D S : Type 0} → DataCutIsBeside D S
data_cut_is_beside hooks = bare-data_pass_by hooks

pub data_is_beside : {D S : Type 0} → DataIsBeside D S
data_is_beside hooks = bare-data_after_passes hooks

-- ---- empty lists

pub is_nil : {X : Type 0} (xs : List X) → (length xs == 0) ≡ true → xs ≡ []
is_nil [] h = refl
is_nil (x ∷ xs) h = let e : length (x ∷ xs) ≡ 0 = eqb-true (length (x ∷ xs)) 0 h in absurd (omega (arith, e))

-- ---- the join of an arrangement

apart : (s t : Pair) → is_lt (pair_cmp s t) ≡ true → (pair_eq s t ≡ false) × (is_lt (pair_cmp t s) ≡ false)
apart s t h = (pair_eq-less s t (is_lt-true (pair_cmp s t) h), pair_lt_back s t h)

-- whether each pair comes before the next
abbrev pub pairs_rise : {D : Type 0} → List (DataSegment D) → Bool
pairs_rise segments = is_strictly_sorted pair_cmp (pairs (without_data segments))

module _ {D S : Type 0} (hooks : Hooks D S) where
  sorted-rising : (segments : List (DataSegment D)) → pairs_rise segments ≡ true → stably_sorted by_data_pair segments ≡ segments
  unfolding is_strictly_sorted stably_sorted insert_before_ties
  sorted-rising [] h = refl
  sorted-rising (s ∷ []) h = refl
  sorted-rising (s ∷ t ∷ segments) h =
      let parts = and_parts (is_lt (pair_cmp s.pair t.pair)) (pairs_rise (t ∷ segments)) h in
      let first : insert_before_ties by_data_pair s (t ∷ segments) ≡ s ∷ t ∷ segments = rw ((apart s.pair t.pair parts.0).1) refl in
      ap (insert_before_ties by_data_pair s) (sorted-rising (t ∷ segments) parts.1) ∙ first

  merge_runs-rising : (segments : List (DataSegment D)) (first : DataSegment D) (store : S) → pairs_rise (first ∷ segments) ≡ true → merge_runs hooks first segments store ≡ (first ∷ segments, store)
  unfolding is_strictly_sorted merge_runs
  merge_runs-rising [] first store h = refl
  merge_runs-rising (next ∷ segments) first store h =
      let parts = and_parts (is_lt (pair_cmp first.pair next.pair)) (pairs_rise (next ∷ segments)) h in
      let e : pair_eq first.pair next.pair ≡ false = (apart first.pair next.pair parts.0).0 in
      let rest = merge_runs-rising segments next store parts.1 in
      rw (e, merge_runs) (λ i. (first ∷ (rest i).0, (rest i).1))

  merge_sorted-rising : (segments : List (DataSegment D)) (store : S) → pairs_rise segments ≡ true → merge_sorted hooks segments store ≡ (segments, store)
  unfolding merge_sorted
  merge_sorted-rising [] store h = refl
  merge_sorted-rising (first ∷ segments) store h = merge_runs-rising segments first store h

  filter_passed : (segments : List (DataSegment D)) → list_all (λ s. is_ordered s.pair && is_not_empty s.count) (without_data segments) ≡ true → filter (λ s. is_not_empty s.count) segments ≡ segments
  filter_passed [] h = refl
  filter_passed (s ∷ segments) h =
      let parts = and_parts (is_ordered s.pair && is_not_empty s.count) (list_all (λ s. is_ordered s.pair && is_not_empty s.count) (without_data segments)) h in
      rw ((and_parts (is_ordered s.pair) (is_not_empty s.count) parts.0).1) (ap (λ l. s ∷ l) (filter_passed segments parts.1))

  -- the join of an arrangement is that arrangement
  pub data_join-map : (segments : List (DataSegment D)) (store : S) → IsTrue (is_map (without_data segments)) → data_join hooks segments store ≡ (segments, store)
  unfolding data_join is_map
  data_join-map segments store h =
      let parts = and_parts (pairs_rise segments) (list_all (λ s. is_ordered s.pair && is_not_empty s.count) (without_data segments)) h in
      let joined : merge_sorted hooks (stably_sorted by_data_pair segments) store ≡ (segments, store) = ap (λ l. merge_sorted hooks l store) (sorted-rising segments parts.0) ∙ merge_sorted-rising segments store parts.0 in
      ap (λ (j : List (DataSegment D) × S). let kept : List (DataSegment D) × S = (filter (λ s. is_not_empty s.count) j.0, j.1) in kept) joined
      ∙ (λ i. (filter_passed segments parts.1 i, store))

  -- ---- pieces without marks

  pub whole : (s : DataSegment D) (store : S) → IsTrue (is_ordered s.pair) → data_pieces hooks s.count s.pair.a (path_from s.pair.a (columns_of []) s.pair.b) s.pair.b s.edge_data store ≡ (s ∷ [], store)
  unfolding data_pieces path_from columns_of columns_in_order distinct_in_order data_piece
  whole s store h = rw (h, data_piece) refl

  pieces_of_each-unmarked : (marks : Pair → List Point) (segments : List (DataSegment D)) (store : S) → list_all (λ s. is_ordered s.pair && is_not_empty s.count) (without_data segments) ≡ true → AllByRecursion (λ s. marks s.pair ≡ []) segments
      → data_pieces_of_each hooks marks segments store ≡ (map (λ s. s ∷ []) segments, store)
  unfolding data_pieces_of_each
  pieces_of_each-unmarked marks [] store h m = refl
  pieces_of_each-unmarked marks (s ∷ segments) store h m =
      let parts = and_parts (is_ordered s.pair && is_not_empty s.count) (list_all (λ s. is_ordered s.pair && is_not_empty s.count) (without_data segments)) h in
      let here : data_pieces hooks s.count s.pair.a (path_from s.pair.a (columns_of (marks s.pair)) s.pair.b) s.pair.b s.edge_data store ≡ (s ∷ [], store) =
      ap (λ (l : List Point). data_pieces hooks s.count s.pair.a (path_from s.pair.a (columns_of l) s.pair.b) s.pair.b s.edge_data store) m.0
      ∙ whole s store (and_parts (is_ordered s.pair) (is_not_empty s.count) parts.0).0 in
      let rest = pieces_of_each-unmarked marks segments store parts.1 m.1 in
      ap (λ (p : List (DataSegment D) × S). let all : List (List (DataSegment D)) × S = (p.0 ∷ (data_pieces_of_each hooks marks segments p.1).0, (data_pieces_of_each hooks marks segments p.1).1) in all) here
      ∙ (λ i. ((s ∷ []) ∷ (rest i).0, (rest i).1))

  firsts_of : (segments : List (DataSegment D)) → flat_map (λ ps. take 1 ps) (map (λ s. s ∷ []) segments) ≡ segments
  firsts_of [] = refl
  firsts_of (s ∷ segments) = ap (λ l. s ∷ l) (firsts_of segments)

  others_of : (segments : List (DataSegment D)) → flat_map (λ ps. drop 1 ps) (map (λ s. s ∷ []) segments) ≡ []
  others_of [] = refl
  others_of (s ∷ segments) = others_of segments

  none_marked : (placing : Placing) (segments : List (DataSegment D)) → mark_count placing (without_data segments) ≡ 0 → list_all (λ (s : DataSegment D). length (marks_on placing (without_data segments) s.pair) == 0) segments ≡ true
  unfolding mark_count
  none_marked placing segments e =
      sym (list_all-map (λ (s : WholeSegment). length (marks_on placing (without_data segments) s.pair) == 0) (λ (s : DataSegment D). record { pair = s.pair; count = s.count }) segments)
      ∙ sym (list_all-map (λ (p : Pair). length (marks_on placing (without_data segments) p) == 0) (λ (s : WholeSegment). s.pair) (without_data segments))
      ∙ sym (sum_by-zero (λ (p : Pair). length (marks_on placing (without_data segments) p)) (pairs (without_data segments)))
      ∙ eq-eqb (mark_count placing (without_data segments)) 0 e

  unmarked : (placing : Placing) (segments : List (DataSegment D)) → mark_count placing (without_data segments) ≡ 0 → AllByRecursion (λ s. marks_on placing (without_data segments) s.pair ≡ []) segments
  unmarked placing segments e =
      AllByRecursion-weaker (λ s. (length (marks_on placing (without_data segments) s.pair) == 0) ≡ true) (λ s. marks_on placing (without_data segments) s.pair ≡ []) (λ s k. is_nil (marks_on placing (without_data segments) s.pair) k) segments
      (AllByRecursion-from_list_all (λ s. length (marks_on placing (without_data segments) s.pair) == 0) segments (none_marked placing segments e))

  pub data_cut-unmarked : (marks : Pair → List Point) (segments : List (DataSegment D)) (store : S) → IsTrue (is_map (without_data segments)) → AllByRecursion (λ s. marks s.pair ≡ []) segments → data_cut_by hooks marks segments store ≡ (segments, store)
  unfolding data_cut_by is_map
  data_cut-unmarked marks segments store h none =
      let parts = and_parts (pairs_rise segments) (list_all (λ s. is_ordered s.pair && is_not_empty s.count) (without_data segments)) h in
      let each = pieces_of_each-unmarked marks segments store parts.1 none in
      let all : flat_map (λ ps. take 1 ps) (map (λ s. s ∷ []) segments) ++ flat_map (λ ps. drop 1 ps) (map (λ s. s ∷ []) segments) ≡ segments = rw (others_of segments) (append-nil _ ∙ firsts_of segments) in
      ap (λ (p : List (List (DataSegment D)) × S). let cut : List (DataSegment D) × S = (flat_map (λ ps. take 1 ps) p.0 ++ flat_map (λ ps. drop 1 ps) p.0, p.1) in cut) each
      ∙ (λ i. (all i, store))

  -- an arrangement that is not marked stays as it is
  pub data_pass_by-unmarked : (marks : Pair → List Point) (segments : List (DataSegment D)) (store : S) → IsTrue (is_map (without_data segments)) → AllByRecursion (λ s. marks s.pair ≡ []) segments → data_pass_by hooks marks segments store ≡ (segments, store)
  data_pass_by-unmarked marks segments store h none =
      ap (λ (p : List (DataSegment D) × S). data_join hooks p.0 p.1) (data_cut-unmarked marks segments store h none) ∙ data_join-map segments store h

  -- a pass over an arrangement that makes no mark
  pub data_pass-unmarked : (placing : Placing) (segments : List (DataSegment D)) (store : S) → IsTrue (is_map (without_data segments)) → mark_count placing (without_data segments) ≡ 0 → data_pass hooks placing segments store ≡ (segments, store)
  unfolding data_pass
  data_pass-unmarked placing segments store h e = data_pass_by-unmarked (marks_on placing (without_data segments)) segments store h (unmarked placing segments e)

  pub data_after_passes-arranged : (settings : Settings) (segments : List (DataSegment D)) (store : S) (k : ℕ) → IsTrue (is_map (without_data segments)) → IsTrue (is_planar (without_data segments)) → data_after_passes hooks settings segments store k ≡ (segments, store)
  unfolding data_after_passes
  data_after_passes-arranged settings segments store zero m h = data_join-map segments store m
  data_after_passes-arranged settings segments store (suc k) m h =
      let placing = placing_of_pass settings (suc k) in
      ap (λ (p : List (DataSegment D) × S). data_pass hooks placing p.0 p.1) (data_after_passes-arranged settings segments store k m h)
      ∙ data_pass-unmarked placing segments store m (planar_mark_count placing (without_data segments) h)

pub unmarked_data_cut_is_unchanged : {D S : Type 0} → UnmarkedDataCutIsUnchanged D S
unmarked_data_cut_is_unchanged {D} hooks marks segments store h none =
    data_pass_by-unmarked hooks marks segments store h
    (AllByRecursion-map_out (λ s. marks s.pair ≡ []) (λ (s : DataSegment D). record { pair = s.pair; count = s.count }) segments
    (AllByRecursion-map_out (λ s. marks s ≡ []) (λ (s : WholeSegment). s.pair) (without_data segments) (recursion_from_All (λ s. marks s ≡ []) (pairs (without_data segments)) none)))

pub unmarked_data_is_unchanged : {D S : Type 0} → UnmarkedDataIsUnchanged D S
unmarked_data_is_unchanged hooks = data_pass-unmarked hooks

pub arranged_data_is_unchanged : {D S : Type 0} → ArrangedDataIsUnchanged D S
arranged_data_is_unchanged hooks = data_after_passes-arranged hooks
