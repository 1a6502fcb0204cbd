-- What hooks hand on of the data of lines holds of the data of all segments with lines after a split, where it holds of those given.
use Rattle.std.proofs.Common.{◌≡◌, ◌∙◌, ◌==◌, ◌||◌, ◌&&◌, not, ap, ap₂, ℕ, zero, suc, Bool, true, false, IsTrue, List, [], ◌∷◌, take, drop, flat_map, refl}
use Rattle.std.specs.Prelude.{bit_or, Vec}
use Rattle.std.specs.Global.{Global}
use Rattle.std.specs.List.{AllByRecursion, list_all}
use Rattle.std.proofs.lemmas.Bool.{eqb-true, or_left, or_right}
use Rattle.overlay_geometry.specs.Points.{Point, Pair, point_lt, pair_cmp, pair_eq}
use Rattle.overlay_base.specs.Windings.{Winding, add, inverse, swap_directions, is_not_empty}
use Rattle.overlay_base.specs.EdgeData.{DataSegment, SplitCall, MergeCall, Hooks, without_data, data_piece, merged, merge_runs, merge_sorted, data_join}
use Rattle.overlay_intersections.specs.Marks.{Placing}
use Rattle.overlay_intersections.specs.PassMarks.{marks_on}
use Rattle.overlay_cuts.specs.Path.{path_from, columns_of}
use Rattle.overlay_cuts.specs.Run.{Settings, placing_of_pass}
use Rattle.overlay_cuts.specs.DataPass.{data_pieces, data_pieces_of_each, data_cut_by, data_pass_by, data_pass, data_after_passes}
use Rattle.overlay_base.specs.HooksOf.{hooks_of}
use Rattle.overlay_base.specs.Join.{join}
use Rattle.overlay_base.specs.SegmentOf.{segments_of, data_segments_of}
use Rattle.overlay_base.specs.Segments.{are_ordered}
use Rattle.overlay_base.specs.declared.overlay_core.edge_data.OverlayEdgeData.{Ghosts}
use Rattle.overlay_base.specs.declared.segm.segment.Segment.{Segment}
use Rattle.overlay_contours.specs.Splittings.{Splitting, by_passes, by_snapping, IsLeftBy}
use Rattle.i_overlay.specs.LineData.{HooksKeepOfLines, holds_of_line, LinesKeepData}
use Rattle.i_overlay.specs.SplitLists.{HasDataOf}
use Rattle.i_overlay.proofs.laws.SnapCuts.{snapped_by_cuts}
use Rattle.overlay_geometry.proofs.laws.lists.Lists.{AllByRecursion-append, AllByRecursion-filter_all, AllByRecursion-flat_map, AllByRecursion-take, AllByRecursion-from_list_all, list_all-from_AllByRecursion}
use Rattle.overlay_geometry.proofs.laws.lists.Elements.{AllByRecursion-drop}
use Rattle.overlay_base.proofs.laws.lists.StableSorts.{AllByRecursion-stably_sorted}
use Rattle.overlay_base.proofs.laws.joins.Maps.{are_ordered-join}

module _ {D S : Type 0} (hooks : Hooks D S) (has : D → Bool) (keeps : HooksKeepOfLines hooks has) where
  -- ---- joins

  -- a mask of none is none backward
  no_mask_back : (count : Winding) (x : Bool) → (count.mask == 0) ≡ true → ((inverse count).mask == 0 || x) ≡ true
  no_mask_back count x none = or_left _ x (ap (λ m. swap_directions m == 0) (eqb-true count.mask 0 none))

  weaker : (b x y : Bool) → (x ≡ true → y ≡ true) → (b || x) ≡ true → (b || y) ≡ true
  weaker true x y f h = refl
  weaker false x y f h = f h

  good_turned : (count : Winding) (d : D) (store : S) → (count.mask == 0 || has d) ≡ true → ((inverse count).mask == 0 || has (hooks.reversed d store).0) ≡ true
  good_turned count d store h = by (count.mask == 0) refl h
    where
      by : (b : Bool) → (count.mask == 0) ≡ b → (b || has d) ≡ true → ((inverse count).mask == 0 || has (hooks.reversed d store).0) ≡ true
      by true none k = no_mask_back count _ none
      by false some k = or_right ((inverse count).mask == 0) _ (keeps.reversed d store k)

  good_piece : (count : Winding) (p q : Point) (d : D) (store : S) → (count.mask == 0 || has d) ≡ true → holds_of_line has (data_piece hooks count p q d store).0 ≡ true
  unfolding data_piece
  good_piece count p q d store h = by (point_lt p q) refl
    where
      by : (b : Bool) → point_lt p q ≡ b → holds_of_line has (data_piece hooks count p q d store).0 ≡ true
      by true e = rw (e, data_piece) h
      by false e = rw (e, data_piece) (good_turned count d store h)

  good_merged : (left right : DataSegment D) (store : S) → holds_of_line has left ≡ true → holds_of_line has right ≡ true → holds_of_line has (merged hooks left right store).0 ≡ true
  unfolding merged
  good_merged left right store l r = by (left.count.mask == 0) (right.count.mask == 0) refl refl
    where
      call : MergeCall D
      call = record { lhs_data = left.edge_data; lhs_count = left.count; rhs_data = right.edge_data; rhs_count = right.count; out_count = add left.count right.count }

      some : not (left.count.mask == 0 && right.count.mask == 0) ≡ true → ((add left.count right.count).mask == 0 || has (hooks.merge call store).0) ≡ true
      some one = or_right _ _ (keeps.merge call store l r one)

      by : (a b : Bool) → (left.count.mask == 0) ≡ a → (right.count.mask == 0) ≡ b → ((add left.count right.count).mask == 0 || has (hooks.merge call store).0) ≡ true
      by true true ea eb = or_left _ _ (ap₂ (λ m n. bit_or m n == 0) (eqb-true left.count.mask 0 ea) (eqb-true right.count.mask 0 eb))
      by true false ea eb = some (ap₂ (λ m n. not (m && n)) ea eb)
      by false b ea eb = some (ap₂ (λ m n. not (m && n)) ea eb)

  good_runs : (first : DataSegment D) (ss : List (DataSegment D)) (store : S) → holds_of_line has first ≡ true → AllByRecursion (λ s. holds_of_line has s ≡ true) ss → AllByRecursion (λ s. holds_of_line has s ≡ true) (merge_runs hooks first ss store).0
  unfolding merge_runs
  good_runs first [] store h a = (h, tt)
  good_runs first (next ∷ ss) store h a =
      by (pair_eq first.pair next.pair) refl (good_runs (merged hooks first next store).0 ss (merged hooks first next store).1 (good_merged first next store h a.0) a.1) (good_runs next ss store a.0 a.1)
    where
      by : (b : Bool) → pair_eq first.pair next.pair ≡ b → AllByRecursion (λ s. holds_of_line has s ≡ true) (merge_runs hooks (merged hooks first next store).0 ss (merged hooks first next store).1).0
          → AllByRecursion (λ s. holds_of_line has s ≡ true) (merge_runs hooks next ss store).0 → AllByRecursion (λ s. holds_of_line has s ≡ true) (merge_runs hooks first (next ∷ ss) store).0
      by true e joined rest = rw (e, merge_runs) joined
      by false e joined rest = rw (e, merge_runs) (h, rest)

  good_sorted : (ss : List (DataSegment D)) (store : S) → AllByRecursion (λ s. holds_of_line has s ≡ true) ss → AllByRecursion (λ s. holds_of_line has s ≡ true) (merge_sorted hooks ss store).0
  unfolding merge_sorted
  good_sorted [] store a = tt
  good_sorted (first ∷ ss) store a = good_runs first ss store a.0 a.1

  pub good_join : (ss : List (DataSegment D)) (store : S) → AllByRecursion (λ s. holds_of_line has s ≡ true) ss → AllByRecursion (λ s. holds_of_line has s ≡ true) (data_join hooks ss store).0
  unfolding data_join
  good_join ss store a =
      AllByRecursion-filter_all (λ s. is_not_empty s.count) (λ s. holds_of_line has s ≡ true) _
      (good_sorted _ store (AllByRecursion-stably_sorted (λ s t. pair_cmp s.pair t.pair) (λ s. holds_of_line has s ≡ true) ss a))

  -- ---- passes

  good_parts : (count : Winding) (call : SplitCall D) (store : S) → (count.mask == 0 || has call.edge_data) ≡ true
      → ((count.mask == 0 || has (hooks.split call store).0.0) ≡ true) × ((count.mask == 0 || has (hooks.split call store).0.1) ≡ true)
  good_parts count call store h =
      (weaker (count.mask == 0) _ _ (λ k. (keeps.split call store k).0) h, weaker (count.mask == 0) _ _ (λ k. (keeps.split call store k).1) h)

  good_pieces : (count : Winding) (p : Point) (points : List Point) (b : Point) (d : D) (store : S) → (count.mask == 0 || has d) ≡ true → AllByRecursion (λ s. holds_of_line has s ≡ true) (data_pieces hooks count p points b d store).0
  unfolding data_pieces
  good_pieces count p [] b d store h = tt
  good_pieces count p (q ∷ []) b d store h = (good_piece count p q d store h, tt)
  good_pieces count p (q ∷ r ∷ points) b d store h =
      let call : SplitCall D = record { edge_data = d; a = p; p = q; b = b } in
      let parts = good_parts count call store h in
      let first = data_piece hooks count p q (hooks.split call store).0.0 (hooks.split call store).1 in
      (good_piece count p q _ _ parts.0, good_pieces count q (r ∷ points) b _ first.1 parts.1)

  good_each : (marks : Pair → List Point) (ss : List (DataSegment D)) (store : S) → AllByRecursion (λ s. holds_of_line has s ≡ true) ss → AllByRecursion (λ ps. AllByRecursion (λ s. holds_of_line has s ≡ true) ps) (data_pieces_of_each hooks marks ss store).0
  unfolding data_pieces_of_each
  good_each marks [] store a = tt
  good_each marks (s ∷ ss) store a =
      let points = path_from s.pair.a (columns_of (marks s.pair)) s.pair.b in
      let here = data_pieces hooks s.count s.pair.a points s.pair.b s.edge_data store in
      (good_pieces s.count s.pair.a points s.pair.b s.edge_data store a.0, good_each marks ss here.1 a.1)

  firsts : (each : List (List (DataSegment D))) → AllByRecursion (λ ps. AllByRecursion (λ s. holds_of_line has s ≡ true) ps) each → AllByRecursion (λ ps. AllByRecursion (λ s. holds_of_line has s ≡ true) (take 1 ps)) each
  firsts [] a = tt
  firsts (ps ∷ each) a = (AllByRecursion-take (λ s. holds_of_line has s ≡ true) 1 ps a.0, firsts each a.1)

  others : (each : List (List (DataSegment D))) → AllByRecursion (λ ps. AllByRecursion (λ s. holds_of_line has s ≡ true) ps) each → AllByRecursion (λ ps. AllByRecursion (λ s. holds_of_line has s ≡ true) (drop 1 ps)) each
  others [] a = tt
  others (ps ∷ each) a = (AllByRecursion-drop (λ s. holds_of_line has s ≡ true) 1 ps a.0, others each a.1)

  good_cut : (marks : Pair → List Point) (ss : List (DataSegment D)) (store : S) → AllByRecursion (λ s. holds_of_line has s ≡ true) ss → AllByRecursion (λ s. holds_of_line has s ≡ true) (data_cut_by hooks marks ss store).0
  unfolding data_cut_by
  good_cut marks ss store a =
      let each = (data_pieces_of_each hooks marks ss store).0 in
      let all = good_each marks ss store a in
      AllByRecursion-append (λ s. holds_of_line has s ≡ true) (flat_map (λ ps. take 1 ps) each) (flat_map (λ ps. drop 1 ps) each)
      (AllByRecursion-flat_map (λ ps. take 1 ps) (λ s. holds_of_line has s ≡ true) each (firsts each all))
      (AllByRecursion-flat_map (λ ps. drop 1 ps) (λ s. holds_of_line has s ≡ true) each (others each all))

  pub good_pass_by : (marks : Pair → List Point) (ss : List (DataSegment D)) (store : S) → AllByRecursion (λ s. holds_of_line has s ≡ true) ss → AllByRecursion (λ s. holds_of_line has s ≡ true) (data_pass_by hooks marks ss store).0
  good_pass_by marks ss store a = good_join _ (data_cut_by hooks marks ss store).1 (good_cut marks ss store a)

  good_pass : (placing : Placing) (ss : List (DataSegment D)) (store : S) → AllByRecursion (λ s. holds_of_line has s ≡ true) ss → AllByRecursion (λ s. holds_of_line has s ≡ true) (data_pass hooks placing ss store).0
  unfolding data_pass
  good_pass placing ss store a = good_pass_by (marks_on placing (without_data ss)) ss store a

  pub good_after : (settings : Settings) (given : List (DataSegment D)) (store : S) (k : ℕ) → AllByRecursion (λ s. holds_of_line has s ≡ true) given → AllByRecursion (λ s. holds_of_line has s ≡ true) (data_after_passes hooks settings given store k).0
  unfolding data_after_passes
  good_after settings given store zero a = good_join given store a
  good_after settings given store (suc k) a =
      let before = data_after_passes hooks settings given store k in
      good_pass (placing_of_pass settings (suc k)) before.0 before.1 (good_after settings given store k a)

-- Where a split leaves data as its splitting says, it does so.
pub lines_keep_data : {C I D S : Type 0} {m : _} {w : _} {o : _} {e : _} {p : _} (hooks : Ghosts D C S) (IsFirst : S → Type 0) (splitting : Splitting) (passes halves : ℕ) (given list : Vec (Segment C I D m w o e p) Global)
    → IsTrue (are_ordered (segments_of given.items)) → IsLeftBy splitting (segments_of given.items) (segments_of list.items) passes halves → HasDataOf hooks IsFirst splitting passes given list → LinesKeepData hooks given list
lines_keep_data {m = m} hooks IsFirst (by_passes settings) passes halves given list o left (store, first, made) = λ has keeps h.
    let all = AllByRecursion-from_list_all (holds_of_line has) (data_segments_of given.items) h in
    ap (list_all (holds_of_line has)) made ∙ list_all-from_AllByRecursion (holds_of_line has) _ (good_after (hooks_of m.counted hooks) has keeps settings (data_segments_of given.items) store passes all)
lines_keep_data {m = m} hooks IsFirst by_snapping passes halves given list o left (store, first, made) = λ has keeps h.
    let whole = segments_of given.items in
    let cuts = snapped_by_cuts (join whole) (segments_of list.items) (are_ordered-join whole o) left.snapped in
    let all = AllByRecursion-from_list_all (holds_of_line has) (data_segments_of given.items) h in
    let joined = data_join (hooks_of m.counted hooks) (data_segments_of given.items) store in
    ap (list_all (holds_of_line has)) (made cuts.0 cuts.2)
    ∙ list_all-from_AllByRecursion (holds_of_line has) _ (good_pass_by (hooks_of m.counted hooks) has keeps cuts.0 joined.0 joined.1 (good_join (hooks_of m.counted hooks) has keeps (data_segments_of given.items) store all))
