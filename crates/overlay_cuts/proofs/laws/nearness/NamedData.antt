-- Data names only pairs that its segment lies near: pieces lie near the segment that they are cut from, and what is merged lies on one pair.
use Rattle.std.proofs.Common.{◌≡◌, refl, sym, subst, ℕ, zero, suc, ◌+◌, Bool, true, false, List, [], ◌∷◌, take, drop, flat_map, inl, inr}
use Rattle.std.specs.Prelude.{IsTrue}
use Rattle.std.specs.List.{AllByRecursion}
use Rattle.std.proofs.lemmas.Bool.{or_cases}
use Rattle.std.proofs.lemmas.List.Elements.{All-from_recursion, recursion_from_All}
use Rattle.std.proofs.Math.Nat.{add_comm}
use Rattle.overlay_geometry.specs.Points.{Point, Pair, point_cmp, point_lt, pair_cmp, pair_eq}
use Rattle.overlay_geometry.proofs.laws.geometry.Points.{same_pair_by_eq}
use Rattle.overlay_geometry.proofs.laws.lists.Lists.{AllByRecursion-append, AllByRecursion-filter_all, AllByRecursion-flat_map, AllByRecursion-from_Has, AllByRecursion-take, AllByRecursion-weaker, Has-map}
use Rattle.overlay_geometry.proofs.laws.lists.Elements.{AllByRecursion-drop}
use Rattle.overlay_geometry.proofs.laws.lists.Keys.{AllByRecursion-distinct_in_order}
use Rattle.overlay_base.specs.Windings.{Winding, is_not_empty}
use Rattle.overlay_base.specs.Segments.{WholeSegment, are_ordered}
use Rattle.overlay_base.specs.EdgeData.{DataSegment, SplitCall, Hooks, without_data, data_piece, merged, merge_runs, merge_sorted, data_join}
use Rattle.overlay_base.specs.SegmentOf.{segments_of, data_segments_of}
use Rattle.overlay_base.specs.declared.segm.segment.Segment.{Segment}
use Rattle.overlay_base.proofs.laws.joins.Views.{segments_ordered, segments_of-bare}
use Rattle.overlay_base.proofs.laws.joins.Maps.{are_ordered-map}
use Rattle.overlay_base.proofs.laws.lists.StableSorts.{AllByRecursion-stably_sorted}
use Rattle.overlay_intersections.specs.Marks.{Placing}
use Rattle.overlay_intersections.specs.PassMarks.{marks_on}
use Rattle.overlay_cuts.specs.Path.{path_from, columns_of}
use Rattle.overlay_cuts.specs.Run.{Settings, placing_of_pass, after_passes}
use Rattle.overlay_cuts.specs.DataPass.{data_pieces, data_pieces_of_each, data_cut_by, data_pass_by, data_pass, data_after_passes}
use Rattle.overlay_cuts.specs.Nearness.{whole_point, IsNear, LiesNear, reach_of_pass, reach_of_run}
use Rattle.overlay_cuts.specs.Laws.{HooksNameNoOther, NameNear, DataCutNamesWhatIsNear, DataNamesWhatIsNear}
use Rattle.overlay_cuts.proofs.laws.paths.Boxes.{path_from_has}
use Rattle.overlay_cuts.proofs.laws.paths.MarkedPairs.{EachMark-at}
use Rattle.overlay_cuts.proofs.laws.paths.Paths.{all_of-columns_of}
use Rattle.overlay_cuts.proofs.laws.paths.Maps.{is_map-after_passes}
use Rattle.overlay_cuts.proofs.laws.nearness.Distances.{LiesNear-from_ends, LiesNear-trans, IsNear-start, IsNear-end}
use Rattle.overlay_cuts.proofs.laws.nearness.NearMarks.{AreNear, MarksAreNear, marks_of_pass_are_near}
use Rattle.overlay_cuts.proofs.laws.passes.DataPasses.{data_is_beside}

module _ {D S : Type 0} (hooks : Hooks D S) (names : D → Pair → Bool) (keeps : HooksNameNoOther hooks names) where
  -- what is named lies that near
  abbrev Names : ℕ → DataSegment D → Type 0
  Names h r = (s : Pair) → names r.edge_data s ≡ true → LiesNear h r.pair s

  -- ---- joins

  named_merged : (h : ℕ) (first next : DataSegment D) (store : S) → first.pair ≡ next.pair → Names h first → Names h next → Names h (merged hooks first next store).0
  unfolding merged
  named_merged h first next store same f n s named = elim (or_cases (names first.edge_data s) (names next.edge_data s) (keeps.merge _ store s named)) [
    | inl k ↦ f s k
    | inr k ↦ subst (λ (r : Pair). LiesNear h r s) (sym same) (n s k)
  ]

  named_runs : (h : ℕ) (first : DataSegment D) (ss : List (DataSegment D)) (store : S) → Names h first → AllByRecursion (Names h) ss → AllByRecursion (Names h) (merge_runs hooks first ss store).0
  unfolding merge_runs
  named_runs h first [] store f a = (f, tt)
  named_runs h first (next ∷ ss) store f a =
      by (pair_eq first.pair next.pair) refl
      (λ same. named_runs h (merged hooks first next store).0 ss (merged hooks first next store).1 (named_merged h first next store (same_pair_by_eq first.pair next.pair same) f a.0) a.1)
      (named_runs h next ss store a.0 a.1)
    where
      by : (b : Bool) → pair_eq first.pair next.pair ≡ b → (pair_eq first.pair next.pair ≡ true → AllByRecursion (Names h) (merge_runs hooks (merged hooks first next store).0 ss (merged hooks first next store).1).0)
          → AllByRecursion (Names h) (merge_runs hooks next ss store).0 → AllByRecursion (Names h) (merge_runs hooks first (next ∷ ss) store).0
      by true e joined rest = rw (e, merge_runs) (joined e)
      by false e joined rest = rw (e, merge_runs) (f, rest)

  named_sorted : (h : ℕ) (ss : List (DataSegment D)) (store : S) → AllByRecursion (Names h) ss → AllByRecursion (Names h) (merge_sorted hooks ss store).0
  unfolding merge_sorted
  named_sorted h [] store a = tt
  named_sorted h (first ∷ ss) store a = named_runs h first ss store a.0 a.1

  named_join : (h : ℕ) (ss : List (DataSegment D)) (store : S) → AllByRecursion (Names h) ss → AllByRecursion (Names h) (data_join hooks ss store).0
  unfolding data_join
  named_join h ss store a =
      AllByRecursion-filter_all (λ s. is_not_empty s.count) (Names h) _
      (named_sorted h _ store (AllByRecursion-stably_sorted (λ s t. pair_cmp s.pair t.pair) (Names h) ss a))

  -- ---- passes

  module _ (h k : ℕ) where
    -- a piece that lies near a segment, and names no more than its data does
    near_named : (r t : Pair) (d e : D) → IsNear k (whole_point r.a) t → IsNear k (whole_point r.b) t → ((s : Pair) → names e s ≡ true → names d s ≡ true)
        → ((s : Pair) → names d s ≡ true → LiesNear h t s) → (s : Pair) → names e s ≡ true → LiesNear (h + k) r s
    near_named r t d e start end fewer near s named =
        subst (λ (n : ℕ). LiesNear n r s) (add_comm k h) (LiesNear-trans k h r t s (LiesNear-from_ends k r t start end) (near s (fewer s named)))

    named_piece : (count : Winding) (p q : Point) (t : Pair) (d e : D) (store : S) → IsNear k (whole_point p) t → IsNear k (whole_point q) t → ((s : Pair) → names e s ≡ true → names d s ≡ true)
        → ((s : Pair) → names d s ≡ true → LiesNear h t s) → Names (h + k) (data_piece hooks count p q e store).0
    unfolding data_piece
    named_piece count p q t d e store start end fewer near = by (point_lt p q) refl
      where
        by : (b : Bool) → point_lt p q ≡ b → Names (h + k) (data_piece hooks count p q e store).0
        by true f = rw (f, data_piece) (near_named (record { a = p; b = q }) t d e start end fewer near)
        by false f = rw (f, data_piece) (near_named (record { a = q; b = p }) t d (hooks.reversed e store).0 end start (λ s named. fewer s (keeps.reversed e store s named)) near)

    named_pieces : (count : Winding) (p : Point) (points : List Point) (b : Point) (t : Pair) (d e : D) (store : S) → IsNear k (whole_point p) t → AllByRecursion (λ q. IsNear k (whole_point q) t) points
        → ((s : Pair) → names e s ≡ true → names d s ≡ true) → ((s : Pair) → names d s ≡ true → LiesNear h t s) → AllByRecursion (Names (h + k)) (data_pieces hooks count p points b e store).0
    unfolding data_pieces
    named_pieces count p [] b t d e store start others fewer near = tt
    named_pieces count p (q ∷ []) b t d e store start others fewer near = (named_piece count p q t d e store start others.0 fewer near, tt)
    named_pieces count p (q ∷ r ∷ points) b t d e store start others fewer near =
        let call : SplitCall D = record { edge_data = e; a = p; p = q; b = b } in
        let parts = (hooks.split call store).0 in
        let first = data_piece hooks count p q parts.0 (hooks.split call store).1 in (
          named_piece count p q t d parts.0 _ start others.0 (λ s named. fewer s (keeps.split_first call store s named)) near,
          named_pieces count q (r ∷ points) b t d parts.1 first.1 others.0 others.1 (λ s named. fewer s (keeps.split_rest call store s named)) near,
        )

    named_each : (marks : Pair → List Point) (ss : List (DataSegment D)) (store : S) → AllByRecursion (λ t. AreNear k (marks t.pair) t.pair) ss → AllByRecursion (Names h) ss
        → AllByRecursion (λ ps. AllByRecursion (Names (h + k)) ps) (data_pieces_of_each hooks marks ss store).0
    unfolding data_pieces_of_each
    named_each marks [] store near a = tt
    named_each marks (t ∷ ss) store near a =
        let points = path_from t.pair.a (columns_of (marks t.pair)) t.pair.b in
        let here = data_pieces hooks t.count t.pair.a points t.pair.b t.edge_data store in
        let on : Point → Type 0 = λ q. IsNear k (whole_point q) t.pair in
        let along : AllByRecursion on points = path_from_has on (columns_of (marks t.pair)) t.pair.a t.pair.b (subst (AllByRecursion on) (sym (all_of-columns_of (marks t.pair))) (AllByRecursion-distinct_in_order point_cmp on (marks t.pair) near.0)) (IsNear-end k t.pair) in (
          named_pieces t.count t.pair.a points t.pair.b t.pair t.edge_data t.edge_data store (IsNear-start k t.pair) along (λ s named. named) a.0,
          named_each marks ss here.1 near.1 a.1,
        )

    named_cut : (marks : Pair → List Point) (ss : List (DataSegment D)) (store : S) → AllByRecursion (λ t. AreNear k (marks t.pair) t.pair) ss → AllByRecursion (Names h) ss → AllByRecursion (Names (h + k)) (data_cut_by hooks marks ss store).0
    unfolding data_cut_by
    named_cut marks ss store near a =
        let each = (data_pieces_of_each hooks marks ss store).0 in
        let all = named_each marks ss store near a in
        AllByRecursion-append (Names (h + k)) (flat_map (λ ps. take 1 ps) each) (flat_map (λ ps. drop 1 ps) each)
        (AllByRecursion-flat_map (λ ps. take 1 ps) (Names (h + k)) each (AllByRecursion-weaker (AllByRecursion (Names (h + k))) (λ ps. AllByRecursion (Names (h + k)) (take 1 ps)) (AllByRecursion-take (Names (h + k)) 1) each all))
        (AllByRecursion-flat_map (λ ps. drop 1 ps) (Names (h + k)) each (AllByRecursion-weaker (AllByRecursion (Names (h + k))) (λ ps. AllByRecursion (Names (h + k)) (drop 1 ps)) (AllByRecursion-drop (Names (h + k)) 1) each all))

    named_pass_by : (marks : Pair → List Point) (ss : List (DataSegment D)) (store : S) → MarksAreNear k marks (without_data ss) → AllByRecursion (Names h) ss → AllByRecursion (Names (h + k)) (data_pass_by hooks marks ss store).0
    named_pass_by marks ss store near a =
        named_join (h + k) _ (data_cut_by hooks marks ss store).1
        (named_cut marks ss store
        (AllByRecursion-from_Has (λ t. AreNear k (marks t.pair) t.pair) ss
        (λ t there. near t.pair (Has-map (λ (u : WholeSegment). u.pair) (without_data ss) _ (Has-map (λ (u : DataSegment D). record { pair = u.pair; count = u.count }) ss t there))))
        a)

  named_pass : (h : ℕ) (placing : Placing) (ss : List (DataSegment D)) (store : S) → IsTrue (are_ordered (without_data ss)) → AllByRecursion (Names h) ss → AllByRecursion (Names (h + reach_of_pass placing (without_data ss))) (data_pass hooks placing ss store).0
  unfolding data_pass
  named_pass h placing ss store ordered a = named_pass_by h (reach_of_pass placing (without_data ss)) (marks_on placing (without_data ss)) ss store (marks_of_pass_are_near placing (without_data ss) ordered) a

  named_after : (settings : Settings) (given : List (DataSegment D)) (store : S) (k : ℕ) → IsTrue (are_ordered (without_data given)) → AllByRecursion (Names 0) given
      → AllByRecursion (Names (reach_of_run settings (without_data given) k)) (data_after_passes hooks settings given store k).0
  unfolding data_after_passes reach_of_run
  named_after settings given store zero ordered a = named_join 0 given store a
  named_after settings given store (suc k) ordered a =
      let before = data_after_passes hooks settings given store k in
      let placing = placing_of_pass settings (suc k) in
      let bare : without_data before.0 ≡ after_passes settings (without_data given) k = data_is_beside hooks settings given store k in
      let still : IsTrue (are_ordered (without_data before.0)) = subst (λ (l : List WholeSegment). IsTrue (are_ordered l)) (sym bare) (are_ordered-map _ (is_map-after_passes settings (without_data given) k ordered)) in
      subst (λ (l : List WholeSegment). AllByRecursion (Names (reach_of_run settings (without_data given) k + reach_of_pass placing l)) (data_pass hooks placing before.0 before.1).0) bare
      (named_pass (reach_of_run settings (without_data given) k) placing before.0 before.1 still (named_after settings given store k ordered a))

pub data_cut_names_what_is_near : {D S : Type 0} → DataCutNamesWhatIsNear D S
data_cut_names_what_is_near hooks names keeps before more marks segments store near h =
    All-from_recursion _ (data_pass_by hooks marks segments store).0
    (named_pass_by hooks names keeps before more marks segments store (EachMark-at (λ s m. IsNear more (whole_point m) s) marks (without_data segments) near) (recursion_from_All _ segments h))

pub data_names_what_is_near : {D S : Type 0} → DataNamesWhatIsNear D S
data_names_what_is_near hooks names keeps settings given store k ordered h =
    All-from_recursion _ (data_after_passes hooks settings given store k).0 (named_after hooks names keeps settings given store k ordered (recursion_from_All _ given h))

-- the same of what a split is given
pub split_names_near : {C I D S : Type 0} {m : _} {w : _} {o : _} {e : _} {p : _} (hooks : Hooks D S) (names : D → Pair → Bool) → HooksNameNoOther hooks names → (settings : Settings) (xs : List (Segment C I D m w o e p)) (store : S) (k : ℕ) (result : List (DataSegment D)) →
    result ≡ (data_after_passes hooks settings (data_segments_of xs) store k).0 → NameNear names 0 (data_segments_of xs) → NameNear names (reach_of_run settings (segments_of xs) k) result
split_names_near hooks names keeps settings xs store k result same h =
    let bare = segments_of-bare xs in
    let ordered = subst (λ (l : List WholeSegment). IsTrue (are_ordered l)) bare (segments_ordered xs) in
    subst (λ (l : List WholeSegment). NameNear names (reach_of_run settings l k) result) (sym bare)
    (subst (λ (l : List (DataSegment _)). NameNear names (reach_of_run settings (without_data (data_segments_of xs)) k) l) (sym same)
    (data_names_what_is_near hooks names keeps settings (data_segments_of xs) store k ordered h))
