-- Segments of a kind that their counts decide: those after a run lie near given ones, where neither a sum of others nor another turned is
-- of the kind.
use Rattle.std.proofs.Common.{◌≡◌, ◌⊎◌, inl, inr, refl, subst, ℕ, zero, suc, Bool, true, false, List, [], ◌∷◌}
use Rattle.std.specs.Prelude.{Contains, filter, IsTrue}
use Rattle.std.specs.List.{AllByRecursion}
use Rattle.std.proofs.lemmas.Bool.{both_ways}
use Rattle.overlay_geometry.specs.Points.{Point, Pair, pair_cmp, pair_eq}
use Rattle.overlay_geometry.specs.Sorting.{distinct_in_order}
use Rattle.overlay_geometry.proofs.laws.geometry.Points.{same_pair_by_eq}
use Rattle.overlay_geometry.proofs.laws.lists.Elements.{Contains-from_Has}
use Rattle.overlay_geometry.proofs.laws.lists.Lists.{AllByRecursion-both, AllByRecursion-filter, AllByRecursion-filter_all, AllByRecursion-from_Has, AllByRecursion-map, AllByRecursion-weaker, Has, Has-filter, Has-map}
use Rattle.overlay_base.specs.Windings.{Winding, add, empty, inverse, is_not_empty}
use Rattle.overlay_base.specs.Segments.{WholeSegment, pairs, are_ordered, winding_at}
use Rattle.overlay_base.specs.Join.{summed, join}
use Rattle.overlay_base.proofs.laws.joins.Bags.{count_at, winding_at-nil, winding_at-cons}
use Rattle.overlay_base.proofs.laws.joins.Maps.{are_ordered-map}
use Rattle.overlay_intersections.specs.Marks.{Placing}
use Rattle.overlay_intersections.specs.PassMarks.{marks_on}
use Rattle.overlay_cuts.specs.Nearness.{LiesNear, LieNear, reach_of_pass, reach_of_run}
use Rattle.overlay_cuts.specs.Path.{pieces}
use Rattle.overlay_cuts.specs.Pass.{cut_by, pass_by, pass}
use Rattle.overlay_cuts.specs.Run.{Settings, placing_of_pass, after_passes}
use Rattle.overlay_cuts.proofs.laws.nearness.Distances.{LiesNear-itself}
use Rattle.overlay_cuts.proofs.laws.nearness.NearMarks.{MarksAreNear, marks_of_pass_are_near}
use Rattle.overlay_cuts.proofs.laws.nearness.Nearness.{HasNear, LieNear-to, pieces_lie_near}
use Rattle.overlay_split.proofs.laws.nearness.Nearness.{LieNear-trans}
use Rattle.overlay_cuts.proofs.laws.paths.Cuts.{AllByRecursion-cut}
use Rattle.overlay_cuts.proofs.laws.paths.PieceCounts.{counts_of_pieces}
use Rattle.overlay_cuts.proofs.laws.paths.Maps.{is_map-after_passes}

abbrev pub of_kind : (Winding → Bool) → List WholeSegment → List WholeSegment
of_kind kind segments = filter (λ s. kind s.count) segments

module _ (kind : Winding → Bool) (nothing : kind empty ≡ false) (turned : (c : Winding) → kind (inverse c) ≡ true → kind c ≡ true) (of_two : (c d : Winding) → kind (add c d) ≡ true → (kind c ≡ true) ⊎ (kind d ≡ true)) where
  -- ---- joins

  -- what holds of the pair of each segment of the kind
  abbrev WhereKind : (Pair → Type 0) → WholeSegment → Type 0
  WhereKind P s = kind s.count ≡ true → P s.pair

  module _ (P : Pair → Type 0) where
    at_kind : (bag : List WholeSegment) (q : Pair) → AllByRecursion (WhereKind P) bag → kind (winding_at bag q) ≡ true → P q
    at_kind [] q a h = absurd (both_ways (kind empty) nothing (subst (λ (c : Winding). kind c ≡ true) (winding_at-nil q) h))
    at_kind (s ∷ bag) q a h = elim (of_two (count_at q s) (winding_at bag q) (subst (λ (c : Winding). kind c ≡ true) (winding_at-cons s bag q) h)) [
      | inl k ↦ here (pair_eq s.pair q) refl k
      | inr k ↦ at_kind bag q a.1 k
    ]
      where
        here : (b : Bool) → pair_eq s.pair q ≡ b → kind (count_at q s) ≡ true → P q
        here true e k = subst P (same_pair_by_eq s.pair q e) (a.0 (rw e at k))
        here false e k = absurd (both_ways (kind empty) nothing (rw e at k))

    kind_join : (bag : List WholeSegment) → AllByRecursion (WhereKind P) bag → AllByRecursion (WhereKind P) (join bag)
    unfolding join summed
    kind_join bag h =
        let keys = distinct_in_order pair_cmp (pairs bag) in
        let each = AllByRecursion-from_Has (λ q. kind (winding_at bag q) ≡ true → P q) keys (λ q _ k. at_kind bag q h k) in
        let made = AllByRecursion-map (WhereKind P) (λ (pair : Pair). let s : WholeSegment = record { pair = pair; count = winding_at bag pair } in s) keys each in
        AllByRecursion-filter_all (λ s. is_not_empty s.count) (WhereKind P) (summed bag) made

  -- ---- what is of the kind after a pass

  to_kind : (h : ℕ) (given : List Pair) (segments : List WholeSegment) → AllByRecursion (WhereKind (HasNear h given)) segments → LieNear h given (pairs (of_kind kind segments))
  to_kind h given segments a = LieNear-to h given (of_kind kind segments) (AllByRecursion-filter (λ s. kind s.count) (λ r. HasNear h given r.pair) segments a)

  is_among : (segments : List WholeSegment) (s : WholeSegment) → Has segments s → kind s.count ≡ true → Contains (pairs (of_kind kind segments)) s.pair
  is_among segments s i w = Contains-from_Has (pairs (of_kind kind segments)) s.pair (Has-map (λ (t : WholeSegment). t.pair) (of_kind kind segments) s (Has-filter (λ t. kind t.count) segments s i w))

  kind_of_pieces : (h : ℕ) (marks : Pair → List Point) (segments : List WholeSegment) → MarksAreNear h marks segments → (s : WholeSegment) → Has segments s →
      AllByRecursion (WhereKind (HasNear h (pairs (of_kind kind segments)))) (pieces s (marks s.pair))
  kind_of_pieces h marks segments near s i =
      AllByRecursion-weaker (λ r. LiesNear h r.pair s.pair × (kind r.count ≡ true → kind s.count ≡ true)) (WhereKind (HasNear h (pairs (of_kind kind segments))))
      (λ r k w. (s.pair, is_among segments s i (k.1 w), k.0)) (pieces s (marks s.pair))
      (AllByRecursion-both (λ r. LiesNear h r.pair s.pair) (λ r. kind r.count ≡ true → kind s.count ≡ true) (pieces s (marks s.pair))
      (pieces_lie_near h s (marks s.pair) (near s.pair (Has-map (λ (t : WholeSegment). t.pair) segments s i)))
      (counts_of_pieces (λ c. kind c ≡ true → kind s.count ≡ true) (λ c k w. k (turned c w)) s (marks s.pair) (λ w. w)))

  pub pass_by_of_kind : (h : ℕ) (marks : Pair → List Point) (segments : List WholeSegment) → MarksAreNear h marks segments → LieNear h (pairs (of_kind kind segments)) (pairs (of_kind kind (pass_by marks segments)))
  pass_by_of_kind h marks segments near =
      let from : List Pair = pairs (of_kind kind segments) in
      to_kind h from (pass_by marks segments)
      (kind_join (HasNear h from) (cut_by marks segments)
      (AllByRecursion-cut (WhereKind (HasNear h from)) marks segments
      (AllByRecursion-from_Has (λ s. AllByRecursion (WhereKind (HasNear h from)) (pieces s (marks s.pair))) segments (kind_of_pieces h marks segments near))))

  pass_of_kind : (placing : Placing) (segments : List WholeSegment) → IsTrue (are_ordered segments) → LieNear (reach_of_pass placing segments) (pairs (of_kind kind segments)) (pairs (of_kind kind (pass placing segments)))
  unfolding pass
  pass_of_kind placing segments ordered = pass_by_of_kind (reach_of_pass placing segments) (marks_on placing segments) segments (marks_of_pass_are_near placing segments ordered)

  -- ---- a run

  pub run_of_kind : (settings : Settings) (given : List WholeSegment) (k : ℕ) → IsTrue (are_ordered given) → LieNear (reach_of_run settings given k) (pairs (of_kind kind given)) (pairs (of_kind kind (after_passes settings given k)))
  unfolding after_passes reach_of_run
  run_of_kind settings given zero ordered =
      to_kind 0 (pairs (of_kind kind given)) (join given)
      (kind_join (HasNear 0 (pairs (of_kind kind given))) given (AllByRecursion-from_Has (WhereKind (HasNear 0 (pairs (of_kind kind given)))) given (λ s i w. (s.pair, is_among given s i w, LiesNear-itself s.pair))))
  run_of_kind settings given (suc k) ordered =
      let before = after_passes settings given k in
      let placing = placing_of_pass settings (suc k) in
      LieNear-trans (reach_of_run settings given k) (reach_of_pass placing before) (pairs (of_kind kind given)) (pairs (of_kind kind before)) (pairs (of_kind kind (pass placing before)))
      (run_of_kind settings given k ordered)
      (pass_of_kind placing before (are_ordered-map before (is_map-after_passes settings given k ordered)))
