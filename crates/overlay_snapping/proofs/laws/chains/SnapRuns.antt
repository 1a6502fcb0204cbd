-- What the join of a list and a pass through the cuts of its segments leave: a snapped list, its place, its windings and its data.
use Rattle.std.proofs.Common.{◌≡◌, ◌⊎◌, ◌∙◌, refl, sym, subst, ⊎_elim, inl, inr, Bool, true, false, IsTrue, IsFalse, List, [], ◌∷◌, ◌&&◌, ◌||◌}
use Rattle.std.specs.Prelude.{ℤ, Contains, All}
use Rattle.std.specs.List.{list_all}
use Rattle.std.proofs.lemmas.Bool.{and_parts, and_from, both_ways, or_left, or_right}
use Rattle.std.proofs.lemmas.List.Elements.{All-from_recursion, recursion_from_All}
use Rattle.overlay_geometry.specs.Points.{Point, Pair, is_end, is_strictly_inside, is_within_box_of}
use Rattle.overlay_geometry.specs.Meeting.{do_cross, has_end_inside}
use Rattle.overlay_geometry.specs.Coordinates.{is_point_in_range, is_pair_in_range}
use Rattle.overlay_geometry.proofs.laws.geometry.Coordinates.{in_box_in_range}
use Rattle.overlay_geometry.proofs.laws.geometry.Points.{inside_from_parts}
use Rattle.overlay_geometry.proofs.laws.lists.Lists.{Has, AllByRecursion-weaker, AllByRecursion-from_Has, list_all-at, Has-map_out, Has-flat_map}
use Rattle.overlay_geometry.proofs.laws.lists.Elements.{Contains-from_Has, Has-from_Contains, Has-append_out, Has-flat_map_out}
use Rattle.overlay_base.specs.Balance.{KeepsBalance}
use Rattle.overlay_base.specs.EdgeData.{DataSegment, Hooks, without_data, data_join}
use Rattle.overlay_base.specs.Join.{join, join_leaves_range}
use Rattle.overlay_base.specs.Places.{RationalPoint, winding_below}
use Rattle.overlay_base.specs.Planar.{is_planar, is_splittable, is_arranged}
use Rattle.overlay_base.specs.Windings.{is_valid, is_not_empty}
use Rattle.overlay_base.specs.Segments.{WholeSegment, pairs, ends, are_ordered, is_map}
use Rattle.overlay_base.proofs.laws.geometry.Apart.{are_apart_parts}
use Rattle.overlay_base.proofs.laws.joins.Functionals.{balance-join}
use Rattle.overlay_base.proofs.laws.joins.Maps.{are_ordered-join, is_map-join}
use Rattle.overlay_cuts.specs.DataPass.{data_after_passes}
use Rattle.overlay_cuts.specs.Laws.{HooksKeep, HooksNameNoOther, NameNear}
use Rattle.overlay_cuts.specs.Nearness.{LiesNear, LieNear, MarksLieNear, Fraction, point_along, IsNearSome, reach_of_run, LieInGivenBox}
use Rattle.overlay_cuts.specs.Pass.{EachMark, cut_by, pass_by}
use Rattle.overlay_cuts.specs.Places.{IsFar}
use Rattle.overlay_intersections.specs.Crossing.{is_exact}
use Rattle.overlay_intersections.specs.Marks.{cross_inexactly}
use Rattle.overlay_cuts.specs.Run.{Settings, after_passes}
use Rattle.overlay_cuts.proofs.laws.nearness.Coverings.{cut_pieces_stay_near, joined_or_cancels}
use Rattle.overlay_cuts.proofs.laws.nearness.Distances.{LiesNear-itself}
use Rattle.overlay_cuts.proofs.laws.nearness.Nearness.{cut_stays_near}
use Rattle.overlay_cuts.proofs.laws.nearness.Places.{cut_keeps_winding, join_keeps_winding}
use Rattle.overlay_cuts.proofs.laws.passes.Splittable.{cut_is_splittable, is_splittable-join}
use Rattle.overlay_cuts.proofs.laws.paths.Boxes.{boxes_are_meant, cut_stays_in_box}
use Rattle.overlay_cuts.proofs.laws.paths.Balances.{cut_keeps_balance}
use Rattle.overlay_cuts.proofs.laws.nearness.NamedData.{data_names_what_is_near}
use Rattle.overlay_cuts.proofs.laws.passes.DataInvariants.{data_keeps_what_hooks_keep}
use Rattle.overlay_cuts.proofs.laws.passes.DataPasses.{data_is_beside, arranged_data_is_unchanged}
use Rattle.overlay_cuts.proofs.laws.planar.ExactInputs.{In-join}
use Rattle.overlay_cuts.proofs.laws.planar.PlanarPasses.{is_planar-each}
use Rattle.overlay_snapping.specs.Chains.{rounded_crossings, whole_crossings, given_points, IsHot, rounded, passed, Moves, passes, IsChainPoint, IsCutAt, moving, staying, AreCutsBetween, AreSnapCuts, AreDecided, IsSnapped}
use Rattle.overlay_snapping.specs.SnapOf.{reach_of_snap, IsNearCancelledInSnap, among_given, among_pieces}
use Rattle.overlay_snapping.proofs.laws.chains.MarkLists.{each_cut, cuts_are_free}
use Rattle.overlay_snapping.proofs.laws.chains.MarkPoints.{Has-crossings_by_out, inexact_parts}
use Rattle.overlay_snapping.proofs.laws.chains.Paths.{cut_in_box}
use Rattle.overlay_snapping.proofs.laws.chains.Snaps.{cuts_snap, cuts_lie_near}
use Rattle.overlay_snapping.proofs.laws.planarity.Planar.{snapped_is_planar}

pair_in_range : (least greatest : ℤ) (segments : List WholeSegment) → IsTrue (is_splittable least greatest segments) → (s : Pair) → Has (pairs segments) s → IsTrue (is_pair_in_range least greatest s)
unfolding is_splittable
pair_in_range least greatest segments h s i =
    let r = Has-map_out (λ (u : WholeSegment). u.pair) segments s i in
    let each = list_all-at (λ u. is_pair_in_range least greatest u.pair && is_valid u.count && is_not_empty u.count) segments r.0 h r.1 in
    subst (λ (p : Pair). IsTrue (is_pair_in_range least greatest p)) r.2 (and_parts _ _ (and_parts _ _ each).0).0

-- ---- a list that is snapped from another

module _ (given : List WholeSegment) (o : IsTrue (are_ordered given)) (on : Pair → List Point) (decided : AreDecided (join given)) (cuts : AreSnapCuts (join given) on) where
  joined_ordered : IsTrue (are_ordered (join given))
  joined_ordered = are_ordered-join given o

  pub is_snapped : IsSnapped (join given) (pass_by on (join given))
  is_snapped = (cuts_snap (join given) on joined_ordered decided cuts).0

  pub keeps_balance : KeepsBalance given (pass_by on (join given))
  keeps_balance p = cut_keeps_balance on (join given) p ∙ balance-join given p

  -- the cuts lie as near as crossings are moved
  pub near_cuts : MarksLieNear (reach_of_snap given) on (join given)
  unfolding reach_of_snap
  near_cuts = cuts_lie_near (join given) on joined_ordered cuts

  pub lies_near : LieNear (reach_of_snap given) (pairs given) (pairs (pass_by on (join given)))
  lies_near =
      All-from_recursion (λ r. (s : Pair) × Contains (pairs given) s × LiesNear (reach_of_snap given) r s) (pairs (pass_by on (join given)))
      (AllByRecursion-weaker (λ r. (s : Pair) × Contains (pairs (join given)) s × LiesNear (reach_of_snap given) r s) (λ r. (s : Pair) × Contains (pairs given) s × LiesNear (reach_of_snap given) r s)
      (λ r h. (h.0, Contains-from_Has (pairs given) h.0 (In-join given h.0 (Has-from_Contains (pairs (join given)) h.0 h.1)), h.2)) (pairs (pass_by on (join given)))
      (recursion_from_All (λ r. (s : Pair) × Contains (pairs (join given)) s × LiesNear (reach_of_snap given) r s) (pairs (pass_by on (join given)))
      (cut_stays_near (reach_of_snap given) on (join given) near_cuts)))

  -- and each given segment near the result, or near where counts cancelled
  pub given_lies_near : (s : Pair) → Contains (pairs given) s → (f : Fraction) → IsNearSome (reach_of_snap given) (point_along s f) (pairs (pass_by on (join given))) ⊎ IsNearCancelledInSnap given (point_along s f)
  given_lies_near s i f = ⊎_elim kept (λ gone. inr (among_given s gone (LiesNear-itself s f))) (joined_or_cancels given s i)
    where
      kept : Contains (pairs (join given)) s → IsNearSome (reach_of_snap given) (point_along s f) (pairs (pass_by on (join given))) ⊎ IsNearCancelledInSnap given (point_along s f)
      kept j =
          let piece = cut_pieces_stay_near (reach_of_snap given) on (join given) s joined_ordered near_cuts j f in
          ⊎_elim (λ k. inl (piece.0, k, piece.2)) (λ gone. inr (among_pieces on piece.0 cuts gone piece.2)) (joined_or_cancels (cut_by on (join given)) piece.0 piece.1)

  pub keeps_winding : (p : RationalPoint) → IsFar (reach_of_snap given) p (pairs given) → winding_below (pass_by on (join given)) p ≡ winding_below given p
  keeps_winding p far =
      cut_keeps_winding (reach_of_snap given) on (join given) p joined_ordered near_cuts
      (λ near. far (near.0, Contains-from_Has (pairs given) near.0 (In-join given near.0 (Has-from_Contains (pairs (join given)) near.0 near.1)), near.2))
      ∙ join_keeps_winding given p

  -- cuts lie in the boxes of their segments
  pub in_given_box : LieInGivenBox given (pass_by on (join given))
  in_given_box =
      cut_stays_in_box (ends (pairs (join given))) on (join given) (boxes_are_meant.0 (ends (pairs (join given))))
      (each_cut (λ s m. IsTrue (is_within_box_of (ends (pairs (join given))) m)) (join given) on cuts (λ s m i cut free.
      boxes_are_meant.1 (ends (pairs (join given))) s m (end_within s s.a i (inl refl)) (end_within s s.b i (inr (inl refl))) (cut_in_box (pairs (join given)) s m cut)))
    where
      end_within : (s : Pair) (e : Point) → Has (pairs (join given)) s → Has (s.a ∷ s.b ∷ []) e → IsTrue (is_within_box_of (ends (pairs (join given))) e)
      end_within s e i j =
          list_all-at (λ p. is_within_box_of (ends (pairs (join given))) p) (ends (pairs (join given))) e (boxes_are_meant.0 (ends (pairs (join given))))
          (Has-flat_map (λ (u : Pair). u.a ∷ u.b ∷ []) (pairs (join given)) s e i j)

  pub snapped_arranged : (least greatest : ℤ) → IsTrue (is_splittable least greatest given) → IsFalse (join_leaves_range given) → IsFalse (join_leaves_range (cut_by on (join given))) → IsTrue (is_arranged least greatest (pass_by on (join given)))
  unfolding is_arranged
  snapped_arranged least greatest splittable fits pieces_fit =
      let planar = snapped_is_planar (join given) (pass_by on (join given)) joined_ordered is_snapped in
      let joined = is_splittable-join least greatest given splittable fits (is_map-join given o) in
      and_from _ _ (and_from _ _ planar.0
      (cut_is_splittable least greatest on (join given) joined_ordered joined (cuts_are_free (join given) on cuts) (in_range joined) pieces_fit)) planar.1
    where
      in_range : IsTrue (is_splittable least greatest (join given)) → EachMark (λ s m. IsTrue (is_point_in_range least greatest m)) on (join given)
      in_range h =
          each_cut (λ s m. IsTrue (is_point_in_range least greatest m)) (join given) on cuts (λ s m i cut free.
          in_box_in_range least greatest s m (pair_at h s i) (cut_in_box (pairs (join given)) s m cut))
        where
          pair_at : IsTrue (is_splittable least greatest (join given)) → (s : Pair) → Has (pairs (join given)) s → IsTrue (is_pair_in_range least greatest s)
          pair_at h s i = pair_in_range least greatest (join given) h s i

-- ---- an arrangement

module _ (segments : List WholeSegment) (planar : IsTrue (is_planar segments)) where
  none_cross : (s t : Pair) → Has (pairs segments) s → Has (pairs segments) t → do_cross s t ≡ false
  none_cross s t i j = (are_apart_parts s t (is_planar-each segments planar s t i j)).0

  mutual
    none_hot : (c : Point) → IsHot (pairs segments) c → ⊥
    none_hot c (rounded h) =
        let by = Has-crossings_by_out cross_inexactly (pairs segments) c (Has-from_Contains (rounded_crossings (pairs segments)) c h) in
        both_ways (do_cross by.0 by.1) (none_cross by.0 by.1 by.2 by.3) (inexact_parts by.0 by.1 by.4).0
    none_hot c (passed i m p) = none_moves _ m

    none_moves : (s : Pair) → Moves (pairs segments) s → ⊥
    none_moves s (passes i h p) = none_hot _ h

  none_whole : (c : Point) → Has (whole_crossings (pairs segments)) c → ⊥
  none_whole c h =
      let by = Has-crossings_by_out (λ s t. do_cross s t && is_exact s t) (pairs segments) c h in
      both_ways (do_cross by.0 by.1) (none_cross by.0 by.1 by.2 by.3) (and_parts (do_cross by.0 by.1) (is_exact by.0 by.1) by.4).0

  -- no end of a segment lies strictly inside another
  no_end : (s t : Pair) (c : Point) → Has (pairs segments) s → Has (pairs segments) t → Has (t.a ∷ t.b ∷ []) c → IsTrue (is_strictly_inside s c) → ⊥
  unfolding has_end_inside
  no_end s t c i j is inside = both_ways (has_end_inside s t) (are_apart_parts s t (is_planar-each segments planar s t i j)).1 (by is)
    where
      by : Has (t.a ∷ t.b ∷ []) c → (is_strictly_inside s t.a || is_strictly_inside s t.b) ≡ true
      by (inl e) = or_left _ _ (subst (λ p. is_strictly_inside s p ≡ true) (sym e) inside)
      by (inr (inl e)) = or_right _ _ (subst (λ p. is_strictly_inside s p ≡ true) (sym e) inside)
      by (inr (inr n)) = absurd n

  pub no_cut : (s : Pair) (c : Point) → Has (pairs segments) s → IsCutAt (pairs segments) s c → IsFalse (is_end s c) → ⊥
  no_cut s c i (moving m p h) free = none_moves s m
  no_cut s c i (staying n p on) free = by p
    where
      by : IsChainPoint (pairs segments) c → ⊥
      by (inl h) = none_hot c h
      by (inr g) =
          ⊎_elim
          (λ j. let t = Has-flat_map_out (λ (u : Pair). u.a ∷ u.b ∷ []) (pairs segments) c j in no_end s t.0 c i t.1 t.2 (inside_from_parts s c on free))
          (λ j. none_whole c j)
          (Has-append_out (ends (pairs segments)) (whole_crossings (pairs segments)) c (Has-from_Contains (given_points (pairs segments)) c g))

  pub none_between : (s : Pair) (marks : List Point) → Has (pairs segments) s → AreCutsBetween (pairs segments) s marks → marks ≡ []
  none_between s [] i cuts = refl
  none_between s (c ∷ marks) i cuts = let cut = (cuts.complete c).0 (Contains-from_Has (c ∷ marks) c (inl refl)) in absurd (no_cut s c i cut.0 cut.1)

  pub none_cut : (on : Pair → List Point) → AreSnapCuts segments on → All (λ s. on s ≡ []) (pairs segments)
  none_cut on cuts = All-from_recursion (λ s. on s ≡ []) (pairs segments) (AllByRecursion-from_Has (λ s. on s ≡ []) (pairs segments) (λ s i. none_between s (on s) i (cuts s (Contains-from_Has (pairs segments) s i))))

-- ---- data

module _ {D S : Type 0} (hooks : Hooks D S) (given : List (DataSegment D)) (store : S) where
  -- the join is what a run without passes leaves
  no_passes : Settings
  no_passes = record { start = 0; progression = 0; cap = 0; limit = 0 }

  pub join_keeps : (has : D → Bool) → HooksKeep hooks has → IsTrue (list_all (λ s. has s.edge_data) given) → IsTrue (list_all (λ s. has s.edge_data) (data_join hooks given store).0)
  unfolding data_after_passes
  join_keeps has keeps h = data_keeps_what_hooks_keep hooks has keeps no_passes given store 0 h

  pub join_names : (names : D → Pair → Bool) → HooksNameNoOther hooks names → IsTrue (are_ordered (without_data given)) → NameNear names 0 given → NameNear names 0 (data_join hooks given store).0
  unfolding data_after_passes reach_of_run
  join_names names keeps o h = data_names_what_is_near hooks names keeps no_passes given store 0 o h

  pub join_is_beside : without_data (data_join hooks given store).0 ≡ join (without_data given)
  unfolding data_after_passes after_passes
  join_is_beside = data_is_beside hooks no_passes given store 0

  pub join_of_arranged : IsTrue (is_map (without_data given)) → IsTrue (is_planar (without_data given)) → data_join hooks given store ≡ (given, store)
  unfolding data_after_passes
  join_of_arranged map planar = arranged_data_is_unchanged hooks no_passes given store 0 map planar
