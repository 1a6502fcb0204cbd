-- What a settling pass over a join leaves, where no crossing is rounded, is what snap rounding leaves.
use Rattle.std.proofs.Common.{◌≡◌, ◌∙◌, ◌⊎◌, sym, ap, subst, inr, IsTrue, IsFalse, List}
use Rattle.std.specs.Prelude.{ℤ, Contains}
use Rattle.std.proofs.lemmas.Bool.{both_ways, cond-false}
use Rattle.overlay_geometry.specs.Points.{Point, Pair}
use Rattle.overlay_base.specs.Balance.{KeepsBalance}
use Rattle.overlay_base.specs.Join.{join, join_leaves_range}
use Rattle.overlay_base.specs.Places.{RationalPoint, winding_below}
use Rattle.overlay_base.specs.Planar.{is_planar, is_splittable, is_arranged}
use Rattle.overlay_base.specs.Segments.{WholeSegment, pairs, are_ordered}
use Rattle.overlay_base.proofs.laws.joins.Maps.{are_ordered-join}
use Rattle.overlay_intersections.specs.PassMarks.{is_rounded}
use Rattle.overlay_cuts.specs.Nearness.{LieNear, Fraction, point_along, IsNearSome, LieInGivenBox}
use Rattle.overlay_cuts.specs.Pass.{cut_by, pass_by}
use Rattle.overlay_cuts.specs.Places.{IsFar}
use Rattle.overlay_snapping.specs.Chains.{AreSnapCuts, AreDecided, IsSnapped}
use Rattle.overlay_snapping.specs.SnapOf.{reach_of_snap, IsNearCancelledInSnap, SnapChanges, SnapLeavesRange, in_join, in_pieces}
use Rattle.overlay_snapping.specs.steps.Resolved.{IsSplitExactly}
use Rattle.overlay_snapping.proofs.laws.chains.SnapRuns.{is_snapped, keeps_balance, lies_near, given_lies_near, keeps_winding, in_given_box, snapped_arranged}
use Rattle.overlay_snapping.proofs.laws.collinear.Settled.{settled, settled_cuts, settled_decided, settled_pass, pieces_fit, cut_is_cut, planar_has_none}

module _ (given list : List WholeSegment) (o : IsTrue (are_ordered given)) (h : IsSplitExactly (join given) list) where
  pub joined_in_order : IsTrue (are_ordered (join given))
  joined_in_order = are_ordered-join given o

  pub exactly_on : Pair → List Point
  exactly_on = settled (join given) joined_in_order h.settled.not_rounded

  pub exactly_cuts : AreSnapCuts (join given) exactly_on
  unfolding exactly_on
  exactly_cuts = settled_cuts (join given) joined_in_order h.settled.not_rounded

  pub exactly_decided : AreDecided (join given)
  exactly_decided = settled_decided (join given) joined_in_order h.settled.not_rounded

  pub is_passed : list ≡ pass_by exactly_on (join given)
  unfolding exactly_on
  is_passed = h.settled.passed ∙ settled_pass (join given) joined_in_order h.settled.not_rounded

  pub exactly_snapped : IsSnapped (join given) list
  exactly_snapped = subst (IsSnapped (join given)) (sym is_passed) (is_snapped given o exactly_on exactly_decided exactly_cuts)

  pub exactly_balanced : KeepsBalance given list
  exactly_balanced = subst (KeepsBalance given) (sym is_passed) (keeps_balance given o exactly_on exactly_decided exactly_cuts)

  pub exactly_near : LieNear (reach_of_snap given) (pairs given) (pairs list)
  exactly_near = subst (λ l. LieNear (reach_of_snap given) (pairs given) (pairs l)) (sym is_passed) (lies_near given o exactly_on exactly_decided exactly_cuts)

  pub exactly_given_near : (s : Pair) → Contains (pairs given) s → (f : Fraction) → IsNearSome (reach_of_snap given) (point_along s f) (pairs list) ⊎ IsNearCancelledInSnap given (point_along s f)
  exactly_given_near s i f =
      subst (λ l. IsNearSome (reach_of_snap given) (point_along s f) (pairs l) ⊎ IsNearCancelledInSnap given (point_along s f)) (sym is_passed)
      (given_lies_near given o exactly_on exactly_decided exactly_cuts s i f)

  pub exactly_winding : (p : RationalPoint) → IsFar (reach_of_snap given) p (pairs given) → winding_below list p ≡ winding_below given p
  exactly_winding p far = ap (λ l. winding_below l p) is_passed ∙ keeps_winding given o exactly_on exactly_decided exactly_cuts p far

  pub exactly_in_box : LieInGivenBox given list
  exactly_in_box = subst (LieInGivenBox given) (sym is_passed) (in_given_box given o exactly_on exactly_decided exactly_cuts)

  pub exactly_fits : IsFalse (join_leaves_range given) → SnapLeavesRange given → ⊥
  exactly_fits fits (in_join k) = both_ways (join_leaves_range given) fits k
  exactly_fits fits (in_pieces by snap k) = both_ways (join_leaves_range (cut_by by (join given))) (pieces_fit (join given) joined_in_order h.settled.not_rounded by snap h.small) k

  pub exactly_arranged : (least greatest : ℤ) → IsTrue (is_splittable least greatest given) → IsFalse (join_leaves_range given) → IsTrue (is_arranged least greatest list)
  exactly_arranged least greatest splittable fits =
      subst (λ l. IsTrue (is_arranged least greatest l)) (sym is_passed)
      (snapped_arranged given o exactly_on exactly_decided exactly_cuts least greatest splittable fits (pieces_fit (join given) joined_in_order h.settled.not_rounded exactly_on exactly_cuts h.small))

  pub exactly_changes : SnapChanges given
  exactly_changes = inr (cut_is_cut (join given) joined_in_order h.settled.not_rounded h.settled.cut)

  pub exactly_reaches : reach_of_snap given ≡ 0
  unfolding reach_of_snap
  exactly_reaches = cond-false (is_rounded (join given)) 1 0 h.settled.not_rounded

  pub exactly_not_planar : IsTrue (is_planar (join given)) → ⊥
  exactly_not_planar planar = planar_has_none (join given) joined_in_order h.settled.not_rounded planar h.settled.cut
