-- Where every crossing is a whole point, snap rounding is a settling pass, so its result counts what the given segments count.
use Rattle.std.proofs.Common.{◌≡◌, ◌∙◌, refl, sym, ap, subst, IsTrue, List}
use Rattle.overlay_base.specs.Join.{join}
use Rattle.overlay_base.specs.Segments.{WholeSegment, are_ordered}
use Rattle.overlay_base.proofs.laws.joins.Maps.{are_ordered-join}
use Rattle.overlay_intersections.specs.Marks.{settling}
use Rattle.overlay_intersections.specs.PassMarks.{marks_on}
use Rattle.overlay_cuts.specs.ExactInput.{is_exact_input, count_along, lies_on_input, KeepsCounts}
use Rattle.overlay_cuts.specs.Pass.{pass}
use Rattle.overlay_cuts.proofs.laws.planar.ExactInputs.{join_not_rounded, count_along-pass, pass_on_input, exact_means}
use Rattle.overlay_snapping.specs.Chains.{IsSnapped}
use Rattle.overlay_snapping.specs.Laws.{ExactSnapIsPass}
use Rattle.overlay_snapping.specs.SnapOf.{reach_of_snap}
use Rattle.overlay_snapping.proofs.laws.chains.ExactCuts.{none_decided, marks_are_cuts}
use Rattle.overlay_snapping.proofs.laws.chains.Paths.{snapped_is_one}
use Rattle.overlay_snapping.proofs.laws.chains.Snaps.{cuts_snap}

pub exact_snap_is_pass : ExactSnapIsPass
unfolding pass
exact_snap_is_pass segments result o h is =
    snapped_is_one.1 segments result (pass settling segments) is (cuts_snap segments (marks_on settling segments) o (none_decided segments o h) (marks_are_cuts segments o h)).0

pub exact_counts : (given result : List WholeSegment) → IsTrue (are_ordered given) → IsTrue (is_exact_input given) → IsSnapped (join given) result → KeepsCounts given result
exact_counts given result o exact is =
    let h = exact_means given exact in
    let made = exact_snap_is_pass (join given) result (are_ordered-join given o) (join_not_rounded given h) is in (
      λ e k. ap (λ (l : List WholeSegment). count_along l e) made ∙ count_along-pass settling given o h e k,
      subst (λ (l : List WholeSegment). IsTrue (lies_on_input given l)) (sym made) (pass_on_input settling given o h),
    )

pub exact_reach : (given : List WholeSegment) → IsTrue (is_exact_input given) → reach_of_snap given ≡ 0
unfolding reach_of_snap
exact_reach given exact = rw (join_not_rounded given (exact_means given exact)) refl
