use Rattle.std.proofs.Common.{◌≢◌, ◌∙◌, sym, ap, subst, unsigned_abs, IsTrue, to_z-of_z}
use Rattle.overlay_geometry.specs.Coordinates.{least_coordinate, greatest_coordinate, is_pair_in_range}
use Rattle.overlay_geometry.specs.Points.{Pair}
use Rattle.overlay_geometry.specs.PairOf.{pair_of}
use Rattle.overlay_geometry.proofs.laws.geometry.Coordinates.{ends_in_range}
use Rattle.overlay_intersections.specs.CrossAnswer.{cross_answer}
use Rattle.overlay_intersections.specs.Marks.{snapping}
use Rattle.overlay_intersections.specs.AnswerOf.{result_of}
use Rattle.overlay_c.specs.Crosses.{pair_by, mask_by}
use Rattle.overlay_c.proofs.Meetings.{line_of_kind, no_mask}
use Rattle.overlay_c.proofs.cross.cross.Goals as goal

pub cross-requires-clause-target : goal.cross-requires-clause-target
cross-requires-clause-target c =
    ends_in_range (λ z. z) least_coordinate greatest_coordinate c.ends-first.result (subst (λ (p : Pair). IsTrue (is_pair_in_range least_coordinate greatest_coordinate p)) (sym c.ends-first.ensures) c.requires.target)

pub cross-requires-clause-other : goal.cross-requires-clause-other
cross-requires-clause-other c =
    ends_in_range (λ z. z) least_coordinate greatest_coordinate c.ends-second.result (subst (λ (p : Pair). IsTrue (is_pair_in_range least_coordinate greatest_coordinate p)) (sym c.ends-second.ensures) c.requires.other)

pub cross-requires-clause-target_apart : goal.cross-requires-clause-target_apart
cross-requires-clause-target_apart c = subst (λ (p : Pair). p.a ≢ p.b) (sym c.ends-first.ensures) c.requires.target_apart

pub cross-requires-clause-other_apart : goal.cross-requires-clause-other_apart
cross-requires-clause-other_apart c = subst (λ (p : Pair). p.a ≢ p.b) (sym c.ends-second.ensures) c.requires.other_apart

pub mask-mask-requires-clause-target : goal.mask-mask-requires-clause-target
mask-mask-requires-clause-target c =
    ends_in_range (λ z. z) least_coordinate greatest_coordinate c.ends-first.result (subst (λ (p : Pair). IsTrue (is_pair_in_range least_coordinate greatest_coordinate p)) (sym c.ends-first.ensures) c.requires.target)

pub mask-mask-requires-clause-other : goal.mask-mask-requires-clause-other
mask-mask-requires-clause-other c =
    ends_in_range (λ z. z) least_coordinate greatest_coordinate c.ends-second.result (subst (λ (p : Pair). IsTrue (is_pair_in_range least_coordinate greatest_coordinate p)) (sym c.ends-second.ensures) c.requires.other)

pub mask-mask-requires-clause-line : goal.mask-mask-requires-clause-line
mask-mask-requires-clause-line c = line_of_kind _ _ _ (result_of (λ z. z) c.in-Some.place) c.in-Some.ensures

pub returns-in-None-clause-mask : goal.returns-in-None-clause-mask
returns-in-None-clause-mask c =
    no_mask _ _ _ c.in-None.ensures ∙ ap (λ (p : Pair). mask_by p (pair_of (λ z. z) c.ends-second.result)) c.ends-first.ensures ∙ ap (λ (p : Pair). mask_by (pair_by c.args.target.now) p) c.ends-second.ensures

pub returns-in-Some-clause-meeting : goal.returns-in-Some-clause-meeting
returns-in-Some-clause-meeting c =
    let near = snapping (unsigned_abs c.args.radius_squared) in
    c.found.ensures.meeting ∙ (simp (to_z-of_z, c.ranges.radius_squared) at c.in-Some.ensures) ∙ ap (λ (p : Pair). cross_answer near p (pair_of (λ z. z) c.ends-second.result)) c.ends-first.ensures
    ∙ ap (λ (p : Pair). cross_answer near (pair_by c.args.target.now) p) c.ends-second.ensures

pub returns-in-Some-clause-mask : goal.returns-in-Some-clause-mask
returns-in-Some-clause-mask c =
    c.found.ensures.mask ∙ c.mask-mask.ensures ∙ ap (λ (p : Pair). mask_by p (pair_of (λ z. z) c.ends-second.result)) c.ends-first.ensures
    ∙ ap (λ (p : Pair). mask_by (pair_by c.args.target.now) p) c.ends-second.ensures
