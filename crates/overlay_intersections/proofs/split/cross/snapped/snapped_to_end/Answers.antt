use Rattle.std.proofs.Common.{sym, ap, ◌∙◌, rules, to_z-of_z, true, FitsSigned, w64}
use Rattle.std.specs.Prelude.{unsigned_abs}
use Rattle.overlay_geometry.specs.Points.{Point}
use Rattle.overlay_geometry.specs.PointOf.{point_of}
use Rattle.overlay_geometry.specs.PairOf.{pair_of}
use Rattle.overlay_intersections.specs.CrossAnswer.{target_end, other_end, answer_at}
use Rattle.overlay_intersections.proofs.laws.crossings.SnappedAnswers.{both_far, first_near, second_near, answer_when_far, answer_at_target, answer_at_other}
use Rattle.overlay_intersections.proofs.split.cross.snapped.snapped_to_end.Goals as goal

pub returns-then-radius_squared-min : goal.returns-then-radius_squared-min
returns-then-radius_squared-min g c =
    let radius_fits = c.ranges.radius_squared in
    let target_fits : FitsSigned w64 c.nearer_end-target_end.result.distance = search rules in
    let other_fits : FitsSigned w64 c.nearer_end-other_end.result.distance = search rules in
    let min_fits : FitsSigned w64 c.min.result = record { sfits = c.min.type_inv } in
    let least = simp to_z-of_z at c.min.ensures.value in
    let test = simp to_z-of_z at c.if-radius_squared-min.true in
    let compared = rw least at test in
    let near = both_far c.args.radius_squared c.nearer_end-target_end.result.distance c.nearer_end-other_end.result.distance _ _ c.requires.radius c.nearer_end-target_end.ensures.distance_is c.nearer_end-other_end.ensures.distance_is compared in
    rw c.rounded.ensures (answer_when_far (unsigned_abs c.args.radius_squared) (pair_of g.I.OverlayInt.whole c.args.target.now) (pair_of g.I.OverlayInt.whole c.args.other.now) (point_of g.I.OverlayInt.whole c.args.point) c.requires.crossing c.requires.placed c.requires.off near.0 near.1)

pub returns-then-target_end-other_end : goal.returns-then-target_end-other_end
returns-then-target_end-other_end g c =
    let radius_fits = c.ranges.radius_squared in
    let target_fits : FitsSigned w64 c.nearer_end-target_end.result.distance = search rules in
    let other_fits : FitsSigned w64 c.nearer_end-other_end.result.distance = search rules in
    let min_fits : FitsSigned w64 c.min.result = record { sfits = c.min.type_inv } in
    let least = simp to_z-of_z at c.min.ensures.value in
    let test = simp to_z-of_z at c.if-radius_squared-min.false in
    let compared = rw least at test in
    let order = simp to_z-of_z at c.if-target_end-other_end.true in
    let near = first_near c.args.radius_squared c.nearer_end-target_end.result.distance c.nearer_end-other_end.result.distance _ _ c.requires.radius c.nearer_end-target_end.ensures.distance_is c.nearer_end-other_end.ensures.distance_is compared order in
    rw c.rounded-then-target_end-other_end.ensures (answer_at_target (unsigned_abs c.args.radius_squared) (pair_of g.I.OverlayInt.whole c.args.target.now) (pair_of g.I.OverlayInt.whole c.args.other.now) (point_of g.I.OverlayInt.whole c.args.point) c.requires.crossing c.requires.placed c.requires.off near.0 near.1 ∙ ap (λ (p : Point). answer_at target_end p true) (sym c.nearer_end-target_end.ensures.point_is))

pub returns-else-target_end-other_end : goal.returns-else-target_end-other_end
returns-else-target_end-other_end g c =
    let radius_fits = c.ranges.radius_squared in
    let target_fits : FitsSigned w64 c.nearer_end-target_end.result.distance = search rules in
    let other_fits : FitsSigned w64 c.nearer_end-other_end.result.distance = search rules in
    let min_fits : FitsSigned w64 c.min.result = record { sfits = c.min.type_inv } in
    let least = simp to_z-of_z at c.min.ensures.value in
    let test = simp to_z-of_z at c.if-radius_squared-min.false in
    let compared = rw least at test in
    let order = simp to_z-of_z at c.if-target_end-other_end.false in
    let near = second_near c.args.radius_squared c.nearer_end-target_end.result.distance c.nearer_end-other_end.result.distance _ _ c.requires.radius c.nearer_end-target_end.ensures.distance_is c.nearer_end-other_end.ensures.distance_is compared order in
    rw c.rounded-else-target_end-other_end.ensures (answer_at_other (unsigned_abs c.args.radius_squared) (pair_of g.I.OverlayInt.whole c.args.target.now) (pair_of g.I.OverlayInt.whole c.args.other.now) (point_of g.I.OverlayInt.whole c.args.point) c.requires.crossing c.requires.placed c.requires.off near.0 near.1 ∙ ap (λ (p : Point). answer_at other_end p true) (sym c.nearer_end-other_end.ensures.point_is))
