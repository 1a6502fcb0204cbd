use Rattle.overlay_geometry.specs.PairOf.{pair_of}
use Rattle.overlay_intersections.proofs.laws.crossings.SnappedAnswers.{answer_when_settled}
use Rattle.overlay_intersections.proofs.split.cross.settled.settled.Goals as goal

pub returns : goal.returns
returns g c = answer_when_settled (pair_of g.I.OverlayInt.whole c.args.target.now) (pair_of g.I.OverlayInt.whole c.args.other.now) _ _ _ c.requires.crossing c.settling_point-point.ensures.point c.kind_of_point.ensures c.is_on_lines.ensures
