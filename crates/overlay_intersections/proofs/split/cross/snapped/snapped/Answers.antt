use Rattle.std.proofs.Common.{sym, ◌∙◌}
use Rattle.std.specs.Prelude.{unsigned_abs}
use Rattle.overlay_geometry.specs.PointOf.{point_of}
use Rattle.overlay_geometry.specs.PairOf.{pair_of}
use Rattle.overlay_intersections.proofs.laws.crossings.SnappedAnswers.{answer_when_on_lines}
use Rattle.overlay_intersections.proofs.split.cross.snapped.snapped.Goals as goal

pub returns-then-is_on_lines : goal.returns-then-is_on_lines
returns-then-is_on_lines g c = answer_when_on_lines (unsigned_abs c.args.radius_squared) (pair_of g.I.OverlayInt.whole c.args.target.now) (pair_of g.I.OverlayInt.whole c.args.other.now) (point_of g.I.OverlayInt.whole c.snapping_point-point.result) c.requires.crossing c.snapping_point-point.ensures.point (sym c.is_on_lines.ensures ∙ c.if-is_on_lines.true)
