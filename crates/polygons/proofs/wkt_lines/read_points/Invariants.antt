use Rattle.std.proofs.Common.{length}
use Rattle.overlay_contours.specs.ContoursOf.{points_of}
use Rattle.overlay_text.specs.Text.{words_of}
use Rattle.polygons.specs.Wkt.{WritePoint}
use Rattle.polygons.proofs.Items.{IsBehind}
use Rattle.polygons.proofs.wkt_lines.read_points.Given as goal

abbrev pub invariant-loop-points : goal.invariant-loop-points
invariant-loop-points l = IsBehind WritePoint (words_of l.initial.words.rest.now) (points_of (λ z. z) l.points.items) (words_of l.words.rest.now)

abbrev pub decreases-loop-points : goal.decreases-loop-points
decreases-loop-points l = length (words_of l.words.rest.now)
