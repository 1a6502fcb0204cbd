use Rattle.std.proofs.Common.{length}
use Rattle.overlay_contours.specs.ShapesOf.{shapes_of}
use Rattle.overlay_text.specs.Text.{words_of}
use Rattle.polygons.specs.Wkt.{WritePolygon}
use Rattle.polygons.proofs.Items.{IsBehind}
use Rattle.polygons.proofs.wkt_lines.read_polygons.Given as goal

abbrev pub invariant-loop-polygons : goal.invariant-loop-polygons
invariant-loop-polygons l = IsBehind WritePolygon (words_of l.initial.words.rest.now) (shapes_of (λ z. z) l.polygons.items) (words_of l.words.rest.now)

abbrev pub decreases-loop-polygons : goal.decreases-loop-polygons
decreases-loop-polygons l = length (words_of l.words.rest.now)
