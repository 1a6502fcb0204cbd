use Rattle.std.proofs.Common.{length}
use Rattle.overlay_contours.specs.ContoursOf.{contours_of}
use Rattle.overlay_text.specs.Text.{words_of}
use Rattle.polygons.specs.Wkt.{WriteRing}
use Rattle.polygons.proofs.Items.{IsBehind}
use Rattle.polygons.proofs.wkt_lines.read_rings.Given as goal

abbrev pub invariant-loop-rings : goal.invariant-loop-rings
invariant-loop-rings l = IsBehind WriteRing (words_of l.initial.words.rest.now) (contours_of (λ z. z) l.rings.items) (words_of l.words.rest.now)

abbrev pub decreases-loop-rings : goal.decreases-loop-rings
decreases-loop-rings l = length (words_of l.words.rest.now)
