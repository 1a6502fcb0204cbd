use Rattle.overlay_contours.specs.ContoursOf.{points_of}
use Rattle.overlay_text.specs.Text.{words_of}
use Rattle.polygons.proofs.Reading.{AreRead}
use Rattle.polygons.proofs.contour_lines.read_points.Given as goal

abbrev pub invariant-loop-word : goal.invariant-loop-word
invariant-loop-word l = AreRead (words_of l.fn.words.rest.now) (words_of l.word-iterator.rest.now) l.before (points_of (λ z. z) l.wide.items)
