-- What runs along a part of what is given.
use Rattle.std.specs.Prelude.{◌≡◌, ◌==◌, Bool, not, ◌&&◌, IsTrue, List}
use Rattle.std.specs.List.{list_any}
use Rattle.overlay_geometry.specs.Points.{Pair}
use Rattle.overlay_base.specs.Segments.{WholeSegment}
use Rattle.overlay_cuts.specs.ExactInput.{is_elementary, contains_pair}

-- whether a line of the list runs along e: a segment with a mask contains it
unfoldable pub has_line_along : List WholeSegment → Pair → Bool
has_line_along segments e = list_any (λ s. contains_pair s.pair e && not (s.count.mask == 0)) segments

-- along each elementary pair of what is given a line runs after the split exactly where a given one does
abbrev pub KeepsLines : List WholeSegment → List WholeSegment → Type 0
KeepsLines given segments = (e : Pair) → IsTrue (is_elementary given e) → has_line_along segments e ≡ has_line_along given e
