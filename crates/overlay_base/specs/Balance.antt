-- Balance: what comes in at a point goes out again.
use Rattle.std.specs.Prelude.{◌≡◌, List, filter}
use Rattle.overlay_geometry.specs.Points.{Point, point_eq}
use Rattle.overlay_base.specs.Windings.{Winding, add, inverse, empty}
use Rattle.overlay_base.specs.Segments.{WholeSegment, total_weight}

abbrev pub starting_at : List WholeSegment → Point → List WholeSegment
starting_at segments p = filter (λ s. point_eq s.pair.a p) segments

abbrev pub ending_at : List WholeSegment → Point → List WholeSegment
ending_at segments p = filter (λ s. point_eq s.pair.b p) segments

-- the weights of the segments that start at p, less those of the segments that end there
unfoldable pub balance : List WholeSegment → Point → Winding
balance segments p = add (total_weight (starting_at segments p)) (inverse (total_weight (ending_at segments p)))

abbrev pub IsBalanced : List WholeSegment → Type 0
IsBalanced segments = (p : Point) → balance segments p ≡ empty

-- no point gains or loses weight
abbrev pub KeepsBalance : List WholeSegment → List WholeSegment → Type 0
KeepsBalance given result = (p : Point) → balance result p ≡ balance given p
