-- A test of balance: what starts and what ends at a point, as counts on a pair with both ends at that point.
use Rattle.std.specs.Prelude.{List, [], ◌∷◌, flat_map}
use Rattle.overlay_geometry.specs.Points.{Point, Pair}
use Rattle.overlay_base.specs.Windings.{inverse, weight}
use Rattle.overlay_base.specs.Segments.{WholeSegment}

abbrev pub point_pair : Point → Pair
point_pair p = record { a = p; b = p }

-- each segment's weight at its first end, and its inverse at its second one
unfoldable pub end_counts : List WholeSegment → List WholeSegment
end_counts segments =
    flat_map (λ s. record { pair = point_pair s.pair.a; count = weight s.count } ∷ record { pair = point_pair s.pair.b; count = inverse (weight s.count) } ∷ []) segments
