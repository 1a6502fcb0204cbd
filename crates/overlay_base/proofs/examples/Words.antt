-- Short ways to write numbers, points, pairs and segments.
use Rattle.std.specs.Prelude.{ℕ, ℤ, pos, neg_ℤ}
use Rattle.overlay_geometry.specs.Points.{Point, Pair}
use Rattle.overlay_base.specs.Windings.{Winding}
use Rattle.overlay_base.specs.Segments.{WholeSegment}

abbrev pub neg : ℕ → ℤ
neg n = neg_ℤ (pos n)

abbrev pub point : ℤ → ℤ → Point
point x y = record { x = x; y = y }

abbrev pub pair : ℤ → ℤ → ℤ → ℤ → Pair
pair ax ay bx by = record { a = point ax ay; b = point bx by }

abbrev pub count : ℤ → ℤ → Winding
count subj clip = record { subj = subj; clip = clip; mask = 0 }

-- a segment of the subject, of both polygons, and of a line
abbrev pub seg : ℤ → ℤ → ℤ → ℤ → ℤ → WholeSegment
seg ax ay bx by subj = record { pair = pair ax ay bx by; count = count subj (pos 0) }

abbrev pub seg2 : ℤ → ℤ → ℤ → ℤ → ℤ → ℤ → WholeSegment
seg2 ax ay bx by subj clip = record { pair = pair ax ay bx by; count = count subj clip }

abbrev pub line : ℤ → ℤ → ℤ → ℤ → ℤ → ℕ → WholeSegment
line ax ay bx by subj mask = record { pair = pair ax ay bx by; count = record { subj = subj; clip = pos 0; mask = mask } }

-- the greatest number that a count holds
abbrev pub most : ℤ
most = pos 2147483647

abbrev pub least : ℤ
least = neg 2147483647
