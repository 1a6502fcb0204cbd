-- The points of a list whose pixels a segment meets between its ends.
use Rattle.std.specs.Prelude.{◌≡◌, ◌&&◌, ◌++◌, not, Bool, IsTrue, List, Contains}
use Rattle.std.specs.List.{list_any}
use Rattle.overlay_geometry.specs.Points.{Point, Pair, is_end, point_eq}
use Rattle.overlay_snapping.specs.Pixels.{meets_pixel}

-- whether s meets the pixel of c, which is no end of s
abbrev pub is_met : Pair → Point → Bool
is_met s c = meets_pixel s c && not (is_end s c)

-- whether c is one of the points
abbrev pub is_listed : List Point → Point → Bool
is_listed points c = list_any (λ q. point_eq q c) points

-- Points are added to others: only such as s meets, and all of these that are sought.
pub record AddsMet (s : Pair) (points : List Point) (IsSought : Point → Type 0) (old new : List Point) : Type 0 where
  pub added : List Point
  pub is : new ≡ old ++ added
  pub only : (c : Point) → Contains added c → Contains points c × IsTrue (is_met s c)
  pub all : (c : Point) → Contains points c → IsSought c → IsTrue (is_met s c) → Contains added c

-- all that s meets
abbrev pub AddsAllMet : Pair → List Point → List Point → List Point → Type 0
AddsAllMet s points = AddsMet s points (Contains points)
