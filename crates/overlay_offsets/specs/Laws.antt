-- Laws over the definitions: statements that the contracts of `laws` name.
use Rattle.std.specs.Prelude.{◌≡◌, ◌⊎◌, ◌<◌, ℤ, pos, ◌+ℤ◌, ◌≤ℤ◌, ◌<ℤ◌, List, [], ◌∷◌}
use Rattle.overlay_geometry.specs.Points.{Point, Pair, turn}
use Rattle.overlay_base.specs.Places.{RationalPoint}
use Rattle.overlay_base.specs.Rays.{place_turn}
use Rattle.overlay_contours.specs.Contours.{winding_number}
use Rattle.overlay_offsets.specs.Outlines.{outline, parallelograms, fans, RunsOutside}

-- The outline of a contour winds as the contour, the parallelograms of its steps, and the fans at their ends, together.
abbrev pub OutlineWindsAsPieces : Type 0
OutlineWindsAsPieces =
    (vector : Pair → Point) (between : Pair → Pair → List Point) (contour : List Point) (p : RationalPoint) →
    winding_number (outline vector between contour ∷ []) p ≡ winding_number (contour ∷ []) p +ℤ (winding_number (parallelograms vector contour) p +ℤ winding_number (fans vector between contour) p)

-- how often a triangle winds around a point, by the turns from its sides to the point
pub record IsTriangleWinding (t u v w : ℤ) : Type 0 where
  pub once : (w ≡ pos 0) ⊎ (w ≡ pos 1)
  pub inside : pos 0 <ℤ t → pos 0 <ℤ u → pos 0 <ℤ v → w ≡ pos 1
  pub outside : (t <ℤ pos 0) ⊎ ((u <ℤ pos 0) ⊎ (v <ℤ pos 0)) → w ≡ pos 0

abbrev side_turn : Point → Point → RationalPoint → ℤ
side_turn a b p = place_turn (record { a = a; b = b }) p

-- A triangle that does not turn right winds once or not at all.
abbrev pub TriangleWindsOnce : Type 0
TriangleWindsOnce =
    (a b c : Point) (p : RationalPoint) → 0 < p.bottom → pos 0 ≤ℤ turn a b c →
    IsTriangleWinding (side_turn a b p) (side_turn b c p) (side_turn c a p) (winding_number ((a ∷ b ∷ c ∷ []) ∷ []) p)

-- Where steps are moved to their right, and ways around their ends turn left, every piece winds 0 or more: so the outline winds at least as
-- often as the contour.
abbrev pub OutlineWindsNoLess : Type 0
OutlineWindsNoLess =
    (vector : Pair → Point) (between : Pair → Pair → List Point) (contour : List Point) (p : RationalPoint) → 0 < p.bottom → RunsOutside vector between contour →
    winding_number (contour ∷ []) p ≤ℤ winding_number (outline vector between contour ∷ []) p
