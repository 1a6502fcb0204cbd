-- What an overlay returns, as seen from the places that are farther than a number of halves from what is given. A call
-- reports the number, and only the last definition, which ties it to the splitting, speaks of passes.
use Rattle.std.specs.Prelude.{◌≡◌, ◌⊎◌, ◌<◌, ◌≤◌, ◌-ℤ◌, ℕ, pos, IsTrue, false, if◌then◌else◌, List, ◌++◌, All, map, count_by}
use Rattle.std.specs.List.{list_all}
use Rattle.overlay_geometry.specs.Meeting.{are_apart}
use Rattle.overlay_geometry.specs.Points.{Point, Pair, pair_eq}
use Rattle.overlay_base.specs.Places.{RationalPoint}
use Rattle.overlay_base.specs.Segments.{WholeSegment}
use Rattle.overlay_base.specs.Rules.{differ, holds}
use Rattle.overlay_base.specs.declared.overlay_core.fill_rule.FillRule.{FillRule}
use Rattle.overlay_base.specs.declared.overlay_core.overlay_rule.OverlayRule.{OverlayRule}
use Rattle.overlay_cuts.specs.Nearness.{LieNear}
use Rattle.overlay_build.specs.Boundary.{truth}
use Rattle.overlay_contours.specs.Contours.{AreProper, edges, winding_number, is_painted}
use Rattle.overlay_contours.specs.ContourSegments.{overlay_segments}
use Rattle.overlay_contours.specs.Corners.{corners}
use Rattle.overlay_contours.specs.Polygons.{IsBeyond, is_in_overlay}
use Rattle.overlay_contours.specs.Shapes.{all_contours, shapes_round, IsSimple, WindApart, IsLed, IsBoundaryWithHoles}
use Rattle.overlay_contours.specs.Splittings.{Splitting, IsLeftBy}

-- The contours have the region of a rule on their left, at the places beyond that distance.
pub record BoundBeyond (halves : ℕ) (rule : OverlayRule) (fill_rule : FillRule) (subject clip answer : List (List Point)) : Type 0 where
  -- They wind around each such place once, counterclockwise, where the rule holds, and not at all elsewhere; for a rule
  -- that holds of the places outside once less.
  pub winds : (p : RationalPoint) → 0 < p.bottom → IsBeyond halves subject clip p → winding_number answer p ≡ truth (is_in_overlay rule fill_rule subject clip p) -ℤ truth (holds rule false false)
  -- They enclose exactly those at which the rule's value differs from that outside.
  pub paints : (p : RationalPoint) → 0 < p.bottom → IsBeyond halves subject clip p → is_painted answer p ≡ differ (holds rule false false) (is_in_overlay rule fill_rule subject clip p)
  -- Each contour has points, and in none a point is next to itself.
  pub proper : AreProper answer

-- what an overlay returns for the contours of a subject and of a clip, beyond that distance
pub record IsOverlayBeyond (halves : ℕ) (rule : OverlayRule) (fill_rule : FillRule) (subject clip answer : List (List Point)) : Type 0 where
  pub bound : BoundBeyond halves rule fill_rule subject clip answer
  -- Each edge lies near a given one.
  pub near : LieNear halves (edges subject ++ edges clip) (edges answer)
  -- No two of the edges share more than an end, and none is there twice.
  pub apart : IsTrue (list_all (λ s. list_all (λ t. are_apart s t) (edges answer)) (edges answer))
  pub once : (e : Pair) → count_by (λ s. pair_eq s e) (edges answer) ≤ 1

-- what it returns without collinear points: none is left at which a contour goes straight on
pub record IsCornerOverlayBeyond (halves : ℕ) (rule : OverlayRule) (fill_rule : FillRule) (subject clip answer : List (List Point)) : Type 0 where
  pub bound : BoundBeyond halves rule fill_rule subject clip answer
  pub turns : map corners answer ≡ answer

-- what it returns in shapes
pub record IsShapeOverlayBeyond (halves : ℕ) (rule : OverlayRule) (fill_rule : FillRule) (subject clip : List (List Point)) (shapes : List (List (List Point))) : Type 0 where
  -- All contours together are the overlay.
  pub overlay : IsOverlayBeyond halves rule fill_rule subject clip (all_contours shapes)
  -- Each of them comes to no point twice.
  pub simple : All IsSimple (all_contours shapes)
  -- No place of the plane lies in two shapes, however near it is to what is given.
  pub apart : (p : RationalPoint) → 0 < p.bottom → WindApart shapes p
  -- For a rule that says no of the places outside, each shape winds once or not at all, and beyond the distance one winds
  -- exactly where the rule holds.
  pub named : holds rule false false ≡ false → (p : RationalPoint) → 0 < p.bottom → All (λ shape. (winding_number shape p ≡ pos 0) ⊎ (winding_number shape p ≡ pos 1)) shapes
  pub inside : holds rule false false ≡ false → (p : RationalPoint) → 0 < p.bottom → IsBeyond halves subject clip p → shapes_round shapes p ≡ (if is_in_overlay rule fill_rule subject clip p then 1 else 0)
  -- The first contour of each has its least point,
  pub led : All IsLed shapes
  -- and for a rule that says no of the places outside it is the outer boundary, and each other one is a hole.
  pub bounded : holds rule false false ≡ false → All IsBoundaryWithHoles shapes

-- The numbers that an overlay reports are those of its splitting: of passes, and of halves that these move things at most.
abbrev pub AreOfSplitting : Splitting → List (List Point) → List (List Point) → ℕ → ℕ → Type 0
AreOfSplitting splitting subject clip passes halves = (segments : List WholeSegment) × IsLeftBy splitting (overlay_segments subject clip) segments passes halves
