-- What the overlay of one tile returns.
use Rattle.std.specs.Prelude.{◌≡◌, ◌⊎◌, ◌<◌, ◌≤◌, ◌-ℤ◌, ℤ, pos, IsTrue, false, List, count_by}
use Rattle.std.specs.List.{list_all}
use Rattle.overlay_geometry.specs.Meeting.{are_apart}
use Rattle.overlay_geometry.specs.Points.{Point, Pair, pair_eq}
use Rattle.overlay_geometry.specs.Ranges.{Rect}
use Rattle.overlay_base.specs.Places.{RationalPoint}
use Rattle.overlay_base.specs.Rules.{holds}
use Rattle.overlay_base.specs.declared.overlay_core.fill_rule.FillRule.{FillRule}
use Rattle.overlay_base.specs.declared.overlay_core.overlay_rule.OverlayRule.{OverlayRule}
use Rattle.overlay_build.specs.Boundary.{truth}
use Rattle.overlay_contours.specs.Contours.{AreProper, edges, winding_number}
use Rattle.overlay_contours.specs.ContourSegments.{are_in_range, IsFirstOutside}
use Rattle.overlay_contours.specs.Polygons.{IsPolygonOverlay, is_in_overlay}
use Rattle.overlay_contours.specs.Refusals.{of_shape, IsReason}
use Rattle.overlay_contours.specs.Splittings.{by_snapping}
use Rattle.overlay_contours.specs.declared.fault.ContourFault.{ContourFault}
use Rattle.overlay_contours.specs.declared.fault.ContourFault.TheVariants.{OutOfRange, Refused}
use Rattle.overlay_tiles.specs.Tiles.{IsTile, BelongsToTile, in_tile}
use Rattle.overlay_tiles.specs.Laws.{LieInTile, IsFarOffAxes}

-- what the overlay of a subject's and a clip's contours returns for one tile
pub record IsTilePart (tile : Rect) (rule : OverlayRule) (fill_rule : FillRule) (subject clip answer : List (List Point)) : Type 0 where
  -- It winds around each point that belongs to the tile and is farther than a whole unit from every given step that runs along no axis:
  -- once, counterclockwise, where the rule holds, and not at all elsewhere; for a rule that holds of points outside once less.
  pub winds : (p : RationalPoint) → 0 < p.bottom → BelongsToTile tile p → IsFarOffAxes 2 p subject → IsFarOffAxes 2 p clip →
      winding_number answer p ≡ truth (is_in_overlay rule fill_rule subject clip p) -ℤ truth (holds rule false false)
  -- Around every point of the plane it winds once or not at all; for a rule that holds of points outside once less.
  pub once_or_not : (p : RationalPoint) → 0 < p.bottom →
      (winding_number answer p ≡ pos 1 -ℤ truth (holds rule false false)) ⊎ (winding_number answer p ≡ pos 0 -ℤ truth (holds rule false false))
  -- All its points lie in the tile. So it winds around no point of another tile.
  pub inside : LieInTile tile answer
  -- Each contour has points, and in none a point is next to itself.
  pub proper : AreProper answer
  -- No two of its edges share more than an end, and none is there twice.
  pub apart : IsTrue (list_all (λ s. list_all (λ t. are_apart s t) (edges answer)) (edges answer))
  pub once : (e : Pair) → count_by (λ s. pair_eq s e) (edges answer) ≤ 1

-- Why that overlay was refused: the first point out of range is named, where there is one; else a growth was refused, or a count leaves
-- the range when the contours are split that the tile has of the given ones.
abbrev pub IsTileRefusal : ℤ → ℤ → Rect → List (List Point) → List (List Point) → ContourFault → Type 0
IsTileRefusal least greatest tile subject clip (OutOfRange shape_type contour point) = IsFirstOutside least greatest (of_shape shape_type subject clip) contour point
IsTileRefusal least greatest tile subject clip (Refused fault) =
    IsTrue (are_in_range least greatest subject) × IsTrue (are_in_range least greatest clip) × IsReason by_snapping (in_tile tile subject) (in_tile tile clip) fault

-- The overlay by snap rounding of what a tile has of given contours is the part of theirs that belongs to the tile.
abbrev pub OverlaysInTileAreParts : Type 0
OverlaysInTileAreParts =
    (tile : Rect) → IsTile tile → (rule : OverlayRule) (fill_rule : FillRule) (subject clip answer : List (List Point)) →
    IsPolygonOverlay by_snapping rule fill_rule (in_tile tile subject) (in_tile tile clip) answer → IsTilePart tile rule fill_rule subject clip answer
