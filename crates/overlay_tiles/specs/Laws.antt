-- Laws of tiles that functions of `laws` name in their contracts.
use Rattle.std.specs.Prelude.{ℕ, ◌≡◌, ◌<◌, pos, ◌+ℤ◌, IsTrue, List, map, filter, All, Contains}
use Rattle.overlay_geometry.specs.Points.{Point, Pair}
use Rattle.overlay_geometry.specs.Ranges.{Rect}
use Rattle.overlay_base.specs.Join.{join}
use Rattle.overlay_base.specs.Places.{RationalPoint, winding_below}
use Rattle.overlay_base.specs.Segments.{WholeSegment, pairs, are_ordered}
use Rattle.overlay_base.specs.Sums.{gathered}
use Rattle.overlay_cuts.specs.Nearness.{IsNear, LiesNear}
use Rattle.overlay_cuts.specs.Pass.{pass_by}
use Rattle.overlay_cuts.specs.Places.{IsFar}
use Rattle.overlay_snapping.specs.Chains.{AreSnapCuts, AreDecided}
use Rattle.overlay_snapping.specs.SnapOf.{reach_of_snap}
use Rattle.overlay_contours.specs.Contours.{steps_from, steps, turned, step_winding, winding_number}
use Rattle.overlay_contours.specs.ContourSegments.{overlay_segments, overlay_winding}
use Rattle.overlay_tiles.specs.Tiles.{IsTile, BelongsToTile, LiesInTile, AreApart, clamp, cut_path, all_clipped, is_slanted}

-- ---- what contours keep in a tile

-- p is farther than half a unit from s, or s runs along an axis
abbrev pub IsOff : RationalPoint → Pair → Type 0
IsOff p s = IsTrue (is_slanted s) → IsNear 1 p s → ⊥

-- Contours wind around each point of the tile as the given ones, if it is farther than half a unit from each given step that runs
-- along no axis.
abbrev pub WindAlikeInTile : Rect → List (List Point) → List (List Point) → Type 0
WindAlikeInTile tile given contours =
    (p : RationalPoint) → BelongsToTile tile p → 0 < p.bottom → All (IsOff p) (steps given) → winding_number contours p ≡ winding_number given p

-- All their points lie in the tile.
abbrev pub LieInTile : Rect → List (List Point) → Type 0
LieInTile tile contours = All (All (LiesInTile tile)) contours

-- A given step that runs along no axis has the step within half a unit, whichever way that runs.
pub record HasNear (given : List (List Point)) (r : Pair) : Type 0 where
  pub step : Pair
  pub is_given : Contains (steps given) step
  pub slanted : IsTrue (is_slanted step)
  pub near : LiesNear 1 r step
  pub near_turned : LiesNear 1 (turned r) step

-- Each step that runs along no axis lies within half a unit of such a given one.
abbrev pub LieNearGiven : List (List Point) → List (List Point) → Type 0
LieNearGiven given contours = All (λ r. IsTrue (is_slanted r) → HasNear given r) (steps contours)

-- ---- clipped contours

-- The path of a step, clamped to a tile, winds around a point of the tile as the step.
abbrev pub StepsWindAlike : Type 0
StepsWindAlike =
    (tile : Rect) (s : Pair) (p : RationalPoint) → IsTile tile → BelongsToTile tile p → 0 < p.bottom → IsOff p s →
    gathered ◌+ℤ◌ (pos 0) (step_winding p) (steps_from (clamp tile s.a) (map (clamp tile) (cut_path tile s))) ≡ step_winding p s

abbrev pub ContoursWindAlike : Type 0
ContoursWindAlike = (tile : Rect) (contours : List (List Point)) → IsTile tile → WindAlikeInTile tile contours (all_clipped tile contours)

abbrev pub ClippedLieInTile : Type 0
ClippedLieInTile = (tile : Rect) (contours : List (List Point)) → IsTile tile → LieInTile tile (all_clipped tile contours)

abbrev pub ClippedLieNear : Type 0
ClippedLieNear = (tile : Rect) (contours : List (List Point)) → IsTile tile → LieNearGiven contours (all_clipped tile contours)

-- What lies in one tile winds around no point of another one from which it is apart.
abbrev pub OthersCountNothing : Type 0
OthersCountNothing =
    (tile other : Rect) (contours : List (List Point)) (p : RationalPoint) → AreApart tile other → BelongsToTile tile p → LieInTile other contours →
    winding_number contours p ≡ pos 0

-- ---- clipped contours, split

-- Snap rounding keeps the winding at each point that is farther than it reaches from each given segment that runs along no axis,
-- however near it is to those that run along one.
abbrev pub SnapKeepsWindingOffAxes : Type 0
SnapKeepsWindingOffAxes =
    (given : List WholeSegment) (on : Pair → List Point) (p : RationalPoint) → IsTrue (are_ordered given) → AreDecided (join given) → AreSnapCuts (join given) on →
    IsFar (reach_of_snap given) p (filter is_slanted (pairs given)) → winding_below (pass_by on (join given)) p ≡ winding_below given p

-- p is farther than that many halves from every step of the contours that runs along no axis
abbrev pub IsFarOffAxes : ℕ → RationalPoint → List (List Point) → Type 0
IsFarOffAxes halves p contours = (s : Pair) → Contains (steps contours) s → IsTrue (is_slanted s) → IsNear halves p s → ⊥

-- Contours that wind around the points of a tile as the given ones and lie near these, as clipped ones do, still wind so when they are
-- split by snap rounding, around each point that is farther than a whole unit from every given step that runs along no axis: half a unit
-- for the cuts, and half a unit for the crossings.
abbrev pub TilesWindAlike : Type 0
TilesWindAlike =
    (tile : Rect) (subject clip in_subject in_clip : List (List Point)) (on : Pair → List Point) (p : RationalPoint) →
    WindAlikeInTile tile subject in_subject → LieNearGiven subject in_subject → WindAlikeInTile tile clip in_clip → LieNearGiven clip in_clip →
    BelongsToTile tile p → 0 < p.bottom → IsFarOffAxes 2 p subject → IsFarOffAxes 2 p clip →
    let given = overlay_segments in_subject in_clip in
    AreDecided (join given) → AreSnapCuts (join given) on → winding_below (pass_by on (join given)) p ≡ overlay_winding subject clip p
