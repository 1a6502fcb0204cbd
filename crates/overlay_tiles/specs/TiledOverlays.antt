-- What an overlay by tiles returns, and why it is refused.
use Rattle.std.specs.Prelude.{◌≡◌, ◌⊎◌, ◌+◌, ◌<◌, ◌-ℤ◌, ◌||◌, ℕ, ℤ, pos, int_le, Bool, false, ⊤, List, [], ◌∷◌, ◌++◌, length, map, All, Contains}
use Rattle.overlay_geometry.specs.Points.{Point}
use Rattle.overlay_geometry.specs.Ranges.{Rect}
use Rattle.overlay_base.specs.Places.{RationalPoint}
use Rattle.overlay_base.specs.Rules.{holds}
use Rattle.overlay_base.specs.declared.overlay_core.fill_rule.FillRule.{FillRule}
use Rattle.overlay_base.specs.declared.overlay_core.overlay_rule.OverlayRule.{OverlayRule}
use Rattle.overlay_build.specs.Boundary.{truth}
use Rattle.overlay_contours.specs.Contours.{AreProper, winding_number}
use Rattle.overlay_contours.specs.Polygons.{is_in_overlay}
use Rattle.overlay_contours.specs.declared.fault.ContourFault.{ContourFault}
use Rattle.overlay_tiles.specs.Laws.{LieInTile, IsFarOffAxes}
use Rattle.overlay_tiles.specs.TileOf.{tile_of}
use Rattle.overlay_tiles.specs.TileOverlays.{IsTilePart, IsTileRefusal}
use Rattle.overlay_tiles.specs.Tiles.{AreApart, BelongsToTile}
use Rattle.overlay_tiles.specs.declared.tile.Tile.{Tile}
use Rattle.overlay_tiles.specs.declared.tiled.TilingFault.{TilingFault}
use Rattle.overlay_tiles.specs.declared.tiled.TilingFault.TheVariants.{NotApart, Refused}

-- ---- tilings

-- the borders of the tiles of a list
abbrev pub tiles_of : {I : Type 0} {w : _} {o : _} {e : _} {p : _} → (I → ℤ) → List (Tile I w o e p) → List Rect
tiles_of whole tiles = map (tile_of whole) tiles

-- whether two tiles are apart by a line along an axis, as a test of their borders
abbrev pub is_apart : Rect → Rect → Bool
is_apart tile other = int_le other.max_x tile.min_x || int_le tile.max_x other.min_x || int_le other.max_y tile.min_y || int_le tile.max_y other.min_y

-- Each two tiles are apart by a line along an axis.
abbrev pub AreApartInPairs : List Rect → Type 0
AreApartInPairs [] = ⊤
AreApartInPairs (tile ∷ tiles) = All (AreApart tile) tiles × AreApartInPairs tiles

-- The tile at an index of a list is not apart from a given one.
pub record MeetsAt (tile : Rect) (tiles : List Rect) (index : ℕ) : Type 0 where
  pub earlier : List Rect
  pub other : Rect
  pub later : List Rect
  pub tiles_are : tiles ≡ earlier ++ other ∷ later
  pub index_is : index ≡ length earlier
  pub meet : AreApart tile other → ⊥

-- The tiles at two indexes are not apart, and the second index is the greater one.
pub record Meet (tiles : List Rect) (first second : ℕ) : Type 0 where
  pub earlier : List Rect
  pub tile : Rect
  pub later : List Rect
  pub between : ℕ
  pub tiles_are : tiles ≡ earlier ++ tile ∷ later
  pub first_is : first ≡ length earlier
  pub second_is : second ≡ first + 1 + between
  pub meets : MeetsAt tile later between

-- The point belongs to none of the tiles.
abbrev pub BelongsToNone : List Rect → RationalPoint → Type 0
BelongsToNone tiles p = (tile : Rect) → Contains tiles tile → BelongsToTile tile p → ⊥

-- ---- overlays

-- Contours are those of one part after another, one part for each tile.
abbrev pub AreParts : (Rect → List (List Point) → Type 0) → List Rect → List (List Point) → Type 0
AreParts IsPart [] contours = contours ≡ []
AreParts IsPart (tile ∷ tiles) contours =
    (part : List (List Point)) × (others : List (List Point)) × (contours ≡ part ++ others) × IsPart tile part × AreParts IsPart tiles others

-- what the overlay of a subject's and a clip's contours returns for a list of tiles
pub record IsTiledOverlay (tiles : List Rect) (rule : OverlayRule) (fill_rule : FillRule) (subject clip answer : List (List Point)) : Type 0 where
  -- It winds around each point that belongs to one of the tiles and is farther than a whole unit from every given step that runs along no
  -- axis: once, counterclockwise, where the rule holds, and not at all elsewhere; for a rule that holds of points outside once less.
  pub winds : (p : RationalPoint) → 0 < p.bottom → (tile : Rect) → Contains tiles tile → BelongsToTile tile p → IsFarOffAxes 2 p subject → IsFarOffAxes 2 p clip →
      winding_number answer p ≡ truth (is_in_overlay rule fill_rule subject clip p) -ℤ truth (holds rule false false)
  -- Around every point of a tile it winds once or not at all; for a rule that holds of points outside once less.
  pub once_or_not : (p : RationalPoint) → 0 < p.bottom → (tile : Rect) → Contains tiles tile → BelongsToTile tile p →
      (winding_number answer p ≡ pos 1 -ℤ truth (holds rule false false)) ⊎ (winding_number answer p ≡ pos 0 -ℤ truth (holds rule false false))
  -- It does not wind around points that belong to no tile.
  pub nowhere_else : (p : RationalPoint) → 0 < p.bottom → BelongsToNone tiles p → winding_number answer p ≡ pos 0
  -- Each contour has points, and in none a point is next to itself.
  pub proper : AreProper answer
  -- The contours are those of the parts of the tiles, one part after another.
  pub parts : AreParts (λ tile part. IsTilePart tile rule fill_rule subject clip part) tiles answer

-- The fault is one of the overlay of one of the tiles.
abbrev pub IsSomeRefusal : ℤ → ℤ → List Rect → List (List Point) → List (List Point) → ContourFault → Type 0
IsSomeRefusal least greatest tiles subject clip fault = (tile : Rect) × Contains tiles tile × IsTileRefusal least greatest tile subject clip fault

-- Why an overlay by tiles was refused: two tiles are named that are not apart, where there are two; else the overlay of a tile was refused.
abbrev pub IsTilingRefusal : ℤ → ℤ → List Rect → List (List Point) → List (List Point) → TilingFault → Type 0
IsTilingRefusal least greatest tiles subject clip (NotApart first second) = Meet tiles first second
IsTilingRefusal least greatest tiles subject clip (Refused fault) = AreApartInPairs tiles × IsSomeRefusal least greatest tiles subject clip fault
