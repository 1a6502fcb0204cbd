-- Tiles of records, and what an engine is given of contours in them.
use Rattle.std.specs.Prelude.{◌≡◌, ◌⊎◌, ◌++◌, ◌∷◌, [], ℕ, IsTrue, List, map}
use Rattle.overlay_build.specs.Laid.{AreLaid}
use Rattle.overlay_base.specs.declared.segm.shape_type.ShapeType.{ShapeType}
use Rattle.overlay_geometry.specs.Coordinates.{is_coordinate, least_coordinate, greatest_coordinate}
use Rattle.overlay_geometry.specs.Ranges.{Rect}
use Rattle.overlay_tiles.specs.Tiles.{IsTile, in_tile}
use Rattle.overlay_c.specs.Contours.{point_by, contours_in}
use Rattle.overlay_c.specs.declared.contours.PointRecord.{PointRecord}
use Rattle.overlay_c.specs.declared.engine.Engine.{Engine}
use Rattle.overlay_c.specs.declared.tiles.TileRecord.{TileRecord}

-- the borders of a record
abbrev pub tile_by : TileRecord → Rect
tile_by r = record { min_x = r.min_x; max_x = r.max_x; min_y = r.min_y; max_y = r.max_y }

-- A record has the borders of a tile: each is in range, and it is wider and higher than 0.
pub record MakesTile (r : TileRecord) : Type 0 where
  pub left : IsTrue (is_coordinate least_coordinate greatest_coordinate r.min_x)
  pub right : IsTrue (is_coordinate least_coordinate greatest_coordinate r.max_x)
  pub lower : IsTrue (is_coordinate least_coordinate greatest_coordinate r.min_y)
  pub upper : IsTrue (is_coordinate least_coordinate greatest_coordinate r.max_y)
  pub is : IsTile (tile_by r)

-- What a tile has of a contour is added behind the others of a shape.
abbrev pub AddsInTile : ShapeType → TileRecord → List PointRecord → Engine → Engine → Type 0
AddsInTile shape tile contour before after = contours_in after shape ≡ contours_in before shape ++ in_tile (tile_by tile) (map point_by contour ∷ [])

-- What a call returns that adds a contour in a tile: it did, memory was refused, a point is out of range, or the record has no tile.
abbrev pub IsAddInTileCode : ℕ → Type 0
IsAddInTileCode code = (code ≡ 0) ⊎ (code ≡ 1) ⊎ (code ≡ 4) ⊎ (code ≡ 5)

-- It keeps the contours of a shape that it was given as those of a result, in no shapes.
pub record KeepsGiven (shape : ShapeType) (engine : Engine) : Type 0 where
  pub kept : AreLaid (contours_in engine shape) engine.contour_lengths.items (map point_by engine.contour_points.items)
  pub no_shapes : engine.shape_lengths.items ≡ []
