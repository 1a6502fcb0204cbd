-- Tiles of code as rectangles of whole numbers, and what is none.
use Rattle.std.specs.Prelude.{ℤ, ◌≤ℤ◌, ◌<ℤ◌, List, [], ◌∷◌, Vec, Some, None}
use Rattle.std.specs.Global.{Global}
use Rattle.std.specs.declared.option.Option.{Option}
use Rattle.overlay_geometry.specs.Points.{Point}
use Rattle.overlay_geometry.specs.declared.geom.point.IntPoint.{IntPoint}
use Rattle.overlay_contours.specs.ContoursOf.{points_of}
use Rattle.overlay_geometry.specs.RangeOf.{rect_of}
use Rattle.overlay_geometry.specs.Ranges.{Rect}
use Rattle.overlay_geometry.specs.declared.geom.rect.IntRect.{IntRect}
use Rattle.overlay_tiles.specs.RectIn.{IsRectInRange}
use Rattle.overlay_tiles.specs.declared.tile.Tile.{Tile}
use Rattle.overlay_tiles.specs.declared.tile.TileFault.{TileFault}
use Rattle.overlay_tiles.specs.declared.tile.TileFault.TheVariants.{OutOfRange, NotWide, NotHigh}

-- the four borders of a tile
abbrev pub tile_of : {I : Type 0} {w : _} {o : _} {e : _} {p : _} → (I → ℤ) → Tile I w o e p → Rect
tile_of whole tile = rect_of whole tile.rect

-- The fault is the first thing that is wrong with a rectangle: its range, its width, or its height.
abbrev pub IsFaultOf : {I : Type 0} → (I → ℤ) → I → I → IntRect I → TileFault → Type 0
IsFaultOf whole least greatest rect OutOfRange = IsRectInRange whole least greatest rect → ⊥
IsFaultOf whole least greatest rect NotWide = IsRectInRange whole least greatest rect × (whole rect.max_x ≤ℤ whole rect.min_x)
IsFaultOf whole least greatest rect NotHigh = IsRectInRange whole least greatest rect × (whole rect.min_x <ℤ whole rect.max_x) × (whole rect.max_y ≤ℤ whole rect.min_y)

-- what a tile has of one contour: none, or one
abbrev pub part_of : {I : Type 0} → (I → ℤ) → Option (Vec (IntPoint I) Global) → List (List Point)
part_of whole None = []
part_of whole (Some contour) = points_of whole contour.items ∷ []
