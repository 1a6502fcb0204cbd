-- Rectangles whose borders are an engine's coordinates.
use Rattle.std.specs.Prelude.{ℤ, IsTrue}
use Rattle.overlay_geometry.specs.Coordinates.{is_coordinate}
use Rattle.overlay_geometry.specs.declared.geom.rect.IntRect.{IntRect}

-- Each border lies from the least to the greatest coordinate.
pub record IsRectInRange {I : Type 0} (whole : I → ℤ) (least greatest : I) (rect : IntRect I) : Type 0 where
  pub left : IsTrue (is_coordinate (whole least) (whole greatest) (whole rect.min_x))
  pub right : IsTrue (is_coordinate (whole least) (whole greatest) (whole rect.max_x))
  pub lower : IsTrue (is_coordinate (whole least) (whole greatest) (whole rect.min_y))
  pub upper : IsTrue (is_coordinate (whole least) (whole greatest) (whole rect.max_y))
