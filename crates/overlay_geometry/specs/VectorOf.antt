-- The way from one point to another as two whole numbers.
use Rattle.overlay_geometry.specs.Points.{Point}
use Rattle.overlay_geometry.specs.declared.geom.vector.IntVector.{IntVector}

abbrev pub vector_of : IntVector → Point
vector_of v = record { x = v.x; y = v.y }
