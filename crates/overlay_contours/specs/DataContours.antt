-- Contours whose steps have data.
use Rattle.std.specs.Prelude.{List, map, flat_map}
use Rattle.std.specs.List.{zip}
use Rattle.overlay_geometry.specs.Points.{Point, Pair}
use Rattle.overlay_contours.specs.Contours.{steps_of}

-- where a step of a contour starts, and its data
pub record DataStep (D : Type 0) : Type 0 where
  pub point : Point
  pub edge_data : D

-- the points of a contour, without data
abbrev pub points_in : {D : Type 0} → List (DataStep D) → List Point
points_in contour = map (λ s. s.point) contour

-- its steps, each with its data
abbrev pub data_steps_of : {D : Type 0} → List (DataStep D) → List (Pair × D)
data_steps_of contour = zip (steps_of (points_in contour)) (map (λ s. s.edge_data) contour)

-- those of all contours of a list
abbrev pub data_steps : {D : Type 0} → List (List (DataStep D)) → List (Pair × D)
data_steps contours = flat_map data_steps_of contours

-- all contours of some shapes
abbrev pub all_data_contours : {D : Type 0} → List (List (List (DataStep D))) → List (List (DataStep D))
all_data_contours shapes = flat_map (λ shape. shape) shapes
