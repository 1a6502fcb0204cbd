-- Worked examples of the given steps that sources name, and of steps with data. Each holds by computation.
use Rattle.std.specs.Prelude.{◌≡◌, refl, ℕ, Some, None, List, [], ◌∷◌}
use Rattle.overlay_base.specs.declared.segm.shape_type.ShapeType.TheVariants.{Subject, Clip}
use Rattle.overlay_contours.specs.DataContours.{DataStep, data_steps}
use Rattle.overlay_contours.specs.Sources.{given_step}
use Rattle.overlay_contours.proofs.examples.Polygons.{point, square}

-- of two squares: the last edge of the clip's leads back to its first point
last_edge : given_step (square 0 4 ∷ []) (square 2 6 ∷ []) (record { shape_type = Clip; contour = 0; edge = 3 }) ≡ Some (record { a = point 2 6; b = point 2 2 })
last_edge = refl

-- no square has a fifth edge, and the subject has one contour
no_fifth : given_step (square 0 4 ∷ []) (square 2 6 ∷ []) (record { shape_type = Clip; contour = 0; edge = 4 }) ≡ None
no_fifth = refl

no_second : given_step (square 0 4 ∷ []) (square 2 6 ∷ []) (record { shape_type = Subject; contour = 1; edge = 0 }) ≡ None
no_second = refl

-- a triangle whose steps are numbered
numbered : List (DataStep ℕ)
numbered = record { point = point 0 0; edge_data = 7 } ∷ record { point = point 4 0; edge_data = 8 } ∷ record { point = point 0 4; edge_data = 9 } ∷ []

-- each step has the number at the point where it starts
steps_numbered : data_steps (numbered ∷ []) ≡ ((record { a = point 0 0; b = point 4 0 }, 7) ∷ (record { a = point 4 0; b = point 0 4 }, 8) ∷ (record { a = point 0 4; b = point 0 0 }, 9) ∷ [])
unfolding numbered
steps_numbered = refl
