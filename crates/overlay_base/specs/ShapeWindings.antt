-- The counts of one contour of a shape, run forward and backward.
use Rattle.std.specs.Prelude.{ℤ, pos, negsuc}
use Rattle.overlay_base.specs.Windings.{Winding}
use Rattle.overlay_base.specs.declared.segm.shape_type.ShapeType.{ShapeType}
use Rattle.overlay_base.specs.declared.segm.shape_type.ShapeType.TheVariants.{Subject, Clip}

-- `made` is what a kind of count makes of a number for the subject and one for the clip
abbrev pub direct_winding : (ℤ → ℤ → Winding) → ShapeType → Winding
direct_winding made Subject = made (pos 1) (pos 0)
direct_winding made Clip = made (pos 0) (pos 1)

abbrev pub inverted_winding : (ℤ → ℤ → Winding) → ShapeType → Winding
inverted_winding made Subject = made (negsuc 0) (pos 0)
inverted_winding made Clip = made (pos 0) (negsuc 0)
