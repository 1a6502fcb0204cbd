-- The boundary of a region as segments of one shape, which may be given to a further overlay.
use Rattle.std.specs.Prelude.{◌≡◌, ◌<◌, IsTrue, ℤ, pos, Bool, List, map}
use Rattle.overlay_base.specs.Windings.{Winding}
use Rattle.overlay_base.specs.Segments.{WholeSegment}
use Rattle.overlay_base.specs.Places.{RationalPoint, winding_below}
use Rattle.overlay_base.specs.Planar.{is_splittable, is_arranged}
use Rattle.overlay_base.specs.Balance.{IsBalanced}
use Rattle.overlay_base.specs.declared.overlay_core.fill_rule.FillRule.{FillRule}
use Rattle.overlay_base.specs.declared.segm.shape_type.ShapeType.{ShapeType}
use Rattle.overlay_base.specs.declared.segm.shape_type.ShapeType.TheVariants.{Subject, Clip}
use Rattle.overlay_build.specs.Boundary.{of_subject, times_round}

-- the count of n contours of a shape
abbrev pub of_shape : ShapeType → ℤ → Winding
of_shape Subject n = of_subject n
of_shape Clip n = record { subj = pos 0; clip = n; mask = 0 }

-- segments of a subject as those of a shape, each as often and the same way
unfoldable pub in_shape : ShapeType → List WholeSegment → List WholeSegment
in_shape shape segments = map (λ s. record { pair = s.pair; count = of_shape shape s.count.subj }) segments

-- A list is the boundary of the region of a truth function, in an arrangement, as one shape. So a further overlay may be given it.
pub record BoundsAsShape (least greatest : ℤ) (shape : ShapeType) (rule : Bool → Bool → Bool) (fill_rule : FillRule) (segments list : List WholeSegment) : Type 0 where
  -- It is a planar arrangement, in range and with valid counts: a split leaves it as it is, and a sweep may go over it.
  pub arranged : IsTrue (is_arranged least greatest list)
  pub splittable : IsTrue (is_splittable least greatest list)
  -- at every point as many start as end
  pub balanced : IsBalanced list
  -- and around every place of the plane they wind so often, for this shape alone
  pub winds : (p : RationalPoint) → 0 < p.bottom → winding_below list p ≡ of_shape shape (times_round rule fill_rule (winding_below segments p))
