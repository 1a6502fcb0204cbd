-- How often some steps wind around a point that lies on none of them.
use Rattle.std.specs.Prelude.{◌≡◌, ℤ, pos, ◌+ℤ◌, Bool, IsTrue, IsFalse, IfSome, Option, IfNone, List}
use Rattle.std.specs.List.{list_any}
use Rattle.overlay_geometry.specs.Points.{Point, Pair, lies_on}
use Rattle.overlay_base.specs.Sums.{gathered}
use Rattle.overlay_cuts.specs.Nearness.{whole_point}
use Rattle.overlay_contours.specs.Contours.{step_winding}

-- whether p lies on one of the steps
abbrev pub is_on_one : List Pair → Point → Bool
is_on_one list p = list_any (λ s. lies_on s p) list

-- how often the steps wind around p
abbrev pub winding_of_steps : List Pair → Point → ℤ
winding_of_steps list p = gathered ◌+ℤ◌ (pos 0) (step_winding (whole_point p)) list

-- The winding number of the steps, or none where p lies on one of them.
pub record IsWindingOf (list : List Pair) (p : Point) (found : Option ℤ) : Type 0 where
  pub none : IfNone found (IsTrue (is_on_one list p))
  pub off : IfSome found (λ winding. IsFalse (is_on_one list p))
  pub winds : IfSome found (λ winding. winding ≡ winding_of_steps list p)
