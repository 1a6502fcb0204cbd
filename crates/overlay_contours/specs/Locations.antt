-- Where a point lies with respect to contours, under a fill rule.
use Rattle.std.specs.Prelude.{Bool, if◌then◌else◌, List}
use Rattle.std.specs.List.{list_any}
use Rattle.overlay_geometry.specs.Points.{Point, lies_on}
use Rattle.overlay_base.specs.declared.overlay_core.fill_rule.FillRule.{FillRule}
use Rattle.overlay_cuts.specs.Nearness.{whole_point}
use Rattle.overlay_sweep.specs.Fill.{is_inside}
use Rattle.overlay_contours.specs.Contours.{steps, winding_number}
use Rattle.overlay_contours.specs.declared.location.PointLocation.{PointLocation}
use Rattle.overlay_contours.specs.declared.location.PointLocation.TheVariants.{Inside, OnBoundary, Outside}

-- whether p lies on a step of the contours, ends included
abbrev pub is_on_step : List (List Point) → Point → Bool
is_on_step contours p = list_any (λ s. lies_on s p) (steps contours)

-- on the boundary where p lies on a step, and else inside or outside by how often the contours wind around it
abbrev pub location : FillRule → List (List Point) → Point → PointLocation
location fill_rule contours p =
    if is_on_step contours p
    then OnBoundary
    else (if is_inside fill_rule (winding_number contours (whole_point p)) then Inside else Outside)
