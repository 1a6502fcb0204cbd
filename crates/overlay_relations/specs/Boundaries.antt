-- The boundary of a shape, exactly, and crossings at points that are not whole.
use Rattle.std.specs.Prelude.{Bool, List, []}
use Rattle.overlay_geometry.specs.Points.{Point}
use Rattle.overlay_base.specs.Join.{join}
use Rattle.overlay_base.specs.declared.overlay_core.fill_rule.FillRule.{FillRule}
use Rattle.overlay_base.specs.declared.overlay_core.overlay_rule.OverlayRule.TheVariants.{Subject}
use Rattle.overlay_intersections.specs.PassMarks.{is_rounded}
use Rattle.overlay_contours.specs.Beyond.{IsOverlayBeyond}
use Rattle.overlay_contours.specs.ContourSegments.{overlay_segments}

-- Whether some two edges of contours cross at a point that is not whole. Equal edges count as one, and those whose counts cancel as none.
abbrev pub has_inexact_crossing : List (List Point) → List (List Point) → Bool
has_inexact_crossing subject clip = is_rounded (join (overlay_segments subject clip))

-- the boundary of a shape, exactly: its overlay by the rule `Subject`, where nothing is moved
abbrev pub IsBoundaryOf : FillRule → List (List Point) → List (List Point) → Type 0
IsBoundaryOf fill_rule contours boundary = IsOverlayBeyond 0 Subject fill_rule contours [] boundary
