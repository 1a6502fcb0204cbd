-- What an engine keeps of an arrangement of contours, and of overlays that rules make of it.
use Rattle.std.specs.Prelude.{◌≡◌, ℕ, Bool, true, false, List, [], map, length, None, IsSome, IfSome}
use Rattle.overlay_geometry.specs.Points.{Point}
use Rattle.overlay_base.specs.declared.overlay_core.fill_rule.FillRule.{FillRule}
use Rattle.overlay_base.specs.declared.overlay_core.overlay_rule.OverlayRule.{OverlayRule}
use Rattle.overlay_base.specs.declared.segm.fault.Fault.TheVariants.{Memory}
use Rattle.overlay_base.specs.declared.segm.shape_type.ShapeType.TheVariants.{Subject, Clip}
use Rattle.overlay_build.specs.Laid.{AreLaid}
use Rattle.overlay_contours.specs.ArrangementsOf.{IsArrangementOf, passes_of, reach_of}
use Rattle.overlay_contours.specs.Beyond.{IsOverlayBeyond, IsCornerOverlayBeyond, IsShapeOverlayBeyond}
use Rattle.overlay_contours.specs.ArrangementsOf.{KeepsArrangement as StaysArranged}
use Rattle.overlay_contours.specs.CornerOverlays.{IsCornerOverlay}
use Rattle.overlay_contours.specs.CornerShapes.{IsCornerShapeOverlay, IsCornerShapeOverlayBeyond}
use Rattle.overlay_contours.specs.declared.arrangement.Arrangement.{Arrangement}
use Rattle.overlay_contours.specs.Polygons.{IsPolygonOverlay}
use Rattle.overlay_contours.specs.Shapes.{all_contours, IsShapeOverlay}
use Rattle.overlay_contours.specs.Splittings.{Splitting}
use Rattle.overlay_c.specs.Contours.{point_by, contours_in, polygon_splitting}
use Rattle.overlay_c.specs.Records.{fill_rule_of, number_by}
use Rattle.overlay_c.specs.declared.engine.Engine.{Engine}
use Rattle.overlay_c.specs.declared.records.ReportRecord.{ReportRecord}
use Rattle.overlay_c.specs.declared.records.SettingsRecord.{SettingsRecord}
use Rattle.overlay_c.specs.declared.refusal.Refusal.{Refusal}
use Rattle.overlay_c.specs.declared.refusal.Refusal.TheVariants.{Refused, NotSplittable, OutOfRange}

-- it keeps the arrangement of the contours that another was given, under the settings' fill rule
abbrev pub KeepsArrangement : SettingsRecord → Engine → Engine → Type 0
KeepsArrangement settings before after =
    IsSome after.arrangement × IfSome after.arrangement (IsArrangementOf (polygon_splitting settings) (fill_rule_of settings.fill_rule) (contours_in before Subject) (contours_in before Clip))

-- the arrangement stays what it is
abbrev pub SameArrangement : Engine → Engine → Type 0
SameArrangement before after = IfSome before.arrangement (λ a. IsSome after.arrangement × IfSome after.arrangement (StaysArranged a))

-- the arrangement is the one that was kept before, or none as before
abbrev pub StaysAsArranged : Engine → Engine → Type 0
StaysAsArranged before after = after.arrangement ≡ before.arrangement

-- A record has these two numbers: of passes, and of halves that they moved things at most. It has those of an arrangement, or
-- 0 twice, where there is none.
abbrev pub IsReport : ℕ → ℕ → ReportRecord → Type 0
IsReport passes reach report = (number_by report.passes ≡ passes) × (number_by report.reach ≡ reach)

abbrev pub IsReportOf : {I : Type 0} {w : _} {o : _} {e : _} {p : _} → ReportRecord → Arrangement I w o e p → Type 0
IsReportOf report arrangement = IsReport (passes_of arrangement) (reach_of arrangement) report

abbrev pub IsReportOfNothing : ReportRecord → Type 0
IsReportOfNothing report = IsReport 0 0 report

-- an overlay as contours, without collinear points where only corners are wanted; and in shapes
abbrev pub IsOverlayWith : Bool → Splitting → OverlayRule → FillRule → List (List Point) → List (List Point) → List (List Point) → Type 0
IsOverlayWith true splitting rule fill_rule subject clip answer = IsCornerOverlay splitting rule fill_rule subject clip answer
IsOverlayWith false splitting rule fill_rule subject clip answer = IsPolygonOverlay splitting rule fill_rule subject clip answer

abbrev pub IsShapeOverlayWith : Bool → Splitting → OverlayRule → FillRule → List (List Point) → List (List Point) → List (List (List Point)) → Type 0
IsShapeOverlayWith true splitting rule fill_rule subject clip shapes = IsCornerShapeOverlay splitting rule fill_rule subject clip shapes
IsShapeOverlayWith false splitting rule fill_rule subject clip shapes = IsShapeOverlay splitting rule fill_rule subject clip shapes

-- what holds of both farther from the given edges than a number of halves
abbrev pub IsOverlayBeyondWith : Bool → ℕ → OverlayRule → FillRule → List (List Point) → List (List Point) → List (List Point) → Type 0
IsOverlayBeyondWith true halves rule fill_rule subject clip answer = IsCornerOverlayBeyond halves rule fill_rule subject clip answer
IsOverlayBeyondWith false halves rule fill_rule subject clip answer = IsOverlayBeyond halves rule fill_rule subject clip answer

abbrev pub IsShapeOverlayBeyondWith : Bool → ℕ → OverlayRule → FillRule → List (List Point) → List (List Point) → List (List (List Point)) → Type 0
IsShapeOverlayBeyondWith true halves rule fill_rule subject clip shapes = IsCornerShapeOverlayBeyond halves rule fill_rule subject clip shapes
IsShapeOverlayBeyondWith false halves rule fill_rule subject clip shapes = IsShapeOverlayBeyond halves rule fill_rule subject clip shapes

-- it keeps the contours of the overlay by a rule of whatever contours another keeps an arrangement of
pub record KeepsArrangedContours (rule : OverlayRule) (corners : Bool) (before after : Engine) : Type 0 where
  pub contours : List (List Point)
  pub overlay : IfSome before.arrangement (λ a. (splitting : Splitting) (fill_rule : FillRule) (subject clip : List (List Point)) → IsArrangementOf splitting fill_rule subject clip a → IsOverlayWith corners splitting rule fill_rule subject clip contours)
  -- what holds of them farther from the edges of those contours than the arrangement reports
  pub beyond : IfSome before.arrangement (λ a. (splitting : Splitting) (fill_rule : FillRule) (subject clip : List (List Point)) → IsArrangementOf splitting fill_rule subject clip a → IsOverlayBeyondWith corners (reach_of a) rule fill_rule subject clip contours)
  pub kept : AreLaid contours after.contour_lengths.items (map point_by after.contour_points.items)
  pub no_shapes : after.shape_lengths.items ≡ []

-- it keeps the shapes of that overlay: how many contours each has, and all contours
pub record KeepsArrangedShapes (rule : OverlayRule) (corners : Bool) (before after : Engine) : Type 0 where
  pub shapes : List (List (List Point))
  pub overlay : IfSome before.arrangement (λ a. (splitting : Splitting) (fill_rule : FillRule) (subject clip : List (List Point)) → IsArrangementOf splitting fill_rule subject clip a → IsShapeOverlayWith corners splitting rule fill_rule subject clip shapes)
  -- what holds of them farther from the edges of those contours than the arrangement reports
  pub beyond : IfSome before.arrangement (λ a. (splitting : Splitting) (fill_rule : FillRule) (subject clip : List (List Point)) → IsArrangementOf splitting fill_rule subject clip a → IsShapeOverlayBeyondWith corners (reach_of a) rule fill_rule subject clip shapes)
  pub counts : after.shape_lengths.items ≡ map length shapes
  pub kept : AreLaid (all_contours shapes) after.contour_lengths.items (map point_by after.contour_points.items)

-- why such an overlay was refused: no contours are arranged, or a growth was refused
abbrev pub IsArrangedRefusal : Engine → Refusal → Type 0
IsArrangedRefusal engine NotSplittable = engine.arrangement ≡ None
IsArrangedRefusal engine (Refused fault) = fault ≡ Memory
IsArrangedRefusal engine OutOfRange = ⊥
