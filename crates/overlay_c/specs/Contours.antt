-- What an engine is given of contours, and what it keeps of their overlay.
use Rattle.std.specs.Prelude.{◌≡◌, ℕ, ◌≤◌, ◌==◌, if◌then◌else◌, Bool, IsTrue, IsFalse, List, [], map, length}
use Rattle.std.specs.List.{list_all}
use Rattle.overlay_geometry.specs.Points.{Point}
use Rattle.overlay_geometry.specs.Coordinates.{least_coordinate, greatest_coordinate, is_point_in_range}
use Rattle.overlay_base.specs.declared.overlay_core.overlay_rule.OverlayRule.{OverlayRule}
use Rattle.overlay_base.specs.declared.segm.fault.Fault.TheVariants.{Memory}
use Rattle.overlay_base.specs.declared.segm.shape_type.ShapeType.{ShapeType}
use Rattle.overlay_base.specs.declared.segm.shape_type.ShapeType.TheVariants.{Subject, Clip}
use Rattle.overlay_cuts.specs.ExactInput.{is_exact_input}
use Rattle.overlay_contours.specs.Beyond.{IsOverlayBeyond, IsShapeOverlayBeyond, AreOfSplitting}
use Rattle.overlay_contours.specs.ContourSegments.{overlay_segments}
use Rattle.overlay_contours.specs.Kept.{subject_of, clip_of, passes_of, reach_of, KeepsReport}
use Rattle.overlay_base.specs.declared.overlay_core.fill_rule.FillRule.{FillRule}
use Rattle.overlay_contours.specs.Locations.{location}
use Rattle.overlay_contours.specs.declared.location.PointLocation.{PointLocation}
use Rattle.overlay_contours.specs.declared.location.PointLocation.TheVariants.{Inside, OnBoundary, Outside}
use Rattle.overlay_contours.specs.Polygons.{IsPolygonOverlay, ArePolygonOverlays}
use Rattle.overlay_contours.specs.Refusals.{of_shape, IsReason}
use Rattle.overlay_contours.specs.Shapes.{all_contours, IsShapeOverlay}
use Rattle.overlay_contours.specs.Splittings.{Splitting, by_passes, by_snapping, most_halves}
use Rattle.overlay_c.specs.Records.{fill_rule_of, settings_by}
use Rattle.overlay_build.specs.Laid.{AreLaid}
use Rattle.overlay_c.specs.declared.contours.PointRecord.{PointRecord}
use Rattle.overlay_c.specs.declared.records.SettingsRecord.{SettingsRecord}
use Rattle.overlay_c.specs.declared.engine.Engine.{Engine}
use Rattle.overlay_c.specs.declared.refusal.Refusal.{Refusal}
use Rattle.overlay_c.specs.declared.refusal.Refusal.TheVariants.{Refused, NotSplittable, OutOfRange}

-- the point of a record
abbrev pub point_by : PointRecord → Point
point_by r = record { x = r.x; y = r.y }

-- whether the points of records are in range
abbrev pub are_in_range : List PointRecord → Bool
are_in_range records = list_all (is_point_in_range least_coordinate greatest_coordinate) (map point_by records)

-- the contours of a shape that an engine was given
abbrev pub contours_in : Engine → ShapeType → List (List Point)
contours_in engine shape = of_shape shape (subject_of engine.polygons) (clip_of engine.polygons)

-- how an overlay of contours splits: by snap rounding, or where the settings say so by passes, and the first 256 snap
abbrev pub polygon_splitting : SettingsRecord → Splitting
polygon_splitting settings = if settings.rounding == 0 then by_snapping else by_passes (settings_by 32 settings 256)

-- The two numbers that it reports are those of the splitting of the contours that another was given: of passes, and of halves
-- that these move things at most. That is no more than as many passes do by the splitting alone, and nothing where no two
-- given edges cross at a point that is not whole.
pub record ReportsSplitting (settings : SettingsRecord) (before after : Engine) : Type 0 where
  pub splitting : AreOfSplitting (polygon_splitting settings) (contours_in before Subject) (contours_in before Clip) (passes_of after.polygons) (reach_of after.polygons)
  pub bounded : reach_of after.polygons ≤ most_halves (polygon_splitting settings) (passes_of after.polygons)
  pub exact : IsTrue (is_exact_input (overlay_segments (contours_in before Subject) (contours_in before Clip))) → reach_of after.polygons ≡ 0

-- it keeps the contours of an overlay of the contours that another was given
pub record KeepsPolygons (settings : SettingsRecord) (rule : OverlayRule) (before after : Engine) : Type 0 where
  pub contours : List (List Point)
  pub overlay : IsPolygonOverlay (polygon_splitting settings) rule (fill_rule_of settings.fill_rule) (contours_in before Subject) (contours_in before Clip) contours
  pub kept : AreLaid contours after.contour_lengths.items (map point_by after.contour_points.items)
  pub no_shapes : after.shape_lengths.items ≡ []
  -- what holds of them farther from the given edges than it reports
  pub beyond : IsOverlayBeyond (reach_of after.polygons) rule (fill_rule_of settings.fill_rule) (contours_in before Subject) (contours_in before Clip) contours
  pub report : ReportsSplitting settings before after

-- it keeps the shapes of such an overlay: how many contours each has, and all contours
pub record KeepsShapes (settings : SettingsRecord) (rule : OverlayRule) (before after : Engine) : Type 0 where
  pub shapes : List (List (List Point))
  pub overlay : IsShapeOverlay (polygon_splitting settings) rule (fill_rule_of settings.fill_rule) (contours_in before Subject) (contours_in before Clip) shapes
  pub counts : after.shape_lengths.items ≡ map length shapes
  pub kept : AreLaid (all_contours shapes) after.contour_lengths.items (map point_by after.contour_points.items)
  -- what holds of them farther from the given edges than it reports
  pub beyond : IsShapeOverlayBeyond (reach_of after.polygons) rule (fill_rule_of settings.fill_rule) (contours_in before Subject) (contours_in before Clip) shapes
  pub report : ReportsSplitting settings before after

-- it keeps the contours of the overlays by several rules, one for each rule in order: how many each has, and all contours
pub record KeepsRules (settings : SettingsRecord) (rules : List OverlayRule) (before after : Engine) : Type 0 where
  pub overlays : List (List (List Point))
  pub are : ArePolygonOverlays (polygon_splitting settings) (fill_rule_of settings.fill_rule) (contours_in before Subject) (contours_in before Clip) rules overlays
  pub counts : after.shape_lengths.items ≡ map length overlays
  pub kept : AreLaid (all_contours overlays) after.contour_lengths.items (map point_by after.contour_points.items)
  pub report : AreOfSplitting (polygon_splitting settings) (contours_in before Subject) (contours_in before Clip) (passes_of after.polygons) (reach_of after.polygons)

-- the code of where a point lies with respect to the contours of a shape, by the code of a fill rule; 4 where it is out of range
abbrev pub code_of : PointLocation → ℕ
code_of Inside = 0
code_of OnBoundary = 1
code_of Outside = 2

abbrev pub location_code : ShapeType → FillRule → PointRecord → Engine → ℕ
location_code shape fill_rule point engine =
    if is_point_in_range least_coordinate greatest_coordinate (point_by point) then code_of (location fill_rule (contours_in engine shape) (point_by point)) else 4

-- why a contour was not added: a point of it is out of range, or a growth was refused
abbrev pub IsPointRefusal : List PointRecord → Refusal → Type 0
IsPointRefusal contour OutOfRange = IsFalse (are_in_range contour)
IsPointRefusal contour (Refused fault) = fault ≡ Memory
IsPointRefusal contour NotSplittable = ⊥

-- why an overlay of contours was refused: a growth was, or a count leaves the range
abbrev pub IsPolygonRefusal : SettingsRecord → Engine → Refusal → Type 0
IsPolygonRefusal settings engine (Refused fault) = IsReason (polygon_splitting settings) (contours_in engine Subject) (contours_in engine Clip) fault
IsPolygonRefusal settings engine NotSplittable = ⊥
IsPolygonRefusal settings engine OutOfRange = ⊥

-- what segments left of a call stays
abbrev pub SameSplit : Engine → Engine → Type 0
SameSplit before after = (after.narrow ≡ before.narrow) × (after.wide ≡ before.wide) × (after.is_narrow ≡ before.is_narrow)

-- what its last overlay of contours reports stays
abbrev pub SameReport : Engine → Engine → Type 0
SameReport before after = KeepsReport before.polygons after.polygons
