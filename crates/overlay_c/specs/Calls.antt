-- What a call through a handle makes of the engine behind it.
use Rattle.std.specs.Prelude.{◌≡◌, ◌⊎◌, ◌++◌, ◌∷◌, [], ℕ, Bool, false, List, IsTrue, IsFalse, None, IsSome, IfSome, map}
use Rattle.std.specs.List.{AllZip}
use Rattle.overlay_base.specs.declared.overlay_core.overlay_rule.OverlayRule.{OverlayRule}
use Rattle.overlay_base.specs.declared.segm.shape_type.ShapeType.{ShapeType}
use Rattle.overlay_base.specs.declared.segm.shape_type.ShapeType.TheVariants.{Subject, Clip}
use Rattle.overlay_base.specs.EdgeData.{DataSegment}
use Rattle.overlay_base.specs.Segments.{WholeSegment}
use Rattle.overlay_contours.specs.Refusals.{CountsLeaveRange}
use Rattle.overlay_c.specs.Arranged.{KeepsArrangedContours, KeepsArrangedShapes}
use Rattle.overlay_c.specs.Contours.{point_by, contours_in, polygon_splitting, KeepsPolygons, KeepsShapes, KeepsRules}
use Rattle.overlay_c.specs.Kept.{are_usable, are_lines_usable}
use Rattle.overlay_c.specs.Records.{line_asked_by, names_narrow, IsRuleOf}
use Rattle.overlay_c.specs.Widths.{least_of, greatest_of, LastKeepsOverlay, LastKeepsData, LastKeepsClip}
use Rattle.overlay_c.specs.declared.contours.PointRecord.{PointRecord}
use Rattle.overlay_c.specs.declared.engine.Engine.{Engine}
use Rattle.overlay_c.specs.declared.handle.Handle.{Handle}
use Rattle.overlay_c.specs.declared.records.LineRecord.{LineRecord}
use Rattle.overlay_c.specs.declared.records.SegmentRecord.{SegmentRecord}
use Rattle.overlay_c.specs.declared.records.SettingsRecord.{SettingsRecord}
use Rattle.overlay_c.specs.declared.tags.Tag.{Tag}

-- A call that finds an engine and leaves one makes the one of the other, by a relation.
abbrev pub Turns : Handle → Handle → (Engine → Engine → Type 0) → Type 0
Turns old new relation = IfSome old.engine (λ before. IfSome new.engine (relation before))

-- A call that leaves an engine leaves one for which a fact holds.
abbrev pub Leaves : Handle → (Engine → Type 0) → Type 0
Leaves handle fact = IfSome handle.engine fact

-- The engine of this code was chosen.
abbrev pub Chooses : ℕ → Engine → Type 0
Chooses code engine = engine.is_narrow ≡ names_narrow code

-- The engine that was chosen may split the segments of records, or may not; and those of polygons and lines.
abbrev pub MaySplit : List SegmentRecord → Engine → Type 0
MaySplit records engine = IsTrue (are_usable (least_of engine.is_narrow) (greatest_of engine.is_narrow) records)

abbrev pub MayNotSplit : List SegmentRecord → Engine → Type 0
MayNotSplit records engine = IsFalse (are_usable (least_of engine.is_narrow) (greatest_of engine.is_narrow) records)

abbrev pub MaySplitLines : List LineRecord → Engine → Type 0
MaySplitLines records engine = IsTrue (are_lines_usable (least_of engine.is_narrow) (greatest_of engine.is_narrow) records)

abbrev pub MayNotSplitLines : List LineRecord → Engine → Type 0
MayNotSplitLines records engine = IsFalse (are_lines_usable (least_of engine.is_narrow) (greatest_of engine.is_narrow) records)

-- The engine keeps an overlay by the rule of a code; and so with the data of its links.
abbrev pub KeepsOverlayBy : SettingsRecord → ℕ → Bool → List WholeSegment → Engine → Type 0
KeepsOverlayBy settings code walks given engine = (rule : OverlayRule) × IsRuleOf code rule × LastKeepsOverlay settings rule walks given engine

abbrev pub KeepsDataBy : SettingsRecord → ℕ → List WholeSegment → List (DataSegment Tag) → Engine → Type 0
KeepsDataBy settings code given tagged engine =
    (rule : OverlayRule) × IsRuleOf code rule × LastKeepsOverlay settings rule false given engine × LastKeepsData settings rule tagged engine

-- The engine keeps the lines of records that a clip rule keeps.
abbrev pub KeepsClipBy : SettingsRecord → Bool → Bool → List LineRecord → Engine → Type 0
KeepsClipBy settings invert boundary_included records engine =
    LastKeepsClip settings (record { invert = invert; boundary_included = boundary_included }) (map line_asked_by records) engine

-- The contours that were added stay; those of a shape stay; one is added behind them.
abbrev pub SameContours : Engine → Engine → Type 0
SameContours before after = after.polygons ≡ before.polygons

-- The contours of the last overlay of contours stay, with how many each shape has.
pub record SameResult (before after : Engine) : Type 0 where
  pub lengths : after.contour_lengths ≡ before.contour_lengths
  pub points : after.contour_points ≡ before.contour_points
  pub shapes : after.shape_lengths ≡ before.shape_lengths

abbrev pub SameShape : ShapeType → Engine → Engine → Type 0
SameShape shape before after = contours_in after shape ≡ contours_in before shape

abbrev pub AddsContour : ShapeType → List PointRecord → Engine → Engine → Type 0
AddsContour shape contour before after = contours_in after shape ≡ contours_in before shape ++ map point_by contour ∷ []

-- What a call returns that adds a contour: it did, memory was refused, or a point is out of range.
abbrev pub IsAddCode : ℕ → Type 0
IsAddCode code = (code ≡ 0) ⊎ (code ≡ 1) ⊎ (code ≡ 4)

-- The engine keeps the overlay of its contours, by the rule of a code, as contours or in shapes; or a count of theirs
-- leaves the range.
abbrev pub KeepsPolygonsBy : SettingsRecord → ℕ → Engine → Engine → Type 0
KeepsPolygonsBy settings code before after = (rule : OverlayRule) × IsRuleOf code rule × KeepsPolygons settings rule before after

abbrev pub KeepsShapesBy : SettingsRecord → ℕ → Engine → Engine → Type 0
KeepsShapesBy settings code before after = (rule : OverlayRule) × IsRuleOf code rule × KeepsShapes settings rule before after

-- It keeps the overlays of its contours by the rules of some codes, one for each code in order.
abbrev pub KeepsRulesBy : SettingsRecord → List ℕ → Engine → Engine → Type 0
KeepsRulesBy settings codes before after = (rules : List OverlayRule) × AllZip IsRuleOf codes rules × KeepsRules settings rules before after

-- It keeps the overlay by the rule of a code of whatever contours are arranged, as contours or in shapes.
abbrev pub KeepsArrangedContoursBy : ℕ → Bool → Engine → Engine → Type 0
KeepsArrangedContoursBy code corners before after = (rule : OverlayRule) × IsRuleOf code rule × KeepsArrangedContours rule corners before after

abbrev pub KeepsArrangedShapesBy : ℕ → Bool → Engine → Engine → Type 0
KeepsArrangedShapesBy code corners before after = (rule : OverlayRule) × IsRuleOf code rule × KeepsArrangedShapes rule corners before after

-- Contours are arranged, or none are.
abbrev pub HasArrangement : Engine → Type 0
HasArrangement engine = IsSome engine.arrangement

abbrev pub HasNoArrangement : Engine → Type 0
HasNoArrangement engine = engine.arrangement ≡ None

abbrev pub PolygonCountsLeaveRange : SettingsRecord → Engine → Type 0
PolygonCountsLeaveRange settings engine = CountsLeaveRange (polygon_splitting settings) (contours_in engine Subject) (contours_in engine Clip)
