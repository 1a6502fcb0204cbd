-- Regions that an engine keeps, and their relations.
use Rattle.std.specs.Prelude.{◌≡◌, ◌↔◌, ◌++◌, ◌∷◌, ℕ, Bool, true, IsTrue, List, []}
use Rattle.std.specs.List.{slice_index_or}
use Rattle.overlay_geometry.specs.Points.{Point}
use Rattle.overlay_base.specs.declared.overlay_core.fill_rule.FillRule.{FillRule}
use Rattle.overlay_base.specs.declared.segm.shape_type.ShapeType.TheVariants.{Subject}
use Rattle.overlay_contours.specs.Refusals.{CountsLeaveRange, IsReason}
use Rattle.overlay_contours.specs.Splittings.{by_snapping}
use Rattle.overlay_contours.specs.declared.fault.ContourFault.{ContourFault}
use Rattle.overlay_contours.specs.declared.fault.ContourFault.TheVariants as contour
use Rattle.overlay_relations.specs.Boundaries.{has_inexact_crossing}
use Rattle.overlay_relations.specs.Matrix.{PartsMeet}
use Rattle.overlay_relations.specs.Refusals.{IsOverlayRefusal}
use Rattle.overlay_relations.specs.Regions.{boundary_of, IsRegionOf}
use Rattle.overlay_relations.specs.declared.fault.RelationFault.{RelationFault}
use Rattle.overlay_relations.specs.declared.fault.RelationFault.TheVariants.{NotExact, Refused}
use Rattle.overlay_relations.specs.declared.matrix.Part.{Part}
use Rattle.overlay_relations.specs.declared.region.Region.{Region}
use Rattle.overlay_c.specs.Contours.{contours_in}
use Rattle.overlay_c.specs.Matrices.{entry_by}
use Rattle.overlay_c.specs.Records.{fill_rule_of}
use Rattle.overlay_c.specs.Relations.{HoldsUnder}
use Rattle.overlay_c.specs.declared.engine.Engine.{Engine}
use Rattle.overlay_c.specs.declared.records.SettingsRecord.{SettingsRecord}
use Rattle.overlay_c.specs.declared.relations.MatrixRecord.{MatrixRecord}
use Rattle.overlay_c.specs.declared.relations.Relation.{Relation}

-- the regions stay
abbrev pub SameRegions : Engine → Engine → Type 0
SameRegions before after = after.regions.items ≡ before.regions.items

-- behind the regions of a list is that of contours under a fill rule
abbrev pub AddsRegionOf : {I : Type 0} {w : _} {o : _} {e : _} {p : _} → FillRule → List (List Point) → List (Region I w o e p) → List (Region I w o e p) → Type 0
AddsRegionOf {I = I} {w = w} {o = o} {e = e} {p = p} fill_rule contours before after =
    (region : Region I w o e p) × IsRegionOf fill_rule contours region × (after ≡ before ++ region ∷ [])

-- the engine keeps one region more: that of the subject that it was given
abbrev pub AddsRegion : SettingsRecord → Engine → Engine → Type 0
AddsRegion settings before after = AddsRegionOf (fill_rule_of settings.fill_rule) (contours_in before Subject) before.regions.items after.regions.items

-- why the region of contours in range was refused
abbrev pub IsShapeRefusal : List (List Point) → RelationFault → Type 0
IsShapeRefusal contours (NotExact shape_type) = (shape_type ≡ Subject) × IsTrue (has_inexact_crossing contours [])
IsShapeRefusal contours (Refused (contour.OutOfRange shape_type index point)) = ⊥
IsShapeRefusal contours (Refused (contour.Refused fault)) = IsReason by_snapping contours [] fault

-- counts of the edges of contours leave the range
abbrev pub CountsOfShapeLeaveRange : List (List Point) → Type 0
CountsOfShapeLeaveRange contours = CountsLeaveRange by_snapping contours []

-- the value says whether a relation holds between any two shapes that have these regions
abbrev pub HoldsOfRegions : {I : Type 0} {w : _} {o : _} {e : _} {p : _} → Relation → Region I w o e p → Region I w o e p → Bool → Type 0
HoldsOfRegions relation first second found =
    (subject_rule clip_rule : FillRule) (subject clip : List (List Point)) → IsRegionOf subject_rule subject first → IsRegionOf clip_rule clip second →
    (found ≡ true) ↔ HoldsUnder relation subject_rule clip_rule subject clip

-- the entries say which parts meet of any two shapes that have these regions
abbrev pub IsMatrixOfRegions : {I : Type 0} {w : _} {o : _} {e : _} {p : _} → Region I w o e p → Region I w o e p → MatrixRecord → Type 0
IsMatrixOfRegions first second m =
    (subject_rule clip_rule : FillRule) (subject clip : List (List Point)) → IsRegionOf subject_rule subject first → IsRegionOf clip_rule clip second →
    (of_subject of_clip : Part) → (entry_by m of_subject of_clip ≡ true) ↔ PartsMeet subject_rule clip_rule subject clip of_subject of_clip

-- the same of the regions of an engine with two numbers
abbrev pub HoldsOfRegionsAt : Relation → ℕ → ℕ → Bool → Engine → Type 0
HoldsOfRegionsAt relation first second found engine =
    (x y : _) → HoldsOfRegions relation (slice_index_or engine.regions.items first x) (slice_index_or engine.regions.items second y) found

abbrev pub IsMatrixOfRegionsAt : ℕ → ℕ → MatrixRecord → Engine → Type 0
IsMatrixOfRegionsAt first second m engine =
    (x y : _) → IsMatrixOfRegions (slice_index_or engine.regions.items first x) (slice_index_or engine.regions.items second y) m

-- counts of the boundaries of both leave the range
abbrev pub CountsOfRegionsLeaveRange : ℕ → ℕ → Engine → Type 0
CountsOfRegionsLeaveRange first second engine =
    (x y : _) → CountsLeaveRange by_snapping (boundary_of (slice_index_or engine.regions.items first x)) (boundary_of (slice_index_or engine.regions.items second y))

-- why a relation of both is not known
abbrev pub IsRegionsRefusal : ℕ → ℕ → Engine → ContourFault → Type 0
IsRegionsRefusal first second engine fault =
    (x y : _) → IsOverlayRefusal (boundary_of (slice_index_or engine.regions.items first x)) (boundary_of (slice_index_or engine.regions.items second y)) fault
