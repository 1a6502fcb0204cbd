-- What prepared regions decide of shapes.
use Rattle.std.specs.Prelude.{◌≡◌, ◌↔◌, Bool, true, List}
use Rattle.overlay_geometry.specs.Points.{Point}
use Rattle.overlay_base.specs.declared.overlay_core.fill_rule.FillRule.{FillRule}
use Rattle.overlay_relations.specs.Boundaries.{IsBoundaryOf}
use Rattle.overlay_relations.specs.BoundaryOf.{contours_in}
use Rattle.overlay_relations.specs.Contacts.{SharePoint, AreDisjoint, Touch}
use Rattle.overlay_relations.specs.Matrix.{IsMatrix}
use Rattle.overlay_relations.specs.Relations.{InteriorsMeet, Covers, IsWithin, AreSameRegion}
use Rattle.overlay_relations.specs.declared.matrix.Relation.{Relation as Entries}
use Rattle.overlay_relations.specs.declared.region.Region.{Region}

-- the boundary that a region keeps
abbrev pub boundary_of : {I : Type 0} {w : _} {o : _} {e : _} {p : _} → Region I w o e p → List (List Point)
boundary_of region = contours_in region.boundary

-- The region is that of contours under a fill rule.
abbrev pub IsRegionOf : {I : Type 0} {w : _} {o : _} {e : _} {p : _} → FillRule → List (List Point) → Region I w o e p → Type 0
IsRegionOf fill_rule contours region = IsBoundaryOf fill_rule contours (boundary_of region)

-- A relation of two shapes, each a list of contours under a fill rule.
abbrev pub Relation : Type 1
Relation = FillRule → FillRule → List (List Point) → List (List Point) → Type 0

-- The value says whether a relation holds between any two shapes that have these regions.
abbrev pub Decides : {I : Type 0} {w : _} {o : _} {e : _} {p : _} → Relation → Region I w o e p → Region I w o e p → Bool → Type 0
Decides relation first second found =
    (subject_rule clip_rule : FillRule) (subject clip : List (List Point)) → IsRegionOf subject_rule subject first → IsRegionOf clip_rule clip second →
    (found ≡ true) ↔ relation subject_rule clip_rule subject clip

-- It says so of interiors that meet, of a first shape that covers the second, of one that is within it, of one region, of shapes that
-- touch, of disjoint ones, and of those that share a point.
abbrev pub DecidesMeeting : {I : Type 0} {w : _} {o : _} {e : _} {p : _} → Region I w o e p → Region I w o e p → Bool → Type 0
DecidesMeeting first second found = Decides InteriorsMeet first second found

abbrev pub DecidesCovering : {I : Type 0} {w : _} {o : _} {e : _} {p : _} → Region I w o e p → Region I w o e p → Bool → Type 0
DecidesCovering first second found = Decides Covers first second found

abbrev pub DecidesLyingWithin : {I : Type 0} {w : _} {o : _} {e : _} {p : _} → Region I w o e p → Region I w o e p → Bool → Type 0
DecidesLyingWithin first second found = Decides IsWithin first second found

abbrev pub DecidesSameness : {I : Type 0} {w : _} {o : _} {e : _} {p : _} → Region I w o e p → Region I w o e p → Bool → Type 0
DecidesSameness first second found = Decides AreSameRegion first second found

abbrev pub DecidesTouching : {I : Type 0} {w : _} {o : _} {e : _} {p : _} → Region I w o e p → Region I w o e p → Bool → Type 0
DecidesTouching first second found = Decides Touch first second found

abbrev pub DecidesDisjointness : {I : Type 0} {w : _} {o : _} {e : _} {p : _} → Region I w o e p → Region I w o e p → Bool → Type 0
DecidesDisjointness first second found = Decides AreDisjoint first second found

abbrev pub DecidesSharing : {I : Type 0} {w : _} {o : _} {e : _} {p : _} → Region I w o e p → Region I w o e p → Bool → Type 0
DecidesSharing first second found = Decides SharePoint first second found

-- The entries are those of any two shapes that have these regions.
abbrev pub DecidesMatrix : {I : Type 0} {w : _} {o : _} {e : _} {p : _} → Region I w o e p → Region I w o e p → Entries → Type 0
DecidesMatrix first second entries =
    (subject_rule clip_rule : FillRule) (subject clip : List (List Point)) → IsRegionOf subject_rule subject first → IsRegionOf clip_rule clip second →
    IsMatrix subject_rule clip_rule subject clip entries
