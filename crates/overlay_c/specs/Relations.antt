-- Relations of the two shapes that an engine was given, by codes.
use Rattle.std.specs.Prelude.{◌≡◌, ◌⊎◌, ◌==◌, ℕ, if◌then◌else◌, List}
use Rattle.overlay_geometry.specs.Points.{Point}
use Rattle.overlay_base.specs.declared.overlay_core.fill_rule.FillRule.{FillRule}
use Rattle.overlay_base.specs.declared.segm.fault.Fault.TheVariants.{Memory, CountOutOfRange}
use Rattle.overlay_base.specs.declared.segm.shape_type.ShapeType.TheVariants.{Subject, Clip}
use Rattle.overlay_contours.specs.declared.fault.ContourFault.TheVariants as contour
use Rattle.overlay_relations.specs.Contacts as contacts
use Rattle.overlay_relations.specs.Relations as relations
use Rattle.overlay_relations.specs.Refusals.{IsNotExact, CountsOfShapesLeaveRange, IsReasonFor}
use Rattle.overlay_relations.specs.declared.fault.RelationFault.{RelationFault}
use Rattle.overlay_relations.specs.declared.fault.RelationFault.TheVariants.{NotExact, Refused}
use Rattle.overlay_c.specs.declared.relations.Relation.{Relation}
use Rattle.overlay_c.specs.declared.relations.Relation.TheVariants.{InteriorsMeet, Covers, IsWithin, SameRegion, Touch, Disjoint}

-- the relation of a code
abbrev pub relation_of : ℕ → Relation
relation_of code = if code == 0 then InteriorsMeet else if code == 1 then Covers else if code == 2 then IsWithin else if code == 3 then SameRegion else if code == 4 then Touch else Disjoint

-- the relation holds between a subject and a clip, under a fill rule each
abbrev pub HoldsUnder : Relation → FillRule → FillRule → List (List Point) → List (List Point) → Type 0
HoldsUnder InteriorsMeet subject_rule clip_rule subject clip = relations.InteriorsMeet subject_rule clip_rule subject clip
HoldsUnder Covers subject_rule clip_rule subject clip = relations.Covers subject_rule clip_rule subject clip
HoldsUnder IsWithin subject_rule clip_rule subject clip = relations.IsWithin subject_rule clip_rule subject clip
HoldsUnder SameRegion subject_rule clip_rule subject clip = relations.AreSameRegion subject_rule clip_rule subject clip
HoldsUnder Touch subject_rule clip_rule subject clip = contacts.Touch subject_rule clip_rule subject clip
HoldsUnder Disjoint subject_rule clip_rule subject clip = contacts.AreDisjoint subject_rule clip_rule subject clip

-- the same under one fill rule
abbrev pub Holds : Relation → FillRule → List (List Point) → List (List Point) → Type 0
Holds relation fill_rule subject clip = HoldsUnder relation fill_rule fill_rule subject clip

-- why it is not known whether a relation of shapes in range holds: the named shape has edges that cross at a point that is not
-- whole, a growth was refused, or counts leave the range
abbrev pub IsRelationRefusal : FillRule → List (List Point) → List (List Point) → RelationFault → Type 0
IsRelationRefusal fill_rule subject clip (NotExact shape_type) = IsNotExact subject clip shape_type
IsRelationRefusal fill_rule subject clip (Refused (contour.OutOfRange shape_type index point)) = ⊥
IsRelationRefusal fill_rule subject clip (Refused (contour.Refused fault)) = IsReasonFor fill_rule fill_rule subject clip fault

-- counts leave the range
abbrev pub ShapeCountsLeaveRange : FillRule → List (List Point) → List (List Point) → Type 0
ShapeCountsLeaveRange fill_rule subject clip = CountsOfShapesLeaveRange fill_rule fill_rule subject clip

-- the code of such a refusal
abbrev pub code_of_fault : RelationFault → ℕ
code_of_fault (NotExact Subject) = 6
code_of_fault (NotExact Clip) = 7
code_of_fault (Refused (contour.Refused Memory)) = 1
code_of_fault (Refused (contour.Refused CountOutOfRange)) = 2
code_of_fault (Refused (contour.OutOfRange shape_type index point)) = 4

-- the codes of an outcome
abbrev pub IsRelationCode : ℕ → Type 0
IsRelationCode code = (code ≡ 0) ⊎ ((code ≡ 1) ⊎ ((code ≡ 2) ⊎ ((code ≡ 6) ⊎ (code ≡ 7))))

-- the codes of the outcome where a region is added
abbrev pub IsRegionCode : ℕ → Type 0
IsRegionCode code = (code ≡ 0) ⊎ ((code ≡ 1) ⊎ ((code ≡ 2) ⊎ (code ≡ 6)))
