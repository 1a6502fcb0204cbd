-- The text of a relation.
use Rattle.std.specs.Prelude.{◌≡◌, ◌⊎◌, ◌++◌, ℕ, Bool, if◌then◌else◌, List, Ok, Err, codes}
use Rattle.std.specs.declared.result.Result.{Result}
use Rattle.overlay_geometry.specs.Points.{Point}
use Rattle.overlay_base.specs.declared.overlay_core.fill_rule.FillRule.{FillRule}
use Rattle.overlay_base.specs.declared.segm.fault.Fault.TheVariants.{Memory, CountOutOfRange}
use Rattle.overlay_base.specs.declared.segm.shape_type.ShapeType.TheVariants.{Subject, Clip}
use Rattle.overlay_contours.specs.declared.fault.ContourFault.TheVariants as contour
use Rattle.overlay_relations.specs.Matrix.{entry, IsMatrix}
use Rattle.overlay_relations.specs.Refusals.{IsNotExact, CountsOfShapesLeaveRange}
use Rattle.overlay_relations.specs.declared.fault.RelationFault.{RelationFault}
use Rattle.overlay_relations.specs.declared.fault.RelationFault.TheVariants.{NotExact, Refused as RefusedRelation}
use Rattle.overlay_relations.specs.declared.matrix.Part.{Part}
use Rattle.overlay_relations.specs.declared.matrix.Part.TheVariants.{Interior, Boundary, Exterior}
use Rattle.overlay_relations.specs.declared.matrix.Relation.{Relation}
use Rattle.overlay_text.specs.declared.stop.Stop.{Stop}
use Rattle.overlay_text.specs.declared.stop.Stop.TheVariants.{Refused, SubjectNotExact, ClipNotExact}
use Rattle.polygons.specs.ContourText.{GivenContour, subject_of, clip_of}

-- `T` where parts meet, and else `F`
abbrev pub letter : Bool → List ℕ
letter meet = if meet then codes "T" else codes "F"

-- the letters of a part of the subject with each part of the clip
abbrev pub row_text : Relation → Part → List ℕ
row_text relation part = letter (entry relation part Interior) ++ (letter (entry relation part Boundary) ++ letter (entry relation part Exterior))

-- the line of a relation: nine letters, of the interior, the boundary and the exterior of the subject
abbrev pub relation_line : Relation → List ℕ
relation_line relation = row_text relation Interior ++ (row_text relation Boundary ++ (row_text relation Exterior ++ codes "\n"))

-- why a run stops where a relation is refused
abbrev pub stop_of : RelationFault → Stop
stop_of (NotExact Subject) = SubjectNotExact
stop_of (NotExact Clip) = ClipNotExact
stop_of (RefusedRelation (contour.Refused fault)) = Refused fault
stop_of (RefusedRelation (contour.OutOfRange shape_type index point)) = Refused Memory

-- The line of the matrix of a subject and a clip; or the stop where edges of one of them cross at a point that is not whole, or where
-- counts leave the range.
abbrev pub IsRelationText : FillRule → List (List Point) → List (List Point) → Result (List ℕ) Stop → Type 0
IsRelationText fill_rule subject clip answer =
    ((relation : Relation) × IsMatrix fill_rule fill_rule subject clip relation × (answer ≡ Ok (relation_line relation)))
    ⊎ ((IsNotExact subject clip Subject × (answer ≡ Err SubjectNotExact))
    ⊎ ((IsNotExact subject clip Clip × (answer ≡ Err ClipNotExact))
    ⊎ (CountsOfShapesLeaveRange fill_rule fill_rule subject clip × (answer ≡ Err (Refused CountOutOfRange)))))

-- that of the contours that were given
abbrev pub IsGivenRelation : FillRule → List GivenContour → Result (List ℕ) Stop → Type 0
IsGivenRelation fill_rule given answer = IsRelationText fill_rule (subject_of given) (clip_of given) answer
