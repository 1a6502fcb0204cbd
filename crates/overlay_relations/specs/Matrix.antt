-- Where the parts of two shapes meet: the inside, the boundary and the outside of the one with those of the other.
use Rattle.std.specs.Prelude.{◌≡◌, ◌↔◌, ◌<◌, Bool, true, false, List}
use Rattle.overlay_geometry.specs.Points.{Point}
use Rattle.overlay_base.specs.Places.{RationalPoint}
use Rattle.overlay_base.specs.declared.overlay_core.fill_rule.FillRule.{FillRule}
use Rattle.overlay_relations.specs.Contacts.{Borders, IsOnBoundary}
use Rattle.overlay_relations.specs.declared.matrix.Part.{Part}
use Rattle.overlay_relations.specs.declared.matrix.Part.TheVariants.{Interior, Boundary, Exterior}
use Rattle.overlay_relations.specs.declared.matrix.Relation.{Relation}

-- A point is in a part: inside where no points outside are near, however near; outside where none inside are; on the boundary where both are.
abbrev pub IsAt : FillRule → List (List Point) → Part → RationalPoint → Type 0
IsAt fill_rule contours Interior p = Borders fill_rule contours false p → ⊥
IsAt fill_rule contours Boundary p = IsOnBoundary fill_rule contours p
IsAt fill_rule contours Exterior p = Borders fill_rule contours true p → ⊥

-- Some point of the plane is in a part of the subject and in a part of the clip. Each shape has a fill rule.
pub record PartsMeet (subject_rule clip_rule : FillRule) (subject clip : List (List Point)) (of_subject of_clip : Part) : Type 0 where
  pub point : RationalPoint
  pub some : 0 < point.bottom
  pub at_subject : IsAt subject_rule subject of_subject point
  pub at_clip : IsAt clip_rule clip of_clip point

-- the entry of a part of the subject and a part of the clip
abbrev pub entry : Relation → Part → Part → Bool
entry relation Interior Interior = relation.interior_interior
entry relation Interior Boundary = relation.interior_boundary
entry relation Interior Exterior = relation.interior_exterior
entry relation Boundary Interior = relation.boundary_interior
entry relation Boundary Boundary = relation.boundary_boundary
entry relation Boundary Exterior = relation.boundary_exterior
entry relation Exterior Interior = relation.exterior_interior
entry relation Exterior Boundary = relation.exterior_boundary
entry relation Exterior Exterior = relation.exterior_exterior

-- Each entry says whether its two parts meet.
abbrev pub IsMatrix : FillRule → FillRule → List (List Point) → List (List Point) → Relation → Type 0
IsMatrix subject_rule clip_rule subject clip relation =
    (of_subject of_clip : Part) → (entry relation of_subject of_clip ≡ true) ↔ PartsMeet subject_rule clip_rule subject clip of_subject of_clip
