-- The matrix of the two shapes that an engine was given, as a record has it.
use Rattle.std.specs.Prelude.{◌≡◌, ◌↔◌, Bool, true, List}
use Rattle.overlay_geometry.specs.Points.{Point}
use Rattle.overlay_base.specs.declared.overlay_core.fill_rule.FillRule.{FillRule}
use Rattle.overlay_relations.specs.Matrix.{PartsMeet}
use Rattle.overlay_relations.specs.declared.matrix.Part.{Part}
use Rattle.overlay_relations.specs.declared.matrix.Part.TheVariants.{Interior, Boundary, Exterior}
use Rattle.overlay_c.specs.declared.relations.MatrixRecord.{MatrixRecord}

-- the entry of a part of the subject and a part of the clip
abbrev pub entry_by : MatrixRecord → Part → Part → Bool
entry_by m Interior Interior = m.interior_interior
entry_by m Interior Boundary = m.interior_boundary
entry_by m Interior Exterior = m.interior_exterior
entry_by m Boundary Interior = m.boundary_interior
entry_by m Boundary Boundary = m.boundary_boundary
entry_by m Boundary Exterior = m.boundary_exterior
entry_by m Exterior Interior = m.exterior_interior
entry_by m Exterior Boundary = m.exterior_boundary
entry_by m Exterior Exterior = m.exterior_exterior

-- Each entry says whether its two parts meet.
abbrev pub IsMatrixBy : FillRule → List (List Point) → List (List Point) → MatrixRecord → Type 0
IsMatrixBy fill_rule subject clip m =
    (of_subject of_clip : Part) → (entry_by m of_subject of_clip ≡ true) ↔ PartsMeet fill_rule fill_rule subject clip of_subject of_clip
