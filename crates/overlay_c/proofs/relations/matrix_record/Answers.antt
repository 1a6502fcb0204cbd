use Rattle.overlay_relations.specs.declared.matrix.Part.TheVariants.{Interior, Boundary, Exterior}
use Rattle.overlay_c.proofs.relations.matrix_record.Goals as goal

pub returns : goal.returns
returns c Interior Interior = c.meets.ensures
returns c Interior Boundary = c.meets-2.ensures
returns c Interior Exterior = c.meets-3.ensures
returns c Boundary Interior = c.meets-4.ensures
returns c Boundary Boundary = c.meets-5.ensures
returns c Boundary Exterior = c.meets-6.ensures
returns c Exterior Interior = c.meets-7.ensures
returns c Exterior Boundary = c.meets-8.ensures
returns c Exterior Exterior = c.meets-9.ensures
