-- The winding of a count of polygons.
use Rattle.std.specs.Prelude.{ℤ}
use Rattle.overlay_base.specs.Windings.{Winding}
use Rattle.overlay_base.specs.declared.segm.boolean.ShapeCountBoolean.{ShapeCountBoolean}

abbrev pub boolean_winding : ShapeCountBoolean → Winding
boolean_winding c = record { subj = c.subj; clip = c.clip; mask = 0 }

abbrev pub boolean_counted : Winding → ShapeCountBoolean
boolean_counted w = record { subj = w.subj; clip = w.clip }

-- the winding made of a number for the subject and one for the clip
abbrev pub boolean_made : ℤ → ℤ → Winding
boolean_made subj clip = record { subj = subj; clip = clip; mask = 0 }
