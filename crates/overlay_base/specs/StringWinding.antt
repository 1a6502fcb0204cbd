-- The winding of a count of lines: a number for the subject, none for the clip, and a mask.
use Rattle.std.specs.Prelude.{ℕ, ℤ, pos, int_lt, if◌then◌else◌}
use Rattle.overlay_base.specs.Windings.{Winding}
use Rattle.overlay_base.specs.declared.segm.string.ShapeCountString.{ShapeCountString}

abbrev pub string_winding : ShapeCountString → Winding
string_winding c = record { subj = c.subj; clip = pos 0; mask = c.clip }

abbrev pub string_counted : Winding → ShapeCountString
string_counted w = record { subj = w.subj; clip = w.mask }

-- the mask made of a number: forward of a positive one, back of a negative one
abbrev pub mask_of : ℤ → ℕ
mask_of n = if int_lt (pos 0) n then 2 else (if int_lt n (pos 0) then 1 else 0)

-- the winding made of a number for the subject and one that says which way a line runs
abbrev pub string_made : ℤ → ℤ → Winding
string_made subj clip = record { subj = subj; clip = pos 0; mask = mask_of clip }
