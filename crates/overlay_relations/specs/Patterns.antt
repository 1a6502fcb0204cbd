-- Patterns of a matrix: nine letters, each 84 for T, 70 for F, or 42 for *.
use Rattle.std.specs.Prelude.{◌==◌, ℕ, Bool, IsTrue, not, ◌||◌, if◌then◌else◌, List, true}
use Rattle.std.specs.List.{list_all, slice_index}
use Rattle.overlay_relations.specs.Matrix.{entry}
use Rattle.overlay_relations.specs.declared.matrix.Part.{Part}
use Rattle.overlay_relations.specs.declared.matrix.Part.TheVariants.{Interior, Boundary, Exterior}
use Rattle.overlay_relations.specs.declared.matrix.Relation.{Relation}

abbrev pub is_letter : ℕ → Bool
is_letter letter = letter == 84 || letter == 70 || letter == 42

abbrev pub is_pattern : List ℕ → Bool
is_pattern letters = list_all is_letter letters

-- whether a letter allows that two parts meet, or that they do not: T the one, F the other, and * both
abbrev pub allows : ℕ → Bool → Bool
allows letter meet = if letter == 84 then meet else (if letter == 70 then not meet else true)

-- where the letter of two parts is: row by row
abbrev pub letter_index : Part → Part → ℕ
letter_index Interior Interior = 0
letter_index Interior Boundary = 1
letter_index Interior Exterior = 2
letter_index Boundary Interior = 3
letter_index Boundary Boundary = 4
letter_index Boundary Exterior = 5
letter_index Exterior Interior = 6
letter_index Exterior Boundary = 7
letter_index Exterior Exterior = 8

-- Each letter allows its entry.
abbrev pub Fits : List ℕ → Relation → Type 0
Fits letters relation = (of_subject of_clip : Part) → IsTrue (allows (slice_index letters (letter_index of_subject of_clip)) (entry relation of_subject of_clip))
