-- The order of fragments by keys, each of which ends with a place.
use Rattle.std.specs.Prelude.{ℕ, ◌≡◌, ◌%◌, ◌^◌, List, map, slice_index_or}
use Rattle.overlay_grid.specs.declared.split.fragment.Fragment.{Fragment}

-- a row has the fragments of a group at the places of keys, one after another
abbrev pub IsPicked : {I : Type 0} → List (Fragment I) → List ℕ → List (Fragment I) → Type 0
IsPicked group keys row = (none : Fragment _) → row ≡ map (λ key. slice_index_or group (key % 2 ^ 32) none) keys
