-- Lists one behind another.
use Rattle.std.specs.Prelude.{◌≡◌, ℕ, List, map, flat_map, length}

-- lists, as their lengths and all that is in them
abbrev pub AreLaid : {A : Type 0} → List (List A) → List ℕ → List A → Type 0
AreLaid lists lengths all = (lengths ≡ map length lists) × (all ≡ flat_map (λ list. list) lists)
