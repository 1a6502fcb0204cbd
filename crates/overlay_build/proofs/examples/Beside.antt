-- Places beside segments, and how two squares wind there.
use Rattle.std.specs.Prelude.{◌≡◌, refl, ℕ, ℤ, pos, negsuc, true, false, [], ◌∷◌, map, List}
use Rattle.overlay_base.specs.Windings.{Winding}
use Rattle.overlay_base.specs.Segments.{WholeSegment}
use Rattle.overlay_base.specs.Places.{RationalPoint, winding_below}
use Rattle.overlay_sweep.specs.ColumnWindings.{side_bottom, side_top}
use Rattle.overlay_build.specs.Beside.{is_directly_above, is_directly_below, is_directly_left, is_directly_right}
use Rattle.overlay_sweep.proofs.examples.Sweeps.{pair, seg, twelve}
use Rattle.overlay_build.proofs.examples.Computing.{computing}

abbrev place : ℤ → ℤ → ℕ → RationalPoint
place x y bottom = record { x = x; y = y; bottom = bottom }

abbrev count : ℤ → ℤ → Winding
count subj clip = record { subj = subj; clip = clip; mask = 0 }

-- The lower side of the second square within the first, from (2, 2) to (4, 2): at (3, 5/2) above it and at (3, 1) below it. At (3, 5) the upper
-- side of the first square lies between, and at (3, -1) its lower one. The segment is there over its start, and no more over its end.
above_second : map (is_directly_above twelve (pair (pos 2) (pos 2) (pos 4) (pos 2))) (place (pos 6) (pos 5) 2 ∷ place (pos 3) (pos 5) 1 ∷ place (pos 3) (pos 1) 1 ∷ place (pos 2) (pos 3) 1 ∷ place (pos 4) (pos 3) 1 ∷ [])
    ≡ (true ∷ false ∷ false ∷ true ∷ false ∷ [])
unfolding computing
above_second = refl

below_second : map (is_directly_below twelve (pair (pos 2) (pos 2) (pos 4) (pos 2))) (place (pos 3) (pos 1) 1 ∷ place (pos 3) (negsuc 0) 1 ∷ place (pos 3) (pos 3) 1 ∷ [])
    ≡ (true ∷ false ∷ false ∷ [])
unfolding computing
below_second = refl

second_winds : (winding_below twelve (place (pos 6) (pos 5) 2) ∷ side_top twelve (seg (pos 2) (pos 2) (pos 4) (pos 2) (pos 0) (pos 1)) ∷ winding_below twelve (place (pos 3) (pos 1) 1) ∷ side_bottom twelve (seg (pos 2) (pos 2) (pos 4) (pos 2) (pos 0) (pos 1)) ∷ [])
    ≡ (count (pos 1) (pos 1) ∷ count (pos 1) (pos 1) ∷ count (pos 1) (pos 0) ∷ count (pos 1) (pos 0) ∷ [])
unfolding computing
second_winds = refl

-- The left side of the second square within the first, from (2, 2) to (2, 4): at (1, 3) to the left of it and at (3, 3) to the right; at (-1, 3)
-- the left side of the first square lies between, at (5, 3) its right one; and (1, 5) is too high.
left_of_second : map (is_directly_left twelve (pair (pos 2) (pos 2) (pos 2) (pos 4))) (place (pos 1) (pos 3) 1 ∷ place (negsuc 0) (pos 3) 1 ∷ place (pos 1) (pos 5) 1 ∷ place (pos 3) (pos 3) 1 ∷ [])
    ≡ (true ∷ false ∷ false ∷ false ∷ [])
unfolding computing
left_of_second = refl

right_of_second : map (is_directly_right twelve (pair (pos 2) (pos 2) (pos 2) (pos 4))) (place (pos 3) (pos 3) 1 ∷ place (pos 5) (pos 3) 1 ∷ place (pos 1) (pos 3) 1 ∷ [])
    ≡ (true ∷ false ∷ false ∷ [])
unfolding computing
right_of_second = refl

upright_winds : (winding_below twelve (place (pos 1) (pos 3) 1) ∷ side_top twelve (seg (pos 2) (pos 2) (pos 2) (pos 4) (pos 0) (negsuc 0)) ∷ winding_below twelve (place (pos 3) (pos 3) 1) ∷ side_bottom twelve (seg (pos 2) (pos 2) (pos 2) (pos 4) (pos 0) (negsuc 0)) ∷ [])
    ≡ (count (pos 1) (pos 0) ∷ count (pos 1) (pos 0) ∷ count (pos 1) (pos 1) ∷ count (pos 1) (pos 1) ∷ [])
unfolding computing
upright_winds = refl

-- A narrow triangle, from (0, 0) to (4, 1) and to (5, 1). In the middle of their first column the two long sides have the heights 1/8 and 1/10: the
-- places 6/50 and 4/50 are over and under the lower one, with the upper one not between, and 7/50 has it between.
narrow : List WholeSegment
narrow = seg (pos 0) (pos 0) (pos 4) (pos 1) (negsuc 0) (pos 0) ∷ seg (pos 0) (pos 0) (pos 5) (pos 1) (pos 1) (pos 0) ∷ seg (pos 4) (pos 1) (pos 5) (pos 1) (negsuc 0) (pos 0) ∷ []

beside_narrow : map (is_directly_above narrow (pair (pos 0) (pos 0) (pos 5) (pos 1))) (place (pos 25) (pos 6) 50 ∷ place (pos 25) (pos 7) 50 ∷ place (pos 25) (pos 4) 50 ∷ [])
    ≡ (true ∷ false ∷ false ∷ [])
unfolding computing narrow
beside_narrow = refl

under_narrow : map (is_directly_below narrow (pair (pos 0) (pos 0) (pos 5) (pos 1))) (place (pos 25) (pos 6) 50 ∷ place (pos 25) (pos 4) 50 ∷ [])
    ≡ (false ∷ true ∷ [])
unfolding computing narrow
under_narrow = refl
