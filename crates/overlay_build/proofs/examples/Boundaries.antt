-- Worked examples of boundaries: the directions of links, and how often they wind around places. Each holds by computation.
use Rattle.std.specs.Prelude.{◌≡◌, refl, ℤ, pos, negsuc, Bool, true, not, ◌||◌, List, [], ◌∷◌, map}
use Rattle.overlay_geometry.specs.Points.{Point}
use Rattle.overlay_base.specs.Windings.{empty}
use Rattle.overlay_base.specs.Segments.{WholeSegment, is_map}
use Rattle.overlay_base.specs.Places.{winding_below}
use Rattle.overlay_base.specs.Planar.{is_planar}
use Rattle.overlay_base.specs.Balance.{balance}
use Rattle.overlay_base.specs.Rules.{holds, keeps_fill}
use Rattle.overlay_base.specs.declared.overlay_core.overlay_rule.OverlayRule.TheVariants.{Subject, Intersect, Union, Difference, Xor}
use Rattle.overlay_base.specs.declared.overlay_core.fill_rule.FillRule.TheVariants.{NonZero}
use Rattle.overlay_build.specs.Graph.{graph_by}
use Rattle.overlay_build.specs.Boundary.{directed_links, boundary, times_round}
use Rattle.overlay_sweep.proofs.examples.Sweeps.{seg, twelve}
use Rattle.overlay_build.proofs.examples.Computing.{computing}

-- the links of a rule's graph, with their directions
abbrev directed : (Bool → Bool → Bool) → List WholeSegment → List WholeSegment
directed rule segments = directed_links rule (graph_by (keeps_fill rule) NonZero segments)

-- the directions alone
abbrev ways : (Bool → Bool → Bool) → List WholeSegment → List ℤ
ways rule segments = map (λ s. s.count.subj) (directed rule segments)

-- how often they wind around (x / 2, y / 2)
abbrev round_half : (Bool → Bool → Bool) → List WholeSegment → Point → ℤ
round_half rule segments p = (winding_below (directed rule segments) (record { x = p.x; y = p.y; bottom = 2 })).subj

abbrev at : ℤ → ℤ → Point
at x y = record { x = x; y = y }

-- what holds outside of both shapes
abbrev outside : Bool → Bool → Bool
outside s c = not (s || c)

-- ---- a square, run clockwise: its boundary runs counterclockwise, with the square on its left

abbrev square : List WholeSegment
square = seg (pos 0) (pos 0) (pos 0) (pos 4) (pos 1) (pos 0) ∷ seg (pos 0) (pos 0) (pos 4) (pos 0) (negsuc 0) (pos 0) ∷ seg (pos 0) (pos 4) (pos 4) (pos 4) (pos 1) (pos 0) ∷ seg (pos 4) (pos 0) (pos 4) (pos 4) (negsuc 0) (pos 0) ∷ []

square_ways : ways (holds Subject) square ≡ (negsuc 0 ∷ pos 1 ∷ negsuc 0 ∷ pos 1 ∷ [])
unfolding computing
square_ways = refl

square_winds : map (round_half (holds Subject) square) (at (pos 3) (pos 3) ∷ at (pos 3) (pos 9) ∷ at (pos 3) (negsuc 0) ∷ at (pos 9) (pos 3) ∷ at (pos 0) (pos 3) ∷ []) ≡ (pos 1 ∷ pos 0 ∷ pos 0 ∷ pos 0 ∷ pos 1 ∷ [])
unfolding computing
square_winds = refl

-- the boundary of what is outside runs the other way
outside_ways : ways outside square ≡ (pos 1 ∷ negsuc 0 ∷ pos 1 ∷ negsuc 0 ∷ [])
unfolding computing
outside_ways = refl

outside_winds : map (round_half outside square) (at (pos 3) (pos 3) ∷ at (pos 3) (pos 9) ∷ []) ≡ (negsuc 0 ∷ pos 0 ∷ [])
unfolding computing
outside_winds = refl

outside_says : map (λ w. times_round outside NonZero w) (empty ∷ record { subj = pos 1; clip = pos 0; mask = 0 } ∷ []) ≡ (pos 0 ∷ negsuc 0 ∷ [])
unfolding computing
outside_says = refl

-- ---- two squares that overlap, each run counterclockwise

intersect_ways : ways (holds Intersect) twelve ≡ (negsuc 0 ∷ pos 1 ∷ negsuc 0 ∷ pos 1 ∷ [])
unfolding computing
intersect_ways = refl

-- around what both cover the boundary of what one covers alone runs the other way
xor_ways : ways (holds Xor) twelve ≡ (negsuc 0 ∷ pos 1 ∷ negsuc 0 ∷ pos 1 ∷ negsuc 0 ∷ negsuc 0 ∷ pos 1 ∷ negsuc 0 ∷ pos 1 ∷ negsuc 0 ∷ pos 1 ∷ pos 1 ∷ [])
unfolding computing
xor_ways = refl

-- in the subject alone, in both, in the clip alone, in neither
abbrev places : List Point
places = at (pos 3) (pos 3) ∷ at (pos 5) (pos 5) ∷ at (pos 10) (pos 10) ∷ at (pos 3) (pos 11) ∷ []

intersect_winds : map (round_half (holds Intersect) twelve) places ≡ (pos 0 ∷ pos 1 ∷ pos 0 ∷ pos 0 ∷ [])
unfolding computing
intersect_winds = refl

union_winds : map (round_half (holds Union) twelve) places ≡ (pos 1 ∷ pos 1 ∷ pos 1 ∷ pos 0 ∷ [])
unfolding computing
union_winds = refl

difference_winds : map (round_half (holds Difference) twelve) places ≡ (pos 1 ∷ pos 0 ∷ pos 0 ∷ pos 0 ∷ [])
unfolding computing
difference_winds = refl

xor_winds : map (round_half (holds Xor) twelve) places ≡ (pos 1 ∷ pos 0 ∷ pos 1 ∷ pos 0 ∷ [])
unfolding computing
xor_winds = refl

-- as many start as end where the two contours cross, and four links meet
xor_crossing : balance (directed (holds Xor) twelve) (at (pos 2) (pos 4)) ≡ empty
unfolding computing
xor_crossing = refl

xor_by_sides : directed (holds Xor) twelve ≡ boundary (holds Xor) NonZero twelve
unfolding computing
xor_by_sides = refl

-- ---- a bow tie: one half is wound once, the other -1 times; its boundary winds once around both

abbrev bow_tie : List WholeSegment
bow_tie = seg (pos 0) (pos 0) (pos 0) (pos 4) (negsuc 0) (pos 0) ∷ seg (pos 0) (pos 0) (pos 2) (pos 2) (pos 1) (pos 0) ∷ seg (pos 0) (pos 4) (pos 2) (pos 2) (negsuc 0) (pos 0) ∷ seg (pos 2) (pos 2) (pos 4) (pos 0) (negsuc 0) (pos 0) ∷ seg (pos 2) (pos 2) (pos 4) (pos 4) (pos 1) (pos 0) ∷ seg (pos 4) (pos 0) (pos 4) (pos 4) (negsuc 0) (pos 0) ∷ []

bow_tie_is_arranged : (is_map bow_tie ≡ true) × (is_planar bow_tie ≡ true)
unfolding computing
bow_tie_is_arranged = (refl, refl)

bow_tie_ways : ways (holds Subject) bow_tie ≡ (negsuc 0 ∷ pos 1 ∷ negsuc 0 ∷ pos 1 ∷ negsuc 0 ∷ pos 1 ∷ [])
unfolding computing
bow_tie_ways = refl

bow_tie_winds : map (round_half (holds Subject) bow_tie) (at (pos 1) (pos 4) ∷ at (pos 7) (pos 4) ∷ at (pos 4) (pos 7) ∷ at (pos 4) (pos 1) ∷ []) ≡ (pos 1 ∷ pos 1 ∷ pos 0 ∷ pos 0 ∷ [])
unfolding computing
bow_tie_winds = refl

bow_tie_knot : balance (directed (holds Subject) bow_tie) (at (pos 2) (pos 2)) ≡ empty
unfolding computing
bow_tie_knot = refl
