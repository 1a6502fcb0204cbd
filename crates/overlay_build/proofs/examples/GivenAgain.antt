-- A worked chain of two overlays: the union of two squares, given again as the subject of a difference. Each holds by computation.
use Rattle.std.specs.Prelude.{◌≡◌, refl, ℤ, pos, negsuc, Bool, true, List, [], ◌∷◌, ◌++◌, map}
use Rattle.overlay_geometry.specs.Coordinates.{least_coordinate, greatest_coordinate}
use Rattle.overlay_geometry.specs.Points.{Point}
use Rattle.overlay_base.specs.Windings.{Winding, empty}
use Rattle.overlay_base.specs.Segments.{WholeSegment}
use Rattle.overlay_base.specs.Places.{winding_below}
use Rattle.overlay_base.specs.Planar.{is_arranged}
use Rattle.overlay_base.specs.Balance.{balance}
use Rattle.overlay_base.specs.Join.{join}
use Rattle.overlay_base.specs.Rules.{holds, keeps_fill}
use Rattle.overlay_base.specs.declared.overlay_core.overlay_rule.OverlayRule.TheVariants.{Union, Difference}
use Rattle.overlay_base.specs.declared.overlay_core.fill_rule.FillRule.TheVariants.{NonZero}
use Rattle.overlay_base.specs.declared.segm.shape_type.ShapeType.{ShapeType}
use Rattle.overlay_base.specs.declared.segm.shape_type.ShapeType.TheVariants.{Subject, Clip}
use Rattle.overlay_build.specs.Graph.{graph_by}
use Rattle.overlay_build.specs.Boundary.{directed_links}
use Rattle.overlay_build.specs.ShapedBoundary.{in_shape}
use Rattle.overlay_sweep.proofs.examples.Sweeps.{seg, twelve}
use Rattle.overlay_build.proofs.examples.Computing.{computing}

-- the boundary of a rule's region as a shape
abbrev given_again : ShapeType → (Bool → Bool → Bool) → List WholeSegment → List WholeSegment
given_again shape rule segments = in_shape shape (directed_links rule (graph_by (keeps_fill rule) NonZero segments))

-- how segments wind around (x / 2, y / 2)
abbrev winds_at : List WholeSegment → Point → Winding
winds_at segments p = winding_below segments (record { x = p.x; y = p.y; bottom = 2 })

abbrev at : ℤ → ℤ → Point
at x y = record { x = x; y = y }

-- the union of the squares from (0, 0) to (4, 4) and from (2, 2) to (6, 6), run counterclockwise
abbrev union : ShapeType → List WholeSegment
union shape = given_again shape (holds Union) twelve

union_is : union Subject ≡ (seg (pos 0) (pos 0) (pos 0) (pos 4) (negsuc 0) (pos 0) ∷ seg (pos 0) (pos 0) (pos 4) (pos 0) (pos 1) (pos 0) ∷ seg (pos 0) (pos 4) (pos 2) (pos 4) (negsuc 0) (pos 0) ∷ seg (pos 2) (pos 4) (pos 2) (pos 6) (negsuc 0) (pos 0) ∷ seg (pos 2) (pos 6) (pos 6) (pos 6) (negsuc 0) (pos 0) ∷ seg (pos 4) (pos 0) (pos 4) (pos 2) (pos 1) (pos 0) ∷ seg (pos 4) (pos 2) (pos 6) (pos 2) (pos 1) (pos 0) ∷ seg (pos 6) (pos 2) (pos 6) (pos 6) (pos 1) (pos 0) ∷ [])
unfolding computing
union_is = refl

union_is_arranged : is_arranged least_coordinate greatest_coordinate (union Subject) ≡ true
unfolding computing
union_is_arranged = refl

union_is_balanced : map (balance (union Subject)) (at (pos 2) (pos 4) ∷ at (pos 6) (pos 6) ∷ []) ≡ (empty ∷ empty ∷ [])
unfolding computing
union_is_balanced = refl

-- as a clip it winds for the clip: in the first square alone, in both, in the second alone, in neither
union_winds : map (winds_at (union Clip)) (at (pos 3) (pos 3) ∷ at (pos 5) (pos 5) ∷ at (pos 10) (pos 10) ∷ at (pos 3) (pos 11) ∷ []) ≡ (record { subj = pos 0; clip = pos 1; mask = 0 } ∷ record { subj = pos 0; clip = pos 1; mask = 0 } ∷ record { subj = pos 0; clip = pos 1; mask = 0 } ∷ empty ∷ [])
unfolding computing
union_winds = refl

-- the second overlay: less the square from (3, 3) to (5, 5)
abbrev hole : List WholeSegment
hole = seg (pos 3) (pos 3) (pos 3) (pos 5) (pos 0) (negsuc 0) ∷ seg (pos 3) (pos 3) (pos 5) (pos 3) (pos 0) (pos 1) ∷ seg (pos 3) (pos 5) (pos 5) (pos 5) (pos 0) (negsuc 0) ∷ seg (pos 5) (pos 3) (pos 5) (pos 5) (pos 0) (pos 1) ∷ []

abbrev second : List WholeSegment
second = join (union Subject ++ hole)

second_is_arranged : is_arranged least_coordinate greatest_coordinate second ≡ true
unfolding computing
second_is_arranged = refl

-- around the hole the boundary runs the other way
second_ways : map (λ s. s.count.subj) (given_again Subject (holds Difference) second) ≡ (negsuc 0 ∷ pos 1 ∷ negsuc 0 ∷ negsuc 0 ∷ negsuc 0 ∷ pos 1 ∷ negsuc 0 ∷ pos 1 ∷ pos 1 ∷ pos 1 ∷ negsuc 0 ∷ pos 1 ∷ [])
unfolding computing
second_ways = refl

-- in the union on both sides of the hole, in the hole, outside
second_winds : map (λ p. (winds_at (given_again Subject (holds Difference) second) p).subj) (at (pos 3) (pos 3) ∷ at (pos 11) (pos 11) ∷ at (pos 8) (pos 8) ∷ at (pos 3) (pos 11) ∷ []) ≡ (pos 1 ∷ pos 1 ∷ pos 0 ∷ pos 0 ∷ [])
unfolding computing
second_winds = refl
