-- Worked examples of directed walks: their contours and the edges of these. Each holds by computation.
use Rattle.std.specs.Prelude.{◌≡◌, refl, ℤ, pos, negsuc, List, [], ◌∷◌, map, length, filter, ◌==◌}
use Rattle.overlay_geometry.specs.Points.{Point}
use Rattle.overlay_base.specs.Segments.{WholeSegment}
use Rattle.overlay_base.specs.Rules.{holds, keeps_fill}
use Rattle.overlay_base.specs.declared.overlay_core.overlay_rule.OverlayRule.TheVariants.{Subject}
use Rattle.overlay_base.specs.declared.overlay_core.fill_rule.FillRule.TheVariants.{NonZero}
use Rattle.overlay_build.specs.Graph.{Link, graph_by}
use Rattle.overlay_build.specs.DirectedWalks.{arcs, contour, edges}
use Rattle.overlay_sweep.proofs.examples.Sweeps.{seg}
use Rattle.overlay_build.proofs.examples.Computing.{computing}

abbrev at : ℤ → ℤ → Point
at x y = record { x = x; y = y }

-- a square, run clockwise
abbrev square : List WholeSegment
square = seg (pos 0) (pos 0) (pos 0) (pos 4) (pos 1) (pos 0) ∷ seg (pos 0) (pos 0) (pos 4) (pos 0) (negsuc 0) (pos 0) ∷ seg (pos 0) (pos 4) (pos 4) (pos 4) (pos 1) (pos 0) ∷ seg (pos 4) (pos 0) (pos 4) (pos 4) (negsuc 0) (pos 0) ∷ []

abbrev round : List Link
round = arcs (holds Subject) (graph_by (keeps_fill (holds Subject)) NonZero square).links

-- one link starts at each node, and one ends there
square_starts : map (λ u. length (filter (λ l. l.a_node == u) round)) (0 ∷ 1 ∷ 2 ∷ 3 ∷ 4 ∷ []) ≡ (1 ∷ 1 ∷ 1 ∷ 1 ∷ 0 ∷ [])
unfolding computing
square_starts = refl

square_ends : map (λ u. length (filter (λ l. l.b_node == u) round)) (0 ∷ 1 ∷ 2 ∷ 3 ∷ 4 ∷ []) ≡ (1 ∷ 1 ∷ 1 ∷ 1 ∷ 0 ∷ [])
unfolding computing
square_ends = refl

-- the walk runs counterclockwise, with the square on its left
square_contour : contour round (0 ∷ 1 ∷ 3 ∷ 2 ∷ []) ≡ (at (pos 0) (pos 4) ∷ at (pos 0) (pos 0) ∷ at (pos 4) (pos 0) ∷ at (pos 4) (pos 4) ∷ [])
unfolding computing
square_contour = refl

triangle_edges : edges (at (pos 0) (pos 0) ∷ at (pos 4) (pos 0) ∷ at (pos 0) (pos 4) ∷ []) ≡ (record { a = at (pos 0) (pos 0); b = at (pos 4) (pos 0) } ∷ record { a = at (pos 4) (pos 0); b = at (pos 0) (pos 4) } ∷ record { a = at (pos 0) (pos 4); b = at (pos 0) (pos 0) } ∷ [])
triangle_edges = refl
