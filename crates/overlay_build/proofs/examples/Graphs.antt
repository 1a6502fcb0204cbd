-- Worked examples of graphs. Each holds by computation.
use Rattle.std.specs.Prelude.{◌≡◌, refl, ℕ, ℤ, pos, true, false, not, List, [], ◌∷◌, filter, length}
use Rattle.overlay_geometry.specs.Points.{Pair}
use Rattle.overlay_base.specs.Segments.{WholeSegment}
use Rattle.overlay_base.specs.Rules.{holds, keeps_fill}
use Rattle.overlay_base.specs.declared.overlay_core.overlay_rule.OverlayRule.{OverlayRule}
use Rattle.overlay_base.specs.declared.overlay_core.overlay_rule.OverlayRule.TheVariants.{Subject, Clip, Intersect, Union, Difference, InverseDifference, Xor}
use Rattle.overlay_base.specs.declared.overlay_core.fill_rule.FillRule.TheVariants.{EvenOdd, NonZero}
use Rattle.overlay_build.specs.Graph.{Link, Node, filled, indexes_where, graph_by, is_bridge, is_valid_graph, has_even_nodes}
use Rattle.overlay_build.specs.Sides.{overlay_graph}
use Rattle.overlay_sweep.proofs.examples.Sweeps.{pair, seg, twelve}
use Rattle.overlay_build.proofs.examples.Computing.{computing}

abbrev link : Pair → ℕ → ℕ → ℕ → Link
link s fill a b = record { pair = s; fill = fill; a_node = a; b_node = b }

abbrev node : ℤ → ℤ → List ℕ → Node
node x y links = record { point = record { x = x; y = y }; links = links }

-- the indexes of the segments that a rule keeps of the two squares
abbrev kept : OverlayRule → List ℕ
kept rule = indexes_where (λ f. keeps_fill (holds rule) f.fill) (filled NonZero twelve)

-- a lone line
abbrev lone : List WholeSegment
lone = seg (pos 0) (pos 0) (pos 4) (pos 0) (pos 1) (pos 0) ∷ []

kept_by_subject : kept Subject ≡ (0 ∷ 1 ∷ 2 ∷ 6 ∷ 8 ∷ 9 ∷ [])
unfolding computing
kept_by_subject = refl

kept_by_clip : kept Clip ≡ (3 ∷ 4 ∷ 5 ∷ 7 ∷ 10 ∷ 11 ∷ [])
unfolding computing
kept_by_clip = refl

kept_by_intersect : kept Intersect ≡ (3 ∷ 4 ∷ 6 ∷ 9 ∷ [])
unfolding computing
kept_by_intersect = refl

kept_by_union : kept Union ≡ (0 ∷ 1 ∷ 2 ∷ 5 ∷ 7 ∷ 8 ∷ 10 ∷ 11 ∷ [])
unfolding computing
kept_by_union = refl

kept_by_difference : kept Difference ≡ (0 ∷ 1 ∷ 2 ∷ 3 ∷ 4 ∷ 8 ∷ [])
unfolding computing
kept_by_difference = refl

kept_by_inverse_difference : kept InverseDifference ≡ (5 ∷ 6 ∷ 7 ∷ 9 ∷ 10 ∷ 11 ∷ [])
unfolding computing
kept_by_inverse_difference = refl

kept_by_xor : kept Xor ≡ (0 ∷ 1 ∷ 2 ∷ 3 ∷ 4 ∷ 5 ∷ 6 ∷ 7 ∷ 8 ∷ 9 ∷ 10 ∷ 11 ∷ [])
unfolding computing
kept_by_xor = refl

-- what both squares cover
intersection : graph_by (keeps_fill (holds Intersect)) NonZero twelve ≡ record {
  links = link (pair (pos 2) (pos 2) (pos 2) (pos 4)) 11 0 1 ∷ link (pair (pos 2) (pos 2) (pos 4) (pos 2)) 7 0 2 ∷ link (pair (pos 2) (pos 4) (pos 4) (pos 4)) 14 1 3 ∷ link (pair (pos 4) (pos 2) (pos 4) (pos 4)) 13 2 3 ∷ [];
  nodes = node (pos 2) (pos 2) (0 ∷ 1 ∷ []) ∷ node (pos 2) (pos 4) (2 ∷ 0 ∷ []) ∷ node (pos 4) (pos 2) (3 ∷ 1 ∷ []) ∷ node (pos 4) (pos 4) (2 ∷ 3 ∷ []) ∷ [];
}
unfolding computing
intersection = refl

intersection_by_sides : overlay_graph (holds Intersect) NonZero twelve ≡ graph_by (keeps_fill (holds Intersect)) NonZero twelve
unfolding computing
intersection_by_sides = refl

intersection_is_valid : is_valid_graph (graph_by (keeps_fill (holds Intersect)) NonZero twelve) ≡ true
unfolding computing
intersection_is_valid = refl

intersection_is_even : has_even_nodes (graph_by (keeps_fill (holds Intersect)) NonZero twelve) ≡ true
unfolding computing
intersection_is_even = refl

-- all segments: ten nodes, two of them no bridges
all_nodes : length (graph_by (λ f. true) NonZero twelve).nodes ≡ 10
unfolding computing
all_nodes = refl

all_crosses : filter (λ n. not (is_bridge n)) (graph_by (λ f. true) NonZero twelve).nodes ≡ (node (pos 2) (pos 4) (5 ∷ 6 ∷ 2 ∷ 3 ∷ []) ∷ node (pos 4) (pos 2) (9 ∷ 10 ∷ 4 ∷ 8 ∷ []) ∷ [])
unfolding computing
all_crosses = refl

all_is_valid : is_valid_graph (graph_by (λ f. true) NonZero twelve) ≡ true
unfolding computing
all_is_valid = refl

-- a lone line: each of its ends is a node with one link, and the graph is not valid
lone_line : graph_by (λ f. true) EvenOdd lone ≡ record {
  links = link (pair (pos 0) (pos 0) (pos 4) (pos 0)) 1 0 1 ∷ [];
  nodes = node (pos 0) (pos 0) (0 ∷ []) ∷ node (pos 4) (pos 0) (0 ∷ []) ∷ [];
}
unfolding computing
lone_line = refl

lone_line_is_not_valid : is_valid_graph (graph_by (λ f. true) EvenOdd lone) ≡ false
unfolding computing
lone_line_is_not_valid = refl

-- of a lone line of the subject the clip has nothing
lone_line_of_clip : graph_by (keeps_fill (holds Clip)) EvenOdd lone ≡ record { links = []; nodes = [] }
unfolding computing
lone_line_of_clip = refl
