-- Directed walks in shapes.
use Rattle.std.specs.Prelude.{◌≡◌, ◌⊎◌, ℕ, ◌<◌, Bool, false, ◌&&◌, ◌||◌, List, ◌∷◌, length, All, Contains, Some, slice_get, slice_index_or}
use Rattle.std.specs.Ordering.{is_lt}
use Rattle.overlay_geometry.specs.Below.{angle_cmp}
use Rattle.overlay_geometry.specs.Points.{Pair, point_eq, point_lt}
use Rattle.overlay_base.specs.Rules.{top_value}
use Rattle.overlay_base.specs.Segments.{WholeSegment}
use Rattle.overlay_build.specs.Boundary.{directed_links}
use Rattle.overlay_build.specs.DirectedWalks.{no_link, AreDirectedWalks}
use Rattle.overlay_build.specs.Graph.{Graph, Link}
use Rattle.overlay_shapes.specs.Classes.{AreLinked}
use Rattle.overlay_shapes.specs.Gathered.{all_walks, all_links, group_at}
use Rattle.overlay_shapes.specs.Sectors.{TurnsInto}
use Rattle.overlay_shapes.specs.SimpleWalks.{PassesOnce}
use Rattle.overlay_sweep.specs.ChainWindings.{support}

-- A link has another one as its support: this is just before it by angle at the same start, or else directly below its
-- start. And of the place between them the truth function says something else than of those outside: of the top of the
-- link it says what it says of those.
pub record StandsOn (rule : Bool → Bool → Bool) (graph : Graph) (i j : ℕ) : Type 0 where
  pub above : WholeSegment
  pub below : WholeSegment
  pub above_is : slice_get (directed_links rule graph) i ≡ Some above
  pub below_is : slice_get (directed_links rule graph) j ≡ Some below
  pub on : support (directed_links rule graph) above ≡ Some below
  pub between : top_value rule (slice_index_or graph.links i no_link).fill ≡ rule false false

-- One step leads from a link to another: across a part of the region, or along one sector of it at a node.
abbrev pub IsStep : (Bool → Bool → Bool) → Graph → List Link → ℕ → ℕ → Type 0
IsStep rule graph arcs i j = StandsOn rule graph i j ⊎ TurnsInto arcs i j

-- both links are in one shape
abbrev pub InOneShape : List (List (List ℕ)) → ℕ → ℕ → Type 0
InOneShape shapes i j = (k : ℕ) × (k < length shapes) × Contains (all_links (group_at shapes k)) i × Contains (all_links (group_at shapes k)) j

-- whether a pair starts before another one, or at the same point and lower by angle
abbrev pub comes_before : Pair → Pair → Bool
comes_before u s = point_lt u.a s.a || (point_eq u.a s.a && is_lt (angle_cmp u s))

-- The first walk of a shape has its first link: none of the shape comes before that one.
pub record IsLed (links : List Link) (shape : List (List ℕ)) : Type 0 where
  pub front : List ℕ
  pub later : List (List ℕ)
  pub shape_is : shape ≡ front ∷ later
  pub first : ℕ
  pub on_front : Contains front first
  pub none_before : All (λ i. comes_before (slice_index_or links i no_link).pair (slice_index_or links first no_link).pair ≡ false) (all_links shape)

-- Closed walks in shapes, each link in its direction.
pub record AreShapeWalks (rule : Bool → Bool → Bool) (graph : Graph) (arcs : List Link) (shapes : List (List (List ℕ))) : Type 0 where
  -- every link is in exactly one place of exactly one walk
  pub walks : AreDirectedWalks arcs (all_walks shapes)
  -- no walk comes to a node twice
  pub simple : All (PassesOnce arcs) (all_walks shapes)
  -- links between which one step leads are in one shape
  pub whole : (i j : ℕ) → IsStep rule graph arcs i j → InOneShape shapes i j
  -- and steps lead from each link of a shape to each other one
  pub linked : (k i j : ℕ) → k < length shapes → Contains (all_links (group_at shapes k)) i → Contains (all_links (group_at shapes k)) j → AreLinked (IsStep rule graph arcs) i j
  pub led : (k : ℕ) → k < length shapes → IsLed graph.links (group_at shapes k)
