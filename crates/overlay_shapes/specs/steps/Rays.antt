-- The links that meet at a node, as rays from there, in their order around it.
use Rattle.std.specs.Prelude.{◌≡◌, ◌≢◌, ℕ, zero, suc, ◌-◌, ◌<◌, ◌==◌, Bool, false, if◌then◌else◌, List, [], ◌∷◌, map, length, All, slice_set, slice_index_or}
use Rattle.std.specs.List.Sorted.{IsPermutation}
use Rattle.std.specs.declared.cmp.Ordering.{Ordering}
use Rattle.std.specs.declared.cmp.Ordering.TheVariants.{Less, Greater}
use Rattle.overlay_geometry.specs.Below.{angle_cmp}
use Rattle.overlay_geometry.specs.Points.{Point, Pair}
use Rattle.overlay_geometry.specs.VSegmentOf.{v_pair_of}
use Rattle.overlay_build.specs.DirectedWalks.{in_direction, no_link}
use Rattle.overlay_build.specs.Graph.{Link}
use Rattle.overlay_build.specs.NodeIndexes.{indexes_of}
use Rattle.overlay_build.specs.OverlayGraphOf.{nodes_of}
use Rattle.overlay_build.specs.declared.build.graph.OverlayGraph.{OverlayGraph}
use Rattle.overlay_shapes.specs.Sectors.{leads_into_sector}
use Rattle.overlay_shapes.specs.declared.ray.Ray.{Ray}

-- a link as seen from a node at one of its ends
pub record WholeRay : Type 0 where
  -- its index
  pub link : ℕ
  -- whether it starts at the node, so that the ray leads to a later point
  pub leads_on : Bool
  -- whether it ends at the node in its direction
  pub comes_in : Bool
  pub pair : Pair

abbrev pub no_ray : WholeRay
no_ray = record { link = 0; leads_on = false; comes_in = false; pair = no_link.pair }

abbrev pub ray_of : {I : Type 0} {w : _} {o : _} {e : _} {p : _} → Ray I w o e p → WholeRay
ray_of {w = w} ray = record { link = ray.link; leads_on = ray.leads_on; comes_in = ray.comes_in; pair = v_pair_of w.whole ray.segment }

abbrev pub rays_of : {I : Type 0} {w : _} {o : _} {e : _} {p : _} → List (Ray I w o e p) → List WholeRay
rays_of list = map ray_of list

-- the ray of the link with this index at a node
abbrev pub ray_at : (Bool → Bool → Bool) → List Link → ℕ → ℕ → WholeRay
ray_at rule links node index =
    let link = slice_index_or links index no_link in
    record { link = index; leads_on = (link.a_node == node); comes_in = ((in_direction rule link).b_node == node); pair = link.pair }

-- the indexes of the links at a node of a graph
abbrev pub indexes_at : {I D : Type 0} {w : _} {o : _} {e : _} {p : _} → OverlayGraph I D w o e p → ℕ → List ℕ
indexes_at graph node = slice_index_or (map indexes_of (nodes_of graph)) node []

-- the end at the node, and the other one
abbrev pub center : WholeRay → Point
center r = if r.leads_on then r.pair.a else r.pair.b

abbrev pub tip : WholeRay → Point
tip r = if r.leads_on then r.pair.b else r.pair.a

-- counterclockwise: those that lead to later points, from straight down over rightward to straight up, then the others
abbrev pub around_cmp : WholeRay → WholeRay → Ordering
around_cmp r s =
    if r.leads_on then (if s.leads_on then angle_cmp r.pair s.pair else Less)
    else (if s.leads_on then Greater else angle_cmp r.pair s.pair)

-- of so many in a circle the one before one of them
abbrev pub one_before : ℕ → ℕ → ℕ
one_before count zero = count - 1
one_before count (suc k) = k

abbrev pub ray_before : List WholeRay → ℕ → WholeRay
ray_before rays k = slice_index_or rays (one_before (length rays) k) no_ray

-- These are the rays of the links with these indexes. None leads into the sector from one counterclockwise to the next.
pub record AreAround (rule : Bool → Bool → Bool) (links : List Link) (node : ℕ) (indexes : List ℕ) (rays : List WholeRay) : Type 0 where
  pub same : IsPermutation (map (ray_at rule links node) indexes) rays
  pub none_between : (k : ℕ) → k < length rays → (ray_before rays k).link ≢ (slice_index_or rays k no_ray).link →
      All (λ l. leads_into_sector (center (slice_index_or rays k no_ray)) (tip (ray_before rays k)) (tip (slice_index_or rays k no_ray)) l.pair ≡ false) links

-- At the index of each link that comes in is the one before it, where the one before the first is given.
abbrev pub led_on : ℕ → List WholeRay → List ℕ → List ℕ
led_on before [] next = next
led_on before (r ∷ rs) next = led_on r.link rs (if r.comes_in then slice_set next r.link before else next)
