-- The boundary of the region of a truth function: the links of its graph, each in the direction that has the region on its left.
use Rattle.std.specs.Prelude.{◌≡◌, ◌<◌, ℕ, ℤ, pos, negsuc, ◌-ℤ◌, Bool, false, if◌then◌else◌, List, map, filter}
use Rattle.overlay_base.specs.Windings.{Winding}
use Rattle.overlay_base.specs.Segments.{WholeSegment}
use Rattle.overlay_base.specs.Places.{RationalPoint, winding_below}
use Rattle.overlay_base.specs.Balance.{IsBalanced}
use Rattle.overlay_base.specs.Rules.{top_value}
use Rattle.overlay_base.specs.declared.overlay_core.fill_rule.FillRule.{FillRule}
use Rattle.overlay_sweep.specs.ColumnWindings.{side_bottom, side_top}
use Rattle.overlay_build.specs.Graph.{Graph}
use Rattle.overlay_build.specs.Values.{value_at, tells_apart}

-- ---- links with directions

-- the count of n contours of a subject
abbrev pub of_subject : ℤ → Winding
of_subject n = record { subj = n; clip = pos 0; mask = 0 }

-- The direction of a link with this fill: 1 where it runs from a to b, -1 where it runs from b to a. The top of a segment
-- lies to the left of the way from a to b, so the link runs that way where the truth function holds of its top.
unfoldable pub direction : (Bool → Bool → Bool) → ℕ → ℤ
direction rule fill = if top_value rule fill then pos 1 else negsuc 0

-- the links of a graph, each once, in its direction
unfoldable pub directed_links : (Bool → Bool → Bool) → Graph → List WholeSegment
directed_links rule graph = map (λ l. record { pair = l.pair; count = of_subject (direction rule l.fill) }) graph.links

-- ---- what a boundary is to be

-- 1 for yes and 0 for no
abbrev pub truth : Bool → ℤ
truth b = if b then pos 1 else pos 0

-- how often the boundary runs along a segment from a to b: 1 where the truth function holds of the left side alone, -1 where
-- it holds of the right side alone
unfoldable pub directed_count : (Bool → Bool → Bool) → FillRule → List WholeSegment → WholeSegment → ℤ
directed_count rule fill_rule segments s = truth (value_at rule fill_rule (side_top segments s)) -ℤ truth (value_at rule fill_rule (side_bottom segments s))

-- the segments whose sides differ under it, each with this count
unfoldable pub boundary : (Bool → Bool → Bool) → FillRule → List WholeSegment → List WholeSegment
boundary rule fill_rule segments =
    map (λ s. record { pair = s.pair; count = of_subject (directed_count rule fill_rule segments s) })
    (filter (λ s. tells_apart rule fill_rule (side_bottom segments s) (side_top segments s)) segments)

-- how often the boundary winds around a place at which the segments wind so: once where the truth function holds there, and
-- not at all where it does not; where it holds of the places outside, once less
unfoldable pub times_round : (Bool → Bool → Bool) → FillRule → Winding → ℤ
times_round rule fill_rule w = truth (value_at rule fill_rule w) -ℤ truth (rule false false)

-- ---- both together

-- The links of a graph, each in its direction, are the boundary of the region of a truth function.
pub record BoundsRegion (rule : Bool → Bool → Bool) (fill_rule : FillRule) (segments : List WholeSegment) (graph : Graph) : Type 0 where
  -- the function holds on the left of each, and not on its right
  pub sides : directed_links rule graph ≡ boundary rule fill_rule segments
  -- at every point as many start as end
  pub closed : IsBalanced (directed_links rule graph)
  -- and around every place of the plane they wind so often
  pub winds : (p : RationalPoint) → 0 < p.bottom → winding_below (directed_links rule graph) p ≡ of_subject (times_round rule fill_rule (winding_below segments p))
