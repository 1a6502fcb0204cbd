-- Lines among the segments of an arrangement, and the graph of their parts that a clip rule keeps.
use Rattle.std.specs.Prelude.{◌≡◌, ◌==◌, ◌<◌, pos, Bool, not, ◌&&◌, ◌||◌, if◌then◌else◌, List, map, filter, All}
use Rattle.overlay_base.specs.Windings.{Winding}
use Rattle.overlay_base.specs.Segments.{WholeSegment}
use Rattle.overlay_base.specs.Rules.{differ}
use Rattle.overlay_base.specs.declared.overlay_core.clip_rule.ClipRule.{ClipRule}
use Rattle.overlay_base.specs.declared.overlay_core.fill_rule.FillRule.{FillRule}
use Rattle.overlay_sweep.specs.Fill.{is_inside}
use Rattle.overlay_sweep.specs.ColumnWindings.{side_bottom, side_top, IsSameAlong}
use Rattle.overlay_build.specs.Graph.{Graph, graph_of}
use Rattle.overlay_build.specs.Sides.{with_sides}

-- counts of lines: nothing winds for the clip, and masks have two bits
abbrev pub CountsLines : WholeSegment → Type 0
CountsLines s = (s.count.clip ≡ pos 0) × (s.count.mask < 4)

-- What a clip rule says of a part of a line that has the subject on both sides, on one, or on none.
unfoldable pub keeps_between : ClipRule → FillRule → Winding → Winding → Bool
keeps_between rule fill_rule bottom top =
    let above : Bool = is_inside fill_rule top.subj in
    let below : Bool = is_inside fill_rule bottom.subj in
    differ rule.invert (if rule.boundary_included then above || below else above && below)

-- whether a segment is a part of a line that the rule keeps, by the windings in the columns beside it
unfoldable pub is_kept_part : ClipRule → FillRule → List WholeSegment → WholeSegment → Bool
is_kept_part rule fill_rule segments s = not (s.count.mask == 0) && keeps_between rule fill_rule (side_bottom segments s) (side_top segments s)

-- the graph of exactly these
unfoldable pub clip_graph : ClipRule → FillRule → List WholeSegment → Graph
clip_graph rule fill_rule segments = graph_of (map (λ s. with_sides fill_rule segments s) (filter (λ s. is_kept_part rule fill_rule segments s) segments))

-- Where counts balance: windings are the same all along a segment, and the graph is that of the parts of lines that the rule
-- keeps by the windings of the subject on their two sides, with the fills of these sides.
pub record IsBalancedClip (rule : ClipRule) (fill_rule : FillRule) (segments : List WholeSegment) (graph : Graph) : Type 0 where
  pub windings : All (IsSameAlong segments) segments
  pub exactly : graph ≡ clip_graph rule fill_rule segments
