use Rattle.std.proofs.Common.{◌≡◌, ◌≤◌, ◌-◌, length}
use Rattle.overlay_base.specs.BooleanWinding.{boolean_winding}
use Rattle.overlay_base.specs.EdgeData.{without_data}
use Rattle.overlay_base.specs.SegmentOf.{data_segments_of}
use Rattle.overlay_base.specs.declared.overlay_core.fill_rule.FillRule.TheVariants.{EvenOdd}
use Rattle.overlay_sweep.specs.steps.WayOf.{ways_of, ways_between, by_angle}
use Rattle.overlay_sweep.proofs.laws.columns.Members.{IsArranged}
use Rattle.overlay_sweep.proofs.laws.visits.Standing.{IsBeforeStart, IsAmidStart}
use Rattle.overlay_sweep.proofs.build.supports.supports.Given as goal

abbrev pub invariant-loop-index : goal.invariant-loop-index
invariant-loop-index g l =
    ((arranged : IsArranged (without_data (data_segments_of l.segments))) → IsBeforeStart EvenOdd (data_segments_of l.segments) arranged l.index (g.S.LiveSegments.sums l.live) l.supports.items (g.S.LiveSegments.may_go_on_at l.live))
    × (l.index ≤ length l.segments)

abbrev pub invariant-loop-way : goal.invariant-loop-way
invariant-loop-way g l =
    ((arranged : IsArranged (without_data (data_segments_of l.segments))) → IsAmidStart EvenOdd (data_segments_of l.segments) arranged l.index l.next l.way-index (boolean_winding l.below) (g.S.LiveSegments.sums l.live) l.supports.items (g.S.LiveSegments.may_go_on_at l.live))
    × (ways_of l.way-items ≡ by_angle (ways_between (without_data (data_segments_of l.segments)) l.index l.next))

abbrev pub decreases-loop-index : goal.decreases-loop-index
decreases-loop-index g l = length l.segments - l.index
