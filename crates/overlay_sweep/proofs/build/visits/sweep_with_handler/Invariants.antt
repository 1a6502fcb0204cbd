use Rattle.std.proofs.Common.{◌≡◌, ℕ, ◌+◌, ◌*◌, ◌<◌, ◌≤◌, ◌-◌, length}
use Rattle.overlay_base.specs.EdgeData.{without_data}
use Rattle.overlay_base.specs.SegmentOf.{data_segments_of}
use Rattle.overlay_sweep.specs.steps.WayOf.{ways_of, ways_between, by_angle}
use Rattle.overlay_sweep.proofs.laws.columns.Members.{IsArranged}
use Rattle.overlay_sweep.proofs.laws.visits.SweepStates.{IsBeforePoint, IsAmidPoint}
use Rattle.overlay_sweep.proofs.build.visits.sweep_with_handler.Given as goal

abbrev pub invariant-loop-index : goal.invariant-loop-index
invariant-loop-index g l =
    ((arranged : IsArranged (without_data (data_segments_of l.segments))) →
    IsBeforePoint g.H.FillHandler.handle_gives g.H.FillHandler.finalize_gives g.F.FillStrategy.rule (data_segments_of l.segments) arranged l.fn.handler l.index l.handler (g.S.LiveSegments.sums l.live) (g.S.LiveSegments.may_go_on_at l.live))
    × ((k : ℕ) → k < length l.segments → g.H.FillHandler.takes l.handler k)
    × (l.index ≤ length l.segments)
    × (g.S.LiveSegments.held l.live ≤ l.index)
    × ((d : ℕ) → g.S.LiveSegments.is_most (length l.segments) d → l.compared + g.S.LiveSegments.held l.live * d ≤ 3 * l.index * d)

abbrev pub invariant-loop-way : goal.invariant-loop-way
invariant-loop-way g l =
    ((arranged : IsArranged (without_data (data_segments_of l.segments))) →
    IsAmidPoint g.H.FillHandler.handle_gives g.H.FillHandler.finalize_gives g.F.FillStrategy.rule (data_segments_of l.segments) arranged l.fn.handler l.index l.next l.way-index (g.C.WindingCount.winding l.sum) l.handler (g.S.LiveSegments.sums l.live) (g.S.LiveSegments.may_go_on_at l.live))
    × ((k : ℕ) → k < length l.segments → g.H.FillHandler.takes l.handler k)
    × (ways_of l.way-items ≡ by_angle (ways_between (without_data (data_segments_of l.segments)) l.index l.next))
    × (l.way-index ≤ l.next - l.index)
    × (g.S.LiveSegments.held l.live ≤ l.index + l.way-index)
    × ((d : ℕ) → g.S.LiveSegments.is_most (length l.segments) d → l.compared + g.S.LiveSegments.held l.live * d ≤ (3 * l.index + 1 + 2 * l.way-index) * d)

abbrev pub decreases-loop-index : goal.decreases-loop-index
decreases-loop-index g l = length l.segments - l.index
