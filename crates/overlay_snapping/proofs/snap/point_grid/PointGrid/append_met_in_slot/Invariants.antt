use Rattle.std.proofs.Common.{◌≡◌, ◌+◌, ◌≤◌, ℕ, Some, map, length}
use Rattle.std.specs.Prelude.{slice_get}
use Rattle.overlay_geometry.specs.Points.{Point}
use Rattle.overlay_geometry.specs.PointOf.{point_of}
use Rattle.overlay_geometry.specs.PairOf.{pair_of}
use Rattle.overlay_snapping.specs.PointGridOf.{points_in}
use Rattle.overlay_snapping.specs.steps.Cells.{slot_at}
use Rattle.overlay_snapping.specs.steps.Met.{AddsMet}
use Rattle.overlay_snapping.proofs.laws.cells.Walked.{IsPast}
use Rattle.overlay_snapping.proofs.snap.point_grid.PointGrid.append_met_in_slot.Given as goal

-- the points of the slot from this place on are done
abbrev pub invariant-loop-at : goal.invariant-loop-at
invariant-loop-at g l =
    let whole = g.I.OverlayInt.whole in
    let points = points_in l.self in
    record {
      done : AddsMet (pair_of whole l.segment) points (IsPast l.self.mask l.self.size points l.slot l.at) (map (point_of whole) l.fn.met.items) (map (point_of whole) l.met.items);
      within : l.at ≤ length points;
      own : (i : ℕ) (c : Point) → slice_get points i ≡ Some c → l.at ≡ i + 1 → slot_at l.self.mask l.self.size c ≡ l.slot;
    }

abbrev pub decreases-loop-at : goal.decreases-loop-at
decreases-loop-at g l = l.at
