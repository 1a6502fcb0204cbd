use Rattle.std.proofs.Common.{◌≡◌, subst, true, map}
use Rattle.std.specs.Prelude.{Contains}
use Rattle.std.proofs.lemmas.Result.{on_ok_weaker}
use Rattle.overlay_geometry.specs.Points.{Point}
use Rattle.overlay_geometry.specs.PointOf.{point_of}
use Rattle.overlay_geometry.specs.PairOf.{pair_of}
use Rattle.overlay_snapping.specs.PointFinderOf.{points_in}
use Rattle.overlay_snapping.specs.steps.Cells.{has_cell}
use Rattle.overlay_snapping.specs.declared.snap.cells.CellSize.{CellSize}
use Rattle.overlay_snapping.proofs.laws.cells.Added.{adds_fewer}
use Rattle.overlay_snapping.proofs.laws.cells.NotMet.{met_in_box}
use Rattle.overlay_snapping.proofs.snap.point_finder.PointFinder.append_met.Goals as goal

pub returns-then-has_at_most-clause-met : goal.returns-then-has_at_most-clause-met
returns-then-has_at_most-clause-met g c =
    let whole = g.I.OverlayInt.whole in
    let s = pair_of whole c.args.segment.now in
    let points = points_in c.args.self.now in
    let cells = c.around-cells.result in
    on_ok_weaker c.append_met.result
    (λ h. adds_fewer s points (λ (q : Point). has_cell cells c.args.self.now.grid.size q ≡ true) (λ (q : Point). Contains points q) (map (point_of whole) c.args.met.now.items) (map (point_of whole) c.append_met.new.met.items)
    (λ q i m k. subst (λ (z : CellSize). has_cell cells z q ≡ true) c.size.ensures (c.around-cells.ensures q (met_in_box s q m))) h)
    c.append_met.ensures
