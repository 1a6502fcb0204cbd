use Rattle.std.proofs.Common.{◌↔◌, subst, List, map}
use Rattle.std.specs.Prelude.{Contains}
use Rattle.overlay_geometry.specs.Points.{Point}
use Rattle.overlay_geometry.specs.PointOf.{point_of}
use Rattle.overlay_geometry.specs.declared.geom.point.IntPoint.{IntPoint}
use Rattle.overlay_snapping.proofs.laws.closure.Elements.{same_mapped}
use Rattle.overlay_snapping.proofs.laws.cells.Listed.{listed_alike}
use Rattle.overlay_snapping.proofs.snap.point_finder.PointFinder.fill_tree.Goals as goal

pub invariant_of-self-then-not-self : goal.invariant_of-self-then-not-self
invariant_of-self-then-not-self g c =
    let whole = g.I.OverlayInt.whole in
    let items = c.fill.new.self.points.items in
    record {
      alike = λ e. listed_alike (map (point_of whole) items) (map (point_of whole) c.args.self.now.grid.points.items)
          (subst (λ (l : List (IntPoint _)). (q : Point) → Contains (map (point_of whole) items) q ↔ Contains (map (point_of whole) l) q) c.points.ensures (same_mapped (point_of whole) items c.points.result.now c.in_ok-fill.ensures.same));
    }
