use Rattle.std.proofs.Common.{◌↔◌, sym, subst, List, map}
use Rattle.std.specs.Prelude.{Contains}
use Rattle.std.proofs.lemmas.Result.{on_ok_weaker}
use Rattle.overlay_geometry.specs.Points.{Point}
use Rattle.overlay_geometry.specs.PointOf.{point_of}
use Rattle.overlay_geometry.specs.PairOf.{pair_of}
use Rattle.overlay_geometry.specs.declared.geom.point.IntPoint.{IntPoint}
use Rattle.overlay_snapping.specs.PointFinderOf.{points_in}
use Rattle.overlay_snapping.proofs.laws.cells.Added.{adds_alike}
use Rattle.overlay_snapping.proofs.laws.cells.Listed.{alike_listed}
use Rattle.overlay_snapping.proofs.snap.point_finder.PointFinder.append_met_by_tree.Goals as goal

pub returns-clause-met : goal.returns-clause-met
returns-clause-met g c =
    let whole = g.I.OverlayInt.whole in
    let self = c.fill_tree.new.self in
    let tree = map (point_of whole) self.tree.points.items in
    let alike = alike_listed tree (map (point_of whole) self.grid.points.items) (self.alike c.in_ok-fill_tree.ensures.filled) in
    let old : (q : Point) → Contains tree q ↔ Contains (points_in c.args.self.now) q = subst (λ (l : List (IntPoint _)). (q : Point) → Contains tree q ↔ Contains (map (point_of whole) l) q) c.fill_tree.ensures.same alike in
    let listed : (q : Point) → Contains (map (point_of whole) c.points.result.now) q ↔ Contains (points_in c.args.self.now) q =
    subst (λ (l : List (IntPoint _)). (q : Point) → Contains (map (point_of whole) l) q ↔ Contains (points_in c.args.self.now) q) (sym c.points.ensures) old in
    on_ok_weaker c.append_but_ends.result
    (λ h. adds_alike (pair_of whole c.args.segment.now) (map (point_of whole) c.points.result.now) (points_in c.args.self.now) (map (point_of whole) c.args.met.now.items) (map (point_of whole) c.append_but_ends.new.met.items) listed h)
    c.append_but_ends.ensures
