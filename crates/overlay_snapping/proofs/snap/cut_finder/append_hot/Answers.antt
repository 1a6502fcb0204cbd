use Rattle.std.proofs.lemmas.Result.{on_ok_weaker}
use Rattle.overlay_geometry.specs.PointOf.{point_of}
use Rattle.overlay_geometry.specs.PairOf.{pair_of}
use Rattle.overlay_snapping.specs.PointFinderOf.{points_in}
use Rattle.overlay_snapping.proofs.laws.cells.Recorded.{from_recorded}
use Rattle.overlay_snapping.proofs.snap.cut_finder.append_hot.Goals as goal

pub returns-in-Some-clause-met : goal.returns-in-Some-clause-met
returns-in-Some-clause-met g c =
    let whole = g.I.OverlayInt.whole in
    let list = c.in-Some.met.now in
    on_ok_weaker c.append.result
    (λ h. from_recorded (point_of whole) (pair_of whole c.args.segment.now) (points_in c.args.hot.now) list (c.requires.recorded list c.in-Some.ensures) c.args.between.now.items c.append.new.list.items h)
    c.append.ensures.appended
