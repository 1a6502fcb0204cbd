use Rattle.std.proofs.Common.{◌∙◌, sym, ap, map}
use Rattle.std.proofs.lemmas.List.{nil_from_length}
use Rattle.overlay_geometry.specs.Points.{point_eq}
use Rattle.overlay_geometry.specs.PointOf.{point_of}
use Rattle.overlay_build.proofs.laws.walks.ContourLoops.{list_any-map, has_repeat-found, has_repeat-rest, has_repeat-none}
use Rattle.overlay_build.proofs.build.util.has_equal_points.Goals as goal

pub returns-then-has_point : goal.returns-then-has_point
returns-then-has_point g c =
    let at = point_of g.I.OverlayInt.whole in
    has_repeat-found point_eq (map at c.args.points.now) (at c.in-Some.first.now) (map at c.in-Some.later.now) (map at c.loop-first.rest.now) c.loop-first.invariant (ap (map at) c.in-Some.ensures.cases.0)
    (list_any-map at (point_eq (at c.in-Some.first.now)) c.in-Some.later.now ∙ sym c.has_point.ensures ∙ c.if-has_point.true)

pub loop-first-preserved : goal.loop-first-preserved
loop-first-preserved g c =
    let at = point_of g.I.OverlayInt.whole in
    has_repeat-rest point_eq (map at c.args.points.now) (at c.in-Some.first.now) (map at c.in-Some.later.now) (map at c.loop-first.rest.now) c.loop-first.invariant (ap (map at) c.in-Some.ensures.cases.0)
    (list_any-map at (point_eq (at c.in-Some.first.now)) c.in-Some.later.now ∙ sym c.has_point.ensures ∙ c.if-has_point.false)

pub returns : goal.returns
returns g c =
    let at = point_of g.I.OverlayInt.whole in
    has_repeat-none point_eq (map at c.args.points.now) (map at c.loop-first.rest.now) c.loop-first.invariant (ap (map at) (nil_from_length c.loop-first.rest.now c.in_default.ensures.cases))
