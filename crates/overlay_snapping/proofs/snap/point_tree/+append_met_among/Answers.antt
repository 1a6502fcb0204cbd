use Rattle.std.proofs.Common.{sym, ap, ◌∙◌, ◌++◌, ◌/◌, map, length, arith}
use Rattle.std.proofs.lemmas.Result.{on_ok_weaker}
use Rattle.overlay_geometry.specs.PointOf.{point_of}
use Rattle.overlay_geometry.specs.PairOf.{pair_of}
use Rattle.overlay_geometry.specs.RangeOf.{rect_of}
use Rattle.overlay_snapping.specs.steps.PointTrees.{met_places_from}
use Rattle.overlay_snapping.proofs.laws.point_trees.Boxes.{Cut-from}
use Rattle.overlay_snapping.proofs.laws.point_trees.MetPlaces.{none_found, met_in_all}
use Rattle.std.proofs.lemmas.Bool.{OnTrue_at}
use Rattle.overlay_snapping.proofs.snap.point_tree.+append_met_among.Goals as goal

pub misses-requires-clause-bounds : goal.misses-requires-clause-bounds
misses-requires-clause-bounds g t c =
    let lb = c.split_at.ensures in
    let lp = c.split_at-2.ensures in
    (Cut-from g.I.OverlayInt.whole g.I.OverlayInt.MIN_COORD g.I.OverlayInt.MAX_COORD c.args.boxes.now c.split_at.result.0.now c.split_at.result.1.now c.in-Some.right_boxes.now c.in-Some.bounds.now c.args.points.now c.split_at-2.result.0.now c.split_at-2.result.1.now c.in-Some-split_first.right.now c.in-Some-split_first.point.now
    lb.front lb.back c.in-Some.ensures.cases.0 lp.front lp.back c.in-Some-split_first.ensures.cases.0 c.requires.holds).halves.box_in_range

pub returns-then-misses : goal.returns-then-misses
returns-then-misses g t c =
    let whole = g.I.OverlayInt.whole in
    let lb = c.split_at.ensures in
    let lp = c.split_at-2.ensures in
    let cut = Cut-from whole g.I.OverlayInt.MIN_COORD g.I.OverlayInt.MAX_COORD c.args.boxes.now c.split_at.result.0.now c.split_at.result.1.now c.in-Some.right_boxes.now c.in-Some.bounds.now c.args.points.now c.split_at-2.result.0.now c.split_at-2.result.1.now c.in-Some-split_first.right.now c.in-Some-split_first.point.now
    lb.front lb.back c.in-Some.ensures.cases.0 lp.front lp.back c.in-Some-split_first.ensures.cases.0 c.requires.holds in
    none_found (pair_of whole c.args.segment.now) (rect_of whole c.in-Some.bounds.now) c.args.first (map (point_of whole) c.args.points.now) c.args.places.now.items (OnTrue_at c.if-misses.true c.misses.ensures) cut.in_box

pub append_met_among-requires : goal.append_met_among-requires
append_met_among-requires g t c κs within =
    let whole = g.I.OverlayInt.whole in
    let lb = c.split_at.ensures in
    let lp = c.split_at-2.ensures in
    let cut = Cut-from whole g.I.OverlayInt.MIN_COORD g.I.OverlayInt.MAX_COORD c.args.boxes.now c.split_at.result.0.now c.split_at.result.1.now c.in-Some.right_boxes.now c.in-Some.bounds.now c.args.points.now c.split_at-2.result.0.now c.split_at-2.result.1.now c.in-Some-split_first.right.now c.in-Some-split_first.point.now
    lb.front lb.back c.in-Some.ensures.cases.0 lp.front lp.back c.in-Some-split_first.ensures.cases.0 c.requires.holds in
    let less = cut.points_halved.front_less in
    let fits = c.requires.places in
    (omega (arith, less), (within, (c.requires.in_range, (c.requires.ordered, (cut.halves.left, omega (arith, less, fits))))))

pub append_if_met-requires-clause-point : goal.append_if_met-requires-clause-point
append_if_met-requires-clause-point g t c =
    let lb = c.split_at.ensures in
    let lp = c.split_at-2.ensures in
    (Cut-from g.I.OverlayInt.whole g.I.OverlayInt.MIN_COORD g.I.OverlayInt.MAX_COORD c.args.boxes.now c.split_at.result.0.now c.split_at.result.1.now c.in-Some.right_boxes.now c.in-Some.bounds.now c.args.points.now c.split_at-2.result.0.now c.split_at-2.result.1.now c.in-Some-split_first.right.now c.in-Some-split_first.point.now
    lb.front lb.back c.in-Some.ensures.cases.0 lp.front lp.back c.in-Some-split_first.ensures.cases.0 c.requires.holds).halves.point_in_range

pub append_met_among-requires-2 : goal.append_met_among-requires-2
append_met_among-requires-2 g t c κs within =
    let whole = g.I.OverlayInt.whole in
    let lb = c.split_at.ensures in
    let lp = c.split_at-2.ensures in
    let cut = Cut-from whole g.I.OverlayInt.MIN_COORD g.I.OverlayInt.MAX_COORD c.args.boxes.now c.split_at.result.0.now c.split_at.result.1.now c.in-Some.right_boxes.now c.in-Some.bounds.now c.args.points.now c.split_at-2.result.0.now c.split_at-2.result.1.now c.in-Some-split_first.right.now c.in-Some-split_first.point.now
    lb.front lb.back c.in-Some.ensures.cases.0 lp.front lp.back c.in-Some-split_first.ensures.cases.0 c.requires.holds in
    let less = cut.points_halved.back_less in
    let long = cut.points_halved.long in
    let fits = c.requires.places in
    (omega (arith, less), (within, (c.requires.in_range, (c.requires.ordered, (cut.halves.right, omega (arith, long, fits))))))

pub returns : goal.returns
returns g t c =
    let whole = g.I.OverlayInt.whole in
    let lb = c.split_at.ensures in
    let lp = c.split_at-2.ensures in
    let s = pair_of whole c.args.segment.now in
    let found = c.args.places.now.items in
    let cut = Cut-from whole g.I.OverlayInt.MIN_COORD g.I.OverlayInt.MAX_COORD c.args.boxes.now c.split_at.result.0.now c.split_at.result.1.now c.in-Some.right_boxes.now c.in-Some.bounds.now c.args.points.now c.split_at-2.result.0.now c.split_at-2.result.1.now c.in-Some-split_first.right.now c.in-Some-split_first.point.now
    lb.front lb.back c.in-Some.ensures.cases.0 lp.front lp.back c.in-Some-split_first.ensures.cases.0 c.requires.holds in
    on_ok_weaker c.append_met_among-2.result
    (λ h. met_in_all s c.args.first (length c.args.points.now / 2) (map (point_of whole) c.split_at-2.result.0.now) (map (point_of whole) c.in-Some-split_first.right.now) (point_of whole c.in-Some-split_first.point.now)
    found c.append_met_among.new.places.items c.append_if_met.new.places.items c.append_met_among-2.new.places.items cut.points_halved.front c.in_ok-append_met_among.ensures c.in_ok-append_if_met.ensures h
    ∙ ap (λ ps. found ++ met_places_from c.args.first s ps) (sym cut.points_halved.is))
    c.append_met_among-2.ensures
