use Rattle.overlay_tiles.specs.TileOf.{tile_of}
use Rattle.overlay_tiles.proofs.laws.Tilings.{pairs_of_one_more, pairs_of_all, two_meet}
use Rattle.overlay_tiles.proofs.tiled.find_meeting_tiles.Goals as goal

pub loop-index-init : goal.loop-index-init
loop-index-init g c = λ h. h

pub loop-index-preserved : goal.loop-index-preserved
loop-index-preserved g c =
    let whole = g.I.OverlayInt.whole in
    pairs_of_one_more (tile_of whole) c.args.tiles.now c.loop-index.index c.index-tiles-index.result c.loop-index-test.true c.index-tiles-index.is c.in_default.ensures.none c.loop-index.invariant

pub returns-in-Some-clause-some : goal.returns-in-Some-clause-some
returns-in-Some-clause-some g c =
    let whole = g.I.OverlayInt.whole in
    two_meet (tile_of whole) c.args.tiles.now c.loop-index.index c.index-tiles-index.result c.in-Some.other c.loop-index-test.true c.index-tiles-index.is c.in-Some.ensures.some

pub returns : goal.returns
returns g c =
    let whole = g.I.OverlayInt.whole in
    record { some = tt; none = pairs_of_all (tile_of whole) c.args.tiles.now c.loop-index.index c.loop-index-test.false c.loop-index.invariant }
