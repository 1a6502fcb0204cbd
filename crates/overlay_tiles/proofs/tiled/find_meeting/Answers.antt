use Rattle.std.proofs.Common.{sym, ◌∙◌}
use Rattle.overlay_tiles.specs.TileOf.{tile_of}
use Rattle.overlay_tiles.specs.Tiles.{AreApart}
use Rattle.overlay_tiles.proofs.laws.Tilings.{apart_by_test, not_apart_by_test, apart_from_one_more, apart_from_all, meets_at}
use Rattle.overlay_tiles.proofs.tiled.find_meeting.Goals as goal

pub loop-index-init : goal.loop-index-init
loop-index-init g c = λ h. h

pub loop-index-preserved : goal.loop-index-preserved
loop-index-preserved g c =
    let whole = g.I.OverlayInt.whole in
    let tile = tile_of whole c.args.tile.now in
    apart_from_one_more (tile_of whole) c.args.others.now (AreApart tile) c.loop-index.index c.index-others-index.result c.loop-index-test.true c.index-others-index.is
    (apart_by_test tile (tile_of whole c.index-others-index.result) (sym c.are_apart.ensures ∙ c.if-not-are_apart.false))
    c.loop-index.invariant

pub returns-then-not-are_apart-clause-some : goal.returns-then-not-are_apart-clause-some
returns-then-not-are_apart-clause-some g c =
    let whole = g.I.OverlayInt.whole in
    let tile = tile_of whole c.args.tile.now in
    meets_at (tile_of whole) c.args.others.now tile c.loop-index.index c.index-others-index.result c.loop-index-test.true c.index-others-index.is
    (not_apart_by_test tile (tile_of whole c.index-others-index.result) (sym c.are_apart.ensures ∙ c.if-not-are_apart.true))

pub returns : goal.returns
returns g c =
    let whole = g.I.OverlayInt.whole in
    record { some = tt; none = apart_from_all (tile_of whole) c.args.others.now (AreApart (tile_of whole c.args.tile.now)) c.loop-index.index c.loop-index-test.false c.loop-index.invariant }
