use Rattle.overlay_contours.specs.ContoursOf.{contours_of}
use Rattle.overlay_tiles.specs.TiledOverlays.{tiles_of}
use Rattle.overlay_tiles.proofs.laws.Tilings.{tiled_overlay}
use Rattle.overlay_tiles.proofs.tiled.overlay_by_tiles.Goals as goal

pub returns : goal.returns
returns g c =
    let whole = g.I.OverlayInt.whole in
    record {
      overlay =
          tiled_overlay c.args.overlay_rule c.args.fill_rule (contours_of whole c.args.subject.now) (contours_of whole c.args.clip.now) (tiles_of whole c.args.tiles.now) (contours_of whole c.in_ok-parts_of_tiles.field-0.items)
          c.in_default.ensures.none c.in_ok-parts_of_tiles.ensures.parts;
      apart = c.in_default.ensures.none;
      in_range = c.in_ok-parts_of_tiles.ensures.in_range;
      refused = tt;
    }
