use Rattle.overlay_tiles.proofs.laws.TileOverlays.{tile_part}
use Rattle.overlay_tiles.proofs.tile.laws.part_laws.Goals as goal

pub returns : goal.returns
returns c = tile_part
