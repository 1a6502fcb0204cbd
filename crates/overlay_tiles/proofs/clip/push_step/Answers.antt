use Rattle.std.proofs.Common.{ap, ◌∙◌, ◌++◌, List}
use Rattle.std.proofs.lemmas.Result.{on_ok_weaker}
use Rattle.overlay_geometry.specs.PointOf.{point_of}
use Rattle.overlay_geometry.specs.Points.{Point, Pair}
use Rattle.overlay_contours.specs.ContoursOf.{points_of}
use Rattle.overlay_tiles.specs.TileOf.{tile_of}
use Rattle.overlay_tiles.proofs.laws.Heights.{ends_in_box}
use Rattle.overlay_tiles.proofs.laws.Parts.{parted_step}
use Rattle.overlay_tiles.proofs.clip.push_step.Goals as goal

pub push_parts-requires-clause-u : goal.push_parts-requires-clause-u
push_parts-requires-clause-u g c =
    let s : Pair = record { a = point_of g.I.OverlayInt.whole c.args.from; b = point_of g.I.OverlayInt.whole c.args.to } in
    (ends_in_box s).0

pub push_parts-requires-clause-v : goal.push_parts-requires-clause-v
push_parts-requires-clause-v g c =
    let s : Pair = record { a = point_of g.I.OverlayInt.whole c.args.from; b = point_of g.I.OverlayInt.whole c.args.to } in
    (ends_in_box s).1

pub returns : goal.returns
returns g c =
    let whole = g.I.OverlayInt.whole in
    let s : Pair = record { a = point_of whole c.args.from; b = point_of whole c.args.to } in
    on_ok_weaker c.push_parts.result
    (λ h. h ∙ ap (λ (l : List Point). points_of whole c.args.out.now.items ++ l) (parted_step (tile_of whole c.args.tile.now) s))
    c.push_parts.ensures
