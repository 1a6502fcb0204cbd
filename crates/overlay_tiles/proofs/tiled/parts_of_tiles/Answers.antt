use Rattle.std.proofs.Common.{◌≡◌, sym, ap, subst, ◌∙◌, List, ◌++◌}
use Rattle.std.proofs.lemmas.List.{map-append}
use Rattle.overlay_geometry.specs.Points.{Point}
use Rattle.overlay_contours.specs.ContourSegments.{are_in_range}
use Rattle.overlay_contours.specs.ContoursOf.{points_of, contours_of}
use Rattle.overlay_contours.specs.declared.fault.ContourFault.TheVariants.{Refused}
use Rattle.overlay_contours.proofs.laws.Overlays.{refused_as}
use Rattle.overlay_tiles.specs.TileOf.{tile_of}
use Rattle.overlay_tiles.specs.TiledOverlays.{tiles_of, IsSomeRefusal}
use Rattle.overlay_tiles.specs.TileOverlays.{IsTilePart}
use Rattle.overlay_tiles.proofs.laws.Tilings.{no_part, one_part, all_parts, in_range_together, some_refusal, memory_refusal}
use Rattle.overlay_tiles.proofs.tiled.parts_of_tiles.Goals as goal

pub loop-tile-init : goal.loop-tile-init
loop-tile-init g c =
    let I = g.I.OverlayInt in
    let whole = I.whole in (
      no_part (λ tile part. IsTilePart tile c.args.overlay_rule c.args.fill_rule (contours_of whole c.args.subject.now) (contours_of whole c.args.clip.now) part) (tile_of whole) c.args.tiles.now (contours_of whole c.new-answer.result.items) (ap (λ l. contours_of whole l) c.new-answer.ensures.items),
      ap (λ l. are_in_range (whole I.MIN_COORD) (whole I.MAX_COORD) (contours_of whole l)) c.new-answer.ensures.items,
    )

pub loop-tile-preserved : goal.loop-tile-preserved
loop-tile-preserved g c =
    let I = g.I.OverlayInt in
    let whole = I.whole in
    let found : List (List Point) = contours_of whole c.loop-tile.answer.items in
    let part : List (List Point) = contours_of whole c.in_ok-part.part.items in
    let more : List (List Point) = contours_of whole c.append.new.contours.items in
    let pushed : more ≡ found ++ part = ap (λ l. contours_of whole l) c.in_ok-append.ensures.appended ∙ map-append (λ v. points_of whole v.items) c.loop-tile.answer.items c.in_ok-part.part.items in (
      one_part (λ tile part. IsTilePart tile c.args.overlay_rule c.args.fill_rule (contours_of whole c.args.subject.now) (contours_of whole c.args.clip.now) part) (tile_of whole) c.args.tiles.now c.loop-tile.tile-index c.tile-item.result found part more c.loop-tile-test.true c.tile-item.is c.in_ok-part.ensures.part pushed c.loop-tile.invariant.0,
      in_range_together (whole I.MIN_COORD) (whole I.MAX_COORD) found part more pushed c.loop-tile.invariant.1 c.in_ok-part.ensures.in_range,
    )

pub returns-in_err-part-clause-refused : goal.returns-in_err-part-clause-refused
returns-in_err-part-clause-refused g c =
    let I = g.I.OverlayInt in
    let whole = I.whole in
    let least = whole I.MIN_COORD in
    let greatest = whole I.MAX_COORD in
    let subject : List (List Point) = contours_of whole c.args.subject.now in
    let clip : List (List Point) = contours_of whole c.args.clip.now in
    refused_as c.from_residual.result (IsSomeRefusal least greatest (tiles_of whole c.args.tiles.now) subject clip) c.in_err-part.field-0.0 c.from_residual.ensures.1
    (some_refusal (tile_of whole) c.args.tiles.now c.loop-tile.tile-index c.tile-item.result c.loop-tile-test.true c.tile-item.is least greatest subject clip c.in_err-part.field-0.0 c.in_err-part.ensures.refused)

pub returns-in_err-append-clause-refused : goal.returns-in_err-append-clause-refused
returns-in_err-append-clause-refused g c =
    let I = g.I.OverlayInt in
    let whole = I.whole in
    let least = whole I.MIN_COORD in
    let greatest = whole I.MAX_COORD in
    let subject : List (List Point) = contours_of whole c.args.subject.now in
    let clip : List (List Point) = contours_of whole c.args.clip.now in
    let P = IsSomeRefusal least greatest (tiles_of whole c.args.tiles.now) subject clip in
    refused_as c.from_residual-in_err-append.result P (Refused c.in_err-append.field-0.0) c.from_residual-in_err-append.ensures.1
    (subst (λ (fault : _). P (Refused fault)) (sym c.in_err-append.ensures.refused)
    (memory_refusal (tile_of whole) c.args.tiles.now c.loop-tile.tile-index c.tile-item.result c.loop-tile-test.true c.tile-item.is least greatest subject clip c.in_ok-part.ensures.subject_in_range c.in_ok-part.ensures.clip_in_range))

pub returns : goal.returns
returns g c =
    let whole = g.I.OverlayInt.whole in
    record {
      parts = all_parts (λ tile part. IsTilePart tile c.args.overlay_rule c.args.fill_rule (contours_of whole c.args.subject.now) (contours_of whole c.args.clip.now) part) (tile_of whole) c.args.tiles.now c.loop-tile.tile-index (contours_of whole c.loop-tile.answer.items) c.loop-tile-test.false c.loop-tile.invariant.0;
      in_range = c.loop-tile.invariant.1;
      refused = tt;
    }
