use Rattle.std.proofs.Common.{◌≡◌, sym, ap, ◌∙◌, ◌∷◌, ◌++◌, [], List, arith}
use Rattle.std.specs.Prelude.{flat_map}
use Rattle.std.proofs.lemmas.Grind.{common_steps}
use Rattle.std.proofs.lemmas.Result.{on_ok_weaker}
use Rattle.overlay_geometry.specs.Coordinates.{is_point_in_range}
use Rattle.overlay_geometry.specs.PointOf.{point_of}
use Rattle.overlay_geometry.specs.Points.{Point}
use Rattle.overlay_contours.specs.Contours.{steps_from}
use Rattle.overlay_contours.specs.ContoursOf.{points_of}
use Rattle.overlay_tiles.specs.TileOf.{tile_of}
use Rattle.overlay_tiles.specs.Tiles.{step_points, clipped}
use Rattle.overlay_tiles.proofs.laws.Clips.{one_step, last_step, no_contour, contour_is, passes_at, first_passes}
use Rattle.overlay_tiles.proofs.clip.clip_contour.Goals as goal

pub returns-in_default : goal.returns-in_default
returns-in_default g c =
    let whole = g.I.OverlayInt.whole in
    let tile = tile_of whole c.args.tile.now in
    let none : c.args.contour.now ≡ [] = grind (arith, common_steps, c.in_default.ensures.cases) in
    ap (points_of whole) c.clear.ensures.items ∙ sym (ap (λ (l : List _). clipped tile (points_of whole l)) none ∙ no_contour tile)

pub push_step-requires-clause-from : goal.push_step-requires-clause-from
push_step-requires-clause-from g c = c.loop-to.invariant.from_in_range

pub push_step-requires-clause-to : goal.push_step-requires-clause-to
push_step-requires-clause-to g c =
    let I = g.I.OverlayInt in
    let test = is_point_in_range (I.whole I.MIN_COORD) (I.whole I.MAX_COORD) in
    let parts = first_passes (point_of I.whole) test c.args.contour.now c.in-Some.first.now c.in-Some.later.now c.in-Some.ensures.cases.0 c.requires in
    passes_at (point_of I.whole) test c.in-Some.later.now c.loop-to.to-index c.to-item.result c.loop-to-test.true c.to-item.is parts.1

pub loop-to-init : goal.loop-to-init
loop-to-init g c =
    let I = g.I.OverlayInt in
    let whole = I.whole in
    let test = is_point_in_range (I.whole I.MIN_COORD) (I.whole I.MAX_COORD) in
    let parts = first_passes (point_of I.whole) test c.args.contour.now c.in-Some.first.now c.in-Some.later.now c.in-Some.ensures.cases.0 c.requires in
    let first = point_of whole c.in-Some.first.now in
    let all : List Point = flat_map (step_points (tile_of whole c.args.tile.now)) (steps_from first (points_of whole c.in-Some.later.now ++ first ∷ [])) in
    record {
      points = ap (λ l. points_of whole l ++ all) c.clear.ensures.items;
      from_in_range = parts.0;
    }

pub loop-to-preserved : goal.loop-to-preserved
loop-to-preserved g c =
    let I = g.I.OverlayInt in
    let whole = I.whole in
    let test = is_point_in_range (I.whole I.MIN_COORD) (I.whole I.MAX_COORD) in
    let parts = first_passes (point_of I.whole) test c.args.contour.now c.in-Some.first.now c.in-Some.later.now c.in-Some.ensures.cases.0 c.requires in
    record {
      points =
          one_step (tile_of whole c.args.tile.now) (point_of whole) c.in-Some.later.now c.loop-to.to-index c.to-item.result (point_of whole c.loop-to.from) (points_of whole c.loop-to.out.items) _ (point_of whole c.in-Some.first.now ∷ []) _
          c.loop-to-test.true c.to-item.is c.in_ok-push_step.ensures c.loop-to.invariant.points;
      from_in_range = passes_at (point_of I.whole) test c.in-Some.later.now c.loop-to.to-index c.to-item.result c.loop-to-test.true c.to-item.is parts.1;
    }

pub push_step-requires-2-clause-from : goal.push_step-requires-2-clause-from
push_step-requires-2-clause-from g c = c.loop-to.invariant.from_in_range

pub push_step-requires-2-clause-to : goal.push_step-requires-2-clause-to
push_step-requires-2-clause-to g c =
    let I = g.I.OverlayInt in
    let test = is_point_in_range (I.whole I.MIN_COORD) (I.whole I.MAX_COORD) in
    (first_passes (point_of I.whole) test c.args.contour.now c.in-Some.first.now c.in-Some.later.now c.in-Some.ensures.cases.0 c.requires).0

pub returns : goal.returns
returns g c =
    let whole = g.I.OverlayInt.whole in
    let tile = tile_of whole c.args.tile.now in
    let first = point_of whole c.in-Some.first.now in
    on_ok_weaker c.push_step-2.result
    (λ h. last_step tile (point_of whole) c.in-Some.later.now c.loop-to.to-index (point_of whole c.loop-to.from) first (points_of whole c.loop-to.out.items) _ _ c.loop-to-test.false h c.loop-to.invariant.points
    ∙ contour_is tile first (points_of whole c.in-Some.later.now)
    ∙ sym (ap (λ (l : List _). clipped tile (points_of whole l)) c.in-Some.ensures.cases.0))
    c.push_step-2.ensures
