use Rattle.std.proofs.Common.{◌≡◌, refl, sym, ap, ap₂, ◌∙◌, ◌∷◌, ◌++◌, ◌+◌, [], List, drop, arith}
use Rattle.std.proofs.lemmas.Grind.{common_steps}
use Rattle.overlay_geometry.specs.PointOf.{point_of}
use Rattle.overlay_geometry.specs.Points.{Point}
use Rattle.overlay_contours.specs.ContoursOf.{points_of}
use Rattle.overlay_tiles.specs.TileOf.{tile_of}
use Rattle.overlay_tiles.specs.Tiles.{thinned_from, thinned}
use Rattle.overlay_tiles.proofs.laws.Clips.{pushed_one, point_kept, point_left_out, last_kept, thinned_is, thinned_none, thinned_one}
use Rattle.overlay_tiles.proofs.clip.thinned.Goals as goal
use Rattle.overlay_tiles.proofs.clip.thinned.Goals.{then-not-are_beside+in_ok-push-2, else-not-are_beside}

pub returns-in_default : goal.returns-in_default
returns-in_default g c =
    let whole = g.I.OverlayInt.whole in
    let tile = tile_of whole c.args.tile.now in
    let none : c.args.contour.now ≡ [] = grind (arith, common_steps, c.in_default.ensures.cases) in
    ap (points_of whole) c.new-points.ensures.items ∙ sym (ap (λ (l : List _). thinned tile (points_of whole l)) none ∙ thinned_none tile)

pub returns-in_default-split_first : goal.returns-in_default-split_first
returns-in_default-split_first g c =
    let whole = g.I.OverlayInt.whole in
    let tile = tile_of whole c.args.tile.now in
    let first = point_of whole c.in-Some.first.now in
    let none : c.in-Some.later.now ≡ [] = grind (arith, common_steps, c.in_default-split_first.ensures.cases) in
    pushed_one (point_of whole) c.new-points.result.items c.push.new.self.items _ first c.in_ok-push.ensures.items refl
    ∙ ap (λ l. points_of whole l ++ first ∷ []) c.new-points.ensures.items
    ∙ sym (thinned_one tile first)
    ∙ sym (ap (λ (l : List _). thinned tile (points_of whole l)) (c.in-Some.ensures.cases.0 ∙ ap (λ (l : List _). c.in-Some.first.now ∷ l) none))

pub loop-next-init : goal.loop-next-init
loop-next-init g c =
    let whole = g.I.OverlayInt.whole in
    let tile = tile_of whole c.args.tile.now in
    let first = point_of whole c.in-Some.first.now in
    let later : List Point = point_of whole c.in-Some-split_first.second.now ∷ points_of whole c.in-Some-split_first.others.now in
    ap (λ (l : List Point). l ++ thinned_from tile first later)
    (pushed_one (point_of whole) c.new-points.result.items c.push.new.self.items _ first c.in_ok-push.ensures.items refl ∙ ap (λ l. points_of whole l ++ first ∷ []) c.new-points.ensures.items)
    ∙ thinned_is tile first later
    ∙ sym (ap (λ (l : List _). thinned tile (points_of whole l)) (c.in-Some.ensures.cases.0 ∙ ap (λ (l : List _). c.in-Some.first.now ∷ l) c.in-Some-split_first.ensures.cases.0))

pub loop-next-preserved : goal.loop-next-preserved
loop-next-preserved g c =
    let whole = g.I.OverlayInt.whole in
    let tile = tile_of whole c.args.tile.now in
    let others = c.in-Some-split_first.others.now in
    let index = c.loop-next.next-index in
    let found : List Point = points_of whole c.loop-next.points.items in
    let rest : List Point = point_of whole c.next-item.result ∷ points_of whole (drop (index + 1) others) in
    elim c.if-not-are_beside.branch [
      | then-not-are_beside+in_ok-push-2 w ↦
          ap₂ (λ v k. points_of whole v.items ++ thinned_from tile (point_of whole k) rest) w.points-is w.kept-is
          ∙ point_kept tile (point_of whole) others index c.next-item.result (point_of whole c.loop-next.kept) (point_of whole c.loop-next.at) found _ _ c.loop-next-test.true c.next-item.is (sym c.are_beside.ensures ∙ w.if-not-are_beside.true)
          (pushed_one (point_of whole) c.loop-next.points.items _ _ _ w.in_ok-push-2.ensures.items refl) c.loop-next.invariant
      | else-not-are_beside w ↦
          ap₂ (λ v k. points_of whole v.items ++ thinned_from tile (point_of whole k) rest) w.points-is w.kept-is
          ∙ point_left_out tile (point_of whole) others index c.next-item.result (point_of whole c.loop-next.kept) (point_of whole c.loop-next.at) found _ c.loop-next-test.true c.next-item.is (sym c.are_beside.ensures ∙ w.if-not-are_beside.false)
          c.loop-next.invariant
    ]

pub returns : goal.returns
returns g c =
    let whole = g.I.OverlayInt.whole in
    let tile = tile_of whole c.args.tile.now in
    last_kept tile (point_of whole) c.in-Some-split_first.others.now c.loop-next.next-index (point_of whole c.loop-next.kept) (point_of whole c.loop-next.at) (points_of whole c.loop-next.points.items) _ _ c.loop-next-test.false
    (pushed_one (point_of whole) c.loop-next.points.items _ _ _ c.in_ok-push-3.ensures.items refl) c.loop-next.invariant
