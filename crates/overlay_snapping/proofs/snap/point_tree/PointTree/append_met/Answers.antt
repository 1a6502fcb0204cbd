use Rattle.std.proofs.Common.{ap, ◌∙◌, ◌++◌, map}
use Rattle.std.proofs.lemmas.Result.{on_ok_weaker}
use Rattle.overlay_geometry.specs.PointOf.{point_of}
use Rattle.overlay_geometry.specs.PairOf.{pair_of}
use Rattle.overlay_snapping.specs.steps.PointTrees.{met_places_from}
use Rattle.overlay_snapping.proofs.laws.point_trees.MetPlaces.{met-from_first}
use Rattle.overlay_snapping.proofs.snap.point_tree.PointTree.append_met.Goals as goal

pub returns-then-abs_diff-lt-MAX_SCANNED_COLUMNS : goal.returns-then-abs_diff-lt-MAX_SCANNED_COLUMNS
returns-then-abs_diff-lt-MAX_SCANNED_COLUMNS g c =
    let whole = g.I.OverlayInt.whole in
    let s = pair_of whole c.args.segment.now in
    let found = c.args.places.now.items in
    on_ok_weaker c.append_met_in_columns.result
    (λ h. h ∙ ap (λ ps. found ++ met_places_from 0 s (map (point_of whole) ps)) c.deref.ensures.value
    ∙ ap (λ l. found ++ l) (met-from_first s (map (point_of whole) c.args.self.now.points.items)))
    c.append_met_in_columns.ensures

pub returns : goal.returns
returns g c =
    let whole = g.I.OverlayInt.whole in
    let s = pair_of whole c.args.segment.now in
    let found = c.args.places.now.items in
    on_ok_weaker c.append_met_among.result
    (λ h. h ∙ ap (λ ps. found ++ met_places_from 0 s (map (point_of whole) ps)) c.deref-2.ensures.value
    ∙ ap (λ l. found ++ l) (met-from_first s (map (point_of whole) c.args.self.now.points.items)))
    c.append_met_among.ensures
