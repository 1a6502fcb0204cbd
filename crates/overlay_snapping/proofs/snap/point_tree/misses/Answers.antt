use Rattle.std.proofs.Common.{sym, ◌∙◌}
use Rattle.overlay_geometry.specs.PairOf.{pair_of}
use Rattle.overlay_geometry.specs.RangeOf.{rect_of}
use Rattle.overlay_snapping.proofs.laws.point_trees.MissedBoxes.{off_is_missed}
use Rattle.std.proofs.lemmas.Bool.{OnTrue_from}
use Rattle.overlay_snapping.proofs.snap.point_tree.misses.Goals as goal

pub returns-then-is_off_box : goal.returns-then-is_off_box
returns-then-is_off_box g c =
    let whole = g.I.OverlayInt.whole in
    OnTrue_from c.is_off_box.result _ (λ is. off_is_missed (pair_of whole c.args.segment.now) (rect_of whole c.args.bounds.now) c.requires.ordered (sym c.is_off_box.ensures ∙ is))
