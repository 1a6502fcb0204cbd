use Rattle.std.proofs.Common.{◌∙◌, sym, ap, map}
use Rattle.std.specs.List.{list_all}
use Rattle.std.proofs.lemmas.Result.{on_ok_weaker}
use Rattle.overlay_geometry.specs.PointOf.{point_of}
use Rattle.overlay_geometry.specs.Coordinates.{is_point_in_range}
use Rattle.overlay_snapping.proofs.laws.cells.InOrder.{none_in_order, ok_then}
use Rattle.overlay_snapping.proofs.laws.closure.Elements.{same_mapped}
use Rattle.overlay_snapping.proofs.laws.point_trees.Columns.{all_of_same}
use Rattle.overlay_snapping.proofs.snap.point_grid.PointGrid.list.Goals as goal

pub invariant_of-self : goal.invariant_of-self
invariant_of-self g c =
    let whole = g.I.OverlayInt.whole in
    record {
      in_range = ap (λ l. list_all (is_point_in_range (whole g.I.OverlayInt.MIN_COORD) (whole g.I.OverlayInt.MAX_COORD)) (map (point_of whole) l)) c.clear.ensures.items;
      in_order = λ e. none_in_order whole c.clear.new.self.items c.clear.ensures.items;
      chained = λ e. absurd (cc e);
    }

pub invariant_of-self-else-is_err : goal.invariant_of-self-else-is_err
invariant_of-self-else-is_err g c =
    let whole = g.I.OverlayInt.whole in
    let listed = c.list_in_order-listed in
    let well = sym c.is_err.ensures.value ∙ c.if-is_err.false in
    record {
      in_range = all_of_same (is_point_in_range (whole g.I.OverlayInt.MIN_COORD) (whole g.I.OverlayInt.MAX_COORD)) (point_of whole) c.args.points.now listed.new.kept.items (ok_then listed.result _ well listed.ensures.same) c.requires.in_range;
      in_order = λ e. ok_then listed.result _ well listed.ensures.in_order;
      chained = λ e. absurd (cc e);
    }

pub returns-else-is_err : goal.returns-else-is_err
returns-else-is_err g c =
    on_ok_weaker c.list_in_order-listed.result (λ same. same_mapped (point_of g.I.OverlayInt.whole) c.list_in_order-listed.new.kept.items c.args.points.now same) c.list_in_order-listed.ensures.same
