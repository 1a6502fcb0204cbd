use Rattle.std.proofs.Common.{sym, subst, ap, ◌∙◌, to_z-of_z, FitsSigned, IsTrue}
use Rattle.std.specs.Int.{w128}
use Rattle.overlay_geometry.specs.Points.{Point}
use Rattle.overlay_geometry.specs.PairOf.{pair_of}
use Rattle.overlay_geometry.specs.Coordinates.{is_point_in_range}
use Rattle.overlay_geometry.proofs.laws.geometry.Coordinates.{pair_in_range}
use Rattle.overlay_intersections.specs.Crossing.{truncated, nearest}
use Rattle.overlay_intersections.proofs.laws.crossings.SnappingPoints.{placed_along_axis, placed_on_slope, snapping_in_range}
use Rattle.overlay_intersections.proofs.split.cross.crossing_point.snapping_point.Goals as goal

pub moved-requires-clause-to : goal.moved-requires-clause-to
moved-requires-clause-to g c =
    let x_fits : FitsSigned w128 c.truncated.result = record { sfits = c.truncated.type_inv } in
    let y_fits : FitsSigned w128 c.truncated-then-is_along_axis.result = record { sfits = c.truncated-then-is_along_axis.type_inv } in
    let test = sym c.is_along_axis.ensures ∙ c.if-is_along_axis.true in
    let placed = placed_along_axis (pair_of g.I.OverlayInt.whole c.args.target.now) (pair_of g.I.OverlayInt.whole c.args.other.now) _ _ test (c.truncated.ensures ∙ ap truncated c.offsets.ensures.x) (c.truncated-then-is_along_axis.ensures ∙ ap truncated c.offsets.ensures.y) in
    simp to_z-of_z (subst (λ (p : Point). IsTrue (is_point_in_range (g.I.OverlayInt.whole g.I.OverlayInt.MIN_COORD) (g.I.OverlayInt.whole g.I.OverlayInt.MAX_COORD) p)) (sym placed) (snapping_in_range (g.I.OverlayInt.whole g.I.OverlayInt.MIN_COORD) (g.I.OverlayInt.whole g.I.OverlayInt.MAX_COORD) (pair_of g.I.OverlayInt.whole c.args.target.now) (pair_of g.I.OverlayInt.whole c.args.other.now) (pair_in_range g.I.OverlayInt.whole g.I.OverlayInt.MIN_COORD g.I.OverlayInt.MAX_COORD c.args.target.now c.requires.target) c.requires.crossing))

pub returns-then-is_along_axis-clause-point : goal.returns-then-is_along_axis-clause-point
returns-then-is_along_axis-clause-point g c =
    let x_fits : FitsSigned w128 c.truncated.result = record { sfits = c.truncated.type_inv } in
    let y_fits : FitsSigned w128 c.truncated-then-is_along_axis.result = record { sfits = c.truncated-then-is_along_axis.type_inv } in
    let test = sym c.is_along_axis.ensures ∙ c.if-is_along_axis.true in
    let placed = placed_along_axis (pair_of g.I.OverlayInt.whole c.args.target.now) (pair_of g.I.OverlayInt.whole c.args.other.now) _ _ test (c.truncated.ensures ∙ ap truncated c.offsets.ensures.x) (c.truncated-then-is_along_axis.ensures ∙ ap truncated c.offsets.ensures.y) in
    let value = simp to_z-of_z at c.moved.ensures in
    value ∙ placed

pub returns-then-is_along_axis-clause-in_range : goal.returns-then-is_along_axis-clause-in_range
returns-then-is_along_axis-clause-in_range g c =
    let x_fits : FitsSigned w128 c.truncated.result = record { sfits = c.truncated.type_inv } in
    let y_fits : FitsSigned w128 c.truncated-then-is_along_axis.result = record { sfits = c.truncated-then-is_along_axis.type_inv } in
    let test = sym c.is_along_axis.ensures ∙ c.if-is_along_axis.true in
    let placed = placed_along_axis (pair_of g.I.OverlayInt.whole c.args.target.now) (pair_of g.I.OverlayInt.whole c.args.other.now) _ _ test (c.truncated.ensures ∙ ap truncated c.offsets.ensures.x) (c.truncated-then-is_along_axis.ensures ∙ ap truncated c.offsets.ensures.y) in
    let value = simp to_z-of_z at c.moved.ensures in
    subst (λ (p : Point). IsTrue (is_point_in_range (g.I.OverlayInt.whole g.I.OverlayInt.MIN_COORD) (g.I.OverlayInt.whole g.I.OverlayInt.MAX_COORD) p)) (sym (value ∙ placed)) (snapping_in_range (g.I.OverlayInt.whole g.I.OverlayInt.MIN_COORD) (g.I.OverlayInt.whole g.I.OverlayInt.MAX_COORD) (pair_of g.I.OverlayInt.whole c.args.target.now) (pair_of g.I.OverlayInt.whole c.args.other.now) (pair_in_range g.I.OverlayInt.whole g.I.OverlayInt.MIN_COORD g.I.OverlayInt.MAX_COORD c.args.target.now c.requires.target) c.requires.crossing)

pub moved-requires-else-is_along_axis-clause-to : goal.moved-requires-else-is_along_axis-clause-to
moved-requires-else-is_along_axis-clause-to g c =
    let x_fits : FitsSigned w128 c.nearest.result = record { sfits = c.nearest.type_inv } in
    let y_fits : FitsSigned w128 c.nearest-else-is_along_axis.result = record { sfits = c.nearest-else-is_along_axis.type_inv } in
    let test = sym c.is_along_axis.ensures ∙ c.if-is_along_axis.false in
    let placed = placed_on_slope (pair_of g.I.OverlayInt.whole c.args.target.now) (pair_of g.I.OverlayInt.whole c.args.other.now) _ _ test (c.nearest.ensures ∙ ap nearest c.offsets.ensures.x) (c.nearest-else-is_along_axis.ensures ∙ ap nearest c.offsets.ensures.y) in
    simp to_z-of_z (subst (λ (p : Point). IsTrue (is_point_in_range (g.I.OverlayInt.whole g.I.OverlayInt.MIN_COORD) (g.I.OverlayInt.whole g.I.OverlayInt.MAX_COORD) p)) (sym placed) (snapping_in_range (g.I.OverlayInt.whole g.I.OverlayInt.MIN_COORD) (g.I.OverlayInt.whole g.I.OverlayInt.MAX_COORD) (pair_of g.I.OverlayInt.whole c.args.target.now) (pair_of g.I.OverlayInt.whole c.args.other.now) (pair_in_range g.I.OverlayInt.whole g.I.OverlayInt.MIN_COORD g.I.OverlayInt.MAX_COORD c.args.target.now c.requires.target) c.requires.crossing))

pub returns-else-is_along_axis-clause-point : goal.returns-else-is_along_axis-clause-point
returns-else-is_along_axis-clause-point g c =
    let x_fits : FitsSigned w128 c.nearest.result = record { sfits = c.nearest.type_inv } in
    let y_fits : FitsSigned w128 c.nearest-else-is_along_axis.result = record { sfits = c.nearest-else-is_along_axis.type_inv } in
    let test = sym c.is_along_axis.ensures ∙ c.if-is_along_axis.false in
    let placed = placed_on_slope (pair_of g.I.OverlayInt.whole c.args.target.now) (pair_of g.I.OverlayInt.whole c.args.other.now) _ _ test (c.nearest.ensures ∙ ap nearest c.offsets.ensures.x) (c.nearest-else-is_along_axis.ensures ∙ ap nearest c.offsets.ensures.y) in
    let value = simp to_z-of_z at c.moved-else-is_along_axis.ensures in
    value ∙ placed

pub returns-else-is_along_axis-clause-in_range : goal.returns-else-is_along_axis-clause-in_range
returns-else-is_along_axis-clause-in_range g c =
    let x_fits : FitsSigned w128 c.nearest.result = record { sfits = c.nearest.type_inv } in
    let y_fits : FitsSigned w128 c.nearest-else-is_along_axis.result = record { sfits = c.nearest-else-is_along_axis.type_inv } in
    let test = sym c.is_along_axis.ensures ∙ c.if-is_along_axis.false in
    let placed = placed_on_slope (pair_of g.I.OverlayInt.whole c.args.target.now) (pair_of g.I.OverlayInt.whole c.args.other.now) _ _ test (c.nearest.ensures ∙ ap nearest c.offsets.ensures.x) (c.nearest-else-is_along_axis.ensures ∙ ap nearest c.offsets.ensures.y) in
    let value = simp to_z-of_z at c.moved-else-is_along_axis.ensures in
    subst (λ (p : Point). IsTrue (is_point_in_range (g.I.OverlayInt.whole g.I.OverlayInt.MIN_COORD) (g.I.OverlayInt.whole g.I.OverlayInt.MAX_COORD) p)) (sym (value ∙ placed)) (snapping_in_range (g.I.OverlayInt.whole g.I.OverlayInt.MIN_COORD) (g.I.OverlayInt.whole g.I.OverlayInt.MAX_COORD) (pair_of g.I.OverlayInt.whole c.args.target.now) (pair_of g.I.OverlayInt.whole c.args.other.now) (pair_in_range g.I.OverlayInt.whole g.I.OverlayInt.MIN_COORD g.I.OverlayInt.MAX_COORD c.args.target.now c.requires.target) c.requires.crossing)
