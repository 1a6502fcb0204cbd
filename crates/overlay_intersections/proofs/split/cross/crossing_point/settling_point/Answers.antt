use Rattle.std.proofs.Common.{sym, subst, ap, ◌∙◌, to_z-of_z, FitsSigned, IsTrue}
use Rattle.std.specs.Int.{w128}
use Rattle.overlay_geometry.specs.Points.{Point}
use Rattle.overlay_geometry.specs.PairOf.{pair_of}
use Rattle.overlay_geometry.specs.Coordinates.{is_point_in_range}
use Rattle.overlay_geometry.proofs.laws.geometry.Coordinates.{pair_in_range}
use Rattle.overlay_intersections.specs.Crossing.{nearest_upward}
use Rattle.overlay_intersections.proofs.laws.crossings.SnappingPoints.{settling_placed, settling_in_range}
use Rattle.overlay_intersections.proofs.split.cross.crossing_point.settling_point.Goals as goal

pub moved-requires-clause-to : goal.moved-requires-clause-to
moved-requires-clause-to g c =
    let x_fits : FitsSigned w128 c.nearest_upward.result = record { sfits = c.nearest_upward.type_inv } in
    let y_fits : FitsSigned w128 c.nearest_upward-2.result = record { sfits = c.nearest_upward-2.type_inv } in
    let placed = settling_placed (pair_of g.I.OverlayInt.whole c.args.target.now) (pair_of g.I.OverlayInt.whole c.args.other.now) _ _ (c.nearest_upward.ensures ∙ ap nearest_upward c.offsets.ensures.x) (c.nearest_upward-2.ensures ∙ ap nearest_upward c.offsets.ensures.y) in
    simp to_z-of_z (subst (λ (p : Point). IsTrue (is_point_in_range (g.I.OverlayInt.whole g.I.OverlayInt.MIN_COORD) (g.I.OverlayInt.whole g.I.OverlayInt.MAX_COORD) p)) (sym placed) (settling_in_range (g.I.OverlayInt.whole g.I.OverlayInt.MIN_COORD) (g.I.OverlayInt.whole g.I.OverlayInt.MAX_COORD) (pair_of g.I.OverlayInt.whole c.args.target.now) (pair_of g.I.OverlayInt.whole c.args.other.now) (pair_in_range g.I.OverlayInt.whole g.I.OverlayInt.MIN_COORD g.I.OverlayInt.MAX_COORD c.args.target.now c.requires.target) c.requires.crossing))

pub returns-clause-point : goal.returns-clause-point
returns-clause-point g c =
    let x_fits : FitsSigned w128 c.nearest_upward.result = record { sfits = c.nearest_upward.type_inv } in
    let y_fits : FitsSigned w128 c.nearest_upward-2.result = record { sfits = c.nearest_upward-2.type_inv } in
    let placed = settling_placed (pair_of g.I.OverlayInt.whole c.args.target.now) (pair_of g.I.OverlayInt.whole c.args.other.now) _ _ (c.nearest_upward.ensures ∙ ap nearest_upward c.offsets.ensures.x) (c.nearest_upward-2.ensures ∙ ap nearest_upward c.offsets.ensures.y) in
    let value = simp to_z-of_z at c.moved.ensures in
    value ∙ placed

pub returns-clause-in_range : goal.returns-clause-in_range
returns-clause-in_range g c =
    let x_fits : FitsSigned w128 c.nearest_upward.result = record { sfits = c.nearest_upward.type_inv } in
    let y_fits : FitsSigned w128 c.nearest_upward-2.result = record { sfits = c.nearest_upward-2.type_inv } in
    let placed = settling_placed (pair_of g.I.OverlayInt.whole c.args.target.now) (pair_of g.I.OverlayInt.whole c.args.other.now) _ _ (c.nearest_upward.ensures ∙ ap nearest_upward c.offsets.ensures.x) (c.nearest_upward-2.ensures ∙ ap nearest_upward c.offsets.ensures.y) in
    let value = simp to_z-of_z at c.moved.ensures in
    subst (λ (p : Point). IsTrue (is_point_in_range (g.I.OverlayInt.whole g.I.OverlayInt.MIN_COORD) (g.I.OverlayInt.whole g.I.OverlayInt.MAX_COORD) p)) (sym (value ∙ placed)) (settling_in_range (g.I.OverlayInt.whole g.I.OverlayInt.MIN_COORD) (g.I.OverlayInt.whole g.I.OverlayInt.MAX_COORD) (pair_of g.I.OverlayInt.whole c.args.target.now) (pair_of g.I.OverlayInt.whole c.args.other.now) (pair_in_range g.I.OverlayInt.whole g.I.OverlayInt.MIN_COORD g.I.OverlayInt.MAX_COORD c.args.target.now c.requires.target) c.requires.crossing)
