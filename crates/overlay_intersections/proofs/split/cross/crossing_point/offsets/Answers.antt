use Rattle.std.proofs.Common.{sym, ap, ◌∙◌, to_z-of_z, FitsSigned, w64}
use Rattle.overlay_geometry.specs.Points.{Point}
use Rattle.overlay_geometry.specs.PairOf.{pair_of}
use Rattle.overlay_intersections.specs.Crossing.{offset_x, offset_y}
use Rattle.overlay_intersections.proofs.laws.crossings.Offsets.{same_quotient}
use Rattle.overlay_intersections.proofs.laws.crossings.SnappingPoints.{crossing_d_not_zero}
use Rattle.overlay_intersections.proofs.split.cross.crossing_point.offsets.Goals as goal

pub new-requires-clause-divides : goal.new-requires-clause-divides
new-requires-clause-divides g c e =
    let d_fits : FitsSigned w64 c.crossing_d-d.result = record { sfits = c.crossing_d-d.type_inv } in
    crossing_d_not_zero (pair_of g.I.OverlayInt.whole c.args.target.now) (pair_of g.I.OverlayInt.whole c.args.other.now) c.requires.crossing (sym c.crossing_d-d.ensures.value ∙ (sym (to_z-of_z d_fits) ∙ e))

pub new-requires-2-clause-divides : goal.new-requires-2-clause-divides
new-requires-2-clause-divides g c e =
    let d_fits : FitsSigned w64 c.crossing_d-d.result = record { sfits = c.crossing_d-d.type_inv } in
    crossing_d_not_zero (pair_of g.I.OverlayInt.whole c.args.target.now) (pair_of g.I.OverlayInt.whole c.args.other.now) c.requires.crossing (sym c.crossing_d-d.ensures.value ∙ (sym (to_z-of_z d_fits) ∙ e))

pub returns-clause-x : goal.returns-clause-x
unfolding offset_x
returns-clause-x g c =
    let x_fits : FitsSigned w64 c.x.result = record { sfits = c.x.type_inv } in
    let n_fits : FitsSigned w64 c.crossing_n-n.result = record { sfits = c.crossing_n-n.type_inv } in
    let d_fits : FitsSigned w64 c.crossing_d-d.result = record { sfits = c.crossing_d-d.type_inv } in
    let value = simp to_z-of_z at c.new.ensures in
    let length = c.x.ensures ∙ ap (λ (v : Point). v.x) c.between-along.ensures in
    value ∙ same_quotient _ _ _ _ _ _ length c.crossing_n-n.ensures.value c.crossing_d-d.ensures.value

pub returns-clause-y : goal.returns-clause-y
unfolding offset_y
returns-clause-y g c =
    let y_fits : FitsSigned w64 c.y.result = record { sfits = c.y.type_inv } in
    let n_fits : FitsSigned w64 c.crossing_n-n.result = record { sfits = c.crossing_n-n.type_inv } in
    let d_fits : FitsSigned w64 c.crossing_d-d.result = record { sfits = c.crossing_d-d.type_inv } in
    let value = simp to_z-of_z at c.new-2.ensures in
    let length = c.y.ensures ∙ ap (λ (v : Point). v.y) c.between-along.ensures in
    value ∙ same_quotient _ _ _ _ _ _ length c.crossing_n-n.ensures.value c.crossing_d-d.ensures.value
