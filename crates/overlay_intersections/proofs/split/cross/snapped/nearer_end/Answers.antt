use Rattle.std.proofs.Common.{refl, to_z-of_z, FitsSigned, w64}
use Rattle.overlay_intersections.specs.Marks.{nearer_end}
use Rattle.overlay_intersections.proofs.split.cross.snapped.nearer_end.Goals as goal

pub returns-then-a-b : goal.returns-then-a-b
unfolding nearer_end
returns-then-a-b g c =
    let a_fits : FitsSigned w64 c.sqr_distance-a.result = record { sfits = c.sqr_distance-a.type_inv } in
    let b_fits : FitsSigned w64 c.sqr_distance-b.result = record { sfits = c.sqr_distance-b.type_inv } in
    let test = simp to_z-of_z at c.if-a-b.true in
    let less = rw (c.sqr_distance-a.ensures, c.sqr_distance-b.ensures) at test in
    simp to_z-of_z (record { point_is = rw less refl; distance_is = rw less c.sqr_distance-a.ensures })

pub returns-else-a-b : goal.returns-else-a-b
unfolding nearer_end
returns-else-a-b g c =
    let a_fits : FitsSigned w64 c.sqr_distance-a.result = record { sfits = c.sqr_distance-a.type_inv } in
    let b_fits : FitsSigned w64 c.sqr_distance-b.result = record { sfits = c.sqr_distance-b.type_inv } in
    let test = simp to_z-of_z at c.if-a-b.false in
    let less = rw (c.sqr_distance-a.ensures, c.sqr_distance-b.ensures) at test in
    simp to_z-of_z (record { point_is = rw less refl; distance_is = rw less c.sqr_distance-b.ensures })
