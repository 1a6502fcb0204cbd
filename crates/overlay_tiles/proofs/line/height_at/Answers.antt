use Rattle.std.proofs.Common.{sym, subst, ◌∙◌, to_z-of_z, FitsSigned, w64, IsTrue}
use Rattle.std.specs.Prelude.{ℤ, ◌+ℤ◌, ◌-ℤ◌}
use Rattle.overlay_geometry.specs.Points.{is_between}
use Rattle.overlay_geometry.proofs.laws.geometry.Coordinates.{difference_bound, small_fits, coordinate_fits}
use Rattle.overlay_tiles.proofs.laws.Heights.{height_between, between_in_range, amid_in_range, ends_differ, height_is}
use Rattle.overlay_tiles.proofs.line.height_at.Goals as goal

pub overflow_sub-z : goal.overflow_sub-z
overflow_sub-z g c =
    let I = g.I.OverlayInt in
    let amid = amid_in_range (I.whole I.MIN_COORD) (I.whole I.MAX_COORD) _ _ _ c.requires.a c.requires.b c.requires.amid in
    let bound = difference_bound _ _ _ _ g.met.I.OverlayInt.lowest g.met.I.OverlayInt.highest c.requires.a amid in
    let z_fits : FitsSigned w64 c.to_wide-z.result = record { sfits = c.to_wide-z.type_inv } in
    let a_fits : FitsSigned w64 c.to_wide-a.result = record { sfits = c.to_wide-a.type_inv } in
    simp to_z-of_z (rw (c.to_wide-z.ensures, c.to_wide-a.ensures) (small_fits _ bound))

pub overflow_sub-b : goal.overflow_sub-b
overflow_sub-b g c =
    let bound = difference_bound _ _ _ _ g.met.I.OverlayInt.lowest g.met.I.OverlayInt.highest c.requires.a c.requires.b in
    let b_fits : FitsSigned w64 c.to_wide-b.result = record { sfits = c.to_wide-b.type_inv } in
    let a_fits : FitsSigned w64 c.to_wide-a.result = record { sfits = c.to_wide-a.type_inv } in
    simp to_z-of_z (rw (c.to_wide-b.ensures, c.to_wide-a.ensures) (small_fits _ bound))

pub rounded_part-requires : goal.rounded_part-requires
rounded_part-requires g c =
    let I = g.I.OverlayInt in
    let amid = amid_in_range (I.whole I.MIN_COORD) (I.whole I.MAX_COORD) _ _ _ c.requires.a c.requires.b c.requires.amid in
    let rise = difference_bound _ _ _ _ g.met.I.OverlayInt.lowest g.met.I.OverlayInt.highest c.requires.c c.requires.d in
    let run = difference_bound _ _ _ _ g.met.I.OverlayInt.lowest g.met.I.OverlayInt.highest c.requires.a amid in
    let length = difference_bound _ _ _ _ g.met.I.OverlayInt.lowest g.met.I.OverlayInt.highest c.requires.a c.requires.b in
    let a_fits : FitsSigned w64 c.to_wide-a.result = record { sfits = c.to_wide-a.type_inv } in
    let b_fits : FitsSigned w64 c.to_wide-b.result = record { sfits = c.to_wide-b.type_inv } in
    let c_fits : FitsSigned w64 c.to_wide-c.result = record { sfits = c.to_wide-c.type_inv } in
    let d_fits : FitsSigned w64 c.to_wide-d.result = record { sfits = c.to_wide-d.type_inv } in
    let z_fits : FitsSigned w64 c.to_wide-z.result = record { sfits = c.to_wide-z.type_inv } in
    let rise_fits : FitsSigned w64 (c.to_wide-d.result -ℤ c.to_wide-c.result) = rw (c.to_wide-d.ensures, c.to_wide-c.ensures) (small_fits _ rise) in
    let run_fits : FitsSigned w64 (c.to_wide-z.result -ℤ c.to_wide-a.result) = rw (c.to_wide-z.ensures, c.to_wide-a.ensures) (small_fits _ run) in
    let length_fits : FitsSigned w64 (c.to_wide-b.result -ℤ c.to_wide-a.result) = rw (c.to_wide-b.ensures, c.to_wide-a.ensures) (small_fits _ length) in
    record {
      way = simp to_z-of_z (rw (c.to_wide-d.ensures, c.to_wide-c.ensures) rise);
      part = simp to_z-of_z (rw (c.to_wide-z.ensures, c.to_wide-a.ensures) run);
      whole = simp to_z-of_z (rw (c.to_wide-b.ensures, c.to_wide-a.ensures) length);
      divides = simp to_z-of_z (rw (c.to_wide-b.ensures, c.to_wide-a.ensures) (ends_differ (I.whole c.args.a) (I.whole c.args.b) (I.whole c.args.z) c.requires.amid));
    }

pub overflow_add-c : goal.overflow_add-c
overflow_add-c g c =
    let I = g.I.OverlayInt in
    let amid = amid_in_range (I.whole I.MIN_COORD) (I.whole I.MAX_COORD) _ _ _ c.requires.a c.requires.b c.requires.amid in
    let rise = difference_bound _ _ _ _ g.met.I.OverlayInt.lowest g.met.I.OverlayInt.highest c.requires.c c.requires.d in
    let run = difference_bound _ _ _ _ g.met.I.OverlayInt.lowest g.met.I.OverlayInt.highest c.requires.a amid in
    let length = difference_bound _ _ _ _ g.met.I.OverlayInt.lowest g.met.I.OverlayInt.highest c.requires.a c.requires.b in
    let a_fits : FitsSigned w64 c.to_wide-a.result = record { sfits = c.to_wide-a.type_inv } in
    let b_fits : FitsSigned w64 c.to_wide-b.result = record { sfits = c.to_wide-b.type_inv } in
    let c_fits : FitsSigned w64 c.to_wide-c.result = record { sfits = c.to_wide-c.type_inv } in
    let d_fits : FitsSigned w64 c.to_wide-d.result = record { sfits = c.to_wide-d.type_inv } in
    let z_fits : FitsSigned w64 c.to_wide-z.result = record { sfits = c.to_wide-z.type_inv } in
    let rise_fits : FitsSigned w64 (c.to_wide-d.result -ℤ c.to_wide-c.result) = rw (c.to_wide-d.ensures, c.to_wide-c.ensures) (small_fits _ rise) in
    let run_fits : FitsSigned w64 (c.to_wide-z.result -ℤ c.to_wide-a.result) = rw (c.to_wide-z.ensures, c.to_wide-a.ensures) (small_fits _ run) in
    let length_fits : FitsSigned w64 (c.to_wide-b.result -ℤ c.to_wide-a.result) = rw (c.to_wide-b.ensures, c.to_wide-a.ensures) (small_fits _ length) in
    let rise_is = simp to_z-of_z at c.rounded_part.ensures in
    let part_fits : FitsSigned w64 c.rounded_part.result = record { sfits = c.rounded_part.type_inv } in
    let sum = height_is (I.whole c.args.a) (I.whole c.args.b) (I.whole c.args.c) (I.whole c.args.d) (I.whole c.args.z) _ _ _ _ _ _ c.to_wide-a.ensures c.to_wide-b.ensures c.to_wide-c.ensures c.to_wide-d.ensures c.to_wide-z.ensures rise_is in
    let between = height_between (I.whole c.args.a) (I.whole c.args.b) (I.whole c.args.c) (I.whole c.args.d) (I.whole c.args.z) c.requires.amid in
    let ranged = between_in_range (I.whole I.MIN_COORD) (I.whole I.MAX_COORD) _ _ _ c.requires.c c.requires.d between in
    let fits = coordinate_fits _ _ _ g.met.I.OverlayInt.lowest g.met.I.OverlayInt.highest ranged in
    simp to_z-of_z (rw sum fits)

pub from_wide-requires : goal.from_wide-requires
from_wide-requires g c =
    let I = g.I.OverlayInt in
    let amid = amid_in_range (I.whole I.MIN_COORD) (I.whole I.MAX_COORD) _ _ _ c.requires.a c.requires.b c.requires.amid in
    let rise = difference_bound _ _ _ _ g.met.I.OverlayInt.lowest g.met.I.OverlayInt.highest c.requires.c c.requires.d in
    let run = difference_bound _ _ _ _ g.met.I.OverlayInt.lowest g.met.I.OverlayInt.highest c.requires.a amid in
    let length = difference_bound _ _ _ _ g.met.I.OverlayInt.lowest g.met.I.OverlayInt.highest c.requires.a c.requires.b in
    let a_fits : FitsSigned w64 c.to_wide-a.result = record { sfits = c.to_wide-a.type_inv } in
    let b_fits : FitsSigned w64 c.to_wide-b.result = record { sfits = c.to_wide-b.type_inv } in
    let c_fits : FitsSigned w64 c.to_wide-c.result = record { sfits = c.to_wide-c.type_inv } in
    let d_fits : FitsSigned w64 c.to_wide-d.result = record { sfits = c.to_wide-d.type_inv } in
    let z_fits : FitsSigned w64 c.to_wide-z.result = record { sfits = c.to_wide-z.type_inv } in
    let rise_fits : FitsSigned w64 (c.to_wide-d.result -ℤ c.to_wide-c.result) = rw (c.to_wide-d.ensures, c.to_wide-c.ensures) (small_fits _ rise) in
    let run_fits : FitsSigned w64 (c.to_wide-z.result -ℤ c.to_wide-a.result) = rw (c.to_wide-z.ensures, c.to_wide-a.ensures) (small_fits _ run) in
    let length_fits : FitsSigned w64 (c.to_wide-b.result -ℤ c.to_wide-a.result) = rw (c.to_wide-b.ensures, c.to_wide-a.ensures) (small_fits _ length) in
    let rise_is = simp to_z-of_z at c.rounded_part.ensures in
    let part_fits : FitsSigned w64 c.rounded_part.result = record { sfits = c.rounded_part.type_inv } in
    let sum = height_is (I.whole c.args.a) (I.whole c.args.b) (I.whole c.args.c) (I.whole c.args.d) (I.whole c.args.z) _ _ _ _ _ _ c.to_wide-a.ensures c.to_wide-b.ensures c.to_wide-c.ensures c.to_wide-d.ensures c.to_wide-z.ensures rise_is in
    let between = height_between (I.whole c.args.a) (I.whole c.args.b) (I.whole c.args.c) (I.whole c.args.d) (I.whole c.args.z) c.requires.amid in
    let ranged = between_in_range (I.whole I.MIN_COORD) (I.whole I.MAX_COORD) _ _ _ c.requires.c c.requires.d between in
    let fits = coordinate_fits _ _ _ g.met.I.OverlayInt.lowest g.met.I.OverlayInt.highest ranged in
    let sum_fits : FitsSigned w64 (c.to_wide-c.result +ℤ c.rounded_part.result) = rw sum fits in
    simp to_z-of_z (rw sum ranged)

pub returns : goal.returns
returns g c =
    let I = g.I.OverlayInt in
    let amid = amid_in_range (I.whole I.MIN_COORD) (I.whole I.MAX_COORD) _ _ _ c.requires.a c.requires.b c.requires.amid in
    let rise = difference_bound _ _ _ _ g.met.I.OverlayInt.lowest g.met.I.OverlayInt.highest c.requires.c c.requires.d in
    let run = difference_bound _ _ _ _ g.met.I.OverlayInt.lowest g.met.I.OverlayInt.highest c.requires.a amid in
    let length = difference_bound _ _ _ _ g.met.I.OverlayInt.lowest g.met.I.OverlayInt.highest c.requires.a c.requires.b in
    let a_fits : FitsSigned w64 c.to_wide-a.result = record { sfits = c.to_wide-a.type_inv } in
    let b_fits : FitsSigned w64 c.to_wide-b.result = record { sfits = c.to_wide-b.type_inv } in
    let c_fits : FitsSigned w64 c.to_wide-c.result = record { sfits = c.to_wide-c.type_inv } in
    let d_fits : FitsSigned w64 c.to_wide-d.result = record { sfits = c.to_wide-d.type_inv } in
    let z_fits : FitsSigned w64 c.to_wide-z.result = record { sfits = c.to_wide-z.type_inv } in
    let rise_fits : FitsSigned w64 (c.to_wide-d.result -ℤ c.to_wide-c.result) = rw (c.to_wide-d.ensures, c.to_wide-c.ensures) (small_fits _ rise) in
    let run_fits : FitsSigned w64 (c.to_wide-z.result -ℤ c.to_wide-a.result) = rw (c.to_wide-z.ensures, c.to_wide-a.ensures) (small_fits _ run) in
    let length_fits : FitsSigned w64 (c.to_wide-b.result -ℤ c.to_wide-a.result) = rw (c.to_wide-b.ensures, c.to_wide-a.ensures) (small_fits _ length) in
    let rise_is = simp to_z-of_z at c.rounded_part.ensures in
    let part_fits : FitsSigned w64 c.rounded_part.result = record { sfits = c.rounded_part.type_inv } in
    let sum = height_is (I.whole c.args.a) (I.whole c.args.b) (I.whole c.args.c) (I.whole c.args.d) (I.whole c.args.z) _ _ _ _ _ _ c.to_wide-a.ensures c.to_wide-b.ensures c.to_wide-c.ensures c.to_wide-d.ensures c.to_wide-z.ensures rise_is in
    let between = height_between (I.whole c.args.a) (I.whole c.args.b) (I.whole c.args.c) (I.whole c.args.d) (I.whole c.args.z) c.requires.amid in
    let ranged = between_in_range (I.whole I.MIN_COORD) (I.whole I.MAX_COORD) _ _ _ c.requires.c c.requires.d between in
    let fits = coordinate_fits _ _ _ g.met.I.OverlayInt.lowest g.met.I.OverlayInt.highest ranged in
    let sum_fits : FitsSigned w64 (c.to_wide-c.result +ℤ c.rounded_part.result) = rw sum fits in
    let value = simp to_z-of_z at c.from_wide.ensures in
    record {
      height = value ∙ sum;
      between = subst (λ (z : ℤ). IsTrue (is_between (I.whole c.args.c) (I.whole c.args.d) z)) (sym (value ∙ sum)) between;
    }
