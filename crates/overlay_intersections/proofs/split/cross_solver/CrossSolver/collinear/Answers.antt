use Rattle.std.proofs.Common.{sym, ◌∙◌, to_z-of_z, FitsSigned, w64}
use Rattle.overlay_geometry.specs.PairOf.{pair_of}
use Rattle.overlay_intersections.proofs.laws.crossings.CollinearEnds.{inside_by_four, mask_of_bits}
use Rattle.overlay_intersections.proofs.split.cross_solver.CrossSolver.collinear.Goals as goal

pub returns-clause-target_a : goal.returns-clause-target_a
returns-clause-target_a g c =
    let a_past_a_fits : FitsSigned w64 c.past-a_past_a.result = record { sfits = c.past-a_past_a.type_inv } in
    let a_past_b_fits : FitsSigned w64 c.past-a_past_b.result = record { sfits = c.past-a_past_b.type_inv } in
    let b_past_a_fits : FitsSigned w64 c.past-b_past_a.result = record { sfits = c.past-b_past_a.type_inv } in
    let b_past_b_fits : FitsSigned w64 c.past-b_past_b.result = record { sfits = c.past-b_past_b.type_inv } in
    let inside = inside_by_four (pair_of g.I.OverlayInt.whole c.args.target.now) (pair_of g.I.OverlayInt.whole c.args.other.now) c.past-a_past_a.result c.past-a_past_b.result c.past-b_past_a.result c.past-b_past_b.result c.requires.target_apart c.requires.other_apart c.requires.line c.past-a_past_a.ensures c.past-a_past_b.ensures c.past-b_past_a.ensures c.past-b_past_b.ensures in
    let test = simp to_z-of_z at c.have_opposite_signs.ensures in
    test ∙ sym inside.target_a

pub returns-clause-target_b : goal.returns-clause-target_b
returns-clause-target_b g c =
    let a_past_a_fits : FitsSigned w64 c.past-a_past_a.result = record { sfits = c.past-a_past_a.type_inv } in
    let a_past_b_fits : FitsSigned w64 c.past-a_past_b.result = record { sfits = c.past-a_past_b.type_inv } in
    let b_past_a_fits : FitsSigned w64 c.past-b_past_a.result = record { sfits = c.past-b_past_a.type_inv } in
    let b_past_b_fits : FitsSigned w64 c.past-b_past_b.result = record { sfits = c.past-b_past_b.type_inv } in
    let inside = inside_by_four (pair_of g.I.OverlayInt.whole c.args.target.now) (pair_of g.I.OverlayInt.whole c.args.other.now) c.past-a_past_a.result c.past-a_past_b.result c.past-b_past_a.result c.past-b_past_b.result c.requires.target_apart c.requires.other_apart c.requires.line c.past-a_past_a.ensures c.past-a_past_b.ensures c.past-b_past_a.ensures c.past-b_past_b.ensures in
    let test = simp to_z-of_z at c.have_opposite_signs-2.ensures in
    test ∙ sym inside.target_b

pub returns-clause-other_a : goal.returns-clause-other_a
returns-clause-other_a g c =
    let a_past_a_fits : FitsSigned w64 c.past-a_past_a.result = record { sfits = c.past-a_past_a.type_inv } in
    let a_past_b_fits : FitsSigned w64 c.past-a_past_b.result = record { sfits = c.past-a_past_b.type_inv } in
    let b_past_a_fits : FitsSigned w64 c.past-b_past_a.result = record { sfits = c.past-b_past_a.type_inv } in
    let b_past_b_fits : FitsSigned w64 c.past-b_past_b.result = record { sfits = c.past-b_past_b.type_inv } in
    let inside = inside_by_four (pair_of g.I.OverlayInt.whole c.args.target.now) (pair_of g.I.OverlayInt.whole c.args.other.now) c.past-a_past_a.result c.past-a_past_b.result c.past-b_past_a.result c.past-b_past_b.result c.requires.target_apart c.requires.other_apart c.requires.line c.past-a_past_a.ensures c.past-a_past_b.ensures c.past-b_past_a.ensures c.past-b_past_b.ensures in
    let test = simp to_z-of_z at c.have_opposite_signs-3.ensures in
    test ∙ sym inside.other_a

pub returns-clause-other_b : goal.returns-clause-other_b
returns-clause-other_b g c =
    let a_past_a_fits : FitsSigned w64 c.past-a_past_a.result = record { sfits = c.past-a_past_a.type_inv } in
    let a_past_b_fits : FitsSigned w64 c.past-a_past_b.result = record { sfits = c.past-a_past_b.type_inv } in
    let b_past_a_fits : FitsSigned w64 c.past-b_past_a.result = record { sfits = c.past-b_past_a.type_inv } in
    let b_past_b_fits : FitsSigned w64 c.past-b_past_b.result = record { sfits = c.past-b_past_b.type_inv } in
    let inside = inside_by_four (pair_of g.I.OverlayInt.whole c.args.target.now) (pair_of g.I.OverlayInt.whole c.args.other.now) c.past-a_past_a.result c.past-a_past_b.result c.past-b_past_a.result c.past-b_past_b.result c.requires.target_apart c.requires.other_apart c.requires.line c.past-a_past_a.ensures c.past-a_past_b.ensures c.past-b_past_a.ensures c.past-b_past_b.ensures in
    let test = simp to_z-of_z at c.have_opposite_signs-4.ensures in
    test ∙ sym inside.other_b

pub returns-clause-number : goal.returns-clause-number
returns-clause-number g c =
    let a_past_a_fits : FitsSigned w64 c.past-a_past_a.result = record { sfits = c.past-a_past_a.type_inv } in
    let a_past_b_fits : FitsSigned w64 c.past-a_past_b.result = record { sfits = c.past-a_past_b.type_inv } in
    let b_past_a_fits : FitsSigned w64 c.past-b_past_a.result = record { sfits = c.past-b_past_a.type_inv } in
    let b_past_b_fits : FitsSigned w64 c.past-b_past_b.result = record { sfits = c.past-b_past_b.type_inv } in
    let inside = inside_by_four (pair_of g.I.OverlayInt.whole c.args.target.now) (pair_of g.I.OverlayInt.whole c.args.other.now) c.past-a_past_a.result c.past-a_past_b.result c.past-b_past_a.result c.past-b_past_b.result c.requires.target_apart c.requires.other_apart c.requires.line c.past-a_past_a.ensures c.past-a_past_b.ensures c.past-b_past_a.ensures c.past-b_past_b.ensures in
    let target_a = simp to_z-of_z at c.have_opposite_signs.ensures in
    let target_b = simp to_z-of_z at c.have_opposite_signs-2.ensures in
    let other_a = simp to_z-of_z at c.have_opposite_signs-3.ensures in
    let other_b = simp to_z-of_z at c.have_opposite_signs-4.ensures in
    mask_of_bits (pair_of g.I.OverlayInt.whole c.args.target.now) (pair_of g.I.OverlayInt.whole c.args.other.now) _ _ _ _ (target_a ∙ sym inside.target_a) (target_b ∙ sym inside.target_b) (other_a ∙ sym inside.other_a) (other_b ∙ sym inside.other_b)
