use Rattle.std.proofs.Common.{refl, rules, FitsSigned, w64}
use Rattle.overlay_intersections.proofs.laws.crossings.Bits.{zero_test}
use Rattle.overlay_intersections.proofs.split.cross.contact.EndSides.zeros.Goals as goal

pub returns : goal.returns
returns c =
    let f1 : FitsSigned w64 c.args.self.other_a = search rules in
    let f2 : FitsSigned w64 c.args.self.other_b = search rules in
    let f3 : FitsSigned w64 c.args.self.target_a = search rules in
    let f4 : FitsSigned w64 c.args.self.target_b = search rules in
    rw (c.from.ensures, c.from-2.ensures, c.from-3.ensures, c.from-4.ensures, zero_test _ f1, zero_test _ f2, zero_test _ f3, zero_test _ f4) refl
