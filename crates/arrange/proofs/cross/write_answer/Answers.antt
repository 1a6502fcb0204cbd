use Rattle.std.proofs.Common.{rules, sym, ◌∙◌, ap, to_z-of_z, FitsSigned, w64}
use Rattle.overlay_geometry.specs.PairOf.{pair_of}
use Rattle.overlay_intersections.specs.AnswerOf.{answer_of, result_of, kind_of}
use Rattle.overlay_text.specs.Output.{answer_text}
use Rattle.arrange.proofs.Crossings.{answered, overlap_is_collinear}
use Rattle.arrange.proofs.cross.write_answer.Goals as goal

pub collinear-requires-clause-line : goal.collinear-requires-clause-line
collinear-requires-clause-line g c =
    let whole = g.I.OverlayInt.whole in
    let radius_fits : FitsSigned w64 c.args.radius.squared = search rules in
    let as_answer = answered whole c.cross.result c.in-Some.place _ c.in-Some.is (simp to_z-of_z at c.cross.ensures) in
    overlap_is_collinear _ (pair_of whole c.args.target.now) (pair_of whole c.args.other.now) (result_of whole c.in-Some.place) as_answer (ap kind_of c.in-Overlay.is)

pub returns-in_default : goal.returns-in_default
unfolding answer_text
returns-in_default g c =
    let whole = g.I.OverlayInt.whole in
    let radius_fits : FitsSigned w64 c.args.radius.squared = search rules in
    let as_answer = sym (ap (answer_of whole) c.in_default.is) ∙ simp to_z-of_z at c.cross.ensures in
    rw (← as_answer) c.writeln.ensures.bytes

pub returns-in-Pure : goal.returns-in-Pure
unfolding answer_text
returns-in-Pure g c =
    let whole = g.I.OverlayInt.whole in
    let radius_fits : FitsSigned w64 c.args.radius.squared = search rules in
    let as_answer = answered whole c.cross.result c.in-Some.place _ c.in-Some.is (simp to_z-of_z at c.cross.ensures) in
    rw (← as_answer, c.in-Pure.is) c.write_place.ensures

pub returns-in-TargetEnd : goal.returns-in-TargetEnd
unfolding answer_text
returns-in-TargetEnd g c =
    let whole = g.I.OverlayInt.whole in
    let radius_fits : FitsSigned w64 c.args.radius.squared = search rules in
    let as_answer = answered whole c.cross.result c.in-Some.place _ c.in-Some.is (simp to_z-of_z at c.cross.ensures) in
    rw (← as_answer, c.in-TargetEnd.is) c.write_place-in-TargetEnd.ensures

pub returns-in-OtherEnd : goal.returns-in-OtherEnd
unfolding answer_text
returns-in-OtherEnd g c =
    let whole = g.I.OverlayInt.whole in
    let radius_fits : FitsSigned w64 c.args.radius.squared = search rules in
    let as_answer = answered whole c.cross.result c.in-Some.place _ c.in-Some.is (simp to_z-of_z at c.cross.ensures) in
    rw (← as_answer, c.in-OtherEnd.is) c.write_place-in-OtherEnd.ensures

pub returns-in-Overlay : goal.returns-in-Overlay
unfolding answer_text
returns-in-Overlay g c =
    let whole = g.I.OverlayInt.whole in
    let radius_fits : FitsSigned w64 c.args.radius.squared = search rules in
    let as_answer = answered whole c.cross.result c.in-Some.place _ c.in-Some.is (simp to_z-of_z at c.cross.ensures) in
    let mask = c.number-mask.ensures ∙ c.collinear.ensures.number in
    rw (← as_answer, c.in-Overlay.is, ← mask) c.writeln-in-Overlay.ensures.bytes
