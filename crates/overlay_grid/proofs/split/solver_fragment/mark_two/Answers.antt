use Rattle.std.proofs.Common.{sym, ap, ap₂, ◌∙◌, ◌++◌, List, append-nil}
use Rattle.overlay_intersections.specs.MarkOf.{Mark, marks_of}
use Rattle.overlay_intersections.specs.PlacingOf.{placing_of}
use Rattle.overlay_grid.specs.FragmentOf.{fragment_of}
use Rattle.overlay_geometry.specs.PairOf.{pair_of}
use Rattle.overlay_intersections.specs.Marks.{cross_inexactly}
use Rattle.overlay_grid.proofs.laws.grid.FoundFragments.{two_apart, as_first, as_second, two_rounded}
use Rattle.overlay_intersections.proofs.laws.marks.FoundEach.{cross_inexactly-back}
use Rattle.overlay_grid.proofs.laws.grid.GridAdding.{on_ok, if_ok}
use Rattle.overlay_grid.proofs.split.solver_fragment.mark_two.Goals as goal

pub returns-then-not-is_intersect_border_include-clause-marks : goal.returns-then-not-is_intersect_border_include-clause-marks
returns-then-not-is_intersect_border_include-clause-marks g c =
    sym (append-nil _) ∙ ap (λ (ms : List Mark). marks_of g.I.OverlayInt.whole c.args.marks.now.items ++ ms)
    (sym (two_apart (placing_of c.args.placing) (fragment_of g.I.OverlayInt.whole c.args.fragment.now) (fragment_of g.I.OverlayInt.whole c.args.other.now) (sym c.is_intersect_border_include.ensures ∙ c.if-not-is_intersect_border_include.true)))

pub returns-then-is_before-clause-marks : goal.returns-then-is_before-clause-marks
returns-then-is_before-clause-marks g c =
    let f = fragment_of g.I.OverlayInt.whole c.args.fragment.now in
    let o = fragment_of g.I.OverlayInt.whole c.args.other.now in
    on_ok c.mark_both.result _ _
    (λ marks. marks ∙ ap (λ (ms : List Mark). marks_of g.I.OverlayInt.whole c.args.marks.now.items ++ ms)
    (as_first (placing_of c.args.placing) f o _ _ _ _ c.indexed-left.ensures.index (ap (pair_of g.I.OverlayInt.whole) c.indexed-left.ensures.x_segment) c.indexed-right.ensures.index (ap (pair_of g.I.OverlayInt.whole) c.indexed-right.ensures.x_segment)
    (sym c.is_intersect_border_include.ensures ∙ c.if-not-is_intersect_border_include.false) (sym c.is_before.ensures ∙ c.if-is_before.true)))
    c.mark_both.ensures.marks

pub returns-else-is_before-clause-marks : goal.returns-else-is_before-clause-marks
returns-else-is_before-clause-marks g c =
    let f = fragment_of g.I.OverlayInt.whole c.args.fragment.now in
    let o = fragment_of g.I.OverlayInt.whole c.args.other.now in
    on_ok c.mark_both-else-is_before.result _ _
    (λ marks. marks ∙ ap (λ (ms : List Mark). marks_of g.I.OverlayInt.whole c.args.marks.now.items ++ ms)
    (as_second (placing_of c.args.placing) f o _ _ _ _ c.indexed-left.ensures.index (ap (pair_of g.I.OverlayInt.whole) c.indexed-left.ensures.x_segment) c.indexed-right.ensures.index (ap (pair_of g.I.OverlayInt.whole) c.indexed-right.ensures.x_segment)
    (sym c.is_intersect_border_include.ensures ∙ c.if-not-is_intersect_border_include.false) (sym c.is_before.ensures ∙ c.if-is_before.false)))
    c.mark_both-else-is_before.ensures.marks

pub returns-else-is_before-clause-rounded : goal.returns-else-is_before-clause-rounded
returns-else-is_before-clause-rounded g c =
    let f = fragment_of g.I.OverlayInt.whole c.args.fragment.now in
    let o = fragment_of g.I.OverlayInt.whole c.args.other.now in
    let meets = sym c.is_intersect_border_include.ensures ∙ c.if-not-is_intersect_border_include.false in
    if_ok c.mark_both-else-is_before.result _ _
    (λ rounded e. e ∙ ap₂ cross_inexactly (ap (pair_of g.I.OverlayInt.whole) c.indexed-right.ensures.x_segment) (ap (pair_of g.I.OverlayInt.whole) c.indexed-left.ensures.x_segment) ∙ cross_inexactly-back o.pair f.pair ∙ sym (two_rounded f o meets))
    c.mark_both-else-is_before.ensures.rounded
