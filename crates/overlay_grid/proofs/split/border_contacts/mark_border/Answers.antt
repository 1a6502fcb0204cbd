use Rattle.std.proofs.Common.{◌+◌, ◌++◌, append-nil, sym, ap, subst, ◌∙◌, drop, length, map, List}
use Rattle.std.proofs.lemmas.List.{nil_from_length}
use Rattle.std.proofs.lemmas.Bool.{eqb-true}
use Rattle.overlay_intersections.specs.MarkOf.{Mark, marks_of}
use Rattle.overlay_grid.specs.FragmentOf.{KeptFragment, fragment_of, fragments_of}
use Rattle.overlay_grid.specs.steps.FragmentFinder.{marks_of_heights}
use Rattle.overlay_grid.proofs.laws.grid.FoundFragments.{fragments-next, fragments-none}
use Rattle.overlay_grid.proofs.laws.grid.BorderMarks.{IsBorderSeen, border-more, border-none, border-end, no_heights_mark}
use Rattle.overlay_grid.proofs.split.border_contacts.mark_border.Goals as goal
use Rattle.overlay_grid.proofs.split.border_contacts.mark_border.Goals.{then-stands_at+in_ok-mark_heights, else-stands_at}

pub loop-index-preserved : goal.loop-index-preserved
loop-index-preserved g c =
    let x = g.I.OverlayInt.whole c.args.border in
    let ys = map g.I.OverlayInt.whole c.args.right_ends.now in
    let f = fragment_of g.I.OverlayInt.whole c.index-group-index.result in
    let group = fragments_of g.I.OverlayInt.whole c.args.group.now in
    let here = fragments-next g.I.OverlayInt.whole c.args.group.now c.loop-index.index c.index-group-index.result c.loop-index-test.true c.index-group-index.is in
    let rest = drop (c.loop-index.index + 1) group in
    let old = marks_of g.I.OverlayInt.whole c.args.marks.now.items in
    let now = marks_of g.I.OverlayInt.whole c.loop-index.marks.items in
    let walk = subst (λ (us : List KeptFragment). IsBorderSeen x ys group old now c.args.looked.now c.loop-index.looked us) here c.loop-index.invariant in
    elim c.if-stands_at.branch [
      | then-stands_at+in_ok-mark_heights w ↦
          rw (w.marks-is, w.looked-is) (border-more x ys f group old now (marks_of g.I.OverlayInt.whole w.mark_heights.new.marks.items) c.args.looked.now c.loop-index.looked w.mark_heights.new.looked rest walk
          (sym c.stands_at.ensures ∙ w.if-stands_at.true) w.in_ok-mark_heights.ensures.marks w.in_ok-mark_heights.ensures.looked)
      | else-stands_at w ↦
          rw (w.marks-is, w.looked-is) (border-none x ys f group old now c.args.looked.now c.loop-index.looked rest walk (sym c.stands_at.ensures ∙ w.if-stands_at.false))
    ]

pub returns : goal.returns
returns g c =
    let end = border-end (g.I.OverlayInt.whole c.args.border) (map g.I.OverlayInt.whole c.args.right_ends.now) (fragments_of g.I.OverlayInt.whole c.args.group.now) _ _ c.args.looked.now c.loop-index.looked _ c.loop-index.invariant (fragments-none g.I.OverlayInt.whole c.args.group.now c.loop-index.index c.loop-index-test.false) in
    record { marks = end.0; looked = end.1 }

pub returns-then-is_empty-clause-marks : goal.returns-then-is_empty-clause-marks
returns-then-is_empty-clause-marks g c =
    let whole = g.I.OverlayInt.whole in
    let x = whole c.args.border in
    let group = fragments_of whole c.args.group.now in
    let old = marks_of whole c.args.marks.now.items in
    let none = ap (λ (hs : List _). marks_of_heights x (map whole hs) group) (nil_from_length c.args.right_ends.now (eqb-true (length c.args.right_ends.now) 0 (sym c.if-is_empty.ensures))) ∙ no_heights_mark x group in
    sym (append-nil old) ∙ ap (λ (ms : List Mark). old ++ ms) (sym none)
