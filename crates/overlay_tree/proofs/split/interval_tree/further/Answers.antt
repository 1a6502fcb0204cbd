use Rattle.std.proofs.Common.{sym, ap, ◌∙◌}
use Rattle.std.specs.Prelude.{Some}
use Rattle.overlay_tree.proofs.laws.tree.HeightTests.{lt_whole, greater_first, greater_second}
use Rattle.overlay_tree.proofs.split.interval_tree.further.Goals as goal
use Rattle.overlay_tree.proofs.split.interval_tree.further.Goals.{then-lt, else-lt}

pub returns-after-lt : goal.returns-after-lt
returns-after-lt g c =
    let whole = g.I.OverlayInt.whole in
    let x = c.in-Some-Some.x in
    let y = c.in-Some-Some.y in
    let test = lt_whole g.I.PartialOrd.partial_cmp g.I.Ord.cmp whole g.met.I.Ord.matches_partial_cmp g.met.I.OverlayInt.ordered x y in
    rw (c.in-Some-Some.is-0, c.in-Some-Some.is-1) (elim c.if-lt.branch [
      | then-lt w ↦ rw w.result-is (ap Some (greater_second (whole x) (whole y) (sym test ∙ sym c.lt.ensures ∙ w.if-lt.true)))
      | else-lt w ↦ rw w.result-is (ap Some (greater_first (whole x) (whole y) (sym test ∙ sym c.lt.ensures ∙ w.if-lt.false)))
    ])

pub returns-in-Some-None : goal.returns-in-Some-None
returns-in-Some-None g c = rw (c.in-Some-None.is-0, c.in-Some-None.is-1)

pub returns-in-None-default : goal.returns-in-None-default
returns-in-None-default g c = rw c.in-None-default.is-0
