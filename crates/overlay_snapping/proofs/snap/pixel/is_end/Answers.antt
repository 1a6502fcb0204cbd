use Rattle.std.proofs.Common.{sym, ◌∙◌}
use Rattle.overlay_intersections.proofs.laws.marks.Comparisons.{same_points}
use Rattle.overlay_snapping.proofs.snap.pixel.is_end.Goals as goal

pub returns-else-eq : goal.returns-else-eq
returns-else-eq g c =
    let same = same_points g.I.PartialEq.eq g.I.Ord.cmp g.I.OverlayInt.whole g.met.I.Ord.matches_eq g.met.I.OverlayInt.ordered in
    let first = sym (same c.args.point c.args.segment.now.a) ∙ (sym c.eq.ensures ∙ c.if-eq.false) in
    rw first (c.eq-else-eq.ensures ∙ same c.args.point c.args.segment.now.b)

pub returns-then-eq : goal.returns-then-eq
returns-then-eq g c =
    let same = same_points g.I.PartialEq.eq g.I.Ord.cmp g.I.OverlayInt.whole g.met.I.Ord.matches_eq g.met.I.OverlayInt.ordered in
    let first = sym (same c.args.point c.args.segment.now.a) ∙ (sym c.eq.ensures ∙ c.if-eq.true) in
    rw first c.if-eq.true
