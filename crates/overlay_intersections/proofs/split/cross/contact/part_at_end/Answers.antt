use Rattle.std.proofs.Common.{ap, ◌∙◌, inl, inr}
use Rattle.overlay_geometry.specs.PairOf.{pair_of}
use Rattle.overlay_geometry.specs.PointOf.{point_of}
use Rattle.overlay_intersections.proofs.laws.crossings.AnswerBranches.{when_parted}
use Rattle.overlay_intersections.proofs.laws.marks.Comparisons.{same_points}
use Rattle.overlay_intersections.proofs.split.cross.contact.part_at_end.Goals as goal
use Rattle.overlay_intersections.proofs.split.cross.contact.part_at_end.Goals.{then-share_b, else-share_b}

pub returns : goal.returns
returns g c = λ is_true placing.
    let same = same_points g.I.PartialEq.eq g.I.Ord.cmp g.I.OverlayInt.whole g.met.I.Ord.matches_eq g.met.I.OverlayInt.ordered in
    when_parted placing (pair_of g.I.OverlayInt.whole c.args.target.now) (pair_of g.I.OverlayInt.whole c.args.other.now) (point_of g.I.OverlayInt.whole c.if-share_b.far_end)
    c.eq-share_b.result c.eq-4.result c.eq-5.result c.requires.target_apart c.requires.other_apart
    (c.eq-share_b.ensures ∙ same c.args.target.now.b c.args.other.now.b)
    (c.eq-4.ensures ∙ same c.args.target.now.b c.args.other.now.a)
    (c.eq-5.ensures ∙ same c.args.target.now.a c.args.other.now.a)
    c.if-not-share_b-eq.false
    (elim c.if-share_b.branch [
      | then-share_b w ↦ inl (w.if-share_b.true, ap (point_of g.I.OverlayInt.whole) w.far_end-is)
      | else-share_b w ↦ inr (w.if-share_b.false, ap (point_of g.I.OverlayInt.whole) w.far_end-is)
    ])
    (rw c.is_not_line.ensures at is_true)
