use Rattle.std.proofs.Common.{rules, ⊎_elim, inl, inr, refl, sym, ap, subst, true}
use Rattle.std.proofs.lemmas.Bool.{both_ways}
use Rattle.overlay_geometry.specs.InRange.{IsPairInRange}
use Rattle.overlay_base.specs.SegmentOf.{x_segment_of, ends_of}
use Rattle.overlay_snapping.proofs.snap.collinear.LineWalk.start.Goals as goal

pub returns-clause-adds : goal.returns-clause-adds
returns-clause-adds g c = λ _. record {
  line = ends_of c.farther-self.result;
  running = c.in-Some.running;
  same_line = ⊎_elim (λ e. inl (ap ends_of e)) (λ e. inr (ap ends_of e)) c.farther-self.ensures;
  started = λ _. search rules;
  ended = λ e. absurd (both_ways true e refl);
  is = search rules;
}

pub returns-clause-goes_on : goal.returns-clause-goes_on
returns-clause-goes_on g c = λ _. record {
  farthest = ⊎_elim (λ e. subst (λ s. IsPairInRange g.I.OverlayInt.whole g.I.OverlayInt.MIN_COORD g.I.OverlayInt.MAX_COORD (x_segment_of s)) (sym e) c.requires.can_go_on.farthest) (λ e. subst (λ s. IsPairInRange g.I.OverlayInt.whole g.I.OverlayInt.MIN_COORD g.I.OverlayInt.MAX_COORD (x_segment_of s)) (sym e) c.requires.in_range) c.farther-self.ensures;
  point = c.requires.can_go_on.point;
  pieces = c.requires.can_go_on.pieces;
}
