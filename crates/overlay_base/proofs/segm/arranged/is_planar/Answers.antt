use Rattle.std.proofs.Common.{sym, ap, ◌∙◌, ◌∷◌}
use Rattle.overlay_base.specs.Segments.{pairs}
use Rattle.overlay_geometry.specs.PairOf.{pair_of}
use Rattle.overlay_base.specs.SegmentOf.{segments_of, segment_of, ends_of}
use Rattle.overlay_base.proofs.laws.joins.Rests.{is_splittable-parts, first_in_range}
use Rattle.overlay_base.proofs.laws.geometry.Apart.{is_planar-is, is_strictly_sorted-rest, first_apart, first_not_apart, none_apart, pairs-nil}
use Rattle.overlay_base.proofs.segm.arranged.is_planar.Goals as goal

pub is_apart_from_all-requires-clause-target : goal.is_apart_from_all-requires-clause-target
is_apart_from_all-requires-clause-target g c =
    first_in_range g.I.OverlayInt.whole g.I.OverlayInt.MIN_COORD g.I.OverlayInt.MAX_COORD c.x_segment.result (segment_of c.in-Some.first.now) (segments_of c.in-Some.later.now)
    (ap (λ x. pair_of g.I.OverlayInt.whole x) (sym c.x_segment.ensures)) (rw c.in-Some.ensures.cases.0 at c.loop-first.invariant.splittable)

pub is_apart_from_all-requires-clause-splittable : goal.is_apart_from_all-requires-clause-splittable
is_apart_from_all-requires-clause-splittable g c = (is_splittable-parts _ _ (segment_of c.in-Some.first.now) (segments_of c.in-Some.later.now) (rw c.in-Some.ensures.cases.0 at c.loop-first.invariant.splittable)).1

pub is_apart_from_all-requires-clause-sorted : goal.is_apart_from_all-requires-clause-sorted
is_apart_from_all-requires-clause-sorted g c = is_strictly_sorted-rest (ends_of c.in-Some.first.now) (pairs (segments_of c.in-Some.later.now)) (rw c.in-Some.ensures.cases.0 at c.loop-first.invariant.sorted)

pub returns-then-not-is_apart_from_all : goal.returns-then-not-is_apart_from_all
returns-then-not-is_apart_from_all g c =
    first_not_apart (pairs (segments_of c.args.segments.now)) (pairs (segments_of c.loop-first.rest.now)) (pair_of g.I.OverlayInt.whole c.x_segment.result) (pairs (segments_of c.in-Some.later.now)) c.loop-first.invariant.apart
    (ap (λ xs. pairs (segments_of xs)) c.in-Some.ensures.cases.0 ∙ ap (λ x. pair_of g.I.OverlayInt.whole x ∷ pairs (segments_of c.in-Some.later.now)) (sym c.x_segment.ensures)) (sym c.is_apart_from_all.ensures ∙ c.if-not-is_apart_from_all.true)
    ∙ sym (is_planar-is (segments_of c.args.segments.now))

pub loop-first-preserved : goal.loop-first-preserved
loop-first-preserved g c = record {
  apart =
      first_apart (pairs (segments_of c.args.segments.now)) (pairs (segments_of c.loop-first.rest.now)) (pair_of g.I.OverlayInt.whole c.x_segment.result) (pairs (segments_of c.in-Some.later.now)) c.loop-first.invariant.apart
      (ap (λ xs. pairs (segments_of xs)) c.in-Some.ensures.cases.0 ∙ ap (λ x. pair_of g.I.OverlayInt.whole x ∷ pairs (segments_of c.in-Some.later.now)) (sym c.x_segment.ensures)) (sym c.is_apart_from_all.ensures ∙ c.if-not-is_apart_from_all.false);
  splittable = (is_splittable-parts _ _ (segment_of c.in-Some.first.now) (segments_of c.in-Some.later.now) (rw c.in-Some.ensures.cases.0 at c.loop-first.invariant.splittable)).1;
  sorted = is_strictly_sorted-rest (ends_of c.in-Some.first.now) (pairs (segments_of c.in-Some.later.now)) (rw c.in-Some.ensures.cases.0 at c.loop-first.invariant.sorted);
}

pub returns : goal.returns
returns g c = none_apart (pairs (segments_of c.args.segments.now)) _ c.loop-first.invariant.apart (pairs-nil c.loop-first.rest.now c.in_default.ensures.cases) ∙ sym (is_planar-is (segments_of c.args.segments.now))
