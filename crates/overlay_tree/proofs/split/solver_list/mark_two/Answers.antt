use Rattle.std.proofs.Common.{◌≡◌, ◌≢◌, ◌<◌, sym, ap, subst, ◌∙◌, append-nil, get_or, length, true, IsTrue, IsFalse, arith}
use Rattle.std.proofs.lemmas.List.{get_or_default}
use Rattle.overlay_geometry.specs.Points.{is_ordered, pair_lt, point_eq}
use Rattle.overlay_geometry.specs.PointOf.{point_of}
use Rattle.overlay_geometry.proofs.laws.geometry.Points.{same_by_eq}
use Rattle.overlay_geometry.specs.PairOf.{pair_of}
use Rattle.overlay_geometry.specs.InRange.{IsPairInRange}
use Rattle.overlay_base.specs.Segments.{pairs}
use Rattle.overlay_base.specs.SegmentOf.{segments_of, x_segment_of}
use Rattle.overlay_intersections.specs.PlacingOf.{placing_of}
use Rattle.overlay_intersections.proofs.laws.marks.ApartPairs.{AreApart, AreApart-chained, apart_are_exact, ends_differ}
use Rattle.overlay_intersections.proofs.laws.marks.Comparisons.{same_points}
use Rattle.overlay_intersections.proofs.laws.marks.FoundMarks.{between_apart, later_is_not_less}
use Rattle.overlay_tree.specs.steps.Swept.{pair_at}
use Rattle.overlay_tree.proofs.laws.list.ListScans.{pair_next}
use Rattle.overlay_tree.proofs.laws.tree.Sweeps.{pair_at-is, length-pairs, pairs_in_order}
use Rattle.overlay_tree.proofs.split.solver_list.mark_two.Goals as goal
use Rattle.overlay_tree.proofs.split.solver_list.mark_two.Goals.{After-x_segment-other}

-- the segment of the list that the first is
own-is : (g : _) (c : After-x_segment-other g) → c.args.first.x_segment ≡ x_segment_of (get_or c.args.segments.now c.args.first.index c.index-segments-later.result)
own-is g c = c.requires.first c.index-segments-later.result

own_below : (g : _) (c : After-x_segment-other g) → c.args.first.index < length c.args.segments.now
own_below g c = let a = c.requires.after in let b = c.requires.within in omega (arith, a, b)

-- the two pairs of the list
pairs_are : (g : _) (c : After-x_segment-other g) →
    (pair_at (pairs (segments_of c.args.segments.now)) c.args.first.index ≡ pair_of g.I.OverlayInt.whole c.args.first.x_segment)
    × (pair_at (pairs (segments_of c.args.segments.now)) c.args.later ≡ pair_of g.I.OverlayInt.whole c.x_segment-other.result)
pairs_are g c =
    let whole = g.I.OverlayInt.whole in (
      pair_at-is c.args.segments.now c.args.first.index (get_or c.args.segments.now c.args.first.index c.index-segments-later.result) (own_below g c) (get_or_default c.args.segments.now c.args.first.index c.index-segments-later.result (get_or c.args.segments.now c.args.first.index c.index-segments-later.result) (own_below g c)) ∙ ap (pair_of whole) (sym (own-is g c)),
      pair_at-is c.args.segments.now c.args.later c.index-segments-later.result c.requires.within c.index-segments-later.is ∙ ap (pair_of whole) (sym c.x_segment-other.ensures),
    )

-- what both ways of marking need
first_in_range : (g : _) (c : After-x_segment-other g) → IsPairInRange g.I.OverlayInt.whole g.I.OverlayInt.MIN_COORD g.I.OverlayInt.MAX_COORD c.args.first.x_segment
first_in_range g c = rw (own-is g c) (c.requires.in_range c.args.first.index c.index-segments-later.result (own_below g c))

second_in_range : (g : _) (c : After-x_segment-other g) → IsPairInRange g.I.OverlayInt.whole g.I.OverlayInt.MIN_COORD g.I.OverlayInt.MAX_COORD c.x_segment-other.result
second_in_range g c = rw (c.x_segment-other.ensures, c.index-segments-later.is) (c.requires.in_range c.args.later c.index-segments-later.result c.requires.within)

first_ordered : (g : _) (c : After-x_segment-other g) → IsTrue (is_ordered (pair_of g.I.OverlayInt.whole c.args.first.x_segment))
first_ordered g c = subst (λ v. IsTrue (is_ordered (pair_of g.I.OverlayInt.whole v))) (sym (own-is g c)) (get_or c.args.segments.now c.args.first.index c.index-segments-later.result).ordered

second_ordered : (g : _) (c : After-x_segment-other g) → IsTrue (is_ordered (pair_of g.I.OverlayInt.whole c.x_segment-other.result))
second_ordered g c = subst (λ v. IsTrue (is_ordered (pair_of g.I.OverlayInt.whole v))) (sym c.x_segment-other.ensures) c.index-segments-later.result.ordered

first_apart : (g : _) (c : After-x_segment-other g) → (pair_of g.I.OverlayInt.whole c.args.first.x_segment).a ≢ (pair_of g.I.OverlayInt.whole c.args.first.x_segment).b
first_apart g c = ends_differ (pair_of g.I.OverlayInt.whole c.args.first.x_segment) (first_ordered g c)

second_apart : (g : _) (c : After-x_segment-other g) → (pair_of g.I.OverlayInt.whole c.x_segment-other.result).a ≢ (pair_of g.I.OverlayInt.whole c.x_segment-other.result).b
second_apart g c = ends_differ (pair_of g.I.OverlayInt.whole c.x_segment-other.result) (second_ordered g c)

in_order : (g : _) (c : After-x_segment-other g) → IsFalse (pair_lt (pair_of g.I.OverlayInt.whole c.x_segment-other.result) (pair_of g.I.OverlayInt.whole c.args.first.x_segment))
in_order g c =
    let ps = pairs (segments_of c.args.segments.now) in
    let count = length-pairs c.args.segments.now in
    let are = pairs_are g c in
    let less = later_is_not_less ps c.args.first.index c.args.later (pair_at ps c.args.first.index) (pair_at ps c.args.later) (pairs_in_order c.args.segments.now c.requires.sorted) c.requires.after
    (pair_next ps c.args.first.index (let a = own_below g c in omega arith)) (pair_next ps c.args.later (let b = c.requires.within in omega arith)) in
    rw (are.0, are.1) at less

pub mark_both-requires-clause-first : goal.mark_both-requires-clause-first
mark_both-requires-clause-first g c = first_in_range g (goal.at.mark_both-requires-clause-first g c).After-x_segment-other

pub mark_both-requires-clause-second : goal.mark_both-requires-clause-second
mark_both-requires-clause-second g c = second_in_range g (goal.at.mark_both-requires-clause-second g c).After-x_segment-other

pub mark_both-requires-clause-first_apart : goal.mark_both-requires-clause-first_apart
mark_both-requires-clause-first_apart g c = first_apart g (goal.at.mark_both-requires-clause-first_apart g c).After-x_segment-other

pub mark_both-requires-clause-second_apart : goal.mark_both-requires-clause-second_apart
mark_both-requires-clause-second_apart g c = second_apart g (goal.at.mark_both-requires-clause-second_apart g c).After-x_segment-other

pub mark_both-requires-clause-order : goal.mark_both-requires-clause-order
mark_both-requires-clause-order g c = in_order g (goal.at.mark_both-requires-clause-order g c).After-x_segment-other

pub mark_both_apart-requires-clause-first : goal.mark_both_apart-requires-clause-first
mark_both_apart-requires-clause-first g c = first_in_range g (goal.at.mark_both_apart-requires-clause-first g c).After-x_segment-other

pub mark_both_apart-requires-clause-second : goal.mark_both_apart-requires-clause-second
mark_both_apart-requires-clause-second g c = second_in_range g (goal.at.mark_both_apart-requires-clause-second g c).After-x_segment-other

pub mark_both_apart-requires-clause-first_apart : goal.mark_both_apart-requires-clause-first_apart
mark_both_apart-requires-clause-first_apart g c = first_apart g (goal.at.mark_both_apart-requires-clause-first_apart g c).After-x_segment-other

pub mark_both_apart-requires-clause-second_apart : goal.mark_both_apart-requires-clause-second_apart
mark_both_apart-requires-clause-second_apart g c = second_apart g (goal.at.mark_both_apart-requires-clause-second_apart g c).After-x_segment-other

pub mark_both_apart-requires-clause-order : goal.mark_both_apart-requires-clause-order
mark_both_apart-requires-clause-order g c = in_order g (goal.at.mark_both_apart-requires-clause-order g c).After-x_segment-other

pub returns-then-are_near-clause-marks : goal.returns-then-are_near-clause-marks
returns-then-are_near-clause-marks g c = let are = pairs_are g (goal.at.returns-then-are_near-clause-marks g c).After-x_segment-other in rw (are.0, are.1) c.mark_both.ensures.marks

pub returns-then-are_near-clause-rounded : goal.returns-then-are_near-clause-rounded
returns-then-are_near-clause-rounded g c = let are = pairs_are g (goal.at.returns-then-are_near-clause-rounded g c).After-x_segment-other in rw (are.0, are.1) c.mark_both.ensures.rounded

pub returns-else-are_near-clause-marks : goal.returns-else-are_near-clause-marks
returns-else-are_near-clause-marks g c = let are = pairs_are g (goal.at.returns-else-are_near-clause-marks g c).After-x_segment-other in rw (are.0, are.1) c.mark_both_apart.ensures.marks

pub returns-else-are_near-clause-rounded : goal.returns-else-are_near-clause-rounded
returns-else-are_near-clause-rounded g c = let are = pairs_are g (goal.at.returns-else-are_near-clause-rounded g c).After-x_segment-other in rw (are.0, are.1) c.mark_both_apart.ensures.rounded

-- the other begins where the first ends
chained : (g : _) (c : After-x_segment-other g) → point_eq (point_of g.I.OverlayInt.whole c.args.first.x_segment.b) (point_of g.I.OverlayInt.whole c.x_segment-other.result.a) ≡ true →
    AreApart (pair_of g.I.OverlayInt.whole c.args.first.x_segment) (pair_of g.I.OverlayInt.whole c.x_segment-other.result)
chained g c e =
    let s = pair_of g.I.OverlayInt.whole c.args.first.x_segment in
    let t = pair_of g.I.OverlayInt.whole c.x_segment-other.result in
    AreApart-chained s t (first_ordered g c) (second_ordered g c) (same_by_eq s.b t.a e)

pub returns-then-eq-clause-marks : goal.returns-then-eq-clause-marks
returns-then-eq-clause-marks g c =
    let at = (goal.at.returns-then-eq-clause-marks g c).After-x_segment-other in
    let are = pairs_are g at in
    let same = same_points g.I.PartialEq.eq g.I.Ord.cmp g.I.OverlayInt.whole g.met.I.Ord.matches_eq g.met.I.OverlayInt.ordered c.args.first.x_segment.b c.x_segment-other.result.a in
    let apart = chained g at (sym (c.eq.ensures ∙ same) ∙ c.if-eq.true) in
    rw (are.0, are.1) (rw (between_apart (placing_of c.args.placing) c.args.first.index _ c.args.later _ apart) (sym (append-nil _)))

pub returns-then-eq-clause-rounded : goal.returns-then-eq-clause-rounded
returns-then-eq-clause-rounded g c =
    let at = (goal.at.returns-then-eq-clause-rounded g c).After-x_segment-other in
    let are = pairs_are g at in
    let same = same_points g.I.PartialEq.eq g.I.Ord.cmp g.I.OverlayInt.whole g.met.I.Ord.matches_eq g.met.I.OverlayInt.ordered c.args.first.x_segment.b c.x_segment-other.result.a in
    let apart = chained g at (sym (c.eq.ensures ∙ same) ∙ c.if-eq.true) in
    rw (are.0, are.1) (sym (apart_are_exact _ _ apart))

pub bounds-segments-later : goal.bounds-segments-later
bounds-segments-later g c = c.requires.within
