use Rattle.std.proofs.Common.{rules, ◌≡◌, refl, sym, ◌∙◌}
use Rattle.overlay_geometry.specs.Points.{pair_lt}
use Rattle.overlay_geometry.specs.PairOf.{pair_of}
use Rattle.overlay_base.specs.SegmentOf.{segment_of}
use Rattle.overlay_text.specs.Output.{meeting_text}
use Rattle.overlay_geometry.proofs.laws.geometry.Coordinates.{ends_in_range}
use Rattle.overlay_intersections.proofs.laws.marks.ApartPairs.{ends_differ}
use Rattle.arrange.proofs.Crossings.{are_two, two_in_range}
use Rattle.arrange.proofs.cross.cross.Goals as goal
use Rattle.arrange.proofs.cross.cross.Goals.{then-lt+in_ok-write_answer, else-lt+in_ok-write_answer-2}

pub write_answer-requires-clause-target : goal.write_answer-requires-clause-target
write_answer-requires-clause-target g c =
    let two = are_two c.args.segments.now c.first-item.result c.second-item.result c.in-len2.len_at_least c.in-len2.len_below c.first-item.is c.second-item.is in
    let both = two_in_range segment_of (g.I.OverlayInt.whole g.I.OverlayInt.MIN_COORD) (g.I.OverlayInt.whole g.I.OverlayInt.MAX_COORD) c.args.segments.now c.first-item.result c.second-item.result two c.requires in
    ends_in_range g.I.OverlayInt.whole g.I.OverlayInt.MIN_COORD g.I.OverlayInt.MAX_COORD c.x_segment-first.result (rw c.x_segment-first.ensures both.0)

pub write_answer-requires-clause-other : goal.write_answer-requires-clause-other
write_answer-requires-clause-other g c =
    let two = are_two c.args.segments.now c.first-item.result c.second-item.result c.in-len2.len_at_least c.in-len2.len_below c.first-item.is c.second-item.is in
    let both = two_in_range segment_of (g.I.OverlayInt.whole g.I.OverlayInt.MIN_COORD) (g.I.OverlayInt.whole g.I.OverlayInt.MAX_COORD) c.args.segments.now c.first-item.result c.second-item.result two c.requires in
    ends_in_range g.I.OverlayInt.whole g.I.OverlayInt.MIN_COORD g.I.OverlayInt.MAX_COORD c.x_segment-second.result (rw c.x_segment-second.ensures both.1)

pub write_answer-requires-else-lt-clause-target : goal.write_answer-requires-else-lt-clause-target
write_answer-requires-else-lt-clause-target g c =
    let two = are_two c.args.segments.now c.first-item.result c.second-item.result c.in-len2.len_at_least c.in-len2.len_below c.first-item.is c.second-item.is in
    let both = two_in_range segment_of (g.I.OverlayInt.whole g.I.OverlayInt.MIN_COORD) (g.I.OverlayInt.whole g.I.OverlayInt.MAX_COORD) c.args.segments.now c.first-item.result c.second-item.result two c.requires in
    ends_in_range g.I.OverlayInt.whole g.I.OverlayInt.MIN_COORD g.I.OverlayInt.MAX_COORD c.x_segment-second.result (rw c.x_segment-second.ensures both.1)

pub write_answer-requires-else-lt-clause-other : goal.write_answer-requires-else-lt-clause-other
write_answer-requires-else-lt-clause-other g c =
    let two = are_two c.args.segments.now c.first-item.result c.second-item.result c.in-len2.len_at_least c.in-len2.len_below c.first-item.is c.second-item.is in
    let both = two_in_range segment_of (g.I.OverlayInt.whole g.I.OverlayInt.MIN_COORD) (g.I.OverlayInt.whole g.I.OverlayInt.MAX_COORD) c.args.segments.now c.first-item.result c.second-item.result two c.requires in
    ends_in_range g.I.OverlayInt.whole g.I.OverlayInt.MIN_COORD g.I.OverlayInt.MAX_COORD c.x_segment-first.result (rw c.x_segment-first.ensures both.0)

pub write_answer-requires-clause-target_apart : goal.write_answer-requires-clause-target_apart
write_answer-requires-clause-target_apart g c = ends_differ (pair_of g.I.OverlayInt.whole c.x_segment-first.result) (rw c.x_segment-first.ensures c.first-item.result.ordered)

pub write_answer-requires-else-lt-clause-other_apart : goal.write_answer-requires-else-lt-clause-other_apart
write_answer-requires-else-lt-clause-other_apart g c = ends_differ (pair_of g.I.OverlayInt.whole c.x_segment-first.result) (rw c.x_segment-first.ensures c.first-item.result.ordered)

pub returns-clause-text : goal.returns-clause-text
unfolding meeting_text
returns-clause-text g c =
    let two = are_two c.args.segments.now c.first-item.result c.second-item.result c.in-len2.len_at_least c.in-len2.len_below c.first-item.is c.second-item.is in
    let compared = simp (g.met.I.Ord.matches_partial_cmp, g.met.I.OverlayInt.ordered) at c.lt.ensures in
    let less : pair_lt (pair_of g.I.OverlayInt.whole c.x_segment-first.result) (pair_of g.I.OverlayInt.whole c.x_segment-second.result) ≡ c.lt.result = sym (search (rules, compared)) in
    elim c.if-lt.branch [
      | then-lt+in_ok-write_answer w ↦
          rw (two, ← c.x_segment-first.ensures, ← c.x_segment-second.ensures, less ∙ w.if-lt.true, w.text-is, w.in_ok-write_answer.ensures, c.new-text.ensures.bytes) refl
      | else-lt+in_ok-write_answer-2 w ↦
          rw (two, ← c.x_segment-first.ensures, ← c.x_segment-second.ensures, less ∙ w.if-lt.false, w.text-is, w.in_ok-write_answer-2.ensures, c.new-text.ensures.bytes) refl
    ]
