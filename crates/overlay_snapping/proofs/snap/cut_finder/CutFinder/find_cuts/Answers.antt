use Rattle.std.proofs.Common.{◌∙◌, ◌+◌, sym, ap, subst, arith}
use Rattle.std.proofs.lemmas.List.{length-map}
use Rattle.overlay_base.specs.SegmentOf.{segment_of, segments_of}
use Rattle.overlay_intersections.specs.MarkOf.{mark_of, marks_of, mark_points_of}
use Rattle.overlay_snapping.proofs.laws.batches.Existence.{some_cut}
use Rattle.overlay_snapping.proofs.laws.cuts.Added.{AreCutsBelow, AreMarksFrom, cuts_none, cuts_added, cuts_all, marks_first, marks_own, marks_later}
use Rattle.overlay_snapping.proofs.snap.cut_finder.CutFinder.find_cuts.Goals as goal

pub append_cuts-requires-clause-own : goal.append_cuts-requires-clause-own
append_cuts-requires-clause-own g c = λ d.
    let whole = g.I.OverlayInt.whole in
    let long = length-map c.args.segments.now (λ s. segment_of s) in
    let inside = c.loop-index-test.true in
    ap (mark_points_of whole) c.split_at.ensures.front
    ∙ marks_own (mark_of whole) (segments_of c.args.segments.now) c.loop-index.index c.loop-index.rest.now c.loop-index.invariant.rest c.own_len.result c.own_len.ensures.within c.own_len.ensures.own c.own_len.ensures.later d
    (omega (arith, inside, long))

pub loop-index-init : goal.loop-index-init
loop-index-init g c =
    let whole = g.I.OverlayInt.whole in
    let segments = segments_of c.args.segments.now in
    record {
      cuts = subst (λ l. AreCutsBelow segments 0 (marks_of whole l)) (sym c.clear.ensures.items) (cuts_none segments);
      rest = marks_first segments (marks_of whole c.args.marks.now) c.requires.marks;
      known = c.in_ok-find_hot.ensures.known;
    }

pub loop-index-preserved : goal.loop-index-preserved
loop-index-preserved g c =
    let whole = g.I.OverlayInt.whole in
    let segments = segments_of c.args.segments.now in
    let index = c.loop-index.index in
    let added = c.in_ok-append_cuts.ensures.cuts in
    record {
      cuts = cuts_added c.args.segments.now index c.loop-index.cuts.items c.append_cuts.new.cuts.items added.0 added.1 added.2 c.loop-index.invariant.cuts;
      rest = subst (λ l. AreMarksFrom segments (index + 1) (marks_of whole l)) (sym c.split_at.ensures.back)
          (marks_later (mark_of whole) segments index c.loop-index.rest.now c.loop-index.invariant.rest c.own_len.result c.own_len.ensures.within c.own_len.ensures.own c.own_len.ensures.later);
      known = c.in_ok-append_cuts.ensures.known;
    }

pub returns-clause-cuts : goal.returns-clause-cuts
returns-clause-cuts g c = λ all.
    let long = length-map c.args.segments.now (λ s. segment_of s) in
    let past = c.loop-index-test.false in
    let up = c.loop-index.auto.index-end in
    cuts_all (segments_of c.args.segments.now) c.loop-index.index (marks_of g.I.OverlayInt.whole c.loop-index.cuts.items) c.loop-index.invariant.known.decided (omega (arith, long, past, up)) c.loop-index.invariant.cuts

pub returns-then-most-len-clause-beyond : goal.returns-then-most-len-clause-beyond
returns-then-most-len-clause-beyond g c = λ _.
    let whole = g.I.OverlayInt.whole in
    let segments = segments_of c.args.segments.now in
    let index = c.loop-index.index in
    let added = c.in_ok-append_cuts.ensures.cuts in
    let long = length-map c.args.segments.now (λ s. segment_of s) in
    let marks = length-map c.append_cuts.new.cuts.items (mark_of whole) in
    let inside = c.loop-index-test.true in
    let many = c.if-most-len.true in
    some_cut segments (index + 1) (marks_of whole c.append_cuts.new.cuts.items) (omega (arith, inside, long)) (omega (arith, marks, many, c.append_cuts.new.cuts.ok.0))
    (cuts_added c.args.segments.now index c.loop-index.cuts.items c.append_cuts.new.cuts.items added.0 added.1 added.2 c.loop-index.invariant.cuts)
