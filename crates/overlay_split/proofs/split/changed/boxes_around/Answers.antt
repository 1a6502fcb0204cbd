use Rattle.std.proofs.Common.{◌≡◌, ◌∙◌, sym, ap, subst, ◌<◌, [], ◌∷◌, length, map, take, drop}
use Rattle.std.specs.List.{AllByRecursion}
use Rattle.std.proofs.lemmas.List.{length-map, map-append}
use Rattle.std.proofs.lemmas.List.Elements.{recursion_from_All}
use Rattle.overlay_geometry.specs.PairOf.{pair_of}
use Rattle.overlay_geometry.specs.RangeOf.{rect_of}
use Rattle.overlay_base.specs.SegmentOf.{ends_of, segment_of, segments_of, pairs_in}
use Rattle.overlay_intersections.specs.MarkOf.{mark_of, marks_of, mark_points_of}
use Rattle.overlay_split.specs.steps.ChangedBoxes.{rects_of, LiesInWith}
use Rattle.overlay_split.proofs.laws.passes.AroundMarks.{AreAroundBut, none_yet, around_next, around_all, AreFirst-from, pair_at}
use Rattle.overlay_cuts.proofs.laws.passes.Columns.{none_left}
use Rattle.overlay_cuts.proofs.laws.passes.MarkBlocks.{AreRising-from}
use Rattle.overlay_split.proofs.split.changed.boxes_around.Goals as goal

pub loop-first-init : goal.loop-first-init
loop-first-init g c =
    let whole = g.I.OverlayInt.whole in
    let segments = c.args.segments.now in
    let marks = marks_of whole c.args.marks.now in
    record {
      rising = AreRising-from marks c.requires.marks.are.in_order;
      within = subst (λ n. AllByRecursion (λ m. m.index < n) marks) (length-map segments segment_of) (recursion_from_All (λ m. m.index < length (segments_of segments)) marks c.requires.marks.are.within);
      around = λ on are. none_yet on (segments_of segments) (rects_of whole c.new-boxes.result.items) marks are;
    }

pub bounds-segments-index : goal.bounds-segments-index
bounds-segments-index g c =
    let first = AreFirst-from (mark_of g.I.OverlayInt.whole) (length c.args.segments.now) c.loop-first.rest.now c.in-Some.first.now c.loop-first.invariant.rising c.loop-first.invariant.within (sym c.in-Some.ensures.value) c.index_len.result c.index_len.ensures.within c.index_len.ensures.own c.index_len.ensures.later in
    first.inside

pub loop-first-smaller : goal.loop-first-smaller
loop-first-smaller g c =
    let first = AreFirst-from (mark_of g.I.OverlayInt.whole) (length c.args.segments.now) c.loop-first.rest.now c.in-Some.first.now c.loop-first.invariant.rising c.loop-first.invariant.within (sym c.in-Some.ensures.value) c.index_len.result c.index_len.ensures.within c.index_len.ensures.own c.index_len.ensures.later in
    rw (c.split_at.ensures.back) first.fewer

pub loop-first-preserved : goal.loop-first-preserved
loop-first-preserved g c =
    let whole = g.I.OverlayInt.whole in
    let segments = c.args.segments.now in
    let rest = c.loop-first.rest.now in
    let index = c.in-Some.first.now.index in
    let n = c.index_len.result in
    let r = rect_of whole c.box_around.result in
    let first = AreFirst-from (mark_of whole) (length segments) rest c.in-Some.first.now c.loop-first.invariant.rising c.loop-first.invariant.within (sym c.in-Some.ensures.value) n c.index_len.ensures.within c.index_len.ensures.own c.index_len.ensures.later in
    let pushed = ap (rects_of whole) c.in_ok-push.ensures.items ∙ map-append (rect_of whole) c.loop-first.boxes.items (c.box_around.result ∷ []) in
    let taken = ap (mark_points_of whole) c.split_at.ensures.front in
    rw (c.split_at.ensures.back) (record {
      rising = first.front.rising;
      within = first.within;
      around = λ on are.
          subst (λ rects. AreAroundBut on (pairs_in segments) rects (map (mark_of whole) (drop n rest))) (sym pushed)
          (around_next (mark_of whole) on (pairs_in segments) (rects_of whole c.loop-first.boxes.items) rest index n r (c.loop-first.invariant.around on are) first.front first.least
          (λ s is.
          let pair : pair_of whole c.x_segment.result ≡ s = ap (pair_of whole) c.x_segment.ensures ∙ ap (λ x. ends_of x) c.index-segments-index.is ∙ sym (pair_at segments index c.index-segments-index.result s first.inside) ∙ is in
          subst (λ q. LiesInWith r q (mark_points_of whole (take n rest))) pair (subst (LiesInWith r (pair_of whole c.x_segment.result)) taken (record { a = c.box_around.ensures.a; b = c.box_around.ensures.b; others = c.box_around.ensures.others }))));
    })

pub returns-clause-around : goal.returns-clause-around
returns-clause-around g c = λ on are.
    let whole = g.I.OverlayInt.whole in
    around_all on (pairs_in c.args.segments.now) (rects_of whole c.loop-first.boxes.items) (marks_of whole c.loop-first.rest.now) (ap (marks_of whole) (none_left c.loop-first.rest.now (sym c.in_default.ensures.value))) (c.loop-first.invariant.around on are)
