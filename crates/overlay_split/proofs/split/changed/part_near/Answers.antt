use Rattle.std.proofs.Common.{◌≡◌, ◌∙◌, refl, sym, ap, ap₂, subst, arith, ◌<◌, true, [], ◌∷◌, ◌++◌, filter, get_or}
use Rattle.std.proofs.lemmas.List.{take_all, get_or_default}
use Rattle.overlay_geometry.specs.PairOf.{pair_of}
use Rattle.overlay_geometry.specs.RangeOf.{rect_of}
use Rattle.overlay_base.specs.SegmentOf.{ends_of, pairs_in}
use Rattle.overlay_split.specs.steps.ChangedBoxes.{is_near, near_from, rects_of}
use Rattle.overlay_split.proofs.laws.passes.PartSteps.{kept-yes, kept-no, places-yes, places-no, over_off, over_next, near_is, near_from-none}
use Rattle.overlay_split.proofs.split.changed.part_near.Goals as goal
use Rattle.overlay_split.proofs.split.changed.part_near.Goals.{then-is_near+in_ok-push+in_ok-push-2, else-is_near}

pub loop-index-init : goal.loop-index-init
loop-index-init g c = record {
  segments = c.new.ensures.items;
  indexes = c.new-2.ensures.items ∙ sym (near_from-none (rects_of g.I.OverlayInt.whole c.args.boxes.now));
  from = omega arith;
  over = λ k d low high. absurd (omega (arith, high));
}

pub is_near_one-is_near-requires-clause-before : goal.is_near_one-is_near-requires-clause-before
is_near_one-is_near-requires-clause-before g c =
    let whole = g.I.OverlayInt.whole in
    let segments = c.args.segments.now in
    let rects = rects_of whole c.args.boxes.now in
    let x = c.index-segments-index.result in
    let left : whole c.box_of-around.result.min_x ≡ (ends_of (get_or segments c.loop-index.index x)).a.x = ap (λ r. r.min_x) c.box_of-around.ensures ∙ ap (λ s. (pair_of whole s).a.x) c.x_segment.ensures ∙ ap (λ s. (ends_of s).a.x) c.index-segments-index.is in
    over_off rects segments c.loop-index.index c.loop-index.from c.first_open-from.result x c.loop-index-test.true c.loop-index.invariant.over (whole c.box_of-around.result.min_x) left c.first_open-from.ensures.over (rect_of whole c.box_of-around.result) refl

pub loop-index-preserved : goal.loop-index-preserved
loop-index-preserved g c =
    let whole = g.I.OverlayInt.whole in
    let segments = c.args.segments.now in
    let rects = rects_of whole c.args.boxes.now in
    let index = c.loop-index.index in
    let inside = c.loop-index-test.true in
    let x = c.index-segments-index.result in
    let left : whole c.box_of-around.result.min_x ≡ (ends_of (get_or segments index x)).a.x = ap (λ r. r.min_x) c.box_of-around.ensures ∙ ap (λ s. (pair_of whole s).a.x) c.x_segment.ensures ∙ ap (λ s. (ends_of s).a.x) c.index-segments-index.is in
    let some : 0 < c.is_near_one-is_near.new.looks = (let none = c.if-looks-eq0.false in omega (arith, none)) in
    let pair : pair_of whole c.x_segment.result ≡ ends_of (get_or segments index x) = ap (pair_of whole) c.x_segment.ensures ∙ ap (λ s. ends_of s) c.index-segments-index.is in
    let near : is_near rects (ends_of (get_or segments index x)) ≡ c.is_near_one-is_near.result = near_is rects (rect_of whole c.box_of-around.result) (ends_of (get_or segments index x)) (pair_of whole c.x_segment.result) c.is_near_one-is_near.result (c.is_near_one-is_near.ensures some) c.box_of-around.ensures pair in
    record {
      segments = elim c.if-is_near.branch [
        | then-is_near+in_ok-push+in_ok-push-2 w ↦
            (let y = w.index-segments-index-then-is_near.result in
            ap (λ p. p.segments.items) w.part-is ∙ w.in_ok-push.ensures.items
            ∙ ap₂ (λ l s. l ++ s ∷ []) c.loop-index.invariant.segments w.index-segments-index-then-is_near.is
            ∙ sym (kept-yes rects segments index y inside (subst (λ s. is_near rects (ends_of s) ≡ true) (get_or_default segments index x y inside) (near ∙ w.if-is_near.true))))
        | else-is_near w ↦ ap (λ p. p.segments.items) w.part-is ∙ c.loop-index.invariant.segments ∙ sym (kept-no rects segments index x inside (near ∙ w.if-is_near.false))
      ];
      indexes = elim c.if-is_near.branch [
        | then-is_near+in_ok-push+in_ok-push-2 w ↦
            ap (λ p. p.indexes.items) w.part-is ∙ w.in_ok-push-2.ensures.items
            ∙ ap (λ l. l ++ index ∷ []) c.loop-index.invariant.indexes
            ∙ sym (places-yes rects segments index x inside (near ∙ w.if-is_near.true))
        | else-is_near w ↦ ap (λ p. p.indexes.items) w.part-is ∙ c.loop-index.invariant.indexes ∙ sym (places-no rects segments index x inside (near ∙ w.if-is_near.false))
      ];
      from = c.first_open-from.ensures.within;
      over = over_next rects segments index c.loop-index.from c.first_open-from.result x inside c.loop-index.invariant.over (whole c.box_of-around.result.min_x) left c.first_open-from.ensures.over c.requires.sorted;
    }

pub returns-clause-segments : goal.returns-clause-segments
returns-clause-segments g c =
    let whole = g.I.OverlayInt.whole in
    let all = take_all c.loop-index.index c.args.segments.now c.loop-index-test.false in
    c.loop-index.invariant.segments ∙ ap (filter (λ s. is_near (rects_of whole c.args.boxes.now) (ends_of s))) all

pub returns-clause-indexes : goal.returns-clause-indexes
returns-clause-indexes g c =
    let whole = g.I.OverlayInt.whole in
    let all = take_all c.loop-index.index c.args.segments.now c.loop-index-test.false in
    c.loop-index.invariant.indexes ∙ ap (λ l. near_from (rects_of whole c.args.boxes.now) 0 (pairs_in l)) all
