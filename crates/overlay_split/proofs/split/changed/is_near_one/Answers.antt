use Rattle.std.proofs.Common.{◌≡◌, ◌∙◌, sym, subst, arith, get_or, length, ◌<◌, true, false}
use Rattle.std.specs.Prelude.{int_lt, ◌<ℤ◌}
use Rattle.std.proofs.lemmas.List.{get_or-map, length-map}
use Rattle.std.proofs.lemmas.List.Elements.{AllWithin-more}
use Rattle.overlay_geometry.specs.RangeOf.{rect_of}
use Rattle.overlay_geometry.specs.Ranges.{do_rects_meet}
use Rattle.overlay_geometry.proofs.laws.geometry.Comparisons.{int_lt-by_cmp}
use Rattle.overlay_geometry.proofs.laws.integers.Tests.{lt-tested}
use Rattle.overlay_geometry.proofs.laws.lists.Lists.{list_any-from_Has}
use Rattle.overlay_geometry.proofs.laws.lists.Elements.{Has-from_Contains}
use Rattle.overlay_split.specs.steps.ChangedBoxes.{rects_of}
use Rattle.overlay_split.proofs.laws.passes.RectSweeps.{none_meet, none_meet_later}
use Rattle.overlay_split.proofs.split.changed.is_near_one.Goals as goal

pub returns-then-looks-eq0 : goal.returns-then-looks-eq0
returns-then-looks-eq0 g c = λ some. absurd (let none = c.if-looks-eq0.true in omega (arith, some, none))

pub returns-then-lt : goal.returns-then-lt
returns-then-lt g c = λ some.
    let whole = g.I.OverlayInt.whole in
    let boxes = c.args.boxes.now in
    let place = c.loop-place.place in
    let rect = c.index-boxes-place.result in
    let inside = c.loop-place-test.true in
    let less : int_lt (whole c.args.around.now.max_x) (whole (get_or boxes place rect).min_x) ≡ c.lt.result = sym (simp (g.met.I.Ord.matches_partial_cmp, g.met.I.OverlayInt.ordered, int_lt-by_cmp) at c.lt.ensures) in
    let past : whole c.args.around.now.max_x <ℤ whole (get_or boxes place rect).min_x = lt-tested (whole c.args.around.now.max_x) (whole (get_or boxes place rect).min_x) (less ∙ c.if-lt.true) in
    none_meet_later (rects_of whole boxes) (rect_of whole c.args.around.now) place (rect_of whole (get_or boxes place rect)) c.requires.from_left c.loop-place.invariant
    (get_or-map (rect_of whole) boxes place rect (rect_of whole (get_or boxes place rect)) inside) past

pub returns-then-is_intersect_border_include : goal.returns-then-is_intersect_border_include
returns-then-is_intersect_border_include g c = λ some.
    let whole = g.I.OverlayInt.whole in
    let boxes = c.args.boxes.now in
    let place = c.loop-place.place in
    let rect = c.index-boxes-place-in-loop-place.result in
    let r = rect_of whole (get_or boxes place rect) in
    let inside : place < length (rects_of whole boxes) = (let test = c.loop-place-test.true in let size = length-map boxes (rect_of whole) in omega (arith, test, size)) in
    let meets : do_rects_meet r (rect_of whole c.args.around.now) ≡ true = subst (λ q. do_rects_meet (rect_of whole q) (rect_of whole c.args.around.now) ≡ true) c.index-boxes-place-in-loop-place.is (sym c.is_intersect_border_include.ensures ∙ c.if-is_intersect_border_include.true) in
    sym (list_any-from_Has (λ q. do_rects_meet q (rect_of whole c.args.around.now)) (rects_of whole boxes) r
    (Has-from_Contains (rects_of whole boxes) r (place, inside, get_or-map (rect_of whole) boxes place rect r c.loop-place-test.true)) meets)

pub loop-place-preserved : goal.loop-place-preserved
loop-place-preserved g c =
    let whole = g.I.OverlayInt.whole in
    let boxes = c.args.boxes.now in
    let place = c.loop-place.place in
    let rect = c.index-boxes-place-in-loop-place.result in
    let around = rect_of whole c.args.around.now in
    let off : do_rects_meet (rect_of whole (get_or boxes place rect)) around ≡ false = subst (λ q. do_rects_meet (rect_of whole q) around ≡ false) c.index-boxes-place-in-loop-place.is (sym c.is_intersect_border_include.ensures ∙ c.if-is_intersect_border_include.false) in
    AllWithin-more (λ r. do_rects_meet r around ≡ false) (rects_of whole boxes) 0 place c.loop-place.invariant
    (λ d. subst (λ r. do_rects_meet r around ≡ false) (sym (get_or-map (rect_of whole) boxes place rect d c.loop-place-test.true)) off)

pub returns : goal.returns
returns g c = λ some.
    let whole = g.I.OverlayInt.whole in
    let boxes = c.args.boxes.now in
    let size = length-map boxes (rect_of whole) in
    let test = c.loop-place-test.false in
    none_meet (rects_of whole boxes) (rect_of whole c.args.around.now) c.loop-place.place c.loop-place.invariant (omega (arith, size, test))
