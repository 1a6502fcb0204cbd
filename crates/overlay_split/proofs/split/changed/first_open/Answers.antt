use Rattle.std.proofs.Common.{◌≡◌, ◌∙◌, sym, subst, arith, get_or}
use Rattle.std.specs.Prelude.{int_lt, ◌<ℤ◌}
use Rattle.std.proofs.lemmas.List.{get_or-map}
use Rattle.std.proofs.lemmas.List.Elements.{AllWithin-more}
use Rattle.overlay_geometry.specs.RangeOf.{rect_of}
use Rattle.overlay_geometry.proofs.laws.geometry.Comparisons.{int_lt-by_cmp}
use Rattle.overlay_geometry.proofs.laws.integers.Tests.{lt-tested}
use Rattle.overlay_split.specs.steps.ChangedBoxes.{rects_of}
use Rattle.overlay_split.proofs.split.changed.first_open.Goals as goal

pub loop-place-preserved : goal.loop-place-preserved
loop-place-preserved g c =
    let whole = g.I.OverlayInt.whole in
    let boxes = c.args.boxes.now in
    let place = c.loop-place.place in
    let rect = c.index-boxes-place.result in
    let from = c.loop-place.invariant.from in
    let inside = c.loop-place-test.true in
    let less : int_lt (whole (get_or boxes place rect).max_x) (whole c.args.x) ≡ c.lt.result = sym (simp (g.met.I.Ord.matches_partial_cmp, g.met.I.OverlayInt.ordered, int_lt-by_cmp) at c.lt.ensures) in
    let here : whole (get_or boxes place rect).max_x <ℤ whole c.args.x = lt-tested (whole (get_or boxes place rect).max_x) (whole c.args.x) (less ∙ c.if-lt.true) in
    record {
      from = omega (arith, from);
      within = omega (arith, inside);
      over = AllWithin-more (λ r. r.max_x <ℤ whole c.args.x) (rects_of whole boxes) c.args.from place c.loop-place.invariant.over
          (λ d. subst (λ r. r.max_x <ℤ whole c.args.x) (sym (get_or-map (rect_of whole) boxes place rect d inside)) here);
    }
