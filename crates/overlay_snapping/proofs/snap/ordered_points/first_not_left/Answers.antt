use Rattle.std.proofs.Common.{◌≡◌, ◌∙◌, sym, ◌-◌, arith, get_or}
use Rattle.std.specs.Prelude.{◌<ℤ◌, int_lt, int_le}
use Rattle.std.proofs.lemmas.Option.{slice_get-get_or}
use Rattle.overlay_geometry.proofs.laws.geometry.Comparisons.{int_lt-by_cmp}
use Rattle.overlay_geometry.proofs.laws.integers.Tests.{lt-tested, le-tested_false}
use Rattle.overlay_snapping.proofs.laws.cells.InOrder.{left_before, int_le-by_cmp}
use Rattle.overlay_snapping.proofs.snap.ordered_points.first_not_left.Goals as goal
use Rattle.overlay_snapping.proofs.snap.ordered_points.first_not_left.Goals.{then-loop-place-test+else-le, else-loop-place-test}

pub loop-place-2-init : goal.loop-place-2-init
loop-place-2-init g c =
    let whole = g.I.OverlayInt.whole in
    let points = c.args.points.now in
    let place = c.loop-place.place in (
      c.loop-place.invariant,
      elim c.loop-place-test.branch [
        | then-loop-place-test+else-le w ↦
            let some = w.loop-place-test.true in
            let bound = c.loop-place.invariant in
            let last = get_or points (place - 1) w.index-points-place.result in
            let reaches : int_le (whole c.args.x) (whole last.x) ≡ w.le.result = sym (simp (g.met.I.Ord.matches_partial_cmp, g.met.I.OverlayInt.ordered, int_le-by_cmp) at w.le.ensures) in
            let left : whole last.x <ℤ whole c.args.x = le-tested_false (whole c.args.x) (whole last.x) (reaches ∙ w.if-le.false) in
            λ i p h f. left_before whole points c.requires.in_order (place - 1) last (whole c.args.x) (slice_get-get_or points (place - 1) w.index-points-place.result (omega (arith, some, bound))) left i p (omega (arith, some, h)) f
        | else-loop-place-test w ↦ let none = w.loop-place-test.false in λ i p h f. absurd (omega (arith, none, h))
      ],
    )

pub loop-place-2-preserved : goal.loop-place-2-preserved
loop-place-2-preserved g c =
    let whole = g.I.OverlayInt.whole in
    let place = c.loop-place-2.place in
    let point = get_or c.args.points.now place c.index-points-place-in-loop-place-2.result in
    let within = c.loop-place-2-test.true in
    let less : int_lt (whole point.x) (whole c.args.x) ≡ c.lt.result = sym (simp (g.met.I.Ord.matches_partial_cmp, g.met.I.OverlayInt.ordered, int_lt-by_cmp) at c.lt.ensures) in
    let left : whole point.x <ℤ whole c.args.x = lt-tested (whole point.x) (whole c.args.x) (less ∙ c.if-lt.true) in
    (omega (arith, within), left_before whole c.args.points.now c.requires.in_order place point (whole c.args.x) (slice_get-get_or c.args.points.now place c.index-points-place-in-loop-place-2.result within) left)
