use Rattle.std.proofs.Common.{◌≡◌, ◌∙◌, ◌⊎◌, sym, subst, ◌+◌, List, map, take, take_all, Some}
use Rattle.std.specs.Prelude.{Contains, ◌<ℤ◌, int_lt, slice_get}
use Rattle.std.proofs.lemmas.Option.{slice_get-get_or}
use Rattle.overlay_geometry.specs.Points.{Point}
use Rattle.overlay_geometry.specs.PointOf.{point_of}
use Rattle.overlay_geometry.specs.PairOf.{pair_of}
use Rattle.overlay_geometry.specs.Coordinates.{is_point_in_range}
use Rattle.overlay_geometry.proofs.laws.geometry.Comparisons.{int_lt-by_cmp}
use Rattle.overlay_geometry.proofs.laws.integers.Tests.{lt-tested}
use Rattle.overlay_snapping.proofs.laws.cells.Added.{adds_fewer, adds_point, adds_no_point, pushed_point, taken_or_next}
use Rattle.overlay_snapping.proofs.laws.cells.InOrder.{left_not_met, met_before, adds_none_met}
use Rattle.overlay_snapping.proofs.laws.cells.Users.{item_in}
use Rattle.overlay_snapping.proofs.laws.point_trees.MetPlaces.{passes_at}
use Rattle.overlay_snapping.proofs.snap.ordered_points.append_met_from.Goals as goal
use Rattle.overlay_snapping.proofs.snap.ordered_points.append_met_from.Goals.{then-is_met+in_ok-push, else-is_met}

pub loop-index-init : goal.loop-index-init
loop-index-init g c =
    let whole = g.I.OverlayInt.whole in
    let s = pair_of whole c.args.segment.now in
    adds_none_met s (map (point_of whole) c.args.points.now) (λ q. Contains (map (point_of whole) (take c.args.first c.args.points.now)) q) (map (point_of whole) c.args.met.now.items)
    (left_not_met whole c.args.points.now s c.requires.ordered c.args.first c.requires.left)

pub returns-then-lt : goal.returns-then-lt
returns-then-lt g c =
    let whole = g.I.OverlayInt.whole in
    let s = pair_of whole c.args.segment.now in
    let i = c.loop-index.index in
    let point = c.index-points-index.result in
    let points = map (point_of whole) c.args.points.now in
    let less : int_lt (whole c.args.segment.now.b.x) (whole point.x) ≡ c.lt.result = sym (simp (g.met.I.Ord.matches_partial_cmp, g.met.I.OverlayInt.ordered, int_lt-by_cmp) at c.lt.ensures) in
    let right : whole c.args.segment.now.b.x <ℤ whole point.x = lt-tested (whole c.args.segment.now.b.x) (whole point.x) (less ∙ c.if-lt.true) in
    adds_fewer s points (λ q. Contains (map (point_of whole) (take i c.args.points.now)) q) (λ q. Contains points q) (map (point_of whole) c.args.met.now.items) (map (point_of whole) c.loop-index.met.items)
    (λ q k m j. met_before whole c.args.points.now c.requires.in_order s c.requires.ordered i point (subst (λ z. slice_get c.args.points.now i ≡ Some z) (sym c.index-points-index.is) (slice_get-get_or c.args.points.now i point c.loop-index-test.true)) right q k m) c.loop-index.invariant

pub is_met-requires-clause-point : goal.is_met-requires-clause-point
is_met-requires-clause-point g c =
    let whole = g.I.OverlayInt.whole in
    passes_at (is_point_in_range (whole g.I.OverlayInt.MIN_COORD) (whole g.I.OverlayInt.MAX_COORD)) (point_of whole) c.args.points.now c.loop-index.index c.index-points-index.result c.loop-index-test.true c.index-points-index.is c.requires.points

pub loop-index-preserved : goal.loop-index-preserved
loop-index-preserved g c =
    let whole = g.I.OverlayInt.whole in
    let s = pair_of whole c.args.segment.now in
    let items = c.args.points.now in
    let points = map (point_of whole) items in
    let i = c.loop-index.index in
    let x = c.index-points-index.result in
    let p = point_of whole x in
    let old = map (point_of whole) c.args.met.now.items in
    let now = map (point_of whole) c.loop-index.met.items in
    let there = item_in whole items i x c.loop-index-test.true c.index-points-index.is in
    let before = λ (q : Point). Contains (map (point_of whole) (take i items)) q in
    let after = λ (q : Point). Contains (map (point_of whole) (take (i + 1) items)) q in
    let split : (q : Point) → Contains points q → after q → before q ⊎ (p ≡ q) = λ q k j. taken_or_next (point_of whole) items i x c.loop-index-test.true c.index-points-index.is q j in
    elim c.if-is_met.branch [
      | then-is_met+in_ok-push w ↦
          rw w.met-is (adds_point s points before after old now (map (point_of whole) w.push.new.self.items) p c.loop-index.invariant there (sym c.is_met.ensures ∙ w.if-is_met.true)
          (pushed_point (point_of whole) c.loop-index.met.items w.push.new.self.items x w.in_ok-push.ensures.items) split)
      | else-is_met w ↦ rw w.met-is (adds_no_point s points before after old now p c.loop-index.invariant (sym c.is_met.ensures ∙ w.if-is_met.false) split)
    ]

pub returns : goal.returns
returns g c =
    let whole = g.I.OverlayInt.whole in
    let items = c.args.points.now in
    let i = c.loop-index.index in
    adds_fewer (pair_of whole c.args.segment.now) (map (point_of whole) items) (λ q. Contains (map (point_of whole) (take i items)) q) (λ q. Contains (map (point_of whole) items) q) (map (point_of whole) c.args.met.now.items) (map (point_of whole) c.loop-index.met.items)
    (λ q k m j. subst (λ (l : List _). Contains (map (point_of whole) l) q) (sym (take_all i items c.loop-index-test.false)) k) c.loop-index.invariant
