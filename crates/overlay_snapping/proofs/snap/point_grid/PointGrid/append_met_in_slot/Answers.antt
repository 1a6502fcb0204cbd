use Rattle.std.proofs.Common.{◌≡◌, ◌∙◌, ◌⊎◌, sym, subst, refl, ℕ, ◌+◌, ◌-◌, ◌<◌, ◌≤◌, Some, length, map, arith}
use Rattle.std.specs.Prelude.{Contains, slice_get}
use Rattle.std.proofs.lemmas.List.{get_or_default, length-map}
use Rattle.overlay_geometry.specs.Points.{Point}
use Rattle.overlay_geometry.specs.PointOf.{point_of}
use Rattle.overlay_geometry.specs.PairOf.{pair_of}
use Rattle.overlay_geometry.specs.Coordinates.{is_point_in_range}
use Rattle.overlay_snapping.specs.PointGridOf.{points_in}
use Rattle.overlay_snapping.specs.steps.Cells.{slot_at}
use Rattle.overlay_snapping.proofs.laws.closure.Elements.{contained}
use Rattle.overlay_snapping.proofs.laws.cuts.Places.{point_there}
use Rattle.overlay_snapping.proofs.laws.cells.Added.{adds_nothing, adds_fewer, adds_point, adds_no_point, pushed_point}
use Rattle.overlay_snapping.proofs.laws.cells.Users.{in_range_at}
use Rattle.overlay_snapping.proofs.laws.cells.Walked.{IsPast, none_past, first_own, past_next, next_own, next_less, all_past}
use Rattle.overlay_snapping.proofs.snap.point_grid.PointGrid.append_met_in_slot.Goals as goal
use Rattle.overlay_snapping.proofs.snap.point_grid.PointGrid.append_met_in_slot.Goals.{then-is_met+in_ok-push, else-is_met}

pub loop-at-init : goal.loop-at-init
loop-at-init g c =
    let whole = g.I.OverlayInt.whole in
    let self = c.args.self.now in
    let points = points_in self in
    let h = self.chained c.requires.uncrowded in
    let head = c.head-at.ensures in
    let within = h.heads_within c.args.slot in
    record {
      done = adds_nothing (pair_of whole c.args.segment.now) points (IsPast self.mask self.size points c.args.slot c.head-at.result) (map (point_of whole) c.args.met.now.items)
          (λ q p. none_past self.mask self.size points self.heads.items self.nexts.items h c.args.slot q (subst (λ (n : ℕ). IsPast self.mask self.size points c.args.slot n q) head p));
      within = omega (arith, head, within);
      own = λ i q at e. first_own self.mask self.size points self.heads.items self.nexts.items h c.args.slot i q at (sym head ∙ e);
    }

pub is_met-requires-clause-point : goal.is_met-requires-clause-point
is_met-requires-clause-point g c =
    let whole = g.I.OverlayInt.whole in
    let items = c.args.self.now.points.items in
    let at = c.loop-at.at in
    let some = c.loop-at-test.true in
    let bound = c.loop-at.invariant.within in
    let long = length-map items (point_of whole) in
    let within : at - 1 < length items = omega (arith, some, bound, long) in
    let x = c.index-point.result.now in
    in_range_at whole (is_point_in_range (whole g.I.OverlayInt.MIN_COORD) (whole g.I.OverlayInt.MAX_COORD)) items items refl c.args.self.now.in_range (at - 1) x within (c.index-point.ensures ∙ get_or_default items (at - 1) _ x within)

pub loop-at-preserved : goal.loop-at-preserved
loop-at-preserved g c =
    let whole = g.I.OverlayInt.whole in
    let self = c.args.self.now in
    let s = pair_of whole c.args.segment.now in
    let points = points_in self in
    let items = self.points.items in
    let h = self.chained c.requires.uncrowded in
    let at = c.loop-at.at in
    let some = c.loop-at-test.true in
    let bound = c.loop-at.invariant.within in
    let long = length-map items (point_of whole) in
    let within : at - 1 < length items = omega (arith, some, bound, long) in
    let is : at ≡ at - 1 + 1 = omega (arith, some) in
    let x = c.index-point.result.now in
    let p = point_of whole x in
    let there : slice_get points (at - 1) ≡ Some p = point_there whole items (at - 1) x within (c.index-point.ensures ∙ get_or_default items (at - 1) _ x within) in
    let own = c.loop-at.invariant.own (at - 1) p there is in
    let next = c.next-at.ensures in
    let less = next_less self.mask self.size points self.heads.items self.nexts.items h c.args.slot at (at - 1) p there is own in
    let old = map (point_of whole) c.args.met.now.items in
    let now = map (point_of whole) c.loop-at.met.items in
    let before = λ (q : Point). IsPast self.mask self.size points c.args.slot at q in
    let after = λ (q : Point). IsPast self.mask self.size points c.args.slot c.next-at.result q in
    let split : (q : Point) → Contains points q → after q → before q ⊎ (p ≡ q) = λ q k past. past_next self.mask self.size points self.heads.items self.nexts.items h c.args.slot at (at - 1) p there is own q (subst (λ (n : ℕ). IsPast self.mask self.size points c.args.slot n q) next past) in
    let in_bounds : c.next-at.result ≤ length points = omega (arith, next, less, bound) in
    let owns : (i : ℕ) (q : Point) → slice_get points i ≡ Some q → c.next-at.result ≡ i + 1 → slot_at self.mask self.size q ≡ c.args.slot = λ i q k e. next_own self.mask self.size points self.heads.items self.nexts.items h c.args.slot at (at - 1) p there is own i q k (sym next ∙ e) in
    elim c.if-is_met.branch [
      | then-is_met+in_ok-push w ↦
          record {
            done = rw w.met-is (adds_point s points before after old now (map (point_of whole) w.push.new.self.items) p c.loop-at.invariant.done (contained points (at - 1) p there) (sym c.is_met.ensures ∙ w.if-is_met.true)
                (pushed_point (point_of whole) c.loop-at.met.items w.push.new.self.items x w.in_ok-push.ensures.items) split);
            within = in_bounds;
            own = owns;
          }
      | else-is_met w ↦
          record {
            done = rw w.met-is (adds_no_point s points before after old now p c.loop-at.invariant.done (sym c.is_met.ensures ∙ w.if-is_met.false) split);
            within = in_bounds;
            own = owns;
          }
    ]

pub returns : goal.returns
returns g c =
    let whole = g.I.OverlayInt.whole in
    let self = c.args.self.now in
    let points = points_in self in
    let past = c.loop-at-test.false in
    adds_fewer (pair_of whole c.args.segment.now) points (IsPast self.mask self.size points c.args.slot c.loop-at.at) (λ (q : Point). slot_at self.mask self.size q ≡ c.args.slot) (map (point_of whole) c.args.met.now.items) (map (point_of whole) c.loop-at.met.items)
    (λ q i m own. all_past self.mask self.size points c.args.slot c.loop-at.at (omega (arith, past)) q i own) c.loop-at.invariant.done
