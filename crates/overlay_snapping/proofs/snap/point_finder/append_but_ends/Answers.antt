use Rattle.std.proofs.Common.{◌≡◌, ◌∙◌, ◌⊎◌, sym, subst, refl, inl, inr, ⊎_elim, ℕ, ◌+◌, Some, List, get_or, take, take_all, map, arith}
use Rattle.std.specs.Prelude.{Contains, slice_get}
use Rattle.overlay_geometry.specs.Points.{Point}
use Rattle.overlay_geometry.specs.PointOf.{point_of}
use Rattle.overlay_geometry.specs.PairOf.{pair_of}
use Rattle.overlay_snapping.proofs.laws.closure.Elements.{no_element, contained, found_at, one_element}
use Rattle.overlay_snapping.proofs.laws.cuts.Places.{taken_split, place_in, met_within, met_at, met_meets}
use Rattle.overlay_snapping.proofs.laws.cells.Added.{adds_nothing, adds_fewer, adds_point, adds_no_point, pushed_point}
use Rattle.overlay_snapping.proofs.laws.cells.NotMet.{end_not_met, no_end_met, met_meets_pixel}
use Rattle.overlay_snapping.proofs.snap.point_finder.append_but_ends.Goals as goal
use Rattle.overlay_snapping.proofs.snap.point_finder.append_but_ends.Goals.{then-not-is_end+in_ok-push, else-not-is_end}

pub loop-place-init : goal.loop-place-init
loop-place-init g c =
    adds_nothing (pair_of g.I.OverlayInt.whole c.args.segment.now) (map (point_of g.I.OverlayInt.whole) c.args.points.now) _ (map (point_of g.I.OverlayInt.whole) c.args.met.now.items) (λ q h. no_element h.0 h.1)

pub bounds-points-place : goal.bounds-points-place
bounds-points-place g c =
    let whole = g.I.OverlayInt.whole in
    met_within whole (pair_of whole c.args.segment.now) c.args.points.now c.args.points.now refl c.args.places.now c.requires.places c.loop-place.place-index c.loop-place-test.true

pub offset_bounds-points-place : goal.offset_bounds-points-place
offset_bounds-points-place g c =
    let whole = g.I.OverlayInt.whole in
    let within = met_within whole (pair_of whole c.args.segment.now) c.args.points.now c.args.points.now refl c.args.places.now c.requires.places c.loop-place.place-index c.loop-place-test.true in
    omega (arith, within)

pub loop-place-preserved : goal.loop-place-preserved
loop-place-preserved g c =
    let whole = g.I.OverlayInt.whole in
    let s = pair_of whole c.args.segment.now in
    let xs = c.args.points.now in
    let points = map (point_of whole) xs in
    let met = c.args.places.now in
    let i = c.loop-place.place-index in
    let inside = c.loop-place-test.true in
    let x = c.index-points-place.result in
    let p = point_of whole x in
    let at = met_at whole s xs xs refl met c.requires.places i inside x c.index-points-place.is in
    let meets = met_meets whole s xs xs refl met c.requires.places i inside x c.index-points-place.is in
    let old = map (point_of whole) c.args.met.now.items in
    let now = map (point_of whole) c.loop-place.met.items in
    let before = λ (q : Point). (k : ℕ) × Contains (take i met) k × (slice_get points k ≡ Some q) in
    let after = λ (q : Point). (k : ℕ) × Contains (take (i + 1) met) k × (slice_get points k ≡ Some q) in
    let split : (q : Point) → Contains points q → after q → before q ⊎ (p ≡ q) = λ q j h.
    ⊎_elim (λ k. inl (h.0, k, h.2)) (λ e. inr (one_element points (get_or met i 0) p q at (subst (λ (k : ℕ). slice_get points k ≡ Some q) (sym e) h.2))) (taken_split met i 0 inside h.0 h.1) in
    elim c.if-not-is_end.branch [
      | then-not-is_end+in_ok-push w ↦
          rw w.met-is (adds_point s points before after old now (map (point_of whole) w.push.new.self.items) p c.loop-place.invariant (contained points (get_or met i 0) p at)
          (no_end_met s p (sym c.is_end.ensures ∙ w.if-not-is_end.true) ∙ meets) (pushed_point (point_of whole) c.loop-place.met.items w.push.new.self.items x w.in_ok-push.ensures.items) split)
      | else-not-is_end w ↦ rw w.met-is (adds_no_point s points before after old now p c.loop-place.invariant (end_not_met s p (sym c.is_end.ensures ∙ w.if-not-is_end.false)) split)
    ]

pub returns : goal.returns
returns g c =
    let whole = g.I.OverlayInt.whole in
    let s = pair_of whole c.args.segment.now in
    let points = map (point_of whole) c.args.points.now in
    let met = c.args.places.now in
    let i = c.loop-place.place-index in
    let all = take_all i met c.loop-place-test.false in
    adds_fewer s points (λ (q : Point). (k : ℕ) × Contains (take i met) k × (slice_get points k ≡ Some q)) (λ (q : Point). Contains points q) (map (point_of whole) c.args.met.now.items) (map (point_of whole) c.loop-place.met.items)
    (λ q j m k.
    let at = found_at points q j in
    (at.0, subst (λ (l : List ℕ). Contains l at.0) (sym (all ∙ c.requires.places)) (place_in s points at.0 q at.1 (met_meets_pixel s q m)), at.1))
    c.loop-place.invariant
