use Rattle.std.proofs.Common.{◌≡◌, ◌∙◌, ap, sym, refl, subst, arith}
use Rattle.std.specs.Prelude.{suc, ◌≤ℤ◌}
use Rattle.std.proofs.lemmas.Int.{ints}
use Rattle.std.proofs.lemmas.Result.{IfOk-from_err}
use Rattle.overlay_geometry.specs.Points.{Pair}
use Rattle.overlay_base.specs.Segments.{WholeSegment}
use Rattle.overlay_base.specs.Windings.{add, weight}
use Rattle.overlay_geometry.specs.PairOf.{pair_of}
use Rattle.overlay_geometry.specs.VSegmentOf.{v_pair_of}
use Rattle.overlay_base.specs.SegmentOf.{ends_of, winding_of}
use Rattle.overlay_sweep.proofs.laws.live.LiveSums.{HoldSameFrom-renamed, HoldSameFrom-vertical, vertical_same}
use Rattle.overlay_sweep.proofs.laws.visits.LookCosts.{uncalled_pays, adds_paid}
use Rattle.overlay_sweep.proofs.build.visits.visit.Goals as goal
use Rattle.overlay_sweep.proofs.build.visits.visit.Goals.{then-is_not_vertical+in_ok-insert, else-is_not_vertical}

pub returns-clause-live : goal.returns-clause-live
returns-clause-live g c =
    let own : pair_of g.I.OverlayInt.whole c.x_segment-ends.result ≡ ends_of c.args.segment.now = ap (pair_of g.I.OverlayInt.whole) c.x_segment-ends.ensures in
    let entry : WholeSegment = record { pair = ends_of c.args.segment.now; count = add (weight (g.C.WindingCount.winding c.args.bottom)) (weight (winding_of c.args.segment.now)) } in
    elim c.if-is_not_vertical.branch [
      | then-is_not_vertical+in_ok-insert w ↦
          let pair : v_pair_of g.I.OverlayInt.whole w.from.result ≡ ends_of c.args.segment.now = ap (v_pair_of g.I.OverlayInt.whole) w.from.ensures ∙ own in
          rw w.live-is (HoldSameFrom-renamed _ _ _ _ _ _ _ (ap (λ (s : Pair). s.a.x) own) refl (λ i. record { pair = pair i; count = (c.in_ok-top.ensures.sum ∙ ap (λ v. add (weight (g.C.WindingCount.winding c.args.bottom)) (weight (g.C.WindingCount.winding v))) c.count.ensures) i }) w.in_ok-insert.ensures.sums)
      | else-is_not_vertical w ↦
          let upright = vertical_same (pair_of g.I.OverlayInt.whole c.x_segment-ends.result) (sym c.is_not_vertical.ensures ∙ w.if-is_not_vertical.false) in
          rw w.live-is (HoldSameFrom-vertical (ends_of c.args.segment.now).a.x entry _ (subst (λ (s : Pair). s.a.x ≡ s.b.x) own upright))
    ]

pub returns-clause-time : goal.returns-clause-time
returns-clause-time g c =
    let own : pair_of g.I.OverlayInt.whole c.x_segment-ends.result ≡ ends_of c.args.segment.now = ap (pair_of g.I.OverlayInt.whole) c.x_segment-ends.ensures in
    elim c.if-is_not_vertical.branch [
      | then-is_not_vertical+in_ok-insert w ↦ λ y h. rw w.live-is (w.in_ok-insert.ensures.time y (subst (λ (s : Pair). s.a.x ≤ℤ y) (sym own) h))
      | else-is_not_vertical w ↦ λ y h. rw w.live-is (c.requires.time y h)
    ]

pub returns-clause-asked : goal.returns-clause-asked
returns-clause-asked g c =
    let own : pair_of g.I.OverlayInt.whole c.x_segment-ends.result ≡ ends_of c.args.segment.now = ap (pair_of g.I.OverlayInt.whole) c.x_segment-ends.ensures in
    elim c.if-is_not_vertical.branch [
      | then-is_not_vertical+in_ok-insert w ↦ λ h. rw w.live-is (omega (arith, w.compared-is, w.saturating_add.ensures, w.compared.ensures))
      | else-is_not_vertical w ↦ λ h.
          let upright = vertical_same (pair_of g.I.OverlayInt.whole c.x_segment-ends.result) (sym c.is_not_vertical.ensures ∙ w.if-is_not_vertical.false) in
          absurd (omega (arith, ints, h, subst (λ (s : Pair). s.a.x ≡ s.b.x) own upright))
    ]

pub returns-in-Break-clause-most : goal.returns-in-Break-clause-most
returns-in-Break-clause-most g c = λ n d within most. uncalled_pays c.args.compared.now (g.S.LiveSegments.held c.args.live.now) d

pub returns-clause-held : goal.returns-clause-held
returns-clause-held g c = elim c.if-is_not_vertical.branch [
  | then-is_not_vertical+in_ok-insert w ↦ rw w.live-is w.in_ok-insert.ensures.held
  | else-is_not_vertical w ↦ rw w.live-is (omega arith)
]

pub returns-clause-most : goal.returns-clause-most
returns-clause-most g c = λ n d within most. elim c.if-is_not_vertical.branch [
  | then-is_not_vertical+in_ok-insert w ↦
      rw w.live-is (adds_paid c.args.compared.now _ (g.S.LiveSegments.asked w.insert.new.self) _ (suc (suc (g.S.LiveSegments.held c.args.live.now))) d (omega (arith, w.compared-is, w.saturating_add.ensures, w.compared.ensures)) (w.in_ok-insert.ensures.most n d within most))
  | else-is_not_vertical w ↦ rw w.live-is (rw w.compared-is (uncalled_pays c.args.compared.now (g.S.LiveSegments.held c.args.live.now) d))
]

pub add_and_fill-requires-clause-this : goal.add_and_fill-requires-clause-this
add_and_fill-requires-clause-this g c = rw c.count.ensures c.requires.count

pub add_and_fill-requires-clause-bot : goal.add_and_fill-requires-clause-bot
add_and_fill-requires-clause-bot g c = c.requires.bottom

pub returns-in_err-top-clause-in_range : goal.returns-in_err-top-clause-in_range
returns-in_err-top-clause-in_range g c = IfOk-from_err c.from_residual.result _ c.from_residual.ensures.0

pub returns-in_err-top-clause-top : goal.returns-in_err-top-clause-top
returns-in_err-top-clause-top g c = IfOk-from_err c.from_residual.result _ c.from_residual.ensures.0

pub returns-in_err-top-clause-answer : goal.returns-in_err-top-clause-answer
returns-in_err-top-clause-answer g c = IfOk-from_err c.from_residual.result _ c.from_residual.ensures.0

pub returns-in_err-top-clause-handler : goal.returns-in_err-top-clause-handler
returns-in_err-top-clause-handler g c = IfOk-from_err c.from_residual.result _ c.from_residual.ensures.0

pub returns-in_err-top-clause-live : goal.returns-in_err-top-clause-live
returns-in_err-top-clause-live g c = IfOk-from_err c.from_residual.result _ c.from_residual.ensures.0

pub returns-in_err-top-clause-time : goal.returns-in_err-top-clause-time
returns-in_err-top-clause-time g c = IfOk-from_err c.from_residual.result _ c.from_residual.ensures.0

pub returns-in_err-top-clause-asked : goal.returns-in_err-top-clause-asked
returns-in_err-top-clause-asked g c = IfOk-from_err c.from_residual.result _ c.from_residual.ensures.0

pub returns-in_err-top-clause-held : goal.returns-in_err-top-clause-held
returns-in_err-top-clause-held g c = IfOk-from_err c.from_residual.result _ c.from_residual.ensures.0

pub returns-in_err-top-clause-most : goal.returns-in_err-top-clause-most
returns-in_err-top-clause-most g c = IfOk-from_err c.from_residual.result _ c.from_residual.ensures.0

pub handle-requires : goal.handle-requires
handle-requires g c = c.requires.takes

pub insert-requires-clause-in_range : goal.insert-requires-clause-in_range
insert-requires-clause-in_range g c =
    rw (c.from.ensures, c.x_segment-ends.ensures) (record { a_in_range = c.requires.in_range.a_in_range; b_in_range = c.requires.in_range.b_in_range })

pub insert-requires-clause-start : goal.insert-requires-clause-start
insert-requires-clause-start g c = rw c.from.ensures refl

pub insert-requires-clause-time : goal.insert-requires-clause-time
insert-requires-clause-time g c = rw c.x_segment-ends.ensures (c.requires.time _ (omega (arith, ints)))

pub insert-requires-clause-free : goal.insert-requires-clause-free
insert-requires-clause-free g c =
    rw (c.from.ensures, c.x_segment-ends.ensures, c.in_ok-top.ensures.sum, c.count.ensures) c.requires.free

pub returns-in_err-insert-clause-in_range : goal.returns-in_err-insert-clause-in_range
returns-in_err-insert-clause-in_range g c = IfOk-from_err c.from_residual-in_err-insert.result _ c.from_residual-in_err-insert.ensures.0

pub returns-in_err-insert-clause-top : goal.returns-in_err-insert-clause-top
returns-in_err-insert-clause-top g c = IfOk-from_err c.from_residual-in_err-insert.result _ c.from_residual-in_err-insert.ensures.0

pub returns-in_err-insert-clause-answer : goal.returns-in_err-insert-clause-answer
returns-in_err-insert-clause-answer g c = IfOk-from_err c.from_residual-in_err-insert.result _ c.from_residual-in_err-insert.ensures.0

pub returns-in_err-insert-clause-handler : goal.returns-in_err-insert-clause-handler
returns-in_err-insert-clause-handler g c = IfOk-from_err c.from_residual-in_err-insert.result _ c.from_residual-in_err-insert.ensures.0

pub returns-in_err-insert-clause-live : goal.returns-in_err-insert-clause-live
returns-in_err-insert-clause-live g c = IfOk-from_err c.from_residual-in_err-insert.result _ c.from_residual-in_err-insert.ensures.0

pub returns-in_err-insert-clause-time : goal.returns-in_err-insert-clause-time
returns-in_err-insert-clause-time g c = IfOk-from_err c.from_residual-in_err-insert.result _ c.from_residual-in_err-insert.ensures.0

pub returns-in_err-insert-clause-asked : goal.returns-in_err-insert-clause-asked
returns-in_err-insert-clause-asked g c = IfOk-from_err c.from_residual-in_err-insert.result _ c.from_residual-in_err-insert.ensures.0

pub returns-in_err-insert-clause-held : goal.returns-in_err-insert-clause-held
returns-in_err-insert-clause-held g c = IfOk-from_err c.from_residual-in_err-insert.result _ c.from_residual-in_err-insert.ensures.0

pub returns-in_err-insert-clause-most : goal.returns-in_err-insert-clause-most
returns-in_err-insert-clause-most g c = IfOk-from_err c.from_residual-in_err-insert.result _ c.from_residual-in_err-insert.ensures.0

pub returns-clause-top : goal.returns-clause-top
returns-clause-top g c = rw (c.in_ok-top.ensures.sum, c.count.ensures) refl

pub returns-clause-answer : goal.returns-clause-answer
returns-clause-answer g c = rw (c.in_ok-top.ensures.fill, c.count.ensures) at c.in_default.ensures.answer

pub returns-clause-handler : goal.returns-clause-handler
returns-clause-handler g c = rw (c.handle.ensures.handler, c.in_ok-top.ensures.fill, c.count.ensures) refl

pub returns-in-Break-clause-answer : goal.returns-in-Break-clause-answer
returns-in-Break-clause-answer g c = rw (c.in_ok-top.ensures.fill, c.count.ensures) at c.in-Break.ensures.answer

pub returns-in-Break-clause-handler : goal.returns-in-Break-clause-handler
returns-in-Break-clause-handler g c = rw (c.handle.ensures.handler, c.in_ok-top.ensures.fill, c.count.ensures) refl
