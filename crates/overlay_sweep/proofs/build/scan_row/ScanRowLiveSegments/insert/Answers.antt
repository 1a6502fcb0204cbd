use Rattle.std.proofs.Common.{◌≡◌, ◌∙◌, ◌+◌, ap, sym, subst, arith, add-one, length}
use Rattle.std.specs.Prelude.{suc, ◌∷◌}
use Rattle.std.proofs.lemmas.List.{length-map}
use Rattle.overlay_sweep.specs.EntryOf.{entry_of, entries_of, summed}
use Rattle.overlay_sweep.specs.Live.{HoldSameFrom}
use Rattle.overlay_sweep.specs.LiveRows.{lasts_past, segment_at, is_below_or_from, IsScanRow}
use Rattle.overlay_sweep.specs.LivePositions.{IsLivePosition}
use Rattle.overlay_geometry.specs.Points.{Point}
use Rattle.overlay_sweep.proofs.laws.list.ListAnswers.{row_later}
use Rattle.overlay_sweep.proofs.laws.list.LastingRows.{put_sums, put_row, over_sums, over_row, put_in, put_longer}
use Rattle.overlay_geometry.specs.PointOf.{point_of}
use Rattle.overlay_sweep.proofs.laws.list.Cursors.{cursor_row, cursor_put, cursor_over}
use Rattle.overlay_sweep.proofs.laws.visits.LookCosts.{pays_for_one}
use Rattle.overlay_sweep.proofs.build.scan_row.ScanRowLiveSegments.insert.Goals as goal

pub returns-in-Ok-clause-sums : goal.returns-in-Ok-clause-sums
returns-in-Ok-clause-sums g c =
    let x = g.I.OverlayInt.whole c.args.x in
    let was = entries_of c.args.self.now.entries.items in
    let kept = c.settle_segment-position.new.self.entries.items in
    let new = summed g.C.WindingCount.winding g.I.OverlayInt.whole c.args.segment c.args.sum in
    put_in entry_of x kept c.put.new.self.entries.items c.settle_segment-position.result _ c.in-Ok.ensures.put (λ l. HoldSameFrom x l (new ∷ was))
    (put_sums x was (entries_of kept) c.settle_segment-position.ensures.kept new c.settle_segment-position.result (rw (length-map kept entry_of) c.settle_segment-position.ensures.position) c.requires.wide)
    (λ inside ended. over_sums x was (entries_of kept) c.settle_segment-position.ensures.kept new c.settle_segment-position.result (rw (length-map kept entry_of) c.settle_segment-position.ensures.position) c.requires.wide inside ended)

pub returns-in-Ok-clause-time : goal.returns-in-Ok-clause-time
returns-in-Ok-clause-time g c = λ y h.
    let x = g.I.OverlayInt.whole c.args.x in
    let was = entries_of c.args.self.now.entries.items in
    let kept = c.settle_segment-position.new.self.entries.items in
    let new = summed g.C.WindingCount.winding g.I.OverlayInt.whole c.args.segment c.args.sum in
    let begun = c.settle_segment-position.ensures.begun _ c.requires.time.row.begun in
    let row : IsScanRow x (entries_of c.put.new.self.entries.items) = (put_in entry_of x kept c.put.new.self.entries.items c.settle_segment-position.result _ c.in-Ok.ensures.put (λ l. IsScanRow x l)
    (put_row x was (entries_of kept) c.settle_segment-position.ensures.kept new c.settle_segment-position.result (rw (length-map kept entry_of) c.settle_segment-position.ensures.position) c.requires.wide c.requires.time.row c.requires.free c.requires.start begun)
    (λ inside ended. over_row x was (entries_of kept) c.settle_segment-position.ensures.kept new c.settle_segment-position.result (rw (length-map kept entry_of) c.settle_segment-position.ensures.position) c.requires.wide inside ended c.requires.time.row c.requires.free c.requires.start begun)) in
    cursor_row x y _ _ _ _ (row_later x y _ h row) (λ k.
    let at = c.settle_segment-position.ensures.cursor (sym c.in-Ok.ensures.cursor.0 ∙ k) in
    let there : point_of g.I.OverlayInt.whole c.put.new.self.point ≡ new.pair.a = ap (point_of g.I.OverlayInt.whole) c.in-Ok.ensures.cursor.1 ∙ at.0 in
    let live : IsLivePosition (lasts_past x (entries_of kept)) (λ i. is_below_or_from new.pair.a (segment_at (entries_of kept) i).pair) (length (entries_of kept)) c.settle_segment-position.result = rw (length-map kept entry_of) at.1 in (
      ap (λ (p : Point). p.x) there ∙ c.requires.start,
      subst (λ (p : Point). IsLivePosition (lasts_past x (entries_of c.put.new.self.entries.items)) (λ i. is_below_or_from p (segment_at (entries_of c.put.new.self.entries.items) i).pair) (length (entries_of c.put.new.self.entries.items)) (c.settle_segment-position.result + 1)) (sym there)
          (rw add-one (put_in entry_of x kept c.put.new.self.entries.items c.settle_segment-position.result _ c.in-Ok.ensures.put (λ l. IsLivePosition (lasts_past x l) (λ i. is_below_or_from new.pair.a (segment_at l i).pair) (length l) (suc c.settle_segment-position.result))
          (cursor_put x (entries_of kept) new c.requires.wide c.settle_segment-position.result live)
          (λ inside ended. cursor_over x (entries_of kept) new c.requires.wide c.settle_segment-position.result live ended inside))),
    ))

pub returns-in-Ok-clause-held : goal.returns-in-Ok-clause-held
returns-in-Ok-clause-held g c = omega (arith, c.settle_segment-position.ensures.fewer, put_longer (lasts_past (g.I.OverlayInt.whole c.args.x) (entries_of c.settle_segment-position.new.self.entries.items)) c.settle_segment-position.new.self.entries.items c.put.new.self.entries.items _ _ c.in-Ok.ensures.put)

pub returns-in-Ok-clause-most : goal.returns-in-Ok-clause-most
returns-in-Ok-clause-most g c = λ n d within most.
    let paid = c.settle_segment-position.ensures.most d (omega (arith, within, most)) in
    rw c.in-Ok.ensures.same (pays_for_one _ _ _ _ d (put_longer (lasts_past (g.I.OverlayInt.whole c.args.x) (entries_of c.settle_segment-position.new.self.entries.items)) c.settle_segment-position.new.self.entries.items c.put.new.self.entries.items _ _ c.in-Ok.ensures.put) paid)

pub returns-in-Err-clause-emptied : goal.returns-in-Err-clause-emptied
returns-in-Err-clause-emptied g c = c.clear.ensures.sums

pub returns-in-Err-clause-none_asked : goal.returns-in-Err-clause-none_asked
returns-in-Err-clause-none_asked g c = c.clear.ensures.asked

pub returns-in-Err-clause-cleared : goal.returns-in-Err-clause-cleared
returns-in-Err-clause-cleared g c = c.clear.ensures.time
