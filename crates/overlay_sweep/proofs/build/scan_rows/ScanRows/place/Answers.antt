use Rattle.std.proofs.Common.{◌≡◌, ◌∙◌, ap, sym, subst, arith, length}
use Rattle.std.specs.Prelude.{suc, ◌∷◌}
use Rattle.overlay_geometry.specs.Points.{Point}
use Rattle.overlay_geometry.specs.PointOf.{point_of}
use Rattle.overlay_sweep.specs.EntryOf.{entry_of}
use Rattle.overlay_sweep.specs.Live.{HoldSameFrom}
use Rattle.overlay_sweep.specs.LiveOf.{rows_in, rows_sums}
use Rattle.overlay_sweep.specs.LivePositions.{IsLivePosition}
use Rattle.overlay_sweep.specs.LiveRows.{joined, index_in, lasts_past, segment_at, is_below_or_from, IsScanRow}
use Rattle.overlay_sweep.proofs.laws.list.ListAnswers.{row_later}
use Rattle.overlay_sweep.proofs.laws.list.LastingRows.{put_sums, put_row, over_sums, over_row, put_longer}
use Rattle.overlay_sweep.proofs.laws.list.Cursors.{cursor_row, cursor_put, cursor_over}
use Rattle.overlay_sweep.proofs.laws.list.Rows.{put_either}
use Rattle.overlay_sweep.proofs.build.scan_rows.ScanRows.place.Goals as goal

pub returns-clause-sums : goal.returns-clause-sums
returns-clause-sums g c =
    let x = g.I.OverlayInt.whole c.args.x in
    let was = rows_sums c.args.self.now in
    let rows = rows_in c.settle.new.self.entries in
    let kept = joined rows in
    let new = joined (rows_in c.put.new.self) in
    let e = entry_of c.args.entry in
    let at = index_in rows c.in_ok-spot.spot.row c.in_ok-spot.spot.at in
    let left = c.in_ok-spot.ensures in
    let put = c.in_ok-self.ensures.put in
    put_either x kept new at e put (λ l. HoldSameFrom x l (e ∷ was)) (put_sums x was kept left.keeps.kept e at left.position c.requires.wide) (λ inside ended. over_sums x was kept left.keeps.kept e at left.position c.requires.wide inside ended)

pub returns-clause-time : goal.returns-clause-time
returns-clause-time g c = λ y h.
    let x = g.I.OverlayInt.whole c.args.x in
    let was = rows_sums c.args.self.now in
    let rows = rows_in c.settle.new.self.entries in
    let kept = joined rows in
    let new = joined (rows_in c.put.new.self) in
    let e = entry_of c.args.entry in
    let at = index_in rows c.in_ok-spot.spot.row c.in_ok-spot.spot.at in
    let left = c.in_ok-spot.ensures in
    let put = c.in_ok-self.ensures.put in
    let time = c.requires.time.whole.row in
    let begun = left.keeps.begun _ time.begun in
    let row : IsScanRow x new = put_either x kept new at e put (λ l. IsScanRow x l) (put_row x was kept left.keeps.kept e at left.position c.requires.wide time c.requires.free c.requires.start begun) (λ inside ended. over_row x was kept left.keeps.kept e at left.position c.requires.wide inside ended time c.requires.free c.requires.start begun) in
    record {
      some = c.in_ok-self.ensures.some;
      index = c.in_ok-self.ensures.index;
      whole = cursor_row x y new _ _ _ (row_later x y new h row) (λ k.
          let own = left.cursor k in
          let there : point_of g.I.OverlayInt.whole c.settle.new.self.point ≡ e.pair.a = own.0 in (
            ap (λ (p : Point). p.x) there ∙ c.requires.start,
            subst (λ (p : Point). IsLivePosition (lasts_past x new) (λ i. is_below_or_from p (segment_at new i).pair) (length new) (index_in (rows_in c.put.new.self) c.in_ok-self.field-0.row c.in_ok-self.field-0.at)) (sym there)
                (subst (λ i. IsLivePosition (lasts_past x new) (λ k. is_below_or_from e.pair.a (segment_at new k).pair) (length new) i) (sym c.in_ok-self.ensures.behind)
                (put_either x kept new at e put (λ l. IsLivePosition (lasts_past x l) (λ k. is_below_or_from e.pair.a (segment_at l k).pair) (length l) (suc at)) (cursor_put x kept e c.requires.wide at own.1) (λ inside ended. cursor_over x kept e c.requires.wide at own.1 ended inside))),
          ));
    }

pub returns-clause-held : goal.returns-clause-held
returns-clause-held g c =
    let x = g.I.OverlayInt.whole c.args.x in
    let was = rows_sums c.args.self.now in
    let rows = rows_in c.settle.new.self.entries in
    let kept = joined rows in
    let new = joined (rows_in c.put.new.self) in
    let e = entry_of c.args.entry in
    let at = index_in rows c.in_ok-spot.spot.row c.in_ok-spot.spot.at in
    let left = c.in_ok-spot.ensures in
    let put = c.in_ok-self.ensures.put in
    let longer = put_longer (lasts_past x kept) kept new at e put in
    omega (arith, longer, left.keeps.fewer)
