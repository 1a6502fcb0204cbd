use Rattle.std.proofs.Common.{◌≤◌, ◌<◌, sym, subst, arith, inl, inr, length}
use Rattle.std.specs.Prelude.{true}
use Rattle.std.proofs.lemmas.List.{length-map}
use Rattle.overlay_geometry.specs.Points.{point_eq}
use Rattle.overlay_geometry.specs.PointOf.{point_of}
use Rattle.overlay_sweep.specs.EntryOf.{entry_of}
use Rattle.overlay_sweep.specs.LiveOf.{row_sums, rows_in}
use Rattle.overlay_sweep.specs.LiveRows.{row_at, lasts_past, segment_at}
use Rattle.overlay_sweep.specs.steps.Positions.{IsElsewhere}
use Rattle.overlay_sweep.proofs.laws.live.ScanSums.{lasting}
use Rattle.overlay_sweep.proofs.laws.list.Rows.{row_read, whole_elsewhere}
use Rattle.overlay_sweep.proofs.build.row_list.RowList.starts_behind.Goals as goal

pub returns-then-row-len : goal.returns-then-row-len
returns-then-row-len g c = λ other.
    let x = g.I.OverlayInt.whole c.args.x in
    let p = point_of g.I.OverlayInt.whole c.args.p in
    let items = c.args.self.now.rows.items in
    let rows = rows_in c.args.self.now in
    let row = c.args.spot.row in
    let at = c.args.spot.at in
    let many = length-map items (λ r. row_sums r) in
    let short : row < length items = omega (arith, c.if-row-len.true, c.len.ensures, c.args.self.now.rows.ok.0) in
    let i : (row < length rows) × (at ≤ length (row_at rows row)) = elim c.requires.index [ inl none ↦ absurd (omega (arith, none.0, none.1, short, many)) | inr is ↦ is ] in
    let seen = row_read (λ r. row_sums r) items row c.index.result.now short c.index.ensures in
    let here : IsElsewhere (lasts_past x (row_at rows row)) (λ k. point_eq (segment_at (row_at rows row) k).pair.a p) (length (row_at rows row)) at = subst (λ l. IsElsewhere (lasts_past x l) (λ k. point_eq (segment_at l k).pair.a p) (length l) at) (sym seen) (rw (length-map c.index.result.now.entries.items entry_of) (c.starts_behind.ensures other)) in
    whole_elsewhere (λ s. lasting x s) (λ s. true) rows row i.0 at (λ s. point_eq s.pair.a p) i.1 c.requires.near here
