use Rattle.std.proofs.Common.{◌∙◌, ap, sym}
use Rattle.std.proofs.lemmas.Bool.{not-true}
use Rattle.overlay_base.specs.Segments.{WholeSegment}
use Rattle.overlay_geometry.specs.PointOf.{point_of}
use Rattle.overlay_sweep.specs.LiveOf.{rows_in, rows_sums}
use Rattle.overlay_sweep.specs.LiveRows.{joined, index_in}
use Rattle.overlay_sweep.proofs.laws.list.ListAnswers.{row_later}
use Rattle.overlay_sweep.proofs.laws.list.Cursors.{found_cursor, cursor_row}
use Rattle.overlay_sweep.proofs.laws.list.LastingRows.{same_sums, row_left, none_found, one_found}
use Rattle.overlay_sweep.proofs.laws.visits.LookCosts.{highest_of_fewer, search_pays}
use Rattle.overlay_sweep.proofs.build.scan_rows.ScanRowsLiveSegments.sum_below.Goals as goal

pub returns-in-None-clause-sum : goal.returns-in-None-clause-sum
returns-in-None-clause-sum g c =
    let x = g.I.OverlayInt.whole c.args.x in
    let was = rows_sums c.args.self.now in
    let rows = rows_in c.search-spot.new.self in
    let kept = joined rows in
    let at = index_in rows c.search-spot.result.row c.search-spot.result.at in
    let left = c.search-spot.ensures in
    none_found x was kept left.keeps.kept (point_of g.I.OverlayInt.whole c.args.p) c.requires.same_x c.requires.time.whole.row c.requires.free at left.position (g.C.WindingCount.winding c.args.default) c.in-None.ensures.first

pub returns-in-None-clause-sums : goal.returns-in-None-clause-sums
returns-in-None-clause-sums g c = same_sums _ _ _ c.search-spot.ensures.keeps.kept

pub returns-in-None-clause-time : goal.returns-in-None-clause-time
returns-in-None-clause-time g c = λ y h.
    let x = g.I.OverlayInt.whole c.args.x in
    let was = rows_sums c.args.self.now in
    let rows = rows_in c.search-spot.new.self in
    let kept = joined rows in
    let at = index_in rows c.search-spot.result.row c.search-spot.result.at in
    let left = c.search-spot.ensures in
    record {
      some = left.some;
      index = left.index;
      whole = cursor_row x y kept _ _ _ (row_later x y kept h (row_left x was kept left.keeps.kept c.requires.time.whole.row (left.keeps.begun _ c.requires.time.whole.row.begun))) (λ k. (c.requires.same_x, found_cursor x kept _ _ left.position (c.starts_behind.ensures (not-true _ k))));
    }

pub returns-in-None-clause-most : goal.returns-in-None-clause-most
returns-in-None-clause-most g c = λ n d within high. search_pays _ _ _ d (c.search-spot.ensures.few d (highest_of_fewer _ n d within high)) c.search-spot.ensures.keeps.fewer

pub returns-in-Some-clause-sum : goal.returns-in-Some-clause-sum
returns-in-Some-clause-sum g c =
    let x = g.I.OverlayInt.whole c.args.x in
    let was = rows_sums c.args.self.now in
    let rows = rows_in c.search-spot.new.self in
    let kept = joined rows in
    let at = index_in rows c.search-spot.result.row c.search-spot.result.at in
    let left = c.search-spot.ensures in
    sym (ap (λ (s : WholeSegment). s.count) c.in-Some.ensures.entry) ∙ one_found x was kept left.keeps.kept (point_of g.I.OverlayInt.whole c.args.p) c.requires.same_x c.requires.time.whole.row c.requires.free at left.position (g.C.WindingCount.winding c.args.default) c.in-Some.ensures.further

pub returns-in-Some-clause-sums : goal.returns-in-Some-clause-sums
returns-in-Some-clause-sums g c = same_sums _ _ _ c.search-spot.ensures.keeps.kept

pub returns-in-Some-clause-time : goal.returns-in-Some-clause-time
returns-in-Some-clause-time g c = λ y h.
    let x = g.I.OverlayInt.whole c.args.x in
    let was = rows_sums c.args.self.now in
    let rows = rows_in c.search-spot.new.self in
    let kept = joined rows in
    let at = index_in rows c.search-spot.result.row c.search-spot.result.at in
    let left = c.search-spot.ensures in
    record {
      some = left.some;
      index = left.index;
      whole = cursor_row x y kept _ _ _ (row_later x y kept h (row_left x was kept left.keeps.kept c.requires.time.whole.row (left.keeps.begun _ c.requires.time.whole.row.begun))) (λ k. (c.requires.same_x, found_cursor x kept _ _ left.position (c.starts_behind.ensures (not-true _ k))));
    }

pub returns-in-Some-clause-most : goal.returns-in-Some-clause-most
returns-in-Some-clause-most g c = λ n d within high. search_pays _ _ _ d (c.search-spot.ensures.few d (highest_of_fewer _ n d within high)) c.search-spot.ensures.keeps.fewer
