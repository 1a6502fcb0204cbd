-- What a list, a tree and a runner keep, as the clauses of their calls name it.
use Rattle.std.specs.Prelude.{ℕ, ℤ, List, map, length}
use Rattle.overlay_geometry.specs.PointOf.{point_of}
use Rattle.overlay_base.specs.Segments.{WholeSegment}
use Rattle.overlay_sweep.specs.EntryOf.{entries_of}
use Rattle.overlay_sweep.specs.LiveRows.{IsCursorRow, AreCursorRows, joined}
use Rattle.overlay_sweep.specs.declared.build.entry.Entry.{Entry}
use Rattle.overlay_sweep.specs.declared.build.scan_row.ScanRow.{ScanRow}
use Rattle.overlay_sweep.specs.declared.build.row_list.RowList.{RowList}
use Rattle.overlay_sweep.specs.declared.build.scan_rows.ScanRows.{ScanRows}
use Rattle.overlay_sweep.specs.declared.build.sweep.SweepRunner.{SweepRunner}

-- the same of a row, in which some may have ended
abbrev pub row_entries : {C I : Type 0} {m : _} {w : _} {o : _} {e : _} {p : _} → ScanRow C I m w o e p → List (Entry C I m w o e p)
row_entries row = row.entries.items

abbrev pub row_sums : {C I : Type 0} {m : _} {w : _} {o : _} {e : _} {p : _} → ScanRow C I m w o e p → List WholeSegment
row_sums row = entries_of (row_entries row)

abbrev pub row_held : {C I : Type 0} {m : _} {w : _} {o : _} {e : _} {p : _} → ScanRow C I m w o e p → ℕ
row_held row = length (row_entries row)

abbrev pub IsInRowAt : {C I : Type 0} {m : _} {w : _} {o : _} {e : _} {p : _} → ℤ → ScanRow C I m w o e p → Type 0
IsInRowAt {w = w} x row = IsCursorRow x (row_sums row) row.has_cursor (point_of w.whole row.point) row.cursor

-- the same of rows one behind another
abbrev pub rows_in : {C I : Type 0} {m : _} {w : _} {o : _} {e : _} {p : _} → RowList C I m w o e p → List (List WholeSegment)
rows_in list = map (λ row. row_sums row) list.rows.items

abbrev pub rows_sums : {C I : Type 0} {m : _} {w : _} {o : _} {e : _} {p : _} → ScanRows C I m w o e p → List WholeSegment
rows_sums rows = joined (rows_in rows.entries)

abbrev pub rows_held : {C I : Type 0} {m : _} {w : _} {o : _} {e : _} {p : _} → ScanRows C I m w o e p → ℕ
rows_held rows = length (rows_sums rows)

abbrev pub AreInRowsAt : {C I : Type 0} {m : _} {w : _} {o : _} {e : _} {p : _} → ℤ → ScanRows C I m w o e p → Type 0
AreInRowsAt {w = w} x rows = AreCursorRows x (rows_in rows.entries) rows.has_cursor (point_of w.whole rows.point) rows.cursor.row rows.cursor.at

abbrev pub row_asked : {C I : Type 0} {m : _} {w : _} {o : _} {e : _} {p : _} → ScanRow C I m w o e p → ℕ
row_asked row = row.compared

abbrev pub rows_asked : {C I : Type 0} {m : _} {w : _} {o : _} {e : _} {p : _} → ScanRows C I m w o e p → ℕ
rows_asked rows = rows.compared

abbrev pub run_asked : {C I : Type 0} {m : _} {w : _} {o : _} {e : _} {p : _} → SweepRunner C I m w o e p → ℕ
run_asked runner = runner.compared
