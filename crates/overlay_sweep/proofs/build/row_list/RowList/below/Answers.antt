use Rattle.std.proofs.Common.{◌≡◌, ◌∙◌, ◌≤◌, ◌<◌, ap, sym, arith, inl, inr, length}
use Rattle.std.specs.Prelude.{◌+◌, ◌-◌, map, take}
use Rattle.std.proofs.lemmas.List.{length-map}
use Rattle.std.proofs.lemmas.Grind.{common_steps}
use Rattle.overlay_sweep.specs.EntryOf.{entry_of}
use Rattle.overlay_sweep.specs.LiveOf.{row_sums, rows_in}
use Rattle.overlay_sweep.specs.LiveRows.{joined, row_at, index_in, segment_at}
use Rattle.overlay_sweep.proofs.laws.list.RowReads.{segment_read}
use Rattle.overlay_sweep.proofs.laws.list.Rows.{row_read, read_in, read_before_row}
use Rattle.overlay_sweep.proofs.build.row_list.RowList.below.Goals as goal

pub returns-then-at-gt0-clause-entry : goal.returns-then-at-gt0-clause-entry
returns-then-at-gt0-clause-entry g c =
    let items = c.args.self.now.rows.items in
    let rows = rows_in c.args.self.now in
    let row = c.args.spot.row in
    let at = c.args.spot.at in
    let i : (row < length rows) × (at ≤ length (row_at rows row)) = elim c.requires.index [ inl none ↦ absurd (omega (arith, none.2, c.if-at-gt0.true)) | inr is ↦ is ] in
    let seen = row_read (λ r. row_sums r) items row c.index.result.now (omega (arith, i.0, length-map items (λ r. row_sums r))) c.index.ensures in
    let read : row_at rows row ≡ map entry_of c.entries.result.now = seen ∙ ap (map entry_of) (sym c.entries.ensures) in
    let size : length (row_at rows row) ≡ length c.entries.result.now = ap (λ l. length l) read ∙ length-map c.entries.result.now entry_of in
    let entry = segment_read entry_of c.entries.result.now (at - 1) c.index-entries-at.result (omega (arith, size, i.1, c.if-at-gt0.true)) c.index-entries-at.is in
    let index : index_in rows row at - 1 ≡ length (joined (take row rows)) + (at - 1) = omega (arith, c.if-at-gt0.true) in
    ap (segment_at (joined rows)) index ∙ read_in rows row i.0 (at - 1) (omega (arith, i.1, c.if-at-gt0.true)) ∙ ap (λ l. segment_at l (at - 1)) read ∙ entry

pub overflow_sub-result-2 : goal.overflow_sub-result-2
overflow_sub-result-2 g c =
    let items = c.args.self.now.rows.items in
    let rows = rows_in c.args.self.now in
    let row = c.args.spot.row in
    let i : row < length rows = elim c.requires.index [ inl none ↦ absurd (c.if-row-eq0.false none.1) | inr is ↦ is.0 ] in
    let some : 1 ≤ length (row_at rows (row - 1)) = c.requires.some (row - 1) (omega (arith, i)) in
    let seen = row_read (λ r. row_sums r) items (row - 1) c.index-2.result.now (omega (arith, i, length-map items (λ r. row_sums r))) c.index-2.ensures in
    let size : length (row_at rows (row - 1)) ≡ length c.entries-entries.result.now = ap (λ l. length l) (seen ∙ ap (map entry_of) (sym c.entries-entries.ensures)) ∙ length-map c.entries-entries.result.now entry_of in
    omega (arith, some, size)

pub bounds-entries-entries : goal.bounds-entries-entries
bounds-entries-entries g c =
    let items = c.args.self.now.rows.items in
    let rows = rows_in c.args.self.now in
    let row = c.args.spot.row in
    let i : row < length rows = elim c.requires.index [ inl none ↦ absurd (c.if-row-eq0.false none.1) | inr is ↦ is.0 ] in
    let some : 1 ≤ length (row_at rows (row - 1)) = c.requires.some (row - 1) (omega (arith, i)) in
    let seen = row_read (λ r. row_sums r) items (row - 1) c.index-2.result.now (omega (arith, i, length-map items (λ r. row_sums r))) c.index-2.ensures in
    let size : length (row_at rows (row - 1)) ≡ length c.entries-entries.result.now = ap (λ l. length l) (seen ∙ ap (map entry_of) (sym c.entries-entries.ensures)) ∙ length-map c.entries-entries.result.now entry_of in
    omega (arith, some, size)

pub returns-clause-further : goal.returns-clause-further
returns-clause-further g c =
    let items = c.args.self.now.rows.items in
    let rows = rows_in c.args.self.now in
    let row = c.args.spot.row in
    let i : row < length rows = elim c.requires.index [ inl none ↦ absurd (c.if-row-eq0.false none.1) | inr is ↦ is.0 ] in
    let some : 1 ≤ length (row_at rows (row - 1)) = c.requires.some (row - 1) (omega (arith, i)) in
    let before = read_before_row rows row (omega (arith, i)) c.if-row-eq0.false some in
    λ none. omega (arith, none, before.0)

pub returns-clause-entry : goal.returns-clause-entry
returns-clause-entry g c =
    let items = c.args.self.now.rows.items in
    let rows = rows_in c.args.self.now in
    let row = c.args.spot.row in
    let i : row < length rows = elim c.requires.index [ inl none ↦ absurd (c.if-row-eq0.false none.1) | inr is ↦ is.0 ] in
    let some : 1 ≤ length (row_at rows (row - 1)) = c.requires.some (row - 1) (omega (arith, i)) in
    let before = read_before_row rows row (omega (arith, i)) c.if-row-eq0.false some in
    let seen = row_read (λ r. row_sums r) items (row - 1) c.index-2.result.now (omega (arith, i, length-map items (λ r. row_sums r))) c.index-2.ensures in
    let read : row_at rows (row - 1) ≡ map entry_of c.entries-entries.result.now = seen ∙ ap (map entry_of) (sym c.entries-entries.ensures) in
    let size : length (row_at rows (row - 1)) ≡ length c.entries-entries.result.now = ap (λ l. length l) read ∙ length-map c.entries-entries.result.now entry_of in
    let entry = segment_read entry_of c.entries-entries.result.now _ c.index-entries-entries.result (omega (arith, size, some)) c.index-entries-entries.is in
    let last : length (row_at rows (row - 1)) - 1 ≡ length c.entries-entries.result.now - 1 = omega (arith, size) in
    let index : index_in rows row c.args.spot.at - 1 ≡ length (joined (take row rows)) - 1 = omega (arith, c.if-at-gt0.false) in
    ap (segment_at (joined rows)) index ∙ before.1 ∙ ap (segment_at (row_at rows (row - 1))) last ∙ ap (λ l. segment_at l (length c.entries-entries.result.now - 1)) read ∙ entry

pub index-requires : goal.index-requires
index-requires g c = elim c.requires.index [ inl none ↦ absurd (omega (arith, none.2, c.if-at-gt0.true)) | inr is ↦ omega (arith, is.0, length-map c.args.self.now.rows.items (λ r. row_sums r)) ]

pub index-requires-2 : goal.index-requires-2
index-requires-2 g c = elim c.requires.index [ inl none ↦ absurd (c.if-row-eq0.false none.1) | inr is ↦ omega (arith, is.0, length-map c.args.self.now.rows.items (λ r. row_sums r)) ]

pub offset_bounds-entries-at : goal.offset_bounds-entries-at
offset_bounds-entries-at g c = grind (arith, common_steps)

pub bounds-entries-at : goal.bounds-entries-at
bounds-entries-at g c = grind (arith, common_steps)
