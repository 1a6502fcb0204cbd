use Rattle.std.proofs.Common.{◌≡◌, ◌∙◌, ◌≤◌, ◌/◌, ap, sym, subst, arith, inr, add-one, length}
use Rattle.std.specs.Prelude.{◌+◌, ◌-◌, take, drop}
use Rattle.std.proofs.lemmas.List.{length-map, length-take, length-drop, take-append-drop}
use Rattle.std.proofs.lemmas.Grind.{common_steps}
use Rattle.overlay_sweep.specs.EntryOf.{entry_of}
use Rattle.overlay_sweep.specs.LiveOf.{row_sums, rows_in}
use Rattle.overlay_sweep.specs.LiveRows.{joined, row_at, index_in}
use Rattle.overlay_sweep.specs.steps.Rows.{HaveSomeBut}
use Rattle.overlay_sweep.proofs.laws.list.Rows.{row_read, rows_cut, index_inside, cut_at, cut_joined, cut_low, cut_high, cut_some, cut_index_low, cut_index_high, cut_length}
use Rattle.overlay_sweep.proofs.build.row_list.RowList.make_room.Goals as goal

pub returns-then-at-half-clause-same : goal.returns-then-at-half-clause-same
returns-then-at-half-clause-same g c =
    let items = c.args.self.now.rows.items in
    let old = rows_in c.args.self.now in
    let row = c.args.spot.row in
    let at = c.args.spot.at in
    let half = length c.entries-many.result.now / 2 in
    let many = length-map items (λ r. row_sums r) in
    let i = index_inside old row at c.requires.index (λ z. c.if-len-eq0.false (omega (arith, z, many, c.len.ensures))) in
    let cut = rows_cut (λ r. row_sums r) items c.insert.new.self.items row half c.index_mut.result.now c.split_off.new.self c.in_ok-upper.upper (omega (arith, i.0, many)) c.index_mut.ensures.value c.in_ok-upper.ensures.lower c.in_ok-upper.ensures.upper c.in_ok-insert.ensures.items in
    ap joined cut ∙ cut_joined old row _ _ i.0 (take-append-drop half (row_at old row))

pub returns-then-at-half-clause-some : goal.returns-then-at-half-clause-some
returns-then-at-half-clause-some g c =
    let items = c.args.self.now.rows.items in
    let old = rows_in c.args.self.now in
    let row = c.args.spot.row in
    let at = c.args.spot.at in
    let half = length c.entries-many.result.now / 2 in
    let many = length-map items (λ r. row_sums r) in
    let i = index_inside old row at c.requires.index (λ z. c.if-len-eq0.false (omega (arith, z, many, c.len.ensures))) in
    let cut = rows_cut (λ r. row_sums r) items c.insert.new.self.items row half c.index_mut.result.now c.split_off.new.self c.in_ok-upper.upper (omega (arith, i.0, many)) c.index_mut.ensures.value c.in_ok-upper.ensures.lower c.in_ok-upper.ensures.upper c.in_ok-insert.ensures.items in
    let here = row_read (λ r. row_sums r) items row c.index.result.now (omega (arith, i.0, many)) c.index.ensures in
    let size : length (row_at old row) ≡ length c.entries-many.result.now = ap (λ l. length l) here ∙ length-map c.index.result.now.entries.items entry_of ∙ ap (λ l. length l) (sym c.entries-many.ensures) in
    let full : 64 ≤ length c.entries-many.result.now = omega (arith, c.if-many-lt-MOST_IN_ROW.false) in
    let low : length (take half (row_at old row)) ≡ half = omega (arith, length-take half (row_at old row), size) in
    let high : length (drop half (row_at old row)) ≡ length (row_at old row) - half = length-drop half (row_at old row) in
    subst (HaveSomeBut row) (sym cut) (λ k h. inr (cut_some old row _ _ i.0 c.requires.some (omega (arith, low, full)) (omega (arith, high, size, full)) k h))

pub returns-then-at-half-clause-at : goal.returns-then-at-half-clause-at
returns-then-at-half-clause-at g c =
    let items = c.args.self.now.rows.items in
    let old = rows_in c.args.self.now in
    let row = c.args.spot.row in
    let at = c.args.spot.at in
    let half = length c.entries-many.result.now / 2 in
    let many = length-map items (λ r. row_sums r) in
    let i = index_inside old row at c.requires.index (λ z. c.if-len-eq0.false (omega (arith, z, many, c.len.ensures))) in
    let cut = rows_cut (λ r. row_sums r) items c.insert.new.self.items row half c.index_mut.result.now c.split_off.new.self c.in_ok-upper.upper (omega (arith, i.0, many)) c.index_mut.ensures.value c.in_ok-upper.ensures.lower c.in_ok-upper.ensures.upper c.in_ok-insert.ensures.items in
    let here = row_read (λ r. row_sums r) items row c.index.result.now (omega (arith, i.0, many)) c.index.ensures in
    let size : length (row_at old row) ≡ length c.entries-many.result.now = ap (λ l. length l) here ∙ length-map c.index.result.now.entries.items entry_of ∙ ap (λ l. length l) (sym c.entries-many.ensures) in
    let full : 64 ≤ length c.entries-many.result.now = omega (arith, c.if-many-lt-MOST_IN_ROW.false) in
    let low : length (take half (row_at old row)) ≡ half = omega (arith, length-take half (row_at old row), size) in
    let high : length (drop half (row_at old row)) ≡ length (row_at old row) - half = length-drop half (row_at old row) in
    let there = ap (λ l. length (row_at l row)) cut ∙ ap (λ l. length l) (cut_low old row (take half (row_at old row)) (drop half (row_at old row)) i.0) in
    omega (arith, there, low, c.if-at-half.true)

pub returns-then-at-half-clause-index : goal.returns-then-at-half-clause-index
returns-then-at-half-clause-index g c =
    let items = c.args.self.now.rows.items in
    let old = rows_in c.args.self.now in
    let row = c.args.spot.row in
    let at = c.args.spot.at in
    let half = length c.entries-many.result.now / 2 in
    let many = length-map items (λ r. row_sums r) in
    let i = index_inside old row at c.requires.index (λ z. c.if-len-eq0.false (omega (arith, z, many, c.len.ensures))) in
    let cut = rows_cut (λ r. row_sums r) items c.insert.new.self.items row half c.index_mut.result.now c.split_off.new.self c.in_ok-upper.upper (omega (arith, i.0, many)) c.index_mut.ensures.value c.in_ok-upper.ensures.lower c.in_ok-upper.ensures.upper c.in_ok-insert.ensures.items in
    let here = row_read (λ r. row_sums r) items row c.index.result.now (omega (arith, i.0, many)) c.index.ensures in
    let size : length (row_at old row) ≡ length c.entries-many.result.now = ap (λ l. length l) here ∙ length-map c.index.result.now.entries.items entry_of ∙ ap (λ l. length l) (sym c.entries-many.ensures) in
    let full : 64 ≤ length c.entries-many.result.now = omega (arith, c.if-many-lt-MOST_IN_ROW.false) in
    let low : length (take half (row_at old row)) ≡ half = omega (arith, length-take half (row_at old row), size) in
    let high : length (drop half (row_at old row)) ≡ length (row_at old row) - half = length-drop half (row_at old row) in
    ap (λ l. index_in l row at) cut ∙ cut_index_low old row at _ _ i.0

pub returns-else-at-half-clause-same : goal.returns-else-at-half-clause-same
returns-else-at-half-clause-same g c =
    let items = c.args.self.now.rows.items in
    let old = rows_in c.args.self.now in
    let row = c.args.spot.row in
    let at = c.args.spot.at in
    let half = length c.entries-many.result.now / 2 in
    let many = length-map items (λ r. row_sums r) in
    let i = index_inside old row at c.requires.index (λ z. c.if-len-eq0.false (omega (arith, z, many, c.len.ensures))) in
    let cut = rows_cut (λ r. row_sums r) items c.insert.new.self.items row half c.index_mut.result.now c.split_off.new.self c.in_ok-upper.upper (omega (arith, i.0, many)) c.index_mut.ensures.value c.in_ok-upper.ensures.lower c.in_ok-upper.ensures.upper c.in_ok-insert.ensures.items in
    ap joined cut ∙ cut_joined old row _ _ i.0 (take-append-drop half (row_at old row))

pub returns-else-at-half-clause-some : goal.returns-else-at-half-clause-some
returns-else-at-half-clause-some g c =
    let items = c.args.self.now.rows.items in
    let old = rows_in c.args.self.now in
    let row = c.args.spot.row in
    let at = c.args.spot.at in
    let half = length c.entries-many.result.now / 2 in
    let many = length-map items (λ r. row_sums r) in
    let i = index_inside old row at c.requires.index (λ z. c.if-len-eq0.false (omega (arith, z, many, c.len.ensures))) in
    let cut = rows_cut (λ r. row_sums r) items c.insert.new.self.items row half c.index_mut.result.now c.split_off.new.self c.in_ok-upper.upper (omega (arith, i.0, many)) c.index_mut.ensures.value c.in_ok-upper.ensures.lower c.in_ok-upper.ensures.upper c.in_ok-insert.ensures.items in
    let here = row_read (λ r. row_sums r) items row c.index.result.now (omega (arith, i.0, many)) c.index.ensures in
    let size : length (row_at old row) ≡ length c.entries-many.result.now = ap (λ l. length l) here ∙ length-map c.index.result.now.entries.items entry_of ∙ ap (λ l. length l) (sym c.entries-many.ensures) in
    let full : 64 ≤ length c.entries-many.result.now = omega (arith, c.if-many-lt-MOST_IN_ROW.false) in
    let low : length (take half (row_at old row)) ≡ half = omega (arith, length-take half (row_at old row), size) in
    let high : length (drop half (row_at old row)) ≡ length (row_at old row) - half = length-drop half (row_at old row) in
    subst (HaveSomeBut (row + 1)) (sym cut) (λ k h. inr (cut_some old row _ _ i.0 c.requires.some (omega (arith, low, full)) (omega (arith, high, size, full)) k h))

pub returns-else-at-half-clause-at : goal.returns-else-at-half-clause-at
returns-else-at-half-clause-at g c =
    let items = c.args.self.now.rows.items in
    let old = rows_in c.args.self.now in
    let row = c.args.spot.row in
    let at = c.args.spot.at in
    let half = length c.entries-many.result.now / 2 in
    let many = length-map items (λ r. row_sums r) in
    let i = index_inside old row at c.requires.index (λ z. c.if-len-eq0.false (omega (arith, z, many, c.len.ensures))) in
    let cut = rows_cut (λ r. row_sums r) items c.insert.new.self.items row half c.index_mut.result.now c.split_off.new.self c.in_ok-upper.upper (omega (arith, i.0, many)) c.index_mut.ensures.value c.in_ok-upper.ensures.lower c.in_ok-upper.ensures.upper c.in_ok-insert.ensures.items in
    let here = row_read (λ r. row_sums r) items row c.index.result.now (omega (arith, i.0, many)) c.index.ensures in
    let size : length (row_at old row) ≡ length c.entries-many.result.now = ap (λ l. length l) here ∙ length-map c.index.result.now.entries.items entry_of ∙ ap (λ l. length l) (sym c.entries-many.ensures) in
    let full : 64 ≤ length c.entries-many.result.now = omega (arith, c.if-many-lt-MOST_IN_ROW.false) in
    let low : length (take half (row_at old row)) ≡ half = omega (arith, length-take half (row_at old row), size) in
    let high : length (drop half (row_at old row)) ≡ length (row_at old row) - half = length-drop half (row_at old row) in
    let there = ap (λ l. length (row_at l (row + 1))) cut ∙ ap (λ n. length (row_at (cut_at old row (take half (row_at old row)) (drop half (row_at old row))) n)) (add-one row) ∙ ap (λ l. length l) (cut_high old row (take half (row_at old row)) (drop half (row_at old row)) i.0) in
    omega (arith, there, high, i.1)

pub returns-else-at-half-clause-index : goal.returns-else-at-half-clause-index
returns-else-at-half-clause-index g c =
    let items = c.args.self.now.rows.items in
    let old = rows_in c.args.self.now in
    let row = c.args.spot.row in
    let at = c.args.spot.at in
    let half = length c.entries-many.result.now / 2 in
    let many = length-map items (λ r. row_sums r) in
    let i = index_inside old row at c.requires.index (λ z. c.if-len-eq0.false (omega (arith, z, many, c.len.ensures))) in
    let cut = rows_cut (λ r. row_sums r) items c.insert.new.self.items row half c.index_mut.result.now c.split_off.new.self c.in_ok-upper.upper (omega (arith, i.0, many)) c.index_mut.ensures.value c.in_ok-upper.ensures.lower c.in_ok-upper.ensures.upper c.in_ok-insert.ensures.items in
    let here = row_read (λ r. row_sums r) items row c.index.result.now (omega (arith, i.0, many)) c.index.ensures in
    let size : length (row_at old row) ≡ length c.entries-many.result.now = ap (λ l. length l) here ∙ length-map c.index.result.now.entries.items entry_of ∙ ap (λ l. length l) (sym c.entries-many.ensures) in
    let full : 64 ≤ length c.entries-many.result.now = omega (arith, c.if-many-lt-MOST_IN_ROW.false) in
    let low : length (take half (row_at old row)) ≡ half = omega (arith, length-take half (row_at old row), size) in
    let high : length (drop half (row_at old row)) ≡ length (row_at old row) - half = length-drop half (row_at old row) in
    ap (λ l. index_in l (row + 1) (at - half)) cut ∙ ap (λ n. index_in (cut_at old row (take half (row_at old row)) (drop half (row_at old row))) (row + 1) (at - n)) (sym low)
    ∙ cut_index_high old row at (take half (row_at old row)) (drop half (row_at old row)) i.0 (omega (arith, low, c.if-at-half.false))

pub index-requires : goal.index-requires
index-requires g c =
    let i = index_inside (rows_in c.args.self.now) c.args.spot.row c.args.spot.at c.requires.index (λ z. c.if-len-eq0.false (omega (arith, z, length-map c.args.self.now.rows.items (λ r. row_sums r), c.len.ensures))) in
    omega (arith, i.0, length-map c.args.self.now.rows.items (λ r. row_sums r))

pub index_mut-requires : goal.index_mut-requires
index_mut-requires g c =
    let i = index_inside (rows_in c.args.self.now) c.args.spot.row c.args.spot.at c.requires.index (λ z. c.if-len-eq0.false (omega (arith, z, length-map c.args.self.now.rows.items (λ r. row_sums r), c.len.ensures))) in
    omega (arith, i.0, length-map c.args.self.now.rows.items (λ r. row_sums r))

pub insert-requires : goal.insert-requires
insert-requires g c =
    let i = index_inside (rows_in c.args.self.now) c.args.spot.row c.args.spot.at c.requires.index (λ z. c.if-len-eq0.false (omega (arith, z, length-map c.args.self.now.rows.items (λ r. row_sums r), c.len.ensures))) in
    omega (arith, i.0, length-map c.args.self.now.rows.items (λ r. row_sums r))

pub returns-then-many-lt-MOST_IN_ROW-clause-row : goal.returns-then-many-lt-MOST_IN_ROW-clause-row
returns-then-many-lt-MOST_IN_ROW-clause-row g c =
    let i = index_inside (rows_in c.args.self.now) c.args.spot.row c.args.spot.at c.requires.index (λ z. c.if-len-eq0.false (omega (arith, z, length-map c.args.self.now.rows.items (λ r. row_sums r), c.len.ensures))) in
    i.0

pub returns-then-many-lt-MOST_IN_ROW-clause-at : goal.returns-then-many-lt-MOST_IN_ROW-clause-at
returns-then-many-lt-MOST_IN_ROW-clause-at g c =
    let i = index_inside (rows_in c.args.self.now) c.args.spot.row c.args.spot.at c.requires.index (λ z. c.if-len-eq0.false (omega (arith, z, length-map c.args.self.now.rows.items (λ r. row_sums r), c.len.ensures))) in
    i.1

pub returns-then-at-half-clause-row : goal.returns-then-at-half-clause-row
returns-then-at-half-clause-row g c =
    let items = c.args.self.now.rows.items in
    let old = rows_in c.args.self.now in
    let row = c.args.spot.row in
    let half = length c.entries-many.result.now / 2 in
    let many = length-map items (λ r. row_sums r) in
    let i = index_inside old row c.args.spot.at c.requires.index (λ z. c.if-len-eq0.false (omega (arith, z, many, c.len.ensures))) in
    let cut = rows_cut (λ r. row_sums r) items c.insert.new.self.items row half c.index_mut.result.now c.split_off.new.self c.in_ok-upper.upper (omega (arith, i.0, many)) c.index_mut.ensures.value c.in_ok-upper.ensures.lower c.in_ok-upper.ensures.upper c.in_ok-insert.ensures.items in
    let longer = ap (λ l. length l) cut ∙ cut_length old row _ _ i.0 in
    omega (arith, longer, i.0)

pub returns-else-at-half-clause-row : goal.returns-else-at-half-clause-row
returns-else-at-half-clause-row g c =
    let items = c.args.self.now.rows.items in
    let old = rows_in c.args.self.now in
    let row = c.args.spot.row in
    let half = length c.entries-many.result.now / 2 in
    let many = length-map items (λ r. row_sums r) in
    let i = index_inside old row c.args.spot.at c.requires.index (λ z. c.if-len-eq0.false (omega (arith, z, many, c.len.ensures))) in
    let cut = rows_cut (λ r. row_sums r) items c.insert.new.self.items row half c.index_mut.result.now c.split_off.new.self c.in_ok-upper.upper (omega (arith, i.0, many)) c.index_mut.ensures.value c.in_ok-upper.ensures.lower c.in_ok-upper.ensures.upper c.in_ok-insert.ensures.items in
    let longer = ap (λ l. length l) cut ∙ cut_length old row _ _ i.0 in
    omega (arith, longer, i.0)

pub returns-then-len-eq0-clause-same : goal.returns-then-len-eq0-clause-same
returns-then-len-eq0-clause-same g c = grind (arith, common_steps)

pub returns-then-len-eq0-clause-some : goal.returns-then-len-eq0-clause-some
returns-then-len-eq0-clause-some g c = grind (arith, common_steps)

pub returns-then-len-eq0-clause-row : goal.returns-then-len-eq0-clause-row
returns-then-len-eq0-clause-row g c = grind (arith, common_steps)

pub returns-then-len-eq0-clause-at : goal.returns-then-len-eq0-clause-at
returns-then-len-eq0-clause-at g c = grind (arith, common_steps)

pub returns-then-len-eq0-clause-index : goal.returns-then-len-eq0-clause-index
returns-then-len-eq0-clause-index g c = grind (arith, common_steps)

pub split_off-requires : goal.split_off-requires
split_off-requires g c = grind (arith, common_steps)

pub overflow_add-row : goal.overflow_add-row
overflow_add-row g c = grind (arith, common_steps)

pub overflow_add-result : goal.overflow_add-result
overflow_add-result g c = grind (arith, common_steps)
