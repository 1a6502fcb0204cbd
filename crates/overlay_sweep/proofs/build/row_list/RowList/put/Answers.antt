use Rattle.std.proofs.Common.{◌≡◌, ◌∙◌, ap, sym, subst, arith, inr, length}
use Rattle.std.specs.Prelude.{suc, ◌+◌, ◌<◌, ◌≤◌, map, slice_set}
use Rattle.std.proofs.lemmas.List.{length-map, map-set, length-set, get_or-set_same}
use Rattle.std.proofs.lemmas.Result.{IfOk-from_err}
use Rattle.std.proofs.lemmas.Grind.{common_steps}
use Rattle.overlay_sweep.specs.EntryOf.{entry_of}
use Rattle.overlay_sweep.specs.LiveOf.{row_sums, rows_in}
use Rattle.overlay_sweep.specs.LiveRows.{joined, row_at, index_in, HaveSome, IsIndexIn, lasts_past}
use Rattle.overlay_sweep.specs.steps.Positions.{IsPutIn}
use Rattle.overlay_sweep.proofs.laws.list.Rows.{row_read, entries_put_in, rows_put, some_put, longer_put, set_some, index_set, put_joined}
use Rattle.overlay_sweep.proofs.build.row_list.RowList.put.Goals as goal

pub returns-clause-put : goal.returns-clause-put
returns-clause-put g c =
    let x = g.I.OverlayInt.whole c.args.x in
    let items = c.make_room.new.self.rows.items in
    let rows = rows_in c.make_room.new.self in
    let row = c.in_ok-room.room.row in
    let at = c.in_ok-room.room.at in
    let many = length-map items (λ r. row_sums r) in
    let inside : row < length rows = c.in_ok-room.ensures.row in
    let here = row_read (λ r. row_sums r) items row c.index_mut.result.now (omega (arith, inside, many)) c.index_mut.ensures.value in
    let within : at ≤ length (row_at rows row) = c.in_ok-room.ensures.at in
    let new = row_sums c.put.new.self in
    let set : map (λ r. row_sums r) (slice_set items row c.put.new.self) ≡ slice_set rows row new = map-set (λ r. row_sums r) items row c.put.new.self in
    let put : IsPutIn (lasts_past x (row_at rows row)) at (entry_of c.args.entry) (row_at rows row) new = subst (λ l. IsPutIn (lasts_past x l) at (entry_of c.args.entry) l new) (sym here) (entries_put_in entry_of (lasts_past x (row_sums c.index_mut.result.now)) c.index_mut.result.now.entries.items _ at c.args.entry c.in_ok-put.ensures.put) in
    let old = rows_in c.args.self.now in
    subst (λ l. IsPutIn (lasts_past x (joined old)) (index_in old c.args.spot.row c.args.spot.at) (entry_of c.args.entry) (joined old) (joined l)) (sym set)
    (put_joined x (joined rows) (joined old) (joined (slice_set rows row new)) (index_in rows row at) _ (entry_of c.args.entry) c.in_ok-room.ensures.same c.in_ok-room.ensures.index (rows_put x rows row at inside within (entry_of c.args.entry) new put))

pub returns-clause-some : goal.returns-clause-some
returns-clause-some g c =
    let x = g.I.OverlayInt.whole c.args.x in
    let items = c.make_room.new.self.rows.items in
    let rows = rows_in c.make_room.new.self in
    let row = c.in_ok-room.room.row in
    let at = c.in_ok-room.room.at in
    let many = length-map items (λ r. row_sums r) in
    let inside : row < length rows = c.in_ok-room.ensures.row in
    let here = row_read (λ r. row_sums r) items row c.index_mut.result.now (omega (arith, inside, many)) c.index_mut.ensures.value in
    let within : at ≤ length (row_at rows row) = c.in_ok-room.ensures.at in
    let new = row_sums c.put.new.self in
    let set : map (λ r. row_sums r) (slice_set items row c.put.new.self) ≡ slice_set rows row new = map-set (λ r. row_sums r) items row c.put.new.self in
    let put : IsPutIn (lasts_past x (row_at rows row)) at (entry_of c.args.entry) (row_at rows row) new = subst (λ l. IsPutIn (lasts_past x l) at (entry_of c.args.entry) l new) (sym here) (entries_put_in entry_of (lasts_past x (row_sums c.index_mut.result.now)) c.index_mut.result.now.entries.items _ at c.args.entry c.in_ok-put.ensures.put) in
    subst (λ l. HaveSome l) (sym set) (set_some rows row new c.in_ok-room.ensures.some (some_put x rows row at inside within (entry_of c.args.entry) new put))

pub returns-clause-index : goal.returns-clause-index
returns-clause-index g c =
    let x = g.I.OverlayInt.whole c.args.x in
    let items = c.make_room.new.self.rows.items in
    let rows = rows_in c.make_room.new.self in
    let row = c.in_ok-room.room.row in
    let at = c.in_ok-room.room.at in
    let many = length-map items (λ r. row_sums r) in
    let inside : row < length rows = c.in_ok-room.ensures.row in
    let here = row_read (λ r. row_sums r) items row c.index_mut.result.now (omega (arith, inside, many)) c.index_mut.ensures.value in
    let within : at ≤ length (row_at rows row) = c.in_ok-room.ensures.at in
    let new = row_sums c.put.new.self in
    let set : map (λ r. row_sums r) (slice_set items row c.put.new.self) ≡ slice_set rows row new = map-set (λ r. row_sums r) items row c.put.new.self in
    let put : IsPutIn (lasts_past x (row_at rows row)) at (entry_of c.args.entry) (row_at rows row) new = subst (λ l. IsPutIn (lasts_past x l) at (entry_of c.args.entry) l new) (sym here) (entries_put_in entry_of (lasts_past x (row_sums c.index_mut.result.now)) c.index_mut.result.now.entries.items _ at c.args.entry c.in_ok-put.ensures.put) in
    let there : row_at (slice_set rows row new) row ≡ new = get_or-set_same rows row new _ inside in
    let longer : at + 1 ≤ length new = longer_put x rows row at inside within (entry_of c.args.entry) new put in
    subst (λ l. IsIndexIn l row (at + 1)) (sym set) (inr (omega (arith, inside, length-set rows row new), subst (λ r. at + 1 ≤ length r) (sym there) longer))

pub returns-clause-behind : goal.returns-clause-behind
returns-clause-behind g c =
    let x = g.I.OverlayInt.whole c.args.x in
    let items = c.make_room.new.self.rows.items in
    let rows = rows_in c.make_room.new.self in
    let row = c.in_ok-room.room.row in
    let at = c.in_ok-room.room.at in
    let many = length-map items (λ r. row_sums r) in
    let inside : row < length rows = c.in_ok-room.ensures.row in
    let here = row_read (λ r. row_sums r) items row c.index_mut.result.now (omega (arith, inside, many)) c.index_mut.ensures.value in
    let within : at ≤ length (row_at rows row) = c.in_ok-room.ensures.at in
    let new = row_sums c.put.new.self in
    let set : map (λ r. row_sums r) (slice_set items row c.put.new.self) ≡ slice_set rows row new = map-set (λ r. row_sums r) items row c.put.new.self in
    let put : IsPutIn (lasts_past x (row_at rows row)) at (entry_of c.args.entry) (row_at rows row) new = subst (λ l. IsPutIn (lasts_past x l) at (entry_of c.args.entry) l new) (sym here) (entries_put_in entry_of (lasts_past x (row_sums c.index_mut.result.now)) c.index_mut.result.now.entries.items _ at c.args.entry c.in_ok-put.ensures.put) in
    ap (λ l. index_in l row (at + 1)) set ∙ index_set rows row (at + 1) new ∙ (let next : index_in rows row (at + 1) ≡ suc (index_in rows row at) = omega arith in next) ∙ ap suc c.in_ok-room.ensures.index

pub make_room-requires-clause-some : goal.make_room-requires-clause-some
make_room-requires-clause-some g c = c.requires.some

pub make_room-requires-clause-index : goal.make_room-requires-clause-index
make_room-requires-clause-index g c = c.requires.index

pub returns-in_err-room-clause-put : goal.returns-in_err-room-clause-put
returns-in_err-room-clause-put g c = IfOk-from_err c.from_residual.result _ c.from_residual.ensures.0

pub returns-in_err-room-clause-some : goal.returns-in_err-room-clause-some
returns-in_err-room-clause-some g c = IfOk-from_err c.from_residual.result _ c.from_residual.ensures.0

pub returns-in_err-room-clause-index : goal.returns-in_err-room-clause-index
returns-in_err-room-clause-index g c = IfOk-from_err c.from_residual.result _ c.from_residual.ensures.0

pub returns-in_err-room-clause-behind : goal.returns-in_err-room-clause-behind
returns-in_err-room-clause-behind g c = IfOk-from_err c.from_residual.result _ c.from_residual.ensures.0

pub returns-in_err-put-clause-put : goal.returns-in_err-put-clause-put
returns-in_err-put-clause-put g c = IfOk-from_err c.from_residual-in_err-put.result _ c.from_residual-in_err-put.ensures.0

pub returns-in_err-put-clause-some : goal.returns-in_err-put-clause-some
returns-in_err-put-clause-some g c = IfOk-from_err c.from_residual-in_err-put.result _ c.from_residual-in_err-put.ensures.0

pub returns-in_err-put-clause-index : goal.returns-in_err-put-clause-index
returns-in_err-put-clause-index g c = IfOk-from_err c.from_residual-in_err-put.result _ c.from_residual-in_err-put.ensures.0

pub returns-in_err-put-clause-behind : goal.returns-in_err-put-clause-behind
returns-in_err-put-clause-behind g c = IfOk-from_err c.from_residual-in_err-put.result _ c.from_residual-in_err-put.ensures.0

pub index_mut-requires : goal.index_mut-requires
index_mut-requires g c = omega (arith, c.in_ok-room.ensures.row, length-map c.make_room.new.self.rows.items (λ r. row_sums r))

pub put-requires : goal.put-requires
put-requires g c = grind (arith, common_steps)

pub overflow_add-result : goal.overflow_add-result
overflow_add-result g c = grind (arith, common_steps)
