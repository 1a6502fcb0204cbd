use Rattle.std.proofs.Common.{◌∙◌, ◌<◌, ap, ap₂, sym, arith, length}
use Rattle.std.specs.Prelude.{[], ◌∷◌, ◌++◌, map}
use Rattle.std.proofs.lemmas.List.{length-map}
use Rattle.overlay_sweep.specs.EntryOf.{entry_of}
use Rattle.overlay_sweep.specs.LiveOf.{row_sums, rows_in}
use Rattle.overlay_sweep.proofs.laws.list.Rows.{row_read, joined_next, joined_whole}
use Rattle.overlay_sweep.proofs.build.row_list.RowList.gather.Goals as goal

pub loop-row-init : goal.loop-row-init
loop-row-init g c = ap (map entry_of) c.new-all.ensures.entries

pub loop-row-preserved : goal.loop-row-preserved
loop-row-preserved g c =
    let items = c.args.self.now.rows.items in
    let many = length-map items (λ r. row_sums r) in
    let inside : c.loop-row.row < length items = omega (arith, c.loop-row-test.true, c.len-row-end.ensures, c.args.self.now.rows.ok.0) in
    let seen = row_read (λ r. row_sums r) items c.loop-row.row c.index.result.now inside c.index.ensures in
    c.in_ok-append.ensures.entries ∙ ap₂ (λ k l. k ++ l) c.loop-row.invariant (ap (map entry_of) c.entries.ensures ∙ sym seen) ∙ sym (joined_next (rows_in c.args.self.now) c.loop-row.row (omega (arith, inside, many)))

pub returns-clause-all : goal.returns-clause-all
returns-clause-all g c =
    let items = c.args.self.now.rows.items in
    let many = length-map items (λ r. row_sums r) in
    let whole = joined_whole (rows_in c.args.self.now) c.loop-row.row (omega (arith, many, c.loop-row-test.false, c.loop-row.auto.row-end, c.len-row-end.ensures, c.args.self.now.rows.ok.0)) in
    ap (map (λ r. row_sums r)) (c.in_ok-push.ensures.items ∙ ap (λ l. l ++ c.loop-row.all ∷ []) c.clear.ensures.items) ∙ ap (λ l. l ∷ []) (c.loop-row.invariant ∙ whole)
