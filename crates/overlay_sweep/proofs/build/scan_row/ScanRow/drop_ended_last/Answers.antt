use Rattle.std.proofs.Common.{◌≡◌, ◌∙◌, ap, sym, subst, arith, inl, inr, length}
use Rattle.std.specs.Prelude.{◌-◌, ◌<◌, map}
use Rattle.std.specs.List.{take-map}
use Rattle.std.proofs.lemmas.List.{length-map, length-take}
use Rattle.overlay_base.specs.Segments.{WholeSegment}
use Rattle.overlay_sweep.specs.EntryOf.{entry_of, entries_of}
use Rattle.overlay_sweep.specs.LiveRows.{lasts_past}
use Rattle.overlay_sweep.specs.steps.Rows.{KeepsLasting}
use Rattle.overlay_sweep.proofs.laws.live.ScanSums.{lasting}
use Rattle.overlay_sweep.proofs.laws.list.RowReads.{segment_read}
use Rattle.overlay_sweep.proofs.laws.list.Rows.{trimmed, trimmed_last, ended_down}
use Rattle.overlay_sweep.proofs.build.scan_row.ScanRow.drop_ended_last.Goals as goal
use Rattle.overlay_sweep.proofs.build.scan_row.ScanRow.drop_ended_last.Goals.{then-loop-left-test+else-not-lasts_past, else-loop-left-test}

pub loop-left-init : goal.loop-left-init
loop-left-init g c = record {
  within = omega (arith, c.len-left.ensures, c.args.self.now.entries.ok.0);
  ended = λ k a b. absurd (omega (arith, a, b, c.len-left.ensures, c.args.self.now.entries.ok.0));
}

pub index-requires : goal.index-requires
index-requires g c = omega (arith, c.loop-left.invariant.within, c.loop-left-test.true, c.args.self.now.entries.ok.0)

pub loop-left-preserved : goal.loop-left-preserved
loop-left-preserved g c =
    let items = c.args.self.now.entries.items in
    let inside : c.loop-left.left - 1 < length items = omega (arith, c.loop-left.invariant.within, c.loop-left-test.true) in
    let read = segment_read entry_of items (c.loop-left.left - 1) c.index.result.now inside c.index.ensures in
    let here = ap (λ (s : WholeSegment). lasting (g.I.OverlayInt.whole c.args.x) s) read ∙ sym c.lasts_past.ensures ∙ c.if-not-lasts_past.true in
    record { within = omega (arith, c.loop-left.invariant.within); ended = ended_down _ _ _ here c.loop-left.invariant.ended }

pub returns-clause-keeps : goal.returns-clause-keeps
returns-clause-keeps g c =
    let items = c.args.self.now.entries.items in
    let same = length-map items entry_of in
    subst (λ ks. KeepsLasting (g.I.OverlayInt.whole c.args.x) (entries_of items) ks) (take-map entry_of c.loop-left.left items ∙ sym (ap (map entry_of) c.truncate.ensures.items))
    (trimmed (g.I.OverlayInt.whole c.args.x) (entries_of items) c.loop-left.left (omega (arith, same, c.loop-left.invariant.within)) (λ k a b. c.loop-left.invariant.ended k a (omega (arith, b, same))))

pub returns-clause-last : goal.returns-clause-last
returns-clause-last g c =
    let x = g.I.OverlayInt.whole c.args.x in
    let items = c.args.self.now.entries.items in
    let left = c.loop-left.left in
    let size : length c.truncate.new.self.items ≡ left = ap (λ l. length l) c.truncate.ensures.items ∙ omega (arith, length-take left items, c.loop-left.invariant.within) in
    elim c.loop-left-test.branch [
      | then-loop-left-test+else-not-lasts_past w ↦
          (let inside : left - 1 < length items = omega (arith, c.loop-left.invariant.within, w.loop-left-test.true) in
          let read = segment_read entry_of items (left - 1) w.index.result.now inside w.index.ensures in
          let here = ap (λ (s : WholeSegment). lasting x s) read ∙ sym w.lasts_past.ensures ∙ w.if-not-lasts_past.false in
          let last = trimmed_last x (entries_of items) left (omega (arith, length-map items entry_of, c.loop-left.invariant.within)) (omega (arith, w.loop-left-test.true)) in
          let at : length c.truncate.new.self.items - 1 ≡ left - 1 = omega (arith, size) in
          inr (ap (λ n. lasts_past x (entries_of c.truncate.new.self.items) n) at ∙ ap (λ ks. lasts_past x ks (left - 1)) (ap (map entry_of) c.truncate.ensures.items ∙ sym (take-map entry_of left items)) ∙ last ∙ here))
      | else-loop-left-test w ↦ inl (omega (arith, size, w.loop-left-test.false))
    ]

pub overflow_sub-left : goal.overflow_sub-left
overflow_sub-left g c = omega (arith, c.loop-left-test.true)

pub overflow_sub-left-in-loop-left : goal.overflow_sub-left-in-loop-left
overflow_sub-left-in-loop-left g c = omega (arith, c.loop-left-test.true)

pub loop-left-smaller : goal.loop-left-smaller
loop-left-smaller g c = omega (arith, c.loop-left-test.true)
