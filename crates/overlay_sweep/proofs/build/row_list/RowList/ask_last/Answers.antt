use Rattle.std.proofs.Common.{◌≡◌, ◌∙◌, ap, sym, subst, arith, inl, inr, length, ◌<◌, ◌≤◌}
use Rattle.std.specs.Prelude.{◌-◌, [], map}
use Rattle.std.proofs.lemmas.List.{length-map, map-set, get_or-set_same}
use Rattle.overlay_base.specs.Segments.{WholeSegment}
use Rattle.overlay_sweep.specs.EntryOf.{entry_of}
use Rattle.overlay_sweep.specs.LiveOf.{row_entries, row_sums}
use Rattle.overlay_sweep.specs.LiveRows.{lasts_past, segment_at}
use Rattle.overlay_sweep.specs.steps.PlaceOf.{stands_before}
use Rattle.overlay_sweep.specs.steps.Rows.{KeepsLasting}
use Rattle.overlay_sweep.proofs.laws.list.RowReads.{segment_read}
use Rattle.overlay_sweep.proofs.laws.list.LastingRows.{entries_without}
use Rattle.overlay_sweep.proofs.laws.list.Rows.{row_read, remove_set, none_of}
use Rattle.overlay_sweep.proofs.build.row_list.RowList.ask_last.Goals as goal

pub returns-then-many-eq0-clause-dropped : goal.returns-then-many-eq0-clause-dropped
returns-then-many-eq0-clause-dropped g c =
    let x = g.I.OverlayInt.whole c.args.x in
    let items = c.args.self.now.rows.items in
    let row = c.args.row in
    let left = c.drop_ended_last.new.self in
    let inside : row < length items = omega (arith, c.requires.within, length-map items (λ r. row_sums r)) in
    let here = row_read (λ r. row_sums r) items row c.index_mut.result.now inside c.index_mut.ensures.value in
    let same : c.index.result.now ≡ left = c.index.ensures ∙ get_or-set_same items row left _ inside in
    let read : c.entries-entries.result.now ≡ row_entries left = c.entries-entries.ensures ∙ ap (λ r. row_entries r) same in
    let none : row_sums left ≡ [] = ap (map entry_of) (none_of (row_entries left) (ap (λ l. length l) (sym read) ∙ c.if-many-eq0.true)) in
    record {
      removed = ap (map (λ r. row_sums r)) c.remove.ensures.items ∙ ap (map (λ r. row_sums r)) (remove_set items row left) ∙ entries_without (λ r. row_sums r) items row;
      keeps = subst (λ l. KeepsLasting x l []) (sym here) (subst (λ l. KeepsLasting x (row_sums c.index_mut.result.now) l) none c.drop_ended_last.ensures.keeps);
    }

pub returns-clause-trimmed : goal.returns-clause-trimmed
returns-clause-trimmed g c =
    let x = g.I.OverlayInt.whole c.args.x in
    let items = c.args.self.now.rows.items in
    let row = c.args.row in
    let left = c.drop_ended_last.new.self in
    let inside : row < length items = omega (arith, c.requires.within, length-map items (λ r. row_sums r)) in
    let here = row_read (λ r. row_sums r) items row c.index_mut.result.now inside c.index_mut.ensures.value in
    let same : c.index.result.now ≡ left = c.index.ensures ∙ get_or-set_same items row left _ inside in
    let read : c.entries-entries.result.now ≡ row_entries left = c.entries-entries.ensures ∙ ap (λ r. row_entries r) same in
    let many : length c.entries-entries.result.now ≡ length (row_entries left) = ap (λ l. length l) read in
    let size = length-map (row_entries left) entry_of in
    let some : 1 ≤ length (row_entries left) = omega (arith, many, c.if-many-eq0.false) in
    let last : length (row_sums left) - 1 ≡ length (row_entries left) - 1 = omega (arith, size) in
    let entry = segment_read entry_of c.entries-entries.result.now _ c.index-entries-many.result (omega (arith, many, some)) c.index-entries-many.is in
    let at : length (row_entries left) - 1 ≡ length c.entries-entries.result.now - 1 = omega (arith, many) in
    let found : segment_at (row_sums left) (length (row_sums left) - 1) ≡ entry_of c.index-entries-many.result = ap (λ n. segment_at (row_sums left) n) (last ∙ at) ∙ ap (λ l. segment_at (map entry_of l) (length c.entries-entries.result.now - 1)) (sym read) ∙ entry in
    record {
      row = row_sums left;
      set = map-set (λ r. row_sums r) items row left;
      keeps = subst (λ l. KeepsLasting x l (row_sums left)) (sym here) c.drop_ended_last.ensures.keeps;
      ends = record {
        some = omega (arith, some, size);
        lasts = ap (λ n. lasts_past x (row_sums left) n) last ∙ elim c.drop_ended_last.ensures.last [ inl none ↦ absurd (omega (arith, none, some)) | inr is ↦ is ];
        is_before = ap (λ (s : WholeSegment). stands_before g.I.OverlayInt.whole c.args.place.now s.pair) found ∙ sym c.is_before.ensures.value;
      };
    }
