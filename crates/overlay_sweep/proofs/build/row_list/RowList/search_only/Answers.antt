use Rattle.std.proofs.Common.{◌≡◌, ◌∙◌, ap, sym, subst, arith, length, rules}
use Rattle.std.specs.Prelude.{◌*◌, ◌^◌, ◌<◌, ◌≤◌, ◌⊎◌, map, slice_set}
use Rattle.std.proofs.lemmas.List.{length-map, map-set}
use Rattle.std.proofs.lemmas.Grind.{common_steps}
use Rattle.overlay_sweep.specs.EntryOf.{entry_of}
use Rattle.overlay_sweep.specs.LiveOf.{row_sums, rows_in}
use Rattle.overlay_sweep.specs.LivePositions.{IsLivePosition}
use Rattle.overlay_sweep.specs.LiveRows.{joined, row_at, index_in, lasts_past, segment_at}
use Rattle.overlay_sweep.specs.steps.PlaceOf.{stands_before}
use Rattle.overlay_sweep.specs.steps.Rows.{KeepsLasting}
use Rattle.overlay_sweep.proofs.laws.list.Rows.{keeps_set, row_read, base_last, only_position}
use Rattle.overlay_sweep.proofs.build.row_list.RowList.search_only.Goals as goal

pub returns-clause-keeps : goal.returns-clause-keeps
returns-clause-keeps g c =
    let x = g.I.OverlayInt.whole c.args.x in
    let items = c.args.self.now.rows.items in
    let rows = rows_in c.args.self.now in
    let inside : 0 < length items = omega (arith, c.requires.one, length-map items (λ r. row_sums r)) in
    let here = row_read (λ r. row_sums r) items 0 c.index_mut-only.result.now inside c.index_mut-only.ensures.value in
    let new = row_sums c.search-at.new.self in
    let keeps : KeepsLasting x (row_at rows 0) new = subst (λ l. KeepsLasting x l new) (sym here) (record {
      kept = c.search-at.ensures.kept;
      begun = c.search-at.ensures.begun;
      fewer = omega (arith, c.search-at.ensures.fewer, length-map c.search-at.new.self.entries.items entry_of, length-map c.index_mut-only.result.now.entries.items entry_of);
    }) in
    let set : map (λ r. row_sums r) (slice_set items 0 c.search-at.new.self) ≡ slice_set rows 0 new = map-set (λ r. row_sums r) items 0 c.search-at.new.self in
    subst (λ l. KeepsLasting x (joined rows) (joined l)) (sym set) (keeps_set x rows 0 new keeps)

pub returns-clause-position : goal.returns-clause-position
returns-clause-position g c =
    let x = g.I.OverlayInt.whole c.args.x in
    let items = c.args.self.now.rows.items in
    let rows = rows_in c.args.self.now in
    let new = row_sums c.search-at.new.self in
    let set : map (λ r. row_sums r) (slice_set items 0 c.search-at.new.self) ≡ slice_set rows 0 new = map-set (λ r. row_sums r) items 0 c.search-at.new.self in
    let place : IsLivePosition (lasts_past x new) (λ i. stands_before g.I.OverlayInt.whole c.args.place.now (segment_at new i).pair) (length new) c.search-at.result = rw (length-map c.search-at.new.self.entries.items entry_of) c.search-at.ensures.position in
    subst (λ l. IsLivePosition (lasts_past x (joined l)) (λ i. stands_before g.I.OverlayInt.whole c.args.place.now (segment_at (joined l) i).pair) (length (joined l)) (index_in l 0 c.search-at.result)) (sym set)
    (only_position x (λ s. stands_before g.I.OverlayInt.whole c.args.place.now s.pair) rows c.requires.one new c.search-at.result place)

pub returns-clause-few : goal.returns-clause-few
returns-clause-few g c =
    let items = c.args.self.now.rows.items in
    let rows = rows_in c.args.self.now in
    let inside : 0 < length items = omega (arith, c.requires.one, length-map items (λ r. row_sums r)) in
    let seen = row_read (λ r. row_sums r) items 0 c.index_mut-only.result.now inside c.index_mut-only.ensures.value in
    let all = base_last rows 0 (omega (arith, c.requires.one)) (omega (arith, c.requires.one)) in
    let size : length c.entries-end.result.now ≡ length (joined rows) = ap (λ l. length l) c.entries-end.ensures ∙ sym (length-map c.index_mut-only.result.now.entries.items entry_of) ∙ sym (ap (λ l. length l) seen) ∙ omega (arith, all) in
    subst (λ n. (c.search-at.new.compared ≡ 0) ⊎ (2 ^ c.search-at.new.compared ≤ 2 * n)) size c.search-at.ensures.few

pub search-at-requires-clause-end : goal.search-at-requires-clause-end
search-at-requires-clause-end g c = search rules

pub index_mut-only-requires : goal.index_mut-only-requires
index_mut-only-requires g c = grind (arith, common_steps)

pub returns-clause-one : goal.returns-clause-one
returns-clause-one g c = grind (arith, common_steps)

pub returns-clause-some : goal.returns-clause-some
returns-clause-some g c = grind (arith, common_steps)

pub returns-clause-index : goal.returns-clause-index
returns-clause-index g c = grind (arith, common_steps)
