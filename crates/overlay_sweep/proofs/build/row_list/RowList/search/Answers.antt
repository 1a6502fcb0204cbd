use Rattle.std.proofs.Common.{◌≡◌, ◌∙◌, ap, sym, refl, subst, arith, inl, inr, length}
use Rattle.std.specs.Prelude.{◌-◌, ◌<◌, false, map, slice_set}
use Rattle.std.proofs.lemmas.List.{length-map, map-set}
use Rattle.overlay_sweep.specs.EntryOf.{entry_of}
use Rattle.overlay_sweep.specs.LiveOf.{row_sums, rows_in}
use Rattle.overlay_sweep.specs.LivePositions.{IsLivePosition}
use Rattle.overlay_sweep.specs.LiveRows.{joined, row_at, HaveSome, index_in, IsIndexIn, lasts_past, segment_at}
use Rattle.overlay_sweep.specs.steps.PlaceOf.{stands_before}
use Rattle.overlay_sweep.specs.steps.Rows.{KeepsLasting, EndsWith, IsNextNear}
use Rattle.overlay_sweep.proofs.laws.list.Rows.{keeps_on, keeps_set, row_read, room_of, many_of, next_of_end, searched_some, searched_index, searched_near, searched_position, ended_position, ended_near, two_searches, search_and_one}
use Rattle.overlay_sweep.proofs.build.row_list.RowList.search.Goals as goal

pub returns-then-len-eq1-clause-few : goal.returns-then-len-eq1-clause-few
returns-then-len-eq1-clause-few g c = λ d high.
    let rows = rows_in c.args.self.now in
    let some = many_of rows c.requires.some in
    let pays = search_and_one c.search_only.new.compared (length (joined rows)) d c.search_only.ensures.few (omega (arith, some, length-map c.args.self.now.rows.items (λ r. row_sums r), c.if-len-eq1.true, c.len.ensures, c.args.self.now.rows.ok.0)) high in
    omega (arith, pays)

pub returns-then-row-len-clause-position : goal.returns-then-row-len-clause-position
returns-then-row-len-clause-position g c =
    let whole : c.find_row-row.result ≡ length (rows_in c.find_row-row.new.self) = omega (arith, length-map c.find_row-row.new.self.rows.items (λ r. row_sums r), c.if-row-len.true, c.len.ensures, c.find_row-row.new.self.rows.ok.0) in
    ended_position (g.I.OverlayInt.whole c.args.x) (λ s. stands_before g.I.OverlayInt.whole c.args.place.now s.pair) (rows_in c.find_row-row.new.self) _ _ _ whole c.find_row-row.ensures.below c.end.ensures.last c.end.ensures.index

pub returns-then-row-len-clause-near : goal.returns-then-row-len-clause-near
returns-then-row-len-clause-near g c = ended_near _ _ _ _ c.end.ensures.last

pub returns-then-row-len-clause-few : goal.returns-then-row-len-clause-few
returns-then-row-len-clause-few g c = λ d high.
    let pays = two_searches c.find_row-row.new.compared 0 (length (rows_in c.args.self.now)) 0 (length (joined (rows_in c.args.self.now))) d c.find_row-row.ensures.few (inl refl) (omega (arith, many_of (rows_in c.args.self.now) c.requires.some)) high in
    omega (arith, pays)

pub overflow_sub-last : goal.overflow_sub-last
overflow_sub-last g c =
    let x = g.I.OverlayInt.whole c.args.x in
    let items = c.find_row-row.new.self.rows.items in
    let rows = rows_in c.find_row-row.new.self in
    let row = c.find_row-row.result in
    let found = c.find_row-row.ensures in
    let many = length-map items (λ r. row_sums r) in
    let inside : row < length rows = omega (arith, found.within, many, c.if-row-len.false, c.len.ensures, c.find_row-row.new.self.rows.ok.0) in
    let ends : EndsWith x (λ s. stands_before g.I.OverlayInt.whole c.args.place.now s.pair) false (row_at rows row) = elim found.above [ inl z ↦ absurd (omega (arith, z, inside)) | inr e ↦ e ] in
    let seen = row_read (λ r. row_sums r) items row c.index.result.now (omega (arith, inside, many)) c.index.ensures in
    let size : length (row_at rows row) ≡ length c.entries.result.now = ap (λ l. length l) seen ∙ length-map c.index.result.now.entries.items entry_of ∙ ap (λ l. length l) (sym c.entries.ensures) in
    omega (arith, size, ends.some)

pub search-at-requires-clause-end : goal.search-at-requires-clause-end
search-at-requires-clause-end g c =
    let x = g.I.OverlayInt.whole c.args.x in
    let items = c.find_row-row.new.self.rows.items in
    let rows = rows_in c.find_row-row.new.self in
    let row = c.find_row-row.result in
    let found = c.find_row-row.ensures in
    let many = length-map items (λ r. row_sums r) in
    let inside : row < length rows = omega (arith, found.within, many, c.if-row-len.false, c.len.ensures, c.find_row-row.new.self.rows.ok.0) in
    let ends : EndsWith x (λ s. stands_before g.I.OverlayInt.whole c.args.place.now s.pair) false (row_at rows row) = elim found.above [ inl z ↦ absurd (omega (arith, z, inside)) | inr e ↦ e ] in
    let here = row_read (λ r. row_sums r) items row c.index_mut.result.now (omega (arith, inside, many)) c.index_mut.ensures.value in
    let seen = row_read (λ r. row_sums r) items row c.index.result.now (omega (arith, inside, many)) c.index.ensures in
    let size : length (row_at rows row) ≡ length c.entries.result.now = ap (λ l. length l) seen ∙ length-map c.index.result.now.entries.items entry_of ∙ ap (λ l. length l) (sym c.entries.ensures) in
    let same : length c.index_mut.result.now.entries.items ≡ length (row_at rows row) = sym (length-map c.index_mut.result.now.entries.items entry_of) ∙ sym (ap (λ l. length l) here) in
    next_of_end x (λ s. stands_before g.I.OverlayInt.whole c.args.place.now s.pair) (row_sums c.index_mut.result.now) _ _ (subst (λ l. EndsWith x (λ s. stands_before g.I.OverlayInt.whole c.args.place.now s.pair) false l) here ends) (sym (length-map c.index_mut.result.now.entries.items entry_of)) (omega (arith, same, size))

pub returns-clause-keeps : goal.returns-clause-keeps
returns-clause-keeps g c =
    let x = g.I.OverlayInt.whole c.args.x in
    let items = c.find_row-row.new.self.rows.items in
    let rows = rows_in c.find_row-row.new.self in
    let row = c.find_row-row.result in
    let found = c.find_row-row.ensures in
    let many = length-map items (λ r. row_sums r) in
    let inside : row < length rows = omega (arith, found.within, many, c.if-row-len.false, c.len.ensures, c.find_row-row.new.self.rows.ok.0) in
    let ends : EndsWith x (λ s. stands_before g.I.OverlayInt.whole c.args.place.now s.pair) false (row_at rows row) = elim found.above [ inl z ↦ absurd (omega (arith, z, inside)) | inr e ↦ e ] in
    let here = row_read (λ r. row_sums r) items row c.index_mut.result.now (omega (arith, inside, many)) c.index_mut.ensures.value in
    let new = row_sums c.search-at.new.self in
    let keeps : KeepsLasting x (row_at rows row) new = subst (λ l. KeepsLasting x l new) (sym here) (record {
      kept = c.search-at.ensures.kept;
      begun = c.search-at.ensures.begun;
      fewer = omega (arith, c.search-at.ensures.fewer, length-map c.search-at.new.self.entries.items entry_of, length-map c.index_mut.result.now.entries.items entry_of);
    }) in
    let set : map (λ r. row_sums r) (slice_set items row c.search-at.new.self) ≡ slice_set rows row new = map-set (λ r. row_sums r) items row c.search-at.new.self in
    keeps_on x _ (joined rows) _ found.keeps (subst (λ l. KeepsLasting x (joined rows) (joined l)) (sym set) (keeps_set x rows row new keeps))

pub returns-clause-some : goal.returns-clause-some
returns-clause-some g c =
    let x = g.I.OverlayInt.whole c.args.x in
    let items = c.find_row-row.new.self.rows.items in
    let rows = rows_in c.find_row-row.new.self in
    let row = c.find_row-row.result in
    let found = c.find_row-row.ensures in
    let many = length-map items (λ r. row_sums r) in
    let inside : row < length rows = omega (arith, found.within, many, c.if-row-len.false, c.len.ensures, c.find_row-row.new.self.rows.ok.0) in
    let ends : EndsWith x (λ s. stands_before g.I.OverlayInt.whole c.args.place.now s.pair) false (row_at rows row) = elim found.above [ inl z ↦ absurd (omega (arith, z, inside)) | inr e ↦ e ] in
    let here = row_read (λ r. row_sums r) items row c.index_mut.result.now (omega (arith, inside, many)) c.index_mut.ensures.value in
    let new = row_sums c.search-at.new.self in
    let keeps : KeepsLasting x (row_at rows row) new = subst (λ l. KeepsLasting x l new) (sym here) (record {
      kept = c.search-at.ensures.kept;
      begun = c.search-at.ensures.begun;
      fewer = omega (arith, c.search-at.ensures.fewer, length-map c.search-at.new.self.entries.items entry_of, length-map c.index_mut.result.now.entries.items entry_of);
    }) in
    let set : map (λ r. row_sums r) (slice_set items row c.search-at.new.self) ≡ slice_set rows row new = map-set (λ r. row_sums r) items row c.search-at.new.self in
    subst (λ l. HaveSome l) (sym set) (searched_some x (λ s. stands_before g.I.OverlayInt.whole c.args.place.now s.pair) rows row inside new found.below ends keeps found.some)

pub returns-clause-index : goal.returns-clause-index
returns-clause-index g c =
    let x = g.I.OverlayInt.whole c.args.x in
    let items = c.find_row-row.new.self.rows.items in
    let rows = rows_in c.find_row-row.new.self in
    let row = c.find_row-row.result in
    let found = c.find_row-row.ensures in
    let many = length-map items (λ r. row_sums r) in
    let inside : row < length rows = omega (arith, found.within, many, c.if-row-len.false, c.len.ensures, c.find_row-row.new.self.rows.ok.0) in
    let ends : EndsWith x (λ s. stands_before g.I.OverlayInt.whole c.args.place.now s.pair) false (row_at rows row) = elim found.above [ inl z ↦ absurd (omega (arith, z, inside)) | inr e ↦ e ] in
    let here = row_read (λ r. row_sums r) items row c.index_mut.result.now (omega (arith, inside, many)) c.index_mut.ensures.value in
    let new = row_sums c.search-at.new.self in
    let keeps : KeepsLasting x (row_at rows row) new = subst (λ l. KeepsLasting x l new) (sym here) (record {
      kept = c.search-at.ensures.kept;
      begun = c.search-at.ensures.begun;
      fewer = omega (arith, c.search-at.ensures.fewer, length-map c.search-at.new.self.entries.items entry_of, length-map c.index_mut.result.now.entries.items entry_of);
    }) in
    let set : map (λ r. row_sums r) (slice_set items row c.search-at.new.self) ≡ slice_set rows row new = map-set (λ r. row_sums r) items row c.search-at.new.self in
    let place : IsLivePosition (lasts_past x new) (λ i. stands_before g.I.OverlayInt.whole c.args.place.now (segment_at new i).pair) (length new) c.search-at.result = rw (length-map c.search-at.new.self.entries.items entry_of) c.search-at.ensures.position in
    subst (λ l. IsIndexIn l row c.search-at.result) (sym set) (searched_index x (λ s. stands_before g.I.OverlayInt.whole c.args.place.now s.pair) rows row inside new found.below ends keeps c.search-at.result place)

pub returns-clause-position : goal.returns-clause-position
returns-clause-position g c =
    let x = g.I.OverlayInt.whole c.args.x in
    let items = c.find_row-row.new.self.rows.items in
    let rows = rows_in c.find_row-row.new.self in
    let row = c.find_row-row.result in
    let found = c.find_row-row.ensures in
    let many = length-map items (λ r. row_sums r) in
    let inside : row < length rows = omega (arith, found.within, many, c.if-row-len.false, c.len.ensures, c.find_row-row.new.self.rows.ok.0) in
    let ends : EndsWith x (λ s. stands_before g.I.OverlayInt.whole c.args.place.now s.pair) false (row_at rows row) = elim found.above [ inl z ↦ absurd (omega (arith, z, inside)) | inr e ↦ e ] in
    let here = row_read (λ r. row_sums r) items row c.index_mut.result.now (omega (arith, inside, many)) c.index_mut.ensures.value in
    let new = row_sums c.search-at.new.self in
    let keeps : KeepsLasting x (row_at rows row) new = subst (λ l. KeepsLasting x l new) (sym here) (record {
      kept = c.search-at.ensures.kept;
      begun = c.search-at.ensures.begun;
      fewer = omega (arith, c.search-at.ensures.fewer, length-map c.search-at.new.self.entries.items entry_of, length-map c.index_mut.result.now.entries.items entry_of);
    }) in
    let set : map (λ r. row_sums r) (slice_set items row c.search-at.new.self) ≡ slice_set rows row new = map-set (λ r. row_sums r) items row c.search-at.new.self in
    let place : IsLivePosition (lasts_past x new) (λ i. stands_before g.I.OverlayInt.whole c.args.place.now (segment_at new i).pair) (length new) c.search-at.result = rw (length-map c.search-at.new.self.entries.items entry_of) c.search-at.ensures.position in
    subst (λ l. IsLivePosition (lasts_past x (joined l)) (λ i. stands_before g.I.OverlayInt.whole c.args.place.now (segment_at (joined l) i).pair) (length (joined l)) (index_in l row c.search-at.result)) (sym set)
    (searched_position x (λ s. stands_before g.I.OverlayInt.whole c.args.place.now s.pair) rows row inside new found.below ends keeps c.search-at.result place)

pub returns-clause-near : goal.returns-clause-near
returns-clause-near g c =
    let x = g.I.OverlayInt.whole c.args.x in
    let items = c.find_row-row.new.self.rows.items in
    let rows = rows_in c.find_row-row.new.self in
    let row = c.find_row-row.result in
    let found = c.find_row-row.ensures in
    let many = length-map items (λ r. row_sums r) in
    let inside : row < length rows = omega (arith, found.within, many, c.if-row-len.false, c.len.ensures, c.find_row-row.new.self.rows.ok.0) in
    let ends : EndsWith x (λ s. stands_before g.I.OverlayInt.whole c.args.place.now s.pair) false (row_at rows row) = elim found.above [ inl z ↦ absurd (omega (arith, z, inside)) | inr e ↦ e ] in
    let here = row_read (λ r. row_sums r) items row c.index_mut.result.now (omega (arith, inside, many)) c.index_mut.ensures.value in
    let new = row_sums c.search-at.new.self in
    let keeps : KeepsLasting x (row_at rows row) new = subst (λ l. KeepsLasting x l new) (sym here) (record {
      kept = c.search-at.ensures.kept;
      begun = c.search-at.ensures.begun;
      fewer = omega (arith, c.search-at.ensures.fewer, length-map c.search-at.new.self.entries.items entry_of, length-map c.index_mut.result.now.entries.items entry_of);
    }) in
    let set : map (λ r. row_sums r) (slice_set items row c.search-at.new.self) ≡ slice_set rows row new = map-set (λ r. row_sums r) items row c.search-at.new.self in
    let place : IsLivePosition (lasts_past x new) (λ i. stands_before g.I.OverlayInt.whole c.args.place.now (segment_at new i).pair) (length new) c.search-at.result = rw (length-map c.search-at.new.self.entries.items entry_of) c.search-at.ensures.position in
    subst (λ l. IsNextNear x l row c.search-at.result) (sym set) (searched_near x (λ s. stands_before g.I.OverlayInt.whole c.args.place.now s.pair) rows row inside new found.below ends keeps c.search-at.result place)

pub returns-clause-few : goal.returns-clause-few
returns-clause-few g c = λ d high.
    let x = g.I.OverlayInt.whole c.args.x in
    let items = c.find_row-row.new.self.rows.items in
    let rows = rows_in c.find_row-row.new.self in
    let row = c.find_row-row.result in
    let found = c.find_row-row.ensures in
    let many = length-map items (λ r. row_sums r) in
    let inside : row < length rows = omega (arith, found.within, many, c.if-row-len.false, c.len.ensures, c.find_row-row.new.self.rows.ok.0) in
    let ends : EndsWith x (λ s. stands_before g.I.OverlayInt.whole c.args.place.now s.pair) false (row_at rows row) = elim found.above [ inl z ↦ absurd (omega (arith, z, inside)) | inr e ↦ e ] in
    let seen = row_read (λ r. row_sums r) items row c.index.result.now (omega (arith, inside, many)) c.index.ensures in
    let size : length (row_at rows row) ≡ length c.entries.result.now = ap (λ l. length l) seen ∙ length-map c.index.result.now.entries.items entry_of ∙ ap (λ l. length l) (sym c.entries.ensures) in
    let room = room_of rows row found.some inside in
    let pays = two_searches c.find_row-row.new.compared c.search-at.new.compared (length (rows_in c.args.self.now)) (length c.entries.result.now - 1) (length (joined (rows_in c.args.self.now))) d found.few c.search-at.ensures.few (omega (arith, room, found.paid, size)) high in
    omega (arith, pays, c.saturating_add.ensures)

pub index-requires : goal.index-requires
index-requires g c = omega (arith, c.find_row-row.ensures.within, length-map c.find_row-row.new.self.rows.items (λ r. row_sums r), c.if-row-len.false, c.len.ensures, c.find_row-row.new.self.rows.ok.0)

pub index_mut-requires : goal.index_mut-requires
index_mut-requires g c = omega (arith, c.find_row-row.ensures.within, length-map c.find_row-row.new.self.rows.items (λ r. row_sums r), c.if-row-len.false, c.len.ensures, c.find_row-row.new.self.rows.ok.0)

pub search-at-requires-clause-place : goal.search-at-requires-clause-place
search-at-requires-clause-place g c = c.requires.place

pub returns-then-row-len-clause-keeps : goal.returns-then-row-len-clause-keeps
returns-then-row-len-clause-keeps g c = c.find_row-row.ensures.keeps

pub returns-then-row-len-clause-some : goal.returns-then-row-len-clause-some
returns-then-row-len-clause-some g c = c.find_row-row.ensures.some

pub returns-then-row-len-clause-index : goal.returns-then-row-len-clause-index
returns-then-row-len-clause-index g c = c.end.ensures.index

pub find_row-row-requires-clause-place : goal.find_row-row-requires-clause-place
find_row-row-requires-clause-place g c = c.requires.place

pub find_row-row-requires-clause-some : goal.find_row-row-requires-clause-some
find_row-row-requires-clause-some g c = c.requires.some
