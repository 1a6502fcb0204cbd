use Rattle.std.proofs.Common.{◌≡◌, ◌∙◌, sym, ap, subst, ℕ, IsTrue, List, map, length, flat_map}
use Rattle.std.proofs.lemmas.List.{length-map}
use Rattle.std.proofs.lemmas.List.Folds.{flat_map-map}
use Rattle.overlay_base.specs.EdgeData.{DataSegment, without_data}
use Rattle.overlay_base.specs.Planar.{is_splittable, is_arranged}
use Rattle.overlay_base.specs.SegmentOf.{segment_of, segments_of, data_segments_of}
use Rattle.overlay_base.specs.Segments.{WholeSegment}
use Rattle.overlay_base.specs.declared.segm.fault.Fault.{Fault}
use Rattle.overlay_base.specs.declared.segm.fault.Fault.TheVariants.{CountOutOfRange}
use Rattle.overlay_base.proofs.laws.joins.Views.{segments_of-bare}
use Rattle.overlay_contours.specs.Splittings.{Splitting, SumsLeaveRange}
use Rattle.overlay_contours.proofs.laws.Overlays.{refused_as}
use Rattle.i_overlay.specs.Courses.{Course}
use Rattle.i_overlay.specs.Headline.{IsSplitBy}
use Rattle.i_overlay.specs.NumberLists.{numbered, numbers_in, named_in}
use Rattle.i_overlay.specs.SplitterOf.{splitting_over, course_over, rounding_in}
use Rattle.i_overlay.specs.declared.number_lists.NumberList.{NumberList}
use Rattle.i_overlay.proofs.laws.GatheredNumbers.{bare_by, bare_told, told_by, has_numbers, told_numbers, looks_alike}
use Rattle.i_overlay.proofs.line_numbers.LineNumbers.split_in_room.Goals as goal

pub split_segments_with_store-requires : goal.split_segments_with_store-requires
split_segments_with_store-requires g c =
    let I = g.I.OverlayInt in
    let is = c.in_ok-number_lines.ensures ∙ ap (λ xs. numbered (segments_of xs)) c.deref.ensures.value in
    let bare = bare_by c.number_lines.new.list (segments_of c.args.segments.now.items) is in
    subst (λ (l : List WholeSegment). IsTrue (is_splittable (I.whole I.MIN_COORD) (I.whole I.MAX_COORD) l)) (sym bare) c.requires

pub returns-in_err-split_segments_with_store-clause-too_large : goal.returns-in_err-split_segments_with_store-clause-too_large
returns-in_err-split_segments_with_store-clause-too_large g c =
    let is = c.in_ok-number_lines.ensures ∙ ap (λ xs. numbered (segments_of xs)) c.deref.ensures.value in
    let given : List WholeSegment = segments_of c.args.segments.now.items in
    let bare = bare_by c.number_lines.new.list given is in
    let splitting : Splitting = splitting_over c.args.solver.now c.args.splitter.now c.args.segments.now in
    let left = c.from_residual-in_err-split_segments_with_store in
    refused_as left.result (λ (fault : Fault). fault ≡ CountOutOfRange → SumsLeaveRange splitting given) c.in_err-split_segments_with_store.field-0.0 left.ensures.1
    (λ h. subst (λ (l : List WholeSegment). SumsLeaveRange splitting l) bare (c.in_err-split_segments_with_store.ensures.refused.too_large h))

pub returns-clause-split : goal.returns-clause-split
returns-clause-split g c = λ enough.
    let is = c.in_ok-number_lines.ensures ∙ ap (λ xs. numbered (segments_of xs)) c.deref.ensures.value in
    let segments = c.args.segments.now in
    let given : List WholeSegment = segments_of segments.items in
    let bare = bare_by c.number_lines.new.list given is in
    let kept = sym (c.in_ok-keep_segments.ensures ∙ ap (λ xs. segments_of xs) c.deref-2.ensures.value) in
    let course : Course = course_over c.args.solver.now c.args.splitter.now c.split_segments_with_store.new.self segments in
    let first = c.in_ok-lists in
    let left = c.split_segments_with_store.new.store in
    let after = c.split_segments_with_store.new.list in
    let pieces : List (DataSegment NumberList) = data_segments_of after.items in
    let used : first.lists.used ≡ length given = first.ensures.used ∙ c.len.ensures ∙ segments.ok.0 ∙ sym (length-map segments.items segment_of) in
    let e = c.in_ok-split_segments_with_store.ensures in
    let told = sym (told_numbers left pieces) in
    let shown = ap (λ xs. data_segments_of xs) c.deref-3.ensures.value in
    record {
      split = subst (λ (l : List WholeSegment). IsSplitBy course given l) kept
          (subst (λ (l : List WholeSegment). IsSplitBy course l (segments_of after.items)) bare e.split.split);
      fits = λ h. e.split.fits (subst (λ (l : List WholeSegment). SumsLeaveRange course.splitting l) (sym bare) h);
      lines = record {
        numbered = map (told_by left) pieces;
        same_segments = bare_told left pieces ∙ sym (segments_of-bare after.items) ∙ kept;
        laid = (
          c.in_ok-keep_numbers.ensures.counts ∙ ap (λ xs. map length (map (λ s. named_in (numbers_in left) s.edge_data) xs)) shown ∙ ap (λ ls. map length ls) told,
          c.in_ok-keep_numbers.ensures.numbers ∙ ap (λ xs. flat_map (λ s. named_in (numbers_in left) s.edge_data) xs) shown
              ∙ sym (flat_map-map (λ (l : List ℕ). l) (λ s. named_in (numbers_in left) s.edge_data) pieces) ∙ ap (λ ls. flat_map (λ l. l) ls) told,
        );
        gathered = has_numbers given first.lists c.args.room first.ensures.numbers used course.splitting course.passes c.number_lines.new.list after left is bare e.split.edge_data e.store (c.is_whole.ensures c.if-not-is_whole.false);
      };
    }

pub returns-clause-unchanged : goal.returns-clause-unchanged
returns-clause-unchanged g c = λ arranged enough.
    let I = g.I.OverlayInt in
    let is = c.in_ok-number_lines.ensures ∙ ap (λ xs. numbered (segments_of xs)) c.deref.ensures.value in
    let bare = bare_by c.number_lines.new.list (segments_of c.args.segments.now.items) is in
    let before = c.number_lines.new.list in
    let after = c.split_segments_with_store.new.list in
    let same = (c.in_ok-split_segments_with_store.ensures.unchanged (subst (λ (l : List WholeSegment). IsTrue (is_arranged (I.whole I.MIN_COORD) (I.whole I.MAX_COORD) l)) (sym bare) arranged)).1 in
    c.in_ok-keep_segments.ensures ∙ ap (λ xs. segments_of xs) c.deref-2.ensures.value
    ∙ segments_of-bare after.items ∙ ap (λ xs. without_data xs) same ∙ sym (segments_of-bare before.items) ∙ bare

pub returns-then-not-is_whole-clause-looked : goal.returns-then-not-is_whole-clause-looked
returns-then-not-is_whole-clause-looked g c =
    let is = c.in_ok-number_lines.ensures ∙ ap (λ xs. numbered (segments_of xs)) c.deref.ensures.value in
    let bare = bare_by c.number_lines.new.list (segments_of c.args.segments.now.items) is in
    looks_alike (rounding_in c.args.splitter.now) c.args.solver.now c.args.splitter.now.splitter c.split_segments_with_store.new.self.splitter c.number_lines.new.list c.args.segments.now bare c.in_ok-split_segments_with_store.ensures.looked

pub returns-clause-looked : goal.returns-clause-looked
returns-clause-looked g c =
    let is = c.in_ok-number_lines.ensures ∙ ap (λ xs. numbered (segments_of xs)) c.deref.ensures.value in
    let bare = bare_by c.number_lines.new.list (segments_of c.args.segments.now.items) is in
    looks_alike (rounding_in c.args.splitter.now) c.args.solver.now c.args.splitter.now.splitter c.split_segments_with_store.new.self.splitter c.number_lines.new.list c.args.segments.now bare c.in_ok-split_segments_with_store.ensures.looked
