use Rattle.std.proofs.Common.{◌≡◌, ◌<◌, ◌≤◌, ◌+◌, ◌++◌, ◌||◌, ◌∙◌, arith, sym, ap, subst, refl, Bool, map, length, List, [], ℕ}
use Rattle.std.specs.Prelude.{IsTrue, IsPermutation, IsSorted}
use Rattle.std.specs.List.{AllByRecursion, list_any, range_with_len}
use Rattle.std.proofs.lemmas.List.Elements.{All-weaker}
use Rattle.std.proofs.lemmas.List.Sorted.{IsPermutation-refl}
use Rattle.overlay_geometry.specs.Coordinates.{is_pair_in_range}
use Rattle.overlay_geometry.proofs.laws.geometry.Coordinates.{pair_in_range}
use Rattle.overlay_base.specs.SegmentOf.{pairs_in, segments_of, x_segment_of}
use Rattle.overlay_base.proofs.laws.geometry.Apart.{are_ordered}
use Rattle.overlay_intersections.specs.MarkOf.{marks_of}
use Rattle.overlay_intersections.specs.PlacingOf.{placing_of}
use Rattle.overlay_grid.specs.ColumnLooks.{twos_in_height}
use Rattle.overlay_grid.specs.FragmentOf.{KeptFragment, layout_of}
use Rattle.overlay_grid.specs.Grid.{IsInside, group_count, pos_of}
use Rattle.overlay_grid.specs.steps.Entering.{rests_of}
use Rattle.overlay_grid.specs.steps.FragmentFinder.{HoldSame, heights_at, is_group_rounded, is_ready, kept_group, marks_of_group, marks_of_heights}
use Rattle.overlay_grid.specs.steps.Sweeps.{looks_of_column, marks_of_column}
use Rattle.overlay_grid.proofs.laws.grid.BorderMarks.{borders-start, borders-end}
use Rattle.overlay_grid.proofs.laws.grid.GridFound.{all_pairs, all_ready}
use Rattle.overlay_grid.proofs.laws.grid.SweptColumns.{columns-more, flag-more, next_ends, no_heights, none_at_first, parted_at_first}
use Rattle.overlay_grid.proofs.split.column_sweep.mark_columns.Goals as goal
use Rattle.overlay_grid.proofs.split.column_sweep.mark_columns.Goals.{then-rounded, else-rounded}

pub loop-column-init : goal.loop-column-init
loop-column-init g c =
    let whole = g.I.OverlayInt.whole in
    let l = layout_of c.args.layout.now in
    let ss = pairs_in c.args.segments.now in
    record {
      parted = parted_at_first l ss;
      rests = ap (rests_of whole) c.clear.ensures.items ∙ sym (none_at_first l ss);
      ends = λ _. subst (λ (ys : List _). IsPermutation (heights_at (pos_of l 0) []) (map whole ys)) (sym c.clear-2.ensures.items) (no_heights (pos_of l 0));
      sorted = subst (λ (ys : List _). IsSorted g.I.Ord.cmp ys) (sym c.clear-2.ensures.items) (λ k d low high. absurd (omega arith));
      seen = borders-start _ _ _ _;
      within = c.requires.limit;
      flag = refl;
    }

pub mark_column-requires-clause-ready : goal.mark_column-requires-clause-ready
mark_column-requires-clause-ready g c =
    let whole = g.I.OverlayInt.whole in
    let l = layout_of c.args.layout.now in
    let ss = pairs_in c.args.segments.now in
    let in_range = all_pairs (λ s. IsTrue (is_pair_in_range (whole g.I.OverlayInt.MIN_COORD) (whole g.I.OverlayInt.MAX_COORD) s)) c.args.segments.now (All-weaker _ _ (λ s h. pair_in_range whole g.I.OverlayInt.MIN_COORD g.I.OverlayInt.MAX_COORD (x_segment_of s) h) c.args.segments.now c.requires.in_range) in
    let ready = all_ready (placing_of c.args.placing) l (segments_of c.args.segments.now) (kept_group l 0 ss) (are_ordered c.args.segments.now) (all_pairs (IsInside l) c.args.segments.now c.requires.inside) (λ column. IsPermutation-refl (kept_group l 0 ss column))
    (whole g.I.OverlayInt.MIN_COORD) (whole g.I.OverlayInt.MAX_COORD) in_range c.loop-column.column in
    subst (λ (fs : List KeptFragment). AllByRecursion (λ f. IsTrue (is_ready (whole g.I.OverlayInt.MIN_COORD) (whole g.I.OverlayInt.MAX_COORD) f)) fs) (sym c.in_ok-from.ensures.group) ready

pub loop-column-preserved : goal.loop-column-preserved
loop-column-preserved g c =
    let whole = g.I.OverlayInt.whole in
    let l = layout_of c.args.layout.now in
    let ss = pairs_in c.args.segments.now in
    let p = placing_of c.args.placing in
    let column = c.loop-column.column in
    let in_range = all_pairs (λ s. IsTrue (is_pair_in_range (whole g.I.OverlayInt.MIN_COORD) (whole g.I.OverlayInt.MAX_COORD) s)) c.args.segments.now (All-weaker _ _ (λ s h. pair_in_range whole g.I.OverlayInt.MIN_COORD g.I.OverlayInt.MAX_COORD (x_segment_of s) h) c.args.segments.now c.requires.in_range) in
    let ready = all_ready p l (segments_of c.args.segments.now) (kept_group l 0 ss) (are_ordered c.args.segments.now) (all_pairs (IsInside l) c.args.segments.now c.requires.inside) (λ column. IsPermutation-refl (kept_group l 0 ss column))
    (whole g.I.OverlayInt.MIN_COORD) (whole g.I.OverlayInt.MAX_COORD) in_range column in
    let count = c.column_count-column-end.ensures in
    let t = c.loop-column-test.true in
    let within : column < group_count l = omega (arith, count, t) in
    let ys = map whole c.loop-column.sweep.right_ends.items in
    let old = marks_of whole c.loop-column.marks.items in
    let next = marks_of whole c.mark_column.new.marks.items in
    let group = c.in_ok-from.ensures.group in
    let rests = c.in_ok-found.ensures.rests in
    let ends = rw c.in-Some.is at c.in_ok-found.ensures.ends in
    let sorted = rw c.in-Some.is at c.in_ok-found.ensures.sorted in
    let marks = rw c.in-Some.is at c.in_ok-found.ensures.marks in
    let looked = rw c.in-Some.is at c.in_ok-found.ensures.looked in
    let rounds = rw c.in-Some.is at c.in_ok-found.ensures.rounded in
    let flag : c.if-rounded.rounded ≡ (c.loop-column.rounded || is_group_rounded (kept_group l 0 ss column)) =
    elim c.if-rounded.branch [
      | then-rounded w ↦ w.rounded-is ∙ w.if-rounded.true ∙ ap (λ (b : Bool). b || is_group_rounded (kept_group l 0 ss column)) (sym w.if-rounded.true)
      | else-rounded w ↦ w.rounded-is ∙ rounds ∙ ap is_group_rounded group ∙ ap (λ (b : Bool). b || is_group_rounded (kept_group l 0 ss column)) (sym w.if-rounded.false)
    ] in
    record {
      parted = c.in_ok-from.ensures.parted;
      rests = ap (λ (v : _). rests_of whole v.items) rests ∙ c.in_ok-from.ensures.rests;
      ends = λ more. next_ends l ss column _ (map whole c.mark_column.new.sweep.right_ends.items) group (ends more);
      sorted = sorted;
      seen = columns-more (whole g.I.OverlayInt.MIN_COORD) (whole g.I.OverlayInt.MAX_COORD) p l ss column ys (marks_of whole c.args.marks.now.items) old next c.args.looked.now c.loop-column.looked c.mark_column.new.looked c.loop-column.invariant.seen ready (c.loop-column.invariant.ends within)
          (subst (λ (fs : List KeptFragment). HoldSame (old ++ (marks_of_heights (pos_of l column) ys fs ++ marks_of_group p fs)) next) group marks)
          (subst (λ (fs : List KeptFragment). c.mark_column.new.looked ≤ c.loop-column.looked + (length (marks_of_heights (pos_of l column) ys fs) + twos_in_height fs)) group looked);
      within = c.in_ok-found.ensures.within;
      flag = flag-more (λ column. is_group_rounded (kept_group l 0 ss column)) column c.loop-column.rounded c.if-rounded.rounded c.loop-column.invariant.flag flag;
    }

pub returns-in_default-clause-found : goal.returns-in_default-clause-found
returns-in_default-clause-found g c none = rw c.in_default.is at (c.in_ok-found.ensures.found none)

pub returns-clause-marks : goal.returns-clause-marks
returns-clause-marks g c =
    let whole = g.I.OverlayInt.whole in
    let l = layout_of c.args.layout.now in
    let ss = pairs_in c.args.segments.now in
    let count = c.column_count-column-end.ensures in
    let upto = c.loop-column.auto.column-end in
    let past = c.loop-column-test.false in
    let last : c.loop-column.column ≡ group_count l = omega (arith, count, upto, past) in
    let end = borders-end (marks_of_column (placing_of c.args.placing) l ss) (looks_of_column l ss) (marks_of whole c.args.marks.now.items) (marks_of whole c.loop-column.marks.items) c.args.looked.now c.loop-column.looked c.loop-column.column (group_count l) c.loop-column.invariant.seen last in
    end.found

pub returns-clause-rounded : goal.returns-clause-rounded
returns-clause-rounded g c =
    let l = layout_of c.args.layout.now in
    let ss = pairs_in c.args.segments.now in
    let count = c.column_count-column-end.ensures in
    let upto = c.loop-column.auto.column-end in
    let past = c.loop-column-test.false in
    let last : c.loop-column.column ≡ group_count l = omega (arith, count, upto, past) in
    c.loop-column.invariant.flag ∙ ap (λ (n : ℕ). list_any (λ column. is_group_rounded (kept_group l 0 ss column)) (range_with_len 0 n)) last

pub returns-clause-looked : goal.returns-clause-looked
returns-clause-looked g c =
    let whole = g.I.OverlayInt.whole in
    let l = layout_of c.args.layout.now in
    let ss = pairs_in c.args.segments.now in
    let count = c.column_count-column-end.ensures in
    let upto = c.loop-column.auto.column-end in
    let past = c.loop-column-test.false in
    let last : c.loop-column.column ≡ group_count l = omega (arith, count, upto, past) in
    let end = borders-end (marks_of_column (placing_of c.args.placing) l ss) (looks_of_column l ss) (marks_of whole c.args.marks.now.items) (marks_of whole c.loop-column.marks.items) c.args.looked.now c.loop-column.looked c.loop-column.column (group_count l) c.loop-column.invariant.seen last in
    end.counted
