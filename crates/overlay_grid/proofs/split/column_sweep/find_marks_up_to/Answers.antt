use Rattle.std.proofs.Common.{◌++◌, ◌∙◌, ap, subst, List}
use Rattle.std.specs.Prelude.{flat_map}
use Rattle.std.specs.List.{range_with_len}
use Rattle.std.proofs.lemmas.List.Sorted.{IsPermutation-refl}
use Rattle.overlay_base.specs.SegmentOf.{pairs_in, segments_of}
use Rattle.overlay_base.proofs.laws.geometry.Apart.{are_ordered}
use Rattle.overlay_intersections.specs.MarkOf.{Mark, marks_of}
use Rattle.overlay_intersections.specs.PlacingOf.{placing_of}
use Rattle.overlay_intersections.proofs.laws.marks.LineMarks.{AreMarks-from_elements}
use Rattle.overlay_grid.specs.Grid.{IsInside, group_count}
use Rattle.overlay_grid.specs.GroupsOf.{grid_of}
use Rattle.overlay_grid.specs.steps.FragmentFinder.{HoldSame, kept_group}
use Rattle.overlay_grid.specs.steps.Sweeps.{marks_of_column}
use Rattle.overlay_grid.proofs.laws.grid.BorderMarks.{has_same, has_back}
use Rattle.overlay_grid.proofs.laws.grid.GridFound.{all_pairs, sound, complete, rounded_is}
use Rattle.overlay_grid.proofs.laws.grid.SweptColumns.{columns_apart, columns_joined, columns_within}
use Rattle.overlay_grid.proofs.split.column_sweep.find_marks_up_to.Goals as goal

pub returns-clause-rounded : goal.returns-clause-rounded
returns-clause-rounded g c =
    let l = grid_of c.args.buffer.now in
    let ss = pairs_in c.args.segments.now in
    (rw c.in-Some.is at c.in_ok-walked.ensures.rounded)
    ∙ rounded_is (placing_of c.args.placing) l (segments_of c.args.segments.now) (kept_group l 0 ss) (are_ordered c.args.segments.now) (all_pairs (IsInside l) c.args.segments.now c.requires.inside) (λ column. IsPermutation-refl (kept_group l 0 ss column))

pub returns-clause-looked : goal.returns-clause-looked
returns-clause-looked g c =
    let l = grid_of c.args.buffer.now in
    columns_within l (pairs_in c.args.segments.now) (are_ordered c.args.segments.now) (all_pairs (IsInside l) c.args.segments.now c.requires.inside) c.args.looked.now c.mark_columns.new.looked (rw c.in-Some.is at c.in_ok-walked.ensures.looked)

pub returns-clause-marks : goal.returns-clause-marks
returns-clause-marks g c =
    let whole = g.I.OverlayInt.whole in
    let segments = segments_of c.args.segments.now in
    let l = grid_of c.args.buffer.now in
    let ss = pairs_in c.args.segments.now in
    let p = placing_of c.args.placing in
    let n = group_count l in
    let ordered = are_ordered c.args.segments.now in
    let within = all_pairs (IsInside l) c.args.segments.now c.requires.inside in
    let columns = flat_map (marks_of_column p l ss) (range_with_len 0 n) in
    let now = marks_of whole c.mark_columns.new.marks.items in
    let all = subst (λ (start : List Mark). HoldSame (start ++ columns) now) (ap (marks_of whole) c.clear.ensures.items) (rw c.in-Some.is at c.in_ok-walked.ensures.marks) in
    AreMarks-from_elements g.I.PartialEq.eq g.I.Ord.cmp whole g.met.I.Ord.matches_eq g.met.I.OverlayInt.ordered p segments
    c.mark_columns.new.marks.items c.sort_marks.new.marks.items c.dedup.new.self.items
    (λ m h. sound p l segments (kept_group l 0 ss) ordered within (λ column. IsPermutation-refl (kept_group l 0 ss column)) m (columns_apart p l ss n m (has_back columns now all m h)))
    (λ m h. has_same columns now all m (columns_joined p l ss n m (complete p l segments (kept_group l 0 ss) ordered within (λ column. IsPermutation-refl (kept_group l 0 ss column)) m h)))
    c.in_ok-sort_marks.ensures.permutation c.in_ok-sort_marks.ensures.sorted c.dedup.ensures.filtered
