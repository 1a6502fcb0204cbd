use Rattle.std.proofs.Common.{◌≡◌, ◌≤◌, ◌+◌, ◌-◌, arith, sym, ap, ap₂, subst, ◌∙◌, ◌++◌, List, ℕ, length}
use Rattle.std.specs.Prelude.{IsTrue, IsPermutation, flat_map, sum_by}
use Rattle.overlay_grid.specs.steps.BufferBorders.{buffer_borders}
use Rattle.std.specs.List.{AllByRecursion, list_any, range_with_len}
use Rattle.overlay_geometry.specs.Coordinates.{is_pair_in_range}
use Rattle.overlay_base.specs.Segments.{pairs}
use Rattle.overlay_base.specs.SegmentOf.{segments_of, x_segment_of}
use Rattle.overlay_geometry.proofs.laws.geometry.Coordinates.{pair_in_range}
use Rattle.overlay_base.proofs.laws.geometry.Apart.{are_ordered}
use Rattle.std.proofs.lemmas.List.Elements.{All-weaker}
use Rattle.overlay_intersections.specs.PlacingOf.{placing_of}
use Rattle.overlay_intersections.specs.MarkOf.{Mark, marks_of}
use Rattle.overlay_grid.specs.Grid.{Layout, pos_of, group_count, IsInside}
use Rattle.overlay_grid.specs.FragmentOf.{KeptFragment}
use Rattle.overlay_grid.specs.GroupsOf.{group_in, group_of, grid_of}
use Rattle.overlay_grid.specs.ColumnLooks.{looks_of_groups}
use Rattle.overlay_grid.specs.steps.FragmentFinder.{HoldSame, is_ready, kept_group, marks_of_group, is_group_rounded, marks_of_border, looks_of_border}
use Rattle.overlay_grid.proofs.laws.grid.GridFound.{all_pairs, all_ready, sound, complete, rounded_is}
use Rattle.overlay_intersections.proofs.laws.marks.LineMarks.{AreMarks-from_elements}
use Rattle.overlay_grid.proofs.laws.grid.BorderMarks.{has_same, has_back}
use Rattle.overlay_grid.proofs.split.solver_fragment.find_marks_within.Goals as goal

pub mark_columns-requires-clause-ready : goal.mark_columns-requires-clause-ready
mark_columns-requires-clause-ready g c column =
    let segments = segments_of c.args.segments.now in
    let ps = pairs segments in
    let l = grid_of c.args.buffer.now in
    let groups = group_of c.sort_within.new.buffer in
    let ordered = are_ordered c.args.segments.now in
    let within = all_pairs (IsInside l) c.args.segments.now c.requires.inside in
    let same : (column : ℕ) → IsPermutation (kept_group l 0 ps column) (groups column) = λ column. subst (λ (fs : List KeptFragment). IsPermutation fs (groups column)) (c.in_ok-fill.ensures.groups column) (c.sort_within.ensures.permutation column) in
    let in_range = all_pairs (λ s. IsTrue (is_pair_in_range (g.I.OverlayInt.whole g.I.OverlayInt.MIN_COORD) (g.I.OverlayInt.whole g.I.OverlayInt.MAX_COORD) s)) c.args.segments.now (All-weaker _ _ (λ s h. pair_in_range g.I.OverlayInt.whole g.I.OverlayInt.MIN_COORD g.I.OverlayInt.MAX_COORD (x_segment_of s) h) c.args.segments.now c.requires.in_range) in
    let ready = all_ready (placing_of c.args.placing) l segments groups ordered within same (g.I.OverlayInt.whole g.I.OverlayInt.MIN_COORD) (g.I.OverlayInt.whole g.I.OverlayInt.MAX_COORD) in_range in
    subst (λ (gs : List _). AllByRecursion (λ f. IsTrue (is_ready (g.I.OverlayInt.whole g.I.OverlayInt.MIN_COORD) (g.I.OverlayInt.whole g.I.OverlayInt.MAX_COORD) f)) (group_in g.I.OverlayInt.whole gs column)) (sym c.groups.ensures) (ready column)

pub mark_borders-requires : goal.mark_borders-requires
mark_borders-requires g c =
    let segments = segments_of c.args.segments.now in
    let ps = pairs segments in
    let l = grid_of c.args.buffer.now in
    let groups = group_of c.sort_within.new.buffer in
    let ordered = are_ordered c.args.segments.now in
    let within = all_pairs (IsInside l) c.args.segments.now c.requires.inside in
    let same : (column : ℕ) → IsPermutation (kept_group l 0 ps column) (groups column) = λ column. subst (λ (fs : List KeptFragment). IsPermutation fs (groups column)) (c.in_ok-fill.ensures.groups column) (c.sort_within.ensures.permutation column) in
    let in_range = all_pairs (λ s. IsTrue (is_pair_in_range (g.I.OverlayInt.whole g.I.OverlayInt.MIN_COORD) (g.I.OverlayInt.whole g.I.OverlayInt.MAX_COORD) s)) c.args.segments.now (All-weaker _ _ (λ s h. pair_in_range g.I.OverlayInt.whole g.I.OverlayInt.MIN_COORD g.I.OverlayInt.MAX_COORD (x_segment_of s) h) c.args.segments.now c.requires.in_range) in
    let ready = all_ready (placing_of c.args.placing) l segments groups ordered within same (g.I.OverlayInt.whole g.I.OverlayInt.MIN_COORD) (g.I.OverlayInt.whole g.I.OverlayInt.MAX_COORD) in_range in
    record { ready = ready }

pub returns-clause-rounded : goal.returns-clause-rounded
returns-clause-rounded g c =
    let segments = segments_of c.args.segments.now in
    let ps = pairs segments in
    let l = grid_of c.args.buffer.now in
    let groups = group_of c.sort_within.new.buffer in
    let ordered = are_ordered c.args.segments.now in
    let within = all_pairs (IsInside l) c.args.segments.now c.requires.inside in
    let same : (column : ℕ) → IsPermutation (kept_group l 0 ps column) (groups column) = λ column. subst (λ (fs : List KeptFragment). IsPermutation fs (groups column)) (c.in_ok-fill.ensures.groups column) (c.sort_within.ensures.permutation column) in
    let layout = c.sort_within.ensures.layout ∙ c.in_ok-fill.ensures.layout in
    let count : length c.groups.result.now ≡ group_count l = ap length c.groups.ensures ∙ c.sort_within.new.buffer.columns ∙ ap (λ (m : Layout). group_count m) layout in
    c.in_ok-rounded.ensures.rounded
    ∙ ap₂ (λ (gs : List _) (n : ℕ). list_any (λ column. is_group_rounded (group_in g.I.OverlayInt.whole gs column)) (range_with_len 0 n)) c.groups.ensures count
    ∙ rounded_is (placing_of c.args.placing) l segments groups ordered within same

pub returns-clause-marks : goal.returns-clause-marks
returns-clause-marks g c =
    let segments = segments_of c.args.segments.now in
    let ps = pairs segments in
    let l = grid_of c.args.buffer.now in
    let groups = group_of c.sort_within.new.buffer in
    let ordered = are_ordered c.args.segments.now in
    let within = all_pairs (IsInside l) c.args.segments.now c.requires.inside in
    let same : (column : ℕ) → IsPermutation (kept_group l 0 ps column) (groups column) = λ column. subst (λ (fs : List KeptFragment). IsPermutation fs (groups column)) (c.in_ok-fill.ensures.groups column) (c.sort_within.ensures.permutation column) in
    let layout = c.sort_within.ensures.layout ∙ c.in_ok-fill.ensures.layout in
    let count : length c.groups.result.now ≡ group_count l = ap length c.groups.ensures ∙ c.sort_within.new.buffer.columns ∙ ap (λ (m : Layout). group_count m) layout in
    let p = placing_of c.args.placing in
    let columns = flat_map (λ column. marks_of_group p (groups column)) (range_with_len 0 (group_count l)) in
    let borders = flat_map (λ column. marks_of_border (pos_of l (column + 1)) (groups column) (groups (column + 1))) (range_with_len 0 (group_count l - 1)) in
    let none = ap (marks_of g.I.OverlayInt.whole) c.clear.ensures.items in
    let first : marks_of g.I.OverlayInt.whole c.mark_columns.new.marks.items ≡ columns =
    c.in_ok-rounded.ensures.marks ∙ ap₂ (λ (start list : List Mark). start ++ list) none
    (ap₂ (λ (gs : List _) (n : ℕ). flat_map (λ column. marks_of_group p (group_in g.I.OverlayInt.whole gs column)) (range_with_len 0 n)) c.groups.ensures count) in
    let now = marks_of g.I.OverlayInt.whole c.mark_borders.new.marks.items in
    let at_borders = subst (λ (m : Layout). HoldSame (marks_of g.I.OverlayInt.whole c.mark_columns.new.marks.items ++ flat_map (λ column. marks_of_border (pos_of m (column + 1)) (groups column) (groups (column + 1))) (range_with_len 0 (group_count m - 1))) now) layout c.in_ok-mark_borders.ensures.marks in
    let all = subst (λ (start : List Mark). HoldSame (start ++ borders) now) first at_borders in
    AreMarks-from_elements g.I.PartialEq.eq g.I.Ord.cmp g.I.OverlayInt.whole g.met.I.Ord.matches_eq g.met.I.OverlayInt.ordered p segments
    c.mark_borders.new.marks.items c.sort_marks.new.marks.items c.dedup.new.self.items
    (λ m h. sound p l segments groups ordered within same m (has_back (columns ++ borders) now all m h))
    (λ m h. has_same (columns ++ borders) now all m (complete p l segments groups ordered within same m h))
    c.in_ok-sort_marks.ensures.permutation c.in_ok-sort_marks.ensures.sorted c.dedup.ensures.filtered

pub returns-clause-looked : goal.returns-clause-looked
returns-clause-looked g c =
    let groups = group_of c.sort_within.new.buffer in
    let l = grid_of c.sort_within.new.buffer in
    let count : length c.groups.result.now ≡ group_count l = ap length c.groups.ensures ∙ c.sort_within.new.buffer.columns in
    let seen = subst (λ (n : ℕ). c.mark_columns.new.looked ≤ c.args.looked.now + n)
    (ap₂ (λ (gs : List _) (n : ℕ). looks_of_groups c.in-Some.axis (group_in g.I.OverlayInt.whole gs) n) c.groups.ensures count) c.in_ok-rounded.ensures.looked in
    let at_borders : c.mark_borders.new.looked ≤ c.mark_columns.new.looked + buffer_borders c.sort_within.new.buffer = c.in_ok-mark_borders.ensures.looked in
    omega (arith, seen, at_borders, rw c.in-Some.is at c.in_ok-axis.ensures.within)
