use Rattle.std.proofs.Common.{◌≡◌, ◌∙◌, sym, ap, subst}
use Rattle.std.specs.Prelude.{ℤ, ◌≤ℤ◌, IsTrue, int_le, slice_index_or}
use Rattle.overlay_geometry.specs.Coordinates.{is_coordinate}
use Rattle.overlay_geometry.specs.PointOf.{point_of}
use Rattle.overlay_geometry.specs.Points.{Pair}
use Rattle.overlay_geometry.proofs.laws.geometry.Coordinates.{point_parts}
use Rattle.overlay_geometry.proofs.laws.integers.Tests.{le-tested}
use Rattle.overlay_base.specs.SegmentOf.{x_segment_of, ends_of}
use Rattle.overlay_intersections.proofs.laws.marks.MarkBoxes.{both}
use Rattle.overlay_grid.specs.Grid.{Layout, IsInside}
use Rattle.overlay_grid.specs.GroupsOf.{grid_of}
use Rattle.overlay_grid.proofs.split.solver_fragment_within.find_marks_in_row.Goals as goal

-- what lies inside a layout lies inside one from the same least x to the greatest coordinate
inside_row : (l row : Layout) (least greatest : ℤ) (s : Pair) → row.min_x ≡ l.min_x → row.max_x ≡ greatest → IsInside l s → IsTrue (is_coordinate least greatest s.b.x) → IsInside row s
inside_row l row least greatest s from to inside x = record {
  from = subst (λ (m : ℤ). m ≤ℤ s.a.x) (sym from) inside.from;
  to = subst (λ (m : ℤ). s.b.x ≤ℤ m) (sym to) (le-tested _ _ (both (int_le least s.b.x) (int_le s.b.x greatest) x).1);
}

pub find_marks_within-requires-clause-inside : goal.find_marks_within-requires-clause-inside
find_marks_within-requires-clause-inside g c k d h =
    let whole = g.I.OverlayInt.whole in
    let least = whole g.I.OverlayInt.MIN_COORD in
    let greatest = whole g.I.OverlayInt.MAX_COORD in
    let s = slice_index_or c.args.segments.now k d in
    let x = (point_parts least greatest (point_of whole (x_segment_of s).b) (c.requires.in_range k d h).b_in_range).0 in
    let same = c.in_ok-row.ensures.layout in
    inside_row (grid_of c.args.buffer.now) (grid_of c.in_ok-row.row) least greatest (ends_of s) (ap (λ (l : Layout). l.min_x) same ∙ c.in-Some.ensures.from) (ap (λ (l : Layout). l.max_x) same ∙ c.in-Some.ensures.to)
    (c.requires.inside k d h) x
