-- Sectors around a node, and which link leads on along one.
use Rattle.std.specs.Prelude.{◌≡◌, ℕ, ℤ, pos, int_lt, Bool, false, not, ◌&&◌, ◌||◌, if◌then◌else◌, List, All, Some, slice_get}
use Rattle.std.specs.Ordering.{int_eq}
use Rattle.overlay_geometry.specs.Points.{Point, Pair, point_eq, turn}
use Rattle.overlay_base.specs.Segments.{WholeSegment}
use Rattle.overlay_build.specs.Boundary.{truth}
use Rattle.overlay_build.specs.Graph.{Link}
use Rattle.overlay_sweep.specs.ColumnWindings.{side_bottom, side_top}

-- Whether the ray from v to r lies inside the sector that a ray from v sweeps counterclockwise from q to s, without its two
-- bounds. The bounds are two different rays: they are less than half a turn apart, more, or just half a turn.
abbrev pub lies_in_sector : Point → Point → Point → Point → Bool
lies_in_sector v q s r =
    if int_lt (pos 0) (turn v q s) then int_lt (pos 0) (turn v q r) && int_lt (pos 0) (turn v r s)
    else (if int_lt (turn v q s) (pos 0) then int_lt (pos 0) (turn v q r) || int_lt (pos 0) (turn v r s)
    else int_lt (pos 0) (turn v q r))

-- whether a pair has an end at v, and leads from there into the sector
abbrev pub leads_into_sector : Point → Point → Point → Pair → Bool
leads_into_sector v q s l = (point_eq l.a v && lies_in_sector v q s l.b) || (point_eq l.b v && lies_in_sector v q s l.a)

-- Of links in their directions the second leads on from the first along one sector on their left: it starts where the first
-- ends, and no link leads into the sector counterclockwise from the second to the first.
pub record TurnsInto (arcs : List Link) (i j : ℕ) : Type 0 where
  pub first : Link
  pub second : Link
  pub first_is : slice_get arcs i ≡ Some first
  pub second_is : slice_get arcs j ≡ Some second
  pub meets : first.pair.b ≡ second.pair.a
  pub none_between : All (λ l. leads_into_sector first.pair.b second.pair.b first.pair.a l.pair ≡ false) arcs

-- how often segments with counts 1 and -1 wind on the left of one of them: above it if it runs from a to b, and else below it
abbrev pub winding_on_left : List WholeSegment → WholeSegment → ℤ
winding_on_left runs s = if int_eq s.count.subj (pos 1) then (side_top runs s).subj else (side_bottom runs s).subj

-- On the left of each they wind once if the places outside are not in the region, and not at all if they are.
abbrev pub HaveRegionOnLeft : Bool → List WholeSegment → Type 0
HaveRegionOnLeft outside runs = All (λ s. winding_on_left runs s ≡ truth (not outside)) runs
