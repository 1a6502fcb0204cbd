-- A walk along lines from end to end of segments, which makes the pieces between neighboring ends.
use Rattle.std.specs.Prelude.{◌≡◌, ◌⊎◌, ℕ, ◌+◌, Bool, true, false, ◌||◌, if◌then◌else◌, IsTrue, IsFalse, List, [], ◌∷◌, ◌++◌, flat_map, IsPermutation}
use Rattle.overlay_geometry.specs.Points.{Point, Pair, point_lt, lies_on}
use Rattle.overlay_geometry.specs.Meeting.{are_collinear}
use Rattle.overlay_base.specs.Windings.{Winding, add, inverse, empty}
use Rattle.overlay_base.specs.Segments.{WholeSegment}
use Rattle.overlay_base.specs.ArrangedOf.{IsSplittable}
use Rattle.overlay_base.specs.SegmentOf.{x_segment_of, segment_of, segments_of, ends_of}
use Rattle.overlay_geometry.specs.InRange.{IsPointInRange, IsPairInRange}
use Rattle.overlay_geometry.specs.PointOf.{point_of}
use Rattle.overlay_snapping.specs.declared.snap.collinear.LineEnd.{LineEnd}
use Rattle.overlay_snapping.specs.declared.snap.collinear.LineWalk.{LineWalk}

-- an end of a segment
pub record End : Type 0 where
  pub segment : WholeSegment
  pub starts : Bool

abbrev pub place : End → Point
place e = if e.starts then e.segment.pair.a else e.segment.pair.b

-- what the count that runs on grows by at an end
abbrev pub gain : End → Winding
gain e = if e.starts then e.segment.count else inverse e.segment.count

-- both ends of each segment
abbrev pub ends_of_each : List WholeSegment → List End
ends_of_each segments = flat_map (λ s. record { segment = s; starts = true } ∷ record { segment = s; starts = false } ∷ []) segments

-- these ends, in any order
abbrev pub AreEndsOf : List WholeSegment → List End → Type 0
AreEndsOf segments list = IsPermutation (ends_of_each segments) list

-- Where a walk is: on the line of a pair, at a point from which a count of so many segments runs on. A point is pending while no
-- piece ends there.
pub record Walk : Type 0 where
  pub line : Pair
  pub point : Point
  pub count : Winding
  pub running : ℕ
  pub is_pending : Bool
  pub is_cut : Bool
  pub pieces : List WholeSegment

-- ---- what a walk does at an end

pub record Jumps (w : Walk) (e : End) (v : Walk) : Type 0 where
  pub nothing_runs : w.running ≡ 0
  pub no_count : w.count ≡ empty
  pub none_pending : w.is_pending ≡ false
  pub is : v ≡ record w { line = e.segment.pair; point = place e; is_pending = true }

pub record Steps (w : Walk) (next : Point) (v : Walk) : Type 0 where
  pub ahead : IsTrue (point_lt w.point next)
  pub from : IsTrue (lies_on w.line w.point)
  pub to : IsTrue (lies_on w.line next)
  pub is : v ≡ record w {
    point = next;
    is_pending = false;
    is_cut = w.is_cut || point_lt next w.line.b;
    pieces = w.pieces ++ record { pair = record { a = w.point; b = next }; count = w.count } ∷ [];
  }

-- it is at the end, or goes there
pub data Comes (w : Walk) (e : End) (v : Walk) : Type 0 where
  stays : IsTrue (are_collinear w.line e.segment.pair) → w.point ≡ place e → v ≡ w → Comes w e v
  jumps : Jumps w e v → Comes w e v
  steps : IsTrue (are_collinear w.line e.segment.pair) → Steps w (place e) v → Comes w e v

pub record Adds (w : Walk) (e : End) (v : Walk) : Type 0 where
  pub line : Pair
  pub running : ℕ
  pub same_line : (line ≡ w.line) ⊎ (line ≡ e.segment.pair)
  pub started : IsTrue e.starts → running ≡ w.running + 1
  pub ended : IsFalse e.starts → w.running ≡ running + 1
  pub is : v ≡ record w { line = line; count = add w.count (gain e); running = running }

pub record Takes (w : Walk) (e : End) (v : Walk) : Type 0 where
  pub there : Walk
  pub comes : Comes w e there
  pub adds : Adds there e v

-- ---- of code

abbrev pub end_of : {C I D : Type 0} {m : _} {w : _} {o : _} {e : _} {p : _} → LineEnd C I D m w o e p → End
end_of end = record { segment = segment_of end.segment; starts = end.starts }

abbrev pub walk_of : {C I D : Type 0} {m : _} {w : _} {o : _} {e : _} {p : _} → LineWalk C I D m w o e p → Walk
walk_of {m = m} {w = w} walk = record {
  line = ends_of walk.farthest;
  point = point_of w.whole walk.point;
  count = m.winding walk.count;
  running = walk.running;
  is_pending = walk.is_pending;
  is_cut = walk.is_cut;
  pieces = segments_of walk.pieces.items;
}

-- what a walk has is in range, and its pieces can be split
pub record CanGoOn {C I D : Type 0} {m : _} {w : _} {o : _} {e : _} {p : _} (walk : LineWalk C I D m w o e p) : Type 0 where
  pub farthest : IsPairInRange w.whole w.MIN_COORD w.MAX_COORD (x_segment_of walk.farthest)
  pub point : IsPointInRange w.whole w.MIN_COORD w.MAX_COORD walk.point
  pub pieces : IsSplittable walk.pieces.items

-- data and its store have one value each
abbrev pub HasOneValue : Type 0 → Type 0 → Type 0
HasOneValue D S = ((a b : D) → a ≡ b) × ((a b : S) → a ≡ b)
