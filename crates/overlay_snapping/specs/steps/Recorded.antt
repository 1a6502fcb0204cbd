-- What is recorded of the points that segments meet.
use Rattle.std.specs.Prelude.{◌≡◌, ◌↔◌, ℕ, IsTrue, List, Option, None, Some, Contains, map, slice_get, slice_range}
use Rattle.overlay_geometry.specs.Points.{Point, Pair}
use Rattle.overlay_geometry.specs.PointOf.{point_of}
use Rattle.overlay_geometry.specs.declared.geom.point.IntPoint.{IntPoint}
use Rattle.overlay_snapping.specs.steps.Met.{is_met}
use Rattle.overlay_snapping.specs.declared.snap.meetings.Meetings.{Meetings}
use Rattle.overlay_snapping.specs.declared.snap.meetings.Part.{Part}

-- a part of a list, if it is there
abbrev pub part_of : {X : Type 0} → List X → Option Part → Option (List X)
part_of points None = None
part_of points (Some p) = Some (slice_range points p.start p.end)

-- the points of a part
abbrev pub recorded : {I : Type 0} {w : _} {o : _} {e : _} {p : _} → Meetings I w o e p → ℕ → Option (List (IntPoint I))
recorded meetings i = part_of meetings.points.items (slice_get meetings.parts.items i)

-- a part, if it is there, has the points that s meets
abbrev pub IsRecorded : {I : Type 0} {w : _} {o : _} {e : _} {p : _} → Pair → List Point → Meetings I w o e p → ℕ → Type 0
IsRecorded {I = I} {w = w} s points meetings i = (list : List (IntPoint I)) → recorded meetings i ≡ Some list → (c : Point) → Contains (map (point_of w.whole) list) c ↔ (Contains points c × IsTrue (is_met s c))

-- each part has those that its segment meets
abbrev pub AreRecorded : {I : Type 0} {w : _} {o : _} {e : _} {p : _} → List Pair → List Point → Meetings I w o e p → Type 0
AreRecorded segments points meetings = (i : ℕ) (s : Pair) → slice_get segments i ≡ Some s → IsRecorded s points meetings i
