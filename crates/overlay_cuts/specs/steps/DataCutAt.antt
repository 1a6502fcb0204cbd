-- One segment of a list is cut along a path.
use Rattle.std.specs.Prelude.{ℕ, List, [], ◌∷◌, ◌++◌, take, drop, ◌≡◌, Vec}
use Rattle.overlay_geometry.specs.Points.{Point}
use Rattle.overlay_base.specs.EdgeData.{DataSegment, Hooks}
use Rattle.overlay_cuts.specs.DataPass.{data_pieces}
use Rattle.std.specs.Global.{Global}
use Rattle.overlay_geometry.specs.declared.geom.point.IntPoint.{IntPoint}
use Rattle.overlay_base.specs.HooksOf.{hooks_of}
use Rattle.overlay_base.specs.SegmentOf.{data_segments_of}
use Rattle.overlay_base.specs.declared.overlay_core.edge_data.OverlayEdgeData.{Ghosts}
use Rattle.overlay_base.specs.declared.segm.segment.Segment.{Segment}
use Rattle.overlay_intersections.specs.MarkOf.{points_of}

module _ {D S : Type 0} (hooks : Hooks D S) where
  -- the segment with this index is cut along the points that follow on its first end: its first piece takes its place,
  -- the others after all segments
  unfoldable pub data_cut_at : ℕ → List Point → List (DataSegment D) → S → List (DataSegment D) × S
  data_cut_at index points segments store =
      elim (drop index segments) [
        | [] ↦ (segments, store)
        | s ∷ rest ↦
            let cut : List (DataSegment D) × S = data_pieces hooks s.count s.pair.a points s.pair.b s.edge_data store in
            (take index segments ++ take 1 cut.0 ++ rest ++ drop 1 cut.0, cut.1)
      ]

-- The list has the data that cutting one segment of another along a path makes with a store.
abbrev pub HasDataOfCut : {C I D S : Type 0} {m : _} {w : _} {o : _} {e : _} {p : _} → Ghosts D C S → ℕ → List (IntPoint I) → Vec (Segment C I D m w o e p) Global → S → Vec (Segment C I D m w o e p) Global → Type 0
HasDataOfCut {m = m} {w = w} hooks index path given store list =
    data_segments_of list.items ≡ (data_cut_at (hooks_of m.counted hooks) index (points_of w.whole path) (data_segments_of given.items) store).0

-- The store is what that cut leaves.
abbrev pub IsCutStore : {C I D S : Type 0} {m : _} {w : _} {o : _} {e : _} {p : _} → Ghosts D C S → ℕ → List (IntPoint I) → Vec (Segment C I D m w o e p) Global → S → S → Type 0
IsCutStore {m = m} {w = w} hooks index path given store left =
    left ≡ (data_cut_at (hooks_of m.counted hooks) index (points_of w.whole path) (data_segments_of given.items) store).1
