-- What a split hands on of the data of lines.
use Rattle.std.specs.Prelude.{◌==◌, Bool, not, ◌&&◌, ◌||◌, IsTrue, Vec}
use Rattle.std.specs.Global.{Global}
use Rattle.std.specs.List.{list_all}
use Rattle.overlay_base.specs.EdgeData.{Hooks, DataSegment, SplitCall, MergeCall}
use Rattle.overlay_base.specs.HooksOf.{hooks_of}
use Rattle.overlay_base.specs.SegmentOf.{data_segments_of}
use Rattle.overlay_base.specs.declared.overlay_core.edge_data.OverlayEdgeData.{Ghosts}
use Rattle.overlay_base.specs.declared.segm.segment.Segment.{Segment}

-- What hooks hand on of the data of lines. When two segments are merged, and a line runs along one, it holds of the data of the
-- sum where it holds of the data of each along which a line runs. So do hooks that take the data of such a one.
pub record HooksKeepOfLines {D S : Type 0} (hooks : Hooks D S) (has : D → Bool) : Type 0 where
  pub reversed : (d : D) (store : S) → IsTrue (has d) → IsTrue (has (hooks.reversed d store).0)
  pub split : (call : SplitCall D) (store : S) → IsTrue (has call.edge_data) → IsTrue (has (hooks.split call store).0.0) × IsTrue (has (hooks.split call store).0.1)
  pub merge : (call : MergeCall D) (store : S) → IsTrue (call.lhs_count.mask == 0 || has call.lhs_data) → IsTrue (call.rhs_count.mask == 0 || has call.rhs_data)
      → IsTrue (not (call.lhs_count.mask == 0 && call.rhs_count.mask == 0)) → IsTrue (has (hooks.merge call store).0)

-- it holds of the data of a segment if a line runs along that
abbrev pub holds_of_line : {D : Type 0} → (D → Bool) → DataSegment D → Bool
holds_of_line has s = s.count.mask == 0 || has s.edge_data

-- Whatever the hooks hand on of lines, and the data of all given lines has, the data of each segment of the list has along which a
-- line runs: so each has the number of a line, if the hooks take that of a line.
abbrev pub LinesKeepData : {C I D S : Type 0} {m : _} {w : _} {o : _} {e : _} {p : _} → Ghosts D C S → Vec (Segment C I D m w o e p) Global → Vec (Segment C I D m w o e p) Global → Type 0
LinesKeepData {D = D} {m = m} hooks given list =
    (has : D → Bool) → HooksKeepOfLines (hooks_of m.counted hooks) has → IsTrue (list_all (holds_of_line has) (data_segments_of given.items)) → IsTrue (list_all (holds_of_line has) (data_segments_of list.items))
