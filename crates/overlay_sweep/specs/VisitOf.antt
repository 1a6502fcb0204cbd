-- A visit to a segment of a list.
use Rattle.std.specs.Prelude.{ℕ}
use Rattle.overlay_base.specs.SegmentOf.{data_segment_of}
use Rattle.overlay_base.specs.declared.segm.segment.Segment.{Segment}
use Rattle.overlay_sweep.specs.Sweep.{Visit}

abbrev pub visit_of : {C I D : Type 0} {m : _} {w : _} {o : _} {e : _} {p : _} → ℕ → Segment C I D m w o e p → ℕ → Visit D
visit_of index s fill = record { index = index; segment = data_segment_of s; fill = fill }
