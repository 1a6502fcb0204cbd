-- A live segment and an entry of a list or a tree of them, as segments with their sums.
use Rattle.std.specs.Prelude.{ℤ, List, map}
use Rattle.overlay_base.specs.Windings.{Winding}
use Rattle.overlay_base.specs.Segments.{WholeSegment}
use Rattle.overlay_geometry.specs.VSegmentOf.{v_pair_of}
use Rattle.overlay_geometry.specs.declared.geom.v_segment.VSegment.{VSegment}
use Rattle.overlay_sweep.specs.declared.build.entry.Entry.{Entry}

-- a segment of a sweep with the sum above it as its count
abbrev pub summed : {C I : Type 0} → (C → Winding) → (I → ℤ) → VSegment I → C → WholeSegment
summed winding whole segment sum = record { pair = v_pair_of whole segment; count = winding sum }

abbrev pub entry_of : {C I : Type 0} {m : _} {w : _} {o : _} {e : _} {p : _} → Entry C I m w o e p → WholeSegment
entry_of {m = m} {w = w} entry = record { pair = v_pair_of w.whole entry.segment; count = m.winding entry.sum }

abbrev pub entries_of : {C I : Type 0} {m : _} {w : _} {o : _} {e : _} {p : _} → List (Entry C I m w o e p) → List WholeSegment
entries_of list = map entry_of list
