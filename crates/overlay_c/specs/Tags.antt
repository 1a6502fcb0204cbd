-- Data that is handed through: what becomes of it, and what is given.
use Rattle.std.specs.Prelude.{List, map}
use Rattle.overlay_base.specs.EdgeData.{DataSegment, Hooks}
use Rattle.overlay_base.specs.Segments.{WholeSegment}
use Rattle.overlay_c.specs.Records.{asked_by}
use Rattle.overlay_c.specs.declared.records.SegmentRecord.{SegmentRecord}
use Rattle.overlay_c.specs.declared.tags.Tag.{Tag}
use Rattle.overlay_c.specs.declared.tags.TaggedRecord.{TaggedRecord}

-- parts have the data of the whole, and of two that are merged the first one's is kept
abbrev pub keeping : {D S : Type 0} → Hooks D S
keeping = record {
  reversed = λ tag store. (tag, store);
  split = λ call store. ((call.edge_data, call.edge_data), store);
  merge = λ call store. (call.lhs_data, store);
}

-- the records without their data
abbrev pub untagged : List TaggedRecord → List SegmentRecord
untagged records = map (λ r. r.segment) records

-- a segment with data
abbrev pub with_tag : WholeSegment → Tag → DataSegment Tag
with_tag s tag = record { pair = s.pair; count = s.count; edge_data = tag }

-- the segments that records describe, with their data
abbrev pub tagged_by : List TaggedRecord → List (DataSegment Tag)
tagged_by records = map (λ r. with_tag (asked_by r.segment) r.tag) records
