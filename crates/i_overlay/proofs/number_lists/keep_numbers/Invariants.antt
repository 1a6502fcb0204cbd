use Rattle.std.proofs.Common.{◌≡◌, take, map, length, flat_map}
use Rattle.overlay_base.specs.SegmentOf.{data_segments_of}
use Rattle.i_overlay.specs.NumberLists.{numbers_in, named_in}
use Rattle.i_overlay.proofs.number_lists.keep_numbers.Given as goal

abbrev pub invariant-loop-segment : goal.invariant-loop-segment
invariant-loop-segment g l =
    (l.counts.items ≡ map length (map (λ s. named_in (numbers_in l.lists) s.edge_data) (data_segments_of (take l.segment-index l.list))))
    × (l.numbers.items ≡ flat_map (λ s. named_in (numbers_in l.lists) s.edge_data) (data_segments_of (take l.segment-index l.list)))
