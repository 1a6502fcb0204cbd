use Rattle.std.proofs.Common.{◌∙◌, ap, map, length, flat_map}
use Rattle.std.proofs.lemmas.List.{take_all}
use Rattle.overlay_base.specs.SegmentOf.{data_segments_of}
use Rattle.i_overlay.specs.NumberLists.{numbers_in, named_in}
use Rattle.i_overlay.proofs.number_lists.keep_numbers.Goals as goal

pub returns-clause-counts : goal.returns-clause-counts
returns-clause-counts g c =
    let all = take_all c.loop-segment.segment-index c.args.list.now c.loop-segment-test.false in
    c.loop-segment.invariant.0 ∙ ap (λ xs. map length (map (λ s. named_in (numbers_in c.args.lists.now) s.edge_data) (data_segments_of xs))) all

pub returns-clause-numbers : goal.returns-clause-numbers
returns-clause-numbers g c =
    let all = take_all c.loop-segment.segment-index c.args.list.now c.loop-segment-test.false in
    c.loop-segment.invariant.1 ∙ ap (λ xs. flat_map (λ s. named_in (numbers_in c.args.lists.now) s.edge_data) (data_segments_of xs)) all
