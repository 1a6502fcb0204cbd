use Rattle.std.proofs.Common.{◌≡◌, ◌∙◌, ◌++◌, ◌∷◌, [], flat_map, map, take, sym, ap, List, ℕ, arith, string_bytes}
use Rattle.std.proofs.lemmas.List.{flat_map_more, map-append, take_more}
use Rattle.overlay_base.specs.Segments.{WholeSegment}
use Rattle.overlay_base.specs.SegmentOf.{segment_of, segments_of}
use Rattle.overlay_text.specs.Output.{segment_line}
use Rattle.overlay_text.proofs.output.write_segments.Goals as goal

pub loop-segment-preserved : goal.loop-segment-preserved
loop-segment-preserved g c =
    let segments = c.args.segments.now in
    let index : ℕ = c.loop-segment.segment-index in
    let item = c.segment-item.result in
    let more = take_more segments index item c.loop-segment-test.true ∙ ap (λ x. take index segments ++ x ∷ []) (sym c.segment-item.is) in
    let step = ap (λ l. segments_of l) more ∙ map-append (λ s. segment_of s) (take index segments) (item ∷ []) in
    c.in_ok-write_segment.ensures
    ∙ ap (λ (bytes : List ℕ). bytes ++ segment_line (segment_of item)) c.loop-segment.invariant
    ∙ flat_map_more segment_line (string_bytes c.args.text.now) (segments_of (take index segments)) (segment_of item)
    ∙ ap (λ (l : List WholeSegment). string_bytes c.args.text.now ++ flat_map segment_line l) (sym step)
