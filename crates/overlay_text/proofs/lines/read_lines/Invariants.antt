use Rattle.std.proofs.Common.{IsTrue, []}
use Rattle.std.specs.Option.{option_map_or}
use Rattle.overlay_base.specs.SegmentOf.{segments_of}
use Rattle.overlay_base.specs.Planar.{is_splittable}
use Rattle.overlay_text.specs.Text.{lines_of, AsksFor}
use Rattle.overlay_text.proofs.TextSteps.{Taken}
use Rattle.overlay_text.proofs.lines.read_lines.Given as goal

abbrev pub invariant-loop-index : goal.invariant-loop-index
invariant-loop-index g l =
    let least = g.I.OverlayInt.whole g.I.OverlayInt.MIN_COORD in
    let greatest = g.I.OverlayInt.whole g.I.OverlayInt.MAX_COORD in
    IsTrue (is_splittable least greatest (segments_of l.segments.items))
    × Taken (AsksFor least greatest) (lines_of l.fn.bytes) (option_map_or (λ rest. lines_of rest.now) l.index-iterator.iter.rest []) l.index-iterator.count (segments_of l.segments.items)
