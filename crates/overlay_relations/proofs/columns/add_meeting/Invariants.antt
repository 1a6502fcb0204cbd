use Rattle.std.proofs.Common.{◌≡◌, ◌++◌, take}
use Rattle.overlay_geometry.specs.RangeOf.{rect_of}
use Rattle.overlay_relations.specs.steps.Columns.{numbers_meeting}
use Rattle.overlay_relations.proofs.columns.add_meeting.Given as goal

-- the numbers so far
abbrev pub invariant-loop-numbered : goal.invariant-loop-numbered
invariant-loop-numbered g l =
    let whole = g.I.OverlayInt.whole in
    l.numbers.items ≡ l.fn.numbers.items ++ numbers_meeting whole (rect_of whole l.bounds) (take l.numbered-index l.boxes)
