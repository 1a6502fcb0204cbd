use Rattle.std.proofs.Common.{◌≡◌, take}
use Rattle.overlay_geometry.specs.RangeOf.{rect_of}
use Rattle.overlay_relations.specs.steps.Columns.{members_of, numbers_meeting}
use Rattle.overlay_relations.proofs.columns.find_meeting.Given as goal

-- the numbers in the columns so far
abbrev pub invariant-loop-column : goal.invariant-loop-column
invariant-loop-column g l =
    let whole = g.I.OverlayInt.whole in
    l.numbers.items ≡ numbers_meeting whole (rect_of whole l.bounds) (members_of (take l.column-index l.columns))
