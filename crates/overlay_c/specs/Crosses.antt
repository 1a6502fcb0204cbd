-- What the record of a meeting stands for, in whole numbers.
use Rattle.std.specs.Prelude.{◌==◌, ℕ, Bool, true, false, Option, Some, None, if◌then◌else◌}
use Rattle.overlay_geometry.specs.Points.{Pair}
use Rattle.overlay_geometry.specs.Meeting.{are_collinear}
use Rattle.overlay_intersections.specs.CrossAnswer.{CrossKind, pure, target_end, other_end, overlay, CrossAnswer, ends_mask}
use Rattle.overlay_c.specs.Records.{start_of, end_of}
use Rattle.overlay_c.specs.declared.records.SegmentRecord.{SegmentRecord}
use Rattle.overlay_c.specs.declared.cross.CrossRecord.{CrossRecord}

-- the ends of a record, as they are
abbrev pub pair_by : SegmentRecord → Pair
pair_by r = record { a = start_of r; b = end_of r }

-- what the point is, by its code
abbrev pub kind_by : ℕ → CrossKind
kind_by code = if code == 1 then pure else if code == 2 then target_end else if code == 3 then other_end else overlay

-- where two segments meet, if they do
abbrev pub cross_by : CrossRecord → Option CrossAnswer
cross_by r = if r.kind == 0 then None else Some (record { kind = kind_by r.kind; point = record { x = r.x; y = r.y }; is_rounded = r.is_rounded })

-- whether all ends lie on one line
abbrev pub is_overlay : CrossKind → Bool
is_overlay pure = false
is_overlay target_end = false
is_overlay other_end = false
is_overlay overlay = true

-- the ends that lie strictly inside the other segment, where all lie on one line
abbrev pub mask_by : Pair → Pair → ℕ
mask_by target other = if are_collinear target other then ends_mask target other else 0
