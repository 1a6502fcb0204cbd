-- What a line describes: one step of a contour, from a to b.
use Rattle.std.specs.Prelude.{ℤ, not, if◌then◌else◌, Option, Some, None}
use Rattle.overlay_geometry.specs.Points.{Point, point_eq, point_lt}
use Rattle.overlay_base.specs.Segments.{WholeSegment}
use Rattle.overlay_geometry.specs.Coordinates.{is_pair_in_range}
use Rattle.overlay_base.specs.BooleanWinding.{boolean_made}
use Rattle.overlay_base.specs.ShapeWindings.{direct_winding, inverted_winding}
use Rattle.overlay_base.specs.declared.segm.shape_type.ShapeType.{ShapeType}
use Rattle.overlay_text.specs.declared.stop.LineFault.{LineFault}
use Rattle.overlay_text.specs.declared.stop.LineFault.TheVariants.{Range, EqualEnds}

-- what is wrong with a step, between the least and the greatest coordinate of an engine
abbrev pub step_fault : ℤ → ℤ → Point → Point → Option LineFault
step_fault least greatest a b =
    if not (is_pair_in_range least greatest (record { a = a; b = b })) then Some Range
    else (if point_eq a b then Some EqualEnds else None)

-- the segment of a step: its ends in order, and a count of one that says which way it ran
abbrev pub step_segment : ShapeType → Point → Point → WholeSegment
step_segment shape_type a b =
    if point_lt a b
    then record { pair = record { a = a; b = b }; count = direct_winding boolean_made shape_type }
    else record { pair = record { a = b; b = a }; count = inverted_winding boolean_made shape_type }
