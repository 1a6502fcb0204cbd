-- Why an overlay of contours is refused.
use Rattle.std.specs.Prelude.{◌≡◌, ◌⊎◌, ⊤, ℕ, ℤ, IsTrue, List, length}
use Rattle.std.specs.List.{list_all}
use Rattle.overlay_geometry.specs.Points.{Point}
use Rattle.overlay_geometry.specs.Coordinates.{is_point_in_range}
use Rattle.overlay_base.specs.Segments.{WholeSegment}
use Rattle.overlay_base.specs.declared.segm.fault.Fault.{Fault}
use Rattle.overlay_base.specs.declared.segm.fault.Fault.TheVariants.{Memory, CountOutOfRange}
use Rattle.overlay_base.specs.declared.segm.shape_type.ShapeType.{ShapeType}
use Rattle.overlay_base.specs.declared.segm.shape_type.ShapeType.TheVariants.{Subject, Clip}
use Rattle.overlay_sweep.specs.ChainWindings.{tops_leave_range}
use Rattle.overlay_contours.specs.declared.fault.ContourFault.{ContourFault}
use Rattle.overlay_contours.specs.declared.fault.ContourFault.TheVariants.{OutOfRange, Refused}
use Rattle.overlay_contours.specs.ContourSegments.{overlay_segments, are_in_range, IsFirstPointOutside, IsFirstOutside}
use Rattle.overlay_contours.specs.Splittings.{Splitting, IsLeftBy, SumsLeaveRange}

-- of the two lists of contours the one of a shape
abbrev pub of_shape : ShapeType → List (List Point) → List (List Point) → List (List Point)
of_shape Subject subject clip = subject
of_shape Clip subject clip = clip

-- the shape that a shape is not
abbrev pub other_shape : ShapeType → ShapeType
other_shape Subject = Clip
other_shape Clip = Subject

-- A count leaves the range: a sum on the way of the splitting, or the top of a segment of what it leaves.
abbrev pub CountsLeaveRange : Splitting → List (List Point) → List (List Point) → Type 0
CountsLeaveRange splitting subject clip =
    SumsLeaveRange splitting (overlay_segments subject clip)
    ⊎ ((segments : List WholeSegment) × (passes : ℕ) × (halves : ℕ) × IsLeftBy splitting (overlay_segments subject clip) segments passes halves × IsTrue (tops_leave_range segments))

-- what else is known of a refusal by a fault
abbrev pub IsReason : Splitting → List (List Point) → List (List Point) → Fault → Type 0
IsReason splitting subject clip Memory = ⊤
IsReason splitting subject clip CountOutOfRange = CountsLeaveRange splitting subject clip

-- The first point out of range is named, where there is one; else a growth was refused, or a count leaves the range.
abbrev pub IsRefusal : ℤ → ℤ → Splitting → List (List Point) → List (List Point) → ContourFault → Type 0
IsRefusal least greatest splitting subject clip (OutOfRange shape_type contour point) = IsFirstOutside least greatest (of_shape shape_type subject clip) contour point
IsRefusal least greatest splitting subject clip (Refused fault) =
    IsTrue (are_in_range least greatest subject) × IsTrue (are_in_range least greatest clip) × IsReason splitting subject clip fault

-- the first point out of range of a shape's contours is named
abbrev pub IsShapeOutside : ℤ → ℤ → ShapeType → List (List Point) → ContourFault → Type 0
IsShapeOutside least greatest shape_type contours fault =
    (contour : ℕ) × (point : ℕ) × IsFirstOutside least greatest contours contour point × (fault ≡ OutOfRange shape_type contour point)

-- Why a contour was not added to those of its shape: its first point out of range is named, with the index that the
-- contour would have had; else, all its points being in range, a growth was refused.
abbrev pub IsContourRefusal : ℤ → ℤ → ShapeType → List (List Point) → List Point → ContourFault → Type 0
IsContourRefusal least greatest shape_type kept points (OutOfRange told contour point) =
    (told ≡ shape_type) × (contour ≡ length kept) × IsFirstPointOutside least greatest points point
IsContourRefusal least greatest shape_type kept points (Refused fault) =
    IsTrue (list_all (is_point_in_range least greatest) points) × (fault ≡ Memory)
