-- What the records that cross to C stand for, in whole numbers.
use Rattle.std.specs.Prelude.{⊤, ◌≡◌, ◌==◌, ◌<◌, ◌≤◌, ◌+◌, ◌*◌, ◌^◌, ◌⊎◌, ℕ, ℤ, pos, Bool, ◌&&◌, not, if◌then◌else◌}
use Rattle.std.specs.Ordering.{int_eq}
use Rattle.overlay_geometry.specs.Points.{Point, point_lt}
use Rattle.overlay_geometry.specs.Coordinates.{is_point_in_range}
use Rattle.overlay_base.specs.Windings.{Winding, inverse, is_valid, is_not_empty}
use Rattle.overlay_base.specs.Segments.{WholeSegment}
use Rattle.overlay_base.specs.BooleanWinding.{boolean_counted}
use Rattle.overlay_base.specs.EdgeData.{DataSegment, data_piece}
use Rattle.overlay_base.specs.HooksOf.{hooks_of}
use Rattle.overlay_base.specs.Radius.{exponent_cap}
use Rattle.overlay_base.specs.declared.overlay_core.edge_data.OverlayEdgeData.{Ghosts}
use Rattle.overlay_base.specs.declared.segm.boolean.ShapeCountBoolean.{ShapeCountBoolean}
use Rattle.overlay_base.specs.Rules.{bits_of}
use Rattle.overlay_base.specs.declared.overlay_core.fill_rule.FillRule.{FillRule}
use Rattle.overlay_base.specs.declared.overlay_core.fill_rule.FillRule.TheVariants as fill
use Rattle.overlay_base.specs.declared.overlay_core.link.OverlayLink.{OverlayLink}
use Rattle.overlay_base.specs.declared.overlay_core.overlay_rule.OverlayRule.{OverlayRule}
use Rattle.overlay_base.specs.declared.overlay_core.overlay_rule.OverlayRule.TheVariants as rule
use Rattle.overlay_base.specs.declared.segm.shape_type.ShapeType.{ShapeType}
use Rattle.overlay_base.specs.declared.segm.shape_type.ShapeType.TheVariants.{Subject, Clip}
use Rattle.overlay_cuts.specs.Run.{Settings}
use Rattle.overlay_build.specs.Graph.{Link}
use Rattle.overlay_contours.specs.declared.rounding.Rounding.{Rounding}
use Rattle.overlay_contours.specs.declared.rounding.Rounding.TheVariants.{HotPixels, Pairwise}
use Rattle.overlay_c.specs.declared.records.SegmentRecord.{SegmentRecord}
use Rattle.overlay_c.specs.declared.records.LineRecord.{LineRecord}
use Rattle.overlay_c.specs.declared.records.LinkRecord.{LinkRecord}
use Rattle.overlay_c.specs.declared.records.SettingsRecord.{SettingsRecord}
use Rattle.overlay_c.specs.declared.records.WordsRecord.{WordsRecord}

-- its ends and its count
abbrev pub start_of : SegmentRecord → Point
start_of r = record { x = r.ax; y = r.ay }

abbrev pub end_of : SegmentRecord → Point
end_of r = record { x = r.bx; y = r.by }

abbrev pub count_of : SegmentRecord → Winding
count_of r = record { subj = r.subj; clip = r.clip; mask = 0 }

-- the segment from p to q with a count: where it runs backward it is turned, and its count inverted
abbrev pub piece_of : Winding → Point → Point → WholeSegment
piece_of count p q =
    if point_lt p q
    then record { pair = record { a = p; b = q }; count = count }
    else record { pair = record { a = q; b = p }; count = inverse count }

-- whether it describes a segment that may be split: its ends lie from the least to the greatest coordinate of an engine and differ, and its count is valid and
-- not empty
abbrev pub asks : ℤ → ℤ → SegmentRecord → Bool
asks least greatest r = is_point_in_range least greatest (start_of r) && is_point_in_range least greatest (end_of r) && (not (int_eq r.ax r.bx && int_eq r.ay r.by) && (is_valid (count_of r) && is_not_empty (count_of r)))

-- the segment that it describes
abbrev pub asked_by : SegmentRecord → WholeSegment
asked_by r = piece_of (count_of r) (start_of r) (end_of r)

-- the same with data, as an edge data type's hooks make it with a store
abbrev pub asked_piece : {D S : Type 0} → Ghosts D ShapeCountBoolean S → SegmentRecord → D → S → DataSegment D
asked_piece hooks r edge_data store = (data_piece (hooks_of boolean_counted hooks) (count_of r) (start_of r) (end_of r) edge_data store).0

-- the same of a line or a polygon's side
abbrev pub line_start_of : LineRecord → Point
line_start_of r = record { x = r.ax; y = r.ay }

abbrev pub line_end_of : LineRecord → Point
line_end_of r = record { x = r.bx; y = r.by }

abbrev pub line_count_of : LineRecord → Winding
line_count_of r = record { subj = r.subj; clip = pos 0; mask = r.mask }

abbrev pub line_asks : ℤ → ℤ → LineRecord → Bool
line_asks least greatest r = is_point_in_range least greatest (line_start_of r) && is_point_in_range least greatest (line_end_of r) && (not (int_eq r.ax r.bx && int_eq r.ay r.by) && (is_valid (line_count_of r) && is_not_empty (line_count_of r)))

abbrev pub line_asked_by : LineRecord → WholeSegment
line_asked_by r = piece_of (line_count_of r) (line_start_of r) (line_end_of r)

-- the segment of it, as it is
abbrev pub told_by : SegmentRecord → WholeSegment
told_by r = record { pair = record { a = start_of r; b = end_of r }; count = count_of r }

abbrev pub line_told_by : LineRecord → WholeSegment
line_told_by r = record { pair = record { a = line_start_of r; b = line_end_of r }; count = line_count_of r }

-- the link of it
abbrev pub link_by : LinkRecord → Link
link_by r = record { pair = record { a = record { x = r.ax; y = r.ay }; b = record { x = r.bx; y = r.by } }; fill = r.fill; a_node = r.a_node; b_node = r.b_node }

-- the same, whose ends lie at whole numbers
abbrev pub held_link : LinkRecord → OverlayLink ℤ ⊤
held_link r = record { a = record { id = r.a_node; point = record { x = r.ax; y = r.ay } }; b = record { id = r.b_node; point = record { x = r.bx; y = r.by } }; fill = r.fill; edge_data = tt }

-- the fill rule of a code
abbrev pub fill_rule_of : ℕ → FillRule
fill_rule_of code = if code == 0 then fill.EvenOdd else if code == 1 then fill.NonZero else if code == 2 then fill.Positive else fill.Negative

-- the rounding of a code
abbrev pub rounding_of : ℕ → Rounding
rounding_of code = if code == 0 then HotPixels else Pairwise

-- the shape of a code
abbrev pub shape_of : ℕ → ShapeType
shape_of code = if code == 0 then Subject else Clip

-- the number of two words
abbrev pub number_by : WordsRecord → ℕ
number_by r = r.low + r.high * 2 ^ 64

-- whether a code names the engine of 16 bits
abbrev pub names_narrow : ℕ → Bool
names_narrow code = not (code == 0)

-- the settings that these and a snap limit make, for coordinates of so many bits
abbrev pub settings_by : ℕ → SettingsRecord → ℕ → Settings
settings_by bits r limit = record { start = r.start; progression = r.progression; cap = exponent_cap bits; limit = limit }

-- the overlay rule of a code: a number for each name, and 16 more than its number for a table; any other code is Xor
abbrev pub IsRuleOf : ℕ → OverlayRule → Type 0
IsRuleOf code rule.Subject = code ≡ 0
IsRuleOf code rule.Clip = code ≡ 1
IsRuleOf code rule.Intersect = code ≡ 2
IsRuleOf code rule.Union = code ≡ 3
IsRuleOf code rule.Difference = code ≡ 4
IsRuleOf code rule.InverseDifference = code ≡ 5
IsRuleOf code rule.Xor = (5 < code) × ((code < 16) ⊎ (32 ≤ code))
IsRuleOf code (rule.Table table) = code ≡ 16 + bits_of table
