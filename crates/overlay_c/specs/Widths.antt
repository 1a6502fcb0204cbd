-- Which engine a call takes, and what its core keeps.
use Rattle.std.specs.Prelude.{◌≡◌, ℕ, ℤ, negsuc, pos, Bool, true, false, IsTrue, List, length}
use Rattle.overlay_geometry.specs.Coordinates.{least_coordinate, greatest_coordinate}
use Rattle.overlay_base.specs.EdgeData.{DataSegment}
use Rattle.overlay_base.specs.Planar.{is_arranged}
use Rattle.overlay_base.specs.Segments.{WholeSegment}
use Rattle.overlay_base.specs.SegmentOf.{segments_of}
use Rattle.overlay_base.specs.declared.overlay_core.clip_rule.ClipRule.{ClipRule}
use Rattle.overlay_base.specs.declared.overlay_core.overlay_rule.OverlayRule.{OverlayRule}
use Rattle.overlay_contours.specs.Splittings.{SumsLeaveRange}
use Rattle.i_overlay.specs.LineNumbers.{line_counts_of, line_numbers_of}
use Rattle.i_overlay.specs.SplitterOf.{snap_limit_in}
use Rattle.overlay_sweep.specs.ChainWindings.{tops_leave_range}
use Rattle.overlay_build.specs.Graph.{Link}
use Rattle.overlay_c.specs.Kept.{core_splitting, kept_links, TellsSizes, KeepsSplit, BuildsAll, KeepsOverlay, KeepsData, KeepsClip, KeepsNumbers, HasNoWalks, HasNoGraph, StandsAfter, LinesStandAfter, IsCountRefused, IsCountOfLinesRefused, IsCountOfNumberedRefused}
use Rattle.overlay_c.specs.declared.records.LinkRecord.{LinkRecord}
use Rattle.overlay_c.specs.declared.records.SettingsRecord.{SettingsRecord}
use Rattle.overlay_c.specs.declared.records.SizesRecord.{SizesRecord}
use Rattle.overlay_c.specs.declared.engine.Engine.{Engine}
use Rattle.overlay_c.specs.declared.tags.Tag.{Tag}

-- of two values or statements, that of the engine of 16 bits, or that of 32 bits
abbrev pub pick : {A : Type 0} → Bool → A → A → A
pick true narrow wide = narrow
pick false narrow wide = wide

abbrev pub Pick : Bool → Type 0 → Type 0 → Type 0
Pick true narrow wide = narrow
Pick false narrow wide = wide

-- the least and the greatest coordinate
abbrev pub least_of : Bool → ℤ
least_of narrow = pick narrow (negsuc 16383) least_coordinate

abbrev pub greatest_of : Bool → ℤ
greatest_of narrow = pick narrow (pos 16383) greatest_coordinate

-- what the core of the last call keeps
abbrev pub LastKeepsSplit : SettingsRecord → List WholeSegment → Engine → Type 0
LastKeepsSplit settings given engine = Pick engine.is_narrow (KeepsSplit settings given engine.narrow) (KeepsSplit settings given engine.wide)

abbrev pub LastKeepsOverlay : SettingsRecord → OverlayRule → Bool → List WholeSegment → Engine → Type 0
LastKeepsOverlay settings rule walks given engine = Pick engine.is_narrow (KeepsOverlay settings rule walks given engine.narrow) (KeepsOverlay settings rule walks given engine.wide)

abbrev pub LastKeepsData : SettingsRecord → OverlayRule → List (DataSegment Tag) → Engine → Type 0
LastKeepsData settings rule given engine = Pick engine.is_narrow (KeepsData settings rule given engine.narrow) (KeepsData settings rule given engine.wide)

abbrev pub LastKeepsClip : SettingsRecord → ClipRule → List WholeSegment → Engine → Type 0
LastKeepsClip settings rule given engine = Pick engine.is_narrow (KeepsClip settings rule given engine.narrow) (KeepsClip settings rule given engine.wide)

abbrev pub LastKeepsNumbers : SettingsRecord → List WholeSegment → Engine → Type 0
LastKeepsNumbers settings given engine = Pick engine.is_narrow (KeepsNumbers settings given engine.narrow) (KeepsNumbers settings given engine.wide)

abbrev pub LastStandsAfter : SettingsRecord → List WholeSegment → Engine → Type 0
LastStandsAfter settings given engine = Pick engine.is_narrow (StandsAfter settings given engine.narrow) (StandsAfter settings given engine.wide)

abbrev pub LastLinesStandAfter : SettingsRecord → List WholeSegment → Engine → Type 0
LastLinesStandAfter settings given engine = Pick engine.is_narrow (LinesStandAfter settings given engine.narrow) (LinesStandAfter settings given engine.wide)

-- a count that was refused in that call
abbrev pub LastIsCountRefused : SettingsRecord → List WholeSegment → Engine → Engine → Type 0
LastIsCountRefused settings given before after = Pick after.is_narrow (IsCountRefused settings given before.narrow after.narrow) (IsCountRefused settings given before.wide after.wide)

abbrev pub LastIsCountOfLinesRefused : SettingsRecord → List WholeSegment → Engine → Engine → Type 0
LastIsCountOfLinesRefused settings given before after = Pick after.is_narrow (IsCountOfLinesRefused settings given before.narrow after.narrow) (IsCountOfLinesRefused settings given before.wide after.wide)

abbrev pub LastIsCountOfNumberedRefused : SettingsRecord → List WholeSegment → Engine → Type 0
LastIsCountOfNumberedRefused settings given engine = Pick engine.is_narrow (IsCountOfNumberedRefused settings given engine.narrow) (IsCountOfNumberedRefused settings given engine.wide)

abbrev pub LastLeavesRange : SettingsRecord → List WholeSegment → Engine → Engine → Type 0
LastLeavesRange settings given before after = Pick after.is_narrow (SumsLeaveRange (core_splitting settings before.narrow) given) (SumsLeaveRange (core_splitting settings before.wide) given)

-- the limits of both splitters stay
abbrev pub SameLimits : Engine → Engine → Type 0
SameLimits before after = (snap_limit_in after.narrow.splitter ≡ snap_limit_in before.narrow.splitter) × (snap_limit_in after.wide.splitter ≡ snap_limit_in before.wide.splitter)

-- the core that the call does not take stays
abbrev pub SameOther : Engine → Engine → Type 0
SameOther before after = Pick after.is_narrow (after.wide ≡ before.wide) (after.narrow ≡ before.narrow)

-- the arrangements of segments stay, or those of polygons and lines
abbrev pub SameArrangements : Engine → Engine → Type 0
SameArrangements before after = (after.narrow.segments ≡ before.narrow.segments) × (after.wide.segments ≡ before.wide.segments)

abbrev pub SameLines : Engine → Engine → Type 0
SameLines before after = (after.narrow.lines ≡ before.narrow.lines) × (after.wide.lines ≡ before.wide.lines)

-- the data of links stays, or whether the last split or join changed what it was given
abbrev pub SameData : Engine → Engine → Type 0
SameData before after = (after.narrow.link_data ≡ before.narrow.link_data) × (after.wide.link_data ≡ before.wide.link_data)

abbrev pub SameChange : Engine → Engine → Type 0
SameChange before after = (after.narrow.has_changed ≡ before.narrow.has_changed) × (after.wide.has_changed ≡ before.wide.has_changed)

-- the core of the last call keeps no walks, or no graph
abbrev pub LastHasNoWalks : Engine → Type 0
LastHasNoWalks engine = Pick engine.is_narrow (HasNoWalks engine.narrow) (HasNoWalks engine.wide)

abbrev pub LastHasNoGraph : Engine → Type 0
LastHasNoGraph engine = Pick engine.is_narrow (HasNoGraph engine.narrow) (HasNoGraph engine.wide)

-- how much the core of the last call keeps
abbrev pub LastTellsSizes : Engine → SizesRecord → Type 0
LastTellsSizes engine sizes = Pick engine.is_narrow (TellsSizes engine.narrow sizes) (TellsSizes engine.wide sizes)

abbrev pub segment_count : Engine → ℕ
segment_count engine = pick engine.is_narrow (length engine.narrow.segments.items) (length engine.wide.segments.items)

abbrev pub line_count : Engine → ℕ
line_count engine = pick engine.is_narrow (length engine.narrow.lines.items) (length engine.wide.lines.items)

abbrev pub link_count : Engine → ℕ
link_count engine = pick engine.is_narrow (length engine.narrow.links.items) (length engine.wide.links.items)

-- what is copied out: that of the core of the last call
abbrev pub segments_in : Engine → List WholeSegment
segments_in engine = pick engine.is_narrow (segments_of engine.narrow.segments.items) (segments_of engine.wide.segments.items)

abbrev pub lines_in : Engine → List WholeSegment
lines_in engine = pick engine.is_narrow (segments_of engine.narrow.lines.items) (segments_of engine.wide.lines.items)

abbrev pub links_in : Engine → List Link
links_in engine = pick engine.is_narrow (kept_links engine.narrow) (kept_links engine.wide)

abbrev pub link_data_in : Engine → List Tag
link_data_in engine = pick engine.is_narrow (engine.narrow.link_data.items) (engine.wide.link_data.items)

abbrev pub degrees_in : Engine → List ℕ
degrees_in engine = pick engine.is_narrow (engine.narrow.degrees.items) (engine.wide.degrees.items)

abbrev pub indexes_in : Engine → List ℕ
indexes_in engine = pick engine.is_narrow (engine.narrow.indexes.items) (engine.wide.indexes.items)

abbrev pub line_counts_in : Engine → List ℕ
line_counts_in engine = pick engine.is_narrow (line_counts_of engine.narrow.line_numbers) (line_counts_of engine.wide.line_numbers)

abbrev pub line_numbers_in : Engine → List ℕ
line_numbers_in engine = pick engine.is_narrow (line_numbers_of engine.narrow.line_numbers) (line_numbers_of engine.wide.line_numbers)

abbrev pub walk_lengths_in : Engine → List ℕ
walk_lengths_in engine = pick engine.is_narrow (engine.narrow.walk_lengths.items) (engine.wide.walk_lengths.items)

abbrev pub walk_links_in : Engine → List ℕ
walk_links_in engine = pick engine.is_narrow (engine.narrow.walk_links.items) (engine.wide.walk_links.items)

abbrev pub has_changed_in : Engine → Bool
has_changed_in engine = pick engine.is_narrow (engine.narrow.has_changed) (engine.wide.has_changed)

-- what is copied out as an arrangement is one
abbrev pub IsLastArranged : Engine → Type 0
IsLastArranged engine = IsTrue (is_arranged (least_of engine.is_narrow) (greatest_of engine.is_narrow) (segments_in engine))

-- the graph of all of it: its links are in records, and the core keeps its nodes
abbrev pub LastBuildsAll : SettingsRecord → List LinkRecord → Engine → Type 0
LastBuildsAll settings links engine = Pick engine.is_narrow (BuildsAll settings links engine.narrow) (BuildsAll settings links engine.wide)

-- a winding above one of its segments leaves the range
abbrev pub LastTopsLeaveRange : Engine → Type 0
LastTopsLeaveRange engine = IsTrue (tops_leave_range (segments_in engine))

-- the arrangement that is copied out stays, and so does the choice of the core
pub record SameSegments (before after : Engine) : Type 0 where
  pub chosen : after.is_narrow ≡ before.is_narrow
  pub segments : segments_in after ≡ segments_in before
