-- What an engine keeps of its last result.
use Rattle.std.specs.Prelude.{⊤, ◌≡◌, ◌⊎◌, ℕ, ℤ, ◌<◌, ◌^◌, ◌&&◌, Bool, true, false, List, [], IsTrue, IsFalse, All, map, length}
use Rattle.std.specs.List.{list_all}
use Rattle.overlay_geometry.specs.Points.{Point, Pair}
use Rattle.overlay_base.specs.EdgeData.{DataSegment, without_data}
use Rattle.overlay_base.specs.Planar.{is_splittable}
use Rattle.overlay_base.specs.Rules.{holds, keeps_fill}
use Rattle.overlay_base.specs.Balance.{IsBalanced}
use Rattle.overlay_base.specs.Segments.{WholeSegment}
use Rattle.overlay_base.specs.SegmentOf.{segments_of}
use Rattle.overlay_base.specs.declared.overlay_core.clip_rule.ClipRule.{ClipRule}
use Rattle.overlay_base.specs.declared.overlay_core.overlay_rule.OverlayRule.{OverlayRule}
use Rattle.overlay_base.specs.declared.segm.fault.Fault.TheVariants.{Memory, CountOutOfRange}
use Rattle.overlay_base.specs.Join.{join}
use Rattle.overlay_contours.specs.Splittings.{Splitting, by_passes, by_snapping, SumsLeaveRange}
use Rattle.overlay_snapping.specs.Chains.{AreSnapCuts}
use Rattle.overlay_snapping.specs.SnapOf.{data_snap}
use Rattle.overlay_cuts.specs.DataPass.{data_after_passes}
use Rattle.overlay_cuts.specs.Laws.{NameNear}
use Rattle.overlay_cuts.specs.Nearness.{LiesNear}
use Rattle.overlay_sweep.specs.ChainWindings.{tops_leave_range}
use Rattle.overlay_build.specs.Graph.{Link, Graph, graph_by, data_by, has_even_nodes}
use Rattle.overlay_build.specs.GraphOf.{link_of}
use Rattle.overlay_build.specs.Laid.{AreLaid}
use Rattle.overlay_build.specs.Walks.{AreClosedWalks}
use Rattle.i_overlay.specs.Courses.{Course}
use Rattle.i_overlay.specs.FarRegions.{EnclosesOverlayBeyond}
use Rattle.i_overlay.specs.Headline.{IsSplitBy, IsOverlayBy, IsClipBy, IsRefusedBy}
use Rattle.i_overlay.specs.LineNumbers.{TellsLines, line_counts_of, line_numbers_of}
use Rattle.i_overlay.specs.SplitLists.{TellsChangeBy}
use Rattle.i_overlay.specs.SplitterOf.{splitting_by, snap_limit_in, passes_in, reach_in}
use Rattle.overlay_c.specs.Records.{asks, asked_by, line_asks, line_asked_by, link_by, settings_by, fill_rule_of, rounding_of}
use Rattle.overlay_c.specs.Tags.{keeping}
use Rattle.overlay_c.specs.declared.records.LineRecord.{LineRecord}
use Rattle.overlay_c.specs.declared.records.LinkRecord.{LinkRecord}
use Rattle.overlay_c.specs.declared.records.SegmentRecord.{SegmentRecord}
use Rattle.overlay_c.specs.declared.records.SettingsRecord.{SettingsRecord}
use Rattle.overlay_c.specs.declared.records.SizesRecord.{SizesRecord}
use Rattle.overlay_c.specs.declared.cores.Core.{Core}
use Rattle.overlay_c.specs.declared.refusal.Refusal.{Refusal}
use Rattle.overlay_c.specs.declared.refusal.Refusal.TheVariants.{Refused, NotSplittable, OutOfRange}
use Rattle.overlay_c.specs.declared.tags.Tag.{Tag}

-- the segments that records describe, and whether each describes one and all may be split
abbrev pub given_by : List SegmentRecord → List WholeSegment
given_by records = map asked_by records

abbrev pub are_usable : ℤ → ℤ → List SegmentRecord → Bool
are_usable least greatest records = list_all (asks least greatest) records && is_splittable least greatest (given_by records)

abbrev pub are_lines_usable : ℤ → ℤ → List LineRecord → Bool
are_lines_usable least greatest records = list_all (line_asks least greatest) records && is_splittable least greatest (map line_asked_by records)

-- its links in whole numbers
abbrev pub kept_links : {I : Type 0} {w : _} {o : _} {e : _} {p : _} → Core I w o e p → List Link
kept_links {w = w} core = map (link_of w.whole) core.links.items

-- its links and lists are those of a graph
pub record KeepsGraph {I : Type 0} {w : _} {o : _} {e : _} {p : _} (core : Core I w o e p) (graph : Graph) : Type 0 where
  pub links : kept_links core ≡ graph.links
  pub nodes : AreLaid (map (λ n. n.links) graph.nodes) core.degrees.items core.indexes.items

-- it keeps no walks
pub record HasNoWalks {I : Type 0} {w : _} {o : _} {e : _} {p : _} (core : Core I w o e p) : Type 0 where
  pub has_walks : core.has_walks ≡ false
  pub lengths : core.walk_lengths.items ≡ []
  pub links : core.walk_links.items ≡ []

-- it keeps no graph: no links, no nodes, no walks
pub record HasNoGraph {I : Type 0} {w : _} {o : _} {e : _} {p : _} (core : Core I w o e p) : Type 0 where
  pub links : core.links.items ≡ []
  pub degrees : core.degrees.items ≡ []
  pub indexes : core.indexes.items ≡ []
  pub walks : HasNoWalks core

-- it has closed walks where they were wanted and an even number of links meets at each node, and else none
pub record KeepsWalks {I : Type 0} {w : _} {o : _} {e : _} {p : _} (asked : Bool) (core : Core I w o e p) (graph : Graph) : Type 0 where
  pub has_walks : core.has_walks ≡ (asked && has_even_nodes graph)
  pub walks : IsTrue core.has_walks → ((walks : List (List ℕ)) × AreClosedWalks graph.links walks × AreLaid walks core.walk_lengths.items core.walk_links.items)
  pub no_walks : IsFalse core.has_walks → HasNoWalks core

-- how a core splits a list: by the rounding that the settings name, and where that is by passes, as they and its limit set these
abbrev pub core_splitting : {I : Type 0} {w : _} {o : _} {e : _} {p : _} → SettingsRecord → Core I w o e p → Splitting
core_splitting {w = w} settings core = splitting_by (rounding_of settings.rounding) (settings_by w.BITS settings (snap_limit_in core.splitter))

-- how it has split one, by what its splitter reports
abbrev pub core_course : {I : Type 0} {w : _} {o : _} {e : _} {p : _} → SettingsRecord → Core I w o e p → Course
core_course settings core = record { splitting = core_splitting settings core; passes = passes_in core.splitter; halves = reach_in core.splitter }

-- it keeps the arrangement of what was given, and whether that is anything else
pub record KeepsSplit {I : Type 0} {w : _} {o : _} {e : _} {p : _} (settings : SettingsRecord) (given : List WholeSegment) (core : Core I w o e p) : Type 0 where
  pub split : IsSplitBy (core_course settings core) given (segments_of core.segments.items)
  pub change : TellsChangeBy (core_splitting settings core) given (passes_in core.splitter) core.has_changed

-- the graph of all of its arrangement: the links are those of records, one for each segment, and it keeps the nodes
pub record BuildsAll {I : Type 0} {w : _} {o : _} {e : _} {p : _} (settings : SettingsRecord) (links : List LinkRecord) (core : Core I w o e p) : Type 0 where
  pub graph : Graph
  pub all : graph ≡ graph_by (λ _. true) (fill_rule_of settings.fill_rule) (segments_of core.segments.items)
  pub same_links : map link_by links ≡ graph.links
  pub same_nodes : AreLaid (map (λ n. n.links) graph.nodes) core.degrees.items core.indexes.items

-- it keeps the arrangement of polygons and lines, and the graph of what a clip rule keeps of them
pub record KeepsClip {I : Type 0} {w : _} {o : _} {e : _} {p : _} (settings : SettingsRecord) (rule : ClipRule) (given : List WholeSegment) (core : Core I w o e p) : Type 0 where
  pub graph : Graph
  pub clip : IsClipBy (core_course settings core) (fill_rule_of settings.fill_rule) rule given (segments_of core.lines.items) graph
  pub kept : KeepsGraph core graph

-- it keeps which of the given lines run along each segment of that arrangement
abbrev pub KeepsNumbers : {I : Type 0} {w : _} {o : _} {e : _} {p : _} → SettingsRecord → List WholeSegment → Core I w o e p → Type 0
KeepsNumbers settings given core = TellsLines (core_course settings core) given (segments_of core.lines.items) core.line_numbers

-- it keeps the arrangement of what was given, and the graph of an overlay
pub record KeepsOverlay {I : Type 0} {w : _} {o : _} {e : _} {p : _} (settings : SettingsRecord) (rule : OverlayRule) (walks : Bool) (given : List WholeSegment) (core : Core I w o e p) : Type 0 where
  pub graph : Graph
  pub overlay : IsOverlayBy (core_course settings core) (fill_rule_of settings.fill_rule) (holds rule) given (segments_of core.segments.items) graph
  pub region : IsBalanced given → EnclosesOverlayBeyond (reach_in core.splitter) rule (fill_rule_of settings.fill_rule) given graph
  pub kept : KeepsGraph core graph
  pub kept_walks : KeepsWalks walks core graph

-- a link with its data
pub record TaggedLink : Type 0 where
  pub link : Link
  pub tag : Tag

-- The data of an arrangement is what passes, or the chains of snap rounding, make of the given data.
abbrev pub IsDataOf : Splitting → ℕ → List (DataSegment Tag) → List (DataSegment Tag) → Type 0
IsDataOf (by_passes settings) passes given arrangement = arrangement ≡ (data_after_passes keeping settings given (tt {0}) passes).0
IsDataOf by_snapping passes given arrangement =
    (on : Pair → List Point) → AreSnapCuts (join (without_data given)) on → arrangement ≡ (data_snap keeping on given (tt {0})).0

-- it keeps the data of each link of an overlay
pub record KeepsData {I : Type 0} {w : _} {o : _} {e : _} {p : _} (settings : SettingsRecord) (rule : OverlayRule) (given : List (DataSegment Tag)) (core : Core I w o e p) : Type 0 where
  -- these are the links, each with its data
  pub links : List TaggedLink
  pub same_links : map (λ l. l.link) links ≡ kept_links core
  pub same_data : map (λ l. l.tag) links ≡ core.link_data.items
  -- it is what the split makes of the given data, if it leaves any, of those segments that the rule keeps
  pub arrangement : List (DataSegment Tag)
  pub split_data : (arrangement ≡ []) ⊎ IsDataOf (core_splitting settings core) (passes_in core.splitter) given arrangement
  pub edge_data : core.link_data.items ≡ data_by (keeps_fill (holds rule)) (fill_rule_of settings.fill_rule) arrangement
  -- what holds of all given data holds of it, so each link has that of a given segment
  pub kept_data : (has : Tag → Bool) → IsTrue (list_all (λ s. has s.edge_data) given) → IsTrue (list_all has core.link_data.items)
  -- where data names given segments, each link lies as near to all that its data names as the split moves things
  pub named_data : (names : Tag → Pair → Bool) → NameNear names 0 given
      → All (λ l. (s : Pair) → IsTrue (names l.tag s) → LiesNear (reach_in core.splitter) l.link.pair s) links

-- how much it keeps
pub record TellsSizes {I : Type 0} {w : _} {o : _} {e : _} {p : _} (core : Core I w o e p) (sizes : SizesRecord) : Type 0 where
  pub segments : sizes.segments ≡ length core.segments.items
  pub lines : sizes.lines ≡ length core.lines.items
  pub line_counts : sizes.line_counts ≡ length (line_counts_of core.line_numbers)
  pub line_numbers : sizes.line_numbers ≡ length (line_numbers_of core.line_numbers)
  pub links : sizes.links ≡ length core.links.items
  pub link_data : sizes.link_data ≡ length core.link_data.items
  pub nodes : sizes.nodes ≡ length core.degrees.items
  pub node_links : sizes.node_links ≡ length core.indexes.items
  pub walks : sizes.walks ≡ length core.walk_lengths.items
  pub walk_links : sizes.walk_links ≡ length core.walk_links.items
  pub has_walks : sizes.has_walks ≡ core.has_walks
  pub has_changed : sizes.has_changed ≡ core.has_changed
  pub passes : passes_in core.splitter < 2 ^ 64 → sizes.passes ≡ passes_in core.splitter

-- a count that was refused, in the split or in the build
abbrev pub IsCountRefused : {I : Type 0} {w : _} {o : _} {e : _} {p : _} → SettingsRecord → List WholeSegment → Core I w o e p → Core I w o e p → Type 0
IsCountRefused settings given before after = IsRefusedBy (core_course settings after) (passes_in before.splitter) given (segments_of after.segments.items) CountOutOfRange

-- the same of polygons and lines
abbrev pub IsCountOfLinesRefused : {I : Type 0} {w : _} {o : _} {e : _} {p : _} → SettingsRecord → List WholeSegment → Core I w o e p → Core I w o e p → Type 0
IsCountOfLinesRefused settings given before after = IsRefusedBy (core_course settings after) (passes_in before.splitter) given (segments_of after.lines.items) CountOutOfRange

-- a count that was refused while numbers were gathered: a sum in the split, or a winding above a segment
abbrev pub IsCountOfNumberedRefused : {I : Type 0} {w : _} {o : _} {e : _} {p : _} → SettingsRecord → List WholeSegment → Core I w o e p → Type 0
IsCountOfNumberedRefused settings given core =
    SumsLeaveRange (core_splitting settings core) given ⊎ IsTrue (tops_leave_range (segments_of core.lines.items))

-- why the graph of all of an arrangement was refused: a growth was, or a winding above a segment leaves the range
abbrev pub IsBuildRefusal : List WholeSegment → Refusal → Type 0
IsBuildRefusal segments (Refused Memory) = ⊤
IsBuildRefusal segments (Refused CountOutOfRange) = IsTrue (tops_leave_range segments)
IsBuildRefusal segments NotSplittable = ⊥
IsBuildRefusal segments OutOfRange = ⊥

-- a call that is given segments or lines is refused for no contour
abbrev pub IsSplitRefusal : Refusal → Type 0
IsSplitRefusal (Refused fault) = ⊤
IsSplitRefusal NotSplittable = ⊤
IsSplitRefusal OutOfRange = ⊥

-- what is left after a refusal: nothing, or what the split leaves
abbrev pub StandsAfter : {I : Type 0} {w : _} {o : _} {e : _} {p : _} → SettingsRecord → List WholeSegment → Core I w o e p → Type 0
StandsAfter settings given core =
    (segments_of core.segments.items ≡ []) ⊎ IsSplitBy (core_course settings core) given (segments_of core.segments.items)

abbrev pub LinesStandAfter : {I : Type 0} {w : _} {o : _} {e : _} {p : _} → SettingsRecord → List WholeSegment → Core I w o e p → Type 0
LinesStandAfter settings given core =
    (segments_of core.lines.items ≡ []) ⊎ IsSplitBy (core_course settings core) given (segments_of core.lines.items)
