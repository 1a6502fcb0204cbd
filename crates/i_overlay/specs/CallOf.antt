-- What a call of a split and a build leaves, by the course of the split, and of the list before and after.
use Rattle.std.specs.Prelude.{ℕ, Bool, IsTrue, IfOk, Result, Vec}
use Rattle.std.specs.List.{list_all}
use Rattle.std.specs.Global.{Global}
use Rattle.overlay_geometry.specs.Points.{Pair}
use Rattle.overlay_base.specs.Balance.{IsBalanced}
use Rattle.overlay_base.specs.HooksOf.{hooks_of}
use Rattle.overlay_base.specs.Rules.{holds}
use Rattle.overlay_base.specs.SegmentOf.{segments_of, data_segments_of}
use Rattle.overlay_base.specs.declared.overlay_core.clip_rule.ClipRule.{ClipRule}
use Rattle.overlay_base.specs.declared.overlay_core.edge_data.OverlayEdgeData.{Ghosts}
use Rattle.overlay_base.specs.declared.overlay_core.fill_rule.FillRule.{FillRule}
use Rattle.overlay_base.specs.declared.overlay_core.overlay_rule.OverlayRule.{OverlayRule}
use Rattle.overlay_base.specs.declared.overlay_core.solver.Solver.{Solver}
use Rattle.overlay_base.specs.declared.segm.fault.Fault.{Fault}
use Rattle.overlay_base.specs.declared.segm.segment.Segment.{Segment}
use Rattle.overlay_cuts.specs.Laws.{HooksKeep, HooksNameNoOther, NameNear}
use Rattle.overlay_split.specs.SettingsOf.{passes_of}
use Rattle.overlay_split.specs.SplitOf.{settings_over}
use Rattle.overlay_split.specs.declared.split.solver.SplitSolver.{SplitSolver}
use Rattle.overlay_build.specs.OverlayGraphOf.{links_of, whole_graph}
use Rattle.overlay_build.specs.StringGraphOf.{whole_graph as lines_graph}
use Rattle.overlay_build.specs.declared.build.graph.OverlayGraph.{OverlayGraph}
use Rattle.overlay_build.specs.declared.build.string_graph.StringGraph.{StringGraph}
use Rattle.i_overlay.specs.Courses.{Course, course_of_passes}
use Rattle.i_overlay.specs.FarRegions.{EnclosesOverlayBeyond}
use Rattle.i_overlay.specs.Headline.{IsOverlayBy, IsClipBy, IsRefusedBy, LinksNameNear}

-- how passes over pairs split a list: as solver and splitter set them, as many as the splitter reports then
abbrev pub course_of : {C I D : Type 0} {m : _} {w : _} {o : _} {e : _} {p : _} → Solver → SplitSolver I → SplitSolver I → Vec (Segment C I D m w o e p) Global → Course
course_of solver before after given = course_of_passes (settings_over solver before given) (segments_of given.items) (passes_of after)

-- ---- the graph

-- If there is a graph, list and graph are the overlay of what is given, by two rules.
abbrev pub ReturnsOverlay : {C I D E : Type 0} {m : _} {w : _} {o : _} {e : _} {p : _} {w' : _} {o' : _} {e' : _} {p' : _} → Course → Vec (Segment C I D m w o e p) Global → Vec (Segment C I D m w o e p) Global → FillRule → OverlayRule → Result (OverlayGraph I E w' o' e' p') Fault → Type 0
ReturnsOverlay course given list fill_rule rule result =
    IfOk result (λ graph. IsOverlayBy course fill_rule (holds rule) (segments_of given.items) (segments_of list.items) (whole_graph graph))

-- Where the given counts balance: if there is a graph, it encloses the places at which the overlay rule's value differs
-- from that outside, at places far from what is given.
abbrev pub EnclosesByRule : {C I D E : Type 0} {m : _} {w : _} {o : _} {e : _} {p : _} {w' : _} {o' : _} {e' : _} {p' : _} → Course → Vec (Segment C I D m w o e p) Global → FillRule → OverlayRule → Result (OverlayGraph I E w' o' e' p') Fault → Type 0
EnclosesByRule course given fill_rule rule result =
    IsBalanced (segments_of given.items) → IfOk result (λ graph. EnclosesOverlayBeyond course.halves rule fill_rule (segments_of given.items) (whole_graph graph))

-- If there is a graph, list and graph are the clip of what is given, by two rules.
abbrev pub ClipsLines : {C I D : Type 0} {m : _} {w : _} {o : _} {e : _} {p : _} {w' : _} {o' : _} {e' : _} {p' : _} → Course → Vec (Segment C I D m w o e p) Global → Vec (Segment C I D m w o e p) Global → FillRule → ClipRule → Result (StringGraph I w' o' e' p') Fault → Type 0
ClipsLines course given list fill_rule rule result =
    IfOk result (λ graph. IsClipBy course fill_rule rule (segments_of given.items) (segments_of list.items) (lines_graph graph))

-- The call was refused, in the split or in the build.
abbrev pub RefusesCall : {C I D : Type 0} {m : _} {w : _} {o : _} {e : _} {p : _} → Course → ℕ → Vec (Segment C I D m w o e p) Global → Vec (Segment C I D m w o e p) Global → Fault → Type 0
RefusesCall course passes_before given list fault = IsRefusedBy course passes_before (segments_of given.items) (segments_of list.items) fault

-- ---- the data

-- Whatever the hooks keep, and all given data has: if there is a graph, the data of all its links has it.
abbrev pub LinksKeepWhatHolds : {C I D S : Type 0} {m : _} {w : _} {o : _} {e : _} {p : _} {w' : _} {o' : _} {e' : _} {p' : _} → Ghosts D C S → Vec (Segment C I D m w o e p) Global → Result (OverlayGraph I D w' o' e' p') Fault → Type 0
LinksKeepWhatHolds {D = D} {m = m} hooks given result =
    (has : D → Bool) → HooksKeep (hooks_of m.counted hooks) has → IsTrue (list_all (λ s. has s.edge_data) (data_segments_of given.items)) →
    IfOk result (λ graph. IsTrue (list_all (λ l. has l.edge_data) (links_of graph)))

-- Where each given segment lies on what its data names, and the hooks name no others: if there is a graph, each link
-- lies as near to all that its data names as things move.
abbrev pub LinksLieNearNamed : {C I D S : Type 0} {m : _} {w : _} {o : _} {e : _} {p : _} {w' : _} {o' : _} {e' : _} {p' : _} → Ghosts D C S → Course → Vec (Segment C I D m w o e p) Global → Result (OverlayGraph I D w' o' e' p') Fault → Type 0
LinksLieNearNamed {D = D} {m = m} {w = w} hooks course given result =
    (names : D → Pair → Bool) → HooksNameNoOther (hooks_of m.counted hooks) names → NameNear names 0 (data_segments_of given.items) →
    IfOk result (λ graph. LinksNameNear w.whole names course.halves (links_of graph))
