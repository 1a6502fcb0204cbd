-- What the program makes of the text of its input.
use Rattle.std.specs.Prelude.{Bool, ◌≡◌, ◌⊎◌, ◌++◌, ℕ, ℤ, if◌then◌else◌, List, Ok, Err, unsigned_abs, IsTrue, IsFalse, Option, Vec}
use Rattle.std.specs.Option.{ok_or}
use Rattle.std.specs.declared.result.Result.{Result}
use Rattle.overlay_base.specs.Segments.{WholeSegment}
use Rattle.overlay_base.specs.Join.{join, has_equal_pairs, join_leaves_range}
use Rattle.overlay_base.specs.Radius.{exponent_cap}
use Rattle.overlay_base.specs.declared.overlay_core.solver.Solver.{Solver}
use Rattle.overlay_cuts.specs.Run.{Settings as RunSettings}
use Rattle.overlay_contours.specs.Splittings.{Splitting, IsLeftBy, SumsLeaveRange}
use Rattle.overlay_contours.specs.declared.rounding.Rounding.{Rounding}
use Rattle.overlay_contours.specs.declared.rounding.Rounding.TheVariants.{HotPixels, Pairwise}
use Rattle.i_overlay.specs.SplitLists.{TellsChangeBy}
use Rattle.i_overlay.specs.SplitterOf.{splitting_by}
use Rattle.overlay_base.specs.Choices.{in_one_row}
use Rattle.overlay_sweep.specs.ChainWindings.{tops_leave_range}
use Rattle.overlay_sweep.specs.Costs.{IsSweepCost}
use Rattle.overlay_build.specs.Graph.{Graph, graph_by}
use Rattle.arrange.specs.RuleOf.{keeps_by_optional_rule}
use Rattle.overlay_base.specs.declared.segm.fault.Fault.TheVariants.{CountOutOfRange}
use Rattle.overlay_text.specs.declared.settings.Command.{Command}
use Rattle.overlay_text.specs.declared.settings.Command.TheVariants.{Join, Cross, Split, Graph as GraphCommand, Walks}
use Rattle.overlay_text.specs.Engines.{least_of, greatest_of, engine_bits}
use Rattle.overlay_text.specs.declared.settings.Rounding.{Rounding as ChosenRounding}
use Rattle.overlay_text.specs.declared.settings.Rounding.TheVariants.{HotPixels as ChosenHotPixels, Pairwise as ChosenPairwise}
use Rattle.overlay_text.specs.declared.settings.Settings.{Settings}
use Rattle.overlay_text.specs.declared.stop.Stop.{Stop}
use Rattle.overlay_text.specs.declared.stop.Stop.TheVariants.{NotTwoSegments, Refused}
use Rattle.overlay_text.specs.Output.{segment_lines, flag_line, passes_line, cross_text}
use Rattle.arrange.specs.GraphText.{graph_text, IsWalksText}
use Rattle.overlay_text.specs.Runs.{Behavior}
use Rattle.overlay_text.specs.Words.{WordsAsk}
use Rattle.overlay_text.specs.Text.{lines_of, AskInTurnFor, IsFirstFault}
use Rattle.std.specs.Global.{Global}
use Rattle.overlay_base.specs.SegmentOf.{segments_of}
use Rattle.overlay_base.specs.declared.segm.segment.Segment.{Segment}
use Rattle.overlay_text.specs.declared.settings.SquaredRadius.{SquaredRadius}

-- the solver that the settings choose
abbrev pub solver_of : Settings → Solver
solver_of settings = record { strategy = settings.strategy; precision = settings.precision }

-- what passes over pairs are set to, in coordinates of that many bits
abbrev pub split_settings : ℕ → Settings → RunSettings
split_settings bits settings = record {
  start = settings.precision.start;
  progression = settings.precision.progression;
  cap = exponent_cap bits;
  limit = settings.snap_limit;
}

-- the rounding that is chosen
abbrev pub rounding_named : ChosenRounding → Rounding
rounding_named ChosenHotPixels = HotPixels
rounding_named ChosenPairwise = Pairwise

-- how a list is split: by snap rounding, or by such passes
abbrev pub splitting_of : ℕ → Settings → Splitting
splitting_of bits settings = splitting_by (rounding_named settings.rounding) (split_settings bits settings)

-- the graph that the settings choose of what a split of the segments leaves, where no winding leaves the range
abbrev pub IsGraphOf : ℕ → Settings → List WholeSegment → Graph → Type 0
IsGraphOf bits settings segments graph =
    (result : List WholeSegment) × (passes : ℕ) × (halves : ℕ) × IsLeftBy (splitting_of bits settings) segments result passes halves
    × IsFalse (tops_leave_range result) × (graph ≡ graph_by (keeps_by_optional_rule settings.rule) settings.fill_rule result)

-- a count leaves the range: in the split of the segments, or above some segment of what it leaves
abbrev pub CountsLeaveRange : ℕ → Settings → List WholeSegment → Type 0
CountsLeaveRange bits settings segments =
    SumsLeaveRange (splitting_of bits settings) segments
    ⊎ ((result : List WholeSegment) × (passes : ℕ) × (halves : ℕ) × IsLeftBy (splitting_of bits settings) segments result passes halves × IsTrue (tops_leave_range result))

-- the sweep of a graph compares what the strategy costs that the words choose
abbrev pub IsGraphCost : ℕ → Settings → List WholeSegment → ℕ → Type 0
IsGraphCost bits settings segments asked =
    (result : List WholeSegment) × (passes : ℕ) × (halves : ℕ) × IsLeftBy (splitting_of bits settings) segments result passes halves
    × IsSweepCost (in_one_row settings.strategy) result asked

-- the text of a split: the segments that it leaves, whether it changed them, and in how many passes
abbrev pub IsSplitText : Splitting → List WholeSegment → List ℕ → Type 0
IsSplitText splitting segments text =
    (result : List WholeSegment) × (passes : ℕ) × (halves : ℕ) × (flag : Bool) × IsLeftBy splitting segments result passes halves
    × TellsChangeBy splitting segments passes flag × (text ≡ segment_lines result ++ flag_line flag ++ passes_line passes)

-- the text of the join of segments
abbrev pub join_text : List WholeSegment → List ℕ
join_text segments = segment_lines (join segments) ++ flag_line (has_equal_pairs segments)

-- what a command makes of segments, in coordinates of that many bits
abbrev pub IsCommandAnswer : ℕ → Command → Settings → List WholeSegment → Result (List ℕ) Stop → Type 0
IsCommandAnswer bits Join settings segments answer =
    answer ≡ (if join_leaves_range segments then Err (Refused CountOutOfRange)
    else Ok (join_text segments))
IsCommandAnswer bits Cross settings segments answer = answer ≡ ok_or (cross_text (unsigned_abs settings.radius.squared) segments) NotTwoSegments
IsCommandAnswer bits Split settings segments answer =
    ((text : List ℕ) × IsSplitText (splitting_of bits settings) segments text × (answer ≡ Ok text))
    ⊎ (SumsLeaveRange (splitting_of bits settings) segments × (answer ≡ Err (Refused CountOutOfRange)))
IsCommandAnswer bits GraphCommand settings segments answer =
    ((graph : Graph) × IsGraphOf bits settings segments graph × (answer ≡ Ok (graph_text graph)))
    ⊎ (CountsLeaveRange bits settings segments × (answer ≡ Err (Refused CountOutOfRange)))
IsCommandAnswer bits Walks settings segments answer =
    ((graph : Graph) × (text : List ℕ) × IsGraphOf bits settings segments graph × IsWalksText graph text × (answer ≡ Ok text))
    ⊎ (CountsLeaveRange bits settings segments × (answer ≡ Err (Refused CountOutOfRange)))

-- what a command makes of the segments that a text describes, or the first fault of its lines
abbrev pub IsAnswer : ℤ → ℤ → ℕ → Command → Settings → List ℕ → Result (List ℕ) Stop → Type 0
IsAnswer least greatest bits command settings bytes answer =
    ((segments : List WholeSegment) × AskInTurnFor least greatest (lines_of bytes) segments × IsCommandAnswer bits command settings segments answer)
    ⊎ ((stop : Stop) × IsFirstFault least greatest (lines_of bytes) stop × (answer ≡ Err stop))

-- which command and settings words choose, and what the command makes of the input, in the coordinates of the engine that they choose
abbrev pub arrange_behavior : Behavior (Command × Settings)
arrange_behavior = record {
  AskFor = λ words choices. WordsAsk words choices.0 choices.1;
  Answers = λ choices bytes answer.
      IsAnswer (least_of choices.1.engine) (greatest_of choices.1.engine) (engine_bits choices.1.engine) choices.0 choices.1 bytes answer;
}

-- ---- for segments of code, whose type says of how many bits coordinates are

-- the result of a command for segments
abbrev pub IsAnswerTo : {C I D : Type 0} {m : _} {w : _} {o : _} {e : _} {p : _} → Command → Settings → Vec (Segment C I D m w o e p) Global → Result (List ℕ) Stop → Type 0
IsAnswerTo {w = w} command settings segments answer = IsCommandAnswer w.BITS command settings (segments_of segments.items) answer

-- the graph that the settings choose
abbrev pub IsGraphFor : {C I D : Type 0} {m : _} {w : _} {o : _} {e : _} {p : _} → Settings → Vec (Segment C I D m w o e p) Global → Graph → Type 0
IsGraphFor {w = w} settings segments graph = IsGraphOf w.BITS settings (segments_of segments.items) graph

-- the stop of a join: a running sum is too large
abbrev pub IsJoinStop : List WholeSegment → Stop → Type 0
IsJoinStop segments stop = (stop ≡ Refused CountOutOfRange) × IsTrue (join_leaves_range segments)

-- where two segments meet, under a radius of code
abbrev pub cross_lines : {C I D : Type 0} {m : _} {w : _} {o : _} {e : _} {p : _} → SquaredRadius → List (Segment C I D m w o e p) → Option (List ℕ)
cross_lines radius segments = cross_text (unsigned_abs radius.squared) (segments_of segments)
