-- What a graph of the program is, from what the calls that split and build return.
use Rattle.std.proofs.Common.{◌≡◌, ◌⊎◌, inl, inr, ℕ, IsTrue, List, Option, Some, refl, sym, ap, ◌∙◌, subst}
use Rattle.std.specs.Prelude.{IsFalse, IfOk, IfErr, OnOk, Ok, Err}
use Rattle.std.specs.declared.result.Result.{Result}
use Rattle.overlay_base.specs.Segments.{WholeSegment}
use Rattle.overlay_base.specs.Rules.{holds}
use Rattle.overlay_base.specs.declared.overlay_core.overlay_rule.OverlayRule.{OverlayRule}
use Rattle.overlay_base.specs.declared.segm.fault.Fault.{Fault}
use Rattle.overlay_base.specs.declared.segm.fault.Fault.TheVariants.{CountOutOfRange, Memory}
use Rattle.overlay_base.specs.Choices.{in_one_row}
use Rattle.overlay_base.specs.declared.overlay_core.solver.Strategy.{Strategy}
use Rattle.overlay_sweep.specs.ChainWindings.{tops_leave_range}
use Rattle.overlay_sweep.specs.Costs.{IsSweepCost}
use Rattle.overlay_build.specs.Graph.{Graph, graph_by}
use Rattle.overlay_contours.specs.Splittings.{Splitting, IsLeftBy, SumsLeaveRange}
use Rattle.arrange.specs.RuleOf.{keeps_by_optional_rule}
use Rattle.i_overlay.specs.Courses.{Course}
use Rattle.i_overlay.specs.Headline.{IsOverlayBy, IsRefusedBy}
use Rattle.overlay_text.specs.declared.settings.Settings.{Settings}
use Rattle.overlay_text.specs.declared.settings.Command.TheVariants.{Graph as GraphCommand, Split, Walks}
use Rattle.overlay_text.specs.declared.stop.Stop.TheVariants.{Refused}
use Rattle.arrange.specs.Run.{splitting_of, IsGraphOf, IsGraphCost, CountsLeaveRange, IsCommandAnswer}

module _ (bits : ℕ) (settings : Settings) (given segments : List WholeSegment) (course : Course) (set : course.splitting ≡ splitting_of bits settings) where
  as_set : IsLeftBy course.splitting given segments course.passes course.halves → IsLeftBy (splitting_of bits settings) given segments course.passes course.halves
  as_set left = subst (λ (t : Splitting). IsLeftBy t given segments course.passes course.halves) set left

  counted : (graph : Graph) → IsLeftBy course.splitting given segments course.passes course.halves → IsFalse (tops_leave_range segments) → graph ≡ graph_by (keeps_by_optional_rule settings.rule) settings.fill_rule segments → IsGraphOf bits settings given graph
  counted graph left fits links = (segments, course.passes, course.halves, as_set left, fits, links)

  too_large : SumsLeaveRange course.splitting given → CountsLeaveRange bits settings given
  too_large h = inl (subst (λ (t : Splitting). SumsLeaveRange t given) set h)

  above : IsLeftBy course.splitting given segments course.passes course.halves → IsTrue (tops_leave_range segments) → CountsLeaveRange bits settings given
  above left tops = inr (segments, course.passes, course.halves, as_set left, tops)

  refused_by_rule : (before : ℕ) (fault : Fault) → IsRefusedBy course before given segments fault → fault ≡ CountOutOfRange → CountsLeaveRange bits settings given
  refused_by_rule before fault (inl split) e = too_large (split.0.too_large e)
  refused_by_rule before fault (inr build) e = above build.split.arrangement.left (build.too_large e)

  refused_all : (fault : Fault) → (fault ≡ CountOutOfRange → SumsLeaveRange course.splitting given ⊎ (IsLeftBy course.splitting given segments course.passes course.halves × IsTrue (tops_leave_range segments))) → fault ≡ CountOutOfRange → CountsLeaveRange bits settings given
  refused_all fault h e = by (h e)
    where
      by : SumsLeaveRange course.splitting given ⊎ (IsLeftBy course.splitting given segments course.passes course.halves × IsTrue (tops_leave_range segments)) → CountsLeaveRange bits settings given
      by (inl leaves) = too_large leaves
      by (inr tops) = above tops.0 tops.1

  -- what the sweep of the graph compares
  cost : (strategy : Strategy) (asked : ℕ) → strategy ≡ settings.strategy → IsLeftBy course.splitting given segments course.passes course.halves → IsSweepCost (in_one_row strategy) segments asked → IsGraphCost bits settings given asked
  cost strategy asked t left h = (segments, course.passes, course.halves, as_set left, subst (λ v. IsSweepCost (in_one_row v) segments asked) t h)

  -- ---- the same of what the calls return

  pub cost_by_rule : {G : Type 0} (r : Result G Fault) (graph_of : G → Graph) (asked_of : G → ℕ) (rule : OverlayRule) (strategy : Strategy) → strategy ≡ settings.strategy → IfOk r (λ g. IsOverlayBy course settings.fill_rule (holds rule) given segments (graph_of g))
      → IfOk r (λ g. IsSweepCost (in_one_row strategy) segments (asked_of g)) → IfOk r (λ g. IsGraphCost bits settings given (asked_of g))
  cost_by_rule (Ok g) graph_of asked_of rule strategy t overlay h = cost strategy (asked_of g) t overlay.split.arrangement.left h
  cost_by_rule (Err fault) graph_of asked_of rule strategy t overlay h = tt

  pub cost_of_all : {G : Type 0} (r : Result G Fault) (asked_of : G → ℕ) (strategy : Strategy) → strategy ≡ settings.strategy → OnOk r (IsLeftBy course.splitting given segments course.passes course.halves)
      → IfOk r (λ g. IsSweepCost (in_one_row strategy) segments (asked_of g)) → IfOk r (λ g. IsGraphCost bits settings given (asked_of g))
  cost_of_all (Ok g) asked_of strategy t left h = cost strategy (asked_of g) t left h
  cost_of_all (Err fault) asked_of strategy t left h = tt

  pub answered_by_rule : {G : Type 0} (r : Result G Fault) (graph_of : G → Graph) (rule : OverlayRule) → settings.rule ≡ Some rule → IfOk r (λ g. IsOverlayBy course settings.fill_rule (holds rule) given segments (graph_of g)) → OnOk r (IsFalse (tops_leave_range segments))
      → IfOk r (λ g. IsGraphOf bits settings given (graph_of g))
  answered_by_rule (Ok g) graph_of rule chosen overlay fits =
      counted (graph_of g) overlay.split.arrangement.left fits (overlay.links ∙ ap (λ (r : Option OverlayRule). graph_by (keeps_by_optional_rule r) settings.fill_rule segments) (sym chosen))
  answered_by_rule (Err fault) graph_of rule chosen overlay fits = tt

  -- of all segments
  pub answered_of_all : {G : Type 0} (r : Result G Fault) (graph_of : G → Graph) → OnOk r (IsLeftBy course.splitting given segments course.passes course.halves) → OnOk r (IsFalse (tops_leave_range segments))
      → IfOk r (λ g. graph_of g ≡ graph_by (keeps_by_optional_rule settings.rule) settings.fill_rule segments) → IfOk r (λ g. IsGraphOf bits settings given (graph_of g))
  answered_of_all (Ok g) graph_of left fits links = counted (graph_of g) left fits links
  answered_of_all (Err fault) graph_of left fits links = tt

  pub refusal_by_rule : {G : Type 0} (before : ℕ) (r : Result G Fault) → IfErr r (IsRefusedBy course before given segments) → IfErr r (λ fault. fault ≡ CountOutOfRange → CountsLeaveRange bits settings given)
  refusal_by_rule before (Ok g) h = tt
  refusal_by_rule before (Err fault) h = refused_by_rule before fault h

  pub refusal_all : {G : Type 0} (r : Result G Fault) → IfErr r (λ fault. fault ≡ CountOutOfRange → SumsLeaveRange course.splitting given ⊎ (IsLeftBy course.splitting given segments course.passes course.halves × IsTrue (tops_leave_range segments)))
      → IfErr r (λ fault. fault ≡ CountOutOfRange → CountsLeaveRange bits settings given)
  refusal_all (Ok g) h = tt
  refusal_all (Err fault) h = refused_all fault h

-- a run that stops at a refused graph
pub stops_graph : (bits : ℕ) (settings : Settings) (given : List WholeSegment) (fault : Fault) → (fault ≡ CountOutOfRange → CountsLeaveRange bits settings given) → (Refused fault ≡ Refused Memory) ⊎ IsCommandAnswer bits GraphCommand settings given (Err (Refused fault))
stops_graph bits settings given Memory out = inl refl
stops_graph bits settings given CountOutOfRange out = inr (inr (out refl, refl))

pub stops_walks : (bits : ℕ) (settings : Settings) (given : List WholeSegment) (fault : Fault) → (fault ≡ CountOutOfRange → CountsLeaveRange bits settings given) → (Refused fault ≡ Refused Memory) ⊎ IsCommandAnswer bits Walks settings given (Err (Refused fault))
stops_walks bits settings given Memory out = inl refl
stops_walks bits settings given CountOutOfRange out = inr (inr (out refl, refl))

pub stops_split : (bits : ℕ) (settings : Settings) (given : List WholeSegment) (fault : Fault) → (fault ≡ CountOutOfRange → SumsLeaveRange (splitting_of bits settings) given) → (Refused fault ≡ Refused Memory) ⊎ IsCommandAnswer bits Split settings given (Err (Refused fault))
stops_split bits settings given Memory out = inl refl
stops_split bits settings given CountOutOfRange out = inr (inr (out refl, refl))
