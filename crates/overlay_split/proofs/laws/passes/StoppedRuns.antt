-- Runs that were refused: a sum leaves the range, and there is one store that such a run leaves.
use Rattle.std.proofs.Common.{◌≡◌, sym, ap, subst, ◌∙◌, ⊎_elim, arith, ℕ, zero, suc, ◌<◌, ◌≤◌, List, IsTrue}
use Rattle.std.specs.Prelude.{Result, Ok, Err, IfErr, IsErrAnd}
use Rattle.std.proofs.lemmas.Bool.{or_right, both_ways, cases_lt}
use Rattle.overlay_base.specs.Segments.{WholeSegment}
use Rattle.overlay_base.specs.Join.{join_leaves_range}
use Rattle.overlay_base.specs.EdgeData.{DataSegment, Hooks, without_data, IsRefusedJoin}
use Rattle.overlay_base.specs.declared.segm.fault.Fault.{Fault}
use Rattle.overlay_base.proofs.laws.joins.Stops.{refused_leaves_range, refused_join_is_one}
use Rattle.overlay_intersections.specs.PassMarks.{marks_on}
use Rattle.overlay_cuts.specs.Pass.{cut}
use Rattle.overlay_cuts.specs.Run.{Settings, placing_of_pass, leaves_range_within}
use Rattle.overlay_cuts.specs.DataPass.{data_after_passes, data_joined_in, IsStoppedRun}
use Rattle.overlay_split.specs.declared.split.fault.SplitFault.{SplitFault}
use Rattle.overlay_split.specs.declared.split.fault.SplitFault.TheVariants.{Refused, TooManySegments}
use Rattle.overlay_split.specs.Laws.{StoppedRunLeavesRange, StoppedRunIsOne}
use Rattle.overlay_cuts.proofs.laws.passes.DataPasses.{bare-data_cut, data_is_beside}

-- the fault of a refusal, or another one
fault_in : SplitFault → Fault → Fault
fault_in (Refused fault) other = fault
fault_in TooManySegments other = other

-- and of the refusal that it becomes
pub refused_in : {A : Type 0} (r : Result A SplitFault) (x : Fault) {out : Fault} (P : Type 0) → IsErrAnd r (λ e. e ≡ Refused x) → (x ≡ out → P) → IfErr r (λ fault. fault ≡ Refused out → P)
unfolding fault_in
refused_in (Ok a) x P h f = tt
refused_in (Err e) x P h f = λ i. f (ap (λ (s : SplitFault). fault_in s x) (sym h ∙ i))

module _ {D S : Type 0} (hooks : Hooks D S) (settings : Settings) (given : List (DataSegment D)) (from : S) where
  -- what a pass joins is, without data, its cut
  leaves_in : (k : ℕ) → IsTrue (join_leaves_range (without_data (data_joined_in hooks settings given from k).0)) → IsTrue (leaves_range_within settings (without_data given) k)
  unfolding data_joined_in leaves_range_within
  leaves_in zero h = h
  leaves_in (suc k) h =
      let before : List (DataSegment D) × S = data_after_passes hooks settings given from k in
      let placing = placing_of_pass settings (suc k) in
      let bare = bare-data_cut hooks (marks_on placing (without_data before.0)) before.0 before.1 ∙ ap (λ (l : List WholeSegment). cut placing l) (data_is_beside hooks settings given from k) in
      or_right (leaves_range_within settings (without_data given) k) _ (sym (ap (λ (l : List WholeSegment). join_leaves_range l) bare) ∙ h)

  stopped_leaves : (left : S) (stopped : IsStoppedRun hooks settings given from left) → IsTrue (leaves_range_within settings (without_data given) stopped.in_pass)
  stopped_leaves left stopped =
      let joined : List (DataSegment D) × S = data_joined_in hooks settings given from stopped.in_pass in
      leaves_in stopped.in_pass (refused_leaves_range hooks joined.1 joined.0 left stopped.stopped)

  not_in_earlier : (first second : S) (f : IsStoppedRun hooks settings given from first) (s : IsStoppedRun hooks settings given from second) → s.in_pass ≤ f.in_pass
  not_in_earlier first second f s =
      ⊎_elim (λ (l : f.in_pass < s.in_pass). absurd (both_ways (leaves_range_within settings (without_data given) f.in_pass) (s.fits f.in_pass l) (stopped_leaves first f))) (λ (l : s.in_pass ≤ f.in_pass). l) (cases_lt f.in_pass s.in_pass)

pub stopped_run_leaves_range : {D S : Type 0} → StoppedRunLeavesRange D S
stopped_run_leaves_range hooks settings given from left stopped = (stopped.in_pass, stopped.made, stopped_leaves hooks settings given from left stopped)

pub stopped_run_is_one : {D S : Type 0} → StoppedRunIsOne D S
stopped_run_is_one {D} {S} hooks settings given from first second f s =
    let same : s.in_pass ≡ f.in_pass = omega (arith, not_in_earlier hooks settings given from first second f s, not_in_earlier hooks settings given from second first s f) in
    let joined : List (DataSegment D) × S = data_joined_in hooks settings given from f.in_pass in
    refused_join_is_one hooks joined.1 joined.0 first second f.stopped (subst IsRefusedIn same s.stopped)
  where
    IsRefusedIn : ℕ → Type 0
    IsRefusedIn k =
        let joined : List (DataSegment D) × S = data_joined_in hooks settings given from k in
        IsRefusedJoin hooks joined.0 joined.1 second
