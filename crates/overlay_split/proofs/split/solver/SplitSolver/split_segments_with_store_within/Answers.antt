use Rattle.std.proofs.Common.{◌≡◌, ◌==◌, Bool, true, false, refl, sym, ap, subst, ◌∙◌, arith, ℕ, ◌≤◌, List, length}
use Rattle.std.specs.Prelude.{ℤ, Result, Ok, Err, None, IfOk, OnOk}
use Rattle.std.specs.List.{list_all}
use Rattle.std.proofs.lemmas.Bool.{eqb-true}
use Rattle.std.proofs.lemmas.Result.{IfOk-weaker, on_ok_weaker, on_err_weaker}
use Rattle.overlay_split.specs.steps.IsAt.{IsAt}
use Rattle.overlay_split.specs.declared.split.fault.SplitFault.{SplitFault}
use Rattle.overlay_base.specs.declared.segm.segment.Segment.{Segment}
use Rattle.overlay_base.specs.Segments.{WholeSegment}
use Rattle.overlay_base.specs.EdgeData.{Hooks}
use Rattle.overlay_base.specs.HooksOf.{hooks_of}
use Rattle.overlay_base.specs.SegmentOf.{segment_of, segments_of, data_segments_of}
use Rattle.overlay_base.proofs.laws.joins.Views.{segments_ordered, segments_of-bare}
use Rattle.overlay_cuts.specs.DataPass.{IsStoppedRun}
use Rattle.overlay_cuts.specs.Run.{Settings, LeavesRange}
use Rattle.overlay_split.specs.SplitFaultOf.{OnLargeCount}
use Rattle.overlay_split.specs.SettingsOf.{settings_of, passes_of, reach_of}
use Rattle.overlay_cuts.specs.Nearness.{reach_of_run}
use Rattle.overlay_cuts.proofs.laws.nearness.NamedData.{split_names_near}
use Rattle.overlay_split.proofs.laws.nearness.Nearness.{exact_input_reaches_nothing}
use Rattle.overlay_split.proofs.laws.nearness.Reaches.{run-reach-none, reports_reach}
use Rattle.overlay_cuts.proofs.laws.passes.DataInvariants.{data_keeps_what_hooks_keep}
use Rattle.overlay_split.proofs.laws.passes.StoppedRuns.{stopped_run_leaves_range}
use Rattle.overlay_split.proofs.laws.passes.Splitting.{HasEnded, at_rest, has_ended, stays_arranged, segments_none}
use Rattle.std.proofs.lemmas.List.{length-map}
use Rattle.overlay_split.proofs.laws.passes.RunLengths.{joins_first, result_within}
use Rattle.overlay_split.proofs.laws.passes.RunLooks.{AreRunLooks-none}
use Rattle.overlay_base.specs.EdgeData.IsMadeFrom.{no_call}
use Rattle.overlay_split.proofs.split.solver.SplitSolver.split_segments_with_store_within.Goals as goal

-- what follows of the result, if there is one
on_ok_if : {A F Q : Type 0} {P : A → Type 0} (r : Result A F) → ((a : A) → P a → Q) → IfOk r P → OnOk r Q
on_ok_if (Ok a) f h = f a h
on_ok_if (Err e) f h = tt

-- where a run stopped a sum leaves the range
leaves_range : {T C I D S : Type 0} {m : _} {w : _} {o : _} {e : _} {p : _} (r : Result T SplitFault) (hooks : Hooks D S) (settings : Settings) (xs : List (Segment C I D m w o e p)) (from left : S) →
    OnLargeCount r (IsStoppedRun hooks settings (data_segments_of xs) from left) → OnLargeCount r (LeavesRange settings (segments_of xs))
leaves_range (Ok x) hooks settings xs from left h = tt
leaves_range (Err f) hooks settings xs from left h = λ i. subst (λ (l : List WholeSegment). LeavesRange settings l) (sym (segments_of-bare xs)) (stopped_run_leaves_range hooks settings (data_segments_of xs) from left (h i))

-- what follows of the result and of what else holds where there is one
on_ok_both : {A F Q R : Type 0} {P : A → Type 0} (r : Result A F) → ((a : A) → P a → R → Q) → IfOk r P → OnOk r R → OnOk r Q
on_ok_both (Ok a) f h k = f a h k
on_ok_both (Err e) f h k = tt

-- ---- an empty list

-- a list that is said to be empty
none_given : (n len : ℕ) (told : Bool) → len ≡ n → told ≡ (len == 0) → told ≡ true → n ≡ 0
none_given n len told same is empty = sym same ∙ eqb-true len 0 (sym is ∙ empty)

none_at_most : (n k : ℕ) {limit : ℕ} → n ≡ k → k ≡ 0 → n ≤ limit
none_at_most n k e f = omega arith

-- a run over no segments is at its start, and has ended
module _ {C I D S : Type 0} {m : _} {w : _} {o : _} {e : _} {p : _} (hooks : Hooks D S) (settings : Settings) (least greatest : ℤ) (xs : List (Segment C I D m w o e p)) (from : S) (none : length xs ≡ 0) where
  at_empty : IsAt hooks settings least greatest (segments_of xs) (segments_of xs) (data_segments_of xs) (data_segments_of xs) from from 0 false false
  at_empty = at_rest hooks settings least greatest (segments_of xs) (data_segments_of xs) from (segments_none xs none).0 (segments_none xs none).1

  ended_empty : HasEnded hooks settings least greatest (segments_of xs) (data_segments_of xs) from (segments_of xs) 0 false
  ended_empty = has_ended hooks settings least greatest (segments_of xs) (data_segments_of xs) from (segments_of xs) (data_segments_of xs) from 0 false false (segments_ordered xs) at_empty refl

pub returns-then-is_empty-clause-run : goal.returns-then-is_empty-clause-run
returns-then-is_empty-clause-run g c =
    let none = none_given (length c.args.list.now.items) c.args.list.now.len c.is_empty.result c.args.list.now.ok.0 c.is_empty.ensures c.if-is_empty.true in
    (ended_empty (hooks_of g.C.WindingCount.counted g.D.OverlayEdgeData) (settings_of g.I.OverlayInt.BITS c.args.solver.now c.args.self.now) (g.I.OverlayInt.whole g.I.OverlayInt.MIN_COORD) (g.I.OverlayInt.whole g.I.OverlayInt.MAX_COORD) c.args.list.now.items c.args.store.now none).run

pub returns-then-is_empty-clause-arranged : goal.returns-then-is_empty-clause-arranged
returns-then-is_empty-clause-arranged g c =
    let none = none_given (length c.args.list.now.items) c.args.list.now.len c.is_empty.result c.args.list.now.ok.0 c.is_empty.ensures c.if-is_empty.true in
    (ended_empty (hooks_of g.C.WindingCount.counted g.D.OverlayEdgeData) (settings_of g.I.OverlayInt.BITS c.args.solver.now c.args.self.now) (g.I.OverlayInt.whole g.I.OverlayInt.MIN_COORD) (g.I.OverlayInt.whole g.I.OverlayInt.MAX_COORD) c.args.list.now.items c.args.store.now none).arranged

pub returns-then-is_empty-clause-in_box : goal.returns-then-is_empty-clause-in_box
returns-then-is_empty-clause-in_box g c =
    let none = none_given (length c.args.list.now.items) c.args.list.now.len c.is_empty.result c.args.list.now.ok.0 c.is_empty.ensures c.if-is_empty.true in
    (ended_empty (hooks_of g.C.WindingCount.counted g.D.OverlayEdgeData) (settings_of g.I.OverlayInt.BITS c.args.solver.now c.args.self.now) (g.I.OverlayInt.whole g.I.OverlayInt.MIN_COORD) (g.I.OverlayInt.whole g.I.OverlayInt.MAX_COORD) c.args.list.now.items c.args.store.now none).in_box

pub returns-then-is_empty-clause-exact_input : goal.returns-then-is_empty-clause-exact_input
returns-then-is_empty-clause-exact_input g c =
    let none = none_given (length c.args.list.now.items) c.args.list.now.len c.is_empty.result c.args.list.now.ok.0 c.is_empty.ensures c.if-is_empty.true in
    (ended_empty (hooks_of g.C.WindingCount.counted g.D.OverlayEdgeData) (settings_of g.I.OverlayInt.BITS c.args.solver.now c.args.self.now) (g.I.OverlayInt.whole g.I.OverlayInt.MIN_COORD) (g.I.OverlayInt.whole g.I.OverlayInt.MAX_COORD) c.args.list.now.items c.args.store.now none).exact_input

pub returns-then-is_empty-clause-near : goal.returns-then-is_empty-clause-near
returns-then-is_empty-clause-near g c =
    let none = none_given (length c.args.list.now.items) c.args.list.now.len c.is_empty.result c.args.list.now.ok.0 c.is_empty.ensures c.if-is_empty.true in
    (ended_empty (hooks_of g.C.WindingCount.counted g.D.OverlayEdgeData) (settings_of g.I.OverlayInt.BITS c.args.solver.now c.args.self.now) (g.I.OverlayInt.whole g.I.OverlayInt.MIN_COORD) (g.I.OverlayInt.whole g.I.OverlayInt.MAX_COORD) c.args.list.now.items c.args.store.now none).near

pub returns-then-is_empty-clause-winding : goal.returns-then-is_empty-clause-winding
returns-then-is_empty-clause-winding g c =
    let none = none_given (length c.args.list.now.items) c.args.list.now.len c.is_empty.result c.args.list.now.ok.0 c.is_empty.ensures c.if-is_empty.true in
    (ended_empty (hooks_of g.C.WindingCount.counted g.D.OverlayEdgeData) (settings_of g.I.OverlayInt.BITS c.args.solver.now c.args.self.now) (g.I.OverlayInt.whole g.I.OverlayInt.MIN_COORD) (g.I.OverlayInt.whole g.I.OverlayInt.MAX_COORD) c.args.list.now.items c.args.store.now none).winding

pub returns-then-is_empty-clause-fits : goal.returns-then-is_empty-clause-fits
returns-then-is_empty-clause-fits g c =
    let none = none_given (length c.args.list.now.items) c.args.list.now.len c.is_empty.result c.args.list.now.ok.0 c.is_empty.ensures c.if-is_empty.true in
    (ended_empty (hooks_of g.C.WindingCount.counted g.D.OverlayEdgeData) (settings_of g.I.OverlayInt.BITS c.args.solver.now c.args.self.now) (g.I.OverlayInt.whole g.I.OverlayInt.MIN_COORD) (g.I.OverlayInt.whole g.I.OverlayInt.MAX_COORD) c.args.list.now.items c.args.store.now none).fits

pub returns-then-is_empty-clause-edge_data : goal.returns-then-is_empty-clause-edge_data
returns-then-is_empty-clause-edge_data g c =
    let none = none_given (length c.args.list.now.items) c.args.list.now.len c.is_empty.result c.args.list.now.ok.0 c.is_empty.ensures c.if-is_empty.true in
    (at_empty (hooks_of g.C.WindingCount.counted g.D.OverlayEdgeData) (settings_of g.I.OverlayInt.BITS c.args.solver.now c.args.self.now) (g.I.OverlayInt.whole g.I.OverlayInt.MIN_COORD) (g.I.OverlayInt.whole g.I.OverlayInt.MAX_COORD) c.args.list.now.items c.args.store.now none).edge_data_is

pub returns-then-is_empty-clause-store : goal.returns-then-is_empty-clause-store
returns-then-is_empty-clause-store g c =
    let none = none_given (length c.args.list.now.items) c.args.list.now.len c.is_empty.result c.args.list.now.ok.0 c.is_empty.ensures c.if-is_empty.true in
    (at_empty (hooks_of g.C.WindingCount.counted g.D.OverlayEdgeData) (settings_of g.I.OverlayInt.BITS c.args.solver.now c.args.self.now) (g.I.OverlayInt.whole g.I.OverlayInt.MIN_COORD) (g.I.OverlayInt.whole g.I.OverlayInt.MAX_COORD) c.args.list.now.items c.args.store.now none).store_is

pub returns-then-is_empty-clause-kept_data : goal.returns-then-is_empty-clause-kept_data
returns-then-is_empty-clause-kept_data g c = λ has keeps given. given

pub returns-then-is_empty-clause-named_data : goal.returns-then-is_empty-clause-named_data
unfolding reach_of_run
returns-then-is_empty-clause-named_data g c = λ names keeps given. given

pub returns-then-is_empty-clause-looked : goal.returns-then-is_empty-clause-looked
returns-then-is_empty-clause-looked g c =
    let none = none_given (length c.args.list.now.items) c.args.list.now.len c.is_empty.result c.args.list.now.ok.0 c.is_empty.ensures c.if-is_empty.true in
    let looks = AreRunLooks-none c.args.solver.now.strategy (settings_of g.I.OverlayInt.BITS c.args.solver.now c.args.self.now) (segments_of c.args.list.now.items) (segments_none c.args.list.now.items none).0 in
    (None, looks)

pub returns-then-is_empty-clause-reach : goal.returns-then-is_empty-clause-reach
returns-then-is_empty-clause-reach g c =
    let settings = settings_of g.I.OverlayInt.BITS c.args.solver.now c.args.self.now in
    reports_reach settings (segments_of c.args.list.now.items) 0 0 (run-reach-none settings (segments_of c.args.list.now.items))

pub returns-then-is_empty-clause-within : goal.returns-then-is_empty-clause-within
returns-then-is_empty-clause-within g c =
    let none = none_given (length c.args.list.now.items) c.args.list.now.len c.is_empty.result c.args.list.now.ok.0 c.is_empty.ensures c.if-is_empty.true in
    let settings = settings_of g.I.OverlayInt.BITS c.args.solver.now c.args.self.now in
    joins_first settings (segments_of c.args.list.now.items) c.args.limit (none_at_most _ _ (length-map c.args.list.now.items segment_of) none)

-- ---- any other list

pub returns-clause-run : goal.returns-clause-run
returns-clause-run g c = IfOk-weaker c.run.result _ _ (λ flag at. (has_ended _ _ _ _ _ _ _ _ _ _ _ _ _ (segments_ordered c.args.list.now.items) at refl).run) c.run.ensures.ended

pub returns-clause-arranged : goal.returns-clause-arranged
returns-clause-arranged g c = on_ok_if c.run.result (λ flag at. (has_ended _ _ _ _ _ _ _ _ _ _ _ _ _ (segments_ordered c.args.list.now.items) at refl).arranged) c.run.ensures.ended

pub returns-clause-balance : goal.returns-clause-balance
returns-clause-balance g c = on_ok_if c.run.result (λ flag at. (has_ended _ _ _ _ _ _ _ _ _ _ _ _ _ (segments_ordered c.args.list.now.items) at refl).balance) c.run.ensures.ended

pub returns-clause-in_box : goal.returns-clause-in_box
returns-clause-in_box g c = on_ok_if c.run.result (λ flag at. (has_ended _ _ _ _ _ _ _ _ _ _ _ _ _ (segments_ordered c.args.list.now.items) at refl).in_box) c.run.ensures.ended

pub returns-clause-near : goal.returns-clause-near
returns-clause-near g c = on_ok_if c.run.result (λ flag at. (has_ended _ _ _ _ _ _ _ _ _ _ _ _ _ (segments_ordered c.args.list.now.items) at refl).near) c.run.ensures.ended

pub returns-clause-winding : goal.returns-clause-winding
returns-clause-winding g c = on_ok_if c.run.result (λ flag at. (has_ended _ _ _ _ _ _ _ _ _ _ _ _ _ (segments_ordered c.args.list.now.items) at refl).winding) c.run.ensures.ended

pub returns-clause-bound : goal.returns-clause-bound
returns-clause-bound g c = on_ok_if c.run.result (λ flag at. (has_ended _ _ _ _ _ _ _ _ _ _ _ _ _ (segments_ordered c.args.list.now.items) at refl).bound) c.run.ensures.ended

pub returns-clause-fits : goal.returns-clause-fits
returns-clause-fits g c = on_ok_if c.run.result (λ flag at. (has_ended _ _ _ _ _ _ _ _ _ _ _ _ _ (segments_ordered c.args.list.now.items) at refl).fits) c.run.ensures.ended

pub returns-clause-exact_input : goal.returns-clause-exact_input
returns-clause-exact_input g c = λ exact. on_ok_if c.run.result (λ flag at. (has_ended _ _ _ _ _ _ _ _ _ _ _ _ _ (segments_ordered c.args.list.now.items) at refl).exact_input exact) c.run.ensures.ended

pub returns-clause-edge_data : goal.returns-clause-edge_data
returns-clause-edge_data g c = on_ok_if c.run.result (λ flag at. at.edge_data_is) c.run.ensures.ended

pub returns-clause-store : goal.returns-clause-store
returns-clause-store g c = on_ok_if c.run.result (λ flag at. at.store_is) c.run.ensures.ended

pub returns-clause-kept_data : goal.returns-clause-kept_data
returns-clause-kept_data g c = λ has keeps given.
    let settings : Settings = settings_of g.I.OverlayInt.BITS c.args.solver.now c.args.self.now in
    on_ok_if c.run.result (λ flag at. ap (list_all (λ s. has s.edge_data)) at.edge_data_is ∙ data_keeps_what_hooks_keep _ has keeps settings (data_segments_of c.args.list.now.items) c.args.store.now (passes_of c.run.new.self) given) c.run.ensures.ended

pub returns-clause-named_data : goal.returns-clause-named_data
returns-clause-named_data g c = λ names keeps given.
    let hooks = hooks_of g.C.WindingCount.counted g.D.OverlayEdgeData in
    let settings : Settings = settings_of g.I.OverlayInt.BITS c.args.solver.now c.args.self.now in
    on_ok_if c.run.result (λ flag at. split_names_near hooks names keeps settings c.args.list.now.items c.args.store.now (passes_of c.run.new.self) _ at.edge_data_is given) c.run.ensures.ended

pub returns-clause-unchanged : goal.returns-clause-unchanged
returns-clause-unchanged g c = λ arranged.
    IfOk-weaker c.run.result _ _ (λ flag at. stays_arranged _ _ _ _ _ _ _ _ _ _ _ _ _ (segments_of-bare c.args.list.now.items) arranged (segments_ordered c.args.list.now.items) at refl) c.run.ensures.ended

pub returns-clause-refused : goal.returns-clause-refused
returns-clause-refused g c = leaves_range c.run.result _ _ c.args.list.now.items _ _ c.run.ensures.stopped

pub returns-clause-passes : goal.returns-clause-passes
returns-clause-passes g c = on_err_weaker c.run.result (λ h. h.0) c.run.ensures.unset

pub returns-clause-looked_before : goal.returns-clause-looked_before
returns-clause-looked_before g c = on_err_weaker c.run.result (λ h. h.1) c.run.ensures.unset

pub returns-then-is_empty-clause-store_made : goal.returns-then-is_empty-clause-store_made
returns-then-is_empty-clause-store_made g c = no_call

pub returns-clause-reach : goal.returns-clause-reach
returns-clause-reach g c =
    let settings = settings_of g.I.OverlayInt.BITS c.args.solver.now c.args.self.now in
    on_ok_weaker c.run.result (reports_reach settings (segments_of c.args.list.now.items) (passes_of c.run.new.self) (reach_of c.run.new.self)) c.run.ensures.reach

pub returns-clause-exact_reach : goal.returns-clause-exact_reach
returns-clause-exact_reach g c = λ exact.
    let settings = settings_of g.I.OverlayInt.BITS c.args.solver.now c.args.self.now in
    on_ok_both c.run.result
    (λ flag at reach. reach ∙ exact_input_reaches_nothing settings (segments_of c.args.list.now.items) (segments_of c.run.new.list.items) (passes_of c.run.new.self) flag (segments_ordered c.args.list.now.items) exact (has_ended _ _ _ _ _ _ _ _ _ _ _ _ _ (segments_ordered c.args.list.now.items) at refl).run)
    c.run.ensures.ended c.run.ensures.reach

pub returns-clause-length : goal.returns-clause-length
returns-clause-length g c =
    let settings = settings_of g.I.OverlayInt.BITS c.args.solver.now c.args.self.now in
    let given = segments_of c.args.list.now.items in
    let left = c.run.new.list.items in
    on_ok_both c.run.result
    (λ flag at within. subst (λ n. n ≤ c.args.limit) (length-map left segment_of) (result_within settings given c.args.limit (segments_of left) (passes_of c.run.new.self) at.arrangement_is within))
    c.run.ensures.ended c.run.ensures.within
