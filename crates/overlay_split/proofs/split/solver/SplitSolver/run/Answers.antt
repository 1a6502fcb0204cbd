use Rattle.std.proofs.Common.{rules, ◌≡◌, refl, sym, ap, subst, ◌∙◌, arith, ℕ, List, ◌-◌, ◌^◌, ◌<◌, ◌≤◌, length}
use Rattle.std.specs.Prelude.{IsTrue, nat_le, Result, Ok, Err, OnErr}
use Rattle.std.proofs.lemmas.Result.{IfOk-from_err}
use Rattle.overlay_base.specs.declared.segm.fault.Fault.TheVariants.{CountOutOfRange}
use Rattle.overlay_split.specs.declared.split.fault.SplitFault.TheVariants.{Refused}
use Rattle.overlay_base.specs.Segments.{WholeSegment}
use Rattle.overlay_base.specs.EdgeData.{DataSegment, Hooks}
use Rattle.overlay_base.specs.HooksOf.{hooks_of}
use Rattle.overlay_base.specs.Radius.{exponent_cap}
use Rattle.overlay_base.specs.SegmentOf.{segment_of, segments_of, data_segments_of}
use Rattle.overlay_base.proofs.laws.joins.Rests.{is_splittable-valid}
use Rattle.overlay_base.proofs.laws.joins.Views.{segments_ordered, segments_of-bare}
use Rattle.overlay_cuts.specs.DataPass.{IsStoppedRun, data_after_passes}
use Rattle.overlay_cuts.specs.Run.{Settings}
use Rattle.overlay_split.specs.SettingsOf.{settings_of}
use Rattle.overlay_split.proofs.laws.nearness.Reaches.{run-reach-none, reach_further}
use Rattle.overlay_split.proofs.laws.passes.Splitting.{at_start, at_next, at_end, stopped_at_start, stopped_at, placed_as, nears_end, reaches_early, potential_small, exponent_grows, goes_on-is, starts-is, keeps_room}
use Rattle.overlay_base.specs.declared.overlay_core.solver.Solver.{Solver}
use Rattle.overlay_base.specs.Planar.{is_splittable}
use Rattle.overlay_base.proofs.laws.joins.Maps.{is_map-join}
use Rattle.overlay_cuts.proofs.laws.passes.Splittable.{is_splittable-join}
use Rattle.overlay_cuts.proofs.laws.passes.Ready.{IsPairInRange-each}
use Rattle.overlay_split.proofs.laws.passes.RunLengths.{joins_first, joins_next, stops_first, stops_next}
use Rattle.overlay_split.proofs.laws.passes.RunLooks.{AreRunLooks-start, AreRunLooks-more}
use Rattle.overlay_cuts.proofs.laws.passes.GridRuns.{run_lies_inside}
use Rattle.overlay_grid.specs.GroupsOf.{grid_in}
use Rattle.overlay_base.specs.EdgeData.{IsMadeFrom}
use Rattle.overlay_base.specs.EdgeData.IsMadeFrom.{no_call}
use Rattle.overlay_base.specs.declared.segm.segment.Segment.{Segment}
use Rattle.std.proofs.lemmas.List.{length-map}
use Rattle.overlay_base.proofs.laws.joins.Stores.{made_further}
use Rattle.overlay_cuts.proofs.laws.passes.Refusals.{refused_by}
use Rattle.overlay_split.proofs.laws.passes.StoppedRuns.{refused_in}
use Rattle.overlay_cuts.proofs.laws.passes.Stores.{made_by_passes}
use Rattle.overlay_split.proofs.split.solver.SplitSolver.run.Goals as goal

-- the greatest exponent of a radius is beyond the cap
cap_fits : (bits : ℕ) → bits ≤ 32 → exponent_cap bits ≤ 2 ^ 64 - 1
cap_fits bits b = omega (arith, b)

-- ---- the limit

-- a list is as long as its segments are many
given_is : {C I D : Type 0} {m : _} {w : _} {o : _} {e : _} {p : _} (xs : List (Segment C I D m w o e p)) (len told : ℕ) → len ≡ length xs → told ≡ len → told ≡ length (segments_of xs)
given_is xs len told same is = is ∙ same ∙ sym (length-map xs segment_of)

pub returns-then-len-limit-clause-beyond : goal.returns-then-len-limit-clause-beyond
returns-then-len-limit-clause-beyond g c = λ _.
    let items = c.args.list.now.items in
    stops_first (hooks_of g.C.WindingCount.counted g.D.OverlayEdgeData) (settings_of g.I.OverlayInt.BITS c.args.solver.now c.args.self.now) (segments_of items) (data_segments_of items) c.args.store.now c.args.limit c.args.store.now refl
    (subst (λ n. c.args.limit < n) (given_is items c.args.list.now.len c.len.result c.args.list.now.ok.0 c.len.ensures) c.if-len-limit.true)

pub returns-then-len-limit-clause-store_made : goal.returns-then-len-limit-clause-store_made
returns-then-len-limit-clause-store_made g c = no_call

-- ---- the join

pub join_with_store-requires : goal.join_with_store-requires
join_with_store-requires g c = is_splittable-valid segment_of _ _ c.args.list.now.items c.requires

pub returns-in_err-repeated-clause-stopped : goal.returns-in_err-repeated-clause-stopped
returns-in_err-repeated-clause-stopped g c =
    let hooks = hooks_of g.C.WindingCount.counted g.D.OverlayEdgeData in
    let settings = settings_of g.I.OverlayInt.BITS c.args.solver.now c.args.self.now in
    let stopped : c.in_err-repeated.field-0.0 ≡ CountOutOfRange → IsStoppedRun hooks settings (data_segments_of c.args.list.now.items) c.args.store.now c.join_with_store.new.store =
    λ e. stopped_at_start hooks settings (data_segments_of c.args.list.now.items) c.args.store.now c.join_with_store.new.store (c.in_err-repeated.ensures.stopped e) in
    refused_in c.from_residual.result c.in_err-repeated.field-0.0 _ c.from_residual.ensures.1 stopped

pub loop-progress-init : goal.loop-progress-init
loop-progress-init g c =
    let at = at_start _ _ _ _ _ _ _ _ _ _ _ _ (segments_ordered c.args.list.now.items) c.requires c.in_ok-repeated.ensures.geometry c.in_ok-repeated.ensures.edge_data c.in_ok-repeated.ensures.store c.in_ok-repeated.ensures.repeated (starts-is c.join_with_store.new.list.items _ (let two : nat_le 2 c.len-2.result ≡ nat_le 2 (length c.join_with_store.new.list.items) = search rules in two)) c.in_ok-repeated.ensures.fits in
    record {
      at = at;
      exponent = omega (arith, c.snap_radius-radius.ensures.exponent);
      step = c.snap_radius-radius.ensures.step;
      limit = refl;
      passes = refl;
      reach = run-reach-none _ _;
      early = λ _. omega arith;
      room = λ _. let few = potential_small _ _ c.join_with_store.new.list.items g.met.I.OverlayInt.lowest g.met.I.OverlayInt.highest at.splittable (omega (arith, c.join_with_store.new.list.small, c.join_with_store.new.list.ok)) in omega (arith, few);
      reach_before = refl;
      looks = rw (c.in-Ok.ensures.looked) (AreRunLooks-start c.args.solver.now.strategy (settings_of g.I.OverlayInt.BITS c.args.solver.now c.args.self.now) (segments_of c.args.list.now.items) (segments_of c.deref.result.now) (grid_in c.in-Ok.finder.grid) (ap (λ l. segments_of l) c.deref.ensures.value ∙ c.in_ok-repeated.ensures.geometry) c.in-Ok.ensures.grid);
      within = joins_first (settings_of g.I.OverlayInt.BITS c.args.solver.now c.args.self.now) (segments_of c.args.list.now.items) c.args.limit (subst (λ n. n ≤ c.args.limit) (given_is c.args.list.now.items c.args.list.now.len c.len.result c.args.list.now.ok.0 c.len.ensures) c.if-len-limit.false);
      solver = c.in-Ok.ensures.solver;
      looked_before = refl;
      changed = tt;
    }

-- ---- a pass

-- it is placed as the run says
pub loop-progress-preserved : goal.loop-progress-preserved
loop-progress-preserved g c =
    let settings = settings_of g.I.OverlayInt.BITS c.args.solver.now c.args.self.now in
    let given = segments_of c.args.list.now.items in
    let one = c.in_ok-progress.ensures.passes in
    let placing = placed_as settings _ c.loop-progress.self.snap_limit c.loop-progress.progress.passes _ _ c.loop-progress.invariant.limit (cap_fits _ g.met.I.OverlayInt.most_bits) c.loop-progress.invariant.exponent c.placing_after-placing.ensures.snaps c.placing_after-placing.ensures.settles in
    let goes = goes_on-is c.after_pass.new.list.items _ _ c.in_ok-progress.ensures.goes_on in
    let next = at_next _ _ _ _ _ _ _ _ _ _ _ _ _ _ _ _ _ _ _ _ (segments_ordered c.args.list.now.items) c.loop-progress.invariant.at c.loop-progress-test.true one placing
    c.in_ok-progress.ensures.geometry c.in_ok-progress.ensures.edge_data c.in_ok-progress.ensures.store c.in_ok-progress.ensures.changed goes c.in_ok-progress.ensures.fits in
    let early = reaches_early c.loop-progress.self.snap_limit _ _ _ _ one c.loop-progress.invariant.early c.in_ok-progress.ensures.reach_bound in
    record {
      at = next;
      exponent = exponent_grows _ _ _ _ _ _ _ _ one c.loop-progress.invariant.exponent c.loop-progress.invariant.step c.increment.ensures.exponent;
      step = c.increment.ensures.step ∙ c.loop-progress.invariant.step;
      limit = c.loop-progress.invariant.limit;
      passes = c.loop-progress.invariant.passes;
      reach = reach_further settings given (segments_of c.loop-progress.list.items) _ _ _ _ _ c.loop-progress.invariant.reach one placing c.loop-progress.invariant.at.arrangement_is c.in_ok-progress.ensures.reach;
      early = early;
      room = λ h.
          let few = potential_small _ _ c.after_pass.new.list.items g.met.I.OverlayInt.lowest g.met.I.OverlayInt.highest next.splittable (omega (arith, c.after_pass.new.list.small, c.after_pass.new.list.ok)) in
          keeps_room c.loop-progress.self.snap_limit _ _ _ _ _ _ _ _ c.loop-progress.invariant.at.map c.in_ok-progress.ensures.geometry goes h one c.placing_after-placing.ensures.settles (omega (arith, c.loop-progress.invariant.limit)) early c.in_ok-progress.ensures.reach few (c.loop-progress.invariant.room c.loop-progress-test.true);
      reach_before = c.loop-progress.invariant.reach_before;
      looks = AreRunLooks-more c.args.solver.now.strategy c.loop-progress.finder.solver.strategy settings given (segments_of c.loop-progress.list.items) (grid_in c.loop-progress.finder.grid) (grid_in c.after_pass.new.finder.grid) c.loop-progress.progress.passes _ c.loop-progress.finder.looked c.after_pass.new.finder.looked c.loop-progress.invariant.looks (ap (λ (s : Solver). s.strategy) c.loop-progress.invariant.solver) c.in_ok-progress.ensures.grid one c.loop-progress.invariant.at.arrangement_is c.in_ok-progress.ensures.looked;
      within = joins_next settings given c.args.limit (segments_of c.loop-progress.list.items) _ c.loop-progress.progress.passes _ c.loop-progress.invariant.within one placing c.loop-progress.invariant.at.arrangement_is c.in_ok-progress.ensures.within;
      solver = c.in_ok-progress.ensures.solver ∙ c.loop-progress.invariant.solver;
      looked_before = c.loop-progress.invariant.looked_before;
      changed = c.in_ok-progress.ensures.bounds;
    }

pub loop-progress-smaller : goal.loop-progress-smaller
loop-progress-smaller g c =
    let settings = settings_of g.I.OverlayInt.BITS c.args.solver.now c.args.self.now in
    let one = c.in_ok-progress.ensures.passes in
    let placing = placed_as settings _ c.loop-progress.self.snap_limit c.loop-progress.progress.passes _ _ c.loop-progress.invariant.limit (cap_fits _ g.met.I.OverlayInt.most_bits) c.loop-progress.invariant.exponent c.placing_after-placing.ensures.snaps c.placing_after-placing.ensures.settles in
    let goes = goes_on-is c.after_pass.new.list.items _ _ c.in_ok-progress.ensures.goes_on in
    let next = at_next _ _ _ _ _ _ _ _ _ _ _ _ _ _ _ _ _ _ _ _ (segments_ordered c.args.list.now.items) c.loop-progress.invariant.at c.loop-progress-test.true one placing
    c.in_ok-progress.ensures.geometry c.in_ok-progress.ensures.edge_data c.in_ok-progress.ensures.store c.in_ok-progress.ensures.changed goes c.in_ok-progress.ensures.fits in
    let few = potential_small _ _ c.after_pass.new.list.items g.met.I.OverlayInt.lowest g.met.I.OverlayInt.highest next.splittable (omega (arith, c.after_pass.new.list.small, c.after_pass.new.list.ok)) in
    nears_end c.loop-progress.self.snap_limit _ _ _ _ _ _ _ c.loop-progress-test.true c.loop-progress.invariant.at.map c.in_ok-progress.ensures.geometry goes one c.placing_after-placing.ensures.settles few

pub returns-in_err-progress-clause-stopped : goal.returns-in_err-progress-clause-stopped
returns-in_err-progress-clause-stopped g c =
    let hooks = hooks_of g.C.WindingCount.counted g.D.OverlayEdgeData in
    let settings = settings_of g.I.OverlayInt.BITS c.args.solver.now c.args.self.now in
    let placing = placed_as settings _ c.loop-progress.self.snap_limit c.loop-progress.progress.passes _ _ c.loop-progress.invariant.limit (cap_fits _ g.met.I.OverlayInt.most_bits) c.loop-progress.invariant.exponent c.placing_after-placing.ensures.snaps c.placing_after-placing.ensures.settles in
    let stopped : c.in_err-progress.field-0.0 ≡ Refused CountOutOfRange → IsStoppedRun hooks settings (data_segments_of c.args.list.now.items) c.args.store.now c.after_pass.new.store =
    λ e. stopped_at _ _ _ _ _ _ _ _ _ _ _ _ _ _ _ (segments_of-bare c.args.list.now.items) c.loop-progress.invariant.at c.loop-progress-test.true placing (c.in_err-progress.ensures.stopped e) in
    refused_by c.from_residual-in_err-progress.result c.in_err-progress.field-0.0 _ c.from_residual-in_err-progress.ensures.1 stopped

pub returns-in_err-progress-clause-beyond : goal.returns-in_err-progress-clause-beyond
returns-in_err-progress-clause-beyond g c =
    let hooks = hooks_of g.C.WindingCount.counted g.D.OverlayEdgeData in
    let settings = settings_of g.I.OverlayInt.BITS c.args.solver.now c.args.self.now in
    let given = c.args.list.now.items in
    let placing = placed_as settings _ c.loop-progress.self.snap_limit c.loop-progress.progress.passes _ _ c.loop-progress.invariant.limit (cap_fits _ g.met.I.OverlayInt.most_bits) c.loop-progress.invariant.exponent c.placing_after-placing.ensures.snaps c.placing_after-placing.ensures.settles in
    refused_by c.from_residual-in_err-progress.result c.in_err-progress.field-0.0 _ c.from_residual-in_err-progress.ensures.1
    (λ e. stops_next hooks settings (segments_of given) (data_segments_of given) c.args.store.now c.args.limit _ _ _ _ _ _ _ _ _ _ c.loop-progress.invariant.at c.loop-progress-test.true placing c.loop-progress.invariant.within (c.in_err-progress.ensures.beyond e) (c.in_err-progress.ensures.uncut e))

-- ---- the end

pub returns-clause-ended : goal.returns-clause-ended
returns-clause-ended g c = at_end _ _ _ _ _ _ _ _ _ _ _ _ _ c.loop-progress.invariant.at c.loop-progress-test.false

pub after_pass-requires-clause-passes : goal.after_pass-requires-clause-passes
after_pass-requires-clause-passes g c = let room = c.loop-progress.invariant.room c.loop-progress-test.true in omega (arith, room)

pub after_pass-requires-clause-reach : goal.after_pass-requires-clause-reach
after_pass-requires-clause-reach g c = let room = c.loop-progress.invariant.room c.loop-progress-test.true in omega (arith, room)

pub returns-clause-reach : goal.returns-clause-reach
returns-clause-reach g c = c.loop-progress.invariant.reach

-- ---- the grid

pub new-requires : goal.new-requires
new-requires g c =
    let low = g.I.OverlayInt.whole g.I.OverlayInt.MIN_COORD in
    let high = g.I.OverlayInt.whole g.I.OverlayInt.MAX_COORD in
    let given = segments_of c.args.list.now.items in
    let first = is_splittable-join low high given c.requires c.in_ok-repeated.ensures.fits (is_map-join given (segments_ordered c.args.list.now.items)) in
    rw (c.deref.ensures.value) (IsPairInRange-each c.join_with_store.new.list.items g.I.OverlayInt.MIN_COORD g.I.OverlayInt.MAX_COORD (subst (λ (l : List WholeSegment). IsTrue (is_splittable low high l)) (sym c.in_ok-repeated.ensures.geometry) first))

pub returns-clause-looked : goal.returns-clause-looked
returns-clause-looked g c = (grid_in c.loop-progress.finder.grid, rw (c.looked-self.ensures) c.loop-progress.invariant.looks)

pub after_pass-requires-clause-inside : goal.after_pass-requires-clause-inside
after_pass-requires-clause-inside g c =
    run_lies_inside c.args.solver.now.strategy (settings_of g.I.OverlayInt.BITS c.args.solver.now c.args.self.now) (segments_of c.args.list.now.items) (segments_of c.loop-progress.list.items) (grid_in c.loop-progress.finder.grid) c.loop-progress.progress.passes (segments_ordered c.args.list.now.items) c.loop-progress.invariant.looks.is_for c.loop-progress.invariant.at.arrangement_is

-- ---- what is made of the store

pub returns-in_err-repeated-clause-store_made : goal.returns-in_err-repeated-clause-store_made
returns-in_err-repeated-clause-store_made g c = c.in_err-repeated.ensures.store_made

pub returns-in-Err-clause-store_made : goal.returns-in-Err-clause-store_made
returns-in-Err-clause-store_made g c = c.in_ok-repeated.ensures.store_made

-- as long as the passes go
made_so_far : {D S : Type 0} (hooks : Hooks D S) (settings : Settings) (given : List (DataSegment D)) (from store : S) (k : ℕ) → store ≡ (data_after_passes hooks settings given from k).1 → IsMadeFrom hooks from store
made_so_far hooks settings given from store k e = subst (λ s. IsMadeFrom hooks from s) (sym e) (made_by_passes hooks settings given from k)

pub returns-in_err-progress-clause-store_made : goal.returns-in_err-progress-clause-store_made
returns-in_err-progress-clause-store_made g c =
    made_further _ (made_so_far _ _ _ _ _ _ c.loop-progress.invariant.at.store_is) c.in_err-progress.ensures.store_made

pub returns-clause-store_made : goal.returns-clause-store_made
returns-clause-store_made g c = made_so_far _ _ _ _ _ _ c.loop-progress.invariant.at.store_is

-- what holds of a result of the other kind, and what stays as it was

-- a fact of every refusal
of_refusal : {T E : Type 0} (Q : Type 0) (r : Result T E) → Q → OnErr r Q
of_refusal Q (Ok x) q = tt
of_refusal Q (Err e) q = q

pub returns-then-len-limit-clause-ended : goal.returns-then-len-limit-clause-ended
returns-then-len-limit-clause-ended g c = tt

pub returns-then-len-limit-clause-reach : goal.returns-then-len-limit-clause-reach
returns-then-len-limit-clause-reach g c = tt

pub returns-then-len-limit-clause-looked : goal.returns-then-len-limit-clause-looked
returns-then-len-limit-clause-looked g c = tt

pub returns-then-len-limit-clause-within : goal.returns-then-len-limit-clause-within
returns-then-len-limit-clause-within g c = tt

pub returns-then-len-limit-clause-emptied : goal.returns-then-len-limit-clause-emptied
returns-then-len-limit-clause-emptied g c = c.clear.ensures.items

pub returns-then-len-limit-clause-unset : goal.returns-then-len-limit-clause-unset
returns-then-len-limit-clause-unset g c = (refl, refl, refl)

pub returns-then-len-limit-clause-limit : goal.returns-then-len-limit-clause-limit
returns-then-len-limit-clause-limit g c = refl

pub returns-in_err-repeated-clause-ended : goal.returns-in_err-repeated-clause-ended
returns-in_err-repeated-clause-ended g c = IfOk-from_err c.from_residual.result _ c.from_residual.ensures.0

pub returns-in_err-repeated-clause-reach : goal.returns-in_err-repeated-clause-reach
returns-in_err-repeated-clause-reach g c = IfOk-from_err c.from_residual.result _ c.from_residual.ensures.0

pub returns-in_err-repeated-clause-looked : goal.returns-in_err-repeated-clause-looked
returns-in_err-repeated-clause-looked g c = IfOk-from_err c.from_residual.result _ c.from_residual.ensures.0

pub returns-in_err-repeated-clause-within : goal.returns-in_err-repeated-clause-within
returns-in_err-repeated-clause-within g c = IfOk-from_err c.from_residual.result _ c.from_residual.ensures.0

pub returns-in_err-repeated-clause-emptied : goal.returns-in_err-repeated-clause-emptied
returns-in_err-repeated-clause-emptied g c = of_refusal _ c.from_residual.result c.in_err-repeated.ensures.emptied

pub returns-in_err-repeated-clause-unset : goal.returns-in_err-repeated-clause-unset
returns-in_err-repeated-clause-unset g c = of_refusal _ c.from_residual.result (refl, refl, refl)

pub returns-in_err-repeated-clause-limit : goal.returns-in_err-repeated-clause-limit
returns-in_err-repeated-clause-limit g c = refl

pub returns-in-Err-clause-ended : goal.returns-in-Err-clause-ended
returns-in-Err-clause-ended g c = tt

pub returns-in-Err-clause-reach : goal.returns-in-Err-clause-reach
returns-in-Err-clause-reach g c = tt

pub returns-in-Err-clause-looked : goal.returns-in-Err-clause-looked
returns-in-Err-clause-looked g c = tt

pub returns-in-Err-clause-within : goal.returns-in-Err-clause-within
returns-in-Err-clause-within g c = tt

pub returns-in-Err-clause-unset : goal.returns-in-Err-clause-unset
returns-in-Err-clause-unset g c = (refl, refl, refl)

pub returns-in-Err-clause-limit : goal.returns-in-Err-clause-limit
returns-in-Err-clause-limit g c = refl

pub after_pass-requires-clause-map : goal.after_pass-requires-clause-map
after_pass-requires-clause-map g c = c.loop-progress.invariant.at.map

pub returns-in_err-progress-clause-ended : goal.returns-in_err-progress-clause-ended
returns-in_err-progress-clause-ended g c = IfOk-from_err c.from_residual-in_err-progress.result _ c.from_residual-in_err-progress.ensures.0

pub returns-in_err-progress-clause-reach : goal.returns-in_err-progress-clause-reach
returns-in_err-progress-clause-reach g c = IfOk-from_err c.from_residual-in_err-progress.result _ c.from_residual-in_err-progress.ensures.0

pub returns-in_err-progress-clause-looked : goal.returns-in_err-progress-clause-looked
returns-in_err-progress-clause-looked g c = IfOk-from_err c.from_residual-in_err-progress.result _ c.from_residual-in_err-progress.ensures.0

pub returns-in_err-progress-clause-within : goal.returns-in_err-progress-clause-within
returns-in_err-progress-clause-within g c = IfOk-from_err c.from_residual-in_err-progress.result _ c.from_residual-in_err-progress.ensures.0

pub returns-in_err-progress-clause-emptied : goal.returns-in_err-progress-clause-emptied
returns-in_err-progress-clause-emptied g c = of_refusal _ c.from_residual-in_err-progress.result c.in_err-progress.ensures.emptied

pub returns-in_err-progress-clause-unset : goal.returns-in_err-progress-clause-unset
returns-in_err-progress-clause-unset g c = of_refusal _ c.from_residual-in_err-progress.result (c.loop-progress.invariant.passes, c.loop-progress.invariant.looked_before, c.loop-progress.invariant.reach_before)

pub returns-in_err-progress-clause-limit : goal.returns-in_err-progress-clause-limit
returns-in_err-progress-clause-limit g c = c.loop-progress.invariant.limit

pub returns-in_err-progress-clause-unbounded : goal.returns-in_err-progress-clause-unbounded
returns-in_err-progress-clause-unbounded g c = refused_by c.from_residual-in_err-progress.result c.in_err-progress.field-0.0 _ c.from_residual-in_err-progress.ensures.1 c.in_err-progress.ensures.unbounded

pub returns-clause-within : goal.returns-clause-within
returns-clause-within g c = c.loop-progress.invariant.within

pub returns-clause-emptied : goal.returns-clause-emptied
returns-clause-emptied g c = tt

pub returns-clause-stopped : goal.returns-clause-stopped
returns-clause-stopped g c = tt

pub returns-clause-beyond : goal.returns-clause-beyond
returns-clause-beyond g c = tt

pub returns-clause-unbounded : goal.returns-clause-unbounded
returns-clause-unbounded g c = tt

pub returns-clause-unset : goal.returns-clause-unset
returns-clause-unset g c = tt

pub returns-clause-limit : goal.returns-clause-limit
returns-clause-limit g c = c.loop-progress.invariant.limit

pub returns-in-Err-clause-emptied : goal.returns-in-Err-clause-emptied
returns-in-Err-clause-emptied g c = search rules
