use Rattle.std.proofs.Common.{◌≡◌, ◌∙◌, ◌⊎◌, ⊎_elim, inl, inr, arith, ◌+◌, ◌*◌, ◌≤◌, refl, sym, ap, ap₂, subst, ℕ, [], length, Bool, true, false, if◌then◌else◌, List, ◌||◌, not}
use Rattle.std.specs.Prelude.{◌↔◌, IsTrue, IsFalse, All}
use Rattle.std.proofs.lemmas.List.{length-map}
use Rattle.std.specs.List.{list_all}
use Rattle.overlay_geometry.specs.Points.{Point, Pair}
use Rattle.overlay_base.specs.EdgeData.{DataSegment, Hooks, data_join, without_data, IsRefusedJoin}
use Rattle.overlay_base.specs.HooksOf.{hooks_of}
use Rattle.overlay_base.specs.Join.{join, join_leaves_range, has_equal_pairs}
use Rattle.overlay_base.specs.Places.{winding_below}
use Rattle.overlay_base.specs.Balance.{balance}
use Rattle.overlay_base.specs.Planar.{is_planar, is_splittable, is_arranged}
use Rattle.overlay_base.specs.SegmentOf.{segment_of, segments_of, data_segments_of}
use Rattle.overlay_base.specs.Segments.{WholeSegment, pairs, is_map, are_ordered}
use Rattle.overlay_base.specs.declared.segm.segment.Segment.{Segment}
use Rattle.overlay_base.specs.declared.segm.fault.Fault.TheVariants.{CountOutOfRange}
use Rattle.overlay_base.proofs.laws.joins.Maps.{is_map-join, are_ordered-join, join-map}
use Rattle.overlay_base.proofs.laws.joins.Rests.{is_splittable-valid}
use Rattle.overlay_base.proofs.laws.joins.Stores.{made_further}
use Rattle.overlay_base.proofs.laws.joins.Views.{segments_ordered, segments_of-bare}
use Rattle.overlay_intersections.specs.PassMarks.{is_rounded}
use Rattle.overlay_base.proofs.laws.joins.Repeats.{has_equal_pairs-map}
use Rattle.overlay_cuts.proofs.laws.passes.DataPasses.{unmarked_data_cut_is_unchanged}
use Rattle.overlay_cuts.specs.DataPass.{data_cut_by, data_pass_by}
use Rattle.std.proofs.lemmas.Bool.{both_ways, and_parts, false_from_ne_true}
use Rattle.overlay_cuts.specs.Pass.{cut_by, pass_by}
use Rattle.overlay_cuts.specs.Nearness.{LieNear, MarksLieNear, IsNearSome, point_along, LieInGivenBox}
use Rattle.overlay_cuts.specs.Laws.{NameNear}
use Rattle.overlay_cuts.proofs.laws.passes.DataInvariants.{data_cut_keeps_what_hooks_keep}
use Rattle.overlay_cuts.proofs.laws.nearness.NamedData.{data_cut_names_what_is_near}
use Rattle.overlay_cuts.proofs.laws.passes.Splittable.{is_splittable-join}
use Rattle.overlay_cuts.proofs.laws.passes.Refusals.{refused_by}
use Rattle.overlay_snapping.specs.Chains.{AreSnapCuts, IsSnapped}
use Rattle.overlay_snapping.specs.Counts.{chain_points}
use Rattle.overlay_snapping.specs.SnapOf.{IsRefusedPieces, IsStoppedSnap, stops_join, stops_pieces, reach_of_snap, IsNearCancelledInSnap, SnapChanges, SnapLeavesRange, in_join, in_pieces}
use Rattle.overlay_geometry.proofs.laws.lists.Elements.{Has-from_Contains}
use Rattle.overlay_snapping.specs.steps.Batches.{HasCut, HasCuts}
use Rattle.overlay_snapping.specs.steps.Resolved.{IsSplitExactly}
use Rattle.overlay_snapping.proofs.laws.collinear.Settled.{passed_data}
use Rattle.overlay_snapping.proofs.laws.collinear.SettledSnaps.{joined_in_order, exactly_on, exactly_cuts, exactly_decided, exactly_snapped, exactly_changes, exactly_balanced, exactly_near, exactly_given_near, exactly_winding, exactly_in_box, exactly_fits, exactly_arranged, exactly_reaches, exactly_not_planar}
use Rattle.overlay_snapping.proofs.laws.chains.ExactSnaps.{exact_counts, exact_reach}
use Rattle.overlay_snapping.proofs.laws.counting.SnapCounts.{snapped_has_few}
use Rattle.overlay_snapping.proofs.laws.chains.SnapRuns.{is_snapped, keeps_balance, given_lies_near, in_given_box, near_cuts, lies_near, keeps_winding, snapped_arranged, join_keeps, join_names, join_is_beside, join_of_arranged, none_cut, no_cut}
use Rattle.overlay_snapping.proofs.snap.solver.SnapSolver.split_segments_with_store.Goals.{then-not-has_one_value, else-not-has_one_value}
use Rattle.overlay_snapping.proofs.snap.solver.SnapSolver.split_segments_with_store.Goals as goal

pub join_with_store-requires : goal.join_with_store-requires
join_with_store-requires g c = is_splittable-valid segment_of _ _ c.args.list.now.items c.requires

-- ---- the joined list

pub find_cuts-requires-clause-map : goal.find_cuts-requires-clause-map
find_cuts-requires-clause-map g c = rw (c.deref-2.ensures.value, c.in_ok-repeated.ensures.geometry) (is_map-join (segments_of c.args.list.now.items) (segments_ordered c.args.list.now.items))

pub find_cuts-requires-clause-splittable : goal.find_cuts-requires-clause-splittable
find_cuts-requires-clause-splittable g c = rw (c.deref-2.ensures.value, c.in_ok-repeated.ensures.geometry)
    (is_splittable-join (g.I.OverlayInt.whole g.I.OverlayInt.MIN_COORD) (g.I.OverlayInt.whole g.I.OverlayInt.MAX_COORD) (segments_of c.args.list.now.items) c.requires c.in_ok-repeated.ensures.fits
    (is_map-join (segments_of c.args.list.now.items) (segments_ordered c.args.list.now.items)))

pub cut-requires-clause-map : goal.cut-requires-clause-map
cut-requires-clause-map g c = rw (c.in_ok-repeated.ensures.geometry) (is_map-join (segments_of c.args.list.now.items) (segments_ordered c.args.list.now.items))

pub cut-requires-clause-splittable : goal.cut-requires-clause-splittable
cut-requires-clause-splittable g c = rw (c.in_ok-repeated.ensures.geometry)
    (is_splittable-join (g.I.OverlayInt.whole g.I.OverlayInt.MIN_COORD) (g.I.OverlayInt.whole g.I.OverlayInt.MAX_COORD) (segments_of c.args.list.now.items) c.requires c.in_ok-repeated.ensures.fits
    (is_map-join (segments_of c.args.list.now.items) (segments_ordered c.args.list.now.items)))

-- where cuts do not have to be listed the data has one value
not_listed : (has_to_list are_listed : Bool) → (IsTrue has_to_list → IsTrue are_listed) → IsFalse are_listed → IsFalse has_to_list
not_listed true are_listed told h = absurd (both_ways are_listed h (told refl))
not_listed false are_listed told h = refl

pub cut-requires-clause-one_data : goal.cut-requires-clause-one_data
cut-requires-clause-one_data g c = λ h.
    let free = not_listed c.if-not-has_one_value.has_to_list c.in-Ok.found.are_listed c.in-Ok.ensures.listed h in
    elim c.if-not-has_one_value.branch [
      | then-not-has_one_value w ↦ absurd (both_ways c.if-not-has_one_value.has_to_list free (w.has_to_list-is ∙ ap not w.if-not-has_one_value.true))
      | else-not-has_one_value w ↦ c.has_one_value.ensures.data w.if-not-has_one_value.false
    ]

pub cut-requires-clause-one_store : goal.cut-requires-clause-one_store
cut-requires-clause-one_store g c = λ h.
    let free = not_listed c.if-not-has_one_value.has_to_list c.in-Ok.found.are_listed c.in-Ok.ensures.listed h in
    elim c.if-not-has_one_value.branch [
      | then-not-has_one_value w ↦ absurd (both_ways c.if-not-has_one_value.has_to_list free (w.has_to_list-is ∙ ap not w.if-not-has_one_value.true))
      | else-not-has_one_value w ↦ c.has_one_value.ensures.store w.if-not-has_one_value.false
    ]

-- the cuts that were found are those of the join
of_join : {C I D : Type 0} {m : _} {w : _} {o : _} {e : _} {p : _} (joined : List WholeSegment) (shown list : List (Segment C I D m w o e p)) → shown ≡ list → segments_of list ≡ joined → HasCuts (segments_of shown) → HasCuts joined
of_join joined shown list same geometry h = subst HasCuts geometry (subst (λ l. HasCuts (segments_of l)) same h)

-- what names those of the join names those of the list
back : (on : Pair → List Point) (joined list : List WholeSegment) → list ≡ joined → AreSnapCuts joined on → AreSnapCuts list on
back on joined list e h = subst (λ l. AreSnapCuts l on) (sym e) h

-- ---- refused

-- the pieces that were joined are those of the join
refused_pieces : {D S : Type 0} (hooks : Hooks D S) (on : Pair → List Point) (items : List (DataSegment D)) (store : S) (listed : List (DataSegment D)) (stored left : S) → listed ≡ (data_join hooks items store).0 → stored ≡ (data_join hooks items store).1 →
    (let pieces : List (DataSegment D) × S = data_cut_by hooks on listed stored in IsRefusedJoin hooks pieces.0 pieces.1 left) → IsRefusedPieces hooks on items store left
refused_pieces {D} {S} hooks on items store listed stored left e f h =
    subst (λ s. let pieces : List (DataSegment D) × S = data_cut_by hooks on (data_join hooks items store).0 s in IsRefusedJoin hooks pieces.0 pieces.1 left) f
    (subst (λ l. let pieces : List (DataSegment D) × S = data_cut_by hooks on l stored in IsRefusedJoin hooks pieces.0 pieces.1 left) e h)

pub returns-in_err-is_cut-clause-refused : goal.returns-in_err-is_cut-clause-refused
returns-in_err-is_cut-clause-refused g c =
    let given = segments_of c.args.list.now.items in
    let joined = join given in
    let e = c.in_ok-repeated.ensures.geometry in
    let known = of_join joined _ _ c.deref-2.ensures.value e c.in-Ok.ensures.has_cuts in
    let on = known.1.0 in
    let leaves : c.in_err-is_cut.field-0.0 ≡ CountOutOfRange → SnapLeavesRange given =
    λ f. in_pieces on known.1.1 (subst (λ l. IsTrue (join_leaves_range (cut_by on l))) e (c.in_err-is_cut.ensures.refused f on (back on joined _ e known.1.1))) in
    refused_by c.from_residual-in_err-is_cut.result c.in_err-is_cut.field-0.0 _ c.from_residual-in_err-is_cut.ensures.1 leaves

pub returns-in_err-repeated-clause-stopped : goal.returns-in_err-repeated-clause-stopped
returns-in_err-repeated-clause-stopped g c =
    let hooks = hooks_of g.C.WindingCount.counted g.D.OverlayEdgeData in
    let stopped : c.in_err-repeated.field-0.0 ≡ CountOutOfRange → IsStoppedSnap hooks (data_segments_of c.args.list.now.items) c.args.store.now c.join_with_store.new.store =
    λ e. stops_join (c.in_err-repeated.ensures.stopped e) in
    refused_by c.from_residual.result c.in_err-repeated.field-0.0 _ c.from_residual.ensures.1 stopped

pub returns-in_err-is_cut-clause-stopped : goal.returns-in_err-is_cut-clause-stopped
returns-in_err-is_cut-clause-stopped g c =
    let given = segments_of c.args.list.now.items in
    let items = data_segments_of c.args.list.now.items in
    let joined = join given in
    let hooks = hooks_of g.C.WindingCount.counted g.D.OverlayEdgeData in
    let left = c.cut.new.store in
    let bare : given ≡ without_data items = segments_of-bare c.args.list.now.items in
    let e = c.in_ok-repeated.ensures.geometry in
    let known = of_join joined _ _ c.deref-2.ensures.value e c.in-Ok.ensures.has_cuts in
    let on = known.1.0 in
    let fits = subst (λ l. IsFalse (join_leaves_range l)) bare c.in_ok-repeated.ensures.fits in
    let stopped : c.in_err-is_cut.field-0.0 ≡ CountOutOfRange → IsStoppedSnap hooks items c.args.store.now left =
    λ f. stops_pieces on (subst (λ l. AreSnapCuts (join l) on) bare known.1.1) fits
    (refused_pieces hooks on _ _ _ _ left c.in_ok-repeated.ensures.edge_data c.in_ok-repeated.ensures.store (c.in_err-is_cut.ensures.stopped f on (back on joined _ e known.1.1))) in
    refused_by c.from_residual-in_err-is_cut.result c.in_err-is_cut.field-0.0 _ c.from_residual-in_err-is_cut.ensures.1 stopped

pub returns-in_err-is_cut-clause-store_made : goal.returns-in_err-is_cut-clause-store_made
returns-in_err-is_cut-clause-store_made g c = made_further (hooks_of g.C.WindingCount.counted g.D.OverlayEdgeData) c.in_ok-repeated.ensures.store_made c.in_err-is_cut.ensures.store_made

pub returns-clause-store_made : goal.returns-clause-store_made
returns-clause-store_made g c = made_further (hooks_of g.C.WindingCount.counted g.D.OverlayEdgeData) c.in_ok-repeated.ensures.store_made c.in_ok-is_cut.ensures.store_made

none_more : (n : ℕ) → 0 + n ≡ n
none_more n = omega arith

-- ---- split along lines

pub split_collinear-requires : goal.split_collinear-requires
split_collinear-requires g c =
    let least = g.I.OverlayInt.whole g.I.OverlayInt.MIN_COORD in
    let greatest = g.I.OverlayInt.whole g.I.OverlayInt.MAX_COORD in
    subst (λ l. IsTrue (is_splittable least greatest l)) (sym (ap segments_of c.as_slice.ensures.value ∙ c.in_ok-repeated.ensures.geometry))
    (is_splittable-join least greatest (segments_of c.args.list.now.items) c.requires c.in_ok-repeated.ensures.fits
    (is_map-join (segments_of c.args.list.now.items) (segments_ordered c.args.list.now.items)))

pub returns-in-Some-clause-snapped : goal.returns-in-Some-clause-snapped
returns-in-Some-clause-snapped g c =
    let given = segments_of c.args.list.now.items in
    let o = segments_ordered c.args.list.now.items in
    let split = segments_of c.in-Some.split.items in
    let h = subst (λ l. IsSplitExactly l split) (ap segments_of c.as_slice.ensures.value ∙ c.in_ok-repeated.ensures.geometry) c.in-Some.ensures.split in
    exactly_snapped given split o h

pub returns-in-Some-clause-changed : goal.returns-in-Some-clause-changed
returns-in-Some-clause-changed g c =
    let given = segments_of c.args.list.now.items in
    let o = segments_ordered c.args.list.now.items in
    let split = segments_of c.in-Some.split.items in
    let h = subst (λ l. IsSplitExactly l split) (ap segments_of c.as_slice.ensures.value ∙ c.in_ok-repeated.ensures.geometry) c.in-Some.ensures.split in
    (λ _. exactly_changes given split o h, λ _. refl)

pub returns-in-Some-clause-balance : goal.returns-in-Some-clause-balance
returns-in-Some-clause-balance g c =
    let given = segments_of c.args.list.now.items in
    let o = segments_ordered c.args.list.now.items in
    let split = segments_of c.in-Some.split.items in
    let h = subst (λ l. IsSplitExactly l split) (ap segments_of c.as_slice.ensures.value ∙ c.in_ok-repeated.ensures.geometry) c.in-Some.ensures.split in
    exactly_balanced given split o h

pub returns-in-Some-clause-near : goal.returns-in-Some-clause-near
returns-in-Some-clause-near g c =
    let given = segments_of c.args.list.now.items in
    let o = segments_ordered c.args.list.now.items in
    let split = segments_of c.in-Some.split.items in
    let h = subst (λ l. IsSplitExactly l split) (ap segments_of c.as_slice.ensures.value ∙ c.in_ok-repeated.ensures.geometry) c.in-Some.ensures.split in
    exactly_near given split o h

pub returns-in-Some-clause-given_near : goal.returns-in-Some-clause-given_near
returns-in-Some-clause-given_near g c =
    let given = segments_of c.args.list.now.items in
    let o = segments_ordered c.args.list.now.items in
    let split = segments_of c.in-Some.split.items in
    let h = subst (λ l. IsSplitExactly l split) (ap segments_of c.as_slice.ensures.value ∙ c.in_ok-repeated.ensures.geometry) c.in-Some.ensures.split in
    exactly_given_near given split o h

pub returns-in-Some-clause-winding : goal.returns-in-Some-clause-winding
returns-in-Some-clause-winding g c =
    let given = segments_of c.args.list.now.items in
    let o = segments_ordered c.args.list.now.items in
    let split = segments_of c.in-Some.split.items in
    let h = subst (λ l. IsSplitExactly l split) (ap segments_of c.as_slice.ensures.value ∙ c.in_ok-repeated.ensures.geometry) c.in-Some.ensures.split in
    exactly_winding given split o h

pub returns-in-Some-clause-in_box : goal.returns-in-Some-clause-in_box
returns-in-Some-clause-in_box g c =
    let given = segments_of c.args.list.now.items in
    let o = segments_ordered c.args.list.now.items in
    let split = segments_of c.in-Some.split.items in
    let h = subst (λ l. IsSplitExactly l split) (ap segments_of c.as_slice.ensures.value ∙ c.in_ok-repeated.ensures.geometry) c.in-Some.ensures.split in
    exactly_in_box given split o h

pub returns-in-Some-clause-fits : goal.returns-in-Some-clause-fits
returns-in-Some-clause-fits g c =
    let given = segments_of c.args.list.now.items in
    let o = segments_ordered c.args.list.now.items in
    let split = segments_of c.in-Some.split.items in
    let h = subst (λ l. IsSplitExactly l split) (ap segments_of c.as_slice.ensures.value ∙ c.in_ok-repeated.ensures.geometry) c.in-Some.ensures.split in
    exactly_fits given split o h c.in_ok-repeated.ensures.fits

pub returns-in-Some-clause-arranged : goal.returns-in-Some-clause-arranged
returns-in-Some-clause-arranged g c =
    let given = segments_of c.args.list.now.items in
    let o = segments_ordered c.args.list.now.items in
    let split = segments_of c.in-Some.split.items in
    let h = subst (λ l. IsSplitExactly l split) (ap segments_of c.as_slice.ensures.value ∙ c.in_ok-repeated.ensures.geometry) c.in-Some.ensures.split in
    exactly_arranged given split o h (g.I.OverlayInt.whole g.I.OverlayInt.MIN_COORD) (g.I.OverlayInt.whole g.I.OverlayInt.MAX_COORD) c.requires c.in_ok-repeated.ensures.fits

pub returns-in-Some-clause-reach : goal.returns-in-Some-clause-reach
returns-in-Some-clause-reach g c =
    let given = segments_of c.args.list.now.items in
    let o = segments_ordered c.args.list.now.items in
    let split = segments_of c.in-Some.split.items in
    let h = subst (λ l. IsSplitExactly l split) (ap segments_of c.as_slice.ensures.value ∙ c.in_ok-repeated.ensures.geometry) c.in-Some.ensures.split in
    sym (exactly_reaches given split o h)

pub returns-in-Some-clause-exact_reach : goal.returns-in-Some-clause-exact_reach
returns-in-Some-clause-exact_reach g c =
    let given = segments_of c.args.list.now.items in
    let o = segments_ordered c.args.list.now.items in
    let split = segments_of c.in-Some.split.items in
    let h = subst (λ l. IsSplitExactly l split) (ap segments_of c.as_slice.ensures.value ∙ c.in_ok-repeated.ensures.geometry) c.in-Some.ensures.split in
    λ exact. refl

pub returns-in-Some-clause-few : goal.returns-in-Some-clause-few
returns-in-Some-clause-few g c =
    let given = segments_of c.args.list.now.items in
    let o = segments_ordered c.args.list.now.items in
    let split = segments_of c.in-Some.split.items in
    let h = subst (λ l. IsSplitExactly l split) (ap segments_of c.as_slice.ensures.value ∙ c.in_ok-repeated.ensures.geometry) c.in-Some.ensures.split in
    subst (λ (n : ℕ). n ≤ 3 * length (chain_points (pairs (join given)))) (length-map c.in-Some.split.items segment_of) (snapped_has_few (join given) split (are_ordered-join given o) (exactly_snapped given split o h))

pub returns-in-Some-clause-exact_input : goal.returns-in-Some-clause-exact_input
returns-in-Some-clause-exact_input g c =
    let given = segments_of c.args.list.now.items in
    let o = segments_ordered c.args.list.now.items in
    let split = segments_of c.in-Some.split.items in
    let h = subst (λ l. IsSplitExactly l split) (ap segments_of c.as_slice.ensures.value ∙ c.in_ok-repeated.ensures.geometry) c.in-Some.ensures.split in
    λ exact. exact_counts given split o exact (exactly_snapped given split o h)

pub returns-in-Some-clause-edge_data : goal.returns-in-Some-clause-edge_data
returns-in-Some-clause-edge_data g c =
    let given = segments_of c.args.list.now.items in
    let o = segments_ordered c.args.list.now.items in
    let split = segments_of c.in-Some.split.items in
    let h = subst (λ l. IsSplitExactly l split) (ap segments_of c.as_slice.ensures.value ∙ c.in_ok-repeated.ensures.geometry) c.in-Some.ensures.split in
    let hooks = hooks_of g.C.WindingCount.counted g.D.OverlayEdgeData in
    let items = data_segments_of c.args.list.now.items in
    let store = c.args.store.now in
    let bare : given ≡ without_data items = segments_of-bare c.args.list.now.items in
    let joined : without_data (data_join hooks items store).0 ≡ join given = join_is_beside hooks items store ∙ sym (ap join bare) in
    let data_is = λ (on : Pair → List Point) (cuts : AreSnapCuts (join given) on). passed_data (join given) (joined_in_order given split o h) h.settled.not_rounded on cuts c.in-Some.ensures.one_value.0 hooks (data_join hooks items store).0 (data_segments_of c.in-Some.split.items) (data_join hooks items store).1 joined (sym (segments_of-bare c.in-Some.split.items) ∙ h.settled.passed) in
    data_is

pub returns-in-Some-clause-store : goal.returns-in-Some-clause-store
returns-in-Some-clause-store g c =
    let given = segments_of c.args.list.now.items in
    let o = segments_ordered c.args.list.now.items in
    let split = segments_of c.in-Some.split.items in
    let h = subst (λ l. IsSplitExactly l split) (ap segments_of c.as_slice.ensures.value ∙ c.in_ok-repeated.ensures.geometry) c.in-Some.ensures.split in
    λ on cuts. c.in-Some.ensures.one_value.1 _ _

pub returns-in-Some-clause-kept_data : goal.returns-in-Some-clause-kept_data
returns-in-Some-clause-kept_data g c =
    let given = segments_of c.args.list.now.items in
    let o = segments_ordered c.args.list.now.items in
    let split = segments_of c.in-Some.split.items in
    let h = subst (λ l. IsSplitExactly l split) (ap segments_of c.as_slice.ensures.value ∙ c.in_ok-repeated.ensures.geometry) c.in-Some.ensures.split in
    let hooks = hooks_of g.C.WindingCount.counted g.D.OverlayEdgeData in
    let items = data_segments_of c.args.list.now.items in
    let store = c.args.store.now in
    let bare : given ≡ without_data items = segments_of-bare c.args.list.now.items in
    let joined : without_data (data_join hooks items store).0 ≡ join given = join_is_beside hooks items store ∙ sym (ap join bare) in
    let data_is = λ (on : Pair → List Point) (cuts : AreSnapCuts (join given) on). passed_data (join given) (joined_in_order given split o h) h.settled.not_rounded on cuts c.in-Some.ensures.one_value.0 hooks (data_join hooks items store).0 (data_segments_of c.in-Some.split.items) (data_join hooks items store).1 joined (sym (segments_of-bare c.in-Some.split.items) ∙ h.settled.passed) in
    λ has keeps given_has.
    let on = exactly_on given split o h in
    ap (list_all (λ s. has s.edge_data)) (data_is on (exactly_cuts given split o h)) ∙ data_cut_keeps_what_hooks_keep hooks has keeps on (data_join hooks items store).0 (data_join hooks items store).1 (join_keeps hooks items store has keeps given_has)

pub returns-in-Some-clause-named_data : goal.returns-in-Some-clause-named_data
returns-in-Some-clause-named_data g c =
    let given = segments_of c.args.list.now.items in
    let o = segments_ordered c.args.list.now.items in
    let split = segments_of c.in-Some.split.items in
    let h = subst (λ l. IsSplitExactly l split) (ap segments_of c.as_slice.ensures.value ∙ c.in_ok-repeated.ensures.geometry) c.in-Some.ensures.split in
    let hooks = hooks_of g.C.WindingCount.counted g.D.OverlayEdgeData in
    let items = data_segments_of c.args.list.now.items in
    let store = c.args.store.now in
    let bare : given ≡ without_data items = segments_of-bare c.args.list.now.items in
    let joined : without_data (data_join hooks items store).0 ≡ join given = join_is_beside hooks items store ∙ sym (ap join bare) in
    let data_is = λ (on : Pair → List Point) (cuts : AreSnapCuts (join given) on). passed_data (join given) (joined_in_order given split o h) h.settled.not_rounded on cuts c.in-Some.ensures.one_value.0 hooks (data_join hooks items store).0 (data_segments_of c.in-Some.split.items) (data_join hooks items store).1 joined (sym (segments_of-bare c.in-Some.split.items) ∙ h.settled.passed) in
    λ names keeps near.
    let on = exactly_on given split o h in
    let reach = reach_of_snap given in
    let near_marks = subst (λ l. MarksLieNear reach on l) (sym joined) (near_cuts given o on (exactly_decided given split o h) (exactly_cuts given split o h)) in
    subst (λ l. NameNear names reach l) (sym (data_is on (exactly_cuts given split o h)))
    (subst (λ (n : ℕ). NameNear names n (data_pass_by hooks on (data_join hooks items store).0 (data_join hooks items store).1).0) (none_more reach) (data_cut_names_what_is_near hooks names keeps 0 reach on (data_join hooks items store).0 (data_join hooks items store).1 near_marks
    (join_names hooks items store names keeps (subst (λ l. IsTrue (are_ordered l)) bare o) near)))

pub returns-in-Some-clause-unchanged : goal.returns-in-Some-clause-unchanged
unfolding is_arranged
returns-in-Some-clause-unchanged g c =
    let given = segments_of c.args.list.now.items in
    let o = segments_ordered c.args.list.now.items in
    let split = segments_of c.in-Some.split.items in
    let h = subst (λ l. IsSplitExactly l split) (ap segments_of c.as_slice.ensures.value ∙ c.in_ok-repeated.ensures.geometry) c.in-Some.ensures.split in
    λ arranged.
    let parts = and_parts _ _ arranged in
    let map : IsTrue (is_map given) = (and_parts _ _ parts.0).0 in
    absurd (exactly_not_planar given split o h (subst (λ l. IsTrue (is_planar l)) (sym (join-map given map)) parts.1))

pub returns-in-Some-clause-store_made : goal.returns-in-Some-clause-store_made
returns-in-Some-clause-store_made g c = c.in_ok-repeated.ensures.store_made

-- ---- the segments

pub returns-clause-snapped : goal.returns-clause-snapped
returns-clause-snapped g c =
    let given = segments_of c.args.list.now.items in
    let joined = join given in
    let e = c.in_ok-repeated.ensures.geometry in
    let known = of_join joined _ _ c.deref-2.ensures.value e c.in-Ok.ensures.has_cuts in
    let on = known.1.0 in
    let is : segments_of c.cut.new.list.items ≡ pass_by on joined = c.in_ok-is_cut.ensures.geometry on (back on joined _ e known.1.1) ∙ ap (λ l. pass_by on l) e in
    subst (λ l. IsSnapped joined l) (sym is) (is_snapped given (segments_ordered c.args.list.now.items) on known.0 known.1.1)

pub returns-clause-balance : goal.returns-clause-balance
returns-clause-balance g c =
    let given = segments_of c.args.list.now.items in
    let joined = join given in
    let e = c.in_ok-repeated.ensures.geometry in
    let known = of_join joined _ _ c.deref-2.ensures.value e c.in-Ok.ensures.has_cuts in
    let on = known.1.0 in
    let is : segments_of c.cut.new.list.items ≡ pass_by on joined = c.in_ok-is_cut.ensures.geometry on (back on joined _ e known.1.1) ∙ ap (λ l. pass_by on l) e in
    λ p. ap (λ l. balance l p) is ∙ keeps_balance given (segments_ordered c.args.list.now.items) on known.0 known.1.1 p

pub returns-clause-near : goal.returns-clause-near
returns-clause-near g c =
    let given = segments_of c.args.list.now.items in
    let joined = join given in
    let e = c.in_ok-repeated.ensures.geometry in
    let known = of_join joined _ _ c.deref-2.ensures.value e c.in-Ok.ensures.has_cuts in
    let on = known.1.0 in
    let is : segments_of c.cut.new.list.items ≡ pass_by on joined = c.in_ok-is_cut.ensures.geometry on (back on joined _ e known.1.1) ∙ ap (λ l. pass_by on l) e in
    subst (λ l. LieNear (reach_of_snap given) (pairs given) (pairs l)) (sym is) (lies_near given (segments_ordered c.args.list.now.items) on known.0 known.1.1)

pub returns-clause-given_near : goal.returns-clause-given_near
returns-clause-given_near g c =
    let given = segments_of c.args.list.now.items in
    let joined = join given in
    let e = c.in_ok-repeated.ensures.geometry in
    let known = of_join joined _ _ c.deref-2.ensures.value e c.in-Ok.ensures.has_cuts in
    let on = known.1.0 in
    let is : segments_of c.cut.new.list.items ≡ pass_by on joined = c.in_ok-is_cut.ensures.geometry on (back on joined _ e known.1.1) ∙ ap (λ l. pass_by on l) e in
    λ s i f. subst (λ l. IsNearSome (reach_of_snap given) (point_along s f) (pairs l) ⊎ IsNearCancelledInSnap given (point_along s f)) (sym is)
    (given_lies_near given (segments_ordered c.args.list.now.items) on known.0 known.1.1 s i f)

pub returns-clause-winding : goal.returns-clause-winding
returns-clause-winding g c =
    let given = segments_of c.args.list.now.items in
    let joined = join given in
    let e = c.in_ok-repeated.ensures.geometry in
    let known = of_join joined _ _ c.deref-2.ensures.value e c.in-Ok.ensures.has_cuts in
    let on = known.1.0 in
    let is : segments_of c.cut.new.list.items ≡ pass_by on joined = c.in_ok-is_cut.ensures.geometry on (back on joined _ e known.1.1) ∙ ap (λ l. pass_by on l) e in
    λ p far. ap (λ l. winding_below l p) is ∙ keeps_winding given (segments_ordered c.args.list.now.items) on known.0 known.1.1 p far

pub returns-clause-reach : goal.returns-clause-reach
unfolding reach_of_snap
returns-clause-reach g c =
    c.most_moved-self.ensures
    ∙ ap (λ (b : Bool). if b then 1 else 0) (c.in-Ok.ensures.rounded ∙ ap (λ l. is_rounded (segments_of l)) c.deref-2.ensures.value ∙ ap is_rounded c.in_ok-repeated.ensures.geometry)

pub returns-clause-arranged : goal.returns-clause-arranged
returns-clause-arranged g c =
    let given = segments_of c.args.list.now.items in
    let joined = join given in
    let e = c.in_ok-repeated.ensures.geometry in
    let known = of_join joined _ _ c.deref-2.ensures.value e c.in-Ok.ensures.has_cuts in
    let on = known.1.0 in
    let is : segments_of c.cut.new.list.items ≡ pass_by on joined = c.in_ok-is_cut.ensures.geometry on (back on joined _ e known.1.1) ∙ ap (λ l. pass_by on l) e in
    let least = g.I.OverlayInt.whole g.I.OverlayInt.MIN_COORD in
    let greatest = g.I.OverlayInt.whole g.I.OverlayInt.MAX_COORD in
    let fits = subst (λ l. IsFalse (join_leaves_range (cut_by on l))) c.in_ok-repeated.ensures.geometry (c.in_ok-is_cut.ensures.fits on (back on joined _ e known.1.1)) in
    subst (λ l. IsTrue (is_arranged least greatest l)) (sym is)
    (snapped_arranged given (segments_ordered c.args.list.now.items) on known.0 known.1.1 least greatest c.requires c.in_ok-repeated.ensures.fits fits)

leaves_not : (given : List WholeSegment) → IsFalse (join_leaves_range given) → ((on : Pair → List Point) → AreSnapCuts (join given) on → IsFalse (join_leaves_range (cut_by on (join given)))) → SnapLeavesRange given → ⊥
leaves_not given fits pieces_fit (in_join h) = both_ways (join_leaves_range given) fits h
leaves_not given fits pieces_fit (in_pieces on cuts h) = both_ways (join_leaves_range (cut_by on (join given))) (pieces_fit on cuts) h

pub returns-clause-fits : goal.returns-clause-fits
returns-clause-fits g c =
    let given = segments_of c.args.list.now.items in
    let joined = join given in
    let e = c.in_ok-repeated.ensures.geometry in
    let known = of_join joined _ _ c.deref-2.ensures.value e c.in-Ok.ensures.has_cuts in
    let on = known.1.0 in
    leaves_not given c.in_ok-repeated.ensures.fits (λ on h.
    subst (λ l. IsFalse (join_leaves_range (cut_by on l))) c.in_ok-repeated.ensures.geometry (c.in_ok-is_cut.ensures.fits on (back on joined _ e h)))

pub returns-clause-few : goal.returns-clause-few
returns-clause-few g c =
    let given = segments_of c.args.list.now.items in
    let list = c.cut.new.list.items in
    subst (λ (n : ℕ). n ≤ 3 * length (chain_points (pairs (join given)))) (length-map list segment_of)
    (snapped_has_few (join given) (segments_of list) (are_ordered-join given (segments_ordered c.args.list.now.items)) (returns-clause-snapped g c))

pub returns-clause-in_box : goal.returns-clause-in_box
returns-clause-in_box g c =
    let given = segments_of c.args.list.now.items in
    let joined = join given in
    let e = c.in_ok-repeated.ensures.geometry in
    let known = of_join joined _ _ c.deref-2.ensures.value e c.in-Ok.ensures.has_cuts in
    let on = known.1.0 in
    let is : segments_of c.cut.new.list.items ≡ pass_by on joined = c.in_ok-is_cut.ensures.geometry on (back on joined _ e known.1.1) ∙ ap (λ l. pass_by on l) e in
    subst (λ l. LieInGivenBox given l) (sym is) (in_given_box given (segments_ordered c.args.list.now.items) on known.0 known.1.1)

pub returns-clause-exact_input : goal.returns-clause-exact_input
returns-clause-exact_input g c = λ exact. exact_counts (segments_of c.args.list.now.items) (segments_of c.cut.new.list.items) (segments_ordered c.args.list.now.items) exact (returns-clause-snapped g c)

pub returns-clause-exact_reach : goal.returns-clause-exact_reach
returns-clause-exact_reach g c = λ exact. returns-clause-reach g c ∙ exact_reach (segments_of c.args.list.now.items) exact

-- ---- the data

pub returns-clause-edge_data : goal.returns-clause-edge_data
returns-clause-edge_data g c =
    let given = segments_of c.args.list.now.items in
    let joined = join given in
    let hooks = hooks_of g.C.WindingCount.counted g.D.OverlayEdgeData in
    let e = c.in_ok-repeated.ensures.geometry in
    let known = of_join joined _ _ c.deref-2.ensures.value e c.in-Ok.ensures.has_cuts in
    let on = known.1.0 in
    λ on h. c.in_ok-is_cut.ensures.edge_data on (back on joined _ e h)
    ∙ ap₂ (λ l s. (data_pass_by hooks on l s).0) c.in_ok-repeated.ensures.edge_data c.in_ok-repeated.ensures.store

pub returns-clause-store : goal.returns-clause-store
returns-clause-store g c =
    let given = segments_of c.args.list.now.items in
    let joined = join given in
    let hooks = hooks_of g.C.WindingCount.counted g.D.OverlayEdgeData in
    let e = c.in_ok-repeated.ensures.geometry in
    let known = of_join joined _ _ c.deref-2.ensures.value e c.in-Ok.ensures.has_cuts in
    let on = known.1.0 in
    λ on h. c.in_ok-is_cut.ensures.store on (back on joined _ e h)
    ∙ ap₂ (λ l s. (data_pass_by hooks on l s).1) c.in_ok-repeated.ensures.edge_data c.in_ok-repeated.ensures.store

pub returns-clause-kept_data : goal.returns-clause-kept_data
returns-clause-kept_data g c = λ has keeps given_has.
    let given = segments_of c.args.list.now.items in
    let joined = join given in
    let hooks = hooks_of g.C.WindingCount.counted g.D.OverlayEdgeData in
    let e = c.in_ok-repeated.ensures.geometry in
    let known = of_join joined _ _ c.deref-2.ensures.value e c.in-Ok.ensures.has_cuts in
    let on = known.1.0 in
    let items = data_segments_of c.args.list.now.items in
    let store = c.args.store.now in
    let made = c.in_ok-is_cut.ensures.edge_data on (back on joined _ e known.1.1) ∙ ap₂ (λ l s. (data_pass_by hooks on l s).0) c.in_ok-repeated.ensures.edge_data c.in_ok-repeated.ensures.store in
    ap (list_all (λ s. has s.edge_data)) made ∙ data_cut_keeps_what_hooks_keep hooks has keeps on (data_join hooks items store).0 (data_join hooks items store).1 (join_keeps hooks items store has keeps given_has)

pub returns-clause-named_data : goal.returns-clause-named_data
returns-clause-named_data g c = λ names keeps near.
    let given = segments_of c.args.list.now.items in
    let joined = join given in
    let hooks = hooks_of g.C.WindingCount.counted g.D.OverlayEdgeData in
    let e = c.in_ok-repeated.ensures.geometry in
    let known = of_join joined _ _ c.deref-2.ensures.value e c.in-Ok.ensures.has_cuts in
    let on = known.1.0 in
    let items = data_segments_of c.args.list.now.items in
    let store = c.args.store.now in
    let bare : segments_of c.args.list.now.items ≡ without_data items = segments_of-bare c.args.list.now.items in
    let made = c.in_ok-is_cut.ensures.edge_data on (back on joined _ e known.1.1) ∙ ap₂ (λ l s. (data_pass_by hooks on l s).0) c.in_ok-repeated.ensures.edge_data c.in_ok-repeated.ensures.store in
    let beside : joined ≡ without_data (data_join hooks items store).0 = ap join bare ∙ sym (join_is_beside hooks items store) in
    let reach = reach_of_snap given in
    let near_marks = subst (λ l. MarksLieNear reach on l) beside (near_cuts given (segments_ordered c.args.list.now.items) on known.0 known.1.1) in
    subst (λ l. NameNear names reach l) (sym made)
    (subst (λ (n : ℕ). NameNear names n (data_pass_by hooks on (data_join hooks items store).0 (data_join hooks items store).1).0) (none_more reach) (data_cut_names_what_is_near hooks names keeps 0 reach on (data_join hooks items store).0 (data_join hooks items store).1 near_marks
    (join_names hooks items store names keeps (subst (λ l. IsTrue (are_ordered l)) bare (segments_ordered c.args.list.now.items)) near)))

-- ---- an arrangement

unchanged_flag : (repeated is_cut : Bool) → repeated ≡ false → is_cut ≡ false → (repeated || is_cut) ≡ false
unchanged_flag repeated is_cut e f = rw (e, f) refl

-- where no segment is cut between its ends the flag says so
no_cut_told : (given : List WholeSegment) (is_cut : Bool) → IsTrue is_cut ↔ HasCut given → (HasCut given → ⊥) → is_cut ≡ false
no_cut_told given is_cut told none = false_from_ne_true is_cut (λ h. none (told.0 h))

pub returns-clause-unchanged : goal.returns-clause-unchanged
unfolding is_arranged
returns-clause-unchanged g c = λ arranged.
    let given = segments_of c.args.list.now.items in
    let joined = join given in
    let hooks = hooks_of g.C.WindingCount.counted g.D.OverlayEdgeData in
    let e = c.in_ok-repeated.ensures.geometry in
    let known = of_join joined _ _ c.deref-2.ensures.value e c.in-Ok.ensures.has_cuts in
    let on = known.1.0 in
    let items = data_segments_of c.args.list.now.items in
    let store = c.args.store.now in
    let bare : given ≡ without_data items = segments_of-bare c.args.list.now.items in
    let parts = and_parts _ _ arranged in
    let map : IsTrue (is_map given) = (and_parts _ _ parts.0).0 in
    let same : joined ≡ given = join-map given map in
    let planar : IsTrue (is_planar joined) = subst (λ l. IsTrue (is_planar l)) (sym same) parts.1 in
    let none = none_cut joined planar on known.1.1 in
    let no_cut : HasCut (segments_of c.join_with_store.new.list.items) → ⊥ =
    λ cut. let h = subst HasCut e cut in no_cut joined planar h.0 h.1 (Has-from_Contains (pairs joined) h.0 h.2) h.3 h.4 in
    let arranged_data = join_of_arranged hooks items store (subst (λ l. IsTrue (is_map l)) bare map) (subst (λ l. IsTrue (is_planar l)) bare parts.1) in
    let unmarked = unmarked_data_cut_is_unchanged hooks on items store (subst (λ l. IsTrue (is_map l)) bare map) (subst (λ l. All (λ s. on s ≡ []) (pairs l)) (same ∙ bare) none) in
    let first = c.in_ok-is_cut.ensures.edge_data on (back on joined _ e known.1.1) ∙ ap₂ (λ l s. (data_pass_by hooks on l s).0) c.in_ok-repeated.ensures.edge_data c.in_ok-repeated.ensures.store in
    let second = c.in_ok-is_cut.ensures.store on (back on joined _ e known.1.1) ∙ ap₂ (λ l s. (data_pass_by hooks on l s).1) c.in_ok-repeated.ensures.edge_data c.in_ok-repeated.ensures.store in (
      unchanged_flag c.in_ok-repeated.repeated c.in_ok-is_cut.is_cut (c.in_ok-repeated.ensures.repeated ∙ has_equal_pairs-map given map) (no_cut_told _ c.in_ok-is_cut.is_cut c.in_ok-is_cut.ensures.cut no_cut),
      first ∙ ap (λ r. (data_pass_by hooks on r.0 r.1).0) arranged_data ∙ ap (λ r. r.0) unmarked,
      second ∙ ap (λ r. (data_pass_by hooks on r.0 r.1).1) arranged_data ∙ ap (λ r. r.1) unmarked,
    )

-- ---- the flag

told_change : (given list : List WholeSegment) (repeated is_cut : Bool) → list ≡ join given → repeated ≡ has_equal_pairs given → IsTrue is_cut ↔ HasCut list → IsTrue (repeated || is_cut) ↔ SnapChanges given
told_change given list true is_cut e same told = (λ h. inl (sym same), λ h. refl)
told_change given list false is_cut e same told = (
  λ h. inr (subst HasCut e (told.0 h)),
  λ h. ⊎_elim (λ repeats. absurd (both_ways (has_equal_pairs given) (sym same) repeats)) (λ cut. told.1 (subst HasCut (sym e) cut)) h,
)

pub returns-clause-changed : goal.returns-clause-changed
returns-clause-changed g c = told_change (segments_of c.args.list.now.items) _ c.in_ok-repeated.repeated c.in_ok-is_cut.is_cut c.in_ok-repeated.ensures.geometry c.in_ok-repeated.ensures.repeated c.in_ok-is_cut.ensures.cut
