use Rattle.std.proofs.Common.{◌≡◌, ◌==◌, ◌∙◌, true, sym, ap, subst, IsTrue, IsFalse, List, [], rules}
use Rattle.std.specs.List.{AllByRecursion}
use Rattle.overlay_geometry.specs.Points.{Point, Pair}
use Rattle.overlay_base.specs.EdgeData.{data_join, without_data, IsRefusedJoin}
use Rattle.overlay_base.specs.EdgeData.IsMadeFrom.{no_call}
use Rattle.overlay_base.specs.HooksOf.{hooks_of}
use Rattle.overlay_base.specs.Join.{join_leaves_range}
use Rattle.overlay_base.specs.SegmentOf.{segments_of, data_segments_of}
use Rattle.overlay_base.specs.Segments.{WholeSegment, is_map}
use Rattle.overlay_base.specs.declared.segm.fault.Fault.TheVariants.{CountOutOfRange}
use Rattle.overlay_base.specs.declared.segm.segment.Segment.{Segment}
use Rattle.overlay_base.proofs.laws.joins.Stores.{made_further}
use Rattle.overlay_base.proofs.laws.joins.Views.{segments_of-bare}
use Rattle.overlay_intersections.specs.MarkOf.{marks_of}
use Rattle.overlay_intersections.specs.declared.split.line_mark.LineMark.{LineMark}
use Rattle.overlay_cuts.specs.CutOf.{AreMarksBy, PiecesLeaveRangeAt, StopsPassAt}
use Rattle.overlay_cuts.specs.DataPass.{data_cut_by, data_pass_by}
use Rattle.overlay_cuts.specs.Pass.{cut_by, pass_by}
use Rattle.overlay_cuts.proofs.laws.passes.DataPasses.{is_nil, bare-data_pass_by, data_cut-unmarked, data_pass_by-unmarked}
use Rattle.overlay_cuts.proofs.laws.passes.Ready.{are_valid-cut, cut_as_segments, none_on_each}
use Rattle.overlay_cuts.proofs.laws.passes.Skips.{map_fits}
use Rattle.overlay_cuts.proofs.laws.passes.Refusals.{refused_by}
use Rattle.overlay_cuts.proofs.split.pass.pass_at.Goals as goal

-- ---- a list without marks stays

none_named : (g : _) (c : goal.After-drop-marks g) (on : Pair → List Point) → AreMarksBy on (segments_of c.args.list.now.items) (marks_of g.I.OverlayInt.whole c.args.marks.items) → AllByRecursion (λ s. on s.pair ≡ []) (data_segments_of c.args.list.now.items)
none_named g c on are =
    let whole = g.I.OverlayInt.whole in
    none_on_each c.args.list.now.items on (marks_of whole c.args.marks.items) (ap (marks_of whole) (is_nil c.args.marks.items (subst (λ n. (n == 0) ≡ true) c.args.marks.ok.0 (sym c.is_empty.ensures ∙ c.if-is_empty.true)))) are

stays : (g : _) (c : goal.After-drop-marks g) (on : Pair → List Point) → AreMarksBy on (segments_of c.args.list.now.items) (marks_of g.I.OverlayInt.whole c.args.marks.items) →
    data_pass_by (hooks_of g.C.WindingCount.counted g.D.OverlayEdgeData) on (data_segments_of c.args.list.now.items) c.args.store.now ≡ (data_segments_of c.args.list.now.items, c.args.store.now)
stays g c on are =
    let items = c.args.list.now.items in
    data_pass_by-unmarked (hooks_of g.C.WindingCount.counted g.D.OverlayEdgeData) on (data_segments_of items) c.args.store.now (subst (λ s. IsTrue (is_map s)) (segments_of-bare items) c.requires.map) (none_named g c on are)

pub returns-then-is_empty-clause-geometry : goal.returns-then-is_empty-clause-geometry
returns-then-is_empty-clause-geometry g c = λ on are.
    let items = c.args.list.now.items in
    segments_of-bare items ∙ sym (ap (λ v. without_data v.0) (stays g c on are)) ∙ bare-data_pass_by (hooks_of g.C.WindingCount.counted g.D.OverlayEdgeData) on (data_segments_of items) c.args.store.now ∙ ap (pass_by on) (sym (segments_of-bare items))

pub returns-then-is_empty-clause-edge_data : goal.returns-then-is_empty-clause-edge_data
returns-then-is_empty-clause-edge_data g c = λ on are. sym (ap (λ v. v.0) (stays g c on are))

pub returns-then-is_empty-clause-store : goal.returns-then-is_empty-clause-store
returns-then-is_empty-clause-store g c = λ on are. sym (ap (λ v. v.1) (stays g c on are))

pub returns-then-is_empty-clause-fits : goal.returns-then-is_empty-clause-fits
returns-then-is_empty-clause-fits g c = λ on are.
    let hooks = hooks_of g.C.WindingCount.counted g.D.OverlayEdgeData in
    let items = c.args.list.now.items in
    let map = subst (λ s. IsTrue (is_map s)) (segments_of-bare items) c.requires.map in
    let cut = data_cut-unmarked hooks on (data_segments_of items) c.args.store.now map (none_named g c on are) in
    let pieces : segments_of items ≡ cut_by on (segments_of items) = cut_as_segments hooks on items items c.args.store.now (sym (ap (λ v. v.0) cut)) in
    subst (λ (l : List WholeSegment). IsFalse (join_leaves_range l)) pieces (map_fits _ _ (segments_of items) c.requires.splittable c.requires.map)

pub returns-then-is_empty-clause-store_made : goal.returns-then-is_empty-clause-store_made
returns-then-is_empty-clause-store_made g c = no_call

-- ---- the pieces, joined

-- what names the marks of a list names those of its slice
sliced : {C I D : Type 0} {m : _} {w : _} {o : _} {e : _} {p : _} (items : List (Segment C I D m w o e p)) (on : Pair → List Point) (slice marks : List (LineMark I)) → slice ≡ marks → AreMarksBy on (segments_of items) (marks_of w.whole marks) → AreMarksBy on (segments_of items) (marks_of w.whole slice)
sliced {w = w} items on slice marks e are = subst (λ l. AreMarksBy on (segments_of items) (marks_of w.whole l)) (sym e) are

pub cut_at-requires-clause-splittable : goal.cut_at-requires-clause-splittable
cut_at-requires-clause-splittable g c = c.requires.splittable

pub cut_at-requires-clause-marks : goal.cut_at-requires-clause-marks
cut_at-requires-clause-marks g c = rw (c.as_slice.ensures.value) c.requires.marks

pub join_in_parts_with_store-requires : goal.join_in_parts_with_store-requires
join_in_parts_with_store-requires g c =
    let hooks = hooks_of g.C.WindingCount.counted g.D.OverlayEdgeData in
    let marks = c.requires.marks in
    are_valid-cut hooks marks.on c.args.list.now.items c.cut_at.new.list.items c.args.store.now (c.in_default.ensures.edge_data marks.on (sliced c.args.list.now.items marks.on _ _ c.as_slice.ensures.value marks.are)) _ _ c.requires.splittable

pub returns-in_err-join_in_parts_with_store-clause-refused : goal.returns-in_err-join_in_parts_with_store-clause-refused
returns-in_err-join_in_parts_with_store-clause-refused g c =
    let hooks = hooks_of g.C.WindingCount.counted g.D.OverlayEdgeData in
    let items = c.args.list.now.items in
    let leaves : c.in_err-join_in_parts_with_store.field-0.0 ≡ CountOutOfRange → PiecesLeaveRangeAt c.args.marks.items items =
    λ e on are. subst (λ (l : List WholeSegment). IsTrue (join_leaves_range l)) (cut_as_segments hooks on items c.cut_at.new.list.items c.args.store.now (c.in_default.ensures.edge_data on (sliced items on _ _ c.as_slice.ensures.value are))) (c.in_err-join_in_parts_with_store.ensures.refused e) in
    refused_by c.from_residual.result c.in_err-join_in_parts_with_store.field-0.0 _ c.from_residual.ensures.1 leaves

pub returns-in_err-join_in_parts_with_store-clause-stopped : goal.returns-in_err-join_in_parts_with_store-clause-stopped
returns-in_err-join_in_parts_with_store-clause-stopped g c =
    let hooks = hooks_of g.C.WindingCount.counted g.D.OverlayEdgeData in
    let given = c.args.list.now.items in
    let items = data_segments_of given in
    let left = c.join_in_parts_with_store.new.store in
    let stops : c.in_err-join_in_parts_with_store.field-0.0 ≡ CountOutOfRange → StopsPassAt g.D.OverlayEdgeData c.args.marks.items c.args.list.now c.args.store.now left =
    λ e on are.
    let pieces = data_cut_by hooks on items c.args.store.now in
    subst (λ s. IsRefusedJoin hooks pieces.0 s left) (c.in_default.ensures.store on (sliced given on _ _ c.as_slice.ensures.value are))
    (subst (λ l. IsRefusedJoin hooks l c.cut_at.new.store left) (c.in_default.ensures.edge_data on (sliced given on _ _ c.as_slice.ensures.value are)) (c.in_err-join_in_parts_with_store.ensures.stopped e)) in
    refused_by c.from_residual.result c.in_err-join_in_parts_with_store.field-0.0 _ c.from_residual.ensures.1 stops

pub returns-in_err-join_in_parts_with_store-clause-store_made : goal.returns-in_err-join_in_parts_with_store-clause-store_made
returns-in_err-join_in_parts_with_store-clause-store_made g c =
    made_further (hooks_of g.C.WindingCount.counted g.D.OverlayEdgeData) c.in_default.ensures.store_made c.in_err-join_in_parts_with_store.ensures.store_made

-- what is joined is what the cut leaves
joined : (g : _) (c : goal.After-drop-places-2 g) (on : Pair → List Point) → AreMarksBy on (segments_of c.args.list.now.items) (marks_of g.I.OverlayInt.whole c.args.marks.items) →
    (data_segments_of c.join_in_parts_with_store.new.list.items, c.join_in_parts_with_store.new.store) ≡ data_pass_by (hooks_of g.C.WindingCount.counted g.D.OverlayEdgeData) on (data_segments_of c.args.list.now.items) c.args.store.now
joined g c on are =
    let hooks = hooks_of g.C.WindingCount.counted g.D.OverlayEdgeData in
    let made : (data_segments_of c.join_in_parts_with_store.new.list.items, c.join_in_parts_with_store.new.store) ≡ data_join hooks (data_segments_of c.cut_at.new.list.items) c.cut_at.new.store =
    λ i. (c.in_ok-join_in_parts_with_store.ensures.edge_data i, c.in_ok-join_in_parts_with_store.ensures.store i) in
    made ∙ (λ i. data_join hooks (c.in_default.ensures.edge_data on (sliced c.args.list.now.items on _ _ c.as_slice.ensures.value are) i) (c.in_default.ensures.store on (sliced c.args.list.now.items on _ _ c.as_slice.ensures.value are) i))

pub returns-clause-geometry : goal.returns-clause-geometry
returns-clause-geometry g c = λ on are.
    let items = c.args.list.now.items in
    segments_of-bare c.join_in_parts_with_store.new.list.items ∙ ap (λ v. without_data v.0) (joined g c on are) ∙ bare-data_pass_by (hooks_of g.C.WindingCount.counted g.D.OverlayEdgeData) on (data_segments_of items) c.args.store.now ∙ ap (pass_by on) (sym (segments_of-bare items))

pub returns-clause-edge_data : goal.returns-clause-edge_data
returns-clause-edge_data g c = λ on are. ap (λ v. v.0) (joined g c on are)

pub returns-clause-store : goal.returns-clause-store
returns-clause-store g c = λ on are. ap (λ v. v.1) (joined g c on are)

pub returns-clause-fits : goal.returns-clause-fits
returns-clause-fits g c = λ on are.
    let hooks = hooks_of g.C.WindingCount.counted g.D.OverlayEdgeData in
    let items = c.args.list.now.items in
    subst (λ (l : List WholeSegment). IsFalse (join_leaves_range l)) (cut_as_segments hooks on items c.cut_at.new.list.items c.args.store.now (c.in_default.ensures.edge_data on (sliced items on _ _ c.as_slice.ensures.value are))) c.in_ok-join_in_parts_with_store.ensures.fits

pub returns-clause-store_made : goal.returns-clause-store_made
returns-clause-store_made g c =
    made_further (hooks_of g.C.WindingCount.counted g.D.OverlayEdgeData) c.in_default.ensures.store_made c.in_ok-join_in_parts_with_store.ensures.store_made

pub returns-in_default-part_places-clause-refused : goal.returns-in_default-part_places-clause-refused
returns-in_default-part_places-clause-refused g c = search rules

pub returns-in_default-part_places-clause-stopped : goal.returns-in_default-part_places-clause-stopped
returns-in_default-part_places-clause-stopped g c = search rules
