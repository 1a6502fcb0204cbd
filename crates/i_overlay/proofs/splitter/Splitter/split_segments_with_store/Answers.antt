use Rattle.std.proofs.Common.{◌≡◌, refl, ◌∙◌, sym, ap, subst, ℕ, ◌≤◌, ◌*◌, List, length}
use Rattle.std.proofs.lemmas.List.{length-map}
use Rattle.overlay_base.specs.Join.{join}
use Rattle.overlay_base.specs.SegmentOf.{segment_of, segments_of, data_segments_of}
use Rattle.overlay_base.specs.Segments.{WholeSegment, pairs}
use Rattle.overlay_base.specs.declared.segm.fault.Fault.{Fault}
use Rattle.overlay_base.proofs.laws.joins.Views.{segments_ordered}
use Rattle.overlay_cuts.specs.Laws.{NameNear}
use Rattle.overlay_cuts.specs.Run.{Settings}
use Rattle.overlay_split.specs.SettingsOf.{settings_of, passes_of, reach_of}
use Rattle.overlay_snapping.specs.Counts.{chain_points}
use Rattle.overlay_contours.specs.Splittings.{by_passes, by_snapping}
use Rattle.overlay_contours.proofs.laws.Overlays.{refused_as}
use Rattle.i_overlay.specs.Headline.{IsSplitRefusedBy}
use Rattle.i_overlay.proofs.laws.LineData.{lines_keep_data}
use Rattle.i_overlay.proofs.laws.Splits.{split_by_passes, split_by_snapping}
use Rattle.i_overlay.proofs.splitter.Splitter.split_segments_with_store.Goals as goal

pub returns-in_err-has_changed-in-HotPixels-clause-refused : goal.returns-in_err-has_changed-in-HotPixels-clause-refused
returns-in_err-has_changed-in-HotPixels-clause-refused g c =
    let e = c.in_err-has_changed-in-HotPixels.ensures in
    let given : List WholeSegment = segments_of c.args.list.now.items in
    let left : List WholeSegment = segments_of c.split_segments_with_store.new.list.items in
    let fault : Fault = c.in_err-has_changed-in-HotPixels.field-0.0 in
    rw c.in-HotPixels.is
    (refused_as c.from_residual.result (IsSplitRefusedBy by_snapping given left) fault c.from_residual.ensures.1 (record { emptied = ap (λ l. segments_of l) e.emptied; too_large = e.refused }))

pub returns-in_ok-has_changed-in-HotPixels-clause-split : goal.returns-in_ok-has_changed-in-HotPixels-clause-split
returns-in_ok-has_changed-in-HotPixels-clause-split g c =
    let I = g.I.OverlayInt in
    let e = c.in_ok-has_changed-in-HotPixels.ensures in
    let given : List WholeSegment = segments_of c.args.list.now.items in
    let items = c.split_segments_with_store.new.list.items in
    let segments : List WholeSegment = segments_of items in
    let halves : ℕ = c.reach-self.result in
    let is = c.reach-self.ensures ∙ e.reach in
    let few : length segments ≤ 3 * length (chain_points (pairs (join given))) = subst (λ (n : ℕ). n ≤ 3 * length (chain_points (pairs (join given)))) (sym (length-map items segment_of)) e.few in
    let split = split_by_snapping given segments halves (I.whole I.MIN_COORD) (I.whole I.MAX_COORD) e.snapped e.arranged e.balance e.in_box e.near e.given_near e.winding e.exact_input few is in
    rw c.in-HotPixels.is
    (record {
      split = split;
      arranged = e.arranged;
      edge_data = (c.args.store.now, refl, e.edge_data);
      kept_data = e.kept_data;
      named_data = λ names keeps near. subst (λ (n : ℕ). NameNear names n (data_segments_of items)) (sym is) (e.named_data names keeps near);
      line_data = lines_keep_data g.D.OverlayEdgeData (λ s. s ≡ c.args.store.now) by_snapping 1 halves c.args.list.now c.split_segments_with_store.new.list (segments_ordered c.args.list.now.items) split.arrangement.left (c.args.store.now, refl, e.edge_data);
      fits = e.fits;
    })

pub returns-in_ok-has_changed-in-Pairwise-clause-split : goal.returns-in_ok-has_changed-in-Pairwise-clause-split
returns-in_ok-has_changed-in-Pairwise-clause-split g c =
    let I = g.I.OverlayInt in
    let e = c.in_ok-has_changed-in-Pairwise.ensures in
    let settings : Settings = settings_of I.BITS c.args.solver.now c.args.self.now.splitter in
    let given : List WholeSegment = segments_of c.args.list.now.items in
    let items = c.split_segments_with_store-in-Pairwise.new.list.items in
    let segments : List WholeSegment = segments_of items in
    let passes : ℕ = passes_of c.split_segments_with_store-in-Pairwise.new.self in
    let halves : ℕ = reach_of c.split_segments_with_store-in-Pairwise.new.self in
    let split = split_by_passes settings given segments passes halves _ (I.whole I.MIN_COORD) (I.whole I.MAX_COORD) e.run e.arranged e.balance e.in_box e.near e.winding e.exact_input e.bound e.reach.0 e.reach.1 e.exact_reach in
    rw (c.in-Pairwise.is, c.passes-self.ensures, c.reach-self-in-Pairwise.ensures)
    (record {
      split = split;
      arranged = e.arranged;
      edge_data = (c.args.store.now, refl, e.edge_data);
      kept_data = e.kept_data;
      named_data = λ names keeps near. subst (λ (n : ℕ). NameNear names n (data_segments_of items)) (sym e.reach.0) (e.named_data names keeps near);
      line_data = lines_keep_data g.D.OverlayEdgeData (λ s. s ≡ c.args.store.now) (by_passes settings) passes halves c.args.list.now c.split_segments_with_store-in-Pairwise.new.list (segments_ordered c.args.list.now.items) split.arrangement.left (c.args.store.now, refl, e.edge_data);
      fits = e.fits;
    })
