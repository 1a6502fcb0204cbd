use Rattle.std.proofs.Common.{refl, sym, Result, Ok, Err, OnOk, Bool}
use Rattle.std.specs.Prelude.{◌↔◌, IsTrue, IsFalse, IsErr, IfErr, OnErr}
use Rattle.std.proofs.lemmas.Bool.{false_from_ne_true}
use Rattle.std.proofs.lemmas.List.Sorted.{All-permutation}
use Rattle.overlay_base.specs.Windings.{is_valid}
use Rattle.overlay_base.specs.HooksOf.{hooks_of}
use Rattle.overlay_base.specs.SegmentOf.{segment_of, winding_of, data_segment_of}
use Rattle.overlay_base.proofs.laws.joins.SortedJoins.{join_leaves_range-sorted, join-sorted, has_equal_neighbors-moved, data-sorted, data_join-sorted}
use Rattle.overlay_base.specs.EdgeData.IsMadeFrom.{no_call}
use Rattle.overlay_base.proofs.laws.joins.Stores.{made_by_merge}
use Rattle.overlay_base.proofs.segm.join.join_in_parts_with_store.Goals as goal

pub merge_if_needed_with_store-requires-clause-valid : goal.merge_if_needed_with_store-requires-clause-valid
merge_if_needed_with_store-requires-clause-valid g c = All-permutation (λ s. IsTrue (is_valid (winding_of s))) c.args.list.now.items c.sort_by_ab_in_parts.new.list.items c.in_ok-sort_by_ab_in_parts.ensures.permutation c.requires

pub returns-clause-geometry : goal.returns-clause-geometry
returns-clause-geometry g c =
    let sorted = c.in_ok-sort_by_ab_in_parts.ensures in
    rw (sym (join-sorted segment_of c.args.list.now.items c.sort_by_ab_in_parts.new.list.items sorted.sorted sorted.permutation)) c.merge_if_needed_with_store.ensures.geometry

pub returns-clause-edge_data : goal.returns-clause-edge_data
returns-clause-edge_data g c =
    let sorted = c.in_ok-sort_by_ab_in_parts.ensures in
    let hooks = hooks_of g.C.WindingCount.counted g.D.OverlayEdgeData in
    rw (sym (data_join-sorted data_segment_of c.args.list.now.items c.sort_by_ab_in_parts.new.list.items sorted.sorted sorted.in_order hooks c.args.store.now)) c.merge_if_needed_with_store.ensures.edge_data

pub returns-clause-store : goal.returns-clause-store
returns-clause-store g c =
    let sorted = c.in_ok-sort_by_ab_in_parts.ensures in
    let hooks = hooks_of g.C.WindingCount.counted g.D.OverlayEdgeData in
    rw (sym (data_join-sorted data_segment_of c.args.list.now.items c.sort_by_ab_in_parts.new.list.items sorted.sorted sorted.in_order hooks c.args.store.now)) c.merge_if_needed_with_store.ensures.store

pub returns-clause-repeated : goal.returns-clause-repeated
returns-clause-repeated g c =
    let sorted = c.in_ok-sort_by_ab_in_parts.ensures in
    rw (sym (has_equal_neighbors-moved segment_of c.args.list.now.items c.sort_by_ab_in_parts.new.list.items sorted.sorted sorted.permutation sorted.in_order)) c.merge_if_needed_with_store.ensures.repeated

fits : {T E : Type 0} (result : Result T E) (leaves : Bool) → (IsErr result ↔ IsTrue leaves) → OnOk result (IsFalse leaves)
fits (Ok x) leaves h = false_from_ne_true leaves (λ l. let e = h.1 l in cc)
fits (Err x) leaves h = tt

pub returns-clause-fits : goal.returns-clause-fits
returns-clause-fits g c =
    let sorted = c.in_ok-sort_by_ab_in_parts.ensures in
    rw (sym (join_leaves_range-sorted segment_of c.args.list.now.items c.sort_by_ab_in_parts.new.list.items sorted.sorted sorted.permutation)) (fits c.merge_if_needed_with_store.result _ c.merge_if_needed_with_store.ensures.refused)

leaves_where : {T E : Type 0} (P : E → Type 0) (result : Result T E) (leaves : Bool) → (IsErr result ↔ IsTrue leaves) → IfErr result (λ fault. P fault → IsTrue leaves)
leaves_where P (Ok x) leaves h = tt
leaves_where P (Err x) leaves h = λ _. h.0 refl

pub returns-clause-refused : goal.returns-clause-refused
returns-clause-refused g c =
    let sorted = c.in_ok-sort_by_ab_in_parts.ensures in
    rw (sym (join_leaves_range-sorted segment_of c.args.list.now.items c.sort_by_ab_in_parts.new.list.items sorted.sorted sorted.permutation)) (leaves_where _ c.merge_if_needed_with_store.result _ c.merge_if_needed_with_store.ensures.refused)

on_error : {T E : Type 0} (P : E → Type 0) (Q : Type 0) (result : Result T E) → OnErr result Q → IfErr result (λ fault. P fault → Q)
on_error P Q (Ok x) h = tt
on_error P Q (Err x) h = λ _. h

pub returns-clause-stopped : goal.returns-clause-stopped
returns-clause-stopped g c =
    let sorted = c.in_ok-sort_by_ab_in_parts.ensures in
    rw (sym (data-sorted data_segment_of c.args.list.now.items c.sort_by_ab_in_parts.new.list.items sorted.sorted sorted.in_order)) (on_error _ _ c.merge_if_needed_with_store.result c.merge_if_needed_with_store.ensures.stopped)

pub returns-in_err-sort_by_ab_in_parts-clause-store_made : goal.returns-in_err-sort_by_ab_in_parts-clause-store_made
returns-in_err-sort_by_ab_in_parts-clause-store_made g c = no_call

pub returns-clause-store_made : goal.returns-clause-store_made
returns-clause-store_made g c =
    made_by_merge _ c.merge_if_needed_with_store.result _ _ _ c.merge_if_needed_with_store.ensures.store c.merge_if_needed_with_store.ensures.stopped
