use Rattle.std.proofs.Common.{◌≡◌, ◌∙◌, refl, map, ap, sym, subst, if◌then◌else◌, ℕ, ◌<◌, ◌-◌, ◌∷◌, [], append_assoc, ◌++◌, length, length-append, get_or, List, arith}
use Rattle.std.proofs.lemmas.List.{get_or-map, length-map}
use Rattle.std.proofs.lemmas.Result.{IfOk-from_err}
use Rattle.std.specs.List.Sorted.{IsStableByKey}
use Rattle.overlay_geometry.specs.Points.{Pair, Point, point_cmp}
use Rattle.overlay_geometry.specs.Sorting.{stably_sorted}
use Rattle.overlay_geometry.proofs.laws.geometry.Points.{point_cmp_total}
use Rattle.overlay_base.proofs.laws.lists.StableSorts.{stably_sorted-same}
use Rattle.std.specs.Prelude.{All, ℤ}
use Rattle.overlay_base.specs.declared.overlay_core.link.OverlayLink.{OverlayLink}
use Rattle.overlay_build.specs.declared.build.link_ends.PackedEnd.{PackedEnd}
use Rattle.overlay_build.specs.steps.EndOf.{WholeEnd, unpacked, end_of, ends_of}
use Rattle.overlay_build.specs.steps.LinkEnds.{numbered_starts, numbered_ends}
use Rattle.overlay_build.specs.steps.LinksOf.{IsKeyAt, starts_of, indexes_between}
use Rattle.overlay_build.specs.GraphOf.{link_of, pairs_of_links, names_node, with_start, with_end}
use Rattle.overlay_build.proofs.laws.graphs.NodeLists.{length-ends, length-starts}
use Rattle.overlay_build.proofs.laws.graphs.NodeSteps.{sorted_ends_of, indexes_within}
use Rattle.overlay_build.proofs.laws.graphs.ConnectedLinks.{same_pairs, stay_in_range, fewer_left, same_data}
use Rattle.overlay_build.proofs.laws.graphs.LaidNodes.{own, any, laid_none, found_next, laid_next, holds_lists}
use Rattle.overlay_build.proofs.build.connect_links.connect_links.Goals as goal

-- the second ends, once sorted, are those of the given links
all_sorted : {I D : Type 0} (whole : I → ℤ) (given seen : List (OverlayLink I D)) (collected ends : List PackedEnd) → seen ≡ given
    → IsStableByKey (λ (e : WholeEnd). e.point) point_cmp (numbered_ends (pairs_of_links whole seen)) (ends_of collected)
    → ends_of ends ≡ stably_sorted (λ e f. point_cmp e.point f.point) (ends_of collected) → ends_of ends ≡ sorted_ends_of (pairs_of_links whole given)
all_sorted whole given seen collected ends same stable sorted =
    sorted
    ∙ stably_sorted-same (λ (e : WholeEnd). e.point) point_cmp point_cmp_total (numbered_ends (pairs_of_links whole seen)) (ends_of collected) stable
    ∙ ap (λ links. sorted_ends_of (pairs_of_links whole links)) same

-- and each has the index of a given link
packed_within : (pairs : List Pair) (ends : List PackedEnd) → ends_of ends ≡ sorted_ends_of pairs → All (λ (e : PackedEnd). e.index < length pairs) ends
packed_within pairs ends sorted k d h =
    let within : k < length (ends_of ends) = rw length-ends h in
    let its : All (λ (e : WholeEnd). e.index < length pairs) (ends_of ends) = subst (All (λ (e : WholeEnd). e.index < length pairs)) (sym sorted) (indexes_within pairs) in
    subst (λ (e : WholeEnd). e.index < length pairs) (get_or-map end_of ends k d (end_of d) h) (its k (end_of d) within)

-- ---- the results

pub loop-key-init : goal.loop-key-init
loop-key-init g c =
    let whole = g.L.Coordinate.OverlayInt.whole in
    rw (c.links_left-left.ensures.from, c.reserve.ensures.items ∙ c.clear.ensures.items, c.reserve-2.ensures.items ∙ c.clear-2.ensures.items)
    (record { laid = laid_none whole (map g.L.NumberedLink.link c.args.links.now); key = c.links_left-left.ensures.key })

pub number_starts-requires-clause-start : goal.number_starts-requires-clause-start
number_starts-requires-clause-start g c =
    let up = c.loop-key.invariant.laid.up in
    let within = up.firsts.within in
    let as_many = up.as_many in
    let all = length-starts g.L.Coordinate.OverlayInt.whole (map g.L.NumberedLink.link c.args.links.now) in
    let seen = length-map c.loop-key.links g.L.NumberedLink.link in
    omega (arith, within, as_many, all, seen)

pub number_starts-requires-clause-in_range : goal.number_starts-requires-clause-in_range
number_starts-requires-clause-in_range g c =
    let at = c.loop-key.invariant.laid in
    stay_in_range own any g.L.Coordinate.OverlayInt.whole (map g.L.NumberedLink.link c.args.links.now) c.loop-key.left.from c.loop-key.end at.lists (map g.L.NumberedLink.link c.loop-key.links) at.up _ _ _ refl c.requires.in_range

pub number_ends-requires-clause-end : goal.number_ends-requires-clause-end
number_ends-requires-clause-end g c =
    let sorted = all_sorted g.L.Coordinate.OverlayInt.whole (map g.L.NumberedLink.link c.args.links.now) _ _ _ refl c.in_ok-collect_ends.ensures.ends c.in_ok-sort_by_point.ensures.sorted in
    let within = c.loop-key.invariant.laid.up.seconds.within in
    let as_long = length-ends c.sort_by_point.new.ends.items in
    let all = ap length sorted in
    rw c.deref-in-Some.ensures.value (omega (arith, within, as_long, all))

pub number_ends-requires-clause-within : goal.number_ends-requires-clause-within
number_ends-requires-clause-within g c =
    let whole = g.L.Coordinate.OverlayInt.whole in
    let given : List (OverlayLink g.row.L-Coordinate.Denot g.row.L-Data.Denot) = map g.L.NumberedLink.link c.args.links.now in
    let sorted = all_sorted whole given _ _ _ refl c.in_ok-collect_ends.ensures.ends c.in_ok-sort_by_point.ensures.sorted in
    let few : length c.number_starts.new.links ≡ length (pairs_of_links whole given) =
    c.number_starts.ensures.length ∙ sym (length-map c.loop-key.links g.L.NumberedLink.link) ∙ c.loop-key.invariant.laid.up.as_many ∙ sym (length-map given (λ l. (link_of whole l).pair)) in
    rw (c.deref-in-Some.ensures.value, few) (packed_within (pairs_of_links whole given) c.sort_by_point.new.ends.items sorted)

pub loop-key-preserved : goal.loop-key-preserved
loop-key-preserved g c =
    let whole = g.L.Coordinate.OverlayInt.whole in
    let at = c.loop-key.invariant.laid in
    let p : Point = unpacked c.in-Some.key in
    let old : List (OverlayLink g.row.L-Coordinate.Denot g.row.L-Data.Denot) = (map g.L.NumberedLink.link c.loop-key.links) in
    let sorted = all_sorted whole (map g.L.NumberedLink.link c.args.links.now) _ _ _ refl c.in_ok-collect_ends.ensures.ends c.in_ok-sort_by_point.ensures.sorted in
    let its = found_next whole (map g.L.NumberedLink.link c.args.links.now) c.requires.sorted c.loop-key.left.from c.loop-key.end old c.loop-key.degrees.items c.loop-key.indexes.items at c.sort_by_point.new.ends.items sorted
    _ _ _ _ p c.in_ok-left.left.from c.in_ok-end.end refl refl c.deref.ensures.value c.deref-in-Some.ensures.value (c.in-Some.ensures.point (starts_of whole (map g.L.NumberedLink.link c.loop-key.links)) c.loop-key.left.from c.loop-key.invariant.key) c.in_ok-left.ensures.run c.in_ok-end.ensures.run in
    let firsts : List ℕ = indexes_between (starts_of whole old) c.loop-key.left.from c.in_ok-left.left.from in
    let seconds : List ℕ = indexes_between (ends_of c.deref-in-Some.result.now) c.loop-key.end c.in_ok-end.end in
    let list : List ℕ = firsts ++ seconds in
    let behind : c.number_ends.new.indexes.items ≡ c.loop-key.indexes.items ++ list =
    c.in_ok-end.ensures.indexes ∙ ap (λ (l : List ℕ). l ++ seconds) c.in_ok-left.ensures.indexes ∙ append_assoc c.loop-key.indexes.items firsts seconds in
    let first : c.len-first.result ≡ length c.loop-key.indexes.items = c.len-first.ensures ∙ c.loop-key.indexes.ok.0 in
    let counted : c.len-id.result ≡ length c.loop-key.degrees.items = c.len-id.ensures ∙ c.loop-key.degrees.ok.0 in
    let with_starts : List (OverlayLink g.row.L-Coordinate.Denot g.row.L-Data.Denot) = map g.L.NumberedLink.link c.number_starts.new.links in
    let more : List (OverlayLink g.row.L-Coordinate.Denot g.row.L-Data.Denot) = map g.L.NumberedLink.link c.number_ends.new.links in
    let many_starts : length with_starts ≡ length old = length-map c.number_starts.new.links g.L.NumberedLink.link ∙ c.number_starts.ensures.length ∙ sym (length-map c.loop-key.links g.L.NumberedLink.link) in
    let as_many : length more ≡ length with_starts = length-map c.number_ends.new.links g.L.NumberedLink.link ∙ c.number_ends.ensures.length ∙ sym (length-map c.number_starts.new.links g.L.NumberedLink.link) in
    let last : c.len.result - c.len-first.result ≡ length list =
    (let all = c.len.ensures ∙ c.number_ends.new.indexes.ok.0 ∙ ap length behind ∙ length-append c.loop-key.indexes.items list in omega (arith, all, first)) in
    let laid = laid_next whole (map g.L.NumberedLink.link c.args.links.now) c.requires.sorted c.loop-key.left.from c.loop-key.end old c.loop-key.degrees.items c.loop-key.indexes.items at c.in_ok-left.left.from c.in_ok-end.end p firsts seconds with_starts more _ _ its many_starts as_many
    (λ k d h. c.in_ok-left.ensures.links k d h ∙ ap (λ n. if names_node k firsts then with_start n (get_or old k d) else get_or old k d) counted)
    (λ k d h. c.in_ok-end.ensures.links k d h ∙ ap (λ n. if names_node k seconds then with_end n (get_or with_starts k d) else get_or with_starts k d) counted)
    (c.in_ok-push.ensures.items ∙ ap (λ n. c.loop-key.degrees.items ++ n ∷ []) last) behind in
    record {
      laid = laid;
      key = subst (λ (s : List WholeEnd). IsKeyAt s c.in_ok-left.left.from c.in_ok-left.left.key)
          (ap numbered_starts (same_pairs own any whole (map g.L.NumberedLink.link c.args.links.now) c.loop-key.left.from c.loop-key.end at.lists old at.up
          ∙ sym (same_pairs own any whole (map g.L.NumberedLink.link c.args.links.now) c.in_ok-left.left.from c.in_ok-end.end laid.lists more laid.up)))
          c.in_ok-left.ensures.left;
    }

pub loop-key-smaller : goal.loop-key-smaller
loop-key-smaller g c =
    let whole = g.L.Coordinate.OverlayInt.whole in
    let at = c.loop-key.invariant.laid in
    let pairs : List Pair = pairs_of_links whole (map g.L.NumberedLink.link c.args.links.now) in
    let p : Point = unpacked c.in-Some.key in
    let sorted = all_sorted whole (map g.L.NumberedLink.link c.args.links.now) _ _ _ refl c.in_ok-collect_ends.ensures.ends c.in_ok-sort_by_point.ensures.sorted in
    let its = found_next whole (map g.L.NumberedLink.link c.args.links.now) c.requires.sorted c.loop-key.left.from c.loop-key.end (map g.L.NumberedLink.link c.loop-key.links) c.loop-key.degrees.items c.loop-key.indexes.items at c.sort_by_point.new.ends.items sorted
    _ _ _ _ p c.in_ok-left.left.from c.in_ok-end.end refl refl c.deref.ensures.value c.deref-in-Some.ensures.value (c.in-Some.ensures.point (starts_of whole (map g.L.NumberedLink.link c.loop-key.links)) c.loop-key.left.from c.loop-key.invariant.key) c.in_ok-left.ensures.run c.in_ok-end.ensures.run in
    let old : List (OverlayLink g.row.L-Coordinate.Denot g.row.L-Data.Denot) = map g.L.NumberedLink.link c.loop-key.links in
    let kept : length (map g.L.NumberedLink.link c.number_ends.new.links) ≡ length old = length-map c.number_ends.new.links g.L.NumberedLink.link ∙ c.number_ends.ensures.length ∙ c.number_starts.ensures.length ∙ sym (length-map c.loop-key.links g.L.NumberedLink.link) in
    rw kept
    (fewer_left pairs c.loop-key.left.from c.loop-key.end c.in_ok-left.left.from c.in_ok-end.end (length old) (length c.sort_by_point.new.ends.items) p _ _ its
    (length-starts whole (map g.L.NumberedLink.link c.args.links.now) ∙ sym at.up.as_many) (sym (ap length sorted) ∙ length-ends c.sort_by_point.new.ends.items))

pub returns-clause-graph : goal.returns-clause-graph
returns-clause-graph g c =
    let whole = g.L.Coordinate.OverlayInt.whole in
    let at = c.loop-key.invariant.laid in
    let sorted = all_sorted whole (map g.L.NumberedLink.link c.args.links.now) _ _ _ refl c.in_ok-collect_ends.ensures.ends c.in_ok-sort_by_point.ensures.sorted in
    let over = c.in_default.ensures.none in
    let starts_over = c.loop-key.invariant.key.over over.0 in
    let ends_over = over.1 in
    let seen = length-starts whole (map g.L.NumberedLink.link c.loop-key.links) in
    let as_many = at.up.as_many in
    let all = length-starts whole (map g.L.NumberedLink.link c.args.links.now) in
    let seen_ends = ap length c.deref.ensures.value in
    let as_long = length-ends c.sort_by_point.new.ends.items in
    let all_ends = ap length sorted in
    holds_lists whole (map g.L.NumberedLink.link c.args.links.now) c.loop-key.left.from c.loop-key.end (map g.L.NumberedLink.link c.loop-key.links) c.loop-key.degrees.items c.loop-key.indexes.items at (omega (arith, starts_over, seen, as_many, all)) (omega (arith, ends_over, seen_ends, as_long, all_ends))

pub returns-clause-edge_data : goal.returns-clause-edge_data
returns-clause-edge_data g c =
    let at = c.loop-key.invariant.laid in
    same_data own any g.L.Coordinate.OverlayInt.whole (map g.L.NumberedLink.link c.args.links.now) c.loop-key.left.from c.loop-key.end at.lists (map g.L.NumberedLink.link c.loop-key.links) at.up

pub returns-in_err-collect_ends-clause-graph : goal.returns-in_err-collect_ends-clause-graph
returns-in_err-collect_ends-clause-graph g c = IfOk-from_err c.from_residual.result _ c.from_residual.ensures.0

pub returns-in_err-collect_ends-clause-edge_data : goal.returns-in_err-collect_ends-clause-edge_data
returns-in_err-collect_ends-clause-edge_data g c = IfOk-from_err c.from_residual.result _ c.from_residual.ensures.0

pub returns-in_err-sort_by_point-clause-graph : goal.returns-in_err-sort_by_point-clause-graph
returns-in_err-sort_by_point-clause-graph g c = IfOk-from_err c.from_residual-in_err-sort_by_point.result _ c.from_residual-in_err-sort_by_point.ensures.0

pub returns-in_err-sort_by_point-clause-edge_data : goal.returns-in_err-sort_by_point-clause-edge_data
returns-in_err-sort_by_point-clause-edge_data g c = IfOk-from_err c.from_residual-in_err-sort_by_point.result _ c.from_residual-in_err-sort_by_point.ensures.0

pub returns-in_err-reserve-clause-graph : goal.returns-in_err-reserve-clause-graph
returns-in_err-reserve-clause-graph g c = IfOk-from_err c.from_residual-in_err-reserve.result _ c.from_residual-in_err-reserve.ensures.0

pub returns-in_err-reserve-clause-edge_data : goal.returns-in_err-reserve-clause-edge_data
returns-in_err-reserve-clause-edge_data g c = IfOk-from_err c.from_residual-in_err-reserve.result _ c.from_residual-in_err-reserve.ensures.0

pub returns-in_err-reserve-2-clause-graph : goal.returns-in_err-reserve-2-clause-graph
returns-in_err-reserve-2-clause-graph g c = IfOk-from_err c.from_residual-in_err-reserve-2.result _ c.from_residual-in_err-reserve-2.ensures.0

pub returns-in_err-reserve-2-clause-edge_data : goal.returns-in_err-reserve-2-clause-edge_data
returns-in_err-reserve-2-clause-edge_data g c = IfOk-from_err c.from_residual-in_err-reserve-2.result _ c.from_residual-in_err-reserve-2.ensures.0

pub returns-in_err-left-clause-graph : goal.returns-in_err-left-clause-graph
returns-in_err-left-clause-graph g c = IfOk-from_err c.from_residual-in_err-left.result _ c.from_residual-in_err-left.ensures.0

pub returns-in_err-left-clause-edge_data : goal.returns-in_err-left-clause-edge_data
returns-in_err-left-clause-edge_data g c = IfOk-from_err c.from_residual-in_err-left.result _ c.from_residual-in_err-left.ensures.0

pub returns-in_err-end-clause-graph : goal.returns-in_err-end-clause-graph
returns-in_err-end-clause-graph g c = IfOk-from_err c.from_residual-in_err-end.result _ c.from_residual-in_err-end.ensures.0

pub returns-in_err-end-clause-edge_data : goal.returns-in_err-end-clause-edge_data
returns-in_err-end-clause-edge_data g c = IfOk-from_err c.from_residual-in_err-end.result _ c.from_residual-in_err-end.ensures.0

pub returns-in_err-push-clause-graph : goal.returns-in_err-push-clause-graph
returns-in_err-push-clause-graph g c = IfOk-from_err c.from_residual-in_err-push.result _ c.from_residual-in_err-push.ensures.0

pub returns-in_err-push-clause-edge_data : goal.returns-in_err-push-clause-edge_data
returns-in_err-push-clause-edge_data g c = IfOk-from_err c.from_residual-in_err-push.result _ c.from_residual-in_err-push.ensures.0
