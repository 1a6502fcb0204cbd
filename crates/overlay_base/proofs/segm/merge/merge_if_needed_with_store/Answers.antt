use Rattle.std.proofs.Common.{rules, ◌≡◌, ◌<◌, ◌≤◌, ◌∙◌, length, arith, sym, refl, ap, false}
use Rattle.std.proofs.lemmas.Grind.{common_steps}
use Rattle.std.proofs.lemmas.Bool.{both_ways}
use Rattle.overlay_base.specs.Join.{join_leaves_range}
use Rattle.overlay_base.specs.HooksOf.{hooks_of}
use Rattle.overlay_base.specs.SegmentOf.{data_segment_of}
use Rattle.overlay_base.proofs.laws.joins.Merges.{IsWalked-start, IsWalked-same, IsWalked-other, IsWalked-refused, leaves_whole, AreInOrder-from, without_data-map, IsJoined-empty, IsJoined-end}
use Rattle.overlay_base.proofs.segm.merge.merge_if_needed_with_store.Goals as goal
use Rattle.overlay_base.proofs.segm.merge.merge_if_needed_with_store.Goals.{then-has_same_ends+in-Ok, else-has_same_ends}

pub loop-index-init : goal.loop-index-init
loop-index-init g c =
    let filled : 0 < length c.args.list.now.items = grind (arith, common_steps, c.args.list.now.ok.0) in
    IsWalked-start _ _ _ _ _ filled c.index.ensures

pub returns-in-Err-clause-stopped : goal.returns-in-Err-clause-stopped
returns-in-Err-clause-stopped g c =
    let w = c.loop-index.invariant in
    let within : c.loop-index.index < length c.loop-index.list.items = omega (arith, w.same_length, c.args.list.now.ok.0) in
    let same = sym c.has_same_ends.ensures ∙ c.if-has_same_ends.true in
    let o = AreInOrder-from data_segment_of c.args.list.now.items c.requires.sorted c.requires.valid in
    let stop = IsWalked-refused _ _ _ _ _ _ _ _ _ _ _ w within c.index-in-loop-index.ensures o same c.in-Err.ensures.value.1 in
    rw (c.in-Err.ensures.value.2) stop

pub returns-in-Err-clause-refused : goal.returns-in-Err-clause-refused
returns-in-Err-clause-refused g c =
    let w = c.loop-index.invariant in
    let within : c.loop-index.index < length c.loop-index.list.items = omega (arith, w.same_length, c.args.list.now.ok.0) in
    let same = sym c.has_same_ends.ensures ∙ c.if-has_same_ends.true in
    let o = AreInOrder-from data_segment_of c.args.list.now.items c.requires.sorted c.requires.valid in
    let leaves = leaves_whole _ _ _ _ _ _ _ _ _ _ _ w within c.index-in-loop-index.ensures o same c.in-Err.ensures.value.1 in
    (λ _. ap join_leaves_range (sym (without_data-map data_segment_of c.args.list.now.items)) ∙ leaves, λ _. refl)

pub returns-in-Err-clause-emptied : goal.returns-in-Err-clause-emptied
returns-in-Err-clause-emptied g c = c.clear.ensures.items

pub loop-index-preserved : goal.loop-index-preserved
loop-index-preserved g c =
    let i = c.loop-index.invariant in
    let within : c.loop-index.index < length c.loop-index.list.items = omega (arith, i.same_length, c.args.list.now.ok.0) in
    elim c.if-has_same_ends.branch [
      | then-has_same_ends+in-Ok w ↦
          let same = sym c.has_same_ends.ensures ∙ w.if-has_same_ends.true in
          let t = w.in-Ok.ensures.value in
          rw (w.list-is, w.store-is, w.held-is, w.kept-is, w.repeated-is) (IsWalked-same _ _ _ _ _ _ _ _ _ _ _ i within c.index-in-loop-index.ensures _ _ same t.0 t.1 t.2)
      | else-has_same_ends w ↦
          let same = sym c.has_same_ends.ensures ∙ w.if-has_same_ends.false in
          let k = w.keep-kept.ensures in
          rw (w.list-is, w.store-is, w.held-is, w.kept-is, w.repeated-is) (IsWalked-other _ _ _ _ _ _ _ _ _ _ _ i within c.index-in-loop-index.ensures _ _ same k.kept k.bound k.rest k.len)
    ]

pub returns-then-is_empty : goal.returns-then-is_empty
returns-then-is_empty g c =
    let none : length c.args.list.now.items ≡ 0 = grind (arith, common_steps, c.args.list.now.ok.0) in
    let j = IsJoined-empty data_segment_of (hooks_of g.C.WindingCount.counted g.D.OverlayEdgeData) c.args.list.now.items c.args.store.now none in
    record {
      geometry = j.geometry;
      edge_data = j.edge_data;
      store = j.store;
      repeated = j.repeated;
      refused = (λ h. absurd (both_ways false refl h), λ h. absurd (both_ways _ j.fits h));
      fault = search rules;
      emptied = search rules;
      stopped = search rules;
    }

pub returns : goal.returns
returns g c =
    let w = c.loop-index.invariant in
    let past : length c.loop-index.list.items ≤ c.loop-index.index = omega (arith, w.same_length, c.args.list.now.ok.0) in
    let o = AreInOrder-from data_segment_of c.args.list.now.items c.requires.sorted c.requires.valid in
    let j = IsJoined-end _ _ _ _ _ _ _ _ _ _ _ _ w past c.keep-kept-2.ensures.kept o in
    record {
      geometry = rw (c.truncate.ensures.items) j.geometry;
      edge_data = rw (c.truncate.ensures.items) j.edge_data;
      store = j.store;
      repeated = j.repeated;
      refused = (λ h. absurd (both_ways false refl h), λ h. absurd (both_ways _ j.fits h));
      fault = search rules;
      emptied = search rules;
      stopped = search rules;
    }

pub returns-in-Err-clause-geometry : goal.returns-in-Err-clause-geometry
returns-in-Err-clause-geometry g c = search rules

pub returns-in-Err-clause-edge_data : goal.returns-in-Err-clause-edge_data
returns-in-Err-clause-edge_data g c = search rules

pub returns-in-Err-clause-repeated : goal.returns-in-Err-clause-repeated
returns-in-Err-clause-repeated g c = search rules
