use Rattle.std.proofs.Common.{rules, ◌≡◌, refl, sym, ap, ap₂, ◌∙◌}
use Rattle.overlay_geometry.specs.Points.{Point, Pair}
use Rattle.overlay_base.specs.Windings.{Winding, add}
use Rattle.overlay_base.specs.EdgeData.{DataSegment, merged}
use Rattle.overlay_base.specs.HooksOf.{hooks_of}
use Rattle.overlay_geometry.specs.PairOf.{pair_of}
use Rattle.overlay_base.specs.SegmentOf.{ends_of, winding_of}
use Rattle.overlay_base.specs.declared.overlay_core.edge_data.EdgeDataMerge.{EdgeDataMerge}
use Rattle.overlay_base.proofs.segm.merge.joined.Goals as goal

abbrev merge_of : {C D : Type 0} → D → C → D → C → C → EdgeDataMerge C D
merge_of x l y r out = record { lhs_data = x; lhs_count = l; rhs_data = y; rhs_count = r; out_count = out }

-- what a data type's hook `merge` gives for two counts and their sum is what the hooks give for the windings
module _ {C D S : Type 0} (winding : C → Winding) (counted : Winding → C) (told : (c : C) → counted (winding c) ≡ c)
    (reversed_gives : D → S → D × S) (split_gives : D → Point → Point → Point → S → (D × D) × S) (merge_gives : EdgeDataMerge C D → S → D × S)
    (l r out : C) (sum : winding out ≡ add (winding l) (winding r)) (p q : Pair) (x y : D) (store : S) where
  abbrev both : DataSegment D × S
  both = merged (hooks_of counted (record { reversed_gives = reversed_gives; split_gives = split_gives; merge_gives = merge_gives })) (record { pair = p; count = winding l; edge_data = x }) (record { pair = q; count = winding r; edge_data = y }) store

  merged-counts : both ≡ (record { pair = p; count = winding out; edge_data = (merge_gives (merge_of x l y r out) store).0 }, (merge_gives (merge_of x l y r out) store).1)
  unfolding merged
  merged-counts = rw (told l, told r, ← sum, told out) refl

  module _ (l' r' : C) (x' y' : D) (el : l' ≡ l) (er : r' ≡ r) (ex : x' ≡ x) (ey : y' ≡ y) where
    same_call : merge_gives (merge_of x' l' y' r' out) store ≡ merge_gives (merge_of x l y r out) store
    same_call = λ i. merge_gives (merge_of (ex i) (el i) (ey i) (er i) out) store

    joined_data : (answer : D) → answer ≡ (merge_gives (merge_of x' l' y' r' out) store).0 → (p' : Pair) (w : Winding) (d : D) → p' ≡ p → w ≡ winding out → d ≡ answer
        → record { pair = p'; count = w; edge_data = d } ≡ both.0
    joined_data answer e p' w d ep ew ed =
        (λ i. record { pair = ep i; count = ew i; edge_data = (ed ∙ e ∙ ap (λ v. v.0) same_call) i }) ∙ ap (λ v. v.0) (sym merged-counts)

    joined_store : (left : S) → left ≡ (merge_gives (merge_of x' l' y' r' out) store).1 → left ≡ both.1
    joined_store left e = e ∙ ap (λ v. v.1) same_call ∙ ap (λ v. v.1) (sym merged-counts)

pub returns : goal.returns
returns g c =
    let l = c.count-lhs_count.ensures in
    let r = c.count-rhs_count.ensures in
    let x = c.edge_data.ensures in
    let y = c.edge_data-2.ensures in
    let kept = c.with_count_and_data.ensures in
    let sum : g.C.WindingCount.winding c.in_ok-out_count.out_count ≡ add (winding_of c.args.left) (winding_of c.args.right) =
    c.in_ok-out_count.ensures.sum ∙ ap₂ (λ a b. add (g.C.WindingCount.winding a) (g.C.WindingCount.winding b)) l r in
    record {
      value = (
        search rules,
        joined_data g.C.WindingCount.winding g.C.WindingCount.counted g.met.C.WindingCount.told g.D.OverlayEdgeData.reversed_gives g.D.OverlayEdgeData.split_gives g.D.OverlayEdgeData.merge_gives
            _ _ _ sum (ends_of c.args.left) (ends_of c.args.right) _ _ c.args.store.now _ _ _ _ l r x y _ c.merge-edge_data.ensures.answer
            _ _ _ (ap (pair_of g.I.OverlayInt.whole) kept.x_segment) (ap g.C.WindingCount.winding kept.count) kept.edge_data,
        joined_store g.C.WindingCount.winding g.C.WindingCount.counted g.met.C.WindingCount.told g.D.OverlayEdgeData.reversed_gives g.D.OverlayEdgeData.split_gives g.D.OverlayEdgeData.merge_gives
            _ _ _ sum (ends_of c.args.left) (ends_of c.args.right) _ _ c.args.store.now _ _ _ _ l r x y _ c.merge-edge_data.ensures.store,
      );
    }
