-- Pieces without equal pairs and without empty counts have the pairs of their join, which is resolved as they are.
use Rattle.std.proofs.Common.{◌≡◌, ◌∙◌, sym, ap, subst, inl, inr, true, false, IsTrue, IsFalse, List, [], ◌∷◌}
use Rattle.std.specs.List.{list_any}
use Rattle.std.proofs.lemmas.Bool.{or_parts}
use Rattle.overlay_geometry.specs.Points.{Point, Pair, pair_eq}
use Rattle.overlay_geometry.specs.Sorting.{has_repeat}
use Rattle.overlay_geometry.proofs.laws.geometry.Points.{same_pair_by_eq}
use Rattle.overlay_geometry.proofs.laws.lists.Lists.{Has, Has-map, Has-map_out, Has-flat_map, Has-from_list_any, list_any-at}
use Rattle.overlay_geometry.proofs.laws.lists.Elements.{Contains-from_Has, Has-from_Contains, Has-flat_map_out}
use Rattle.overlay_base.specs.Join.{join, has_equal_pairs}
use Rattle.overlay_base.specs.Windings.{add, is_not_empty}
use Rattle.overlay_base.specs.Segments.{WholeSegment, pairs, ends, winding_at}
use Rattle.overlay_base.proofs.laws.counts.Windings.{add-empty}
use Rattle.overlay_base.proofs.laws.geometry.Pairs.{holds}
use Rattle.overlay_base.proofs.laws.joins.Bags.{winding_at-here, winding_at-other, winding_at-absent}
use Rattle.overlay_base.proofs.laws.joins.Members.{holds-join}
use Rattle.overlay_cuts.proofs.laws.planar.ExactInputs.{In-join, count_along-join}
use Rattle.overlay_snapping.specs.steps.Resolved.{AreResolved}

-- a count whose pair no other has is the winding there
own_winding : (xs : List WholeSegment) → has_equal_pairs xs ≡ false → (s : WholeSegment) → Has xs s → winding_at xs s.pair ≡ s.count
unfolding has_repeat
own_winding [] h s i = absurd i
own_winding (x ∷ xs) h s (inl same) =
    let parts = or_parts (list_any (λ y. pair_eq x.pair y) (pairs xs)) _ h in
    subst (λ (z : WholeSegment). winding_at (x ∷ xs) z.pair ≡ z.count) same
    (winding_at-here x xs ∙ ap (add x.count) (winding_at-absent xs x.pair parts.0) ∙ add-empty x.count)
own_winding (x ∷ xs) h s (inr i) =
    let parts = or_parts (list_any (λ y. pair_eq x.pair y) (pairs xs)) _ h in
    winding_at-other x xs s.pair (list_any-at (λ y. pair_eq x.pair y) (pairs xs) s.pair parts.0 (Has-map (λ (u : WholeSegment). u.pair) xs s i)) ∙ own_winding xs parts.1 s i

module _ (pieces : List WholeSegment) (once : IsFalse (has_equal_pairs pieces)) (filled : (s : WholeSegment) → Has pieces s → IsTrue (is_not_empty s.count)) where
  pair_kept : (t : Pair) → Has (pairs pieces) t → Has (pairs (join pieces)) t
  pair_kept t i =
      let s = Has-map_out (λ (u : WholeSegment). u.pair) pieces t i in
      let there : holds (pairs (join pieces)) s.0.pair ≡ true = holds-join pieces s.0.pair ∙ ap is_not_empty (own_winding pieces once s.0 s.1) ∙ filled s.0 s.1 in
      let found = Has-from_list_any (λ k. pair_eq s.0.pair k) (pairs (join pieces)) there in
      subst (Has (pairs (join pieces))) (sym (same_pair_by_eq s.0.pair found.0 found.2) ∙ s.2) found.1

  end_kept : (p : Point) → Has (ends (pairs pieces)) p → Has (ends (pairs (join pieces))) p
  end_kept p i =
      let t = Has-flat_map_out (λ (u : Pair). u.a ∷ u.b ∷ []) (pairs pieces) p i in
      Has-flat_map (λ (u : Pair). u.a ∷ u.b ∷ []) (pairs (join pieces)) t.0 p (pair_kept t.0 t.1) t.2

  end_given : (p : Point) → Has (ends (pairs (join pieces))) p → Has (ends (pairs pieces)) p
  end_given p i =
      let t = Has-flat_map_out (λ (u : Pair). u.a ∷ u.b ∷ []) (pairs (join pieces)) p i in
      Has-flat_map (λ (u : Pair). u.a ∷ u.b ∷ []) (pairs pieces) t.0 p (In-join pieces t.0 t.1) t.2

  pub join_is_resolved : (given : List WholeSegment) → AreResolved given pieces → AreResolved given (join pieces)
  join_is_resolved given h = record {
    same_ends = λ p. (
      λ i. (h.same_ends p).0 (Contains-from_Has (ends (pairs pieces)) p (end_given p (Has-from_Contains (ends (pairs (join pieces))) p i))),
      λ i. Contains-from_Has (ends (pairs (join pieces))) p (end_kept p (Has-from_Contains (ends (pairs pieces)) p ((h.same_ends p).1 i))),
    );
    on_given = λ t i. h.on_given t (Contains-from_Has (pairs pieces) t (In-join pieces t (Has-from_Contains (pairs (join pieces)) t i)));
    covering = λ s e i oe clear c.
        let t = h.covering s e i oe clear c in
        (t.0, Contains-from_Has (pairs (join pieces)) t.0 (pair_kept t.0 (Has-from_Contains (pairs pieces) t.0 t.1)), t.2);
    counting = λ e oe clear. count_along-join pieces e ∙ h.counting e oe clear;
  }
