-- A snapped list is what a pass leaves through points that a function names: the points of the chains between the ends of each segment.
use Rattle.std.proofs.Common.{◌≡◌, ◌⊎◌, ⊎_elim, inl, inr, refl, subst, Bool, true, false, not, if◌then◌else◌, IsTrue, List, [], ◌∷◌, filter}
use Rattle.std.proofs.lemmas.Bool.{not-true}
use Rattle.overlay_geometry.specs.Points.{Point, Pair, point_cmp, point_eq, pair_eq, is_ordered, is_end, lies_on}
use Rattle.overlay_geometry.specs.Sorting.{distinct_in_order}
use Rattle.overlay_geometry.proofs.laws.geometry.Points.{before, point_cmp_total, point_same, same_by_eq, not_same, same_pair_by_eq, not_same_pair, lies_on_from_order, turn_same_outer, UpTo-same, UpTo-Before}
use Rattle.overlay_geometry.proofs.laws.lists.Elements.{Contains-from_Has, Has-from_Contains}
use Rattle.overlay_geometry.proofs.laws.lists.Keys.{AllByRecursion-distinct_in_order, Has-distinct_in_order, IsStrictlySortedBy-distinct, is_strictly_sorted-from}
use Rattle.overlay_geometry.proofs.laws.lists.Lists.{Has, AllByRecursion-at, AllByRecursion-from_Has, Has-append_left, Has-filter, Has-filter_out, Has-flat_map}
use Rattle.overlay_base.specs.Segments.{WholeSegment, pairs, ends, are_ordered}
use Rattle.overlay_cuts.specs.Pass.{pass_by}
use Rattle.overlay_snapping.specs.Chains.{whole_crossings, given_points, Moves, IsChainPoint, IsCutAt, moving, staying, IsChain, AreSnapCuts, AreDecided, AreChains, IsSnapped}
use Rattle.overlay_snapping.proofs.laws.chains.MarkPixels.{ordered}
use Rattle.overlay_snapping.proofs.laws.chains.Paths.{on_meets, snapped_is_one}
use Rattle.overlay_snapping.proofs.laws.chains.Snaps.{cuts_snap}

-- ---- the chain of each segment

chain_at : List Pair → List (List Point) → Pair → List Point
chain_at (t ∷ rest) (chain ∷ chains) s = if pair_eq t s then chain else chain_at rest chains s
chain_at _ _ s = []

chain_is : (all rest : List Pair) (chains : List (List Point)) (s : Pair) → AreChains all rest chains → Has rest s → IsChain all s (chain_at rest chains s)
unfolding chain_at
chain_is all [] chains s h i = absurd i
chain_is all (t ∷ rest) [] s h i = absurd h
chain_is all (t ∷ rest) (chain ∷ chains) s h i = by (pair_eq t s) refl i (λ j. chain_is all rest chains s h.1 j)
  where
    by : (b : Bool) → pair_eq t s ≡ b → Has (t ∷ rest) s → (Has rest s → IsChain all s (chain_at rest chains s)) → IsChain all s (if b then chain else chain_at rest chains s)
    by true e j later = subst (λ (u : Pair). IsChain all u chain) (same_pair_by_eq t s e) h.0
    by false e (inl k) later = absurd (not_same_pair t s e k)
    by false e (inr j) later = later j

-- ---- a segment moves or does not: its first end is on its chain

has_or_not : (points : List Point) (p : Point) → Has points p ⊎ (Has points p → ⊥)
has_or_not [] p = inr (λ i. i)
has_or_not (q ∷ points) p = by (point_eq q p) refl (has_or_not points p)
  where
    by : (b : Bool) → point_eq q p ≡ b → Has points p ⊎ (Has points p → ⊥) → Has (q ∷ points) p ⊎ (Has (q ∷ points) p → ⊥)
    by true e rest = inl (inl (same_by_eq q p e))
    by false e (inl i) = inl (inr i)
    by false e (inr n) = inr (λ i. ⊎_elim (λ k. not_same q p e k) n i)

decided_at : (segments : List Pair) (s : Pair) (chain : List Point) → IsTrue (is_ordered s) → Has segments s → IsChain segments s chain → Moves segments s ⊎ (Moves segments s → ⊥)
decided_at segments s chain o i is = ⊎_elim (λ there. by_cut ((is.complete s.a).0 (Contains-from_Has chain s.a there))) (λ none. inr (λ moves. none (Has-from_Contains chain s.a ((is.complete s.a).1 (moving moves point (on_meets s s.a o on)))))) (has_or_not chain s.a)
  where
    point : IsChainPoint segments s.a
    point = inr (Contains-from_Has (given_points segments) s.a (Has-append_left (ends segments) (whole_crossings segments) s.a (Has-flat_map (λ (u : Pair). u.a ∷ u.b ∷ []) segments s s.a i (inl refl))))

    on : IsTrue (lies_on s s.a)
    on = lies_on_from_order s s.a (before s.a s.b o) (turn_same_outer s.a s.b) (UpTo-same s.a) (UpTo-Before s.a s.b (before s.a s.b o))

    by_cut : IsCutAt segments s s.a → Moves segments s ⊎ (Moves segments s → ⊥)
    by_cut (moving m p k) = inl m
    by_cut (staying n p k) = inr n

-- ---- the points between the ends

module _ (segments : List WholeSegment) (o : IsTrue (are_ordered segments)) (chains : List (List Point)) (are : AreChains (pairs segments) (pairs segments) chains) where
  chain_of : Pair → List Point
  chain_of s = chain_at (pairs segments) chains s

  is_chain : (s : Pair) → Has (pairs segments) s → IsChain (pairs segments) s (chain_of s)
  unfolding chain_of
  is_chain s i = chain_is (pairs segments) (pairs segments) chains s are i

  free : Pair → Point → Bool
  free s c = not (is_end s c)

  between : Pair → List Point
  between s = distinct_in_order point_cmp (filter (free s) (chain_of s))

  out : (s : Pair) (c : Point) → Has (between s) c → Has (filter (free s) (chain_of s)) c
  unfolding between
  out s c h =
      AllByRecursion-at (λ q. Has (filter (free s) (chain_of s)) q) (distinct_in_order point_cmp (filter (free s) (chain_of s))) c
      (AllByRecursion-distinct_in_order point_cmp (λ q. Has (filter (free s) (chain_of s)) q) (filter (free s) (chain_of s)) (AllByRecursion-from_Has (λ q. Has (filter (free s) (chain_of s)) q) (filter (free s) (chain_of s)) (λ q j. j))) h

  decided : AreDecided segments
  decided s i =
      let there = Has-from_Contains (pairs segments) s i in
      decided_at (pairs segments) s (chain_of s) (ordered segments o s there) there (is_chain s there)

  cuts : AreSnapCuts segments between
  unfolding between free
  cuts s i =
      let is = is_chain s (Has-from_Contains (pairs segments) s i) in
      record {
        in_order = is_strictly_sorted-from point_cmp_total (between s) (IsStrictlySortedBy-distinct point_cmp_total (filter (free s) (chain_of s)));
        complete = λ c. (
          λ h. (let r = Has-filter_out (free s) (chain_of s) c (out s c (Has-from_Contains (between s) c h)) in ((is.complete c).0 (Contains-from_Has (chain_of s) c r.0), not-true (is_end s c) r.1)),
          λ h. Contains-from_Has (between s) c
              (Has-distinct_in_order point_cmp_total point_same (filter (free s) (chain_of s)) c (Has-filter (free s) (chain_of s) c (Has-from_Contains (chain_of s) c ((is.complete c).1 h.0)) (rw h.1 refl))),
        );
      }

-- the points, that each segment moves or does not, that they are these, and that the pass leaves the list
pub snapped_by_cuts : (segments result : List WholeSegment) → IsTrue (are_ordered segments) → IsSnapped segments result → (on : Pair → List Point) × AreDecided segments × AreSnapCuts segments on × (result ≡ pass_by on segments)
snapped_by_cuts segments result o snapped =
    let on = between segments o snapped.0 snapped.1 in
    let moves = decided segments o snapped.0 snapped.1 in
    let at = cuts segments o snapped.0 snapped.1 in
    (on, moves, at, snapped_is_one.1 segments result (pass_by on segments) snapped (cuts_snap segments on o moves at).0)
