-- Pieces of chains are apart, and the result of snap rounding is planar.
use Rattle.std.proofs.Common.{◌≡◌, ◌∙◌, refl, sym, ap, subst, arith, ◌⊎◌, ⊎_elim, inl, inr, ℕ, ◌+◌, ◌-◌, ◌<◌, Bool, true, false, IsTrue, List, [], ◌∷◌, ◌||◌, if◌then◌else◌}
use Rattle.std.specs.Prelude.{ℤ, pos, negsuc, ◌+ℤ◌, ◌-ℤ◌, ◌*ℤ◌, ◌≤ℤ◌, ◌<ℤ◌, Contains}
use Rattle.std.specs.List.{AllByRecursion}
use Rattle.std.proofs.lemmas.Int.{ints, by_lt_z}
use Rattle.std.proofs.lemmas.Bool.{cases_Bool, both_ways, and_parts, false_from_ne_true, or_left, or_right, or_from, cond-true, cond-false}
use Rattle.overlay_geometry.specs.Points.{Point, Pair, point_lt, point_eq, is_ordered, is_end, lies_on, is_strictly_inside}
use Rattle.overlay_geometry.specs.Meeting.{do_cross, has_end_inside, are_apart}
use Rattle.overlay_geometry.specs.Sorting.{is_strictly_sorted}
use Rattle.overlay_geometry.proofs.laws.geometry.Points.{Before, from_before, not_before, UpTo, inside_parts, point_eq_same}
use Rattle.overlay_geometry.proofs.laws.geometry.Polynomials.{as_D, diffs, D-eq}
use Rattle.overlay_geometry.proofs.laws.lists.Lists.{Has, AllByRecursion-weaker, AllByRecursion-append, AllByRecursion-at, AllByRecursion-map, list_all-from_AllByRecursion}
use Rattle.overlay_geometry.proofs.laws.lists.Elements.{Contains-from_Has, Has-from_Contains}
use Rattle.overlay_base.specs.Windings.{Winding, inverse}
use Rattle.overlay_base.specs.Segments.{WholeSegment, pairs, are_ordered, is_map}
use Rattle.overlay_base.specs.Planar.{is_planar}
use Rattle.overlay_base.specs.Join.{join}
use Rattle.overlay_base.proofs.laws.geometry.Apart.{do_cross_parts, are_apart_from}
use Rattle.overlay_base.proofs.laws.joins.Maps.{is_map-join}
use Rattle.overlay_intersections.proofs.laws.marks.Marks.{lies_along}
use Rattle.overlay_cuts.specs.Path.{piece, pieces_along}
use Rattle.overlay_cuts.proofs.laws.paths.Cuts.{AllByRecursion-join}
use Rattle.overlay_cuts.proofs.laws.planar.PlanarPasses.{is_planar-from}
use Rattle.overlay_snapping.specs.Chains.{IsChainPoint, IsCutAt, moving, staying, along_cmp, comes_before, IsPiece, pair_between, IsChain, AreChains, chain_pieces, IsSnapped}
use Rattle.overlay_snapping.specs.Laws.{PiecesAreApart, SnappedIsPlanar, SnappedLiesNear}
use Rattle.overlay_snapping.proofs.laws.chains.MarkPixels.{ordered}
use Rattle.overlay_snapping.proofs.laws.chains.Snaps.{cut_lies_near}
use Rattle.overlay_intersections.specs.PassMarks.{is_rounded}
use Rattle.overlay_cuts.specs.Nearness.{LiesNear, LieNear}
use Rattle.overlay_cuts.proofs.laws.nearness.Distances.{LiesNear-from_ends}
use Rattle.std.proofs.lemmas.List.Elements.{All-from_recursion}
use Rattle.overlay_snapping.proofs.laws.chains.Orders.{ends_differ, comes_before-trans, all_after}
use Rattle.overlay_snapping.proofs.laws.planarity.Steps.{Cross, cross_swapped, cross_exchanged}
use Rattle.overlay_snapping.proofs.laws.planarity.Pieces.{pieces_do_not_cross}
use Rattle.overlay_snapping.proofs.laws.planarity.Insides.{IsOnWay, turned_way, on_way_is_end}

-- ---- pieces

pair_by : (P : Pair → Type 0) (c d : Point) → (point_lt c d ≡ true → P (record { a = c; b = d })) → (point_lt c d ≡ false → P (record { a = d; b = c })) → P (pair_between c d)
pair_by P c d f g = ⊎_elim (λ h. subst P (sym (cond-true (point_lt c d) (record { a = c; b = d }) (record { a = d; b = c }) h)) (f h)) (λ h. subst P (sym (cond-false (point_lt c d) (record { a = c; b = d }) (record { a = d; b = c }) h)) (g h)) (cases_Bool (point_lt c d))

pair_ordered : (c d : Point) → ((c ≡ d) → ⊥) → IsTrue (is_ordered (pair_between c d))
pair_ordered c d differ = pair_by (λ p. IsTrue (is_ordered p)) c d (λ h. h) (λ h. from_before d c (strictly (not_before c d h)))
  where
    strictly : UpTo d c → Before d c
    strictly (inl k) = inl k
    strictly (inr (e, k)) = by_lt_z d.y c.y (λ (l : d.y <ℤ c.y). inr (e, l)) (λ (l : c.y ≤ℤ d.y). absurd (differ (λ i. record { x = sym e i; y = (same c.y d.y l k) i })))
      where
        same : (u v : ℤ) → u ≤ℤ v → v ≤ℤ u → u ≡ v
        same u v h k = omega (arith, ints, h, k)

-- a point on an ordered pair
on_way_of : (p : Pair) (e : Point) → IsTrue (is_ordered p) → IsTrue (lies_on p e) → IsOnWay p.a p.b e
on_way_of p e o h = let along = lies_along p e o h in by along.part along.whole along.is_part.some along.is_part.low along.is_part.high along.at_x along.at_y
  where
    plain : (a b z : ℤ) (k w r : ℕ) → w ≡ r + k → a *ℤ pos w +ℤ (b -ℤ a) *ℤ pos k ≡ z *ℤ pos w → a *ℤ pos r +ℤ b *ℤ pos k ≡ z *ℤ pos (r + k)
    plain a b z k w r e h = spread a b k r ∙ ap (λ (n : ℕ). a *ℤ pos n +ℤ (b -ℤ a) *ℤ pos k) (sym e) ∙ h ∙ ap (λ (n : ℕ). z *ℤ pos n) e
      where
        spread : (a b : ℤ) (k r : ℕ) → a *ℤ pos r +ℤ b *ℤ pos k ≡ a *ℤ pos (r + k) +ℤ (b -ℤ a) *ℤ pos k
        spread a b k r = rw (as_D a, as_D b) (simp diffs (D-eq _ _ _ _ (omega arith)))

    split : (k w : ℕ) → pos k ≤ℤ pos w → w ≡ (w - k) + k
    split k w h = omega (arith, ints, h)

    by : (k : ℤ) (w : ℕ) → 0 < w → pos 0 ≤ℤ k → k ≤ℤ pos w → p.a.x *ℤ pos w +ℤ (p.b.x -ℤ p.a.x) *ℤ k ≡ e.x *ℤ pos w → p.a.y *ℤ pos w +ℤ (p.b.y -ℤ p.a.y) *ℤ k ≡ e.y *ℤ pos w → IsOnWay p.a p.b e
    by (negsuc k) w some low high is_x is_y = absurd (omega (arith, ints, low))
    by (pos k) w some low high is_x is_y = record {
      part = k;
      rest = w - k;
      some = subst (λ (n : ℕ). 0 < n) (split k w high) some;
      at_x = plain p.a.x p.b.x e.x k w (w - k) (split k w high) is_x;
      at_y = plain p.a.y p.b.y e.y k w (w - k) (split k w high) is_y;
    }

on_way_between : (c d e : Point) → ((c ≡ d) → ⊥) → IsTrue (lies_on (pair_between c d) e) → IsOnWay c d e
on_way_between c d e differ = pair_by (λ p. IsTrue (is_ordered p) → IsTrue (lies_on p e) → IsOnWay c d e) c d (λ _ o h. on_way_of (record { a = c; b = d }) e o h) (λ _ o h. turned_way d c e (on_way_of (record { a = d; b = c }) e o h)) (pair_ordered c d differ)

end_of_pair : (c d e : Point) → (e ≡ c) ⊎ (e ≡ d) → IsTrue (is_end (pair_between c d) e)
end_of_pair c d e h = pair_by (λ p. IsTrue (is_end p e)) c d (λ _. of c d h) (λ _. of d c (⊎_elim inr inl h))
  where
    of : (c d : Point) → (e ≡ c) ⊎ (e ≡ d) → IsTrue (is_end (record { a = c; b = d }) e)
    of c d (inl k) = or_left _ _ (subst (λ p. point_eq e p ≡ true) k (point_eq_same e))
    of c d (inr k) = or_right _ _ (subst (λ p. point_eq e p ≡ true) k (point_eq_same e))

-- ---- two pieces

swap_first : (c c' d d' : Point) → Cross c' c d d' → Cross c c' d d'
swap_first c c' d d' h = cross_exchanged d d' c c' (cross_swapped d d' c' c (cross_exchanged c' c d d' h))

cross_between : (c c' d d' : Point) → Cross (pair_between c c').a (pair_between c c').b (pair_between d d').a (pair_between d d').b → Cross c c' d d'
cross_between c c' d d' =
    pair_by (λ p. Cross p.a p.b (pair_between d d').a (pair_between d d').b → Cross c c' d d') c c' (λ _. second c c') (λ _ h. swap_first c c' d d' (second c' c h))
  where
    second : (p p' : Point) → Cross p p' (pair_between d d').a (pair_between d d').b → Cross p p' d d'
    second p p' = pair_by (λ q. Cross p p' q.a q.b → Cross p p' d d') d d' (λ _ h. h) (λ _ h. cross_swapped p p' d' d h)

do_cross_between : (p q : Pair) → IsTrue (do_cross p q) → Cross p.a p.b q.a q.b
do_cross_between p q h = let parts = do_cross_parts p q h in record { of_first = parts.1; of_second = parts.0 }

point_of_cut : (segments : List Pair) (t : Pair) (e : Point) → IsCutAt segments t e → IsChainPoint segments e
point_of_cut segments t e (moving m p h) = p
point_of_cut segments t e (staying n p h) = p

-- no point of chains lies strictly inside
none_inside : (segments : List Pair) (s : Pair) (c c' e : Point) → IsTrue (is_ordered s) → IsPiece segments s c c' → IsChainPoint segments e → is_strictly_inside (pair_between c c') e ≡ false
none_inside segments s c c' e o piece point =
    false_from_ne_true (is_strictly_inside (pair_between c c') e) (λ h.
    let parts = inside_parts (pair_between c c') e h in
    both_ways (is_end (pair_between c c') e) parts.1
    (end_of_pair c c' e (on_way_is_end segments s c c' e o piece point (on_way_between c c' e (ends_differ s c c' piece.in_order) parts.0))))

no_end_inside : (segments : List Pair) (s : Pair) (c c' d d' : Point) → IsTrue (is_ordered s) → IsPiece segments s c c' → IsChainPoint segments d → IsChainPoint segments d' → has_end_inside (pair_between c c') (pair_between d d') ≡ false
unfolding has_end_inside
no_end_inside segments s c c' d d' o piece point point' =
    pair_by (λ q. (is_strictly_inside (pair_between c c') q.a || is_strictly_inside (pair_between c c') q.b) ≡ false) d d'
    (λ _. or_from _ _ (none_inside segments s c c' d o piece point) (none_inside segments s c c' d' o piece point'))
    (λ _. or_from _ _ (none_inside segments s c c' d' o piece point') (none_inside segments s c c' d o piece point))

apart_between : (segments : List Pair) (s t : Pair) (c c' d d' : Point) → Contains segments s → Contains segments t → IsTrue (is_ordered s) → IsTrue (is_ordered t) →
    IsPiece segments s c c' → IsPiece segments t d d' → IsTrue (are_apart (pair_between c c') (pair_between d d'))
apart_between segments s t c c' d d' in_s in_t os ot of_s of_t =
    are_apart_from (pair_between c c') (pair_between d d')
    (false_from_ne_true (do_cross (pair_between c c') (pair_between d d')) (λ h.
    pieces_do_not_cross segments s t c c' d d' in_s in_t os ot of_s of_t (cross_between c c' d d' (do_cross_between (pair_between c c') (pair_between d d') h))))
    (no_end_inside segments s c c' d d' os of_s (point_of_cut segments t d of_t.first) (point_of_cut segments t d' of_t.last))
    (no_end_inside segments t d d' c c' ot of_t (point_of_cut segments s c of_s.first) (point_of_cut segments s c' of_s.last))

pub pieces_are_apart : PiecesAreApart
pieces_are_apart segments o s t c c' d d' in_s in_t of_s of_t =
    apart_between (pairs segments) s t c c' d d' in_s in_t (ordered segments o s (Has-from_Contains (pairs segments) s in_s)) (ordered segments o t (Has-from_Contains (pairs segments) t in_t)) of_s of_t

-- ---- the result

-- a pair that is a piece of some chain
pub record IsOfChains (segments : List Pair) (p : Pair) : Type 0 where
  pub segment : Pair
  pub first : Point
  pub last : Point
  pub within : Has segments segment
  pub is_piece : IsPiece segments segment first last
  pub is_between : p ≡ pair_between first last

piece_pair : (count : Winding) (p q : Point) → (piece count p q).pair ≡ pair_between p q
unfolding piece
piece_pair count p q = by (point_lt p q)
  where
    by : (b : Bool) → (if b then (let u : WholeSegment = record { pair = record { a = p; b = q }; count = count } in u) else (let u : WholeSegment = record { pair = record { a = q; b = p }; count = inverse count } in u)).pair ≡ (if b then (let r : Pair = record { a = p; b = q } in r) else (let r : Pair = record { a = q; b = p } in r))
    by true = refl
    by false = refl

module _ (segments : List Pair) (s : Pair) (in_s : Has segments s) (chain : List Point) (is_chain : IsChain segments s chain) where
  -- what precedes a part of the chain comes before its first point
  Covers : Point → List Point → Type 0
  Covers p points = (e : Point) → Has chain e → IsTrue (comes_before s e p) ⊎ Has (p ∷ points) e

  next_covers : (p q : Point) (points : List Point) → IsTrue (comes_before s p q) → Covers p (q ∷ points) → Covers q points
  unfolding Covers
  next_covers p q points h cover e i = by (cover e i)
    where
      by : IsTrue (comes_before s e p) ⊎ Has (p ∷ q ∷ points) e → IsTrue (comes_before s e q) ⊎ Has (q ∷ points) e
      by (inl k) = inl (comes_before-trans s e p q k h)
      by (inr (inl k)) = inl (subst (λ r. IsTrue (comes_before s r q)) k h)
      by (inr (inr k)) = inr k

  piece_of_two : (p q : Point) (points : List Point) → Has chain p → Has chain q → IsTrue (comes_before s p q) → AllByRecursion (λ r. IsTrue (comes_before s q r)) points → Covers p (q ∷ points) → IsPiece segments s p q
  unfolding Covers
  piece_of_two p q points i j h later cover = record {
    first = (is_chain.complete p).0 (Contains-from_Has chain p i);
    last = (is_chain.complete q).0 (Contains-from_Has chain q j);
    in_order = h;
    none_between = λ e cut. by e (cover e (Has-from_Contains chain e ((is_chain.complete e).1 cut)));
  }
    where
      by : (e : Point) → IsTrue (comes_before s e p) ⊎ Has (p ∷ q ∷ points) e → IsTrue (comes_before s e p) ⊎ (e ≡ p) ⊎ (e ≡ q) ⊎ IsTrue (comes_before s q e)
      by e (inl k) = inl k
      by e (inr (inl k)) = inr (inl (sym k))
      by e (inr (inr (inl k))) = inr (inr (inl (sym k)))
      by e (inr (inr (inr k))) = inr (inr (inr (AllByRecursion-at (λ r. IsTrue (comes_before s q r)) points e later k)))

  pieces_of_part : (count : Winding) (points : List Point) (p : Point) → AllByRecursion (Has chain) (p ∷ points) → IsTrue (is_strictly_sorted (along_cmp s) (p ∷ points)) → Covers p points → AllByRecursion (λ u. IsOfChains segments u.pair) (pieces_along count (p ∷ points))
  unfolding is_strictly_sorted pieces_along
  pieces_of_part count [] p within sorted cover = tt
  pieces_of_part count (q ∷ points) p within sorted cover =
      let parts = and_parts (comes_before s p q) (is_strictly_sorted (along_cmp s) (q ∷ points)) sorted in (
        record {
          segment = s;
          first = p;
          last = q;
          within = in_s;
          is_piece = piece_of_two p q points within.0 within.1.0 parts.0 (all_after s q points parts.1) cover;
          is_between = piece_pair count p q;
        },
        pieces_of_part count points q within.1 parts.1 (next_covers p q points parts.0 cover),
      )

  all_within : (points : List Point) → ((e : Point) → Has points e → Has chain e) → AllByRecursion (Has chain) points
  all_within [] f = tt
  all_within (p ∷ points) f = (f p (inl refl), all_within points (λ e i. f e (inr i)))

pieces_of_chain : (segments : List Pair) (s : Pair) (count : Winding) (chain : List Point) → Has segments s → IsChain segments s chain → AllByRecursion (λ u. IsOfChains segments u.pair) (pieces_along count chain)
unfolding pieces_along Covers
pieces_of_chain segments s count [] i is_chain = tt
pieces_of_chain segments s count (p ∷ points) i is_chain =
    pieces_of_part segments s i (p ∷ points) is_chain count points p (all_within segments s i (p ∷ points) is_chain (p ∷ points) (λ e j. j)) is_chain.in_order (λ e j. inr j)

pieces_of_chains : (all : List Pair) (segments : List WholeSegment) (chains : List (List Point)) → ((s : Pair) → Has (pairs segments) s → Has all s) → AreChains all (pairs segments) chains → AllByRecursion (λ u. IsOfChains all u.pair) (chain_pieces segments chains)
unfolding chain_pieces
pieces_of_chains all [] [] f h = tt
pieces_of_chains all [] (chain ∷ chains) f h = absurd h
pieces_of_chains all (s ∷ segments) [] f h = absurd h
pieces_of_chains all (s ∷ segments) (chain ∷ chains) f h =
    AllByRecursion-append (λ u. IsOfChains all u.pair) (pieces_along s.count chain) (chain_pieces segments chains)
    (pieces_of_chain all s.pair s.count chain (f s.pair (inl refl)) h.0) (pieces_of_chains all segments chains (λ t i. f t (inr i)) h.1)

-- a pair of the result is a piece of a chain
pub snapped_of_chains : (segments result : List WholeSegment) → IsSnapped segments result → (p : Pair) → Has (pairs result) p → IsOfChains (pairs segments) p
snapped_of_chains segments result (chains, are, is) p i =
    let pieces = pieces_of_chains (pairs segments) segments chains (λ s i. i) are in
    let joined = AllByRecursion-join (IsOfChains (pairs segments)) (chain_pieces segments chains) pieces in
    AllByRecursion-at (IsOfChains (pairs segments)) (pairs (join (chain_pieces segments chains))) p (AllByRecursion-map (IsOfChains (pairs segments)) (λ (u : WholeSegment). u.pair) (join (chain_pieces segments chains)) joined) (subst (λ l. Has (pairs l) p) is i)

-- its segment is cut at its ends
pub cut_at_end : (segments : List Pair) (p : Pair) (h : IsOfChains segments p) (e : Point) → Has (p.a ∷ p.b ∷ []) e → IsCutAt segments h.segment e
cut_at_end segments p h e i =
    pair_by (λ r. Has (r.a ∷ r.b ∷ []) e → IsCutAt segments h.segment e) h.first h.last (λ _ j. forward j) (λ _ j. backward j) (subst (λ r. Has (r.a ∷ r.b ∷ []) e) h.is_between i)
  where
    forward : Has (h.first ∷ h.last ∷ []) e → IsCutAt segments h.segment e
    forward (inl k) = subst (λ c. IsCutAt segments h.segment c) k h.is_piece.first
    forward (inr (inl k)) = subst (λ c. IsCutAt segments h.segment c) k h.is_piece.last
    forward (inr (inr n)) = absurd n

    backward : Has (h.last ∷ h.first ∷ []) e → IsCutAt segments h.segment e
    backward (inl k) = subst (λ c. IsCutAt segments h.segment c) k h.is_piece.last
    backward (inr (inl k)) = subst (λ c. IsCutAt segments h.segment c) k h.is_piece.first
    backward (inr (inr n)) = absurd n

of_chains_ordered : (segments : List Pair) (p : Pair) → IsOfChains segments p → IsTrue (is_ordered p)
of_chains_ordered segments p h =
    subst (λ (r : Pair). IsTrue (is_ordered r)) (sym h.is_between) (pair_ordered h.first h.last (ends_differ h.segment h.first h.last h.is_piece.in_order))

two_of_chains : (segments : List WholeSegment) → IsTrue (are_ordered segments) → (p q : Pair) → IsOfChains (pairs segments) p → IsOfChains (pairs segments) q → IsTrue (are_apart p q)
two_of_chains segments o p q h k =
    subst (λ (r : Pair). IsTrue (are_apart r q)) (sym h.is_between)
    (subst (λ (r : Pair). IsTrue (are_apart (pair_between h.first h.last) r)) (sym k.is_between)
    (apart_between (pairs segments) h.segment k.segment h.first h.last k.first k.last (Contains-from_Has (pairs segments) h.segment h.within) (Contains-from_Has (pairs segments) k.segment k.within)
    (ordered segments o h.segment h.within) (ordered segments o k.segment k.within) h.is_piece k.is_piece))

pub snapped_is_planar : SnappedIsPlanar
snapped_is_planar segments result o (chains, are, is) = (
  subst (λ list. IsTrue (is_map list)) (sym is) (is_map-join (chain_pieces segments chains)
      (list_all-from_AllByRecursion (λ (u : WholeSegment). is_ordered u.pair) (chain_pieces segments chains)
      (AllByRecursion-weaker (λ u. IsOfChains (pairs segments) u.pair) (λ u. IsTrue (is_ordered u.pair)) (λ u h. of_chains_ordered (pairs segments) u.pair h) (chain_pieces segments chains) pieces))),
  subst (λ list. IsTrue (is_planar list)) (sym is) (is_planar-from (join (chain_pieces segments chains)) (λ p q i j. two_of_chains segments o p q (of_join p i) (of_join q j))),
)
  where
    pieces : AllByRecursion (λ u. IsOfChains (pairs segments) u.pair) (chain_pieces segments chains)
    pieces = pieces_of_chains (pairs segments) segments chains (λ s i. i) are

    of_join : (p : Pair) → Has (pairs (join (chain_pieces segments chains))) p → IsOfChains (pairs segments) p
    of_join p i = snapped_of_chains segments (join (chain_pieces segments chains)) (chains, are, refl) p i

-- ---- nearness

-- how far crossings of a list are moved at most
abbrev reach_in : List WholeSegment → ℕ
reach_in segments = if is_rounded segments then 1 else 0

of_chains_near : (segments : List WholeSegment) → IsTrue (are_ordered segments) → (p : Pair) → IsOfChains (pairs segments) p → (s : Pair) × Contains (pairs segments) s × LiesNear (reach_in segments) p s
of_chains_near segments o p h =
    let first = cut_lies_near segments o h.segment h.first h.within h.is_piece.first in
    let last = cut_lies_near segments o h.segment h.last h.within h.is_piece.last in (
      h.segment,
      Contains-from_Has (pairs segments) h.segment h.within,
      subst (λ (r : Pair). LiesNear (reach_in segments) r h.segment) (sym h.is_between)
          (pair_by (λ r. LiesNear (reach_in segments) r h.segment) h.first h.last (λ _. LiesNear-from_ends (reach_in segments) (record { a = h.first; b = h.last }) h.segment first last)
          (λ _. LiesNear-from_ends (reach_in segments) (record { a = h.last; b = h.first }) h.segment last first)),
    )

pub snapped_lies_near : SnappedLiesNear
snapped_lies_near segments result o (chains, are, is) =
    subst (λ list. LieNear (reach_in segments) (pairs segments) (pairs list)) (sym is)
    (All-from_recursion (λ r. (s : Pair) × Contains (pairs segments) s × LiesNear (reach_in segments) r s) (pairs (join (chain_pieces segments chains)))
    (AllByRecursion-map (λ r. (s : Pair) × Contains (pairs segments) s × LiesNear (reach_in segments) r s) (λ (u : WholeSegment). u.pair) (join (chain_pieces segments chains))
    (AllByRecursion-join (λ r. (s : Pair) × Contains (pairs segments) s × LiesNear (reach_in segments) r s) (chain_pieces segments chains)
    (AllByRecursion-weaker (λ u. IsOfChains (pairs segments) u.pair) (λ u. (s : Pair) × Contains (pairs segments) s × LiesNear (reach_in segments) u.pair s) (λ u h. of_chains_near segments o u.pair h) (chain_pieces segments chains)
    (pieces_of_chains (pairs segments) segments chains (λ s i. i) are)))))
