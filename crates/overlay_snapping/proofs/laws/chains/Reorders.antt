-- The order of the segments does not count: what is hot and what moves depends on the set of segments alone, so each has its chain in any
-- order, and a join of the pieces adds up the same counts.
use Rattle.std.proofs.Common.{◌≡◌, sym, ◌∙◌, refl, ap, ap₂, subst, ⊎_elim, inl, inr, true, false, cond, Bool, IsTrue, List, [], ◌∷◌, ◌++◌, map, IsPermutation}
use Rattle.std.specs.Prelude.{flat_map, Contains}
use Rattle.std.proofs.lemmas.Bool.{cases_Bool, both_ways}
use Rattle.std.proofs.lemmas.List.Sorted.{IsPermutation-map, IsPermutation-sym, Contains-permutation}
use Rattle.overlay_geometry.specs.Points.{Point, Pair, pair_eq}
use Rattle.overlay_geometry.proofs.laws.geometry.Points.{pair_eq_same, same_pair_by_eq}
use Rattle.overlay_geometry.proofs.laws.lists.Lists.{Has, Has-append_left, Has-append_right, Has-flat_map}
use Rattle.overlay_geometry.proofs.laws.lists.Elements.{Contains-from_Has, Has-from_Contains, Has-append_out, Has-flat_map_out}
use Rattle.overlay_base.specs.Windings.{empty, add}
use Rattle.overlay_base.specs.Segments.{WholeSegment, pairs, ends, winding_at}
use Rattle.overlay_base.specs.Join.{join}
use Rattle.overlay_base.specs.Sums.{gathered}
use Rattle.overlay_base.proofs.laws.lists.Monoids.{gathered-IsPermutation}
use Rattle.overlay_base.proofs.laws.joins.Bags.{windings_add, winding_at-nil, winding_at-append}
use Rattle.overlay_base.proofs.laws.joins.Maps.{join_from_windings}
use Rattle.overlay_cuts.specs.Path.{pieces_along}
use Rattle.overlay_snapping.specs.Chains.{crossings_by, rounded_crossings, whole_crossings, given_points, IsHot, rounded, passed, Moves, passes, IsChainPoint, IsCutAt, moving, staying, IsChain, AreChains, chain_pieces}
use Rattle.overlay_snapping.specs.Laws.{SnappedIgnoresOrder}
use Rattle.overlay_snapping.proofs.laws.chains.MarkPoints.{Has-crossings_by, Has-crossings_by_out}
use Rattle.overlay_snapping.proofs.laws.chains.Paths.{snapped_is_one}

-- ---- of a list whose segments another list has

-- each element of xs is one of ys
abbrev IsIn : {X : Type 0} → List X → List X → Type 0
IsIn xs ys = (x : _) → Has xs x → Has ys x

crossing_in : (test : Pair → Pair → Bool) (xs ys : List Pair) → IsIn xs ys → IsIn (crossings_by test xs) (crossings_by test ys)
crossing_in test xs ys h c i =
    let by = Has-crossings_by_out test xs c i in
    subst (Has (crossings_by test ys)) by.5 (Has-crossings_by test ys by.0 by.1 (h by.0 by.2) (h by.1 by.3) by.4)

given_in : (xs ys : List Pair) → IsIn xs ys → IsIn (given_points xs) (given_points ys)
given_in xs ys h c i =
    ⊎_elim
    (λ j. let by = Has-flat_map_out (λ (s : Pair). s.a ∷ s.b ∷ []) xs c j in
    Has-append_left (ends ys) (whole_crossings ys) c (Has-flat_map (λ (s : Pair). s.a ∷ s.b ∷ []) ys by.0 c (h by.0 by.1) by.2))
    (λ j. Has-append_right (ends ys) (whole_crossings ys) c (crossing_in _ xs ys h c j))
    (Has-append_out (ends xs) (whole_crossings xs) c i)

given_contains : (xs ys : List Pair) → IsIn xs ys → (c : Point) → Contains (given_points xs) c → Contains (given_points ys) c
given_contains xs ys h c i = Contains-from_Has (given_points ys) c (given_in xs ys h c (Has-from_Contains (given_points xs) c i))

mutual
  hot_in : (xs ys : List Pair) → IsIn xs ys → (c : Point) → IsHot xs c → IsHot ys c
  hot_in xs ys h c (rounded i) = rounded (Contains-from_Has (rounded_crossings ys) c (crossing_in _ xs ys h c (Has-from_Contains (rounded_crossings xs) c i)))
  hot_in xs ys h c (passed i m p) = passed (given_contains xs ys h c i) (moves_in xs ys h _ m) p

  moves_in : (xs ys : List Pair) → IsIn xs ys → (s : Pair) → Moves xs s → Moves ys s
  moves_in xs ys h s (passes i k p) = passes (Contains-from_Has ys s (h s (Has-from_Contains xs s i))) (hot_in xs ys h _ k) p

point_in : (xs ys : List Pair) → IsIn xs ys → (c : Point) → IsChainPoint xs c → IsChainPoint ys c
point_in xs ys h c p = ⊎_elim (λ k. inl (hot_in xs ys h c k)) (λ i. inr (given_contains xs ys h c i)) p

cut_in : (xs ys : List Pair) → IsIn xs ys → IsIn ys xs → (s : Pair) (c : Point) → IsCutAt xs s c → IsCutAt ys s c
cut_in xs ys h k s c (moving m p n) = moving (moves_in xs ys h s m) (point_in xs ys h c p) n
cut_in xs ys h k s c (staying n p on) = staying (λ m. n (moves_in ys xs k s m)) (point_in xs ys h c p) on

chain_in : (xs ys : List Pair) → IsIn xs ys → IsIn ys xs → (s : Pair) (chain : List Point) → IsChain xs s chain → IsChain ys s chain
chain_in xs ys h k s chain is = record {
  in_order = is.in_order;
  complete = λ c. (λ i. cut_in xs ys h k s c ((is.complete c).0 i), λ cut. (is.complete c).1 (cut_in ys xs k h s c cut));
}

-- ---- the chain of a pair, among those of a list

chain_at : List WholeSegment → List (List Point) → Pair → List Point
chain_at (w ∷ ws) (chain ∷ chains) s = cond (pair_eq w.pair s) chain (chain_at ws chains s)
chain_at _ _ s = []

chain_at_is : (segments : List Pair) (ws : List WholeSegment) (chains : List (List Point)) → AreChains segments (pairs ws) chains → (s : Pair) → Has (pairs ws) s → IsChain segments s (chain_at ws chains s)
unfolding chain_at
chain_at_is segments [] chains are s i = absurd i
chain_at_is segments (w ∷ ws) [] are s i = absurd are
chain_at_is segments (w ∷ ws) (chain ∷ chains) are s i = ⊎_elim here (later (chain_at_is segments ws chains are.1 s)) (cases_Bool (pair_eq w.pair s))
  where
    chosen : (b : Bool) → pair_eq w.pair s ≡ b → IsChain segments s (cond b chain (chain_at ws chains s)) → IsChain segments s (cond (pair_eq w.pair s) chain (chain_at ws chains s))
    chosen b e is = subst (λ c. IsChain segments s (cond c chain (chain_at ws chains s))) (sym e) is

    here : pair_eq w.pair s ≡ true → IsChain segments s (cond (pair_eq w.pair s) chain (chain_at ws chains s))
    here e = chosen true e (subst (λ p. IsChain segments p chain) (same_pair_by_eq w.pair s e) are.0)

    later : (Has (pairs ws) s → IsChain segments s (chain_at ws chains s)) → pair_eq w.pair s ≡ false → IsChain segments s (cond (pair_eq w.pair s) chain (chain_at ws chains s))
    later rest e = chosen false e (rest (⊎_elim
        (λ (same : w.pair ≡ s). absurd (both_ways (pair_eq w.pair s) e (subst (λ p. IsTrue (pair_eq w.pair p)) same (pair_eq_same w.pair))))
        (λ j. j) i))

-- the chains of a list, where a function names that of each pair
chains_by : (segments : List Pair) (at : Pair → List Point) (ws : List WholeSegment) → ((s : Pair) → Has (pairs ws) s → IsChain segments s (at s)) → AreChains segments (pairs ws) (map (λ (w : WholeSegment). at w.pair) ws)
chains_by segments at [] each = tt
chains_by segments at (w ∷ ws) each = (each w.pair (inl refl), chains_by segments at ws (λ s i. each s (inr i)))

-- ---- pieces

abbrev pieces_by : (Pair → List Point) → WholeSegment → List WholeSegment
pieces_by at w = pieces_along w.count (at w.pair)

chain_pieces-by : (segments : List Pair) (at : Pair → List Point) (ws : List WholeSegment) (chains : List (List Point)) → AreChains segments (pairs ws) chains → ((s : Pair) → Has (pairs ws) s → IsChain segments s (at s)) → chain_pieces ws chains ≡ flat_map (pieces_by at) ws
unfolding chain_pieces
chain_pieces-by segments at [] chains are each = refl
chain_pieces-by segments at (w ∷ ws) [] are each = absurd are
chain_pieces-by segments at (w ∷ ws) (chain ∷ chains) are each =
    ap₂ (λ (these those : List WholeSegment). these ++ those)
    (ap (pieces_along w.count) (snapped_is_one.0 segments w.pair chain (at w.pair) are.0 (each w.pair (inl refl))))
    (chain_pieces-by segments at ws chains are.1 (λ s i. each s (inr i)))

winding_at-flat_map : (f : WholeSegment → List WholeSegment) (pair : Pair) (ws : List WholeSegment) → winding_at (flat_map f ws) pair ≡ gathered add empty (λ w. winding_at (f w) pair) ws
winding_at-flat_map f pair [] = winding_at-nil pair
winding_at-flat_map f pair (w ∷ ws) = winding_at-append (f w) (flat_map f ws) pair ∙ ap (add (winding_at (f w) pair)) (winding_at-flat_map f pair ws)

join_pieces-IsPermutation : (f : WholeSegment → List WholeSegment) (xs ys : List WholeSegment) → IsPermutation xs ys → join (flat_map f ys) ≡ join (flat_map f xs)
join_pieces-IsPermutation f xs ys p = join_from_windings (flat_map f ys) (flat_map f xs) (λ pair.
    winding_at-flat_map f pair ys ∙ gathered-IsPermutation windings_add (λ w. winding_at (f w) pair) xs ys p ∙ sym (winding_at-flat_map f pair xs))

-- ---- the law

pub snapped_ignores_order : SnappedIgnoresOrder
snapped_ignores_order given other result p is = (chains, are, is.2 ∙ ap join (own is.0 is.1) ∙ sym (join_pieces-IsPermutation (pieces_by at) given other p) ∙ ap join (sym (chain_pieces-by (pairs other) at other chains are each)))
  where
    at : Pair → List Point
    at = chain_at given is.0

    to : IsIn (pairs given) (pairs other)
    to s i = Has-from_Contains (pairs other) s (Contains-permutation (pairs given) (pairs other) s (IsPermutation-map _ given other p) (Contains-from_Has (pairs given) s i))

    from : IsIn (pairs other) (pairs given)
    from s i = Has-from_Contains (pairs given) s (Contains-permutation (pairs other) (pairs given) s (IsPermutation-sym (pairs given) (pairs other) (IsPermutation-map _ given other p)) (Contains-from_Has (pairs other) s i))

    of_given : (s : Pair) → Has (pairs given) s → IsChain (pairs given) s (at s)
    of_given = chain_at_is (pairs given) given is.0 is.1

    each : (s : Pair) → Has (pairs other) s → IsChain (pairs other) s (at s)
    each s i = chain_in (pairs given) (pairs other) to from s (at s) (of_given s (from s i))

    chains : List (List Point)
    chains = map (λ (w : WholeSegment). at w.pair) other

    are : AreChains (pairs other) (pairs other) chains
    are = chains_by (pairs other) at other each

    own : (cs : List (List Point)) → AreChains (pairs given) (pairs given) cs → chain_pieces given cs ≡ flat_map (pieces_by at) given
    own cs h = chain_pieces-by (pairs given) at given cs h of_given
