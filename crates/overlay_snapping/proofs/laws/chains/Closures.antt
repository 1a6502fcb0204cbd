-- A list of points and a list of segments that are closed have all points that are hot and all segments that move. Where each of
-- the two lists is also made of such, tests of finite lists show whether a list of points is the chain of a segment.
use Rattle.std.proofs.Common.{◌≡◌, sym, subst, ◌⊎◌, inl, inr, Bool, true, false, not, ◌&&◌, ◌||◌, List, ◌++◌}
use Rattle.std.specs.Prelude.{Contains}
use Rattle.std.specs.List.{AllByRecursion, list_all, list_any}
use Rattle.std.proofs.lemmas.Bool.{and_parts}
use Rattle.overlay_geometry.specs.Points.{Point, Pair, point_eq, pair_eq, lies_on}
use Rattle.overlay_geometry.specs.Sorting.{is_strictly_sorted}
use Rattle.overlay_geometry.proofs.laws.geometry.Points.{same_by_eq, same_pair_by_eq, pair_eq_same}
use Rattle.overlay_geometry.proofs.laws.lists.Lists.{AllByRecursion-at, Has, Has-append_left, Has-append_right, Has-from_list_any, list_any-from_Has, list_all-at}
use Rattle.overlay_geometry.proofs.laws.lists.Elements.{Contains-from_Has, Has-from_Contains, Has-append_out}
use Rattle.overlay_cuts.specs.ExactInput.{has_point}
use Rattle.overlay_snapping.specs.Pixels.{meets_pixel}
use Rattle.overlay_snapping.specs.Chains.{rounded_crossings, given_points, passes_by, IsHot, rounded, passed, Moves, passes, IsChainPoint, IsCutAt, moving, staying, IsChain, along_cmp}

-- ---- tests

abbrev pub has_pair : List Pair → Pair → Bool
has_pair list s = list_any (λ t. pair_eq s t) list

abbrev pub implies : Bool → Bool → Bool
implies a b = not a || b

implied : (a b : Bool) → implies a b ≡ true → a ≡ true → b ≡ true
implied true b h e = h
implied false b h e = cc

Has-from_point : (points : List Point) (p : Point) → has_point points p ≡ true → Has points p
Has-from_point points p h =
    let found = Has-from_list_any (λ q. point_eq p q) points h in
    subst (λ (z : Point). Has points z) (sym (same_by_eq p found.0 found.2)) found.1

Has-from_pair : (list : List Pair) (s : Pair) → has_pair list s ≡ true → Has list s
Has-from_pair list s h =
    let found = Has-from_list_any (λ t. pair_eq s t) list h in
    subst (λ (z : Pair). Has list z) (sym (same_pair_by_eq s found.0 found.2)) found.1

-- ---- closed lists

-- what has to be hot, and to move, by one rule is in the lists
pub record AreClosed (segments : List Pair) (hot : List Point) (movers : List Pair) : Type 0 where
  pub crossings : list_all (λ c. has_point hot c) (rounded_crossings segments) ≡ true
  pub given : list_all (λ s. list_all (λ c. implies (passes_by s c) (has_point hot c)) (given_points segments)) movers ≡ true
  pub passing : list_all (λ s. list_all (λ c. implies (passes_by s c) (has_pair movers s)) hot) segments ≡ true

mutual
  pub hot_are_in : (segments : List Pair) (hot : List Point) (movers : List Pair) → AreClosed segments hot movers → (c : Point) → IsHot segments c → Has hot c
  hot_are_in segments hot movers k c (rounded i) = Has-from_point hot c (list_all-at (λ c. has_point hot c) (rounded_crossings segments) c k.crossings (Has-from_Contains (rounded_crossings segments) c i))
  hot_are_in segments hot movers k c (passed {s = s} i m p) =
      Has-from_point hot c (implied (passes_by s c) (has_point hot c) (list_all-at (λ d. implies (passes_by s d) (has_point hot d)) (given_points segments) c
      (list_all-at (λ t. list_all (λ d. implies (passes_by t d) (has_point hot d)) (given_points segments)) movers s k.given (movers_are_in segments hot movers k s m))
      (Has-from_Contains (given_points segments) c i)) p)

  pub movers_are_in : (segments : List Pair) (hot : List Point) (movers : List Pair) → AreClosed segments hot movers → (s : Pair) → Moves segments s → Has movers s
  movers_are_in segments hot movers k s (passes {c = c} i h p) =
      Has-from_pair movers s (implied (passes_by s c) (has_pair movers s) (list_all-at (λ d. implies (passes_by s d) (has_pair movers s)) hot c
      (list_all-at (λ t. list_all (λ d. implies (passes_by t d) (has_pair movers t)) hot) segments s k.passing (Has-from_Contains segments s i))
      (hot_are_in segments hot movers k c h)) p)

-- ---- chains

-- every point of the chain passes the test and is one through which chains go, and the chain has all of those that pass
pub record IsTested (segments : List Pair) (hot : List Point) (test : Point → Bool) (s : Pair) (chain : List Point) : Type 0 where
  pub in_order : is_strictly_sorted (along_cmp s) chain ≡ true
  pub has_all : list_all (λ c. implies (test c) (has_point chain c)) (hot ++ given_points segments) ≡ true
  pub has_no_other : list_all (λ c. test c && has_point (hot ++ given_points segments) c) chain ≡ true

point_in : (segments : List Pair) (hot : List Point) → ((c : Point) → IsHot segments c → Has hot c) → (c : Point) → IsChainPoint segments c → Has (hot ++ given_points segments) c
point_in segments hot f c (inl h) = Has-append_left hot (given_points segments) c (f c h)
point_in segments hot f c (inr i) = Has-append_right hot (given_points segments) c (Has-from_Contains (given_points segments) c i)

point_from : (segments : List Pair) (hot : List Point) → AllByRecursion (λ c. IsHot segments c) hot → (c : Point) → Has (hot ++ given_points segments) c → IsChainPoint segments c
point_from segments hot all c i = by (Has-append_out hot (given_points segments) c i)
  where
    by : Has hot c ⊎ Has (given_points segments) c → IsChainPoint segments c
    by (inl h) = inl (AllByRecursion-at (λ d. IsHot segments d) hot c all h)
    by (inr h) = inr (Contains-from_Has (given_points segments) c h)

chain_has : (segments : List Pair) (hot : List Point) (test : Point → Bool) (s : Pair) (chain : List Point) → IsTested segments hot test s chain →
    ((c : Point) → IsHot segments c → Has hot c) → (c : Point) → IsChainPoint segments c → test c ≡ true → Contains chain c
chain_has segments hot test s chain t f c p e =
    Contains-from_Has chain c (Has-from_point chain c (implied (test c) (has_point chain c)
    (list_all-at (λ d. implies (test d) (has_point chain d)) (hot ++ given_points segments) c t.has_all (point_in segments hot f c p)) e))

chain_point : (segments : List Pair) (hot : List Point) (test : Point → Bool) (s : Pair) (chain : List Point) → IsTested segments hot test s chain →
    AllByRecursion (λ c. IsHot segments c) hot → (c : Point) → Contains chain c → IsChainPoint segments c × (test c ≡ true)
chain_point segments hot test s chain t all c i =
    let parts = and_parts (test c) (has_point (hot ++ given_points segments) c) (list_all-at (λ d. test d && has_point (hot ++ given_points segments) d) chain c t.has_no_other (Has-from_Contains chain c i)) in
    (point_from segments hot all c (Has-from_point (hot ++ given_points segments) c parts.1), parts.0)

pub chain_of_mover : (segments : List Pair) (hot : List Point) (movers : List Pair) (s : Pair) (chain : List Point) → AreClosed segments hot movers →
    AllByRecursion (λ c. IsHot segments c) hot → Moves segments s → IsTested segments hot (meets_pixel s) s chain → IsChain segments s chain
chain_of_mover segments hot movers s chain k all m t = record { in_order = t.in_order; complete = λ c. (from c, to c) }
  where
    from : (c : Point) → Contains chain c → IsCutAt segments s c
    from c i = let found = chain_point segments hot (meets_pixel s) s chain t all c i in moving m found.0 found.1

    to : (c : Point) → IsCutAt segments s c → Contains chain c
    to c (moving n p e) = chain_has segments hot (meets_pixel s) s chain t (hot_are_in segments hot movers k) c p e
    to c (staying n p e) = absurd (n m)

pub chain_in_place : (segments : List Pair) (hot : List Point) (movers : List Pair) (s : Pair) (chain : List Point) → AreClosed segments hot movers →
    AllByRecursion (λ c. IsHot segments c) hot → has_pair movers s ≡ false → IsTested segments hot (lies_on s) s chain → IsChain segments s chain
chain_in_place segments hot movers s chain k all still t = record { in_order = t.in_order; complete = λ c. (from c, to c) }
  where
    stays : Moves segments s → ⊥
    stays m = let e : has_pair movers s ≡ true = list_any-from_Has (λ r. pair_eq s r) movers s (movers_are_in segments hot movers k s m) (pair_eq_same s) in cc

    from : (c : Point) → Contains chain c → IsCutAt segments s c
    from c i = let found = chain_point segments hot (lies_on s) s chain t all c i in staying stays found.0 found.1

    to : (c : Point) → IsCutAt segments s c → Contains chain c
    to c (moving m p e) = absurd (stays m)
    to c (staying n p e) = chain_has segments hot (lies_on s) s chain t (hot_are_in segments hot movers k) c p e
