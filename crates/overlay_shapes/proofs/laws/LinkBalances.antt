-- Where as many links start as end at every node, the links in their directions are balanced.
use Rattle.std.proofs.Common.{◌≡◌, ℕ, ◌+◌, inl, inr, Bool, true, false, List, [], ◌∷◌, map, refl, sym, ap, ◌∙◌, arith}
use Rattle.std.specs.Prelude.{ℤ, pos, ◌+ℤ◌}
use Rattle.std.specs.List.{list_all}
use Rattle.std.proofs.lemmas.Int.{ints}
use Rattle.std.proofs.lemmas.Bool.{and_parts, both_ways, cases_Bool, false_from_ne_true}
use Rattle.overlay_geometry.specs.Points.{Point, point_eq}
use Rattle.overlay_geometry.proofs.laws.geometry.Points.{same_by_eq}
use Rattle.overlay_base.specs.Balance.{balance, IsBalanced}
use Rattle.overlay_base.specs.Segments.{WholeSegment}
use Rattle.overlay_base.proofs.laws.geometry.Pairs.{has_point}
use Rattle.overlay_sweep.proofs.laws.columns.WeightSums.{when}
use Rattle.overlay_sweep.proofs.laws.columns.BalancedSums.{flow, balance_is}
use Rattle.overlay_build.specs.Boundary.{directed_links}
use Rattle.overlay_build.specs.DirectedWalks.{arcs, IsFlow}
use Rattle.overlay_build.specs.Graph.{Filled, graph_of, node_points, node_number}
use Rattle.overlay_build.proofs.laws.graphs.GraphLaws.{pairs_of}
use Rattle.overlay_build.proofs.laws.graphs.GraphNodes.{node_number-of, node_number-is}
use Rattle.overlay_build.proofs.laws.walks.Flows.{run, counted, starts_stand, ends_stand, runs_are}

level_flow : (m n : ℕ) (z : ℤ) → pos m ≡ pos n +ℤ z → m ≡ n → z ≡ pos 0
level_flow m n z e h = let k : pos m ≡ pos n = ap (λ (n : ℕ). pos n) h in omega (arith, ints, e, k)

-- what starts and ends elsewhere flows through no point
off_flow : (f : Filled → WholeSegment) (w : WholeSegment → ℤ) (p : Point) (first second : Filled → Bool) → ((k : Filled) → first k ≡ true → point_eq (f k).pair.a p ≡ false) → ((k : Filled) → second k ≡ true → point_eq (f k).pair.b p ≡ false) →
    (ks : List Filled) → list_all first ks ≡ true → list_all second ks ≡ true → flow w (λ q. point_eq q p) (map f ks) ≡ pos 0
off_flow f w p first second ha hb [] ma mb = refl
off_flow f w p first second ha hb (k ∷ ks) ma mb =
    let pa = and_parts (first k) (list_all first ks) ma in
    let pb = and_parts (second k) (list_all second ks) mb in
    let rest = off_flow f w p first second ha hb ks pa.1 pb.1 in
    let a : when (point_eq (f k).pair.a p) (w (f k)) ≡ pos 0 = rw (ha k pa.0) refl in
    let b : when (point_eq (f k).pair.b p) (w (f k)) ≡ pos 0 = rw (hb k pb.0) refl in
    omega (arith, ints, rest, a, b)

-- a number that is 0 of each segment does not flow
no_flow : (f : Filled → WholeSegment) (w : WholeSegment → ℤ) (inside : Point → Bool) → ((k : Filled) → w (f k) ≡ pos 0) → (ks : List Filled) → flow w inside (map f ks) ≡ pos 0
no_flow f w inside none [] = refl
no_flow f w inside none (k ∷ ks) =
    let rest = no_flow f w inside none ks in
    let nothing = λ (b : Bool). by b (w (f k)) (none k) in
    omega (arith, ints, rest, nothing (inside (f k).pair.a), nothing (inside (f k).pair.b))
  where
    by : (b : Bool) (z : ℤ) → z ≡ pos 0 → when b z ≡ pos 0
    by true z e = e
    by false z e = refl

module _ (rule : Bool → Bool → Bool) (kept : List Filled) (level : IsFlow (arcs rule (graph_of kept).links)) (p : Point) where
  subj_level : flow (λ s. s.count.subj) (λ q. point_eq q p) (map (run rule kept) kept) ≡ pos 0
  unfolding graph_of
  subj_level = elim (cases_Bool (has_point (node_points (pairs_of kept)) p)) [
    | inl there ↦
        (let at = node_number-of (pairs_of kept) p p there in
        let number : ℕ = node_number (pairs_of kept) p in
        level_flow _ _ _ (counted rule kept number (λ q. point_eq q p) (λ q m. node_number-is (pairs_of kept) q p number m at.0 ∙ ap (point_eq q) at.1) kept (starts_stand rule kept) (ends_stand rule kept)) (level number))
    | inr away ↦
        off_flow (run rule kept) (λ s. s.count.subj) p (λ f. has_point (node_points (pairs_of kept)) f.pair.a) (λ f. has_point (node_points (pairs_of kept)) f.pair.b)
        (λ f m. apart f.pair.a away m) (λ f m. apart f.pair.b away m) kept (starts_stand rule kept) (ends_stand rule kept)
  ]
    where
      apart : (q : Point) → has_point (node_points (pairs_of kept)) p ≡ false → has_point (node_points (pairs_of kept)) q ≡ true → point_eq q p ≡ false
      apart q none m = false_from_ne_true (point_eq q p) (λ e. both_ways _ none (ap (has_point (node_points (pairs_of kept))) (sym (same_by_eq q p e)) ∙ m))

pub balance_from_flow : (rule : Bool → Bool → Bool) (kept : List Filled) → IsFlow (arcs rule (graph_of kept).links) → IsBalanced (directed_links rule (graph_of kept))
balance_from_flow rule kept level p =
    ap (λ (xs : List WholeSegment). balance xs p) (runs_are rule kept) ∙ balance_is (map (run rule kept) kept) p
    ∙ (λ i. record { subj = subj_level rule kept level p i; clip = no_flow (run rule kept) (λ s. s.count.clip) (λ q. point_eq q p) (λ f. refl) kept i; mask = 0 })
