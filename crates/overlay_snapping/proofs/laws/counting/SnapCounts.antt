-- The segments of a snapped list end at points of chains, so it has at most three times as many.
use Rattle.std.proofs.Common.{◌≡◌, ◌∙◌, refl, sym, subst, arith, ⊎_elim, inl, inr, ◌≤◌, IsTrue, List, [], ◌∷◌, ◌++◌, ◌&&◌, length}
use Rattle.std.specs.Prelude.{Contains}
use Rattle.std.proofs.lemmas.Bool.{and_parts, and_from, cases_Bool}
use Rattle.overlay_geometry.specs.Meeting.{do_cross}
use Rattle.overlay_geometry.specs.Points.{Point, Pair, point_cmp}
use Rattle.overlay_geometry.specs.Sorting.{distinct_in_order}
use Rattle.overlay_geometry.proofs.laws.geometry.Points.{Before, Before-irreflexive, point_cmp_total, point_same}
use Rattle.overlay_geometry.proofs.laws.lists.Lists.{Has, Pairwise, Pairwise-weaker, AllByRecursion-at, AllByRecursion-from_Has, Has-append_left, Has-append_right}
use Rattle.overlay_geometry.proofs.laws.lists.Elements.{Contains-from_Has, Has-from_Contains, Has-append_out, Has-flat_map_out}
use Rattle.overlay_geometry.proofs.laws.lists.Keys.{AllByRecursion-distinct_in_order, Has-distinct_in_order}
use Rattle.overlay_base.specs.Segments.{WholeSegment, pairs, ends}
use Rattle.overlay_intersections.specs.Crossing.{is_exact, settling_point}
use Rattle.overlay_intersections.specs.Marks.{cross_inexactly}
use Rattle.overlay_cuts.proofs.laws.paths.Paths.{Pairwise-distinct_in_order}
use Rattle.overlay_snapping.specs.Chains.{crossings_by, rounded_crossings, whole_crossings, given_points, rounded, passed, IsChainPoint, IsCutAt, moving, staying, IsSnapped}
use Rattle.overlay_snapping.specs.Counts.{end_count, chain_points}
use Rattle.overlay_snapping.specs.Laws.{ChainPointsAreListed, SnappedHasFew}
use Rattle.overlay_snapping.proofs.laws.chains.MarkPoints.{Has-crossings_by, Has-crossings_by_out, inexact_parts, inexact_from}
use Rattle.overlay_snapping.proofs.laws.counting.Counts.{planar_has_few}
use Rattle.overlay_snapping.proofs.laws.counting.Pigeons.{few_pigeons}
use Rattle.overlay_snapping.proofs.laws.planarity.Planar.{snapped_is_planar, snapped_of_chains, cut_at_end}

-- ---- the points of chains, as a list

Has-distinct_out : (points : List Point) (c : Point) → Has (distinct_in_order point_cmp points) c → Has points c
Has-distinct_out points c i = AllByRecursion-at (Has points) (distinct_in_order point_cmp points) c (AllByRecursion-distinct_in_order point_cmp (Has points) points (AllByRecursion-from_Has (Has points) points (λ x j. j))) i

module _ (segments : List Pair) (c : Point) where
  crossing_of : Has (crossings_by do_cross segments) c → IsChainPoint segments c
  crossing_of i = by (Has-crossings_by_out do_cross segments c i)
    where
      by : (s t : Pair) × Has segments s × Has segments t × IsTrue (do_cross s t) × (settling_point s t ≡ c) → IsChainPoint segments c
      by (s, t, j, k, h, same) =
          ⊎_elim
          (λ e. inr (Contains-from_Has (given_points segments) c (Has-append_right (ends segments) (whole_crossings segments) c (subst (Has (whole_crossings segments)) same (Has-crossings_by (λ s t. do_cross s t && is_exact s t) segments s t j k (and_from (do_cross s t) (is_exact s t) h e))))))
          (λ n. inl (rounded (Contains-from_Has (rounded_crossings segments) c (subst (Has (rounded_crossings segments)) same (Has-crossings_by cross_inexactly segments s t j k (inexact_from s t h n))))))
          (cases_Bool (is_exact s t))

  given_in : Contains (given_points segments) c → Has (ends segments ++ crossings_by do_cross segments) c
  given_in i =
      ⊎_elim
      (λ j. Has-append_left (ends segments) (crossings_by do_cross segments) c j)
      (λ j.
      let by = Has-crossings_by_out (λ s t. do_cross s t && is_exact s t) segments c j in
      Has-append_right (ends segments) (crossings_by do_cross segments) c (subst (Has (crossings_by do_cross segments)) by.5 (Has-crossings_by do_cross segments by.0 by.1 by.2 by.3 (and_parts (do_cross by.0 by.1) (is_exact by.0 by.1) by.4).0)))
      (Has-append_out (ends segments) (whole_crossings segments) c (Has-from_Contains (given_points segments) c i))

  point_in : IsChainPoint segments c → Has (ends segments ++ crossings_by do_cross segments) c
  point_in (inl (rounded i)) =
      let by = Has-crossings_by_out cross_inexactly segments c (Has-from_Contains (rounded_crossings segments) c i) in
      Has-append_right (ends segments) (crossings_by do_cross segments) c (subst (Has (crossings_by do_cross segments)) by.5 (Has-crossings_by do_cross segments by.0 by.1 by.2 by.3 (inexact_parts by.0 by.1 by.4).0))
  point_in (inl (passed i m p)) = given_in i
  point_in (inr i) = given_in i

  point_of : Has (ends segments ++ crossings_by do_cross segments) c → IsChainPoint segments c
  point_of i = ⊎_elim (λ j. inr (Contains-from_Has (given_points segments) c (Has-append_left (ends segments) (whole_crossings segments) c j))) crossing_of (Has-append_out (ends segments) (crossings_by do_cross segments) c i)

  Has-chain_points : IsChainPoint segments c → Has (chain_points segments) c
  unfolding chain_points
  Has-chain_points h = Has-distinct_in_order point_cmp_total point_same (ends segments ++ crossings_by do_cross segments) c (point_in h)

pub chain_points_are_listed : ChainPointsAreListed
unfolding chain_points
chain_points_are_listed segments c = (
  λ i. point_of segments c (Has-distinct_out (ends segments ++ crossings_by do_cross segments) c (Has-from_Contains (chain_points segments) c i)),
  λ h. Contains-from_Has (chain_points segments) c (Has-chain_points segments c h),
)

-- ---- the result

point_of_cut : (segments : List Pair) (s : Pair) (c : Point) → IsCutAt segments s c → IsChainPoint segments c
point_of_cut segments s c (moving m p h) = p
point_of_cut segments s c (staying n p h) = p

-- it ends at points of chains
few_ends : (segments result : List WholeSegment) → IsSnapped segments result → end_count result ≤ length (chain_points (pairs segments))
unfolding end_count
few_ends segments result is = few_pigeons (λ p q. p ≡ q) (distinct_in_order point_cmp all) (chain_points (pairs segments)) differ listed (λ p q r _ _ e f. e ∙ sym f)
  where
    all : List Point
    all = ends (pairs result)

    differ : Pairwise (λ p q. (p ≡ q) → ⊥) (distinct_in_order point_cmp (ends (pairs result)))
    differ = Pairwise-weaker Before (λ p q. (p ≡ q) → ⊥) (λ p q h e. Before-irreflexive q (subst (λ r. Before r q) e h)) (distinct_in_order point_cmp (ends (pairs result))) (Pairwise-distinct_in_order (ends (pairs result)))

    listed : (p : Point) → Has (distinct_in_order point_cmp (ends (pairs result))) p → (q : Point) × Has (chain_points (pairs segments)) q × (p ≡ q)
    listed p i =
        let there = Has-flat_map_out (λ (u : Pair). u.a ∷ u.b ∷ []) (pairs result) p (Has-distinct_out (ends (pairs result)) p i) in
        let piece = snapped_of_chains segments result is there.0 there.1 in
        (p, Has-chain_points (pairs segments) p (point_of_cut (pairs segments) piece.segment p (cut_at_end (pairs segments) there.0 piece p there.2)), refl)

pub snapped_has_few : SnappedHasFew
snapped_has_few segments [] o is = omega arith
snapped_has_few segments (r ∷ rest) o is =
    let planar = snapped_is_planar segments (r ∷ rest) o is in
    let ends_few = few_ends segments (r ∷ rest) is in
    let few = planar_has_few (r ∷ rest) planar.0 planar.1 (omega arith) in
    omega (arith, few, ends_few)
