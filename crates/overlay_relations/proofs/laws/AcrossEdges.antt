-- Near the middle of an edge, on its two sides, the regions of contours that have the edge take both values. Where two regions that two
-- shapes make have a common edge, one shape has it on its boundary and the other has it inside, or outside.
use Rattle.std.proofs.Common.{◌≡◌, ap, refl, sym, subst, ◌∙◌, arith, ℕ, ◌+◌, ◌*◌, ◌<◌, ◌≤◌, inl, inr}
use Rattle.std.specs.Prelude.{unsigned_abs, IsTrue, Bool, true, false, List, count_by}
use Rattle.std.specs.List.{list_all}
use Rattle.std.proofs.lemmas.Bool.{cases_Bool}
use Rattle.overlay_geometry.specs.Meeting.{are_apart}
use Rattle.overlay_geometry.specs.Points.{Point, Pair, pair_eq}
use Rattle.overlay_geometry.proofs.laws.geometry.Points.{Before, same_pair_by_eq, not_same_pair}
use Rattle.overlay_geometry.proofs.laws.lists.Lists.{Has, list_all-at}
use Rattle.overlay_base.specs.Places.{RationalPoint}
use Rattle.overlay_base.specs.Rays.{goes_through}
use Rattle.overlay_base.specs.Segments.{WholeSegment}
use Rattle.overlay_base.specs.declared.segm.shape_type.ShapeType.TheVariants.{Subject}
use Rattle.overlay_build.specs.Boundary.{truth}
use Rattle.overlay_sweep.proofs.laws.columns.ColumnOrder.{is_apart}
use Rattle.overlay_contours.specs.Contours.{edges, winding_number}
use Rattle.overlay_relations.specs.Contacts.{IsCloser}
use Rattle.overlay_relations.proofs.laws.InsidePlaces.{off_others, mean_of, mean_inside}
use Rattle.overlay_relations.proofs.laws.NearPlaces.{near, turn_by, fineness, fine_enough}
use Rattle.overlay_relations.proofs.laws.NearUprights.{near_top, near_bottom}
use Rattle.overlay_relations.proofs.laws.CrossingPlaces.{above_all, IsWay, the_way, upright_on, upright_some, IsOffLines, near_off_line}
use Rattle.overlay_relations.proofs.laws.Boundaries.{arc, arranged, on_top, at_bottom, sides_differ, edges_ordered}
use Rattle.overlay_relations.proofs.laws.Closeness.{some_product, near_close}
use Rattle.overlay_relations.proofs.laws.ContourEnds.{not_off}
use Rattle.overlay_relations.proofs.laws.SharedPoints.{edge_segment}

-- ---- points on both sides of a pair, at its middle

abbrev pub middle : Pair → RationalPoint
middle e = mean_of e 1 1

module _ (lines : List Pair) (each : (g : Pair) → Has lines g → Before g.a g.b) (e : Pair) (o : Before e.a e.b) where
  abbrev pub way_to : (left : Bool) → IsWay e (upright_on e) lines left true
  way_to left = the_way e (upright_on e) (upright_some e o) lines each left true

  -- a part of the way from the middle to a side
  abbrev pub beside_middle : Bool → ℕ → RationalPoint
  beside_middle left k = near (middle e) (way_to left).step k

  sum_of : (left : Bool) → ℕ
  sum_of left = (above_all (λ g. unsigned_abs (turn_by g (way_to left).step)) lines).0

  -- parts so small that both points are on no line, and nearer to the middle than one n-th
  small_for : ℕ → Bool → ℕ
  small_for n left = sum_of left + n * unsigned_abs (way_to left).step.x + n * unsigned_abs (way_to left).step.y + 1

  pub small : ℕ → ℕ
  small n = small_for n true + small_for n false

  first_less : (a b c f k : ℕ) → f < a → a + b + c + 1 ≤ k → f < k
  first_less a b c f k l h = omega (arith, l, h)

  second_less : (a b c k : ℕ) → a + b + c + 1 ≤ k → b < k
  second_less a b c k h = omega (arith, h)

  third_less : (a b c k : ℕ) → a + b + c + 1 ≤ k → c < k
  third_less a b c k h = omega (arith, h)

  of_side : (n : ℕ) (left : Bool) (k : ℕ) → small n ≤ k → small_for n left ≤ k
  unfolding small
  of_side n true k h = omega (arith, h)
  of_side n false k h = omega (arith, h)

  some_parts : (n : ℕ) (left : Bool) (k : ℕ) → small_for n left ≤ k → 0 < k
  unfolding small_for
  some_parts n left k h = omega (arith, h)

  pub side_some : (n : ℕ) (left : Bool) (k : ℕ) → small n ≤ k → 0 < (beside_middle left k).bottom
  side_some n left k h = some_product k 2 (some_parts n left k (of_side n left k h)) (omega arith)

  pub side_off : (n : ℕ) (left : Bool) (k : ℕ) → small n ≤ k → IsOffLines lines (beside_middle left k)
  unfolding small_for sum_of
  side_off n left k h g m =
      near_off_line g (middle e) (way_to left).step k
      (first_less (sum_of left) (n * unsigned_abs (way_to left).step.x) (n * unsigned_abs (way_to left).step.y) _ k ((above_all (λ g. unsigned_abs (turn_by g (way_to left).step)) lines).1 g m) (of_side n left k h))
      ((way_to left).off_lines g m)

  pub side_close : (n : ℕ) (left : Bool) (k : ℕ) → small n ≤ k → IsCloser n (middle e) (beside_middle left k)
  unfolding small_for
  side_close n left k h =
      near_close n (middle e) (way_to left).step k (omega arith)
      (second_less (sum_of left) (n * unsigned_abs (way_to left).step.x) (n * unsigned_abs (way_to left).step.y) k (of_side n left k h))
      (third_less (sum_of left) (n * unsigned_abs (way_to left).step.x) (n * unsigned_abs (way_to left).step.y) k (of_side n left k h))

-- ---- a region that has the edge

-- contours that wind once around the clear points that a function is true of, each of their edges once, and no two with more than an end in common
pub record IsRegion (Clear : RationalPoint → Type 0) (value : RationalPoint → Bool) (region : List (List Point)) : Type 0 where
  pub apart : IsTrue (list_all (λ s. list_all (λ t. are_apart s t) (edges region)) (edges region))
  pub once : (e : Pair) → count_by (λ s. pair_eq s e) (edges region) ≤ 1
  pub around : (p : RationalPoint) → 0 < p.bottom → Clear p → winding_number region p ≡ truth (value p)

module _ (lines : List Pair) (each : (g : Pair) → Has lines g → Before g.a g.b) (Clear : RationalPoint → Type 0) (clear : (q : RationalPoint) → IsOffLines lines q → Clear q) where
  module _ (value : RationalPoint → Bool) (region : List (List Point)) (is : IsRegion Clear value region) where
    abbrev xs : List WholeSegment
    xs = arc Subject region is.apart value Clear is.around

    fine_for : (e : Pair) → Before e.a e.b → Bool → ℕ
    fine_for e o left = (above_all (λ (u : WholeSegment). fineness e (way_to lines each e o left).step u.pair) xs).0

    pub fine : (e : Pair) → Before e.a e.b → ℕ
    fine e o = fine_for e o true + fine_for e o false

    fine_side : (e : Pair) (o : Before e.a e.b) (left : Bool) (k : ℕ) → fine e o ≤ k → fine_for e o left ≤ k
    unfolding fine
    fine_side e o true k h = omega (arith, h)
    fine_side e o false k h = omega (arith, h)

    less_up : (f a k : ℕ) → f < a → a ≤ k → f < k
    less_up f a k h l = omega (arith, h, l)

    across_at : (s : WholeSegment) → Has xs s → (o : Before s.pair.a s.pair.b) (n k : ℕ) → small lines each s.pair o n ≤ k → fine s.pair o ≤ k → value (beside_middle lines each s.pair o true k) ≡ value (beside_middle lines each s.pair o false k) → ⊥
    unfolding fine_for
    across_at s i o n k h l same =
        let on = arranged Subject region is.apart value Clear is.around in
        let center = mean_inside s.pair 1 1 o (omega arith) (omega arith) in
        let at = λ (left : Bool). beside_middle lines each s.pair o left k in
        let fine_at = λ (left : Bool) (u : WholeSegment) (j : Has xs u).
        fine_enough s.pair (way_to lines each s.pair o left).step k u.pair
        (less_up _ _ k ((above_all (λ (u : WholeSegment). fineness s.pair (way_to lines each s.pair o left).step u.pair) xs).1 u j) (fine_side s.pair o left k l)) in
        let some = λ (left : Bool). side_some lines each s.pair o n left k h in
        let off = λ (left : Bool). clear (at left) (side_off lines each s.pair o n left k h) in
        let top = near_top xs on s i (middle s.pair) (omega arith) center (way_to lines each s.pair o true).step k (fine_at true) (some true) ((way_to lines each s.pair o true).s_up refl) in
        let bottom = near_bottom xs on s i (middle s.pair) (omega arith) center (way_to lines each s.pair o false).step k (fine_at false) (some false) ((way_to lines each s.pair o false).s_down refl) in
        sides_differ Subject region is.apart value Clear is.around s i (
        sym (at_bottom Subject region is.apart value Clear is.around s i (at false) (some false) (λ e. absurd (cc), λ f. bottom) (off false))
        ∙ ap truth (sym same)
        ∙ on_top Subject region is.apart value Clear is.around s i (at true) (some true) (λ f. top, λ e. absurd (cc)) (off true)
        )

    -- the value of a region differs on the two sides of its edges
    pub across : (e : Pair) → Has (edges region) e → (o : Before e.a e.b) (n k : ℕ) → small lines each e o n ≤ k → fine e o ≤ k → value (beside_middle lines each e o true k) ≡ value (beside_middle lines each e o false k) → ⊥
    across e m o n k =
        let here = edge_segment region is.apart is.once value Clear is.around e m in
        subst (λ (g : Pair). (o : Before g.a g.b) → small lines each g o n ≤ k → fine g o ≤ k → value (beside_middle lines each g o true k) ≡ value (beside_middle lines each g o false k) → ⊥) here.2
        (λ o h l. across_at here.0 here.1 o n k h l) o

-- ---- planarity: what goes through the middle of an edge is that edge

pub only_edge : (first second : List (List Point)) → IsTrue (list_all (λ s. list_all (λ t. are_apart s t) (edges second)) (edges first)) → (e g : Pair) → Has (edges first) e → Has (edges second) g → goes_through g (middle e) ≡ true → e ≡ g
only_edge first second apart e g m k on = elim (cases_Bool (pair_eq e g)) [
  | inl same ↦ same_pair_by_eq e g same
  | inr other ↦ absurd (
      not_off g (middle e) (omega arith) (edges_ordered second g k) on
      (off_others e g (middle e) (omega arith) (edges_ordered first e m) (edges_ordered second g k) (mean_inside e 1 1 (edges_ordered first e m) (omega arith) (omega arith))
      (is_apart e g (list_all-at (λ t. are_apart e t) (edges second) g (list_all-at (λ s. list_all (λ t. are_apart s t) (edges second)) (edges first) e apart m) k)) (not_same_pair e g other)))
]
