-- Two regions that two shapes make have a common edge exactly if the boundary of the one shape has a point inside the other, or outside.
use Rattle.std.proofs.Common.{◌≡◌, ap, ap₂, refl, sym, subst, ◌∙◌, arith, ℕ, ◌+◌, ◌<◌, ◌≤◌, inl, inr}
use Rattle.std.specs.Prelude.{IsTrue, Bool, true, false, not, ◌⊎◌, List}
use Rattle.std.specs.List.{list_all, list_any}
use Rattle.std.proofs.lemmas.Bool.{both_ways, cases_Bool, false_from_ne_true}
use Rattle.overlay_geometry.specs.Meeting.{are_apart}
use Rattle.overlay_geometry.specs.Points.{Point, Pair}
use Rattle.overlay_geometry.proofs.laws.geometry.Points.{Before}
use Rattle.overlay_geometry.proofs.laws.lists.Lists.{Has, list_any-at, Has-from_list_any}
use Rattle.overlay_base.specs.Places.{RationalPoint}
use Rattle.overlay_base.specs.Rays.{goes_through}
use Rattle.overlay_base.specs.declared.overlay_core.fill_rule.FillRule.{FillRule}
use Rattle.overlay_cuts.specs.Places.{IsFar}
use Rattle.overlay_contours.specs.Contours.{edges, winding_number}
use Rattle.overlay_relations.specs.Contacts.{IsCloser, HasCloser, Borders, IsOnBoundary}
use Rattle.overlay_relations.specs.Relations.{is_in}
use Rattle.overlay_relations.proofs.laws.CrossingPlaces.{IsOffLines}
use Rattle.overlay_relations.proofs.laws.Boundaries.{edges_ordered, far_alone, truth_same}
use Rattle.overlay_relations.proofs.laws.Closeness.{close_weaker}
use Rattle.overlay_relations.proofs.laws.SharedPoints.{IsCloseInside, edge_borders, steady_contours, close_inside}
use Rattle.overlay_relations.proofs.laws.AcrossEdges.{middle, beside_middle, small, side_some, side_off, side_close, IsRegion, fine, across, only_edge}

-- ---- truth values

pub either : (a b c : Bool) → (a ≡ b → ⊥) → (a ≡ c) ⊎ (b ≡ c)
either true true c h = absurd (h refl)
either true false true h = inl refl
either true false false h = inr refl
either false true true h = inr refl
either false true false h = inl refl
either false false c h = absurd (h refl)

is_or_not : (a b : Bool) → (a ≡ b) ⊎ (a ≡ not b)
is_or_not true true = inl refl
is_or_not true false = inr refl
is_or_not false true = inr refl
is_or_not false false = inl refl

not_itself : (a : Bool) → a ≡ not a → ⊥
not_itself true e = both_ways false refl (sym e)
not_itself false e = both_ways true (sym e) refl

-- Two functions of two truth values. Both change exactly where the first value changes and the second is as given.
pub record Tells (first second : Bool → Bool → Bool) (wanted : Bool) : Type 0 where
  pub both : (a b c d : Bool) → (first a b ≡ first c d → ⊥) → (second a b ≡ second c d → ⊥) → (a ≡ c → ⊥) × (b ≡ wanted) × (d ≡ wanted)
  pub one : (a c b : Bool) → (first a b ≡ first c b → ⊥) → second a b ≡ second c b → ⊥
  pub differ : first true wanted ≡ first false wanted → ⊥

less_left : (a b k : ℕ) → a + b ≤ k → a ≤ k
less_left a b k h = omega (arith, h)

less_right : (a b k : ℕ) → a + b ≤ k → b ≤ k
less_right a b k h = omega (arith, h)

le_itself : (k : ℕ) → k ≤ k
le_itself k = omega arith

-- ---- two shapes: x with the boundary, and y with the inside or the outside

module _ (rule_x rule_y : FillRule) (xs ys : List (List Point)) (lines : List Pair) (each : (g : Pair) → Has lines g → Before g.a g.b) (Clear : RationalPoint → Type 0) (clear : (q : RationalPoint) → IsOffLines lines q → Clear q)
    (far_x : (q : RationalPoint) → Clear q → IsFar 0 q (edges xs)) (far_y : (q : RationalPoint) → Clear q → IsFar 0 q (edges ys))
    (first second : Bool → Bool → Bool) (wanted : Bool) (tells : Tells first second wanted)
    (r s t : List (List Point)) (ir : IsRegion Clear (λ p. first (is_in rule_x xs p) (is_in rule_y ys p)) r) (is : IsRegion Clear (λ p. second (is_in rule_x xs p) (is_in rule_y ys p)) s) (it : IsRegion Clear (λ p. is_in rule_y ys p) t)
    (rs : IsTrue (list_all (λ e. list_all (λ g. are_apart e g) (edges s)) (edges r))) (rt : IsTrue (list_all (λ e. list_all (λ g. are_apart e g) (edges t)) (edges r))) where
  abbrev in_x : RationalPoint → Bool
  in_x p = is_in rule_x xs p

  abbrev in_y : RationalPoint → Bool
  in_y p = is_in rule_y ys p

  abbrev of_r : RationalPoint → Bool
  of_r p = first (in_x p) (in_y p)

  abbrev of_s : RationalPoint → Bool
  of_s p = second (in_x p) (in_y p)

  -- around clear points in a box a region has one value
  alike : (value : RationalPoint → Bool) (region : List (List Point)) → IsRegion Clear value region → (m : RationalPoint) (n : ℕ) → ((q : RationalPoint) → 0 < q.bottom → IsCloser n m q → winding_number region q ≡ winding_number region m)
      → (p q : RationalPoint) → 0 < p.bottom → 0 < q.bottom → Clear p → Clear q → IsCloser n m p → IsCloser n m q → value p ≡ value q
  alike value region i m n box p q sp sq cp cq np nq = truth_same _ _ (sym (i.around p sp cp) ∙ box p sp np ∙ sym (box q sq nq) ∙ i.around q sq cq)

  module _ (e : Pair) (m : Has (edges r) e) where
    abbrev o : Before e.a e.b
    o = edges_ordered r e m

    abbrev at : Bool → ℕ → RationalPoint
    at left k = beside_middle lines each e o left k

    clear_at : (n : ℕ) (left : Bool) (k : ℕ) → small lines each e o n ≤ k → Clear (at left k)
    clear_at n left k h = clear (at left k) (side_off lines each e o n left k h)

    -- ---- where it is an edge of both

    module _ (j : Has (edges s) e) where
      abbrev parts : ℕ → ℕ
      parts n = small lines each e o n + (fine lines each Clear clear of_r r ir e o + fine lines each Clear clear of_s s is e o)

      values : (n k : ℕ) → parts n ≤ k → (in_x (at true k) ≡ in_x (at false k) → ⊥) × (in_y (at true k) ≡ wanted) × (in_y (at false k) ≡ wanted)
      values n k h =
          tells.both _ _ _ _
          (across lines each Clear clear of_r r ir e m o n k (less_left _ _ k h) (less_left _ _ k (less_right _ _ k h)))
          (across lines each Clear clear of_s s is e j o n k (less_left _ _ k h) (less_right _ _ k (less_right _ _ k h)))

      of_side : (n k : ℕ) (left : Bool) → small lines each e o n ≤ k → (inside : Bool) → in_x (at left k) ≡ inside → HasCloser rule_x xs inside (middle e) n
      of_side n k left h inside here = record {
        point = at left k;
        some = side_some lines each e o n left k h;
        closer = side_close lines each e o n left k h;
        off_edges = far_alone (at left k) xs (far_x (at left k) (clear_at n left k h));
        here = here;
      }

      pub edge_on : IsOnBoundary rule_x xs (middle e)
      edge_on inside n =
          let k = parts n in
          let h = less_left (small lines each e o n) _ k (le_itself k) in
          elim (either (in_x (at true k)) (in_x (at false k)) inside (values n k (le_itself k)).0) [
            | inl here ↦ of_side n k true h inside here
            | inr here ↦ of_side n k false h inside here
          ]

      passes : (g : Pair) → Has (edges t) g → goes_through g (middle e) ≡ false
      passes g i = false_from_ne_true _ (λ on.
          let same = only_edge r t rt e g m i on in
          let here = subst (Has (edges t)) (sym same) i in
          let last = fine lines each Clear clear in_y t it e o in
          let k = parts 0 + last in
          let h = less_left (parts 0) last k (le_itself k) in
          let v = values 0 k h in
          across lines each Clear clear in_y t it e here o 0 k (less_left _ _ k h) (less_right (parts 0) last k (le_itself k)) (v.1 ∙ sym v.2))

      pub edge_not : Borders rule_y ys (not wanted) (middle e) → ⊥
      edge_not borders =
          let box = steady_contours t (middle e) (omega arith) passes in
          let q = close_inside rule_y ys (not wanted) (middle e) (omega arith) borders lines each box.0 in
          let k = parts box.0 in
          let h = less_left (small lines each e o box.0) _ k (le_itself k) in
          not_itself wanted
          (sym (values box.0 k (le_itself k)).1
          ∙ alike in_y t it (middle e) box.0 box.1 (at true k) q.place (side_some lines each e o box.0 true k h) q.some_place (clear_at box.0 true k h) (clear q.place q.off_lines) (side_close lines each e o box.0 true k h) q.closer
          ∙ q.here)

    -- ---- where the middle is off the other shape's boundary

    module _ (off : (g : Pair) → Has (edges t) g → goes_through g (middle e) ≡ false) where
      differs : (p : ℕ) → ((q : RationalPoint) → 0 < q.bottom → IsCloser p (middle e) q → winding_number s q ≡ winding_number s (middle e)) → ⊥
      differs p box_s =
          let box = steady_contours t (middle e) (omega arith) off in
          let n = box.0 + p in
          let k = small lines each e o n + fine lines each Clear clear of_r r ir e o in
          let h = less_left (small lines each e o n) _ k (le_itself k) in
          let some = λ (left : Bool). side_some lines each e o n left k h in
          let near = λ (left : Bool). side_close lines each e o n left k h in
          let same : in_y (at true k) ≡ in_y (at false k) = alike in_y t it (middle e) box.0 box.1 (at true k) (at false k) (some true) (some false) (clear_at n true k h) (clear_at n false k h)
          (close_weaker box.0 n (middle e) (at true k) (first_part box.0 p) (near true)) (close_weaker box.0 n (middle e) (at false k) (first_part box.0 p) (near false)) in
          let both : of_s (at true k) ≡ of_s (at false k) = alike of_s s is (middle e) p box_s (at true k) (at false k) (some true) (some false) (clear_at n true k h) (clear_at n false k h)
          (close_weaker p n (middle e) (at true k) (second_part box.0 p) (near true)) (close_weaker p n (middle e) (at false k) (second_part box.0 p) (near false)) in
          tells.one (in_x (at true k)) (in_x (at false k)) (in_y (at true k))
          (λ f. across lines each Clear clear of_r r ir e m o n k h (less_right (small lines each e o n) _ k (le_itself k)) (f ∙ ap (first (in_x (at false k))) same))
          (both ∙ ap (second (in_x (at false k))) (sym same))
        where
          first_part : (a b : ℕ) → a ≤ a + b
          first_part a b = omega arith

          second_part : (a b : ℕ) → b ≤ a + b
          second_part a b = omega arith

      pub in_second : Has (edges s) e
      in_second = elim (cases_Bool (list_any (λ g. goes_through g (middle e)) (edges s))) [
        | inl h ↦ let g = Has-from_list_any (λ g. goes_through g (middle e)) (edges s) h in subst (Has (edges s)) (sym (only_edge r s rs e g.0 m g.1 g.2)) g.1
        | inr h ↦ let box = steady_contours s (middle e) (omega arith) (λ g i. list_any-at (λ g. goes_through g (middle e)) (edges s) g h i) in absurd (differs box.0 box.1)
      ]

  -- ---- from a point to a common edge

  module _ (p : RationalPoint) (some : 0 < p.bottom) (on : IsOnBoundary rule_x xs p) (no : Borders rule_y ys (not wanted) p → ⊥) where
    off_t : (g : Pair) → Has (edges t) g → goes_through g p ≡ false
    off_t g i = false_from_ne_true _ (λ h. no (λ n.
        let q = edge_borders t it.apart it.once in_y Clear it.around g i p some h lines each clear (not wanted) n in
        record { point = q.0; some = q.1; closer = q.3; off_edges = far_alone q.0 ys (far_y q.0 (clear q.0 q.2)); here = q.4 }))

    box_t : (n : ℕ) × ((q : RationalPoint) → 0 < q.bottom → IsCloser n p q → winding_number t q ≡ winding_number t p)
    box_t = steady_contours t p some off_t

    near_x : (inside : Bool) (n : ℕ) → IsCloseInside rule_x xs inside p some (on inside) lines each n
    near_x inside n = close_inside rule_x xs inside p some (on inside) lines each n

    left_part : (a b : ℕ) → a ≤ a + b
    left_part a b = omega arith

    right_part : (a b : ℕ) → b ≤ a + b
    right_part a b = omega arith

    y_near : (q : RationalPoint) → 0 < q.bottom → Clear q → IsCloser box_t.0 p q → in_y q ≡ wanted
    y_near q sq cq nq = elim (is_or_not (in_y q) wanted) [
      | inl e ↦ e
      | inr e ↦ absurd (no (λ n.
          let c = near_x true (n + box_t.0) in
          record {
            point = c.place;
            some = c.some_place;
            closer = close_weaker n (n + box_t.0) p c.place (left_part n box_t.0) c.closer;
            off_edges = far_alone c.place ys (far_y c.place (clear c.place c.off_lines));
            here = alike in_y t it p box_t.0 box_t.1 c.place q c.some_place sq (clear c.place c.off_lines) cq (close_weaker box_t.0 (n + box_t.0) p c.place (right_part n box_t.0) c.closer) nq ∙ e;
          }))
    ]

    r_value : (inside : Bool) (n : ℕ) → of_r (near_x inside (n + box_t.0)).place ≡ first inside wanted
    r_value inside n =
        let c = near_x inside (n + box_t.0) in
        ap₂ first c.here (y_near c.place c.some_place (clear c.place c.off_lines) (close_weaker box_t.0 (n + box_t.0) p c.place (right_part n box_t.0) c.closer))

    not_off_r : list_any (λ g. goes_through g p) (edges r) ≡ false → ⊥
    not_off_r h =
        let box = steady_contours r p some (λ g i. list_any-at (λ g. goes_through g p) (edges r) g h i) in
        let c = near_x true (box.0 + box_t.0) in
        let d = near_x false (box.0 + box_t.0) in
        tells.differ
        (sym (r_value true box.0)
        ∙ alike of_r r ir p box.0 box.1 c.place d.place c.some_place d.some_place (clear c.place c.off_lines) (clear d.place d.off_lines)
        (close_weaker box.0 (box.0 + box_t.0) p c.place (left_part box.0 box_t.0) c.closer) (close_weaker box.0 (box.0 + box_t.0) p d.place (left_part box.0 box_t.0) d.closer)
        ∙ r_value false box.0)

    pub common_edge : (e : Pair) × Has (edges r) e × Has (edges s) e
    common_edge = elim (cases_Bool (list_any (λ g. goes_through g p) (edges r))) [
      | inl h ↦
          let e = Has-from_list_any (λ g. goes_through g p) (edges r) h in
          (e.0, e.1, in_second e.0 e.1 (λ g i. false_from_ne_true _ (λ q. both_ways (goes_through g p) (off_t g i) (subst (λ (c : Pair). goes_through c p ≡ true) (only_edge r t rt e.0 g e.1 i q) e.2))))
      | inr h ↦ absurd (not_off_r h)
    ]
