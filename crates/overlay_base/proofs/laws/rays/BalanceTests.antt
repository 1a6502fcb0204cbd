-- A list is balanced where the counts at its ends, joined, are none: the winding of these counts at a point is the balance there.
use Rattle.std.proofs.Common.{◌≡◌, refl, sym, ap, ap₂, ◌∙◌, Bool, true, false, cond, List, [], ◌∷◌, inl, inr}
use Rattle.std.specs.Prelude.{◌&&◌}
use Rattle.std.proofs.lemmas.Bool.{and_parts, cases_Bool, both_ways, false_from_ne_true}
use Rattle.overlay_geometry.specs.Points.{Point, Pair, point_cmp, point_eq, pair_eq}
use Rattle.overlay_base.specs.Windings.{Winding, empty, add, inverse, weight}
use Rattle.overlay_base.specs.Segments.{WholeSegment, winding_at}
use Rattle.overlay_geometry.specs.Sorting.{distinct_in_order}
use Rattle.overlay_base.specs.Join.{summed, join}
use Rattle.overlay_base.specs.Balance.{balance, IsBalanced}
use Rattle.overlay_base.specs.BalanceTest.{point_pair, end_counts}
use Rattle.overlay_base.specs.Sums.{gathered}
use Rattle.overlay_base.specs.Laws.{BalanceIsTested}
use Rattle.overlay_geometry.proofs.laws.geometry.Points.{same_by_eq, is_eq-then}
use Rattle.overlay_base.proofs.laws.counts.Windings.{add_assoc, empty-add}
use Rattle.overlay_base.proofs.laws.joins.Bags.{winding_at-nil, winding_at-cons, winding_at-join}
use Rattle.overlay_base.proofs.laws.joins.Maps.{join_from_windings}
use Rattle.overlay_base.proofs.laws.joins.Functionals.{flow, balance-gathered}

pair_eq_points : (a : Point) (pair : Pair) → pair_eq (point_pair a) pair ≡ (point_eq a pair.a && point_eq a pair.b)
pair_eq_points a pair = is_eq-then (point_cmp a pair.a) (point_cmp a pair.b)

twice : (b : Bool) → (b && b) ≡ b
twice true = refl
twice false = refl

inverse_of : (b : Bool) (c : Winding) → cond b (inverse c) empty ≡ inverse (cond b c empty)
inverse_of true c = refl
inverse_of false c = refl

-- the winding at a point is the balance there
at_points : (segments : List WholeSegment) (p : Point) → winding_at (end_counts segments) (point_pair p) ≡ gathered add empty (λ s. flow p s.pair s.count) segments
unfolding end_counts
at_points [] p = winding_at-nil (point_pair p)
at_points (s ∷ ss) p =
    let here : (q : Point) → pair_eq (point_pair q) (point_pair p) ≡ point_eq q p = λ q. pair_eq_points q (point_pair p) ∙ twice (point_eq q p) in
    winding_at-cons _ _ (point_pair p)
    ∙ ap₂ add (ap (λ (b : Bool). cond b (weight s.count) empty) (here s.pair.a))
    (winding_at-cons _ _ (point_pair p) ∙ ap₂ add (ap (λ (b : Bool). cond b (inverse (weight s.count)) empty) (here s.pair.b) ∙ inverse_of (point_eq s.pair.b p) (weight s.count)) (at_points ss p))
    ∙ sym (add_assoc (cond (point_eq s.pair.a p) (weight s.count) empty) (inverse (cond (point_eq s.pair.b p) (weight s.count) empty)) (gathered add empty (λ t. flow p t.pair t.count) ss))

pub balance_at : (segments : List WholeSegment) (p : Point) → winding_at (end_counts segments) (point_pair p) ≡ balance segments p
balance_at segments p = at_points segments p ∙ sym (balance-gathered segments p)

-- and on a pair of two points there is none
not_two : (a : Point) (pair : Pair) → point_eq pair.a pair.b ≡ false → pair_eq (point_pair a) pair ≡ false
not_two a pair h = false_from_ne_true _ (λ e.
    let parts = and_parts (point_eq a pair.a) (point_eq a pair.b) (sym (pair_eq_points a pair) ∙ e) in
    both_ways _ h (ap (λ (q : Point). point_eq q pair.b) (sym (same_by_eq a pair.a parts.0)) ∙ parts.1))

nowhere_else : (segments : List WholeSegment) (pair : Pair) → point_eq pair.a pair.b ≡ false → winding_at (end_counts segments) pair ≡ empty
unfolding end_counts
nowhere_else [] pair h = winding_at-nil pair
nowhere_else (s ∷ ss) pair h =
    winding_at-cons _ _ pair
    ∙ ap₂ add (ap (λ (b : Bool). cond b (weight s.count) empty) (not_two s.pair.a pair h))
    (winding_at-cons _ _ pair ∙ ap₂ add (ap (λ (b : Bool). cond b (inverse (weight s.count)) empty) (not_two s.pair.b pair h)) (nowhere_else ss pair h) ∙ empty-add empty)
    ∙ empty-add empty

of_pair : (pair : Pair) → point_eq pair.a pair.b ≡ true → point_pair pair.a ≡ pair
of_pair pair h = ap (λ (q : Point). let made : Pair = record { a = pair.a; b = q } in made) (same_by_eq pair.a pair.b h)

no_windings : (segments : List WholeSegment) → IsBalanced segments → (pair : Pair) → winding_at (end_counts segments) pair ≡ winding_at [] pair
no_windings segments balanced pair = elim (cases_Bool (point_eq pair.a pair.b)) [
  | inl h ↦ ap (winding_at (end_counts segments)) (sym (of_pair pair h)) ∙ balance_at segments pair.a ∙ balanced pair.a ∙ sym (winding_at-nil pair)
  | inr h ↦ nowhere_else segments pair h ∙ sym (winding_at-nil pair)
]

join_nil : join [] ≡ []
unfolding join summed distinct_in_order
join_nil = refl

pub balance_is_tested : BalanceIsTested
balance_is_tested segments = (
  λ none p. sym (balance_at segments p) ∙ sym (winding_at-join (end_counts segments) (point_pair p)) ∙ ap (λ (bag : List WholeSegment). winding_at bag (point_pair p)) none ∙ winding_at-nil (point_pair p),
  λ balanced. join_from_windings (end_counts segments) [] (no_windings segments balanced) ∙ join_nil,
)
