-- Sums over a bag that are those over its join: linear sums, weights of the pairs that pass a test, and balances, whose
-- numbers are linear sums.
use Rattle.std.proofs.Common.{◌≡◌, Bool, true, false, cond, List, filter, refl, sym, ap, ap₂, ◌∙◌, arith}
use Rattle.std.specs.Prelude.{ℤ, pos, ◌+ℤ◌, ◌-ℤ◌, ◌*ℤ◌, neg_ℤ}
use Rattle.std.proofs.lemmas.Int.{ints}
use Rattle.overlay_geometry.specs.Points.{Point, Pair, point_eq}
use Rattle.overlay_base.specs.Windings.{Winding, empty, add, inverse, weight}
use Rattle.overlay_base.specs.Segments.{WholeSegment, total_weight}
use Rattle.overlay_base.specs.Join.{join}
use Rattle.overlay_base.specs.Sums.{IsCommutativeMonoid, gathered, IsLinear, weighed}
use Rattle.overlay_base.specs.Laws.{NumbersAreLinear}
use Rattle.overlay_base.specs.Balance.{balance}
use Rattle.overlay_geometry.proofs.laws.geometry.Polynomials.{as_D, diffs, D-eq}
use Rattle.overlay_base.proofs.laws.counts.Windings.{cond-empty, inverse-add}
use Rattle.overlay_base.proofs.laws.lists.Monoids.{four, gathered-op, gathered-same, gathered-filter, gathered-through}
use Rattle.overlay_base.proofs.laws.joins.Bags.{windings_add, total_weight-gathered, gathered-join}
use Rattle.overlay_geometry.proofs.laws.integers.Products.{times_zero, zero_times}

-- ---- sums of whole numbers

pub whole_numbers_add : IsCommutativeMonoid ◌+ℤ◌ (pos 0)
whole_numbers_add = record { comm = λ a b. omega (arith, ints); assoc = λ a b c. omega (arith, ints); unit_left = λ a. omega (arith, ints) }

pub numbers_are_linear : NumbersAreLinear
numbers_are_linear = (record { at_empty = refl; at_sum = λ c d. refl }, record { at_empty = refl; at_sum = λ c d. refl })

times_sum : (a b c : ℤ) → a *ℤ (b +ℤ c) ≡ a *ℤ b +ℤ a *ℤ c
times_sum a b c = rw (as_D a, as_D b, as_D c) (simp diffs (D-eq _ _ _ _ (omega arith)))

module _ (g : Pair → ℤ) (part : Winding → ℤ) where
  -- a linear sum over a bag is that over its join
  pub weighed-join : IsLinear part → (bag : List WholeSegment) → weighed g part (join bag) ≡ weighed g part bag
  weighed-join l bag = gathered-join whole_numbers_add (λ p c. g p *ℤ part c) (λ p. ap (λ n. g p *ℤ n) l.at_empty ∙ times_zero (g p)) (λ p c d. ap (λ n. g p *ℤ n) (l.at_sum c d) ∙ times_sum (g p) (part c) (part d)) bag

-- ---- the segments whose pairs pass a test

at_weight : (b : Bool) (c d : Winding) → cond b (weight (add c d)) empty ≡ add (cond b (weight c) empty) (cond b (weight d) empty)
at_weight true c d = refl
at_weight false c d = refl

one_times : (a : ℤ) → pos 1 *ℤ a ≡ a
one_times a = omega (arith, ints)

pub at_subj : (b : Bool) (c : Winding) → (cond b (weight c) empty).subj ≡ cond b (pos 1) (pos 0) *ℤ c.subj
at_subj true c = sym (one_times c.subj)
at_subj false c = sym (zero_times c.subj)

pub at_clip : (b : Bool) (c : Winding) → (cond b (weight c) empty).clip ≡ cond b (pos 1) (pos 0) *ℤ c.clip
at_clip true c = sym (one_times c.clip)
at_clip false c = sym (zero_times c.clip)

pub total_weight-filter : (test : Pair → Bool) (bag : List WholeSegment) → total_weight (filter (λ s. test s.pair) bag) ≡ gathered add empty (λ s. cond (test s.pair) (weight s.count) empty) bag
total_weight-filter test bag = total_weight-gathered (filter (λ s. test s.pair) bag) ∙ gathered-filter windings_add (λ s. weight s.count) (λ s. test s.pair) bag

-- the weights at any pairs are those of the join
pub total_weight-filter_join : (test : Pair → Bool) (bag : List WholeSegment) → total_weight (filter (λ s. test s.pair) (join bag)) ≡ total_weight (filter (λ s. test s.pair) bag)
total_weight-filter_join test bag = total_weight-filter test (join bag) ∙ gathered-join windings_add (λ p c. cond (test p) (weight c) empty) (λ p. cond-empty (test p)) (λ p c d. at_weight (test p) c d) bag ∙ sym (total_weight-filter test bag)

-- ---- balance

-- what a count on a pair brings to the balance at p
abbrev pub flow : Point → Pair → Winding → Winding
flow p pair c = add (cond (point_eq pair.a p) (weight c) empty) (inverse (cond (point_eq pair.b p) (weight c) empty))

pub balance-gathered : (bag : List WholeSegment) (p : Point) → balance bag p ≡ gathered add empty (λ s. flow p s.pair s.count) bag
unfolding balance
balance-gathered bag p =
    ap₂ add (total_weight-filter (λ s. point_eq s.a p) bag)
    (ap inverse (total_weight-filter (λ s. point_eq s.b p) bag) ∙ gathered-through add empty add empty inverse refl inverse-add (λ (s : WholeSegment). cond (point_eq s.pair.b p) (weight s.count) empty) bag)
    ∙ sym (gathered-op windings_add (λ (s : WholeSegment). cond (point_eq s.pair.a p) (weight s.count) empty) (λ s. inverse (cond (point_eq s.pair.b p) (weight s.count) empty)) bag)

pub flow-add : (p : Point) (pair : Pair) (c d : Winding) → flow p pair (add c d) ≡ add (flow p pair c) (flow p pair d)
flow-add p pair c d =
    ap₂ add (at_weight (point_eq pair.a p) c d) (ap inverse (at_weight (point_eq pair.b p) c d) ∙ inverse-add (cond (point_eq pair.b p) (weight c) empty) (cond (point_eq pair.b p) (weight d) empty))
    ∙ four windings_add (cond (point_eq pair.a p) (weight c) empty) (cond (point_eq pair.a p) (weight d) empty) (inverse (cond (point_eq pair.b p) (weight c) empty)) (inverse (cond (point_eq pair.b p) (weight d) empty))

pub flow-empty : (p : Point) (pair : Pair) → flow p pair empty ≡ empty
flow-empty p pair = ap₂ add (cond-empty (point_eq pair.a p)) (ap inverse (cond-empty (point_eq pair.b p)))

-- a join changes no balance
pub balance-join : (bag : List WholeSegment) (p : Point) → balance (join bag) p ≡ balance bag p
balance-join bag p = balance-gathered (join bag) p ∙ gathered-join windings_add (flow p) (flow-empty p) (flow-add p) bag ∙ sym (balance-gathered bag p)

-- a balance's numbers are linear sums
abbrev pub sign_at : Point → Pair → ℤ
sign_at p pair = cond (point_eq pair.a p) (pos 1) (pos 0) -ℤ cond (point_eq pair.b p) (pos 1) (pos 0)

difference_times : (a b c : ℤ) → a *ℤ c +ℤ neg_ℤ (b *ℤ c) ≡ (a -ℤ b) *ℤ c
difference_times a b c = rw (as_D a, as_D b, as_D c) (simp diffs (D-eq _ _ _ _ (omega arith)))

pub balance-subj : (bag : List WholeSegment) (p : Point) → (balance bag p).subj ≡ weighed (sign_at p) (λ c. c.subj) bag
balance-subj bag p =
    ap (λ c. c.subj) (balance-gathered bag p)
    ∙ gathered-through add empty ◌+ℤ◌ (pos 0) (λ c. c.subj) refl (λ c d. refl) (λ (s : WholeSegment). flow p s.pair s.count) bag
    ∙ gathered-same whole_numbers_add _ _ (λ s. ap₂ (λ m n. m +ℤ neg_ℤ n) (at_subj (point_eq s.pair.a p) s.count) (at_subj (point_eq s.pair.b p) s.count) ∙ difference_times _ _ s.count.subj) bag

pub balance-clip : (bag : List WholeSegment) (p : Point) → (balance bag p).clip ≡ weighed (sign_at p) (λ c. c.clip) bag
balance-clip bag p =
    ap (λ c. c.clip) (balance-gathered bag p)
    ∙ gathered-through add empty ◌+ℤ◌ (pos 0) (λ c. c.clip) refl (λ c d. refl) (λ (s : WholeSegment). flow p s.pair s.count) bag
    ∙ gathered-same whole_numbers_add _ _ (λ s. ap₂ (λ m n. m +ℤ neg_ℤ n) (at_clip (point_eq s.pair.a p) s.count) (at_clip (point_eq s.pair.b p) s.count) ∙ difference_times _ _ s.count.clip) bag
