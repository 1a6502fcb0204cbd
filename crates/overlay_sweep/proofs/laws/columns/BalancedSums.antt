-- Balance over a set of points: where nothing is gained or lost at any point, nothing is gained or lost over a set.
use Rattle.std.proofs.Common.{◌≡◌, ap, refl, sym, ◌∙◌, arith, inl, inr}
use Rattle.std.specs.Prelude.{ℤ, pos, ◌+ℤ◌, ◌-ℤ◌, neg_ℤ, Bool, true, false, not, ◌&&◌, ◌||◌, List, [], ◌∷◌, filter}
use Rattle.std.specs.List.{list_any}
use Rattle.std.specs.Ordering.{int_cmp, int_eq}
use Rattle.std.proofs.lemmas.Int.{ints}
use Rattle.std.proofs.lemmas.Bool.{and_parts, and_from, or_left, or_right, cases_Bool, not-true}
use Rattle.std.proofs.lemmas.Bool.Decides.{Decides-int_eq}
use mathlib.Core.Path.{fun_ext}
use Rattle.overlay_geometry.specs.Points.{Point, point_eq}
use Rattle.overlay_base.specs.Windings.{Winding, add, inverse}
use Rattle.overlay_base.specs.Segments.{WholeSegment, pairs, ends, total_weight}
use Rattle.overlay_base.specs.Balance.{balance, IsBalanced}
use Rattle.overlay_sweep.proofs.laws.columns.WeightSums.{when, sum_of, sum_of-add, sum_of-sub, sum_of-filter, total_weight_is, when-or, and_true, and_false}
use Rattle.overlay_geometry.proofs.laws.geometry.Points.{is_eq-then}

-- ---- equal points

pub point_eq_is : (p q : Point) → point_eq p q ≡ (int_eq p.x q.x && int_eq p.y q.y)
point_eq_is p q = is_eq-then (int_cmp p.x q.x) (int_cmp p.y q.y)

pub point_eq-true : (p q : Point) → point_eq p q ≡ true → p ≡ q
point_eq-true p q e =
    let h = and_parts (int_eq p.x q.x) (int_eq p.y q.y) (sym (point_eq_is p q) ∙ e) in
    let ex : p.x ≡ q.x = (Decides-int_eq p.x q.x).0 h.0 in
    let ey : p.y ≡ q.y = (Decides-int_eq p.y q.y).0 h.1 in
    λ i. record { x = ex i; y = ey i }

pub point_eq-same : (p : Point) → point_eq p p ≡ true
point_eq-same p = point_eq_is p p ∙ and_from _ _ ((Decides-int_eq p.x p.x).1 refl) ((Decides-int_eq p.y p.y).1 refl)

-- ---- what flows through a set: the numbers of the segments that start in it, less those that end in it

abbrev pub flow : (WholeSegment → ℤ) → (Point → Bool) → List WholeSegment → ℤ
flow w f xs = sum_of (λ s. when (f s.pair.a) (w s) -ℤ when (f s.pair.b) (w s)) xs

pub flow_is : (w : WholeSegment → ℤ) (f : Point → Bool) (xs : List WholeSegment) → flow w f xs ≡ sum_of w (filter (λ s. f s.pair.a) xs) -ℤ sum_of w (filter (λ s. f s.pair.b) xs)
flow_is w f xs =
    rw (sum_of-filter (λ s. f s.pair.a) w xs, sum_of-filter (λ s. f s.pair.b) w xs)
    (sum_of-sub _ (λ s. when (f s.pair.a) (w s)) (λ s. when (f s.pair.b) (w s)) xs (λ s. refl))

pub flow-or : (w : WholeSegment → ℤ) (f g h : Point → Bool) (xs : List WholeSegment) → ((q : Point) → f q ≡ (g q || h q)) → ((q : Point) → (g q && h q) ≡ false) → flow w f xs ≡ flow w g xs +ℤ flow w h xs
flow-or w f g h xs e d = sum_of-add _ _ _ xs (λ s. omega (arith, ints, when-or (f s.pair.a) (g s.pair.a) (h s.pair.a) (w s) (e s.pair.a) (d s.pair.a), when-or (f s.pair.b) (g s.pair.b) (h s.pair.b) (w s) (e s.pair.b) (d s.pair.b)))

pub flow-same : (w : WholeSegment → ℤ) (f g : Point → Bool) (xs : List WholeSegment) → ((q : Point) → f q ≡ g q) → flow w f xs ≡ flow w g xs
flow-same w f g xs e = ap (λ (h : Point → Bool). flow w h xs) (fun_ext e)

flow-nowhere : (w : WholeSegment → ℤ) (xs : List WholeSegment) → flow w (λ q. false) xs ≡ pos 0
flow-nowhere w [] = refl
flow-nowhere w (s ∷ ss) = omega (arith, ints, flow-nowhere w ss)

-- ---- the law, for one number of each segment

abbrev is_one_of : List Point → Point → Bool
is_one_of ps q = list_any (λ p. point_eq q p) ps

same_or : (b c : Bool) → (b && not c) ≡ false → (b && true) ≡ (b && c)
same_or true true d = refl
same_or true false d = d
same_or false c d = refl

-- a test is split at one point: there, and elsewhere
module _ (f m : Point → Bool) (p q : Point) where
  new_here : point_eq q p ≡ true → f p ≡ true → not (m p) ≡ true → ((f q && (point_eq q p || m q)) ≡ (point_eq q p || (f q && m q))) × ((point_eq q p && (f q && m q)) ≡ false)
  new_here e ft mf =
      let at : q ≡ p = point_eq-true q p e in
      let fq : f q ≡ true = ap f at ∙ ft in
      let mq : m q ≡ false = ap m at ∙ not-true (m p) mf in
      rw (e, fq, mq) (refl, refl)

  new_point : (f p && not (m p)) ≡ true → ((f q && (point_eq q p || m q)) ≡ (point_eq q p || (f q && m q))) × ((point_eq q p && (f q && m q)) ≡ false)
  new_point h = elim (cases_Bool (point_eq q p)) [ inl e ↦ new_here e (and_parts (f p) (not (m p)) h).0 (and_parts (f p) (not (m p)) h).1 | inr e ↦ rw e (refl, refl) ]

  old_here : point_eq q p ≡ true → (f p && not (m p)) ≡ false → (f q && (point_eq q p || m q)) ≡ (f q && m q)
  old_here e h =
      let at : q ≡ p = point_eq-true q p e in
      rw e (same_or (f q) (m q) (ap (λ (r : Point). f r && not (m r)) at ∙ h))

  old_point : (f p && not (m p)) ≡ false → (f q && (point_eq q p || m q)) ≡ (f q && m q)
  old_point h = elim (cases_Bool (point_eq q p)) [ inl e ↦ old_here e h | inr e ↦ rw e refl ]

module _ (w : WholeSegment → ℤ) (xs : List WholeSegment) (kept : (p : Point) → flow w (λ q. point_eq q p) xs ≡ pos 0) (f : Point → Bool) where
  flow_within : (ps : List Point) → flow w (λ q. f q && is_one_of ps q) xs ≡ pos 0
  flow_within [] = flow-same w _ (λ q. false) xs (λ q. and_false (f q)) ∙ flow-nowhere w xs
  flow_within (p ∷ ps) = elim (cases_Bool (f p && not (is_one_of ps p))) [
    | inl h ↦ omega (arith, ints, kept p, flow_within ps, flow-or w (λ q. f q && is_one_of (p ∷ ps) q) (λ q. point_eq q p) (λ q. f q && is_one_of ps q) xs (λ q. (new_point f (is_one_of ps) p q h).0) (λ q. (new_point f (is_one_of ps) p q h).1))
    | inr h ↦ flow-same w (λ q. f q && is_one_of (p ∷ ps) q) (λ q. f q && is_one_of ps q) xs (λ q. old_point f (is_one_of ps) p q h) ∙ flow_within ps
  ]

flow_at_ends : (w : WholeSegment → ℤ) (f : Point → Bool) (ps : List Point) (xs : List WholeSegment) → ((q : Point) → is_one_of (ends (pairs xs)) q ≡ true → is_one_of ps q ≡ true) → flow w f xs ≡ flow w (λ q. f q && is_one_of ps q) xs
flow_at_ends w f ps [] h = refl
flow_at_ends w f ps (s ∷ ss) h =
    let at_a : is_one_of ps s.pair.a ≡ true = h s.pair.a (or_left _ _ (point_eq-same s.pair.a)) in
    let at_b : is_one_of ps s.pair.b ≡ true = h s.pair.b (or_right _ _ (or_left _ _ (point_eq-same s.pair.b))) in
    let rest = flow_at_ends w f ps ss (λ q e. h q (or_right _ _ (or_right _ _ e))) in
    rw (at_a, at_b, and_true (f s.pair.a), and_true (f s.pair.b)) (ap (λ (z : ℤ). (when (f s.pair.a) (w s) -ℤ when (f s.pair.b) (w s)) +ℤ z) rest)

-- where the flow at every point is 0, so is the flow through every set
pub flow-balanced : (w : WholeSegment → ℤ) (xs : List WholeSegment) → ((p : Point) → flow w (λ q. point_eq q p) xs ≡ pos 0) → (f : Point → Bool) → flow w f xs ≡ pos 0
flow-balanced w xs kept f = flow_at_ends w f (ends (pairs xs)) xs (λ q e. e) ∙ flow_within w xs kept f (ends (pairs xs))

plus_neg : (a b : ℤ) → a +ℤ neg_ℤ b ≡ a -ℤ b
plus_neg a b = omega (arith, ints)

-- ---- the law for balanced segments: for both numbers, and for the weights

-- the weights of some segments less those of others, number by number
pub weight_difference : (xs ys : List WholeSegment) → add (total_weight xs) (inverse (total_weight ys)) ≡ record { subj = sum_of (λ s. s.count.subj) xs -ℤ sum_of (λ s. s.count.subj) ys; clip = sum_of (λ s. s.count.clip) xs -ℤ sum_of (λ s. s.count.clip) ys; mask = 0 }
weight_difference xs ys = rw (total_weight_is xs, total_weight_is ys) (λ i. record { subj = plus_neg (sum_of (λ s. s.count.subj) xs) (sum_of (λ s. s.count.subj) ys) i; clip = plus_neg (sum_of (λ s. s.count.clip) xs) (sum_of (λ s. s.count.clip) ys) i; mask = 0 })

pub flow_weights : (f : Point → Bool) (xs : List WholeSegment) → add (total_weight (filter (λ s. f s.pair.a) xs)) (inverse (total_weight (filter (λ s. f s.pair.b) xs))) ≡ record { subj = flow (λ s. s.count.subj) f xs; clip = flow (λ s. s.count.clip) f xs; mask = 0 }
flow_weights f xs = weight_difference (filter (λ s. f s.pair.a) xs) (filter (λ s. f s.pair.b) xs) ∙ rw (flow_is (λ s. s.count.subj) f xs, flow_is (λ s. s.count.clip) f xs) refl

pub balance_is : (xs : List WholeSegment) (p : Point) → balance xs p ≡ record { subj = flow (λ s. s.count.subj) (λ q. point_eq q p) xs; clip = flow (λ s. s.count.clip) (λ q. point_eq q p) xs; mask = 0 }
unfolding balance
balance_is xs p = flow_weights (λ q. point_eq q p) xs

module _ (xs : List WholeSegment) (balanced : IsBalanced xs) (f : Point → Bool) where
  pub subj_flow-balanced : flow (λ s. s.count.subj) f xs ≡ pos 0
  subj_flow-balanced = flow-balanced (λ s. s.count.subj) xs (λ p. ap (λ (c : Winding). c.subj) (sym (balance_is xs p) ∙ balanced p)) f

  pub clip_flow-balanced : flow (λ s. s.count.clip) f xs ≡ pos 0
  clip_flow-balanced = flow-balanced (λ s. s.count.clip) xs (λ p. ap (λ (c : Winding). c.clip) (sym (balance_is xs p) ∙ balanced p)) f
