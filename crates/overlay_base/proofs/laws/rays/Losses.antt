-- Along balanced segments nothing is lost: a function of points is a sum of functions that are 0 but at one point, and of each of these the balance there says that its losses are 0 together.
use Rattle.std.proofs.Common.{◌≡◌, refl, sym, ap, ap₂, ◌∙◌, arith, Bool, true, cond, List, [], ◌∷◌, inl, inr}
use Rattle.std.specs.Prelude.{ℤ, pos, ◌+ℤ◌, ◌-ℤ◌, ◌*ℤ◌, neg_ℤ}
use Rattle.std.specs.List.{list_any, list_all}
use Rattle.std.proofs.lemmas.Int.{ints}
use Rattle.std.proofs.lemmas.Bool.{and_parts, or_left, or_right, cases_Bool}
use Rattle.overlay_geometry.specs.Points.{Point, Pair, point_eq}
use Rattle.overlay_base.specs.Windings.{Winding}
use Rattle.overlay_base.specs.Segments.{WholeSegment, pairs, ends}
use Rattle.overlay_base.specs.Sums.{weighed}
use Rattle.overlay_base.specs.Laws.{BalancedLosesNothing}
use Rattle.overlay_geometry.proofs.laws.geometry.Polynomials.{as_D, diffs, D-eq}
use Rattle.overlay_geometry.proofs.laws.geometry.Points.{same_by_eq, point_eq_same}
use Rattle.overlay_geometry.proofs.laws.lists.Lists.{Has}
use Rattle.overlay_base.proofs.laws.lists.Monoids.{gathered-same}
use Rattle.overlay_base.proofs.laws.joins.Functionals.{whole_numbers_add, balance-subj, balance-clip}

-- ---- sums of sums

abbrev pub lost : (Point → ℤ) → Pair → ℤ
lost f s = f s.a -ℤ f s.b

times_zero : (a : ℤ) → pos 0 ≡ pos 0 +ℤ a *ℤ pos 0
times_zero a = omega (arith, ints)

more_plain : (g k h c x y : ℤ) → (g +ℤ k *ℤ h) *ℤ c +ℤ (x +ℤ k *ℤ y) ≡ (g *ℤ c +ℤ x) +ℤ k *ℤ (h *ℤ c +ℤ y)
more_plain g k h c x y = rw (as_D g, as_D k, as_D h, as_D c, as_D x, as_D y) (simp diffs (D-eq _ _ _ _ (omega arith)))

weighed-more : (g h : Pair → ℤ) (k : ℤ) (part : Winding → ℤ) (xs : List WholeSegment) → weighed (λ s. g s +ℤ k *ℤ h s) part xs ≡ weighed g part xs +ℤ k *ℤ weighed h part xs
weighed-more g h k part [] = times_zero k
weighed-more g h k part (s ∷ ss) =
    ap (λ (z : ℤ). (g s.pair +ℤ k *ℤ h s.pair) *ℤ part s.count +ℤ z) (weighed-more g h k part ss)
    ∙ more_plain (g s.pair) k (h s.pair) (part s.count) (weighed g part ss) (weighed h part ss)

neg_plain : (g c x : ℤ) → neg_ℤ g *ℤ c +ℤ neg_ℤ x ≡ neg_ℤ (g *ℤ c +ℤ x)
neg_plain g c x = rw (as_D g, as_D c, as_D x) (simp diffs (D-eq _ _ _ _ (omega arith)))

pub weighed-neg : (g : Pair → ℤ) (part : Winding → ℤ) (xs : List WholeSegment) → weighed (λ s. neg_ℤ (g s)) part xs ≡ neg_ℤ (weighed g part xs)
weighed-neg g part [] = refl
weighed-neg g part (s ∷ ss) = ap (λ (z : ℤ). neg_ℤ (g s.pair) *ℤ part s.count +ℤ z) (weighed-neg g part ss) ∙ neg_plain (g s.pair) (part s.count) (weighed g part ss)

sum_plain : (g h c x y : ℤ) → (g +ℤ h) *ℤ c +ℤ (x +ℤ y) ≡ (g *ℤ c +ℤ x) +ℤ (h *ℤ c +ℤ y)
sum_plain g h c x y = rw (as_D g, as_D h, as_D c, as_D x, as_D y) (simp diffs (D-eq _ _ _ _ (omega arith)))

pub weighed-sum : (g h : Pair → ℤ) (part : Winding → ℤ) (xs : List WholeSegment) → weighed (λ s. g s +ℤ h s) part xs ≡ weighed g part xs +ℤ weighed h part xs
weighed-sum g h part [] = refl
weighed-sum g h part (s ∷ ss) = ap (λ (z : ℤ). (g s.pair +ℤ h s.pair) *ℤ part s.count +ℤ z) (weighed-sum g h part ss) ∙ sum_plain (g s.pair) (h s.pair) (part s.count) (weighed g part ss) (weighed h part ss)

-- equal at the pairs of the list, which pass a test
pub weighed-on : (test : WholeSegment → Bool) (g h : Pair → ℤ) (part : Winding → ℤ) (xs : List WholeSegment) → list_all test xs ≡ true → ((s : WholeSegment) → test s ≡ true → g s.pair ≡ h s.pair) → weighed g part xs ≡ weighed h part xs
weighed-on test g h part [] a e = refl
weighed-on test g h part (s ∷ ss) a e =
    let parts = and_parts (test s) (list_all test ss) a in
    ap₂ (λ (y z : ℤ). y *ℤ part s.count +ℤ z) (e s parts.0) (weighed-on test g h part ss parts.1 e)

-- equal at the pairs of the list
pub weighed-in : (g h : Pair → ℤ) (part : Winding → ℤ) (xs : List WholeSegment) → ((s : WholeSegment) → Has xs s → g s.pair ≡ h s.pair) → weighed g part xs ≡ weighed h part xs
weighed-in g h part [] e = refl
weighed-in g h part (s ∷ ss) e = ap₂ (λ (y z : ℤ). y *ℤ part s.count +ℤ z) (e s (inl refl)) (weighed-in g h part ss (λ t m. e t (inr m)))

-- ---- a function of points, point by point

abbrev at_point : Point → Point → ℤ
at_point p q = cond (point_eq q p) (pos 1) (pos 0)

-- f at the points of a list, and 0 elsewhere
abbrev restricted : (Point → ℤ) → List Point → Point → ℤ
restricted f [] q = pos 0
restricted f (p ∷ ps) q = cond (point_eq q p) (f p) (restricted f ps q)

abbrev is_one_of : List Point → Point → Bool
is_one_of ps q = list_any (λ p. point_eq q p) ps

here_plain : (u v w : ℤ) → v ≡ w → u ≡ v +ℤ (u -ℤ w) *ℤ pos 1
here_plain u v w e = omega (arith, ints, e)

elsewhere_plain : (u k : ℤ) → u ≡ u +ℤ k *ℤ pos 0
elsewhere_plain u k = omega (arith, ints)

restricted-more : (f : Point → ℤ) (p : Point) (ps : List Point) (q : Point) → restricted f (p ∷ ps) q ≡ restricted f ps q +ℤ (f p -ℤ restricted f ps p) *ℤ at_point p q
restricted-more f p ps q = elim (cases_Bool (point_eq q p)) [
  | inl e ↦ rw e (here_plain (f p) (restricted f ps q) (restricted f ps p) (ap (restricted f ps) (same_by_eq q p e)))
  | inr e ↦ rw e (elsewhere_plain (restricted f ps q) (f p -ℤ restricted f ps p))
]

apart_plain : (u v k x y : ℤ) → (u +ℤ k *ℤ x) -ℤ (v +ℤ k *ℤ y) ≡ (u -ℤ v) +ℤ k *ℤ (x -ℤ y)
apart_plain u v k x y = rw (as_D u, as_D v, as_D k, as_D x, as_D y) (simp diffs (D-eq _ _ _ _ (omega arith)))

lost-more : (f : Point → ℤ) (p : Point) (ps : List Point) (s : Pair) → lost (restricted f (p ∷ ps)) s ≡ lost (restricted f ps) s +ℤ (f p -ℤ restricted f ps p) *ℤ lost (at_point p) s
lost-more f p ps s = ap₂ ◌-ℤ◌ (restricted-more f p ps s.a) (restricted-more f p ps s.b) ∙ apart_plain (restricted f ps s.a) (restricted f ps s.b) (f p -ℤ restricted f ps p) (at_point p s.a) (at_point p s.b)

restricted-at : (f : Point → ℤ) (ps : List Point) (q : Point) → is_one_of ps q ≡ true → restricted f ps q ≡ f q
restricted-at f [] q h = absurd (cc)
restricted-at f (p ∷ ps) q h = elim (cases_Bool (point_eq q p)) [
  | inl e ↦ rw e (ap f (sym (same_by_eq q p e)))
  | inr e ↦ rw e (restricted-at f ps q (rw e at h))
]

at_ends : (f : Point → ℤ) (ps : List Point) (part : Winding → ℤ) (xs : List WholeSegment) → ((q : Point) → is_one_of (ends (pairs xs)) q ≡ true → is_one_of ps q ≡ true) → weighed (lost f) part xs ≡ weighed (lost (restricted f ps)) part xs
at_ends f ps part [] h = refl
at_ends f ps part (s ∷ ss) h =
    let at_a = restricted-at f ps s.pair.a (h s.pair.a (or_left _ _ (point_eq_same s.pair.a))) in
    let at_b = restricted-at f ps s.pair.b (h s.pair.b (or_right _ _ (or_left _ _ (point_eq_same s.pair.b)))) in
    ap₂ (λ (y z : ℤ). y *ℤ part s.count +ℤ z) (ap₂ ◌-ℤ◌ (sym at_a) (sym at_b)) (at_ends f ps part ss (λ q e. h q (or_right _ _ (or_right _ _ e))))

none_plain : (c x : ℤ) → x ≡ pos 0 → (pos 0 -ℤ pos 0) *ℤ c +ℤ x ≡ pos 0
none_plain c x e = rw e (omega (arith, ints))

nothing_lost : (part : Winding → ℤ) (xs : List WholeSegment) → weighed (lost (restricted (λ _. pos 0) [])) part xs ≡ pos 0
nothing_lost part [] = refl
nothing_lost part (s ∷ ss) = none_plain (part s.count) _ (nothing_lost part ss)

zero_plain : (x k y : ℤ) → x ≡ pos 0 → y ≡ pos 0 → x +ℤ k *ℤ y ≡ pos 0
zero_plain x k y e f = rw (e, f) (omega (arith, ints))

module _ (part : Winding → ℤ) (xs : List WholeSegment) (kept : (p : Point) → weighed (lost (at_point p)) part xs ≡ pos 0) (f : Point → ℤ) where
  restricted_loses_nothing : (ps : List Point) → weighed (lost (restricted f ps)) part xs ≡ pos 0
  restricted_loses_nothing [] = nothing_lost part xs
  restricted_loses_nothing (p ∷ ps) =
      gathered-same whole_numbers_add _ _ (λ (s : WholeSegment). ap (λ (z : ℤ). z *ℤ part s.count) (lost-more f p ps s.pair)) xs
      ∙ weighed-more (lost (restricted f ps)) (lost (at_point p)) (f p -ℤ restricted f ps p) part xs
      ∙ zero_plain _ (f p -ℤ restricted f ps p) _ (restricted_loses_nothing ps) (kept p)

  loses_nothing : weighed (lost f) part xs ≡ pos 0
  loses_nothing = at_ends f (ends (pairs xs)) part xs (λ q e. e) ∙ restricted_loses_nothing (ends (pairs xs))

pub balanced_loses_nothing : BalancedLosesNothing
balanced_loses_nothing f xs balanced = (
  loses_nothing (λ c. c.subj) xs (λ p. sym (balance-subj xs p) ∙ ap (λ (c : Winding). c.subj) (balanced p)) f,
  loses_nothing (λ c. c.clip) xs (λ p. sym (balance-clip xs p) ∙ ap (λ (c : Winding). c.clip) (balanced p)) f,
)
