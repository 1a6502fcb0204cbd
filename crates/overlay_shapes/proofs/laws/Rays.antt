-- The rays from one point in order of their angles: first those to later points, from straight down over rightward to straight up, then the others.
use Rattle.std.proofs.Common.{◌≡◌, refl, sym, ap, ◌∙◌, arith, inl, inr}
use Rattle.std.specs.Prelude.{ℤ, pos, ◌+ℤ◌, ◌-ℤ◌, ◌*ℤ◌, ◌<ℤ◌, ◌≤ℤ◌, neg_ℤ, int_lt, Bool, true, false, cond, not, ◌&&◌, ◌||◌, ◌⊎◌}
use Rattle.std.specs.declared.cmp.Ordering.{Ordering}
use Rattle.std.specs.declared.cmp.Ordering.TheVariants.{Less, Equal, Greater}
use Rattle.std.specs.Ordering.{int_cmp, int_eq, is_eq, is_lt, is_gt, ordering_reverse}
use Rattle.std.proofs.lemmas.Int.{ints, by_lt_z}
use Rattle.std.proofs.lemmas.Bool.{and_parts, and_from, cases_Bool}
use Rattle.overlay_geometry.specs.Points.{Point, point_lt, step, cross_product, turn}
use Rattle.overlay_geometry.proofs.laws.geometry.Points.{Before, before, not_before, by_UpTo}
use Rattle.overlay_geometry.proofs.laws.geometry.Polynomials.{as_D, diffs, D-eq, mul-nonneg, mul-pos, cancel-nonneg}
use Rattle.overlay_geometry.proofs.laws.integers.Tests.{by_sign}
use Rattle.overlay_shapes.specs.Sectors.{lies_in_sector}

-- ---- signs

abbrev sign : ℤ → Ordering
sign z = int_cmp z (pos 0)

is_positive : (z : ℤ) → int_lt (pos 0) z ≡ is_gt (sign z)
is_positive z = grind (arith, ints)

is_negative : (z : ℤ) → int_lt z (pos 0) ≡ is_lt (sign z)
is_negative z = grind (arith, ints)

is_nothing : (z : ℤ) → int_eq z (pos 0) ≡ is_eq (sign z)
is_nothing z = grind (arith, ints)

sign_below : (z : ℤ) → z <ℤ pos 0 → sign z ≡ Less
sign_below z h = grind (arith, ints)

sign_zero : (z : ℤ) → z ≡ pos 0 → sign z ≡ Equal
sign_zero z h = grind (arith, ints)

sign_above : (z : ℤ) → pos 0 <ℤ z → sign z ≡ Greater
sign_above z h = grind (arith, ints)

sign_turned : (z : ℤ) → sign (neg_ℤ z) ≡ ordering_reverse (sign z)
sign_turned z =
    by_sign z
    (λ (down : z <ℤ pos 0). sign_above (neg_ℤ z) (omega (arith, ints)) ∙ sym (ap ordering_reverse (sign_below z down)))
    (λ (zero : z ≡ pos 0). sign_zero (neg_ℤ z) (omega (arith, ints)) ∙ sym (ap ordering_reverse (sign_zero z zero)))
    (λ (up : pos 0 <ℤ z). sign_below (neg_ℤ z) (omega (arith, ints)) ∙ sym (ap ordering_reverse (sign_above z up)))

-- ---- vectors that lead to later points

abbrev LeadsOn : Point → Type 0
LeadsOn d = (pos 0 <ℤ d.x) ⊎ ((d.x ≡ pos 0) × (pos 0 <ℤ d.y))

weighed_plain : (ax ay bx by cx cy : ℤ) → bx *ℤ (ax *ℤ cy -ℤ ay *ℤ cx) ≡ cx *ℤ (ax *ℤ by -ℤ ay *ℤ bx) +ℤ ax *ℤ (bx *ℤ cy -ℤ by *ℤ cx)
weighed_plain ax ay bx by cx cy = rw (as_D ax, as_D ay, as_D bx, as_D by, as_D cx, as_D cy) (simp diffs (D-eq _ _ _ _ (omega arith)))

swapped_plain : (ax ay bx by : ℤ) → ax *ℤ by -ℤ ay *ℤ bx ≡ neg_ℤ (bx *ℤ ay -ℤ by *ℤ ax)
swapped_plain ax ay bx by = rw (as_D ax, as_D ay, as_D bx, as_D by) (simp diffs (D-eq _ _ _ _ (omega arith)))

cross_swapped : (a b : Point) → cross_product a b ≡ neg_ℤ (cross_product b a)
cross_swapped a b = swapped_plain a.x a.y b.x b.y

across_start : (x : Point) → LeadsOn x → pos 0 ≤ℤ x.x
across_start x (inl h) = omega (arith, ints)
across_start x (inr h) = omega (arith, ints)

upright_plain : (ax ay bx by : ℤ) → bx ≡ pos 0 → ax *ℤ by -ℤ ay *ℤ bx ≡ ax *ℤ by
upright_plain ax ay bx by e = rw e (omega (arith, ints))

upright_first : (bx by cx cy : ℤ) → bx ≡ pos 0 → bx *ℤ cy -ℤ by *ℤ cx ≡ neg_ℤ (by *ℤ cx)
upright_first bx by cx cy e = rw e (omega (arith, ints))

-- of vectors that lead on the cross product is an order
no_turn_back : (a b c : Point) → LeadsOn a → LeadsOn b → LeadsOn c → pos 0 ≤ℤ cross_product a b → pos 0 ≤ℤ cross_product b c → pos 0 ≤ℤ cross_product a c
no_turn_back a b c ha (inl wide) hc p q =
    let m = mul-nonneg c.x (a.x *ℤ b.y -ℤ a.y *ℤ b.x) (across_start c hc) p in
    let n = mul-nonneg a.x (b.x *ℤ c.y -ℤ b.y *ℤ c.x) (across_start a ha) q in
    let e = weighed_plain a.x a.y b.x b.y c.x c.y in
    cancel-nonneg b.x (a.x *ℤ c.y -ℤ a.y *ℤ c.x) wide (omega (arith, ints))
no_turn_back a b c ha (inr up) (inl right) p q =
    let e = upright_first b.x b.y c.x c.y up.0 in
    let m = mul-pos b.y c.x up.1 right in
    absurd (omega (arith, ints))
no_turn_back a b c ha (inr up) (inr high) p q =
    let e = upright_plain a.x a.y c.x c.y high.0 in
    let m = mul-nonneg a.x c.y (across_start a ha) (omega (arith, ints)) in
    omega (arith, ints)

-- what the signs of two of the cross products say of the third
composes : Ordering → Ordering → Ordering → Bool
composes Less Less x = is_lt x
composes Less Equal x = is_lt x
composes Less Greater x = true
composes Equal Less x = is_lt x
composes Equal Equal x = is_eq x
composes Equal Greater x = is_gt x
composes Greater Less x = true
composes Greater Equal x = is_gt x
composes Greater Greater x = is_gt x

module _ (a b c : Point) (ha : LeadsOn a) (hb : LeadsOn b) (hc : LeadsOn c) where
  turns_on_first : pos 0 <ℤ cross_product a b → pos 0 ≤ℤ cross_product b c → pos 0 <ℤ cross_product a c
  turns_on_first p q = by_lt_z (pos 0) (cross_product a c) (λ (h : pos 0 <ℤ cross_product a c). h)
      (λ (h : cross_product a c ≤ℤ pos 0).
      let back = no_turn_back b c a hb hc ha q (let e = cross_swapped c a in omega (arith, ints)) in
      absurd (let e = cross_swapped b a in omega (arith, ints)))

  turns_on_second : pos 0 ≤ℤ cross_product a b → pos 0 <ℤ cross_product b c → pos 0 <ℤ cross_product a c
  turns_on_second p q = by_lt_z (pos 0) (cross_product a c) (λ (h : pos 0 <ℤ cross_product a c). h)
      (λ (h : cross_product a c ≤ℤ pos 0).
      let back = no_turn_back c a b hc ha hb (let e = cross_swapped c a in omega (arith, ints)) p in
      absurd (let e = cross_swapped c b in omega (arith, ints)))

module _ (a b c : Point) (ha : LeadsOn a) (hb : LeadsOn b) (hc : LeadsOn c) where
  turns_back_first : cross_product a b <ℤ pos 0 → cross_product b c ≤ℤ pos 0 → cross_product a c <ℤ pos 0
  turns_back_first p q = let h = turns_on_second c b a hc hb ha (let e = cross_swapped c b in omega (arith, ints)) (let e = cross_swapped b a in omega (arith, ints)) in let e = cross_swapped c a in omega (arith, ints)

  turns_back_second : cross_product a b ≤ℤ pos 0 → cross_product b c <ℤ pos 0 → cross_product a c <ℤ pos 0
  turns_back_second p q = let h = turns_on_first c b a hc hb ha (let e = cross_swapped c b in omega (arith, ints)) (let e = cross_swapped b a in omega (arith, ints)) in let e = cross_swapped c a in omega (arith, ints)

  stays : cross_product a b ≡ pos 0 → cross_product b c ≡ pos 0 → cross_product a c ≡ pos 0
  stays p q =
      let h = no_turn_back a b c ha hb hc (omega (arith, ints)) (omega (arith, ints)) in
      let k = no_turn_back c b a hc hb ha (let e = cross_swapped c b in omega (arith, ints)) (let e = cross_swapped b a in omega (arith, ints)) in
      let e = cross_swapped c a in
      omega (arith, ints)

  abbrev Composed : Ordering → Ordering → Ordering → Type 0
  Composed y z x = composes y z x ≡ true

  composed_by : (y z x : Ordering) → sign (cross_product a b) ≡ y → sign (cross_product b c) ≡ z → sign (cross_product a c) ≡ x → Composed y z x → Composed (sign (cross_product a b)) (sign (cross_product b c)) (sign (cross_product a c))
  composed_by y z x ey ez ex h = rw (ey, ez, ex) h

  any_third : (y z : Ordering) → ((x : Ordering) → Composed y z x) → sign (cross_product a b) ≡ y → sign (cross_product b c) ≡ z → Composed (sign (cross_product a b)) (sign (cross_product b c)) (sign (cross_product a c))
  any_third y z h ey ez = composed_by y z (sign (cross_product a c)) ey ez refl (h _)

  signs_compose : Composed (sign (cross_product a b)) (sign (cross_product b c)) (sign (cross_product a c))
  unfolding composes
  signs_compose =
      by_sign (cross_product a b)
      (λ (ab : cross_product a b <ℤ pos 0). by_sign (cross_product b c)
      (λ (bc : cross_product b c <ℤ pos 0). composed_by Less Less Less (sign_below _ ab) (sign_below _ bc) (sign_below _ (turns_back_first ab (omega (arith, ints)))) refl)
      (λ (bc : cross_product b c ≡ pos 0). composed_by Less Equal Less (sign_below _ ab) (sign_zero _ bc) (sign_below _ (turns_back_first ab (omega (arith, ints)))) refl)
      (λ (bc : pos 0 <ℤ cross_product b c). any_third Less Greater (λ x. refl) (sign_below _ ab) (sign_above _ bc)))
      (λ (ab : cross_product a b ≡ pos 0). by_sign (cross_product b c)
      (λ (bc : cross_product b c <ℤ pos 0). composed_by Equal Less Less (sign_zero _ ab) (sign_below _ bc) (sign_below _ (turns_back_second (omega (arith, ints)) bc)) refl)
      (λ (bc : cross_product b c ≡ pos 0). composed_by Equal Equal Equal (sign_zero _ ab) (sign_zero _ bc) (sign_zero _ (stays ab bc)) refl)
      (λ (bc : pos 0 <ℤ cross_product b c). composed_by Equal Greater Greater (sign_zero _ ab) (sign_above _ bc) (sign_above _ (turns_on_second a b c ha hb hc (omega (arith, ints)) bc)) refl))
      (λ (ab : pos 0 <ℤ cross_product a b). by_sign (cross_product b c)
      (λ (bc : cross_product b c <ℤ pos 0). any_third Greater Less (λ x. refl) (sign_above _ ab) (sign_below _ bc))
      (λ (bc : cross_product b c ≡ pos 0). composed_by Greater Equal Greater (sign_above _ ab) (sign_zero _ bc) (sign_above _ (turns_on_first a b c ha hb hc ab (omega (arith, ints)))) refl)
      (λ (bc : pos 0 <ℤ cross_product b c). composed_by Greater Greater Greater (sign_above _ ab) (sign_above _ bc) (sign_above _ (turns_on_first a b c ha hb hc ab (omega (arith, ints)))) refl))

-- ---- each ray by the vector along its line that leads on

abbrev forward_by : Bool → Point → Point → Point
forward_by b v q = cond b (step v q) (step q v)

forward_leads : (v q : Point) → (v ≡ q → ⊥) → (b : Bool) → point_lt v q ≡ b → LeadsOn (forward_by b v q)
forward_leads v q other true e = leads (before v q e)
  where
    leads : Before v q → LeadsOn (step v q)
    leads (inl h) = inl (omega (arith, ints))
    leads (inr h) = inr (omega (arith, ints), omega (arith, ints))
forward_leads v q other false e = by_UpTo q v (not_before v q e) leads (λ same. absurd (other (sym same)))
  where
    leads : Before q v → LeadsOn (step q v)
    leads (inl h) = inl (omega (arith, ints))
    leads (inr h) = inr (omega (arith, ints), omega (arith, ints))

abbrev turned : Bool → Bool → Ordering → Ordering
turned true true o = o
turned true false o = ordering_reverse o
turned false true o = ordering_reverse o
turned false false o = o

cross_back_plain : (vx vy qx qy sx sy : ℤ) → (vx -ℤ qx) *ℤ (vy -ℤ sy) -ℤ (vy -ℤ qy) *ℤ (vx -ℤ sx) ≡ (qx -ℤ vx) *ℤ (sy -ℤ vy) -ℤ (qy -ℤ vy) *ℤ (sx -ℤ vx)
cross_back_plain vx vy qx qy sx sy = rw (as_D vx, as_D vy, as_D qx, as_D qy, as_D sx, as_D sy) (simp diffs (D-eq _ _ _ _ (omega arith)))

cross_first_plain : (vx vy qx qy sx sy : ℤ) → (qx -ℤ vx) *ℤ (sy -ℤ vy) -ℤ (qy -ℤ vy) *ℤ (sx -ℤ vx) ≡ neg_ℤ ((qx -ℤ vx) *ℤ (vy -ℤ sy) -ℤ (qy -ℤ vy) *ℤ (vx -ℤ sx))
cross_first_plain vx vy qx qy sx sy = rw (as_D vx, as_D vy, as_D qx, as_D qy, as_D sx, as_D sy) (simp diffs (D-eq _ _ _ _ (omega arith)))

cross_second_plain : (vx vy qx qy sx sy : ℤ) → (qx -ℤ vx) *ℤ (sy -ℤ vy) -ℤ (qy -ℤ vy) *ℤ (sx -ℤ vx) ≡ neg_ℤ ((vx -ℤ qx) *ℤ (sy -ℤ vy) -ℤ (vy -ℤ qy) *ℤ (sx -ℤ vx))
cross_second_plain vx vy qx qy sx sy = rw (as_D vx, as_D vy, as_D qx, as_D qy, as_D sx, as_D sy) (simp diffs (D-eq _ _ _ _ (omega arith)))

turn_sign : (v q s : Point) (b c : Bool) → sign (turn v q s) ≡ turned b c (sign (cross_product (forward_by b v q) (forward_by c v s)))
unfolding turn
turn_sign v q s true true = refl
turn_sign v q s true false = ap sign (cross_first_plain v.x v.y q.x q.y s.x s.y) ∙ sign_turned (cross_product (step v q) (step s v))
turn_sign v q s false true = ap sign (cross_second_plain v.x v.y q.x q.y s.x s.y) ∙ sign_turned (cross_product (step q v) (step v s))
turn_sign v q s false false = ap sign (sym (cross_back_plain v.x v.y q.x q.y s.x s.y))

-- ---- the order

-- whether the ray from v to q comes before the one to r
abbrev pub comes_before : Point → Point → Point → Bool
comes_before v q r = cond (point_lt v q) (cond (point_lt v r) (int_lt (pos 0) (turn v q r)) true) (cond (point_lt v r) false (int_lt (pos 0) (turn v q r)))

abbrev pub alike : Bool → Bool → Bool
alike b c = cond b c (not c)

-- whether two rays are one
abbrev pub runs_along : Point → Point → Point → Bool
runs_along v q r = alike (point_lt v q) (point_lt v r) && int_eq (turn v q r) (pos 0)

abbrev first_of : Bool → Bool → Ordering → Bool
first_of b c o = cond b (cond c (is_gt o) true) (cond c false (is_gt o))

comes_before_is : (v q r : Point) (b c : Bool) → point_lt v q ≡ b → point_lt v r ≡ c → comes_before v q r ≡ first_of b c (sign (cross_product (forward_by b v q) (forward_by c v r)))
comes_before_is v q r true true eb ec = rw (eb, ec) (is_positive (turn v q r) ∙ ap is_gt (turn_sign v q r true true))
comes_before_is v q r true false eb ec = rw (eb, ec) refl
comes_before_is v q r false true eb ec = rw (eb, ec) refl
comes_before_is v q r false false eb ec = rw (eb, ec) (is_positive (turn v q r) ∙ ap is_gt (turn_sign v q r false false))

runs_along_is : (v q r : Point) (b c : Bool) → point_lt v q ≡ b → point_lt v r ≡ c → runs_along v q r ≡ (alike b c && is_eq (sign (cross_product (forward_by b v q) (forward_by c v r))))
runs_along_is v q r true true eb ec = rw (eb, ec) (is_nothing (turn v q r) ∙ ap is_eq (turn_sign v q r true true))
runs_along_is v q r true false eb ec = rw (eb, ec) refl
runs_along_is v q r false true eb ec = rw (eb, ec) refl
runs_along_is v q r false false eb ec = rw (eb, ec) (is_nothing (turn v q r) ∙ ap is_eq (turn_sign v q r false false))

abbrev sector_by : Ordering → Ordering → Ordering → Bool
sector_by x y z = cond (is_gt x) (is_gt y && is_gt z) (cond (is_lt x) (is_gt y || is_gt z) (is_gt y))

tests_alike : (a b c d a' b' c' d' : Bool) → a ≡ a' → b ≡ b' → c ≡ c' → d ≡ d' → cond a (c && d) (cond b (c || d) c) ≡ cond a' (c' && d') (cond b' (c' || d') c')
tests_alike a b c d a' b' c' d' p q r s = rw (p, q, r, s) refl

sector_signs : (v q s r : Point) → lies_in_sector v q s r ≡ sector_by (sign (turn v q s)) (sign (turn v q r)) (sign (turn v r s))
sector_signs v q s r = tests_alike _ _ _ _ _ _ _ _ (is_positive (turn v q s)) (is_negative (turn v q s)) (is_positive (turn v q r)) (is_positive (turn v r s))

-- ---- tests of all halves and signs

abbrev all_halves : (Bool → Bool) → Bool
all_halves f = f true && f false

at_half : (f : Bool → Bool) → all_halves f ≡ true → (b : Bool) → f b ≡ true
at_half f h true = (and_parts (f true) (f false) h).0
at_half f h false = (and_parts (f true) (f false) h).1

abbrev all_signs : (Ordering → Bool) → Bool
all_signs f = f Less && (f Equal && f Greater)

at_sign : (f : Ordering → Bool) → all_signs f ≡ true → (o : Ordering) → f o ≡ true
at_sign f h Less = (and_parts (f Less) _ h).0
at_sign f h Equal = (and_parts (f Equal) (f Greater) (and_parts (f Less) _ h).1).0
at_sign f h Greater = (and_parts (f Equal) (f Greater) (and_parts (f Less) _ h).1).1

abbrev pub cyclic : Bool → Bool → Bool → Bool
cyclic a b c = (a && b) || (b && c) || (c && a)

sector_test : Bool → Bool → Bool → Ordering → Ordering → Ordering → Bool
sector_test q s r y z x = cond (composes y z x && not (alike q s && is_eq x)) (alike (sector_by (turned q s x) (turned q r y) (turned r s z)) (cyclic (first_of q r y) (first_of r s z) (first_of s q (ordering_reverse x)))) true

chain_test : Bool → Bool → Bool → Ordering → Ordering → Ordering → Bool
chain_test q s r y z x = cond (composes y z x && (first_of q r y && first_of r s z)) (first_of q s x) true

sector_tests : all_halves (λ q. all_halves (λ s. all_halves (λ r. all_signs (λ y. all_signs (λ z. all_signs (sector_test q s r y z)))))) ≡ true
unfolding sector_test composes
sector_tests = refl

chain_tests : all_halves (λ q. all_halves (λ s. all_halves (λ r. all_signs (λ y. all_signs (λ z. all_signs (chain_test q s r y z)))))) ≡ true
unfolding chain_test composes
chain_tests = refl

sector_tested : (q s r : Bool) (y z x : Ordering) → sector_test q s r y z x ≡ true
sector_tested q s r y z x =
    at_sign (sector_test q s r y z) (at_sign (λ z. all_signs (sector_test q s r y z)) (at_sign (λ y. all_signs (λ z. all_signs (sector_test q s r y z)))
    (at_half (λ r. all_signs (λ y. all_signs (λ z. all_signs (sector_test q s r y z)))) (at_half (λ s. all_halves (λ r. all_signs (λ y. all_signs (λ z. all_signs (sector_test q s r y z)))))
    (at_half (λ q. all_halves (λ s. all_halves (λ r. all_signs (λ y. all_signs (λ z. all_signs (sector_test q s r y z)))))) sector_tests q) s) r) y) z) x

chain_tested : (q s r : Bool) (y z x : Ordering) → chain_test q s r y z x ≡ true
chain_tested q s r y z x =
    at_sign (chain_test q s r y z) (at_sign (λ z. all_signs (chain_test q s r y z)) (at_sign (λ y. all_signs (λ z. all_signs (chain_test q s r y z)))
    (at_half (λ r. all_signs (λ y. all_signs (λ z. all_signs (chain_test q s r y z)))) (at_half (λ s. all_halves (λ r. all_signs (λ y. all_signs (λ z. all_signs (chain_test q s r y z)))))
    (at_half (λ q. all_halves (λ s. all_halves (λ r. all_signs (λ y. all_signs (λ z. all_signs (chain_test q s r y z)))))) chain_tests q) s) r) y) z) x

same_from_alike : (b c : Bool) → alike b c ≡ true → b ≡ c
same_from_alike true c h = sym h
same_from_alike false true h = absurd (cc)
same_from_alike false false h = refl

by_premise : (p c : Bool) → cond p c true ≡ true → p ≡ true → c ≡ true
by_premise true c h e = h
by_premise false c h e = absurd (cc)

back_order : (a b : Point) → sign (cross_product b a) ≡ ordering_reverse (sign (cross_product a b))
back_order a b = ap sign (cross_swapped b a) ∙ sign_turned (cross_product a b)

module _ (v q s r : Point) (hq : v ≡ q → ⊥) (hs : v ≡ s → ⊥) (hr : v ≡ r → ⊥) where
  abbrev to_q : Point
  to_q = forward_by (point_lt v q) v q

  abbrev to_s : Point
  to_s = forward_by (point_lt v s) v s

  abbrev to_r : Point
  to_r = forward_by (point_lt v r) v r

  composed : composes (sign (cross_product to_q to_r)) (sign (cross_product to_r to_s)) (sign (cross_product to_q to_s)) ≡ true
  composed = signs_compose to_q to_r to_s (forward_leads v q hq _ refl) (forward_leads v r hr _ refl) (forward_leads v s hs _ refl)

  -- a ray lies in the sector between two different ones where it comes between them, going around from any ray
  pub in_sector_is : runs_along v q s ≡ false → lies_in_sector v q s r ≡ cyclic (comes_before v q r) (comes_before v r s) (comes_before v s q)
  unfolding sector_test
  in_sector_is other =
      let apart : (alike (point_lt v q) (point_lt v s) && is_eq (sign (cross_product to_q to_s))) ≡ false = sym (runs_along_is v q s _ _ refl refl) ∙ other in
      let test = by_premise _ _ (sector_tested (point_lt v q) (point_lt v s) (point_lt v r) (sign (cross_product to_q to_r)) (sign (cross_product to_r to_s)) (sign (cross_product to_q to_s))) (and_from _ _ composed (ap not apart)) in
      sector_signs v q s r
      ∙ rw (
        turn_sign v q s (point_lt v q) (point_lt v s),
        turn_sign v q r (point_lt v q) (point_lt v r),
        turn_sign v r s (point_lt v r) (point_lt v s),
        comes_before_is v q r _ _ refl refl,
        comes_before_is v r s _ _ refl refl,
        comes_before_is v s q _ _ refl refl,
        back_order to_q to_s,
      ) (same_from_alike _ _ test)

  pub before-trans : comes_before v q r ≡ true → comes_before v r s ≡ true → comes_before v q s ≡ true
  unfolding chain_test
  before-trans h k =
      let first = sym (comes_before_is v q r _ _ refl refl) ∙ h in
      let second = sym (comes_before_is v r s _ _ refl refl) ∙ k in
      comes_before_is v q s _ _ refl refl
      ∙ by_premise _ _ (chain_tested (point_lt v q) (point_lt v s) (point_lt v r) (sign (cross_product to_q to_r)) (sign (cross_product to_r to_s)) (sign (cross_product to_q to_s))) (and_from _ _ composed (and_from _ _ first second))

one_way : (b c : Bool) (o : Ordering) → first_of b c o ≡ true → first_of c b (ordering_reverse o) ≡ false
one_way true true Less h = absurd (cc)
one_way true true Equal h = absurd (cc)
one_way true true Greater h = refl
one_way true false o h = refl
one_way false true o h = absurd (cc)
one_way false false Less h = absurd (cc)
one_way false false Equal h = absurd (cc)
one_way false false Greater h = refl

either_way : (b c : Bool) (o : Ordering) → (alike b c && is_eq o) ≡ false → first_of b c o ≡ false → first_of c b (ordering_reverse o) ≡ true
either_way true true Less h k = refl
either_way true true Equal h k = absurd (cc)
either_way true true Greater h k = absurd (cc)
either_way true false o h k = absurd (cc)
either_way false true o h k = refl
either_way false false Less h k = refl
either_way false false Equal h k = absurd (cc)
either_way false false Greater h k = absurd (cc)

pub before_one_way : (v q r : Point) → comes_before v q r ≡ true → comes_before v r q ≡ false
before_one_way v q r h =
    comes_before_is v r q _ _ refl refl ∙ ap (first_of (point_lt v r) (point_lt v q)) (back_order (forward_by (point_lt v q) v q) (forward_by (point_lt v r) v r))
    ∙ one_way (point_lt v q) (point_lt v r) (sign (cross_product (forward_by (point_lt v q) v q) (forward_by (point_lt v r) v r))) (sym (comes_before_is v q r _ _ refl refl) ∙ h)

pub before_either_way : (v q r : Point) → runs_along v q r ≡ false → comes_before v q r ≡ false → comes_before v r q ≡ true
before_either_way v q r other h =
    comes_before_is v r q _ _ refl refl ∙ ap (first_of (point_lt v r) (point_lt v q)) (back_order (forward_by (point_lt v q) v q) (forward_by (point_lt v r) v r))
    ∙ either_way (point_lt v q) (point_lt v r) (sign (cross_product (forward_by (point_lt v q) v q) (forward_by (point_lt v r) v r))) (sym (runs_along_is v q r _ _ refl refl) ∙ other) (sym (comes_before_is v q r _ _ refl refl) ∙ h)

-- ---- of three different rays

alike_back : (b c : Bool) → alike b c ≡ alike c b
alike_back true true = refl
alike_back true false = refl
alike_back false true = refl
alike_back false false = refl

eq_back : (o : Ordering) → is_eq (ordering_reverse o) ≡ is_eq o
eq_back Less = refl
eq_back Equal = refl
eq_back Greater = refl

pub runs_along-back : (v q r : Point) → runs_along v r q ≡ runs_along v q r
runs_along-back v q r =
    runs_along_is v r q _ _ refl refl
    ∙ rw (alike_back (point_lt v r) (point_lt v q), back_order (forward_by (point_lt v q) v q) (forward_by (point_lt v r) v r), eq_back (sign (cross_product (forward_by (point_lt v q) v q) (forward_by (point_lt v r) v r)))) refl
    ∙ sym (runs_along_is v q r _ _ refl refl)

before_turned : (v q r : Point) → runs_along v q r ≡ false → comes_before v r q ≡ not (comes_before v q r)
before_turned v q r other = elim (cases_Bool (comes_before v q r)) [
  | inl h ↦ before_one_way v q r h ∙ sym (ap not h)
  | inr h ↦ before_either_way v q r other h ∙ sym (ap not h)
]

cyclic_first : (a b c : Bool) → cyclic a b c ≡ not (cyclic (not a) (not c) (not b))
cyclic_first true true true = refl
cyclic_first true true false = refl
cyclic_first true false true = refl
cyclic_first true false false = refl
cyclic_first false true true = refl
cyclic_first false true false = refl
cyclic_first false false true = refl
cyclic_first false false false = refl

cyclic_last : (a b c : Bool) → cyclic a b c ≡ not (cyclic (not c) (not b) (not a))
cyclic_last true true true = refl
cyclic_last true true false = refl
cyclic_last true false true = refl
cyclic_last true false false = refl
cyclic_last false true true = refl
cyclic_last false true false = refl
cyclic_last false false true = refl
cyclic_last false false false = refl

module _ (v q s r : Point) (hq : v ≡ q → ⊥) (hs : v ≡ s → ⊥) (hr : v ≡ r → ⊥) (qs : runs_along v q s ≡ false) (qr : runs_along v q r ≡ false) (rs : runs_along v r s ≡ false) where
  qs_turned : comes_before v q s ≡ not (comes_before v s q)
  qs_turned = before_turned v s q (runs_along-back v q s ∙ qs)

  -- r lies in the sector from q to s, or else q in that from r to s
  pub sector_from_other : lies_in_sector v q s r ≡ not (lies_in_sector v r s q)
  sector_from_other =
      in_sector_is v q s r hq hs hr qs ∙ cyclic_first (comes_before v q r) (comes_before v r s) (comes_before v s q)
      ∙ ap not (rw (← before_turned v q r qr, ← qs_turned, ← before_turned v r s rs) refl ∙ sym (in_sector_is v r s q hr hs hq rs))

  -- r lies in the sector from q to s, or else s in that from q to r
  pub sector_to_other : lies_in_sector v q s r ≡ not (lies_in_sector v q r s)
  sector_to_other =
      in_sector_is v q s r hq hs hr qs ∙ cyclic_last (comes_before v q r) (comes_before v r s) (comes_before v s q)
      ∙ ap not (rw (← before_turned v q r qr, ← qs_turned, ← before_turned v r s rs) refl ∙ sym (in_sector_is v q r s hq hr hs qr))
