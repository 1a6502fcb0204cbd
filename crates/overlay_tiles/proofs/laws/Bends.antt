-- A path near a step winds around a point that is farther from the step as the step from its first point to its last.
use Rattle.std.proofs.Common.{◌≡◌, ◌⊎◌, inl, inr, refl, sym, ap, ap₂, ◌∙◌, ℕ, Bool, true, false, ◌&&◌, ◌||◌, cond, arith, List, [], ◌∷◌, ◌++◌}
use Rattle.std.specs.Prelude.{ℤ, pos, negsuc, ◌+ℤ◌, ◌-ℤ◌, ◌*ℤ◌, ◌≤ℤ◌, ◌<ℤ◌, int_le, int_lt, not, if◌then◌else◌, IsTrue}
use Rattle.std.specs.List.{AllByRecursion}
use Rattle.std.proofs.lemmas.Int.{ints, by_lt_z}
use Rattle.std.proofs.lemmas.Bool.{cases_Bool}
use Rattle.overlay_geometry.specs.Points.{Point, Pair}
use Rattle.overlay_geometry.proofs.laws.integers.Tests.{le-test, le-test_false, lt-test, lt-test_false}
use Rattle.overlay_geometry.proofs.laws.lists.Lists.{Steps, Has, by_list_any, AllByRecursion-at}
use Rattle.overlay_base.specs.Places.{RationalPoint, spans, runs_below, lies_below}
use Rattle.overlay_base.specs.Sums.{gathered}
use Rattle.overlay_cuts.specs.Path.{last_point}
use Rattle.overlay_cuts.specs.Nearness.{whole_point, IsNear, LiesNear}
use Rattle.overlay_cuts.proofs.laws.nearness.Distances.{LiesNear-from_ends}
use Rattle.overlay_cuts.proofs.laws.nearness.OneSide.{one_side}
use Rattle.overlay_cuts.proofs.laws.paths.Pieces.{last_point-append}
use Rattle.overlay_contours.specs.Contours.{steps_from, turned, step_winding}

-- 1 for a point up to the vertical line through p
abbrev pub left_of : RationalPoint → Point → ℤ
left_of p q = cond (int_le (q.x *ℤ pos p.bottom) p.x) (pos 1) (pos 0)

-- ---- where all that meets the line runs below p, a step counts what it changes

is_less : (x v : ℤ) → int_lt x v ≡ not (int_le v x)
is_less x v = by_lt_z x v (λ (less : x <ℤ v). rw (lt-test x v less, le-test_false v x less) refl) (λ (more : v ≤ℤ x). rw (lt-test_false x v more, le-test v x more) refl)

met_below : (s : Pair) (p : RationalPoint) → (IsTrue (spans s p) → IsTrue (runs_below s p)) → lies_below s p ≡ spans s p
met_below s p h = by (spans s p) (runs_below s p) h
  where
    by : (a b : Bool) → (a ≡ true → b ≡ true) → (a && b) ≡ a
    by true b h = h refl
    by false b h = refl

pub counts_change : (s : Pair) (p : RationalPoint) → (IsTrue (spans s p) → IsTrue (runs_below s p)) → (IsTrue (spans (turned s) p) → IsTrue (runs_below (turned s) p)) → step_winding p s ≡ left_of p s.a -ℤ left_of p s.b
counts_change s p h k =
    ap₂ (λ (u v : Bool). if u then pos 1 else (if v then negsuc 0 else pos 0)) (met_below s p h ∙ ap (λ (b : Bool). int_le (s.a.x *ℤ pos p.bottom) p.x && b) (is_less p.x (s.b.x *ℤ pos p.bottom)))
    (met_below (turned s) p k ∙ ap (λ (b : Bool). int_le (s.b.x *ℤ pos p.bottom) p.x && b) (is_less p.x (s.a.x *ℤ pos p.bottom)))
    ∙ by (int_le (s.a.x *ℤ pos p.bottom) p.x) (int_le (s.b.x *ℤ pos p.bottom) p.x)
  where
    by : (a b : Bool) → (if (a && not b) then pos 1 else (if (b && not a) then negsuc 0 else pos 0)) ≡ cond a (pos 1) (pos 0) -ℤ cond b (pos 1) (pos 0)
    by true true = refl
    by true false = refl
    by false true = refl
    by false false = refl

-- ---- all steps of a path

abbrev pub Changes : RationalPoint → Point → Point → Type 0
Changes p u v = step_winding p (record { a = u; b = v }) ≡ left_of p u -ℤ left_of p v

abbrev pub CountsNothing : RationalPoint → Point → Point → Type 0
CountsNothing p u v = step_winding p (record { a = u; b = v }) ≡ pos 0

pub changes_add : (p : RationalPoint) (u : Point) (points : List Point) → Steps (Changes p) u points → gathered ◌+ℤ◌ (pos 0) (step_winding p) (steps_from u points) ≡ left_of p u -ℤ left_of p (last_point u points)
unfolding last_point
changes_add p u [] h = sym (nothing (left_of p u))
  where
    nothing : (z : ℤ) → z -ℤ z ≡ pos 0
    nothing z = omega (arith, ints)
changes_add p u (v ∷ points) h = ap₂ ◌+ℤ◌ h.0 (changes_add p v points h.1) ∙ through (left_of p u) (left_of p v) (left_of p (last_point v points))
  where
    through : (a b c : ℤ) → (a -ℤ b) +ℤ (b -ℤ c) ≡ a -ℤ c
    through a b c = omega (arith, ints)

pub nothing_adds : (p : RationalPoint) (u : Point) (points : List Point) → Steps (CountsNothing p) u points → gathered ◌+ℤ◌ (pos 0) (step_winding p) (steps_from u points) ≡ pos 0
nothing_adds p u [] h = refl
nothing_adds p u (v ∷ points) h = ap₂ ◌+ℤ◌ h.0 (nothing_adds p v points h.1)

pub last_of_append : (u q : Point) (points : List Point) → last_point u (points ++ q ∷ []) ≡ q
unfolding last_point
last_of_append u q points = last_point-append u points (q ∷ [])

-- what holds of all pairs of a list holds along a path, if the list has its steps
along_from : (R : Point → Point → Type 0) (u : Point) (points : List Point) → ((s : Pair) → Has (steps_from u points) s → R s.a s.b) → Steps R u points
along_from R u [] f = tt
along_from R u (v ∷ points) f = (f (record { a = u; b = v }) (inl refl), along_from R v points (λ s i. f s (inr i)))

-- ---- a path near a step

module _ (h : ℕ) (p : RationalPoint) (s : Pair) (far : IsNear h p s → ⊥) where
  abbrev IsNearStep : Point → Type 0
  IsNearStep q = IsNear h (whole_point q) s

  -- each step of a path whose points are near lies near, both ways
  steps_near : (u : Point) (points : List Point) → IsNearStep u → AllByRecursion IsNearStep points → AllByRecursion (λ r. LiesNear h r s × LiesNear h (turned r) s) (steps_from u points)
  steps_near u [] at all = tt
  steps_near u (v ∷ points) at all =
      let r : Pair = record { a = u; b = v } in
      ((LiesNear-from_ends h r s at all.0, LiesNear-from_ends h (turned r) s all.0 at), steps_near v points all.0 all.1)

  abbrev lies_below_either : Pair → Bool
  lies_below_either r = lies_below r p || lies_below (turned r) p

  either_false : (a b : Bool) → (a || b) ≡ false → (a ≡ false) × (b ≡ false)
  either_false true b e = absurd (no e)
    where
      no : true ≡ false → ⊥
      no e = cc
  either_false false b e = (refl, e)

  -- of a pair that lies below p one way or the other
  lower : (r : Pair) → LiesNear h r s → LiesNear h (turned r) s → lies_below_either r ≡ true → (t : Pair) → LiesNear h t s → IsTrue (spans t p) → IsTrue (runs_below t p)
  lower r near near_turned e t near_t met = by (cases_Bool (lies_below r p))
    where
      or_right : (a b : Bool) → a ≡ false → (a || b) ≡ true → b ≡ true
      or_right true b f e = absurd (no f)
        where
          no : true ≡ false → ⊥
          no f = cc
      or_right false b f e = e

      by : (lies_below r p ≡ true) ⊎ (lies_below r p ≡ false) → IsTrue (runs_below t p)
      by (inl l) = one_side h p s r t far near near_t l met
      by (inr l) = one_side h p s (turned r) t far near_turned near_t (or_right (lies_below r p) (lies_below (turned r) p) l e) met

  pub path_winds : (u : Point) (points : List Point) → IsNearStep u → AllByRecursion IsNearStep points → IsNearStep (last_point u points) →
      gathered ◌+ℤ◌ (pos 0) (step_winding p) (steps_from u points) ≡ step_winding p (record { a = u; b = last_point u points })
  path_winds u points at all last =
      let whole : Pair = record { a = u; b = last_point u points } in
      let near_whole = LiesNear-from_ends h whole s at last in
      let near_turned = LiesNear-from_ends h (turned whole) s last at in
      let each : AllByRecursion (λ (r : Pair). LiesNear h r s × LiesNear h (turned r) s) (whole ∷ steps_from u points) = ((near_whole, near_turned), steps_near u points at all) in
      by_list_any lies_below_either (whole ∷ steps_from u points)
      (λ r i below.
      let here = AllByRecursion-at (λ (t : Pair). LiesNear h t s × LiesNear h (turned t) s) (whole ∷ steps_from u points) r each i in
      let all_lower = lower r here.0 here.1 below in
      changes_add p u points
      (along_from (Changes p) u points
      (λ t j. let k = AllByRecursion-at (λ (t : Pair). LiesNear h t s × LiesNear h (turned t) s) (steps_from u points) t each.1 j in counts_change t p (all_lower t k.0) (all_lower (turned t) k.1)))
      ∙ sym (counts_change whole p (all_lower whole near_whole) (all_lower (turned whole) near_turned)))
      (λ none.
      nothing_adds p u points (along_from (CountsNothing p) u points (λ t j. nothing t (none t (inr j))))
      ∙ sym (nothing whole (none whole (inl refl))))
    where
      nothing : (t : Pair) → lies_below_either t ≡ false → step_winding p t ≡ pos 0
      nothing t e =
          let both = either_false (lies_below t p) (lies_below (turned t) p) e in
          ap₂ (λ (u v : Bool). if u then pos 1 else (if v then negsuc 0 else pos 0)) both.0 both.1
