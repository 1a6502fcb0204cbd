-- Groups in which each fragment begins above where the one before it ends.
use Rattle.std.proofs.Common.{◌≡◌, refl, ap₂, subst, ℕ, suc, ◌+◌, ◌<◌, arith, Bool, false, ◌||◌, List, [], ◌∷◌, ◌++◌, get_or, is_lt, length}
use Rattle.std.specs.Prelude.{ℤ, ◌≤ℤ◌, ◌<ℤ◌}
use Rattle.std.specs.Ordering.{int_cmp}
use Rattle.std.proofs.lemmas.Int.{ints}
use Rattle.overlay_intersections.specs.MarkOf.{Mark}
use Rattle.overlay_intersections.specs.Marks.{Placing}
use Rattle.overlay_grid.specs.FragmentOf.{fragment_of, fragments_of, greatest_along, IsSortedAlong}
use Rattle.overlay_grid.specs.declared.split.axis.Axis.TheVariants.{Y}
use Rattle.overlay_grid.specs.declared.split.fragment.Fragment.{Fragment as CodeFragment}
use Rattle.overlay_grid.specs.steps.FragmentFinder.{is_group_rounded, marks_of_group}
use Rattle.overlay_grid.proofs.laws.grid.FoundFragments.{none_meet, past_from}
use Rattle.overlay_grid.proofs.laws.grid.GridGroups.{IsSortedAlong-from_sort}

module _ {I : Type 0} (whole : I → ℤ) where
  -- one begins above where another ends, and no lower than that begins
  pub record IsAbove (before f : CodeFragment I) : Type 0 where
    pub past : whole before.rect.max_y <ℤ whole f.rect.min_y
    pub order : whole before.rect.min_y ≤ℤ whole f.rect.min_y

  -- each of the first so many begins above the one before it
  abbrev pub AreAbove : ℕ → List (CodeFragment I) → Type 0
  AreAbove place fs = (i : ℕ) → (d : CodeFragment I) → i + 1 < place → IsAbove (get_or fs i d) (get_or fs (i + 1) d)

  not_before : (a b : ℤ) → a ≤ℤ b → is_lt (int_cmp b a) ≡ false
  not_before a b h = grind (arith, ints)

  in_order : (fs : List (CodeFragment I)) → AreAbove (length fs) fs → IsSortedAlong Y (fragments_of whole fs)
  in_order fs h = IsSortedAlong-from_sort whole Y fs (λ k d low high. not_before _ _ (h k d high).order)

  none_marked : (placing : Placing) (fs : List (CodeFragment I)) → AreAbove (length fs) fs → IsSortedAlong Y (fragments_of whole fs) → (marks_of_group placing (fragments_of whole fs) ≡ []) × (is_group_rounded (fragments_of whole fs) ≡ false)
  unfolding marks_of_group is_group_rounded
  none_marked placing [] h s = (refl, refl)
  none_marked placing (f ∷ []) h s = (refl, refl)
  none_marked placing (f ∷ g ∷ fs) h s =
      let here = none_meet placing Y (fragment_of whole f) (fragments_of whole (g ∷ fs)) (past_from Y (greatest_along Y (fragment_of whole f)) (fragment_of whole g) (fragments_of whole fs) s.1 (h 0 f (omega arith)).past) in
      let rest = none_marked placing (g ∷ fs) (λ i d low. subst (λ (n : ℕ). IsAbove (get_or (g ∷ fs) i d) (get_or (f ∷ g ∷ fs) n d)) (let e : suc i + 1 ≡ suc (i + 1) = omega arith in e) (h (suc i) d (omega arith))) s.1 in
      (ap₂ (λ (ms ns : List Mark). ms ++ ns) here.0 rest.0, ap₂ (λ (b c : Bool). b || c) here.1 rest.1)

  pub no_marks_apart : (placing : Placing) (fs : List (CodeFragment I)) → AreAbove (length fs) fs → (marks_of_group placing (fragments_of whole fs) ≡ []) × (is_group_rounded (fragments_of whole fs) ≡ false)
  no_marks_apart placing fs h = none_marked placing fs h (in_order fs h)
