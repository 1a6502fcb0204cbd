-- The cuts of two segments that cross, as marks: the first stays and goes through the rounded crossing, the second moves to it.
use Rattle.std.proofs.Common.{◌≡◌, sym, ap, subst, ◌⊎◌, inl, inr, ⊎_elim, arith, refl, ℕ, zero, suc, ◌<◌, List, [], ◌∷◌, get_or}
use Rattle.std.specs.Prelude.{pos, unsigned_abs, Contains, IsFalse, IsSortedByKey}
use Rattle.std.specs.Ordering.{nat_cmp}
use Rattle.std.proofs.lemmas.List.Elements.{All-from_recursion}
use Rattle.overlay_geometry.specs.Points.{Point, Pair, is_end}
use Rattle.overlay_geometry.proofs.laws.geometry.Points.{not_end}
use Rattle.overlay_geometry.proofs.laws.lists.Lists.{Has}
use Rattle.overlay_geometry.proofs.laws.lists.Elements.{Has-from_Contains}
use Rattle.overlay_base.specs.Segments.{WholeSegment, pairs}
use Rattle.overlay_base.proofs.examples.Words.{neg, point, pair}
use Rattle.overlay_intersections.specs.MarkOf.{Mark, points_at}
use Rattle.overlay_snapping.specs.Chains.{IsCutAt, IsChain, AreCutsBetween, Moves}
use Rattle.overlay_snapping.specs.CutsOf.{AreCuts}
use Rattle.overlay_snapping.proofs.laws.chains.Closures.{chain_of_mover, chain_in_place, movers_are_in}
use Rattle.overlay_snapping.proofs.examples.Chains.{two, two_hot, two_movers, crossing_of_two, second_of_two, two_closed}
use Rattle.overlay_snapping.proofs.examples.Computing.{computing}

abbrev first : Pair
first = pair (pos 0) (pos 0) (pos 5) (pos 5)

abbrev second : Pair
second = pair (pos 0) (pos 3) (pos 5) (neg 2)

abbrev crossing : Point
crossing = point (pos 2) (pos 2)

first_chain : IsChain (pairs two) first (point (pos 0) (pos 0) ∷ crossing ∷ point (pos 5) (pos 5) ∷ [])
unfolding computing
first_chain = chain_in_place (pairs two) two_hot two_movers _ _ two_closed (crossing_of_two, tt) refl (record { in_order = refl; has_all = refl; has_no_other = refl })

second_chain : IsChain (pairs two) second (point (pos 0) (pos 3) ∷ crossing ∷ point (pos 5) (neg 2) ∷ [])
unfolding computing
second_chain = chain_of_mover (pairs two) two_hot two_movers _ _ two_closed (crossing_of_two, tt) second_of_two (record { in_order = refl; has_all = refl; has_no_other = refl })

-- of a chain with one point between the ends, that point is the cut
one_between : (s : Pair) (c : Point) → IsFalse (is_end s c) → IsChain (pairs two) s (s.a ∷ c ∷ s.b ∷ []) → AreCutsBetween (pairs two) s (c ∷ [])
unfolding computing
one_between s c n chain = record { in_order = refl; complete = λ d. (to d, from d) }
  where
    to : (d : Point) → Contains (c ∷ []) d → IsCutAt (pairs two) s d × IsFalse (is_end s d)
    to d i = ⊎_elim (λ e. subst (λ (q : Point). IsCutAt (pairs two) s q × IsFalse (is_end s q)) e ((chain.complete c).0 (1, omega arith, refl), n)) (λ h. absurd h) (Has-from_Contains (c ∷ []) d i)

    by : (d : Point) → IsFalse (is_end s d) → Has (s.a ∷ c ∷ s.b ∷ []) d → Contains (c ∷ []) d
    by d m (inl e) = absurd ((not_end s d m).0 (sym e))
    by d m (inr (inl e)) = (0, omega arith, e)
    by d m (inr (inr (inl e))) = absurd ((not_end s d m).1 (sym e))
    by d m (inr (inr (inr n))) = elim n [ ]

    from : (d : Point) → IsCutAt (pairs two) s d × IsFalse (is_end s d) → Contains (c ∷ []) d
    from d k = by d k.1 (Has-from_Contains (s.a ∷ c ∷ s.b ∷ []) d ((chain.complete d).1 k.0))

first_stays : Moves (pairs two) first → ⊥
first_stays m = by (movers_are_in (pairs two) two_hot two_movers two_closed first m)
  where
    by : Has two_movers first → ⊥
    by (inl e) = let same : 3 ≡ 0 = ap (λ (s : Pair). unsigned_abs s.a.y) e in absurd (omega (arith, same))
    by (inr n) = elim n [ ]

abbrev cuts : List Mark
cuts = record { index = 0; point = crossing } ∷ record { index = 1; point = crossing } ∷ []

cuts_between : (index : ℕ) (d : WholeSegment) → index < 2 → AreCutsBetween (pairs two) (get_or two index d).pair (points_at index cuts)
unfolding computing
cuts_between zero d h = one_between first crossing refl first_chain
cuts_between (suc zero) d h = one_between second crossing refl second_chain
cuts_between (suc (suc k)) d h = absurd (omega (arith, h))

decided : (s : Pair) → Has (pairs two) s → Moves (pairs two) s ⊎ (Moves (pairs two) s → ⊥)
decided s (inl e) = subst (λ (t : Pair). Moves (pairs two) t ⊎ (Moves (pairs two) t → ⊥)) e (inr first_stays)
decided s (inr (inl e)) = subst (λ (t : Pair). Moves (pairs two) t ⊎ (Moves (pairs two) t → ⊥)) e (inl second_of_two)
decided s (inr (inr n)) = elim n [ ]

indices_rise : IsSortedByKey (λ (m : Mark). m.index) nat_cmp cuts
indices_rise zero d p q = refl
indices_rise (suc k) d p q = absurd (omega (arith, q))

cuts_of_two : AreCuts two cuts
cuts_of_two = record {
  in_order = indices_rise;
  within = All-from_recursion (λ (m : Mark). m.index < 2) cuts (omega arith, (omega arith, tt));
  each = cuts_between;
  decided = λ s i. decided s (Has-from_Contains (pairs two) s i);
}
