-- A planar arrangement has no marks: a pass leaves it as it is, and a run returns it after one pass.
use Rattle.std.proofs.Common.{◌≡◌, refl, sym, ap, ◌∙◌, subst, arith, true, false, Bool, IsTrue, IsFalse, List, [], ℕ, zero, suc, ◌-◌, ◌<◌, ◌≤◌, min, length, nat_le, nat_lt}
use Rattle.std.specs.List.{list_any}
use Rattle.std.proofs.lemmas.Bool.{or_from, and_right, leb-true, leb-false}
use Rattle.std.proofs.lemmas.List.Elements.{recursion_from_All}
use Rattle.overlay_base.specs.Segments.{WholeSegment, pairs, is_map}
use Rattle.overlay_base.specs.Join.{has_equal_pairs}
use Rattle.overlay_base.specs.Planar.{is_planar}
use Rattle.overlay_intersections.specs.Marks.{Placing, cross_inexactly}
use Rattle.overlay_cuts.specs.Pass.{pass}
use Rattle.overlay_intersections.specs.PassMarks.{marks_on, is_rounded, mark_count}
use Rattle.overlay_cuts.specs.Run.{Settings, placing_of_pass, after_passes, goes_on, has_marked, has_changed, IsPassCount}
use Rattle.overlay_split.specs.Laws.{UnmarkedCutIsUnchanged, PlanarPassIsUnchanged, ArrangedIsUnchanged}
use Rattle.overlay_base.proofs.laws.joins.Maps.{join-map}
use Rattle.overlay_base.proofs.laws.joins.Repeats.{has_equal_pairs-map}
use Rattle.overlay_geometry.proofs.laws.lists.Lists.{AllByRecursion-at}
use Rattle.overlay_intersections.proofs.laws.marks.ApartPairs.{apart_are_exact}
use Rattle.overlay_cuts.proofs.laws.planar.PlanarPasses.{is_planar-each}
use Rattle.overlay_cuts.proofs.laws.planar.Unmarked.{none_passes, planar_mark_count, planar_unmarked, unmarked_pass}

-- ---- no marks

pub planar_not_rounded : (segments : List WholeSegment) → IsTrue (is_planar segments) → IsFalse (is_rounded segments)
unfolding is_rounded
planar_not_rounded segments h = none_passes (λ s. list_any (λ t. cross_inexactly s t) (pairs segments)) (pairs segments) (λ s i. none_passes (λ t. cross_inexactly s t) (pairs segments) (λ t j. apart_are_exact s t (is_planar-each segments h s t i j)))

-- ---- a pass changes nothing

pub unmarked_cut_is_unchanged : UnmarkedCutIsUnchanged
unmarked_cut_is_unchanged marks segments m none = unmarked_pass marks segments (λ s i. AllByRecursion-at (λ t. marks t ≡ []) (pairs segments) s (recursion_from_All (λ t. marks t ≡ []) (pairs segments) none) i) m

pub planar_pass : (placing : Placing) (segments : List WholeSegment) → IsTrue (is_map segments) → IsTrue (is_planar segments) → pass placing segments ≡ segments
unfolding pass
planar_pass placing segments m h = unmarked_pass (marks_on placing segments) segments (planar_unmarked placing segments h) m

pub planar_pass_is_unchanged : PlanarPassIsUnchanged
planar_pass_is_unchanged placing segments m h = (planar_pass placing segments m h, planar_mark_count placing segments h, planar_not_rounded segments h)

-- ---- a run

pub planar_after_passes : (settings : Settings) (segments : List WholeSegment) → IsTrue (is_map segments) → IsTrue (is_planar segments) → (k : ℕ) → after_passes settings segments k ≡ segments
unfolding after_passes
planar_after_passes settings segments m h zero = join-map segments m
planar_after_passes settings segments m h (suc k) =
    ap (λ (l : List WholeSegment). pass (placing_of_pass settings (suc k)) l) (planar_after_passes settings segments m h k) ∙ planar_pass (placing_of_pass settings (suc k)) segments m h

-- the first pass is made where there are two pairs, and no second one
planar_goes_on : (settings : Settings) (segments : List WholeSegment) → IsTrue (is_map segments) → goes_on settings segments zero ≡ nat_le 2 (length segments)
unfolding goes_on
planar_goes_on settings segments m = ap (λ (l : List WholeSegment). nat_le 2 (length l)) (join-map segments m)

planar_stops : (settings : Settings) (segments : List WholeSegment) → IsTrue (is_map segments) → IsTrue (is_planar segments) → (k : ℕ) → IsFalse (goes_on settings segments (suc k))
unfolding goes_on
planar_stops settings segments m h k =
    and_right (nat_le 2 (length (after_passes settings segments (suc k)))) (is_rounded (after_passes settings segments k))
    (ap (λ (l : List WholeSegment). is_rounded l) (planar_after_passes settings segments m h k) ∙ planar_not_rounded segments h)

no_mark_test : (n : ℕ) → n ≡ 0 → nat_lt 0 n ≡ false
no_mark_test n e = ap (λ (k : ℕ). nat_lt 0 k) e

planar_has_marked : (settings : Settings) (segments : List WholeSegment) → IsTrue (is_map segments) → IsTrue (is_planar segments) → (k : ℕ) → IsFalse (has_marked settings segments k)
unfolding has_marked
planar_has_marked settings segments m h zero = refl
planar_has_marked settings segments m h (suc k) =
    or_from (has_marked settings segments k) (nat_lt 0 (mark_count (placing_of_pass settings (suc k)) (after_passes settings segments k)))
    (planar_has_marked settings segments m h k)
    (no_mark_test (mark_count (placing_of_pass settings (suc k)) (after_passes settings segments k))
    (ap (λ (l : List WholeSegment). mark_count (placing_of_pass settings (suc k)) l) (planar_after_passes settings segments m h k) ∙ planar_mark_count (placing_of_pass settings (suc k)) segments h))

planar_has_changed : (settings : Settings) (segments : List WholeSegment) → IsTrue (is_map segments) → IsTrue (is_planar segments) → (k : ℕ) → false ≡ has_changed settings segments k
unfolding has_changed
planar_has_changed settings segments m h k = sym (or_from (has_equal_pairs segments) (has_marked settings segments k) (has_equal_pairs-map segments m) (planar_has_marked settings segments m h k))

planar_count : (settings : Settings) (segments : List WholeSegment) → IsTrue (is_map segments) → IsTrue (is_planar segments) → (b : Bool) → nat_le 2 (length segments) ≡ b → IsPassCount settings segments (min 1 (length segments - 1))
planar_count settings segments m h true e =
    let many : 2 ≤ length segments = leb-true 2 (length segments) e in
    let one : suc zero ≡ min 1 (length segments - 1) = omega arith in
    subst (IsPassCount settings segments) one (record {
      made = λ j less. let first : zero ≡ j = omega arith in subst (λ (k : ℕ). IsTrue (goes_on settings segments k)) first (planar_goes_on settings segments m ∙ e);
      no_more = planar_stops settings segments m h zero;
    })
planar_count settings segments m h false e =
    let few : length segments < 2 = leb-false 2 (length segments) e in
    let none : zero ≡ min 1 (length segments - 1) = omega arith in
    subst (IsPassCount settings segments) none (record {
      made = λ j less. absurd (omega arith);
      no_more = planar_goes_on settings segments m ∙ e;
    })

pub arranged_is_unchanged : ArrangedIsUnchanged
arranged_is_unchanged settings segments m h = record {
  count = planar_count settings segments m h (nat_le 2 (length segments)) refl;
  arrangement = sym (planar_after_passes settings segments m h (min 1 (length segments - 1)));
  changed = planar_has_changed settings segments m h (min 1 (length segments - 1));
}
