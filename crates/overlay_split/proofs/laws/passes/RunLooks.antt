-- How many pairs a pass compares by what it goes over, and a run from one pass to the next.
use Rattle.std.proofs.Common.{◌≡◌, sym, subst, ◌∙◌, ℕ, suc, ◌+◌, ◌-◌, ◌≤◌, arith, List, [], ◌∷◌, length, Bool, true, false, cond, inl, inr}
use Rattle.std.specs.Prelude.{Option, None, min, ◌^◌}
use Rattle.std.proofs.lemmas.Bool.{cases_Bool}
use Rattle.overlay_geometry.specs.Points.{Pair}
use Rattle.overlay_geometry.specs.Sorting.{distinct_in_order, stably_sorted}
use Rattle.overlay_base.specs.Segments.{WholeSegment, pairs}
use Rattle.overlay_base.specs.Choices.{list_splits}
use Rattle.overlay_base.specs.Join.{summed, join}
use Rattle.overlay_base.specs.declared.overlay_core.solver.Strategy.{Strategy}
use Rattle.overlay_base.specs.declared.overlay_core.solver.Strategy.TheVariants.{List as ByList}
use Rattle.overlay_grid.specs.Grid.{Layout}
use Rattle.overlay_intersections.specs.Looked.{count_twos, x_ranges_meet, list_looks}
use Rattle.overlay_cuts.specs.Run.{Settings, after_passes}
use Rattle.overlay_cuts.specs.PassLooks.{wide_looks, pass_looks, ArePassLooks}
use Rattle.overlay_split.specs.RunLooks.{run_looks, AreRunLooks}
use Rattle.overlay_grid.specs.GridFor.{IsGridFor}

-- ---- a pass

-- a pass over a part of the list, under another strategy than `List`
pub ArePassLooks-fewer : (strategy : Strategy) (grid : Option Layout) (ps part : List Pair) (old new : ℕ) (is_list : Bool) → is_list ≡ list_splits strategy (length ps) → (strategy ≡ ByList → ⊥) → list_looks part ≤ list_looks ps → wide_looks grid part ≤ wide_looks grid ps →
    (is_list ≡ true → new ≡ min (old + count_twos x_ranges_meet part) (2 ^ 128 - 1)) → (is_list ≡ false → new ≤ old + wide_looks grid part) → ArePassLooks strategy grid ps old new
unfolding pass_looks list_looks
ArePassLooks-fewer strategy grid ps part old new is_list e other few_listed few listed wide = record {
  most = elim (cases_Bool is_list) [
    | inl k ↦ subst (λ (b : Bool). new ≤ old + cond b (list_looks ps) (wide_looks grid ps)) (sym k ∙ e) (within new _ (list_looks ps) old (2 ^ 128 - 1) few_listed (listed k))
    | inr k ↦ subst (λ (b : Bool). new ≤ old + cond b (list_looks ps) (wide_looks grid ps)) (sym k ∙ e) (let spent = wide k in omega (arith, spent, few))
  ];
  exact = λ t. absurd (other t);
}
  where
    within : (n p m o w : ℕ) → p ≤ m → n ≡ min (o + p) w → n ≤ o + m
    within n p m o w few h = omega arith

-- ---- a run

pub AreRunLooks-start : (strategy : Strategy) (settings : Settings) (given first : List WholeSegment) (grid : Option Layout) → first ≡ join given → IsGridFor strategy first grid → AreRunLooks strategy settings given grid 0 0
unfolding run_looks
AreRunLooks-start strategy settings given first grid e h = record { is_for = subst (λ (l : List WholeSegment). IsGridFor strategy l grid) e h; most = omega arith; exact = λ lists. omega arith }

-- of nothing
pub AreRunLooks-none : (strategy : Strategy) (settings : Settings) (given : List WholeSegment) → length given ≡ 0 → AreRunLooks strategy settings given None 0 0
unfolding join summed distinct_in_order stably_sorted run_looks
AreRunLooks-none strategy settings [] h = record { is_for = λ t. tt; most = omega arith; exact = λ lists. omega arith }
AreRunLooks-none strategy settings (s ∷ given) h = absurd (omega (arith, h))

pub AreRunLooks-more : (strategy own : Strategy) (settings : Settings) (given list : List WholeSegment) (grid later : Option Layout) (n k old new : ℕ) → AreRunLooks strategy settings given grid n old → own ≡ strategy → later ≡ grid → k ≡ n + 1 →
    list ≡ after_passes settings given n → ArePassLooks own grid (pairs list) old new → AreRunLooks strategy settings given later k new
unfolding run_looks
AreRunLooks-more strategy own settings given list grid later n k old new before mine same next is looks =
    rw same (subst (λ (i : ℕ). AreRunLooks strategy settings given grid i new) (suc_is n ∙ sym next) more)
  where
    suc_is : (n : ℕ) → suc n ≡ n + 1
    suc_is n = omega arith

    here : ArePassLooks strategy grid (pairs (after_passes settings given n)) old new
    here = subst (λ (l : List WholeSegment). ArePassLooks strategy grid (pairs l) old new) is (subst (λ (s : Strategy). ArePassLooks s grid (pairs list) old new) mine looks)

    both : (r p o m w : ℕ) → o ≡ min r w → m ≡ min (o + p) w → m ≡ min (r + p) w
    both r p o m w e h = omega arith

    more : AreRunLooks strategy settings given grid (suc n) new
    more = record {
      is_for = before.is_for;
      most = (let a = before.most in let b = here.most in omega (arith, a, b));
      exact = λ listed. both _ _ old new (2 ^ 128 - 1) (before.exact listed) (here.exact listed);
    }
