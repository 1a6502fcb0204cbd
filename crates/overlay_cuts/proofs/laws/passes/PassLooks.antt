-- What a pass compares, by a list and otherwise.
use Rattle.std.proofs.Common.{◌≡◌, sym, ap, subst, ◌∙◌, ℕ, suc, ◌+◌, ◌-◌, ◌≤◌, arith, List, length, Bool, true, false, cond}
use Rattle.std.specs.Prelude.{Option, min, ◌^◌}
use Rattle.std.proofs.lemmas.Bool.{both_ways}
use Rattle.overlay_geometry.specs.Points.{Pair}
use Rattle.overlay_base.specs.Choices.{list_splits}
use Rattle.overlay_base.specs.declared.overlay_core.solver.Strategy.{Strategy}
use Rattle.overlay_grid.specs.Grid.{Layout}
use Rattle.overlay_intersections.specs.Looked.{count_twos, x_ranges_meet, list_looks}
use Rattle.overlay_cuts.specs.PassLooks.{wide_looks, pass_looks, ArePassLooks}

-- ---- a pass

pub ArePassLooks-listed : (strategy : Strategy) (grid : Option Layout) (ps : List Pair) (old new : ℕ) → list_splits strategy (length ps) ≡ true → new ≡ min (old + count_twos x_ranges_meet ps) (2 ^ 128 - 1) → ArePassLooks strategy grid ps old new
unfolding pass_looks list_looks
ArePassLooks-listed strategy grid ps old new e h =
    let looks : pass_looks strategy grid ps ≡ count_twos x_ranges_meet ps = ap (λ (b : Bool). cond b (list_looks ps) (wide_looks grid ps)) e in
    let is : new ≡ min (old + pass_looks strategy grid ps) (2 ^ 128 - 1) = h ∙ ap (λ (n : ℕ). min (old + n) (2 ^ 128 - 1)) (sym looks) in
    record { most = no_more new _ (2 ^ 128 - 1) is; exact = λ t. is }
  where
    no_more : (n m w : ℕ) → n ≡ min m w → n ≤ m
    no_more n m w e = omega arith

pub ArePassLooks-wide : (strategy : Strategy) (grid : Option Layout) (ps : List Pair) (old new : ℕ) → list_splits strategy (length ps) ≡ false → new ≤ old + wide_looks grid ps → ArePassLooks strategy grid ps old new
unfolding pass_looks
ArePassLooks-wide strategy grid ps old new e h =
    let looks : pass_looks strategy grid ps ≡ wide_looks grid ps = ap (λ (b : Bool). cond b (list_looks ps) (wide_looks grid ps)) e in
    record { most = subst (λ (n : ℕ). new ≤ old + n) (sym looks) h; exact = λ t. absurd (both_ways _ e (ap (λ (s : Strategy). list_splits s (length ps)) t)) }
