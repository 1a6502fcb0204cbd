-- How far a run reaches, pass by pass, and the root that a program finds.
use Rattle.std.proofs.Common.{◌≡◌, refl, sym, ap, ap₂, ◌∙◌, arith, Bool, if◌then◌else◌, ℕ, suc, ◌+◌, ◌*◌, ◌<◌, ◌≤◌, List}
use Rattle.overlay_base.specs.Segments.{WholeSegment}
use Rattle.overlay_intersections.specs.Marks.{Placing}
use Rattle.overlay_intersections.specs.PassMarks.{is_rounded}
use Rattle.overlay_cuts.specs.Run.{Settings, placing_of_pass, after_passes}
use Rattle.overlay_cuts.specs.Nearness.{root, reach, reach_of_pass, reach_of_run, reach_of_passes}
use Rattle.overlay_split.proofs.laws.nearness.Nearness.{reach_is_bounded}
use Rattle.overlay_cuts.proofs.laws.nearness.NearMarks.{root-bounds, root-below}

-- no pass, no way
pub run-reach-none : (settings : Settings) (given : List WholeSegment) → 0 ≡ reach_of_run settings given 0
unfolding reach_of_run
run-reach-none settings given = refl

-- a pass in which nothing is rounded reaches nowhere
pub reach_of_pass-found : (placing : Placing) (segments : List WholeSegment) (rounds : Bool) (moved : ℕ) → moved ≡ (if rounds then reach placing else 0) → rounds ≡ is_rounded segments → moved ≡ reach_of_pass placing segments
unfolding reach_of_pass
reach_of_pass-found placing segments rounds moved e r = e ∙ ap (λ (b : Bool). if b then reach placing else 0) r

-- one more pass reaches as much farther as it moves things
pub reach_further : (settings : Settings) (given now : List WholeSegment) (k n before after : ℕ) (placing : Placing) → before ≡ reach_of_run settings given k → n ≡ k + 1 → placing ≡ placing_of_pass settings (suc k) → now ≡ after_passes settings given k →
    after ≡ before + reach_of_pass placing now → after ≡ reach_of_run settings given n
unfolding reach_of_run
reach_further settings given now k n before after placing b m p a e =
    let next : n ≡ suc k = omega (arith, m) in
    e ∙ ap₂ (λ (r s : ℕ). r + s) b (ap₂ (λ (q : Placing) (l : List WholeSegment). reach_of_pass q l) p a) ∙ sym (ap (λ (i : ℕ). reach_of_run settings given i) next)

-- a distance that a run reaches is one that as many passes may
pub reports_reach : (settings : Settings) (given : List WholeSegment) (k n : ℕ) → n ≡ reach_of_run settings given k → (n ≡ reach_of_run settings given k) × (n ≤ reach_of_passes settings k)
reports_reach settings given k n e = let most = reach_is_bounded settings given k in (e, omega (arith, e, most))

-- the number whose square is at most n, and whose next square is more, is the root
pub root_found : (r n : ℕ) → r * r ≤ n → n < (r + 1) * (r + 1) → r ≡ root n
root_found r n h k = let low = root-bounds r n h in let high = root-below r n k in omega (arith, low, high)
