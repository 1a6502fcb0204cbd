-- What calls on live segments compare, summed over a sweep: each entry that is held can pay for one look more.
use Rattle.std.proofs.Common.{◌≡◌, ap, refl, sym, ◌∙◌, arith, inl, inr, Ordering}
use Rattle.std.specs.Prelude.{ℕ, suc, ◌+◌, ◌-◌, ◌*◌, ◌<◌, ◌≤◌, List, [], ◌∷◌, length, map, drop}
use Rattle.std.specs.List.{enumerate_from}
use Rattle.std.specs.Ordering.{is_lt}
use Rattle.std.proofs.lemmas.Bool.{cases_Bool}
use Rattle.std.proofs.lemmas.List.{length-map, length-take}
use Rattle.std.proofs.Math.Nat.{add-mul, suc-mul, mul-le-mul_right}
use Rattle.overlay_geometry.specs.Sorting.{insert_before_ties, stably_sorted}
use Rattle.overlay_base.specs.Segments.{WholeSegment}
use Rattle.overlay_sweep.specs.Costs.{IsHighest}
use Rattle.overlay_sweep.specs.steps.WayOf.{WholeWay, ways_between, by_angle}

-- ---- how many ways a start point has

module _ {K : Type 0} (cmp : K → K → Ordering) where
  length-insert_before_ties : (x : K) (ks : List K) → length (insert_before_ties cmp x ks) ≡ suc (length ks)
  unfolding insert_before_ties
  length-insert_before_ties x [] = refl
  length-insert_before_ties x (y ∷ ys) = elim (cases_Bool (is_lt (cmp y x))) [ inl e ↦ rw e (ap suc (length-insert_before_ties x ys)) | inr e ↦ rw e refl ]

  length-stably_sorted : (ks : List K) → length (stably_sorted cmp ks) ≡ length ks
  unfolding stably_sorted
  length-stably_sorted [] = refl
  length-stably_sorted (x ∷ ks) = length-insert_before_ties x (stably_sorted cmp ks) ∙ ap suc (length-stably_sorted ks)

pub ways_within : {X : Type 0} (f : X → WholeWay) (items : List X) (segments : List WholeSegment) (i next : ℕ) → map f items ≡ by_angle (ways_between segments i next) → length items ≤ next - i
ways_within f items segments i next e =
    let all : List WholeWay = drop i (map (λ e. record { index = e.0; pair = e.1.pair }) (enumerate_from 0 segments)) in
    let same : length items ≡ length (ways_between segments i next) = sym (length-map items f) ∙ ap length e ∙ length-stably_sorted _ (ways_between segments i next) in
    omega (arith, same, length-take (next - i) all)

-- ---- one call

-- what is high enough for more entries
pub highest_of_fewer : (was n d : ℕ) → was ≤ n → IsHighest n d → IsHighest was d
highest_of_fewer was n d within high = λ h fits. high h (omega (arith, within, fits))

-- a search pays for itself
pub search_pays : (asked now was d : ℕ) → asked ≤ d → now ≤ was → asked + now * d ≤ suc was * d
search_pays asked now was d few fewer = omega (arith, few, mul-le-mul_right d fewer, suc-mul was d)

-- and for an entry more
pub pays_for_one : (asked kept now was d : ℕ) → now ≤ suc kept → asked + kept * d ≤ suc was * d → asked + now * d ≤ suc (suc was) * d
pays_for_one asked kept now was d more h = omega (arith, h, mul-le-mul_right d more, suc-mul kept d, suc-mul (suc was) d)

-- no call
pub uncalled_pays : (asked held d : ℕ) → asked + held * d ≤ asked + suc (suc held) * d
uncalled_pays asked held d = omega (arith, suc-mul (suc held) d, suc-mul held d)

-- the orders of a call on top of those before
pub adds_paid : (before after asked now old d : ℕ) → after ≤ before + asked → asked + now * d ≤ old * d → after + now * d ≤ before + old * d
adds_paid before after asked now old d adds pays = omega (arith, adds, pays)

-- ---- a sweep

pub none_paid : (held d : ℕ) → held ≡ 0 → 0 + held * d ≤ 3 * 0 * d
none_paid held d none = rw none (omega arith)

-- the look at a start point
pub look_paid : (before after asked was now i d : ℕ) → before + was * d ≤ 3 * i * d → after ≤ before + asked → asked + now * d ≤ suc was * d → after + now * d ≤ (3 * i + 1 + 2 * 0) * d
look_paid before after asked was now i d paid adds pays =
    let e : 3 * i + 1 + 2 * 0 ≡ 3 * i + 1 = omega arith in
    rw e (omega (arith, paid, adds, pays, suc-mul was d, add-mul (3 * i) 1 d))

-- one segment more at it
pub visit_paid : (before after was now i k d : ℕ) → before + was * d ≤ (3 * i + 1 + 2 * k) * d → after + now * d ≤ before + suc (suc was) * d → after + now * d ≤ (3 * i + 1 + 2 * (k + 1)) * d
visit_paid before after was now i k d paid pays =
    let e : 3 * i + 1 + 2 * (k + 1) ≡ (3 * i + 1 + 2 * k) + 2 = omega arith in
    rw e (omega (arith, paid, pays, suc-mul (suc was) d, suc-mul was d, add-mul (3 * i + 1 + 2 * k) 2 d))

-- all of it
pub point_paid : (paid i next k d : ℕ) → i < next → k ≤ next - i → paid ≤ (3 * i + 1 + 2 * k) * d → paid ≤ 3 * next * d
point_paid paid i next k d order within h =
    let fewer : 3 * i + 1 + 2 * k ≤ 3 * next = omega (arith, order, within) in
    omega (arith, h, mul-le-mul_right d fewer)

-- and of the sweep, wherever it ends
pub sweep_paid : (asked rest part n d : ℕ) → part ≤ 3 * n → asked + rest ≤ part * d → asked ≤ 3 * n * d
sweep_paid asked rest part n d within h = omega (arith, h, mul-le-mul_right d within)
