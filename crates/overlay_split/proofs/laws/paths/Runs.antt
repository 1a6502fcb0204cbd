-- Passes keep arrangements, and a run ends.
use Rattle.std.proofs.Common.{◌≡◌, ◌⊎◌, inl, inr, ⊎_elim, ap, subst, arith, ℕ, zero, suc, ◌+◌, ◌<◌, ◌≤◌, List, Bool, true, false}
use Rattle.std.specs.Prelude.{IsTrue, nat_le, length}
use Rattle.std.proofs.lemmas.Bool.{and_parts, cond-false, lt-leb, cases_Bool, cases_lt}
use Rattle.overlay_base.specs.Segments.{WholeSegment, are_ordered}
use Rattle.overlay_intersections.specs.Marks.{Placing, snapping, settling}
use Rattle.overlay_cuts.specs.Pass.{pass}
use Rattle.overlay_intersections.specs.PassMarks.{is_rounded}
use Rattle.overlay_cuts.specs.Potential.{potential}
use Rattle.overlay_cuts.specs.Run.{Settings, placing_of_pass, radius_of_pass, after_passes, goes_on}
use Rattle.overlay_split.specs.Laws.{RunEnds}
use Rattle.overlay_split.proofs.laws.paths.Potentials.{settling_lowers}
use Rattle.overlay_cuts.proofs.laws.paths.Maps.{is_map-after_passes}

-- ---- a run ends

one_more : (f : ℕ → Bool) (n j : ℕ) → j < suc n → ((j : ℕ) → j < n → f j ≡ true) → f n ≡ true → f j ≡ true
one_more f n j h below here = ⊎_elim (λ (l : j < n). below j l) (λ (l : n ≤ j). let e : n ≡ j = omega arith in subst (λ (k : ℕ). f k ≡ true) e here) (cases_lt j n)

-- up to n, the first number at which a test fails, if it fails
first_or_none : (f : ℕ → Bool) (n : ℕ) → ((k : ℕ) × (k < n) × ((j : ℕ) → j < k → f j ≡ true) × (f k ≡ false)) ⊎ ((j : ℕ) → j < n → f j ≡ true)
first_or_none f zero = inr (λ j h. absurd (omega arith))
first_or_none f (suc n) =
    ⊎_elim (λ found. inl (found.0, let l = found.1 in omega (arith, l), found.2, found.3))
    (λ below. ⊎_elim (λ passes. inr (λ j h. one_more f n j h below passes)) (λ fails. inl (n, omega arith, below, fails)) (cases_Bool (f n)))
    (first_or_none f n)

settles_later : (settings : Settings) (k : ℕ) → settings.limit ≤ k → placing_of_pass settings (suc k) ≡ settling
unfolding placing_of_pass
settles_later settings k h = cond-false (nat_le (suc k) settings.limit) (snapping (radius_of_pass settings (suc k))) settling (lt-leb (suc k) settings.limit (omega arith))

rounded_before : (settings : Settings) (given : List WholeSegment) (k : ℕ) → IsTrue (goes_on settings given (suc k)) → IsTrue (is_rounded (after_passes settings given k))
unfolding goes_on
rounded_before settings given k h = (and_parts (nat_le 2 (length (after_passes settings given (suc k)))) (is_rounded (after_passes settings given k)) h).1

-- a rounded pass after the limit lowers the potential
lowered : (settings : Settings) (given : List WholeSegment) (k : ℕ) → IsTrue (are_ordered given) → settings.limit ≤ k → IsTrue (is_rounded (after_passes settings given k)) → potential (after_passes settings given (suc k)) + 1 ≤ potential (after_passes settings given k)
unfolding after_passes
lowered settings given k ordered past rounded =
    let a = after_passes settings given k in
    let l = settling_lowers a (is_map-after_passes settings given k ordered) rounded in
    let e : potential (pass (placing_of_pass settings (suc k)) a) ≡ potential (pass settling a) = ap (λ (p : Placing). potential (pass p a)) (settles_later settings k past) in
    omega (arith, l.0, l.1, e)

lowered_by : (settings : Settings) (given : List WholeSegment) (n : ℕ) → IsTrue (are_ordered given) → ((j : ℕ) → j < settings.limit + n + 1 → IsTrue (goes_on settings given j)) → potential (after_passes settings given (settings.limit + n)) + n ≤ potential (after_passes settings given settings.limit)
lowered_by settings given zero ordered goes =
    let e : settings.limit + 0 ≡ settings.limit = omega arith in rw e (omega arith)
lowered_by settings given (suc n) ordered goes =
    let here = settings.limit + n in
    let e : settings.limit + suc n ≡ suc here = omega arith in
    let ih = lowered_by settings given n ordered (λ j h. goes j (omega (arith, h))) in
    let l = lowered settings given here ordered (omega arith) (rounded_before settings given here (goes (suc here) (omega arith))) in
    rw e (omega (arith, ih, l))

pub run_ends : RunEnds
run_ends settings given ordered =
    let most = potential (after_passes settings given settings.limit) in
    ⊎_elim (λ found. (found.0, record { made = found.2; no_more = found.3 }, let l = found.1 in omega (arith, l)))
    (λ none. absurd (let l = lowered_by settings given (most + 1) ordered (λ j h. none j (omega (arith, h))) in omega (arith, l)))
    (first_or_none (λ j. goes_on settings given j) (settings.limit + most + 2))
