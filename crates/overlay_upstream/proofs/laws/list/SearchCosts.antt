-- A search of a list by halves pays for what it compares.
use Rattle.std.proofs.Common.{◌≡◌, ap, sym, ◌∙◌, arith}
use Rattle.std.specs.Prelude.{Bool, true, if◌then◌else◌, ◌++◌, ℕ, suc, ◌+◌, ◌-◌, ◌*◌, ◌^◌, ◌≤◌, List, ◌∷◌, length, filter, take, drop}
use Rattle.std.proofs.lemmas.List.{length-append, take-append-drop}
use Rattle.std.proofs.lemmas.List.Sums.{length-filter, count_by-le-length}
use Rattle.std.proofs.Math.Nat.{add-mul}
use Rattle.overlay_upstream.specs.SearchCosts.{IsSearchAmong}

-- ---- one call

-- what was dropped pays for looks
pub drops_pay : (asked was kept d : ℕ) → kept ≤ was → asked ≤ suc (was - kept) * d → asked + kept * d ≤ suc was * d
drops_pay asked was kept d k h =
    let parts = add-mul (suc (was - kept)) kept d in
    let e : suc (was - kept) + kept ≡ suc was = omega (arith, k) in
    omega (arith, h, parts, ap (λ n. n * d) e)

-- what lasts of a list
pub fewer_last : {E : Type 0} (lasts : E → Bool) (old new : List E) → new ≡ filter lasts old → length new ≤ length old
fewer_last lasts old new e = omega (arith, ap length e, length-filter lasts old, count_by-le-length lasts old)

-- a search among no more than n entries
pub search_asks : (asked held n d : ℕ) → IsSearchAmong held asked → held ≤ n → 2 * n ≤ 2 ^ d → asked ≤ d
search_asks asked held n d is within most = is.1 d (omega (arith, within, most))

-- an entry more
pub one_more : {X : Type 0} (entry : X) (at : ℕ) (xs ys : List X) (b : Bool) → b ≡ true → ys ≡ (if b then take at xs ++ entry ∷ drop at xs else xs) → length ys ≡ suc (length xs)
one_more entry at xs ys b t e =
    let parts : length xs ≡ length (take at xs) + length (drop at xs) = sym (ap (λ l. length l) (take-append-drop at xs)) ∙ length-append (take at xs) (drop at xs) in
    omega (arith, ap length (rw t at e), length-append (take at xs) (entry ∷ drop at xs), parts)
