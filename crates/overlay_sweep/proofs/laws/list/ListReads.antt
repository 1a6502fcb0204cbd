-- Indexes in a row, and what a list has at them.
use Rattle.std.proofs.Common.{◌≡◌, ap, ap₂, refl, sym, subst, ◌∙◌, arith, inl, inr, add-one}
use Rattle.std.specs.Prelude.{ℕ, zero, suc, ◌+◌, ◌-◌, ◌<◌, ◌≤◌, List, [], ◌∷◌, ◌++◌, map, take, drop, length}
use Rattle.std.specs.List.{range_with_len}
use Rattle.std.proofs.lemmas.Bool.{cases_lt}
use Rattle.std.proofs.lemmas.List.{append-nil}
use Rattle.std.proofs.lemmas.List.FromFn.{take-map-range_with_len}
use Rattle.overlay_base.specs.Segments.{WholeSegment}
use Rattle.overlay_sweep.specs.LiveRows.{Has, segment_at}

-- ---- indexes in a row

pub in_row : (a n i : ℕ) → Has (range_with_len a n) i → (a ≤ i) × (i < a + n)
in_row a zero i m = absurd m
in_row a (suc n) i (inl e) = (omega (arith, e), omega (arith, e))
in_row a (suc n) i (inr m) = let r = in_row (a + 1) n i m in (omega (arith, r.0), omega (arith, r.1))

pub row_has : (a n i : ℕ) → a ≤ i → i < a + n → Has (range_with_len a n) i
row_has a zero i h k = absurd (omega (arith, h, k))
row_has a (suc n) i h k = elim (cases_lt a i) [
  | inl later ↦ inr (row_has (a + 1) n i (omega (arith, later)) (omega (arith, k)))
  | inr here ↦ inl (omega (arith, h, here))
]

pub row_parts : (a m n : ℕ) → range_with_len a (m + n) ≡ range_with_len a m ++ range_with_len (a + m) n
row_parts a zero n =
    let e : 0 + n ≡ n = omega arith in
    let f : a + 0 ≡ a = omega arith in
    rw (e, f) refl
row_parts a (suc m) n =
    let e : suc m + n ≡ suc (m + n) = omega arith in
    let f : a + suc m ≡ (a + 1) + m = omega arith in
    rw (e, f) (ap (λ l. a ∷ l) (row_parts (a + 1) m n))

-- ---- what a list has at them

read_later : (s : WholeSegment) (ks : List WholeSegment) (a n : ℕ) → map (segment_at (s ∷ ks)) (range_with_len (a + 1) n) ≡ map (segment_at ks) (range_with_len a n)
read_later s ks a zero = refl
read_later s ks a (suc n) = ap₂ (λ t l. t ∷ l) (ap (segment_at (s ∷ ks)) (add-one a)) (read_later s ks (a + 1) n)

read_all : (ks zs : List WholeSegment) → map (segment_at (ks ++ zs)) (range_with_len 0 (length ks)) ≡ ks
read_all [] zs = refl
read_all (k ∷ ks) zs = ap (λ l. k ∷ l) (read_later k (ks ++ zs) 0 (length ks) ∙ read_all ks zs)

pub read_whole : (ks : List WholeSegment) → map (segment_at ks) (range_with_len 0 (length ks)) ≡ ks
read_whole ks = subst (λ l. map (segment_at l) (range_with_len 0 (length ks)) ≡ ks) (append-nil ks) (read_all ks [])

pub read_first : (ks zs : List WholeSegment) (n : ℕ) → n ≤ length ks → map (segment_at (ks ++ zs)) (range_with_len 0 n) ≡ take n ks
read_first ks zs n h = sym (take-map-range_with_len (segment_at (ks ++ zs)) 0 (length ks) n h) ∙ ap (take n) (read_all ks zs)

pub read_rest : (ks zs : List WholeSegment) (n : ℕ) → n ≤ length ks → map (segment_at (ks ++ zs)) (range_with_len n (length ks - n)) ≡ drop n ks
read_rest ks zs zero h = let e : length ks - 0 ≡ length ks = omega arith in rw e (read_all ks zs)
read_rest [] zs (suc n) h = absurd (omega (arith, h))
read_rest (k ∷ ks) zs (suc n) h =
    let e : suc (length ks) - suc n ≡ length ks - n = omega arith in
    rw (e, sym (add-one n)) (read_later k (ks ++ zs) n (length ks - n) ∙ read_rest ks zs n (omega (arith, h)))
