-- Chains of points, when another point is put in front of one.
use Rattle.std.proofs.Common.{◌≡◌, refl, sym, ap, subst, ◌∙◌, ◌⊎◌, inl, inr, ⊎_elim, ℕ, zero, suc, ◌+◌, ◌<◌, ◌≤◌, List, [], ◌∷◌, ◌++◌, Some, length, arith}
use Rattle.std.specs.Prelude.{slice_index_or, slice_get, slice_set}
use Rattle.std.proofs.lemmas.Bool.{cases_order}
use Rattle.std.proofs.lemmas.Option.{slice_get_within}
use Rattle.overlay_geometry.specs.Points.{Point}
use Rattle.overlay_snapping.specs.steps.Cells.{AreChained, slot_at}
use Rattle.overlay_snapping.specs.declared.snap.cells.CellSize.{CellSize}

-- ---- a number of a list is set

pub set_there : (xs : List ℕ) (i n : ℕ) → i < length xs → slice_index_or (slice_set xs i n) i 0 ≡ n
set_there [] i n h = absurd (omega (arith, h))
set_there (x ∷ xs) zero n h = refl
set_there (x ∷ xs) (suc i) n h = set_there xs i n (omega (arith, h))

pub set_elsewhere : (xs : List ℕ) (i j n : ℕ) → (i ≡ j → ⊥) → slice_index_or (slice_set xs i n) j 0 ≡ slice_index_or xs j 0
set_elsewhere [] i j n h = refl
set_elsewhere (x ∷ xs) zero zero n h = absurd (h refl)
set_elsewhere (x ∷ xs) zero (suc j) n h = refl
set_elsewhere (x ∷ xs) (suc i) zero n h = refl
set_elsewhere (x ∷ xs) (suc i) (suc j) n h = set_elsewhere xs i j n (λ e. h (ap suc e))

pub set_long : (xs : List ℕ) (i n : ℕ) → length (slice_set xs i n) ≡ length xs
set_long [] i n = refl
set_long (x ∷ xs) zero n = refl
set_long (x ∷ xs) (suc i) n = ap suc (set_long xs i n)

-- ---- one point more

pub element_or_last : (points : List Point) (p c : Point) (k : ℕ) → slice_get (points ++ p ∷ []) k ≡ Some c → ((k ≡ length points) × (p ≡ c)) ⊎ (slice_get points k ≡ Some c)
element_or_last [] p c zero e = inl (refl, cc e)
element_or_last [] p c (suc k) e = absurd (cc e)
element_or_last (x ∷ xs) p c zero e = inr e
element_or_last (x ∷ xs) p c (suc k) e = ⊎_elim (λ h. inl (ap suc h.0, h.1)) (λ h. inr h) (element_or_last xs p c k e)

long_after : (points : List Point) (p : Point) → length (points ++ p ∷ []) ≡ length points + 1
long_after [] p = refl
long_after (x ∷ xs) p = ap suc (long_after xs p) ∙ omega arith

module _ (mask : ℕ) (size : CellSize) (points : List Point) (heads nexts : List ℕ) (old : AreChained mask size points heads nexts) (p : Point) (room : length points < length nexts) (within : slot_at mask size p < length heads) where
  abbrev own : ℕ
  own = slot_at mask size p

  abbrev n : ℕ
  n = length points

  abbrev first : ℕ
  first = slice_index_or heads own 0

  abbrev heads_now : List ℕ
  heads_now = slice_set heads own (n + 1)

  abbrev nexts_now : List ℕ
  nexts_now = slice_set nexts n first

  head_here : slice_index_or heads_now own 0 ≡ n + 1
  head_here = set_there heads own (n + 1) within

  next_here : slice_index_or nexts_now n 0 ≡ first
  next_here = set_there nexts n first room

  head_of : (slot : ℕ) → ((slot ≡ own) × (slice_index_or heads_now slot 0 ≡ n + 1)) ⊎ (slice_index_or heads_now slot 0 ≡ slice_index_or heads slot 0)
  head_of slot = by (cases_order slot own)
    where
      by : (slot ≡ own) ⊎ ((slot < own) ⊎ (own < slot)) → ((slot ≡ own) × (slice_index_or heads_now slot 0 ≡ n + 1)) ⊎ (slice_index_or heads_now slot 0 ≡ slice_index_or heads slot 0)
      by (inl e) = inl (e, ap (λ (j : ℕ). slice_index_or heads_now j 0) e ∙ head_here)
      by (inr (inl l)) = inr (set_elsewhere heads own slot (n + 1) (λ e. omega (arith, e, l)))
      by (inr (inr l)) = inr (set_elsewhere heads own slot (n + 1) (λ e. omega (arith, e, l)))

  next_of : (j : ℕ) → ((j ≡ n) × (slice_index_or nexts_now j 0 ≡ first)) ⊎ (slice_index_or nexts_now j 0 ≡ slice_index_or nexts j 0)
  next_of j = by (cases_order j n)
    where
      by : (j ≡ n) ⊎ ((j < n) ⊎ (n < j)) → ((j ≡ n) × (slice_index_or nexts_now j 0 ≡ first)) ⊎ (slice_index_or nexts_now j 0 ≡ slice_index_or nexts j 0)
      by (inl e) = inl (e, ap (λ (i : ℕ). slice_index_or nexts_now i 0) e ∙ next_here)
      by (inr (inl l)) = inr (set_elsewhere nexts n j first (λ e. omega (arith, e, l)))
      by (inr (inr l)) = inr (set_elsewhere nexts n j first (λ e. omega (arith, e, l)))

  abbrev at : Point → ℕ
  at c = slot_at mask size c

  behind : (i : ℕ) (c : Point) → slice_get (points ++ p ∷ []) i ≡ Some c → slice_index_or heads_now (at c) 0 ≤ i → ⊥
  behind i c here le = ⊎_elim (λ k. last k.0 k.1) (λ k. before k) (element_or_last points p c i here)
    where
      last : i ≡ n → p ≡ c → ⊥
      last e same = let head = ap (λ (q : Point). slice_index_or heads_now (at q) 0) (sym same) ∙ head_here in omega (arith, e, head, le)

      before : slice_get points i ≡ Some c → ⊥
      before k = ⊎_elim (λ h. let l = slice_get_within points i c k in let e = h.1 in omega (arith, l, e, le)) (λ e. old.none_behind i c k (omega (arith, e, le))) (head_of (at c))

  between : (i j : ℕ) (c d : Point) → slice_get (points ++ p ∷ []) i ≡ Some c → slice_get (points ++ p ∷ []) j ≡ Some d → at c ≡ at d → slice_index_or nexts_now j 0 ≤ i → i < j → ⊥
  between i j c d here there same le less = ⊎_elim (λ k. last k.0 k.1) (λ k. before k) (element_or_last points p d j there)
    where
      earlier : j ≤ n → slice_get points i ≡ Some c
      earlier l = ⊎_elim (λ k. let e = k.0 in absurd (omega (arith, e, l, less))) (λ k. k) (element_or_last points p c i here)

      last : j ≡ n → p ≡ d → ⊥
      last e q =
          let to_own : at c ≡ own = same ∙ ap at (sym q) in
          let next : slice_index_or nexts_now j 0 ≡ first = ap (λ (m : ℕ). slice_index_or nexts_now m 0) e ∙ next_here in
          let head : slice_index_or heads (at c) 0 ≡ first = ap (λ (m : ℕ). slice_index_or heads m 0) to_own in
          old.none_behind i c (earlier (omega (arith, e))) (omega (arith, next, head, le))

      before : slice_get points j ≡ Some d → ⊥
      before k =
          let l = slice_get_within points j d k in
          ⊎_elim (λ h. let e = h.0 in omega (arith, e, l)) (λ e. old.none_between i j c d (earlier (omega (arith, l))) k same (omega (arith, e, le)) less) (next_of j)

  heads_stay : (slot i : ℕ) (c : Point) → slice_get (points ++ p ∷ []) i ≡ Some c → slice_index_or heads_now slot 0 ≡ i + 1 → at c ≡ slot
  heads_stay slot i c here is = ⊎_elim (λ k. last k.0 k.1) (λ k. before k) (element_or_last points p c i here)
    where
      last : i ≡ n → p ≡ c → at c ≡ slot
      last e same = ⊎_elim (λ h. ap at (sym same) ∙ sym h.0) (λ h. let w = old.heads_within slot in absurd (omega (arith, e, is, h, w))) (head_of slot)

      before : slice_get points i ≡ Some c → at c ≡ slot
      before k = let l = slice_get_within points i c k in ⊎_elim (λ h. let e = h.1 in absurd (omega (arith, e, is, l))) (λ h. old.heads_own slot i c k (omega (arith, h, is))) (head_of slot)

  nexts_stay : (i j : ℕ) (c d : Point) → slice_get (points ++ p ∷ []) i ≡ Some c → slice_get (points ++ p ∷ []) j ≡ Some d → slice_index_or nexts_now j 0 ≡ i + 1 → at c ≡ at d
  nexts_stay i j c d here there is = ⊎_elim (λ k. last k.0 k.1) (λ k. before k) (element_or_last points p d j there)
    where
      early : i < n → slice_get points i ≡ Some c
      early l = ⊎_elim (λ k. let e = k.0 in absurd (omega (arith, e, l))) (λ k. k) (element_or_last points p c i here)

      last : j ≡ n → p ≡ d → at c ≡ at d
      last e q =
          let next : slice_index_or nexts_now j 0 ≡ first = ap (λ (m : ℕ). slice_index_or nexts_now m 0) e ∙ next_here in
          let w = old.heads_within own in
          old.heads_own own i c (early (omega (arith, next, is, w))) (sym next ∙ is) ∙ ap at q

      before : slice_get points j ≡ Some d → at c ≡ at d
      before k =
          let l = slice_get_within points j d k in
          ⊎_elim (λ h. let e = h.0 in absurd (omega (arith, e, l)))
          (λ h. let f = old.falling j in old.nexts_own i j c d (early (omega (arith, f, h, is, l))) k (sym h ∙ is)) (next_of j)

  pub chained_more : AreChained mask size (points ++ p ∷ []) heads_now nexts_now
  chained_more = record {
    slots = subst (λ (m : ℕ). mask < m) (sym (set_long heads own (n + 1))) old.slots;
    heads_within = λ slot. let long = long_after points p in ⊎_elim (λ h. let e = h.1 in omega (arith, e, long)) (λ e. let w = old.heads_within slot in omega (arith, e, w, long)) (head_of slot);
    falling = λ j. ⊎_elim (λ h. let e = h.0 in let f = h.1 in let w = old.heads_within own in omega (arith, e, f, w)) (λ e. let f = old.falling j in omega (arith, e, f)) (next_of j);
    none_behind = behind;
    none_between = between;
    heads_own = heads_stay;
    nexts_own = nexts_stay;
  }
