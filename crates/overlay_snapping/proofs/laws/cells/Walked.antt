-- A walk along a chain: what is past, and that at its end all points of the slot are.
use Rattle.std.proofs.Common.{◌≡◌, sym, subst, ◌∙◌, ◌⊎◌, inl, inr, ℕ, ◌+◌, ◌<◌, ◌≤◌, Some, List, arith}
use Rattle.std.specs.Prelude.{Contains, slice_index_or, slice_get}
use Rattle.std.proofs.lemmas.Bool.{cases_order}
use Rattle.overlay_geometry.specs.Points.{Point}
use Rattle.overlay_snapping.specs.steps.Cells.{AreChained, slot_at}
use Rattle.overlay_snapping.specs.declared.snap.cells.CellSize.{CellSize}
use Rattle.overlay_snapping.proofs.laws.closure.Elements.{found_at, one_element}

-- c is in the slot, and at a place from a number on, which is a place plus one
abbrev pub IsPast : ℕ → CellSize → List Point → ℕ → ℕ → Point → Type 0
IsPast mask size points slot at c = (i : ℕ) × (slice_get points i ≡ Some c) × (at ≤ i) × (slot_at mask size c ≡ slot)

module _ (mask : ℕ) (size : CellSize) (points : List Point) (heads nexts : List ℕ) (h : AreChained mask size points heads nexts) (slot : ℕ) where
  -- behind the head there is none
  pub none_past : (c : Point) → IsPast mask size points slot (slice_index_or heads slot 0) c → ⊥
  none_past c (i, at, le, own) = h.none_behind i c at (subst (λ (n : ℕ). slice_index_or heads n 0 ≤ i) (sym own) le)

  pub first_own : (i : ℕ) (c : Point) → slice_get points i ≡ Some c → slice_index_or heads slot 0 ≡ i + 1 → slot_at mask size c ≡ slot
  first_own i c at e = h.heads_own slot i c at e

  module _ (at j : ℕ) (d : Point) (there : slice_get points j ≡ Some d) (is : at ≡ j + 1) (own : slot_at mask size d ≡ slot) where
    -- of those past the place that follows, one is at this place, and the others are past it
    pub past_next : (c : Point) → IsPast mask size points slot (slice_index_or nexts j 0) c → IsPast mask size points slot at c ⊎ (d ≡ c)
    past_next c (i, here, le, mine) = by (cases_order i j)
      where
        by : (i ≡ j) ⊎ ((i < j) ⊎ (j < i)) → IsPast mask size points slot at c ⊎ (d ≡ c)
        by (inl e) = inr (one_element points j d c there (subst (λ (k : ℕ). slice_get points k ≡ Some c) e here))
        by (inr (inl l)) = absurd (h.none_between i j c d here there (mine ∙ sym own) le l)
        by (inr (inr l)) = inl (i, here, omega (arith, is, l), mine)

    pub next_own : (i : ℕ) (c : Point) → slice_get points i ≡ Some c → slice_index_or nexts j 0 ≡ i + 1 → slot_at mask size c ≡ slot
    next_own i c here e = h.nexts_own i j c d here there e ∙ own

    pub next_less : slice_index_or nexts j 0 < at
    next_less = let f = h.falling j in omega (arith, f, is)

-- at the end of a chain all of the slot is past
pub all_past : (mask : ℕ) (size : CellSize) (points : List Point) (slot at : ℕ) → at ≤ 0 → (c : Point) → Contains points c → slot_at mask size c ≡ slot → IsPast mask size points slot at c
all_past mask size points slot at e c i own = let k = found_at points c i in (k.0, k.1, omega (arith, e), own)
