-- A point that code puts in front of a chain.
use Rattle.std.proofs.Common.{◌≡◌, refl, sym, ap, subst, ◌∙◌, ◌⊎◌, ⊎_elim, ◌↔◌, ℕ, ◌+◌, ◌<◌, Bool, true, List, [], ◌∷◌, ◌++◌, length, arith}
use Rattle.std.specs.Prelude.{pos, Contains, slice_set, slice_index_or}
use Rattle.std.specs.List.{list_all}
use Rattle.std.specs.Int.{w64, cast_unsigned, int_wrapping_add, int_wrapping_mul}
use Rattle.std.proofs.lemmas.List.Elements.{Contains-append_left, Contains-push, Contains-push_cases}
use Rattle.std.proofs.lemmas.Nat.{and_le_r}
use Rattle.overlay_geometry.specs.Points.{Point}
use Rattle.overlay_snapping.specs.steps.PointTrees.{column_of}
use Rattle.overlay_snapping.specs.steps.Cells.{slot_of, slot_at, AreChained}
use Rattle.overlay_snapping.specs.declared.snap.cells.CellSize.{CellSize}
use Rattle.overlay_snapping.proofs.laws.closure.Elements.{both_pass}
use Rattle.overlay_snapping.proofs.laws.cells.Chained.{chained_more}

pub pushed_in_range : (test : Point → Bool) (points : List Point) (p : Point) (more : List Point) → more ≡ points ++ p ∷ [] → list_all test points ≡ true → test p ≡ true → list_all test more ≡ true
pushed_in_range test points p more e all one = both_pass test points (p ∷ []) more e all (rw one refl)

pub slot_within : (mask : ℕ) (size : CellSize) (p : Point) (n : ℕ) → mask < n → slot_at mask size p < n
unfolding slot_of
slot_within mask size p n h =
    let le = and_le_r (cast_unsigned w64 (int_wrapping_add w64 (column_of size.width p.x) (int_wrapping_mul w64 (column_of size.height p.y) (pos 2654435761)))) mask in
    omega (arith, le, h)

pub pushed_same : (points more : List Point) (p : Point) → more ≡ points ++ p ∷ [] → (c : Point) → Contains more c ↔ (Contains points c ⊎ (p ≡ c))
pushed_same points more p e c = (
  λ i. Contains-push_cases points p c (subst (λ (l : List Point). Contains l c) e i),
  λ r. subst (λ (l : List Point). Contains l c) (sym e) (⊎_elim (λ i. Contains-append_left points (p ∷ []) c i) (λ same. subst (λ (q : Point). Contains (points ++ p ∷ []) q) same (Contains-push points p)) r),
)

-- the lists of code, by their equations
pub chained_as : (mask : ℕ) (size : CellSize) (points : List Point) (heads nexts : List ℕ) → AreChained mask size points heads nexts → (p : Point) (n : ℕ) → length points ≡ n → n < length nexts → (slot : ℕ) → slot ≡ slot_at mask size p →
    (more : List Point) → more ≡ points ++ p ∷ [] → (heads_now nexts_now : List ℕ) → heads_now ≡ slice_set heads slot (n + 1) → nexts_now ≡ slice_set nexts n (slice_index_or heads slot 0) → AreChained mask size more heads_now nexts_now
chained_as mask size points heads nexts old p n long room slot own more listed heads_now nexts_now h k =
    let now = chained_more mask size points heads nexts old p (subst (λ (m : ℕ). m < length nexts) (sym long) room) (slot_within mask size p (length heads) old.slots) in
    let same_heads : slice_set heads (slot_at mask size p) (length points + 1) ≡ heads_now = ap (λ (m : ℕ). slice_set heads (slot_at mask size p) (m + 1)) long ∙ ap (λ (m : ℕ). slice_set heads m (n + 1)) (sym own) ∙ sym h in
    let same_nexts : slice_set nexts (length points) (slice_index_or heads (slot_at mask size p) 0) ≡ nexts_now = ap (λ (m : ℕ). slice_set nexts m (slice_index_or heads (slot_at mask size p) 0)) long ∙ ap (λ (m : ℕ). slice_set nexts n (slice_index_or heads m 0)) (sym own) ∙ sym k in
    subst (λ (l : List Point). AreChained mask size l heads_now nexts_now) (sym listed)
    (subst (λ (l : List ℕ). AreChained mask size (points ++ p ∷ []) l nexts_now) same_heads (subst (λ (l : List ℕ). AreChained mask size (points ++ p ∷ []) (slice_set heads (slot_at mask size p) (length points + 1)) l) same_nexts now))
