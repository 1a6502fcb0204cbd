-- The cuts of a segment are its marks that lie on it and the hot points that it meets.
use Rattle.std.proofs.Common.{◌≡◌, ◌⊎◌, inl, inr, ⊎_elim, true, false, not, List, refl}
use Rattle.std.specs.Prelude.{Contains, IsTrue, IsFalse}
use Rattle.std.proofs.lemmas.Bool.{and_from, cases_Bool}
use Rattle.overlay_geometry.specs.Points.{Point, Pair, is_end, lies_on}
use Rattle.overlay_geometry.proofs.laws.geometry.Points.{inside_from_parts}
use Rattle.overlay_geometry.proofs.laws.lists.Elements.{Contains-from_Has, Has-from_Contains}
use Rattle.overlay_base.specs.Segments.{WholeSegment, pairs, are_ordered}
use Rattle.overlay_intersections.specs.Marks.{settling}
use Rattle.overlay_intersections.specs.PassMarks.{marks_on}
use Rattle.overlay_snapping.specs.Pixels.{meets_pixel}
use Rattle.overlay_snapping.specs.Chains.{given_points, IsHot, passed, Moves, passes, IsCutAt, moving, staying}
use Rattle.overlay_snapping.proofs.laws.chains.MarkPoints.{chain_points_are_ends_and_marks}
use Rattle.overlay_snapping.proofs.laws.chains.MarkPixels.{ordered as each_ordered}
use Rattle.overlay_snapping.proofs.laws.chains.Paths.{on_meets}
use Rattle.overlay_snapping.proofs.laws.chains.GivenMarks.{mark_is_no_end, given_inside_marks}

-- a mark that lies on s, or a hot point that s meets
pub data IsFoundCut (segments : List WholeSegment) (s : Pair) (c : Point) : Type 0 where
  marked : Contains (marks_on settling segments s) c → IsTrue (lies_on s c) → IsFoundCut segments s c
  met : IsHot (pairs segments) c → IsTrue (meets_pixel s c) → IsFalse (is_end s c) → IsFoundCut segments s c

module _ (segments : List WholeSegment) (o : IsTrue (are_ordered segments)) (s : Pair) (i : Contains (pairs segments) s) where
  abbrev ps : List Pair
  ps = pairs segments

  on_is_met : (c : Point) → IsTrue (lies_on s c) → IsTrue (meets_pixel s c)
  on_is_met c on = on_meets s c (each_ordered segments o s (Has-from_Contains ps s i)) on

  -- s passes by a hot point that it meets and that lies off it
  moves_past : (c : Point) → IsHot ps c → IsTrue (meets_pixel s c) → lies_on s c ≡ false → Moves ps s
  moves_past c t k off = passes i t (and_from (meets_pixel s c) (not (lies_on s c)) k (rw off refl))

  pub found_is_cut : Moves ps s ⊎ (Moves ps s → ⊥) → (c : Point) → IsFoundCut segments s c → IsCutAt ps s c × IsFalse (is_end s c)
  found_is_cut decided c (marked m on) =
      let point = (chain_points_are_ends_and_marks segments o c).1 (inr (s, i, m)) in
      (⊎_elim (λ k. moving k point (on_is_met c on)) (λ n. staying n point on) decided, mark_is_no_end segments s c (Has-from_Contains (marks_on settling segments s) c m))
  found_is_cut decided c (met t k n) = (⊎_elim (λ m. moving m (inl t) k) (λ none. staying none (inl t) (lies none (cases_Bool (lies_on s c)))) decided, n)
    where
      lies : (Moves ps s → ⊥) → (lies_on s c ≡ true) ⊎ (lies_on s c ≡ false) → IsTrue (lies_on s c)
      lies none (inl on) = on
      lies none (inr off) = absurd (none (moves_past c t k off))

  pub cut_is_found : (c : Point) → IsCutAt ps s c → IsFalse (is_end s c) → IsFoundCut segments s c
  cut_is_found c cut n = by cut
    where
      -- a given point that lies on s marks it
      on_given : Contains (given_points ps) c → IsTrue (lies_on s c) → IsFoundCut segments s c
      on_given g on = marked (Contains-from_Has (marks_on settling segments s) c (given_inside_marks segments o s c (Has-from_Contains ps s i) (inside_from_parts s c on n) g)) on

      given : Moves ps s → Contains (given_points ps) c → IsTrue (meets_pixel s c) → (lies_on s c ≡ true) ⊎ (lies_on s c ≡ false) → IsFoundCut segments s c
      given m g k (inl on) = on_given g on
      given m g k (inr off) = met (passed g m (and_from (meets_pixel s c) (not (lies_on s c)) k (rw off refl))) k n

      by : IsCutAt ps s c → IsFoundCut segments s c
      by (moving m (inl t) k) = met t k n
      by (moving m (inr g) k) = given m g k (cases_Bool (lies_on s c))
      by (staying none (inl t) on) = met t (on_is_met c on) n
      by (staying none (inr g) on) = on_given g on
