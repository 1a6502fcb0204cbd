-- On exact input one pass is made.
use Rattle.std.proofs.Common.{◌≡◌, sym, ap, ◌∙◌, inl, inr, subst, arith, false, IsTrue, IsFalse, List, [], ◌∷◌, ℕ, zero, suc, ◌<◌, length, nat_le}
use Rattle.std.proofs.lemmas.Bool.{and_parts, both_ways, leb-false}
use Rattle.overlay_geometry.specs.Points.{Pair}
use Rattle.overlay_base.specs.Segments.{WholeSegment, are_ordered}
use Rattle.overlay_base.specs.Join.{join}
use Rattle.overlay_geometry.specs.Meeting.{are_apart}
use Rattle.overlay_base.specs.Planar.{is_planar}
use Rattle.overlay_base.proofs.laws.geometry.Apart.{are_apart-itself}
use Rattle.overlay_intersections.specs.Marks.{Placing, settling}
use Rattle.overlay_cuts.specs.Pass.{pass}
use Rattle.overlay_intersections.specs.PassMarks.{is_rounded}
use Rattle.overlay_cuts.specs.Run.{Settings, placing_of_pass, after_passes, goes_on, IsPassCount}
use Rattle.overlay_cuts.specs.ExactInput.{count_along, lies_on_input}
use Rattle.overlay_split.specs.Laws.{ExactInputKeepsCounts}
use Rattle.overlay_base.proofs.laws.joins.Maps.{is_map-join}
use Rattle.overlay_cuts.proofs.laws.planar.ExactMarks.{In}
use Rattle.overlay_cuts.proofs.laws.planar.PlanarPasses.{is_planar-from}
use Rattle.overlay_split.proofs.laws.planar.Arranged.{planar_pass}
use Rattle.overlay_cuts.proofs.laws.planar.ExactInputs.{count_along-pass, exact_means, join_not_rounded, pass_on_input}

-- ---- one pass

one_pair : (segments : List WholeSegment) → length segments < 2 → (s t : Pair) → In segments s → In segments t → s ≡ t
one_pair [] h s t i j = absurd i
one_pair (x ∷ []) h s t (inl e) (inl f) = sym e ∙ f
one_pair (x ∷ []) h s t (inr i) j = absurd i
one_pair (x ∷ []) h s t (inl e) (inr j) = absurd j
one_pair (x ∷ y ∷ xs) h s t i j = absurd (omega arith)

-- fewer than two segments are planar
pub few_are_planar : (segments : List WholeSegment) → nat_le 2 (length segments) ≡ false → IsTrue (is_planar segments)
few_are_planar segments h =
    let few : length segments < 2 = leb-false 2 (length segments) h in
    is_planar-from segments (λ s t i j. subst (λ (u : Pair). IsTrue (are_apart s u)) (one_pair segments few s t i j) (are_apart-itself s))

-- the result is that of one pass over the join
pub one_pass : (settings : Settings) (given result : List WholeSegment) (passes : ℕ) → IsTrue (are_ordered given) → IsFalse (is_rounded given) → IsPassCount settings given passes → result ≡ after_passes settings given passes → (placing : Placing) × (result ≡ pass placing (join given))
unfolding after_passes goes_on
one_pass settings given result zero o h count e = (settling, e ∙ sym (planar_pass settling (join given) (is_map-join given o) (few_are_planar (join given) count.no_more)))
one_pass settings given result (suc zero) o h count e = (placing_of_pass settings 1, e)
one_pass settings given result (suc (suc k)) o h count e =
    absurd (both_ways (is_rounded (join given)) (join_not_rounded given h) (and_parts (nat_le 2 (length (after_passes settings given 1))) (is_rounded (join given)) (count.made 1 (omega arith))).1)

-- ---- the pieces of a segment together count along e what the segment counts there

pub exact_input_keeps_counts : ExactInputKeepsCounts
exact_input_keeps_counts settings given result passes flag o x run =
    let h = exact_means given x in
    let made = one_pass settings given result passes o h run.count run.arrangement in (
      λ e k. ap (λ (l : List WholeSegment). count_along l e) made.1 ∙ count_along-pass made.0 given o h e k,
      subst (λ (l : List WholeSegment). IsTrue (lies_on_input given l)) (sym made.1) (pass_on_input made.0 given o h),
    )
