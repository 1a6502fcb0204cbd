use Rattle.std.proofs.Common.{◌≡◌, refl, sym, ◌∙◌, Bool, true, false, ◌&&◌}
use Rattle.std.proofs.lemmas.Bool.{both_ways}
use Rattle.overlay_base.specs.SegmentOf.{segments_of}
use Rattle.overlay_base.proofs.laws.geometry.Apart.{are_ordered, is_arranged-is}
use Rattle.overlay_base.proofs.segm.arranged.is_arranged.Goals as goal
use Rattle.overlay_base.proofs.segm.arranged.is_arranged.Goals.{then-is_splittable, else-is_splittable}

both : (a b c : Bool) → a ≡ true → b ≡ true → c ≡ ((a && b) && c)
both a b c h k = rw (h, k) refl

no_second : (a b c : Bool) → a ≡ true → b ≡ false → false ≡ ((a && b) && c)
no_second a b c h k = rw (h, k) refl

no_first : (a b c : Bool) → a ≡ false → false ≡ ((a && b) && c)
no_first a b c h = rw h refl

pub returns-then-is_strictly_sorted : goal.returns-then-is_strictly_sorted
returns-then-is_strictly_sorted g c =
    let is = is_arranged-is _ _ (segments_of c.args.segments.now) (are_ordered c.args.segments.now) in
    elim c.if-is_splittable.branch [
      | then-is_splittable w ↦ c.is_planar.ensures ∙ both _ _ _ (sym c.is_splittable.ensures ∙ w.if-is_splittable.true) (sym w.is_strictly_sorted.ensures ∙ sym w.value-is ∙ c.if-is_strictly_sorted.true) ∙ sym is
      | else-is_splittable w ↦ absurd (both_ways _ (w.value-is ∙ w.if-is_splittable.false) c.if-is_strictly_sorted.true)
    ]

pub returns-else-is_strictly_sorted : goal.returns-else-is_strictly_sorted
returns-else-is_strictly_sorted g c =
    let is = is_arranged-is _ _ (segments_of c.args.segments.now) (are_ordered c.args.segments.now) in
    elim c.if-is_splittable.branch [
      | then-is_splittable w ↦ c.if-is_strictly_sorted.false ∙ no_second _ _ _ (sym c.is_splittable.ensures ∙ w.if-is_splittable.true) (sym w.is_strictly_sorted.ensures ∙ sym w.value-is ∙ c.if-is_strictly_sorted.false) ∙ sym is
      | else-is_splittable w ↦ c.if-is_strictly_sorted.false ∙ no_first _ _ _ (sym c.is_splittable.ensures ∙ w.if-is_splittable.false) ∙ sym is
    ]
