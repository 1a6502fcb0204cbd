use mir.Val.{bool_byte}
use Rattle.std.proofs.Common.{◌≡◌, ◌∙◌, ◌==◌, Bool, true, false, not, if◌then◌else◌, ℕ, ap, refl}
use Rattle.overlay_geometry.specs.PairOf.{pair_of}
use Rattle.overlay_base.specs.StringWinding.{string_winding}
use Rattle.overlay_base.specs.SegmentOf.{count_of}
use Rattle.overlay_base.specs.declared.segm.string.ShapeCountString.{ShapeCountString}
use Rattle.i_overlay.proofs.laws.MadeAgain.{made_again}
use Rattle.i_overlay.proofs.number_lists.with_number.Goals as goal

one_if : (b : Bool) → bool_byte (not b) ≡ (if b then 0 else 1)
one_if true = refl
one_if false = refl

pub returns : goal.returns
returns g c =
    let counted : ◌≡◌ {A = ℕ} c.from.result (if (count_of c.args.segment.now).clip == 0 then 0 else 1) =
    c.from.ensures ∙ ap (λ (k : ShapeCountString). bool_byte (not (k.clip == 0))) c.count-count.ensures ∙ one_if ((count_of c.args.segment.now).clip == 0) in
    c.create_and_validate_with_data.ensures.segment
    ∙ made_again _ _ _ _ _ _ _ _ _ c.args.segment.now.ordered (ap (λ s. pair_of g.I.OverlayInt.whole s) c.x_segment-ends.ensures) (ap string_winding c.count-count.ensures)
    (ap (λ (n : ℕ). record { start = c.args.number; count = n }) counted)
