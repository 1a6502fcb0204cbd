use Rattle.std.proofs.Common.{◌∙◌, ap, refl}
use Rattle.overlay_geometry.specs.PairOf.{pair_of}
use Rattle.overlay_base.specs.StringWinding.{string_winding}
use Rattle.overlay_base.proofs.laws.joins.DataJoins.{bare}
use Rattle.i_overlay.proofs.laws.MadeAgain.{made_again}
use Rattle.i_overlay.proofs.number_lists.without_numbers.Goals as goal

pub returns : goal.returns
returns g c =
    ap bare (c.create_and_validate_with_data.ensures.segment
    ∙ made_again _ _ _ _ _ _ _ _ _ c.args.segment.now.ordered (ap (λ s. pair_of g.I.OverlayInt.whole s) c.x_segment-ends.ensures) (ap string_winding c.count.ensures) refl)
