use Rattle.std.proofs.Common.{◌∙◌, ap, sym}
use Rattle.std.specs.Ordering.{is_lt}
use Rattle.overlay_geometry.specs.VSegmentOf.{v_pair_of}
use Rattle.overlay_sweep.specs.steps.PlaceOf.{stands_before}
use Rattle.overlay_sweep.proofs.laws.live.Below.{is_below_point}
use Rattle.overlay_sweep.proofs.build.place.Place.is_after.Goals as goal

pub returns-in-Point : goal.returns-in-Point
returns-in-Point g c =
    c.is_lt.ensures ∙ ap is_lt c.is_under_point_order.ensures ∙ is_below_point _ _ _
    ∙ sym (ap (λ p. stands_before g.I.OverlayInt.whole p (v_pair_of g.I.OverlayInt.whole c.args.segment.now)) c.in-Point.is)
