use Rattle.std.proofs.Common.{◌∙◌, ap, ◌&&◌}
use Rattle.std.specs.Prelude.{not}
use Rattle.overlay_geometry.specs.Coordinates.{is_point_in_range}
use Rattle.overlay_base.specs.Windings.{is_valid, is_not_empty}
use Rattle.overlay_base.proofs.laws.joins.DataJoins.{bare}
use Rattle.overlay_c.proofs.Steps.{asked_step}
use Rattle.overlay_c.proofs.lines.asked.Goals as goal

pub returns-clause-asks : goal.returns-clause-asks
returns-clause-asks g c =
    let ranges = is_point_in_range (g.I.OverlayInt.whole g.I.OverlayInt.MIN_COORD) (g.I.OverlayInt.whole g.I.OverlayInt.MAX_COORD) in
    let a = c.in_ok-a.ensures.in_range ∙ ap ranges c.start.ensures in
    let b = c.in_ok-b.ensures.in_range ∙ ap ranges c.end.ensures in
    let valid = c.if-not-is_valid.ensures ∙ ap is_valid c.count-count.ensures in
    let filled = c.if-not-is_not_empty.ensures ∙ ap is_not_empty c.count-count.ensures in
    λ i. ((a i && b i) && (not (c.if-has_equal_ends.ensures i) && (valid i && filled i)))

pub returns-clause-segment : goal.returns-clause-segment
returns-clause-segment g c =
    ap bare c.create_and_validate_with_data.ensures.segment ∙ asked_step _ _ _ _ _ _ _ _ _ c.count-count.ensures (c.in_ok-a.ensures.same ∙ c.start.ensures) (c.in_ok-b.ensures.same ∙ c.end.ensures)
