-- What a rule keeps beside a line, by what is given: the sides of a segment wind as the places directly beside it, and these as what is given.
use Rattle.std.proofs.Common.{◌≡◌, sym, ap₂, ◌∙◌, ◌&&◌, IsTrue, List, ℕ}
use Rattle.std.specs.Prelude.{◌==◌, not}
use Rattle.std.proofs.lemmas.Bool.{and_parts}
use Rattle.std.proofs.lemmas.List.Elements.{All-weaker}
use Rattle.overlay_base.specs.Windings.{Winding}
use Rattle.overlay_base.specs.Segments.{WholeSegment, is_map}
use Rattle.overlay_base.specs.Planar.{is_planar}
use Rattle.overlay_base.specs.Balance.{IsBalanced}
use Rattle.overlay_base.specs.Places.{winding_below}
use Rattle.overlay_base.specs.declared.overlay_core.clip_rule.ClipRule.{ClipRule}
use Rattle.overlay_base.specs.declared.overlay_core.fill_rule.FillRule.{FillRule}
use Rattle.overlay_build.specs.Beside.{is_on_top_of, is_at_bottom_of, TellsPlaces}
use Rattle.overlay_build.specs.Lines.{keeps_between, is_kept_part}
use Rattle.overlay_build.proofs.laws.regions.BesideUprights.{sides_tell_places}
use Rattle.i_overlay.specs.BesideLines.{WindsBeyondPolygons, KeepsBeyondPolygons}

pub keeps_beyond_polygons : (halves : ℕ) (rule : ClipRule) (fill_rule : FillRule) (given segments : List WholeSegment) → IsTrue (is_map segments && is_planar segments) → IsBalanced segments → WindsBeyondPolygons halves given segments →
    KeepsBeyondPolygons halves rule fill_rule given segments
unfolding is_kept_part
keeps_beyond_polygons halves rule fill_rule given segments planar balanced near p q some_p some_q far_p far_q =
    let parts = and_parts (is_map segments) (is_planar segments) planar in
    All-weaker (TellsPlaces segments)
    (λ s. IsTrue (is_on_top_of segments s.pair p) → IsTrue (is_at_bottom_of segments s.pair q) →
    is_kept_part rule fill_rule segments s ≡ (not (s.count.mask == 0) && keeps_between rule fill_rule (winding_below given q) (winding_below given p)))
    (λ s tells above below. ap₂ (λ (b t : Winding). not (s.count.mask == 0) && keeps_between rule fill_rule b t)
    (sym (tells.bottom q some_q below) ∙ near q far_q) (sym (tells.top p some_p above) ∙ near p far_p)) segments (sides_tell_places segments parts.0 parts.1 balanced)
