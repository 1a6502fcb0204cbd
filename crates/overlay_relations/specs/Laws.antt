-- Laws of two shapes, by their boundaries.
use Rattle.std.specs.Prelude.{◌≡◌, ℕ, IsTrue, IsFalse, Bool, false, List, []}
use Rattle.overlay_geometry.specs.Points.{Point}
use Rattle.overlay_base.specs.Rules.{holds}
use Rattle.overlay_base.specs.declared.overlay_core.fill_rule.FillRule.{FillRule}
use Rattle.overlay_base.specs.declared.overlay_core.fill_rule.FillRule.TheVariants.{NonZero}
use Rattle.overlay_base.specs.declared.overlay_core.overlay_rule.OverlayRule.{OverlayRule}
use Rattle.overlay_contours.specs.Beyond.{IsOverlayBeyond}
use Rattle.overlay_relations.specs.Boundaries.{has_inexact_crossing, IsBoundaryOf}
use Rattle.overlay_relations.specs.Crossings.{HaveCrossingEdges}
use Rattle.overlay_relations.specs.Relations.{HasPoint, HoldsSomewhere}

-- Where edges of the boundaries of two shapes cross, some points are inside both, some inside each alone, and some inside neither.
abbrev pub CrossingBoundariesMeet : Type 0
CrossingBoundariesMeet =
    (subject_rule clip_rule : FillRule) (subject clip first second : List (List Point)) →
    IsBoundaryOf subject_rule subject first → IsBoundaryOf clip_rule clip second →
    HaveCrossingEdges first second → (in_subject in_clip : Bool) → HasPoint subject_rule clip_rule subject clip in_subject in_clip

-- Two boundaries that cross at a point that is not whole have edges that cross.
abbrev pub InexactBoundariesCross : Type 0
InexactBoundariesCross =
    (subject_rule clip_rule : FillRule) (subject clip first second : List (List Point)) →
    IsBoundaryOf subject_rule subject first → IsBoundaryOf clip_rule clip second →
    IsTrue (has_inexact_crossing first second) → HaveCrossingEdges first second

-- Where the overlay of the boundaries by a rule moves nothing, it is empty exactly if the rule holds at no point.
abbrev pub ExactBoundariesDecide : Type 0
ExactBoundariesDecide =
    (rule : OverlayRule) (subject_rule clip_rule : FillRule) (subject clip first second region : List (List Point)) → holds rule false false ≡ false →
    IsBoundaryOf subject_rule subject first → IsBoundaryOf clip_rule clip second → IsOverlayBeyond 0 rule NonZero first second region →
    (region ≡ [] → HoldsSomewhere rule subject_rule clip_rule subject clip → ⊥) × ((region ≡ [] → ⊥) → HoldsSomewhere rule subject_rule clip_rule subject clip)

-- What an overlay returns crosses itself at no such point, however far the overlay moved things.
abbrev pub ResultsCrossExactly : Type 0
ResultsCrossExactly =
    (halves : ℕ) (rule : OverlayRule) (fill_rule : FillRule) (subject clip result : List (List Point)) →
    IsOverlayBeyond halves rule fill_rule subject clip result → IsFalse (has_inexact_crossing result [])
