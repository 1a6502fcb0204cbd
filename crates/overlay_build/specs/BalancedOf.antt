-- What the graphs of rules are of a list of code with balanced counts.
use Rattle.std.specs.Prelude.{List}
use Rattle.overlay_base.specs.ClipRules.{keeps_clip}
use Rattle.overlay_base.specs.Rules.{holds, keeps_fill}
use Rattle.overlay_base.specs.SegmentOf.{segments_of}
use Rattle.overlay_base.specs.declared.overlay_core.clip_rule.ClipRule.{ClipRule}
use Rattle.overlay_base.specs.declared.overlay_core.fill_rule.FillRule.{FillRule}
use Rattle.overlay_base.specs.declared.overlay_core.overlay_rule.OverlayRule.{OverlayRule}
use Rattle.overlay_base.specs.declared.segm.segment.Segment.{Segment}
use Rattle.overlay_build.specs.Graph.{graph_by}
use Rattle.overlay_build.specs.Lines.{IsBalancedClip}
use Rattle.overlay_build.specs.Sides.{IsBalancedOverlay}

-- The graph of the segments that an overlay rule keeps is a balanced overlay of the list.
abbrev pub MakesBalancedOverlay : {C I D : Type 0} {m : _} {w : _} {o : _} {e : _} {p : _} → OverlayRule → FillRule → List (Segment C I D m w o e p) → Type 0
MakesBalancedOverlay rule fill_rule list =
    IsBalancedOverlay (holds rule) fill_rule (segments_of list) (graph_by (keeps_fill (holds rule)) fill_rule (segments_of list))

-- The graph of the parts of lines that a clip rule keeps is a balanced clip of the list.
abbrev pub MakesBalancedClip : {C I D : Type 0} {m : _} {w : _} {o : _} {e : _} {p : _} → ClipRule → FillRule → List (Segment C I D m w o e p) → Type 0
MakesBalancedClip rule fill_rule list = IsBalancedClip rule fill_rule (segments_of list) (graph_by (keeps_clip rule) fill_rule (segments_of list))
