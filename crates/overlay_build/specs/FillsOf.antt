-- The fills of the segments of a list, in their order.
use Rattle.std.specs.Prelude.{◌≡◌, ℕ, List}
use Rattle.overlay_base.specs.SegmentOf.{segments_of}
use Rattle.overlay_base.specs.declared.overlay_core.fill_rule.FillRule.{FillRule}
use Rattle.overlay_base.specs.declared.segm.segment.Segment.{Segment}
use Rattle.overlay_build.specs.Graph.{fills_of}

-- They are those of the segments under some fill rule.
abbrev pub AreFillsBySome : {C I D : Type 0} {m : _} {w : _} {o : _} {e : _} {p : _} → List (Segment C I D m w o e p) → List ℕ → Type 0
AreFillsBySome list fills = (fill_rule : FillRule) × (fills ≡ fills_of fill_rule (segments_of list))
