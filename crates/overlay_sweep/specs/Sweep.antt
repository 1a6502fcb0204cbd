-- A sweep over an arrangement: in which order the handler gets the segments, and with which fills.
use Rattle.std.specs.Prelude.{ℕ, Bool, not, List, [], ◌∷◌, map, Option, Some, None}
use Rattle.std.specs.List.{enumerate_from, list_any}
use Rattle.std.specs.Ordering.{ordering_then}
use Rattle.overlay_geometry.specs.Points.{point_cmp}
use Rattle.overlay_geometry.specs.Sorting.{stably_sorted}
use Rattle.overlay_base.specs.Windings.{is_count_in_range}
use Rattle.overlay_base.specs.Segments.{WholeSegment}
use Rattle.overlay_base.specs.EdgeData.{DataSegment, without_data}
use Rattle.overlay_geometry.specs.Below.{angle_cmp}
use Rattle.overlay_base.specs.declared.overlay_core.fill_rule.FillRule.{FillRule}
use Rattle.overlay_sweep.specs.ChainWindings.{bottom, top}
use Rattle.overlay_sweep.specs.Fill.{fill_byte}

-- a segment as the handler gets it: its place in the list, its data, and its fill
pub record Visit (D : Type 0) : Type 0 where
  pub index : ℕ
  pub segment : DataSegment D
  pub fill : ℕ

abbrev pub whole_of : {D : Type 0} → DataSegment D → WholeSegment
whole_of s = record { pair = s.pair; count = s.count }

-- the fill by the windings of the chain
abbrev pub fill_of : FillRule → List WholeSegment → WholeSegment → ℕ
fill_of rule segments s = fill_byte rule (bottom segments s) (top segments s) s.count.mask

-- the visits of a sweep: by start, then by angle from below
unfoldable pub visits : {D : Type 0} → FillRule → List (DataSegment D) → List (Visit D)
visits rule segments =
    stably_sorted (λ v w. ordering_then (point_cmp v.segment.pair.a w.segment.pair.a) (angle_cmp v.segment.pair w.segment.pair))
    (map (λ e. record { index = e.0; segment = e.1; fill = fill_of rule (without_data segments) (whole_of e.1) }) (enumerate_from 0 segments))

module _ {D H O : Type 0} (handle : H → Visit D → H × Option O) (finalize : H → O) where
  -- what a handler returns: its first result, or what it makes of the end
  unfoldable pub handled : H → List (Visit D) → O
  handled handler [] = finalize handler
  handled handler (v ∷ vs) =
      let next : H × Option O = handle handler v in
      elim next.1 [ Some answer ↦ answer | None ↦ handled next.0 vs ]

module _ {D H O : Type 0} (handle : H → Visit D → H × Option O) where
  -- the visits up to the first at which the handler breaks, that one included
  unfoldable pub visited : H → List (Visit D) → List (Visit D)
  visited handler [] = []
  visited handler (v ∷ vs) =
      let next : H × Option O = handle handler v in
      elim next.1 [ Some answer ↦ v ∷ [] | None ↦ v ∷ visited next.0 vs ]

-- whether one of the visits has a top that is too large
unfoldable pub visits_leave_range : {D : Type 0} → List WholeSegment → List (Visit D) → Bool
visits_leave_range segments vs = list_any (λ v. not (is_count_in_range (top segments (whole_of v.segment)))) vs
