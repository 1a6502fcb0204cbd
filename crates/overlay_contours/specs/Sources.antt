-- The given edges from which the steps of an overlay come.
use Rattle.std.specs.Prelude.{◌≡◌, ◌≤◌, ℕ, IsTrue, List, Some, Option, option_and_then, slice_get, All}
use Rattle.overlay_geometry.specs.Points.{Point, Pair}
use Rattle.overlay_base.specs.EdgeData.{DataSegment}
use Rattle.overlay_cuts.specs.ExactInput.{is_exact_input}
use Rattle.overlay_cuts.specs.Nearness.{LiesNear}
use Rattle.overlay_contours.specs.Contours.{steps_of, in_order}
use Rattle.overlay_contours.specs.ContourSegments.{overlay_segments}
use Rattle.overlay_contours.specs.DataContours.{DataStep, data_steps}
use Rattle.overlay_contours.specs.Refusals.{of_shape}
use Rattle.overlay_contours.specs.declared.sources.SourceEdge.{SourceEdge}

-- The given step that a source names, if there is one: of the contour at its index among those of its shape, the step
-- from the point at its index.
abbrev pub given_step : List (List Point) → List (List Point) → SourceEdge → Option Pair
given_step subject clip source = option_and_then (λ contour. slice_get (steps_of contour) source.edge) (slice_get (of_shape source.shape_type subject clip) source.contour)

-- A pair lies that many halves near the given step that a source names.
abbrev pub LiesNearSource : ℕ → List (List Point) → List (List Point) → Pair → SourceEdge → Type 0
LiesNearSource halves subject clip s source = (e : Pair) × (given_step subject clip source ≡ Some e) × LiesNear halves s (in_order e)

-- A segment is the given step that its source names, with its ends in order.
abbrev pub IsItsSource : List (List Point) → List (List Point) → DataSegment SourceEdge → Type 0
IsItsSource subject clip r = (e : Pair) × (given_step subject clip r.edge_data ≡ Some e) × (r.pair ≡ in_order e)

-- Each step of the contours lies that near to the given step that its source names.
abbrev pub LieNearSources : ℕ → List (List Point) → List (List Point) → List (List (DataStep SourceEdge)) → Type 0
LieNearSources halves subject clip contours = All (λ s. LiesNearSource halves subject clip (in_order s.0) s.1) (data_steps contours)

-- Each step of the contours lies within half a unit of the given step that its source names, and on it where no two given
-- edges cross at a point that is not whole.
pub record ComeFromSources (subject clip : List (List Point)) (contours : List (List (DataStep SourceEdge))) : Type 0 where
  pub halves : ℕ
  pub near : LieNearSources halves subject clip contours
  pub reach : halves ≤ 1
  pub exact : IsTrue (is_exact_input (overlay_segments subject clip)) → halves ≡ 0
