-- The supports of the segments of an arrangement, by their indexes.
use Rattle.std.specs.Prelude.{◌≡◌, ℕ, List, length, slice_index, Some, slice_get}
use Rattle.overlay_base.specs.Segments.{WholeSegment}
use Rattle.overlay_sweep.specs.ChainWindings.{support}

-- At the index of a segment is the index of its support; where it has none, an index past the list.
pub record AreSupports (segments : List WholeSegment) (supports : List ℕ) : Type 0 where
  pub each : length supports ≡ length segments
  pub told : (i : ℕ) (s : WholeSegment) → slice_get segments i ≡ Some s → support segments s ≡ slice_get segments (slice_index supports i)
