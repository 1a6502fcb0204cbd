-- How a list is split, by either rounding.
use Rattle.std.specs.Prelude.{ℕ, List}
use Rattle.overlay_base.specs.Segments.{WholeSegment}
use Rattle.overlay_cuts.specs.Nearness.{reach_of_run}
use Rattle.overlay_cuts.specs.Run.{Settings}
use Rattle.overlay_contours.specs.Splittings.{Splitting, by_passes}

-- by which splitting, in how many passes, and by how many halves of a unit these move things at most
pub record Course : Type 0 where
  pub splitting : Splitting
  pub passes : ℕ
  pub halves : ℕ

-- that many passes over pairs
abbrev pub course_of_passes : Settings → List WholeSegment → ℕ → Course
course_of_passes settings given passes = record { splitting = by_passes settings; passes = passes; halves = reach_of_run settings given passes }
