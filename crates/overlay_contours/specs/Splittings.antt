-- How an overlay splits its segments into a planar arrangement: by snap rounding, or by pairwise passes.
use Rattle.std.specs.Prelude.{◌≡◌, ◌≤◌, ◌&&◌, ℕ, IsTrue, List}
use Rattle.overlay_base.specs.Balance.{KeepsBalance}
use Rattle.overlay_base.specs.Join.{join}
use Rattle.overlay_base.specs.Places.{RationalPoint, winding_below}
use Rattle.overlay_base.specs.Planar.{is_planar}
use Rattle.overlay_base.specs.Radius.{exponent_cap}
use Rattle.overlay_base.specs.Segments.{WholeSegment, pairs, is_map}
use Rattle.overlay_base.specs.declared.overlay_core.solver.Solver.{Solver}
use Rattle.overlay_cuts.specs.ExactInput.{is_exact_input}
use Rattle.overlay_cuts.specs.Nearness.{LieNear, reach_of_run, reach_of_passes}
use Rattle.overlay_cuts.specs.Places.{IsFar}
use Rattle.overlay_cuts.specs.Run.{Settings, IsPassCount, LeavesRange, after_passes}
use Rattle.overlay_snapping.specs.Chains.{IsSnapped}
use Rattle.overlay_snapping.specs.SnapOf.{reach_of_snap, SnapLeavesRange}
use Rattle.overlay_contours.specs.declared.rounding.Rounding.{Rounding}
use Rattle.overlay_contours.specs.declared.rounding.Rounding.TheVariants.{HotPixels, Pairwise}

-- by passes over pairs, as they are set, or by snap rounding
pub data Splitting : Type 0 where
  by_passes : Settings → Splitting
  by_snapping : Splitting

-- what passes are set to in coordinates of that many bits: the precision of the solver, and 256 passes that may snap
abbrev pub settings_for : ℕ → Solver → Settings
settings_for bits solver = record {
  start = solver.precision.start;
  progression = solver.precision.progression;
  cap = exponent_cap bits;
  limit = 256;
}

-- the splitting that a rounding names, in coordinates of that many bits
abbrev pub splitting_for : Rounding → ℕ → Solver → Splitting
splitting_for HotPixels bits solver = by_snapping
splitting_for Pairwise bits solver = by_passes (settings_for bits solver)

-- What passes leave of given segments: that many passes are made, and reach that many halves together.
pub record IsLeftByPasses (settings : Settings) (given segments : List WholeSegment) (passes halves : ℕ) : Type 0 where
  pub count : IsPassCount settings given passes
  pub arrangement : segments ≡ after_passes settings given passes
  pub reach : halves ≡ reach_of_run settings given passes

-- What snap rounding leaves of them, in one pass: nothing moves where each crossing is whole, and else nothing by more than a half.
pub record IsLeftBySnapping (given segments : List WholeSegment) (passes halves : ℕ) : Type 0 where
  pub count : passes ≡ 1
  pub snapped : IsSnapped (join given) segments
  pub reach : halves ≡ reach_of_snap given

-- The segments are what a splitting leaves of the given ones, in that many passes, moved by that many halves at most. There is
-- one such list, and one of each number.
abbrev pub IsLeftBy : Splitting → List WholeSegment → List WholeSegment → ℕ → ℕ → Type 0
IsLeftBy (by_passes settings) given segments passes halves = IsLeftByPasses settings given segments passes halves
IsLeftBy by_snapping given segments passes halves = IsLeftBySnapping given segments passes halves

-- how many halves that is at most, whatever is given
abbrev pub most_halves : Splitting → ℕ → ℕ
most_halves (by_passes settings) passes = reach_of_passes settings passes
most_halves by_snapping passes = 1

-- A running sum of counts on one pair of ends is too large on the way.
abbrev pub SumsLeaveRange : Splitting → List WholeSegment → Type 0
SumsLeaveRange (by_passes settings) given = LeavesRange settings given
SumsLeaveRange by_snapping given = SnapLeavesRange given

-- What is left, and what holds of it whichever splitting it is.
pub record IsArrangement (splitting : Splitting) (given segments : List WholeSegment) (passes halves : ℕ) : Type 0 where
  pub left : IsLeftBy splitting given segments passes halves
  -- Every two of the segments share at most a common end; and at every point as much starts, less what ends, as was given.
  pub planar : IsTrue (is_map segments && is_planar segments)
  pub kept : KeepsBalance given segments
  -- Each lies near a given one, and at each place that is farther from these they wind as these do.
  pub near : LieNear halves (pairs given) (pairs segments)
  pub winding : (p : RationalPoint) → IsFar halves p (pairs given) → winding_below segments p ≡ winding_below given p
  -- How far things move at most, by the splitting and the number of passes alone; nothing where no two of the given segments
  -- cross at a point that is not whole.
  pub reach : halves ≤ most_halves splitting passes
  pub exact : IsTrue (is_exact_input given) → halves ≡ 0
