-- A whole split: the given segments are joined, then passes are made up to one in which every crossing was exact.
use Rattle.std.specs.Prelude.{◌≡◌, ℕ, zero, suc, ◌+◌, ◌-◌, ◌*◌, ◌^◌, ◌<◌, nat_le, nat_lt, min, Bool, false, if◌then◌else◌, ◌&&◌, ◌||◌, List, length, IsTrue, IsFalse}
use Rattle.overlay_base.specs.Segments.{WholeSegment}
use Rattle.overlay_base.specs.Join.{join, has_equal_pairs, join_leaves_range}
use Rattle.overlay_intersections.specs.Marks.{Placing, snapping, settling}
use Rattle.overlay_cuts.specs.Pass.{cut, pass}
use Rattle.overlay_intersections.specs.PassMarks.{is_rounded, mark_count}

-- What a run is set to: the precision's start and progression, the cap of the radius exponent, and how many passes may snap.
pub record Settings : Type 0 where
  pub start : ℕ
  pub progression : ℕ
  pub cap : ℕ
  pub limit : ℕ

-- the squared radius of pass k, counted from 1
abbrev pub radius_of_pass : Settings → ℕ → ℕ
radius_of_pass settings k = 2 ^ min (settings.start + (k - 1) * settings.progression) settings.cap

-- passes up to the limit snap, later ones settle
unfoldable pub placing_of_pass : Settings → ℕ → Placing
placing_of_pass settings k = if nat_le k settings.limit then snapping (radius_of_pass settings k) else settling

-- the arrangement after k passes; after none, the join of the given segments
unfoldable pub after_passes : Settings → List WholeSegment → ℕ → List WholeSegment
after_passes settings given zero = join given
after_passes settings given (suc k) = pass (placing_of_pass settings (suc k)) (after_passes settings given k)

-- Whether pass k + 1 is made: two segments are there, and pass k, if k is not 0, was rounded.
unfoldable pub goes_on : Settings → List WholeSegment → ℕ → Bool
goes_on settings given zero = nat_le 2 (length (join given))
goes_on settings given (suc k) = nat_le 2 (length (after_passes settings given (suc k))) && is_rounded (after_passes settings given k)

-- whether one of the first k passes made a mark
unfoldable pub has_marked : Settings → List WholeSegment → ℕ → Bool
has_marked settings given zero = false
has_marked settings given (suc k) = has_marked settings given k || nat_lt 0 (mark_count (placing_of_pass settings (suc k)) (after_passes settings given k))

-- whether equal segments were given or one of the first k passes made a mark
unfoldable pub has_changed : Settings → List WholeSegment → ℕ → Bool
has_changed settings given k = has_equal_pairs given || has_marked settings given k

-- k is the number of passes: each of the first k is made, and no further one
pub record IsPassCount (settings : Settings) (given : List WholeSegment) (k : ℕ) : Type 0 where
  pub made : (j : ℕ) → j < k → IsTrue (goes_on settings given j)
  pub no_more : IsFalse (goes_on settings given k)

-- what a split returns: the last arrangement, the number of passes, and whether something was joined or marked
pub record IsRun (settings : Settings) (given result : List WholeSegment) (passes : ℕ) (flag : Bool) : Type 0 where
  pub count : IsPassCount settings given passes
  pub arrangement : result ≡ after_passes settings given passes
  pub changed : flag ≡ has_changed settings given passes

-- whether a running sum is too large in the join of the given segments or of the pieces of one of the first k passes
unfoldable pub leaves_range_within : Settings → List WholeSegment → ℕ → Bool
leaves_range_within settings given zero = join_leaves_range given
leaves_range_within settings given (suc k) =
    leaves_range_within settings given k || join_leaves_range (cut (placing_of_pass settings (suc k)) (after_passes settings given k))

-- some sum of the run leaves the range: in the join or in a pass that is made
abbrev pub LeavesRange : Settings → List WholeSegment → Type 0
LeavesRange settings given = (k : ℕ) × ((j : ℕ) → j < k → IsTrue (goes_on settings given j)) × IsTrue (leaves_range_within settings given k)
