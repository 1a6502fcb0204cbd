-- The segments that start at one point, in order of their angles.
use Rattle.std.specs.Prelude.{ℕ, ◌-◌, List, map, take, drop}
use Rattle.std.specs.List.{enumerate_from}
use Rattle.overlay_geometry.specs.Points.{Pair}
use Rattle.overlay_geometry.specs.Sorting.{stably_sorted}
use Rattle.overlay_base.specs.Segments.{WholeSegment}
use Rattle.overlay_geometry.specs.Below.{angle_cmp}
use Rattle.overlay_geometry.specs.VSegmentOf.{v_pair_of}
use Rattle.overlay_sweep.specs.declared.build.way.Way.{Way}

-- a segment's ends with its index
pub record WholeWay : Type 0 where
  pub index : ℕ
  pub pair : Pair

abbrev pub way_of : {I : Type 0} {w : _} {o : _} {e : _} {p : _} → Way I w o e p → WholeWay
way_of {w = w} way = record { index = way.index; pair = v_pair_of w.whole way.segment }

abbrev pub ways_of : {I : Type 0} {w : _} {o : _} {e : _} {p : _} → List (Way I w o e p) → List WholeWay
ways_of list = map way_of list

-- those of the segments from one index up to another
abbrev pub ways_between : List WholeSegment → ℕ → ℕ → List WholeWay
ways_between segments index next = take (next - index) (drop index (map (λ e. record { index = e.0; pair = e.1.pair }) (enumerate_from 0 segments)))

-- in order of angle from below
abbrev pub by_angle : List WholeWay → List WholeWay
by_angle ways = stably_sorted (λ v w. angle_cmp v.pair w.pair) ways
