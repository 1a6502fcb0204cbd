-- Where a run is after that many passes.
use Rattle.std.specs.Prelude.{◌≡◌, ℕ, ◌<◌, ℤ, Bool, List, IsTrue, IsFalse}
use Rattle.overlay_base.specs.Segments.{WholeSegment, is_map}
use Rattle.overlay_base.specs.Planar.{is_splittable}
use Rattle.overlay_base.specs.EdgeData.{DataSegment, Hooks}
use Rattle.overlay_cuts.specs.DataPass.{data_after_passes}
use Rattle.overlay_cuts.specs.Run.{Settings, after_passes, goes_on, has_changed, leaves_range_within}

-- k passes were made, and this is the list after them, with its data and the store
pub record IsAt {D S : Type 0} (hooks : Hooks D S) (settings : Settings) (least greatest : ℤ) (given now : List WholeSegment) (data_given data_now : List (DataSegment D)) (from store : S) (k : ℕ) (changed goes : Bool) : Type 0 where
  pub made : (j : ℕ) → j < k → IsTrue (goes_on settings given j)
  pub arrangement_is : now ≡ after_passes settings given k
  pub edge_data_is : data_now ≡ (data_after_passes hooks settings data_given from k).0
  pub store_is : store ≡ (data_after_passes hooks settings data_given from k).1
  pub changed_is : changed ≡ has_changed settings given k
  pub goes_is : goes ≡ goes_on settings given k
  pub fits : IsFalse (leaves_range_within settings given k)
  pub map : IsTrue (is_map now)
  pub splittable : IsTrue (is_splittable least greatest now)
