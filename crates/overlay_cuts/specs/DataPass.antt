-- The same passes over segments with data: which hook is called when, and what the store holds after.
use Rattle.std.specs.Prelude.{ℕ, zero, suc, ◌<◌, IsTrue, IsFalse, List, [], ◌∷◌, ◌++◌, flat_map, take, drop, ◌≡◌}
use Rattle.overlay_geometry.specs.Points.{Point, Pair}
use Rattle.overlay_base.specs.Windings.{Winding}
use Rattle.overlay_intersections.specs.Marks.{Placing}
use Rattle.overlay_cuts.specs.Path.{path_from, columns_of}
use Rattle.overlay_intersections.specs.PassMarks.{marks_on}
use Rattle.overlay_cuts.specs.Run.{Settings, placing_of_pass, goes_on, leaves_range_within}
use Rattle.overlay_base.specs.EdgeData.{DataSegment, Hooks, without_data, data_piece, data_join, IsRefusedJoin}

module _ {D S : Type 0} (hooks : Hooks D S) where
  -- The pieces from p through the points that follow it on a path to b. Before each but the last the data is split there.
  unfoldable pub data_pieces : Winding → Point → List Point → Point → D → S → List (DataSegment D) × S
  data_pieces count p [] b edge_data store = ([], store)
  data_pieces count p (q ∷ []) b edge_data store =
      let last : DataSegment D × S = data_piece hooks count p q edge_data store in
      (last.0 ∷ [], last.1)
  data_pieces count p (q ∷ r ∷ points) b edge_data store =
      let parts : (D × D) × S = hooks.split (record { edge_data = edge_data; a = p; p = q; b = b }) store in
      let first : DataSegment D × S = data_piece hooks count p q parts.0.0 parts.1 in
      let later : List (DataSegment D) × S = data_pieces count q (r ∷ points) b parts.0.1 first.1 in
      (first.0 ∷ later.0, later.1)

  -- the pieces of each segment, one segment after another
  unfoldable pub data_pieces_of_each : (Pair → List Point) → List (DataSegment D) → S → List (List (DataSegment D)) × S
  data_pieces_of_each marks [] store = ([], store)
  data_pieces_of_each marks (s ∷ segments) store =
      let here : List (DataSegment D) × S = data_pieces s.count s.pair.a (path_from s.pair.a (columns_of (marks s.pair)) s.pair.b) s.pair.b s.edge_data store in
      let rest : List (List (DataSegment D)) × S = data_pieces_of_each marks segments here.1 in
      (here.0 ∷ rest.0, rest.1)

  -- the first piece of each segment in its place, then the others in order, where a function names the marks on each pair
  unfoldable pub data_cut_by : (Pair → List Point) → List (DataSegment D) → S → List (DataSegment D) × S
  data_cut_by marks segments store =
      let each : List (List (DataSegment D)) × S = data_pieces_of_each marks segments store in
      (flat_map (λ ps. take 1 ps) each.0 ++ flat_map (λ ps. drop 1 ps) each.0, each.1)

  abbrev pub data_pass_by : (Pair → List Point) → List (DataSegment D) → S → List (DataSegment D) × S
  data_pass_by marks segments store =
      let pieces : List (DataSegment D) × S = data_cut_by marks segments store in
      data_join hooks pieces.0 pieces.1

  -- the same at the marks that a pass makes
  abbrev pub data_cut : Placing → List (DataSegment D) → S → List (DataSegment D) × S
  data_cut placing segments store = data_cut_by (marks_on placing (without_data segments)) segments store

  unfoldable pub data_pass : Placing → List (DataSegment D) → S → List (DataSegment D) × S
  data_pass placing segments store = data_pass_by (marks_on placing (without_data segments)) segments store

  -- the segments with their data, and the store, after k passes
  unfoldable pub data_after_passes : Settings → List (DataSegment D) → S → ℕ → List (DataSegment D) × S
  data_after_passes settings given store zero = data_join hooks given store
  data_after_passes settings given store (suc k) =
      let before : List (DataSegment D) × S = data_after_passes settings given store k in
      data_pass (placing_of_pass settings (suc k)) before.0 before.1

  -- what pass k joins, and the store before that: the pieces of its cut; pass 0 stands for the join of the given segments
  unfoldable pub data_joined_in : Settings → List (DataSegment D) → S → ℕ → List (DataSegment D) × S
  data_joined_in settings given store zero = (given, store)
  data_joined_in settings given store (suc k) =
      let before : List (DataSegment D) × S = data_after_passes settings given store k in
      data_cut (placing_of_pass settings (suc k)) before.0 before.1

  -- the store before pass k cuts anything; before pass 0 it is the one at first
  unfoldable pub data_store_before : Settings → List (DataSegment D) → S → ℕ → S
  data_store_before settings given store zero = store
  data_store_before settings given store (suc k) = (data_after_passes settings given store k).1

-- A run that was refused in a pass, 0 for the join of the given segments: the passes up to that one are made, every sum before it is in range, and its join stopped, with the store that is left.
pub record IsStoppedRun {D S : Type 0} (hooks : Hooks D S) (settings : Settings) (given : List (DataSegment D)) (from left : S) : Type 0 where
  pub in_pass : ℕ
  pub made : (j : ℕ) → j < in_pass → IsTrue (goes_on settings (without_data given) j)
  pub fits : (j : ℕ) → j < in_pass → IsFalse (leaves_range_within settings (without_data given) j)
  pub stopped :
      let joined : List (DataSegment D) × S = data_joined_in hooks settings given from in_pass in
      IsRefusedJoin hooks joined.0 joined.1 left

-- The data of the segments is what the hooks of that many passes make of what is given, from some store at first.
abbrev pub IsDataAfter : {D S : Type 0} → Hooks D S → (S → Type 0) → Settings → List (DataSegment D) → List (DataSegment D) → ℕ → Type 0
IsDataAfter {S = S} hooks IsFirst settings given segments passes = (store : S) × IsFirst store × (segments ≡ (data_after_passes hooks settings given store passes).0)
