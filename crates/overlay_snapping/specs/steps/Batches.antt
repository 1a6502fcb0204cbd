-- What cutting a list of code leaves, and pieces that are joined some at a time: how they wind together, and how great their counts on one pair of ends are.
use Rattle.std.specs.Prelude.{◌≡◌, ℕ, ◌≤◌, List, Contains, IsFalse, flat_map, Vec}
use Rattle.std.specs.Global.{Global}
use Rattle.overlay_geometry.specs.Points.{Point, Pair, is_end}
use Rattle.overlay_base.specs.Segments.{WholeSegment, pairs, segments_at, winding_at}
use Rattle.overlay_base.specs.EdgeData.{DataSegment, IsRefusedJoin}
use Rattle.overlay_base.specs.HooksOf.{hooks_of}
use Rattle.overlay_base.specs.SegmentOf.{data_segments_of}
use Rattle.overlay_base.specs.declared.overlay_core.edge_data.OverlayEdgeData.{Ghosts}
use Rattle.overlay_base.specs.declared.segm.segment.Segment.{Segment}
use Rattle.overlay_base.specs.steps.Early.{magnitudes}
use Rattle.overlay_cuts.specs.DataPass.{data_cut_by, data_pass_by}
use Rattle.overlay_cuts.specs.Path.{pieces}
use Rattle.overlay_snapping.specs.Chains.{IsCutAt, AreSnapCuts, AreDecided}

-- the magnitudes of the counts on one pair, together
unfoldable pub magnitudes_at : List WholeSegment → Pair → ℕ
magnitudes_at bag pair = magnitudes (segments_at bag pair)

-- Some segments are cut at the points that a function names: what is held winds as their pieces, and its counts on a pair are no
-- greater than those of the segments together.
pub record IsCutSoFar (on : Pair → List Point) (done held : List WholeSegment) : Type 0 where
  pub windings : (pair : Pair) → winding_at held pair ≡ winding_at (flat_map (λ s. pieces s (on s.pair)) done) pair
  pub bound : (pair : Pair) → magnitudes_at held pair ≤ magnitudes done

-- some segment is cut between its ends
abbrev pub HasCut : List WholeSegment → Type 0
HasCut segments = (s : Pair) × (c : Point) × Contains (pairs segments) s × IsCutAt (pairs segments) s c × IsFalse (is_end s c)

-- each segment moves or does not, and a function names the points between its ends at which it is cut
abbrev pub HasCuts : List WholeSegment → Type 0
HasCuts segments = AreDecided segments × ((on : Pair → List Point) × AreSnapCuts segments on)

-- what holds of each function that names these points
abbrev pub ForCuts : List WholeSegment → ((Pair → List Point) → Type 0) → Type 0
ForCuts segments P = (on : Pair → List Point) → AreSnapCuts segments on → P on

-- The list has the data of another that is cut at the points that a function names, joined, with a store; the store is what
-- that leaves; or the join was refused, and left that store.
abbrev pub HasDataOfPass : {C I D S : Type 0} {m : _} {w : _} {o : _} {e : _} {p : _} → Ghosts D C S → Vec (Segment C I D m w o e p) Global → S → Vec (Segment C I D m w o e p) Global → (Pair → List Point) → Type 0
HasDataOfPass {m = m} hooks given store list on = data_segments_of list.items ≡ (data_pass_by (hooks_of m.counted hooks) on (data_segments_of given.items) store).0

abbrev pub IsPassStore : {C I D S : Type 0} {m : _} {w : _} {o : _} {e : _} {p : _} → Ghosts D C S → Vec (Segment C I D m w o e p) Global → S → S → (Pair → List Point) → Type 0
IsPassStore {m = m} hooks given store left on = left ≡ (data_pass_by (hooks_of m.counted hooks) on (data_segments_of given.items) store).1

abbrev pub StopsPass : {C I D S : Type 0} {m : _} {w : _} {o : _} {e : _} {p : _} → Ghosts D C S → Vec (Segment C I D m w o e p) Global → S → S → (Pair → List Point) → Type 0
StopsPass {D = D} {S = S} {m = m} hooks given store left on =
    let pieces : List (DataSegment D) × S = data_cut_by (hooks_of m.counted hooks) on (data_segments_of given.items) store in
    IsRefusedJoin (hooks_of m.counted hooks) pieces.0 pieces.1 left
