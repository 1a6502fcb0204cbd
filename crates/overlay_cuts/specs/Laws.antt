-- Laws of cuts, each a statement that is proved once and named by a contract, here or above.
use Rattle.std.specs.Prelude.{◌≡◌, ◌≢◌, ◌<◌, ◌≤◌, ℕ, ◌*◌, ℤ, ◌-ℤ◌, ◌||◌, IsTrue, ◌+◌, ◌-◌, neg_ℤ, Bool, IsFalse, List, [], All, Contains, ◌^◌, ◌/◌}
use Rattle.std.specs.List.{list_all}
use Rattle.overlay_geometry.specs.Points.{Point, Pair, is_vertical, is_horizontal, is_in_box, is_within_box_of}
use Rattle.overlay_geometry.specs.Coordinates.{is_point_in_range}
use Rattle.overlay_geometry.specs.Meeting.{do_cross}
use Rattle.overlay_base.specs.Windings.{Winding, inverse}
use Rattle.overlay_base.specs.Segments.{WholeSegment, pairs, ends, is_map, are_ordered}
use Rattle.overlay_base.specs.Join.{join, join_leaves_range}
use Rattle.overlay_base.specs.Planar.{is_planar, is_splittable}
use Rattle.overlay_base.specs.Balance.{KeepsBalance}
use Rattle.overlay_base.specs.EdgeData.{Hooks, DataSegment, SplitCall, MergeCall, without_data}
use Rattle.overlay_intersections.specs.Crossing.{is_exact, snapping_point, settling_point}
use Rattle.overlay_intersections.specs.Marks.{Placing, ordered_mark}
use Rattle.overlay_cuts.specs.Pass.{EachMark, cut_by, pass_by, pass}
use Rattle.overlay_intersections.specs.PassMarks.{is_rounded, mark_count}
use Rattle.overlay_cuts.specs.Run.{Settings, after_passes}
use Rattle.overlay_base.specs.Places.{RationalPoint, winding_below}
use Rattle.overlay_cuts.specs.Nearness.{Fraction, whole_point, point_along, exact_crossing, IsWithin, IsNear, LiesNear, LieNear, MarksLieNear, IsNearSome, root, reach, reach_of_run}
use Rattle.overlay_cuts.specs.Places.{IsFar}
use Rattle.overlay_cuts.specs.DataPass.{data_pass_by, data_pass, data_after_passes}

-- ---- paths

-- a number of a count that an inverse negates
abbrev pub IsOdd : (Winding → ℤ) → Type 0
IsOdd part = (c : Winding) → part (inverse c) ≡ neg_ℤ (part c)

-- what a function of points loses from the start of a pair to its end
abbrev pub loss : (Point → ℤ) → Pair → ℤ
loss f s = f s.a -ℤ f s.b

-- ---- passes

-- a pass that is not rounded leaves a planar arrangement
abbrev pub ExactPassIsPlanar : Type 0
ExactPassIsPlanar = (placing : Placing) (segments : List WholeSegment) → IsTrue (is_map segments) → IsFalse (is_rounded segments) → IsTrue (is_planar (pass placing segments))

-- ---- cuts at whatever marks, joined

-- such a cut changes no point's balance
abbrev pub CutKeepsBalance : Type 0
CutKeepsBalance = (marks : Pair → List Point) (segments : List WholeSegment) → KeepsBalance segments (pass_by marks segments)

-- it is an arrangement, where no mark is an end of its pair
abbrev pub CutIsMap : Type 0
CutIsMap =
    (marks : Pair → List Point) (segments : List WholeSegment) → IsTrue (are_ordered segments) → EachMark (λ s m. (m ≢ s.a) × (m ≢ s.b)) marks segments →
    IsTrue (is_map (pass_by marks segments))

-- and may be split as the list may, where the marks and all sums are in range
abbrev pub CutIsSplittable : Type 0
CutIsSplittable =
    (least greatest : ℤ) (marks : Pair → List Point) (segments : List WholeSegment) → IsTrue (are_ordered segments) → IsTrue (is_splittable least greatest segments) →
    EachMark (λ s m. (m ≢ s.a) × (m ≢ s.b)) marks segments → EachMark (λ s m. IsTrue (is_point_in_range least greatest m)) marks segments → IsFalse (join_leaves_range (cut_by marks segments)) →
    IsTrue (is_splittable least greatest (pass_by marks segments))

-- The ends of the pieces lie in the box of any points in which the ends of the list and the marks lie.
abbrev pub CutStaysInBox : Type 0
CutStaysInBox =
    (corners : List Point) (marks : Pair → List Point) (segments : List WholeSegment) → IsTrue (list_all (λ p. is_within_box_of corners p) (ends (pairs segments))) →
    EachMark (λ s m. IsTrue (is_within_box_of corners m)) marks segments → IsTrue (list_all (λ p. is_within_box_of corners p) (ends (pairs (pass_by marks segments))))

-- Points lie in their own box, and what lies in the box of a pair lies in each in which the ends of the pair lie.
abbrev pub BoxesAreMeant : Type 0
BoxesAreMeant =
    ((points : List Point) → IsTrue (list_all (λ p. is_within_box_of points p) points))
    × ((corners : List Point) (s : Pair) (p : Point) → IsTrue (is_within_box_of corners s.a) → IsTrue (is_within_box_of corners s.b) → IsTrue (is_in_box s p) → IsTrue (is_within_box_of corners p))

-- ---- runs

-- no pass reaches outside the box around the ends of the join
abbrev pub StaysInBox : Type 0
StaysInBox =
    (settings : Settings) (given : List WholeSegment) (k : ℕ) →
    IsTrue (list_all (λ p. is_within_box_of (ends (pairs (join given))) p) (ends (pairs (after_passes settings given k))))

-- ---- nearness

-- the root is what is meant by it
abbrev pub RootIsMeant : Type 0
RootIsMeant = (n : ℕ) → (root n * root n ≤ n) × (n < (root n + 1) * (root n + 1))

-- the root of a squared radius, which is a power of two: at most the power of half the exponent, rounded up
abbrev pub RootOfPower : Type 0
RootOfPower = (e : ℕ) → root (2 ^ e) ≤ 2 ^ ((e + 1) / 2)

-- the exact crossing lies on both pairs
abbrev pub CrossingLiesOnBoth : Type 0
CrossingLiesOnBoth = (s t : Pair) → IsTrue (do_cross s t) → IsNear 0 (exact_crossing s t) s × IsNear 0 (exact_crossing s t) t

-- how far from the exact crossing a mark lies, and how far the points at which it is placed
pub record IsMarkNear (placing : Placing) (s t : Pair) : Type 0 where
  pub within : IsWithin (reach placing) (whole_point (ordered_mark placing s t)) (exact_crossing s t)
  pub exact : IsTrue (is_exact s t) → IsWithin 0 (whole_point (ordered_mark placing s t)) (exact_crossing s t)
  pub snapping_point_within : IsWithin 2 (whole_point (snapping_point s t)) (exact_crossing s t)
  pub sloped : IsFalse (is_vertical s || is_horizontal s) → IsWithin 1 (whole_point (snapping_point s t)) (exact_crossing s t)
  pub settling_point_within : IsWithin 1 (whole_point (settling_point s t)) (exact_crossing s t)

abbrev pub MarkIsNear : Type 0
MarkIsNear = (placing : Placing) (s t : Pair) → IsTrue (do_cross s t) → IsMarkNear placing s t

-- where marks lie near their pairs, every pair of the cut, joined, lies as near to one of the pairs before it
abbrev pub CutStaysNear : Type 0
CutStaysNear =
    (halves : ℕ) (marks : Pair → List Point) (segments : List WholeSegment) → MarksLieNear halves marks segments →
    LieNear halves (pairs segments) (pairs (pass_by marks segments))

-- and every point of a pair as near to one of the pieces
abbrev pub CutPiecesStayNear : Type 0
CutPiecesStayNear =
    (halves : ℕ) (marks : Pair → List Point) (segments : List WholeSegment) (s : Pair) → IsTrue (are_ordered segments) → MarksLieNear halves marks segments → Contains (pairs segments) s → (f : Fraction) →
    IsNearSome halves (point_along s f) (pairs (cut_by marks segments))

-- ---- places

-- a join changes no winding
abbrev pub JoinKeepsWinding : Type 0
JoinKeepsWinding = (bag : List WholeSegment) (p : RationalPoint) → winding_below (join bag) p ≡ winding_below bag p

-- nor does a cut at marks that lie near their pairs, at a place that is farther from each pair
abbrev pub CutKeepsWinding : Type 0
CutKeepsWinding =
    (halves : ℕ) (marks : Pair → List Point) (segments : List WholeSegment) (p : RationalPoint) → IsTrue (are_ordered segments) → MarksLieNear halves marks segments → IsFar halves p (pairs segments) →
    winding_below (pass_by marks segments) p ≡ winding_below segments p

-- ---- passes with data

-- each segment lies that near to every pair that its data names
abbrev pub NameNear : {D : Type 0} → (D → Pair → Bool) → ℕ → List (DataSegment D) → Type 0
NameNear names halves segments = All (λ r. (s : Pair) → IsTrue (names r.edge_data s) → LiesNear halves r.pair s) segments

-- data changes neither geometry nor counts
abbrev pub DataIsBeside : (D S : Type 0) → Type 0
DataIsBeside D S =
    (hooks : Hooks D S) (settings : Settings) (given : List (DataSegment D)) (store : S) (k : ℕ) →
    without_data (data_after_passes hooks settings given store k).0 ≡ after_passes settings (without_data given) k

-- nor those of a cut at whatever marks, joined
abbrev pub DataCutIsBeside : (D S : Type 0) → Type 0
DataCutIsBeside D S =
    (hooks : Hooks D S) (marks : Pair → List Point) (segments : List (DataSegment D)) (store : S) →
    without_data (data_pass_by hooks marks segments store).0 ≡ pass_by marks (without_data segments)

-- a pass that makes no mark leaves the arrangement, its data and the store as they are
abbrev pub UnmarkedDataIsUnchanged : (D S : Type 0) → Type 0
UnmarkedDataIsUnchanged D S =
    (hooks : Hooks D S) (placing : Placing) (segments : List (DataSegment D)) (store : S) → IsTrue (is_map (without_data segments)) → mark_count placing (without_data segments) ≡ 0 →
    data_pass hooks placing segments store ≡ (segments, store)

-- so do cuts at whatever marks, joined, where there are none
abbrev pub UnmarkedDataCutIsUnchanged : (D S : Type 0) → Type 0
UnmarkedDataCutIsUnchanged D S =
    (hooks : Hooks D S) (marks : Pair → List Point) (segments : List (DataSegment D)) (store : S) → IsTrue (is_map (without_data segments)) → All (λ s. marks s ≡ []) (pairs (without_data segments)) →
    data_pass_by hooks marks segments store ≡ (segments, store)

-- and so does a run over a planar arrangement
abbrev pub ArrangedDataIsUnchanged : (D S : Type 0) → Type 0
ArrangedDataIsUnchanged D S =
    (hooks : Hooks D S) (settings : Settings) (segments : List (DataSegment D)) (store : S) (k : ℕ) → IsTrue (is_map (without_data segments)) → IsTrue (is_planar (without_data segments)) →
    data_after_passes hooks settings segments store k ≡ (segments, store)

-- What hooks keep of data: it stays when data is turned or split, and merged data has it where both have it.
pub record HooksKeep {D S : Type 0} (hooks : Hooks D S) (has : D → Bool) : Type 0 where
  pub reversed : (d : D) (store : S) → IsTrue (has d) → IsTrue (has (hooks.reversed d store).0)
  pub split : (call : SplitCall D) (store : S) → IsTrue (has call.edge_data) → IsTrue (has (hooks.split call store).0.0) × IsTrue (has (hooks.split call store).0.1)
  pub merge : (call : MergeCall D) (store : S) → IsTrue (has call.lhs_data) → IsTrue (has call.rhs_data) → IsTrue (has (hooks.merge call store).0)

-- what the hooks keep holds of all data after a cut, joined, where it holds of all before
abbrev pub DataCutKeepsWhatHooksKeep : (D S : Type 0) → Type 0
DataCutKeepsWhatHooksKeep D S =
    (hooks : Hooks D S) (has : D → Bool) → HooksKeep hooks has → (marks : Pair → List Point) (segments : List (DataSegment D)) (store : S) →
    IsTrue (list_all (λ s. has s.edge_data) segments) → IsTrue (list_all (λ s. has s.edge_data) (data_pass_by hooks marks segments store).0)

-- what the hooks keep holds of all data after a run where it holds of all that is given
abbrev pub DataKeepsWhatHooksKeep : (D S : Type 0) → Type 0
DataKeepsWhatHooksKeep D S =
    (hooks : Hooks D S) (has : D → Bool) → HooksKeep hooks has → (settings : Settings) (given : List (DataSegment D)) (store : S) (k : ℕ) →
    IsTrue (list_all (λ s. has s.edge_data) given) → IsTrue (list_all (λ s. has s.edge_data) (data_after_passes hooks settings given store k).0)

-- Data may name pairs, as the number of a given segment names its ends. What hooks do not: data that is turned, split or merged names no pair that
-- the data before it did not.
pub record HooksNameNoOther {D S : Type 0} (hooks : Hooks D S) (names : D → Pair → Bool) : Type 0 where
  pub reversed : (d : D) (store : S) (s : Pair) → IsTrue (names (hooks.reversed d store).0 s) → IsTrue (names d s)
  pub split_first : (call : SplitCall D) (store : S) (s : Pair) → IsTrue (names (hooks.split call store).0.0 s) → IsTrue (names call.edge_data s)
  pub split_rest : (call : SplitCall D) (store : S) (s : Pair) → IsTrue (names (hooks.split call store).0.1 s) → IsTrue (names call.edge_data s)
  pub merge : (call : MergeCall D) (store : S) (s : Pair) → IsTrue (names (hooks.merge call store).0 s) → IsTrue (names call.lhs_data s || names call.rhs_data s)

-- so after a cut, joined, each segment lies near every pair that its data names, by as much more as the marks lie from their pairs
abbrev pub DataCutNamesWhatIsNear : (D S : Type 0) → Type 0
DataCutNamesWhatIsNear D S =
    (hooks : Hooks D S) (names : D → Pair → Bool) → HooksNameNoOther hooks names → (before more : ℕ) (marks : Pair → List Point) (segments : List (DataSegment D)) (store : S) →
    MarksLieNear more marks (without_data segments) → NameNear names before segments → NameNear names (before + more) (data_pass_by hooks marks segments store).0

-- so after a run each segment lies as near to every pair that its data names as the passes reach, where each given one lies on those that it names
abbrev pub DataNamesWhatIsNear : (D S : Type 0) → Type 0
DataNamesWhatIsNear D S =
    (hooks : Hooks D S) (names : D → Pair → Bool) → HooksNameNoOther hooks names → (settings : Settings) (given : List (DataSegment D)) (store : S) (k : ℕ) →
    IsTrue (are_ordered (without_data given)) → NameNear names 0 given → NameNear names (reach_of_run settings (without_data given) k) (data_after_passes hooks settings given store k).0
