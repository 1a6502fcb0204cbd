-- A settling pass where no crossing is rounded, as the split by snap rounding.
use Rattle.std.proofs.Common.{◌≡◌, ◌∙◌, refl, sym, ap, ap₂, subst, ◌^◌, ◌<◌, IsTrue, IsFalse, List, [], ◌++◌, take, drop}
use Rattle.std.specs.Prelude.{Contains}
use Rattle.overlay_geometry.specs.Points.{Point, Pair, is_end}
use Rattle.overlay_geometry.proofs.laws.lists.Lists.{Has, Has-map, Has-append_left}
use Rattle.overlay_geometry.proofs.laws.lists.Elements.{Contains-from_Has, Has-from_Contains}
use Rattle.overlay_base.specs.EdgeData.{DataSegment, Hooks, without_data}
use Rattle.overlay_base.specs.Join.{join, join_leaves_range}
use Rattle.overlay_base.specs.Segments.{WholeSegment, pairs, ends, are_ordered}
use Rattle.overlay_base.specs.Planar.{is_planar}
use Rattle.overlay_base.specs.steps.Early.{magnitudes}
use Rattle.overlay_base.proofs.laws.joins.OneValues.{same_without_data}
use Rattle.overlay_intersections.specs.Marks.{settling}
use Rattle.overlay_intersections.specs.PassMarks.{marks_on, is_rounded}
use Rattle.overlay_cuts.specs.DataPass.{data_pass_by}
use Rattle.overlay_cuts.specs.Path.{pieces}
use Rattle.overlay_cuts.specs.Pass.{cut_by, pass_by, pass}
use Rattle.overlay_cuts.specs.ExactInput.{special_points}
use Rattle.overlay_cuts.proofs.laws.passes.DataPasses.{data_cut_is_beside}
use Rattle.overlay_cuts.proofs.laws.planar.Unmarked.{flat_map-same}
use Rattle.overlay_cuts.proofs.laws.planar.ExactMarks.{IsMarked-marks_on}
use Rattle.overlay_cuts.proofs.laws.planar.ExactAnswers.{special_marks}
use Rattle.overlay_snapping.specs.Chains.{IsCutAt, AreSnapCuts, AreDecided}
use Rattle.overlay_snapping.specs.steps.Resolved.{HasCut}
use Rattle.overlay_snapping.proofs.laws.chains.ExactCuts.{none_decided, marks_are_cuts}
use Rattle.overlay_snapping.proofs.laws.chains.MarkLists.{same_cuts}
use Rattle.overlay_snapping.proofs.laws.chains.SnapRuns.{none_between}
use Rattle.overlay_snapping.proofs.laws.collinear.SmallSums.{small_pieces_stay}

module _ (segments : List WholeSegment) (o : IsTrue (are_ordered segments)) (exact : IsFalse (is_rounded segments)) where
  -- the points at which a settling pass cuts
  pub settled : Pair → List Point
  settled = marks_on settling segments

  pub settled_cuts : AreSnapCuts segments settled
  unfolding settled
  settled_cuts = marks_are_cuts segments o exact

  pub settled_decided : AreDecided segments
  settled_decided = none_decided segments o exact

  pub settled_pass : pass settling segments ≡ pass_by settled segments
  unfolding settled pass
  settled_pass = refl

  -- another function that names the cuts names the same
  module _ (on : Pair → List Point) (cuts : AreSnapCuts segments on) where
    alike : (s : WholeSegment) → Has segments s → on s.pair ≡ settled s.pair
    alike s i =
        let j = Contains-from_Has (pairs segments) s.pair (Has-map (λ (u : WholeSegment). u.pair) segments s i) in
        same_cuts (pairs segments) s.pair (on s.pair) (settled s.pair) (cuts s.pair j) (settled_cuts s.pair j)

    same_cut : cut_by on segments ≡ cut_by settled segments
    unfolding cut_by
    same_cut =
        ap₂ (λ (l : List WholeSegment) (r : List WholeSegment). l ++ r)
        (flat_map-same (λ s. take 1 (pieces s (on s.pair))) (λ s. take 1 (pieces s (settled s.pair))) segments (λ s i. ap (λ l. take 1 (pieces s l)) (alike s i)))
        (flat_map-same (λ s. drop 1 (pieces s (on s.pair))) (λ s. drop 1 (pieces s (settled s.pair))) segments (λ s i. ap (λ l. drop 1 (pieces s l)) (alike s i)))

    pub passed_alike : pass settling segments ≡ pass_by on segments
    passed_alike = settled_pass ∙ ap join (sym same_cut)

    pub pieces_fit : magnitudes segments < 2 ^ 31 → IsFalse (join_leaves_range (cut_by on segments))
    unfolding settled
    pieces_fit small = ap join_leaves_range same_cut ∙ small_pieces_stay segments o exact small

    -- so has the data of that pass, if the data has one value
    pub passed_data : {D S : Type 0} → ((a b : D) → a ≡ b) → (hooks : Hooks D S) (given listed : List (DataSegment D)) (store : S) → without_data given ≡ segments → without_data listed ≡ pass settling segments → listed ≡ (data_pass_by hooks on given store).0
    passed_data one hooks given listed store bare is =
        same_without_data one listed (data_pass_by hooks on given store).0 (is ∙ passed_alike ∙ sym (ap (pass_by on) bare) ∙ sym (data_cut_is_beside hooks on given store))

  -- an end strictly inside a segment is a cut
  pub cut_is_cut : HasCut segments → (s : Pair) × (c : Point) × Contains (pairs segments) s × IsCutAt (pairs segments) s c × IsFalse (is_end s c)
  unfolding special_points
  cut_is_cut h =
      let s = h.0 in
      let p = h.1 in
      let i = Has-from_Contains (pairs segments) s h.2 in
      let special : Has (special_points (pairs segments)) p = Has-append_left (ends (pairs segments)) _ p (Has-from_Contains (ends (pairs segments)) p h.3) in
      let marked = IsMarked-marks_on settling segments o exact s i p (special_marks segments o exact s p i h.4 special) in
      let cut = ((marks_are_cuts segments o exact s h.2).complete p).0 (Contains-from_Has (marks_on settling segments s) p marked) in
      (s, p, h.2, cut.0, cut.1)

  -- which a planar list has not
  pub planar_has_none : IsTrue (is_planar segments) → HasCut segments → ⊥
  unfolding settled
  planar_has_none planar h =
      let found = cut_is_cut h in
      let there = ((settled_cuts found.0 found.2).complete found.1).1 (found.3, found.4) in
      let none = none_between segments planar found.0 (settled found.0) (Has-from_Contains (pairs segments) found.0 found.2) (settled_cuts found.0 found.2) in
      absurd (Has-from_Contains [] found.1 (subst (λ l. Contains l found.1) none there))
