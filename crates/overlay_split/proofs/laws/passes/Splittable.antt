-- A pass keeps what may be split.
use Rattle.std.proofs.Common.{◌≤◌, arith, ℕ, List, IsTrue, IsFalse}
use Rattle.std.specs.Prelude.{ℤ}
use Rattle.std.specs.List.{AllByRecursion}
use Rattle.std.proofs.lemmas.Bool.{and_from}
use Rattle.overlay_base.specs.Segments.{WholeSegment, is_map}
use Rattle.overlay_base.specs.Join.{join_leaves_range}
use Rattle.overlay_base.specs.Planar.{is_splittable}
use Rattle.overlay_intersections.specs.Marks.{Placing, settling}
use Rattle.overlay_intersections.specs.PassMarks.{marks_on}
use Rattle.overlay_cuts.specs.Pass.{cut, pass}
use Rattle.overlay_cuts.specs.Potential.{spread, potential}
use Rattle.overlay_geometry.proofs.laws.geometry.Coordinates.{in_box_in_range}
use Rattle.overlay_geometry.proofs.laws.lists.Lists.{AllByRecursion-weaker}
use Rattle.overlay_base.proofs.laws.joins.Maps.{are_ordered-map}
use Rattle.overlay_base.proofs.laws.joins.Members.{sum_by-join_le}
use Rattle.overlay_cuts.proofs.laws.paths.Boxes.{AtEnds, HoldsInBoxes, marks_on_have}
use Rattle.overlay_split.proofs.laws.paths.Potentials.{potential-cut}
use Rattle.overlay_cuts.proofs.laws.passes.Splittable.{IsInRange, is_splittable-pass_by, usable_parts}

-- ---- joins

range_in_boxes : (least greatest : ℤ) → HoldsInBoxes (IsInRange least greatest)
range_in_boxes least greatest s p h k = in_box_in_range least greatest s p (and_from _ _ h.0 h.1) k

-- and a pass over it leaves one
pub is_splittable-pass : (least greatest : ℤ) (placing : Placing) (segments : List WholeSegment) → IsTrue (is_splittable least greatest segments) → IsFalse (join_leaves_range (cut placing segments)) → IsTrue (is_map (pass placing segments)) → IsTrue (is_splittable least greatest (pass placing segments))
unfolding pass
is_splittable-pass least greatest placing segments h fits map =
    let ends = (usable_parts least greatest segments h).ends in
    is_splittable-pass_by least greatest (marks_on placing segments) segments h
    (AllByRecursion-weaker (λ s. AtEnds (IsInRange least greatest) s.pair) (λ s. AllByRecursion (IsInRange least greatest) (marks_on placing segments s.pair)) (λ s k. marks_on_have (IsInRange least greatest) (range_in_boxes least greatest) placing segments s.pair ends k) segments ends) fits map

-- ---- the potential

-- a settling pass never raises it
pub settling_never_raises : (segments : List WholeSegment) → IsTrue (is_map segments) → potential (pass settling segments) ≤ potential segments
unfolding pass potential
settling_never_raises segments map =
    let e = potential-cut segments (are_ordered-map segments map) in
    let f = sum_by-join_le spread (cut settling segments) in
    omega (arith, e, f)
