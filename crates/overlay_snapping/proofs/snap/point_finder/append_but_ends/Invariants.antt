use Rattle.std.proofs.Common.{map, take}
use Rattle.std.specs.Prelude.{Contains, slice_get}
use Rattle.std.proofs.Common.{◌≡◌, ℕ, Some}
use Rattle.overlay_geometry.specs.PointOf.{point_of}
use Rattle.overlay_geometry.specs.PairOf.{pair_of}
use Rattle.overlay_snapping.specs.steps.Met.{AddsMet}
use Rattle.overlay_snapping.proofs.snap.point_finder.append_but_ends.Given as goal

-- the places so far are done
abbrev pub invariant-loop-place : goal.invariant-loop-place
invariant-loop-place g l =
    let whole = g.I.OverlayInt.whole in
    let points = map (point_of whole) l.points in
    AddsMet (pair_of whole l.segment) points (λ c. (k : ℕ) × Contains (take l.place-index l.places) k × (slice_get points k ≡ Some c)) (map (point_of whole) l.fn.met.items) (map (point_of whole) l.met.items)
