use Rattle.std.proofs.Common.{◌≡◌, map, take}
use Rattle.overlay_geometry.specs.PairOf.{pair_of}
use Rattle.overlay_base.specs.SegmentOf.{ends_of}
use Rattle.overlay_relations.proofs.matrix.edges_of_sides.Given as goal

-- the ends of the segments so far
abbrev pub invariant-loop-side : goal.invariant-loop-side
invariant-loop-side g l = map (pair_of g.I.OverlayInt.whole) l.list.items ≡ map ends_of (take l.side-index l.sides)
