use Rattle.std.proofs.Common.{length, map, ◌-◌}
use Rattle.overlay_build.specs.GraphOf.{with_start}
use Rattle.overlay_build.specs.steps.EndOf.{unpacked}
use Rattle.overlay_build.specs.steps.LinksOf.{IsKeyAt, starts_of}
use Rattle.overlay_build.proofs.laws.graphs.NumberedRuns.{IsRunNumbered}
use Rattle.overlay_build.proofs.build.link_ends.number_starts.Given as goal

abbrev pub invariant-loop-links : goal.invariant-loop-links
invariant-loop-links g l = record {
  numbered : IsRunNumbered (with_start l.id) (starts_of g.L.Coordinate.OverlayInt.whole (map g.L.NumberedLink.link l.fn.links)) (unpacked l.key) l.fn.left.from l.next.from l.fn.indexes.items l.indexes.items (map g.L.NumberedLink.link l.fn.links) (map g.L.NumberedLink.link l.links);
  key : IsKeyAt (starts_of g.L.Coordinate.OverlayInt.whole (map g.L.NumberedLink.link l.fn.links)) l.next.from l.next.key;
}

abbrev pub decreases-loop-links : goal.decreases-loop-links
decreases-loop-links g l = length l.links - l.next.from
