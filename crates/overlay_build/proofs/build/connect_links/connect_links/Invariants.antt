use Rattle.std.proofs.Common.{length, map, ◌-◌, ◌+◌}
use Rattle.overlay_build.specs.steps.LinksOf.{IsKeyAt, starts_of}
use Rattle.overlay_build.proofs.laws.graphs.LaidNodes.{IsLaidUpTo}
use Rattle.overlay_build.proofs.build.connect_links.connect_links.Given as goal

abbrev pub invariant-loop-key : goal.invariant-loop-key
invariant-loop-key g l =
    record {
      laid : IsLaidUpTo g.L.Coordinate.OverlayInt.whole (map g.L.NumberedLink.link l.fn.links) l.left.from l.end (map g.L.NumberedLink.link l.links) l.degrees.items l.indexes.items;
      key : IsKeyAt (starts_of g.L.Coordinate.OverlayInt.whole (map g.L.NumberedLink.link l.links)) l.left.from l.left.key;
    }

abbrev pub decreases-loop-key : goal.decreases-loop-key
decreases-loop-key g l = (length (map g.L.NumberedLink.link l.links) - l.left.from) + (length l.ends.items - l.end)
