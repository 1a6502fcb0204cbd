use Rattle.std.proofs.Common.{◌≡◌, ◌≤◌, ◌++◌, map, take}
use Rattle.overlay_build.specs.steps.EndOf.{ends_of}
use Rattle.overlay_build.specs.GraphOf.{pairs_of_links}
use Rattle.overlay_build.specs.steps.LinkEnds.{numbered_ends}
use Rattle.overlay_build.proofs.build.link_ends.append_ends.Given as goal

abbrev pub invariant-loop-index : goal.invariant-loop-index
invariant-loop-index g l = record {
  ends : ends_of l.ends.items ≡ ends_of l.initial.ends.items ++ take l.index (numbered_ends (pairs_of_links g.L.Coordinate.OverlayInt.whole (map g.L.NumberedLink.link l.links)));
  few : l.verticals ≤ l.index;
}
