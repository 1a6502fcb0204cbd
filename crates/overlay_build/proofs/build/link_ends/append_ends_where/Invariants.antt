use Rattle.std.proofs.Common.{◌≡◌, ◌++◌, map}
use Rattle.overlay_build.specs.steps.EndOf.{ends_of}
use Rattle.overlay_build.specs.GraphOf.{pairs_of_links}
use Rattle.overlay_build.proofs.laws.graphs.DealtEnds.{first_ends_where}
use Rattle.overlay_build.proofs.build.link_ends.append_ends_where.Given as goal

abbrev pub invariant-loop-index : goal.invariant-loop-index
invariant-loop-index g l = ends_of l.ends.items ≡ ends_of l.initial.ends.items ++ first_ends_where l.index l.are_vertical (pairs_of_links g.L.Coordinate.OverlayInt.whole (map g.L.NumberedLink.link l.links))
