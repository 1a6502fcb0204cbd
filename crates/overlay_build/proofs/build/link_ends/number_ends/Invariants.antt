use Rattle.std.proofs.Common.{length, map, ◌-◌}
use Rattle.overlay_build.specs.GraphOf.{with_end}
use Rattle.overlay_build.specs.steps.EndOf.{unpacked, ends_of}
use Rattle.overlay_build.proofs.laws.graphs.NumberedRuns.{IsRunNumbered}
use Rattle.overlay_build.proofs.build.link_ends.number_ends.Given as goal

abbrev pub invariant-loop-next : goal.invariant-loop-next
invariant-loop-next g l =
    IsRunNumbered (with_end l.id) (ends_of l.ends) (unpacked l.key) l.end l.next l.fn.indexes.items l.indexes.items
    (map g.L.NumberedLink.link l.fn.links) (map g.L.NumberedLink.link l.links)

abbrev pub decreases-loop-next : goal.decreases-loop-next
decreases-loop-next g l = length l.ends - l.next
