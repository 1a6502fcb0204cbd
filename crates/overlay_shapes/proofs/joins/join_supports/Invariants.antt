use Rattle.std.proofs.Common.{map}
use Rattle.overlay_base.specs.Rules.{holds}
use Rattle.overlay_build.specs.GraphOf.{link_of}
use Rattle.overlay_shapes.specs.steps.Joins.{AddsSupports}
use Rattle.overlay_shapes.proofs.joins.join_supports.Given as goal

abbrev pub invariant-loop-index : goal.invariant-loop-index
invariant-loop-index g l = AddsSupports (holds l.rule) (map (link_of g.I.OverlayInt.whole) l.links) l.supports l.index l.fn.joins.items l.joins.items
