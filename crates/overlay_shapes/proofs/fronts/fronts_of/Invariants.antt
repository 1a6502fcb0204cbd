use Rattle.std.proofs.Common.{map}
use Rattle.overlay_build.specs.GraphOf.{link_of}
use Rattle.overlay_shapes.proofs.laws.Fronts.{HaveFronts}
use Rattle.overlay_shapes.proofs.fronts.fronts_of.Given as goal

abbrev pub invariant-loop-index : goal.invariant-loop-index
invariant-loop-index g l = HaveFronts (map (link_of g.I.OverlayInt.whole) l.links) l.leaders l.index l.fronts.items
