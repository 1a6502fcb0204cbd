use Rattle.overlay_build.specs.BoundaryOf.{arcs_by, walks_of}
use Rattle.overlay_shapes.proofs.laws.CutWalks.{IsCut}
use Rattle.overlay_shapes.proofs.simple_walks.cut_walk.Given as goal

abbrev pub invariant-loop-step : goal.invariant-loop-step
invariant-loop-step g l = IsCut (arcs_by l.rule l.graph) l.walk l.step-index l.places l.path.items (walks_of l.fn.simple.items) (walks_of l.simple.items)
