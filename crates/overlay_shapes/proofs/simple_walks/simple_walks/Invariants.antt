use Rattle.std.proofs.Common.{◌≡◌, length}
use Rattle.overlay_build.specs.BoundaryOf.{arcs_by, walks_of}
use Rattle.overlay_build.specs.OverlayGraphOf.{nodes_of}
use Rattle.overlay_shapes.proofs.laws.Cycles.{AreWalked}
use Rattle.overlay_shapes.proofs.simple_walks.simple_walks.Given as goal

abbrev pub invariant-loop-first : goal.invariant-loop-first
invariant-loop-first g l = AreWalked (arcs_by l.rule l.graph) l.next l.first l.used.items (walks_of l.simple.items) × (length l.places.items ≡ length (nodes_of l.graph))
