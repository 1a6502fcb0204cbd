use Rattle.std.proofs.Common.{◌≡◌, ℕ, ◌<◌, length}
use Rattle.std.specs.Prelude.{slice_index, slice_index_or}
use Rattle.overlay_build.specs.BoundaryOf.{arcs_by}
use Rattle.overlay_build.specs.DirectedWalks.{no_link}
use Rattle.overlay_shapes.specs.Sectors.{TurnsInto}
use Rattle.overlay_shapes.proofs.sectors.links_along_sectors.Given as goal

abbrev pub invariant-loop-node : goal.invariant-loop-node
invariant-loop-node g l =
    (length l.next.items ≡ length (arcs_by l.rule l.graph))
    × ((i : ℕ) → i < length (arcs_by l.rule l.graph) → (slice_index_or (arcs_by l.rule l.graph) i no_link).b_node < l.node → TurnsInto (arcs_by l.rule l.graph) i (slice_index l.next.items i))
