-- Laws over the definitions: statements that contracts name.
use Rattle.std.specs.Prelude.{◌≡◌, IsTrue, List, All}
use Rattle.overlay_base.specs.Windings.{add, weight}
use Rattle.overlay_base.specs.Segments.{WholeSegment, is_map}
use Rattle.overlay_base.specs.Planar.{is_planar}
use Rattle.overlay_base.specs.Balance.{IsBalanced}
use Rattle.overlay_sweep.specs.ChainWindings.{HaveColumnWindings, bottom, top}

-- with balance the chain's windings are those of the columns
abbrev pub ChainsAreColumns : Type 0
ChainsAreColumns = (segments : List WholeSegment) → IsTrue (is_map segments) → IsTrue (is_planar segments) → IsBalanced segments → HaveColumnWindings segments

-- Without any balance: the winding above each segment is its weight on top of the winding below it, so that a chain ends at nothing.
abbrev pub TopsAddWeights : Type 0
TopsAddWeights = (segments : List WholeSegment) → IsTrue (is_map segments) → IsTrue (is_planar segments) → All (λ s. top segments s ≡ add (bottom segments s) (weight s.count)) segments
