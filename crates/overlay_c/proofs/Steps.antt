-- Steps of the proofs of several functions.
use Rattle.std.proofs.Common.{◌≡◌, ◌∙◌, arith, ap}
use Rattle.std.proofs.lemmas.Grind.{common_steps}
use Rattle.overlay_geometry.specs.Points.{Point}
use Rattle.overlay_base.specs.Windings.{Winding}
use Rattle.overlay_base.specs.EdgeData.{Hooks, data_piece}
use Rattle.overlay_base.proofs.laws.joins.DataJoins.{bare}
use Rattle.overlay_c.specs.Records.{piece_of}

-- the segment made from a to b, without its data
piece_step : {D S : Type 0} (hooks : Hooks D S) (count : Winding) (a b : Point) (edge_data : D) (store : S) → bare (data_piece hooks count a b edge_data store).0 ≡ piece_of count a b
unfolding data_piece
piece_step hooks count a b edge_data store = grind (arith, common_steps)

-- the same by a count and ends that are equal
pub asked_step : {D S : Type 0} (hooks : Hooks D S) (count w : Winding) (a b p q : Point) (edge_data : D) (store : S) → count ≡ w → a ≡ p → b ≡ q
    → bare (data_piece hooks count a b edge_data store).0 ≡ piece_of w p q
asked_step hooks count w a b p q edge_data store ec ea eb =
    piece_step hooks count a b edge_data store ∙ ap (λ u. piece_of u a b) ec ∙ ap (λ u. piece_of w u b) ea ∙ ap (λ u. piece_of w p u) eb
