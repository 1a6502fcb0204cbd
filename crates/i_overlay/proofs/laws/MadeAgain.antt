-- A segment that is made again, from its ends, its count and its data.
use Rattle.std.proofs.Common.{◌≡◌, ◌∙◌, true, refl, sym, subst}
use Rattle.overlay_geometry.specs.Points.{Point, Pair, point_lt, is_ordered}
use Rattle.overlay_base.specs.EdgeData.{Hooks, data_piece}
use Rattle.overlay_base.specs.Windings.{Winding}

made_in_order : {D S : Type 0} (hooks : Hooks D S) (count : Winding) (a b : Point) (edge_data : D) (store : S) → point_lt a b ≡ true
    → (data_piece hooks count a b edge_data store).0 ≡ record { pair = record { a = a; b = b }; count = count; edge_data = edge_data }
unfolding data_piece
made_in_order hooks count a b edge_data store h = rw (h, data_piece) refl

pub made_again : {D S : Type 0} (hooks : Hooks D S) (count w : Winding) (a b : Point) (s : Pair) (edge_data d : D) (store : S) → is_ordered s ≡ true → record { a = a; b = b } ≡ s → count ≡ w → edge_data ≡ d
    → (data_piece hooks count a b edge_data store).0 ≡ record { pair = s; count = w; edge_data = d }
made_again hooks count w a b s edge_data d store h es ew ed =
    made_in_order hooks count a b edge_data store (subst (λ (t : Pair). is_ordered t ≡ true) (sym es) h) ∙ (λ i. record { pair = es i; count = ew i; edge_data = ed i })
