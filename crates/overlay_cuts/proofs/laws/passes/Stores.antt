-- What passes leave of a store: calls of the hooks make it of the one before.
use Rattle.std.proofs.Common.{◌≡◌, ℕ, zero, suc, List, [], ◌∷◌, sym, subst}
use Rattle.overlay_geometry.specs.Points.{Point, Pair}
use Rattle.overlay_base.specs.Windings.{Winding}
use Rattle.overlay_base.specs.EdgeData.{DataSegment, SplitCall, Hooks, IsMadeFrom, without_data, data_piece}
use Rattle.overlay_base.specs.EdgeData.IsMadeFrom.{no_call, after_split}
use Rattle.overlay_base.proofs.laws.joins.Stores.{made_further, made_by_piece, made_by_join}
use Rattle.overlay_intersections.specs.Marks.{Placing}
use Rattle.overlay_intersections.specs.PassMarks.{marks_on}
use Rattle.overlay_cuts.specs.Path.{path_from, columns_of}
use Rattle.overlay_cuts.specs.Run.{Settings, placing_of_pass}
use Rattle.overlay_cuts.specs.DataPass.{data_pieces, data_pieces_of_each, data_cut_by, data_cut, data_pass, data_after_passes}

module _ {D S : Type 0} (hooks : Hooks D S) where
  -- one more call
  pub made_with_split : {from store : S} (call : SplitCall D) → IsMadeFrom hooks from store → (after : S) → after ≡ (hooks.split call store).1 → IsMadeFrom hooks from after
  made_with_split {from = from} call made after e = subst (λ s. IsMadeFrom hooks from s) (sym e) (after_split call made)

  pub made_with_piece : {from store : S} (count : Winding) (p q : Point) (d : D) → IsMadeFrom hooks from store → (after : S) → after ≡ (data_piece hooks count p q d store).1 → IsMadeFrom hooks from after
  made_with_piece {from = from} count p q d made after e = subst (λ s. IsMadeFrom hooks from s) (sym e) (made_further hooks made (made_by_piece hooks count p q d _))

  pub made_by_pieces : (count : Winding) (p : Point) (points : List Point) (b : Point) (d : D) (store : S) → IsMadeFrom hooks store (data_pieces hooks count p points b d store).1
  unfolding data_pieces
  made_by_pieces count p [] b d store = no_call
  made_by_pieces count p (q ∷ []) b d store = made_by_piece hooks count p q d store
  made_by_pieces count p (q ∷ r ∷ points) b d store =
      let call : SplitCall D = record { edge_data = d; a = p; p = q; b = b } in
      let parts = hooks.split call store in
      let first = data_piece hooks count p q parts.0.0 parts.1 in
      made_further hooks (made_further hooks (after_split call no_call) (made_by_piece hooks count p q parts.0.0 parts.1)) (made_by_pieces count q (r ∷ points) b parts.0.1 first.1)

  made_by_each : (marks : Pair → List Point) (ss : List (DataSegment D)) (store : S) → IsMadeFrom hooks store (data_pieces_of_each hooks marks ss store).1
  unfolding data_pieces_of_each
  made_by_each marks [] store = no_call
  made_by_each marks (s ∷ ss) store =
      let points = path_from s.pair.a (columns_of (marks s.pair)) s.pair.b in
      let here = data_pieces hooks s.count s.pair.a points s.pair.b s.edge_data store in
      made_further hooks (made_by_pieces s.count s.pair.a points s.pair.b s.edge_data store) (made_by_each marks ss here.1)

  made_by_cut : (marks : Pair → List Point) (ss : List (DataSegment D)) (store : S) → IsMadeFrom hooks store (data_cut_by hooks marks ss store).1
  unfolding data_cut_by
  made_by_cut marks ss store = made_by_each marks ss store

  made_by_pass : (placing : Placing) (ss : List (DataSegment D)) (store : S) → IsMadeFrom hooks store (data_pass hooks placing ss store).1
  unfolding data_pass
  made_by_pass placing ss store =
      let pieces = data_cut hooks placing ss store in
      made_further hooks (made_by_cut (marks_on placing (without_data ss)) ss store) (made_by_join hooks pieces.0 pieces.1)

  pub made_by_passes : (settings : Settings) (given : List (DataSegment D)) (store : S) (k : ℕ) → IsMadeFrom hooks store (data_after_passes hooks settings given store k).1
  unfolding data_after_passes
  made_by_passes settings given store zero = made_by_join hooks given store
  made_by_passes settings given store (suc k) =
      let before = data_after_passes hooks settings given store k in
      made_further hooks (made_by_passes settings given store k) (made_by_pass (placing_of_pass settings (suc k)) before.0 before.1)
