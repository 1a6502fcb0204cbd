-- Lists of data segments where the data has one value.
use Rattle.std.proofs.Common.{◌≡◌, arith, Bool, true, false, List, [], ◌∷◌, refl, ap, sym, ◌∙◌}
use Rattle.std.specs.Prelude.{Vec, IsTrue, IsFalse}
use Rattle.std.specs.Global.{Global}
use Rattle.overlay_base.specs.Join.{join}
use Rattle.overlay_base.specs.EdgeData.{DataSegment, Hooks, without_data, data_join}
use Rattle.overlay_base.specs.SegmentOf.{segments_of, data_segments_of}
use Rattle.overlay_base.specs.steps.Early.{IsJoinedEarly}
use Rattle.overlay_base.specs.declared.segm.segment.Segment.{Segment}
use Rattle.overlay_base.proofs.laws.joins.DataJoins.{data_join_is_beside}
use Rattle.overlay_base.proofs.laws.joins.Views.{segments_of-bare}

-- two such lists with the same segments are the same
pub same_without_data : {D : Type 0} → ((a b : D) → a ≡ b) → (xs ys : List (DataSegment D)) → without_data xs ≡ without_data ys → xs ≡ ys
same_without_data one [] [] same = refl
same_without_data one [] (y ∷ ys) same = grind arith
same_without_data one (x ∷ xs) [] same = grind arith
same_without_data one (x ∷ xs) (y ∷ ys) same = grind (arith, one x.edge_data y.edge_data, same_without_data one xs ys)

module _ {C I D : Type 0} {m : _} {w : _} {o : _} {e : _} {p : _} where
  -- a list that has the join of another has the data of that join too
  pub data_of_one_value : {S : Type 0} → ((a b : D) → a ≡ b) → (hooks : Hooks D S) (store : S) (given list : List (Segment C I D m w o e p)) → segments_of list ≡ join (segments_of given) → data_segments_of list ≡ (data_join hooks (data_segments_of given) store).0
  data_of_one_value one hooks store given list same =
      same_without_data one _ _ (sym (segments_of-bare list) ∙ same ∙ ap join (segments_of-bare given) ∙ sym (data_join_is_beside hooks (data_segments_of given) store))

  -- a list that is as another, or joined early, has its join
  pub join_of_early : (joined : Bool) (given list : Vec (Segment C I D m w o e p) Global) → (IsFalse joined → list ≡ given) → (IsTrue joined → IsJoinedEarly given.items list.items) → join (segments_of list.items) ≡ join (segments_of given.items)
  join_of_early false given list unchanged early = ap (λ l. join (segments_of l.items)) (unchanged refl)
  join_of_early true given list unchanged early = (early refl).same
