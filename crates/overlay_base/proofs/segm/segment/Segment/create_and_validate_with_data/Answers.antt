use Rattle.std.proofs.Common.{◌≡◌, sym, ◌∙◌, IsTrue, IsFalse}
use Rattle.std.specs.Cmp.{Some-then}
use Rattle.overlay_base.specs.EdgeData.{Hooks, data_piece}
use Rattle.overlay_base.specs.Windings.{Winding}
use Rattle.overlay_geometry.specs.Points.{Point, point_lt}
use Rattle.overlay_geometry.specs.PointOf.{point_of}
use Rattle.overlay_base.specs.HooksOf.{hooks_of}
use Rattle.overlay_geometry.proofs.laws.geometry.Points.{not_before, by_UpTo, from_before}
use Rattle.overlay_base.proofs.segm.segment.Segment.create_and_validate_with_data.Goals.{then-lt, else-lt}
use Rattle.overlay_base.proofs.segm.segment.Segment.create_and_validate_with_data.Goals as goal

-- where two points differ and the first does not come before the second, the second comes before the first
turned_lt : (p q : Point) → (p ≡ q → ⊥) → IsFalse (point_lt p q) → IsTrue (point_lt q p)
turned_lt p q d h = by_UpTo q p (not_before p q h) (from_before q p) (λ e. absurd (d (sym e)))

-- the store after a segment is made from p to q, by whether p comes before q
store-true : {D S : Type 0} (hooks : Hooks D S) (count : Winding) (p q : Point) (edge_data : D) (store : S) → IsTrue (point_lt p q) → store ≡ (data_piece hooks count p q edge_data store).1
unfolding data_piece
store-true hooks count p q edge_data store h = rw (h, data_piece)

store-false : {D S : Type 0} (hooks : Hooks D S) (count : Winding) (p q : Point) (edge_data : D) (store : S) → IsFalse (point_lt p q) → (hooks.reversed edge_data store).1 ≡ (data_piece hooks count p q edge_data store).1
unfolding data_piece
store-false hooks count p q edge_data store h = rw (h, data_piece)

pub invert-requires : goal.invert-requires
invert-requires g c =
    let less : point_lt (point_of g.I.OverlayInt.whole c.args.a) (point_of g.I.OverlayInt.whole c.args.b) ≡ c.lt.result = sym (simp (g.met.I.Ord.matches_partial_cmp, g.met.I.OverlayInt.ordered, Some-then) at c.lt.ensures) in
    c.requires.valid (turned_lt _ _ c.requires.ends (less ∙ c.if-lt.false))

pub invariant_of-result : goal.invariant_of-result
invariant_of-result g c =
    let less : point_lt (point_of g.I.OverlayInt.whole c.args.a) (point_of g.I.OverlayInt.whole c.args.b) ≡ c.lt.result = sym (simp (g.met.I.Ord.matches_partial_cmp, g.met.I.OverlayInt.ordered, Some-then) at c.lt.ensures) in
    record {
      ordered = elim c.if-lt.branch [
        | then-lt w ↦ rw w.result-is (less ∙ w.if-lt.true)
        | else-lt w ↦ rw w.result-is (turned_lt _ _ c.requires.ends (less ∙ w.if-lt.false))
      ];
    }

pub returns-clause-store : goal.returns-clause-store
returns-clause-store g c =
    let hooks = hooks_of g.C.WindingCount.counted g.D.OverlayEdgeData in
    let a = point_of g.I.OverlayInt.whole c.args.a in
    let b = point_of g.I.OverlayInt.whole c.args.b in
    let count = g.C.WindingCount.winding c.args.count in
    let less : point_lt a b ≡ c.lt.result = sym (simp (g.met.I.Ord.matches_partial_cmp, g.met.I.OverlayInt.ordered, Some-then) at c.lt.ensures) in
    elim c.if-lt.branch [
      | then-lt w ↦ rw w.store-is (store-true hooks count a b c.args.edge_data c.args.store.now (less ∙ w.if-lt.true))
      | else-lt w ↦ rw (w.store-is, w.reversed.ensures.store) (store-false hooks count a b c.args.edge_data c.args.store.now (less ∙ w.if-lt.false))
    ]
