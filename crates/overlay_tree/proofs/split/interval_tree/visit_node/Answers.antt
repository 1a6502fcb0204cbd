use Rattle.std.proofs.Common.{◌≡◌, sym, ap, ◌∙◌, ◌++◌, ◌∷◌, [], ◌&&◌, false, append-nil, List, ℕ, Bool}
use Rattle.std.specs.Prelude.{int_lt}
use Rattle.overlay_tree.specs.steps.IntervalTree.{is_taken_up}
use Rattle.overlay_tree.specs.steps.NodeOf.{node_entry, query_of}
use Rattle.overlay_tree.proofs.laws.tree.IntervalTrees.{left_alone, none_found}
use Rattle.overlay_tree.proofs.split.interval_tree.visit_node.Goals as goal

pub returns-then-not-is_met_from_below-clause-entry : goal.returns-then-not-is_met_from_below-clause-entry
returns-then-not-is_met_from_below-clause-entry g c =
    sym (left_alone (query_of g.I.OverlayInt.whole c.args.query.now) (node_entry g.I.OverlayInt.whole c.args.node.now) (sym c.is_met_from_below.ensures ∙ c.if-not-is_met_from_below.true))

pub returns-then-not-is_met_from_below-clause-found : goal.returns-then-not-is_met_from_below-clause-found
returns-then-not-is_met_from_below-clause-found g c =
    let q = query_of g.I.OverlayInt.whole c.args.query.now in
    let e = node_entry g.I.OverlayInt.whole c.args.node.now in
    let off : is_taken_up q e ≡ false = sym c.is_met_from_below.ensures ∙ c.if-not-is_met_from_below.true in
    sym (append-nil c.args.indexes.now.items) ∙ ap (λ (is : List ℕ). c.args.indexes.now.items ++ is) (sym (none_found q (e ∷ []) (off, tt)))

pub returns-then-not-is_met_from_below-clause-dropped : goal.returns-then-not-is_met_from_below-clause-dropped
returns-then-not-is_met_from_below-clause-dropped g c =
    let q = query_of g.I.OverlayInt.whole c.args.query.now in
    let e = node_entry g.I.OverlayInt.whole c.args.node.now in
    let off : is_taken_up q e ≡ false = sym c.is_met_from_below.ensures ∙ c.if-not-is_met_from_below.true in
    sym (ap (λ (b : Bool). b && int_lt e.end_x q.x) off)
