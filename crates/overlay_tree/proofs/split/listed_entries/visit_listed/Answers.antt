use Rattle.std.proofs.Common.{◌≡◌, sym, ap, ◌∙◌, ◌++◌, ◌∷◌, [], ◌&&◌, not, true, false, append-nil, List, ℕ}
use Rattle.std.specs.Prelude.{int_lt}
use Rattle.std.proofs.lemmas.Bool.{and_from}
use Rattle.overlay_tree.specs.steps.IntervalTree.{is_taken_up, is_found}
use Rattle.overlay_tree.specs.steps.NodeOf.{node_entry, query_of}
use Rattle.overlay_tree.proofs.laws.tree.IntervalTrees.{none_found, found_one, not_found}
use Rattle.overlay_tree.proofs.split.listed_entries.visit_listed.Goals as goal

pub returns-then-not-is_met-clause-found : goal.returns-then-not-is_met-clause-found
returns-then-not-is_met-clause-found g c =
    let q = query_of g.I.OverlayInt.whole c.args.query.now in
    let e = node_entry g.I.OverlayInt.whole c.args.node.now in
    let off : is_taken_up q e ≡ false = sym c.is_met.ensures ∙ c.if-not-is_met.true in
    sym (append-nil c.args.indexes.now.items) ∙ ap (λ (is : List ℕ). c.args.indexes.now.items ++ is) (sym (none_found q (e ∷ []) (off, tt)))

pub returns-then-has_ended-clause-found : goal.returns-then-has_ended-clause-found
returns-then-has_ended-clause-found g c =
    let q = query_of g.I.OverlayInt.whole c.args.query.now in
    let e = node_entry g.I.OverlayInt.whole c.args.node.now in
    let taken : is_taken_up q e ≡ true = sym c.is_met.ensures ∙ c.if-not-is_met.false in
    let ended : int_lt e.end_x q.x ≡ true = sym c.has_ended.ensures ∙ c.if-has_ended.true in
    let no : is_found q e ≡ false = ap (λ b. is_taken_up q e && not b) ended ∙ ap (λ b. b && false) taken in
    sym (append-nil c.args.indexes.now.items) ∙ ap (λ (is : List ℕ). c.args.indexes.now.items ++ is) (sym (not_found q e no))

pub returns-clause-found : goal.returns-clause-found
returns-clause-found g c =
    let q = query_of g.I.OverlayInt.whole c.args.query.now in
    let e = node_entry g.I.OverlayInt.whole c.args.node.now in
    let taken : is_taken_up q e ≡ true = sym c.is_met.ensures ∙ c.if-not-is_met.false in
    let stays : int_lt e.end_x q.x ≡ false = sym c.has_ended.ensures ∙ c.if-has_ended.false in
    let yes : is_found q e ≡ true = and_from (is_taken_up q e) (not (int_lt e.end_x q.x)) taken (ap not stays) in
    c.in_ok-push.ensures.items ∙ ap (λ (is : List ℕ). c.args.indexes.now.items ++ is) (sym (found_one q e yes))
