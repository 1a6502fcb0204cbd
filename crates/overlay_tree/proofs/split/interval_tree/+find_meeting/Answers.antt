use Rattle.std.proofs.Common.{Bool, ℕ, List, ◌||◌, ◌≡◌, ◌+◌, ◌*◌, ◌-◌, ◌/◌, ◌^◌, refl, sym, ap, ◌∙◌, [], ◌++◌, ◌∷◌, ◌<◌, ◌≤◌, length, length-append, append-nil, arith}
use Rattle.std.specs.Prelude.{min, true}
use Rattle.std.proofs.lemmas.Result.{IfOk-from_err, on_ok_weaker}
use Rattle.overlay_tree.specs.steps.NodeOf.{node_entry, highest_of, tree_nodes, query_of}
use Rattle.overlay_tree.specs.steps.IntervalTree.{left_by, entries, greatest_height, is_reached}
use Rattle.overlay_tree.proofs.laws.tree.IntervalTrees.{none_reached, none_dropped, none_found, none_is_dropped}
use Rattle.overlay_tree.proofs.laws.tree.TreeCuts.{IsCut-from, mapped, summed_again, IsDone, IsDone-above, IsDone-both, found_all, looked_all, dropped_all, still_greatest, length-entries}
use Rattle.overlay_tree.proofs.laws.tree.Looks.{looked_none, looked_among}
use Rattle.overlay_tree.proofs.split.interval_tree.+find_meeting.Goals as goal
use Rattle.overlay_tree.proofs.split.interval_tree.+find_meeting.Goals.{find_in_subtree-then-not-is_above+in_ok-has_dropped-2+in_ok-has_dropped-3, find_in_subtree-else-not-is_above}

half_within : (n : ℕ) → n / 2 ≤ n
half_within n = omega arith

-- a tree cut at its middle, with nothing from there on
no_nodes : {X : Type 0} (nodes l rest : List X) → nodes ≡ l ++ rest → length l ≡ length nodes / 2 → length rest ≡ 0 → nodes ≡ []
no_nodes [] l rest e mid none = refl
no_nodes (x ∷ nodes) l rest e mid none =
    let long = length-append l rest in
    let whole = ap length e in
    absurd (omega arith)

pub find_in_subtree-find_meeting-requires : goal.find_in_subtree-find_meeting-requires
find_in_subtree-find_meeting-requires g t c κs within =
    let cut = IsCut-from g.I.OverlayInt.whole c.args.nodes.now c.split_at_mut-left.result.0.now c.split_at_mut-left.result.1.now c.in-Some.root.now c.in-Some.right.now c.split_at_mut-left.ensures.value c.in-Some.ensures.cases.0 c.split_at_mut-left.ensures.front_len c.requires.rising c.requires.summed in
    let less : 2 * length c.split_at_mut-left.result.0.now + 1 < t = omega (arith, cut.left_less) in
    (less, (within, (cut.parted.left_rising, cut.rooted.left_summed)))

pub find_in_subtree-visit_node-requires : goal.find_in_subtree-visit_node-requires
find_in_subtree-visit_node-requires g t c = record { low = sym c.is_above.ensures ∙ c.if-not-is_above.true }

pub find_in_subtree-find_meeting-requires-then-not-is_above : goal.find_in_subtree-find_meeting-requires-then-not-is_above
find_in_subtree-find_meeting-requires-then-not-is_above g t c κs within =
    let cut = IsCut-from g.I.OverlayInt.whole c.args.nodes.now c.split_at_mut-left.result.0.now c.split_at_mut-left.result.1.now c.in-Some.root.now c.in-Some.right.now c.split_at_mut-left.ensures.value c.in-Some.ensures.cases.0 c.split_at_mut-left.ensures.front_len c.requires.rising c.requires.summed in
    let less : 2 * length c.in-Some.right.now + 1 < t = omega (arith, cut.right_less) in
    (less, (within, (cut.parted.right_rising, cut.rooted.right_summed)))

pub find_in_subtree-update_greatest-requires-clause-right : goal.find_in_subtree-update_greatest-requires-clause-right
find_in_subtree-update_greatest-requires-clause-right g t c =
    let cut = IsCut-from g.I.OverlayInt.whole c.args.nodes.now c.split_at_mut-left.result.0.now c.split_at_mut-left.result.1.now c.in-Some.root.now c.in-Some.right.now c.split_at_mut-left.ensures.value c.in-Some.ensures.cases.0 c.split_at_mut-left.ensures.front_len c.requires.rising c.requires.summed in
    elim c.if-not-is_above.branch [
      | find_in_subtree-then-not-is_above+in_ok-has_dropped-2+in_ok-has_dropped-3 w ↦ rw w.right-is w.in_ok-has_dropped-3.ensures.summed
      | find_in_subtree-else-not-is_above w ↦ rw w.right-is cut.rooted.right_summed
    ]

pub find_in_subtree-returns-then-has_dropped : goal.find_in_subtree-returns-then-has_dropped
find_in_subtree-returns-then-has_dropped g t c =
    let whole = g.I.OverlayInt.whole in
    let q = query_of whole c.args.query.now in
    let nodes = c.args.nodes.now in
    let l = c.split_at_mut-left.result.0.now in
    let r = c.in-Some.root.now in
    let s = c.in-Some.right.now in
    let cut = IsCut-from whole nodes l c.split_at_mut-left.result.1.now r s c.split_at_mut-left.ensures.value c.in-Some.ensures.cases.0 c.split_at_mut-left.ensures.front_len c.requires.rising c.requires.summed in
    let done : IsDone whole q r s c.if-not-is_above.root c.if-not-is_above.right c.find_meeting.new.indexes.items c.if-not-is_above.indexes.items c.find_meeting.new.looked c.if-not-is_above.looked c.in_ok-has_dropped.has_dropped c.if-not-is_above.has_dropped = elim c.if-not-is_above.branch [
      | find_in_subtree-then-not-is_above+in_ok-has_dropped-2+in_ok-has_dropped-3 w ↦
          rw (w.root-is, w.right-is, w.indexes-is, w.looked-is)
          (IsDone-both whole q r s w.visit_node.new.node w.find_meeting-then-not-is_above.new.nodes c.find_meeting.new.indexes.items w.visit_node.new.indexes.items w.find_meeting-then-not-is_above.new.indexes.items c.find_meeting.new.looked w.visit_node.new.looked w.find_meeting-then-not-is_above.new.looked
          c.in_ok-has_dropped.has_dropped w.in_ok-has_dropped-2.field-0 c.if-not-is_above.has_dropped
          w.in_ok-has_dropped-2.ensures.entry w.in_ok-has_dropped-2.ensures.greatest w.in_ok-has_dropped-3.ensures.entries w.in_ok-has_dropped-3.ensures.summed w.in_ok-has_dropped-2.ensures.found w.in_ok-has_dropped-3.ensures.found w.in_ok-has_dropped-2.ensures.looked w.in_ok-has_dropped-3.ensures.looked (sym c.is_above.ensures ∙ w.if-not-is_above.true)
          w.in_ok-has_dropped-2.ensures.dropped (w.has_dropped-is ∙ ap (λ (b : Bool). (c.in_ok-has_dropped.has_dropped || w.in_ok-has_dropped-2.field-0) || b) w.in_ok-has_dropped-3.ensures.dropped))
      | find_in_subtree-else-not-is_above w ↦
          rw (w.root-is, w.right-is, w.indexes-is, w.looked-is, w.has_dropped-is) (IsDone-above whole q nodes l r s c.find_meeting.new.indexes.items c.find_meeting.new.looked c.in_ok-has_dropped.has_dropped cut (sym c.is_above.ensures ∙ w.if-not-is_above.false) (let is = c.in_ok-has_dropped.ensures.looked.is in omega (arith, is)))
    ] in
    let own = c.in_ok-has_dropped.ensures in
    let root_left = c.update_greatest.ensures.entry ∙ done.root_left in
    let again : highest_of whole c.update_greatest.new.root.greatest ≡ greatest_height (entries (tree_nodes whole c.find_meeting.new.nodes) ++ node_entry whole c.update_greatest.new.root ∷ entries (tree_nodes whole c.if-not-is_above.right)) =
    rw c.update_greatest.ensures.entry c.update_greatest.ensures.greatest in
    record {
      entries = mapped whole (left_by q) nodes l s c.find_meeting.new.nodes c.if-not-is_above.right r c.update_greatest.new.root cut own.entries root_left done.right_left;
      summed = summed_again whole (left_by q) nodes l s c.find_meeting.new.nodes c.if-not-is_above.right r c.update_greatest.new.root cut own.entries done.right_left own.summed done.summed again;
      found = found_all whole q nodes l r s c.if-not-is_above.root c.if-not-is_above.right c.args.indexes.now.items c.find_meeting.new.indexes.items c.if-not-is_above.indexes.items c.find_meeting.new.looked c.if-not-is_above.looked _ _ cut own.found done;
      looked = looked_all whole q nodes l r s c.if-not-is_above.root c.if-not-is_above.right c.find_meeting.new.indexes.items c.if-not-is_above.indexes.items c.args.looked.now c.find_meeting.new.looked c.if-not-is_above.looked _ _ cut own.looked done;
      dropped = dropped_all whole q nodes l r s c.if-not-is_above.root c.if-not-is_above.right c.find_meeting.new.indexes.items c.if-not-is_above.indexes.items c.find_meeting.new.looked c.if-not-is_above.looked _ _ cut own.dropped done;
    }

pub find_in_subtree-returns-else-has_dropped : goal.find_in_subtree-returns-else-has_dropped
find_in_subtree-returns-else-has_dropped g t c =
    let whole = g.I.OverlayInt.whole in
    let q = query_of whole c.args.query.now in
    let nodes = c.args.nodes.now in
    let l = c.split_at_mut-left.result.0.now in
    let r = c.in-Some.root.now in
    let s = c.in-Some.right.now in
    let cut = IsCut-from whole nodes l c.split_at_mut-left.result.1.now r s c.split_at_mut-left.ensures.value c.in-Some.ensures.cases.0 c.split_at_mut-left.ensures.front_len c.requires.rising c.requires.summed in
    let done : IsDone whole q r s c.if-not-is_above.root c.if-not-is_above.right c.find_meeting.new.indexes.items c.if-not-is_above.indexes.items c.find_meeting.new.looked c.if-not-is_above.looked c.in_ok-has_dropped.has_dropped c.if-not-is_above.has_dropped = elim c.if-not-is_above.branch [
      | find_in_subtree-then-not-is_above+in_ok-has_dropped-2+in_ok-has_dropped-3 w ↦
          rw (w.root-is, w.right-is, w.indexes-is, w.looked-is)
          (IsDone-both whole q r s w.visit_node.new.node w.find_meeting-then-not-is_above.new.nodes c.find_meeting.new.indexes.items w.visit_node.new.indexes.items w.find_meeting-then-not-is_above.new.indexes.items c.find_meeting.new.looked w.visit_node.new.looked w.find_meeting-then-not-is_above.new.looked
          c.in_ok-has_dropped.has_dropped w.in_ok-has_dropped-2.field-0 c.if-not-is_above.has_dropped
          w.in_ok-has_dropped-2.ensures.entry w.in_ok-has_dropped-2.ensures.greatest w.in_ok-has_dropped-3.ensures.entries w.in_ok-has_dropped-3.ensures.summed w.in_ok-has_dropped-2.ensures.found w.in_ok-has_dropped-3.ensures.found w.in_ok-has_dropped-2.ensures.looked w.in_ok-has_dropped-3.ensures.looked (sym c.is_above.ensures ∙ w.if-not-is_above.true)
          w.in_ok-has_dropped-2.ensures.dropped (w.has_dropped-is ∙ ap (λ (b : Bool). (c.in_ok-has_dropped.has_dropped || w.in_ok-has_dropped-2.field-0) || b) w.in_ok-has_dropped-3.ensures.dropped))
      | find_in_subtree-else-not-is_above w ↦
          rw (w.root-is, w.right-is, w.indexes-is, w.looked-is, w.has_dropped-is) (IsDone-above whole q nodes l r s c.find_meeting.new.indexes.items c.find_meeting.new.looked c.in_ok-has_dropped.has_dropped cut (sym c.is_above.ensures ∙ w.if-not-is_above.false) (let is = c.in_ok-has_dropped.ensures.looked.is in omega (arith, is)))
    ] in
    let own = c.in_ok-has_dropped.ensures in
    let all = dropped_all whole q nodes l r s c.if-not-is_above.root c.if-not-is_above.right c.find_meeting.new.indexes.items c.if-not-is_above.indexes.items c.find_meeting.new.looked c.if-not-is_above.looked _ _ cut own.dropped done in
    let left = mapped whole (left_by q) nodes l s c.find_meeting.new.nodes c.if-not-is_above.right r c.if-not-is_above.root cut own.entries done.root_left done.right_left in
    let again = still_greatest whole q nodes l r s c.find_meeting.new.nodes c.if-not-is_above.root c.if-not-is_above.right cut done.root_greatest left (sym all ∙ c.if-has_dropped.false) in
    record {
      entries = left;
      summed = summed_again whole (left_by q) nodes l s c.find_meeting.new.nodes c.if-not-is_above.right r c.if-not-is_above.root cut own.entries done.right_left own.summed done.summed again;
      found = found_all whole q nodes l r s c.if-not-is_above.root c.if-not-is_above.right c.args.indexes.now.items c.find_meeting.new.indexes.items c.if-not-is_above.indexes.items c.find_meeting.new.looked c.if-not-is_above.looked _ _ cut own.found done;
      looked = looked_all whole q nodes l r s c.if-not-is_above.root c.if-not-is_above.right c.find_meeting.new.indexes.items c.if-not-is_above.indexes.items c.args.looked.now c.find_meeting.new.looked c.if-not-is_above.looked _ _ cut own.looked done;
      dropped = all;
    }

pub find_meeting-returns-then-not-reaches-clause-entries : goal.find_meeting-returns-then-not-reaches-clause-entries
find_meeting-returns-then-not-reaches-clause-entries g t c =
    let whole = g.I.OverlayInt.whole in
    let q = query_of whole c.args.query.now in
    let es = entries (tree_nodes whole c.args.nodes.now) in
    let off = none_reached q es (ap (λ h. is_reached h q.low) (sym c.greatest_in.ensures) ∙ sym c.reaches.ensures ∙ c.if-not-reaches.true) in
    sym (none_dropped q es off)

pub find_meeting-returns-then-not-reaches-clause-found : goal.find_meeting-returns-then-not-reaches-clause-found
find_meeting-returns-then-not-reaches-clause-found g t c =
    let whole = g.I.OverlayInt.whole in
    let q = query_of whole c.args.query.now in
    let es = entries (tree_nodes whole c.args.nodes.now) in
    let off = none_reached q es (ap (λ h. is_reached h q.low) (sym c.greatest_in.ensures) ∙ sym c.reaches.ensures ∙ c.if-not-reaches.true) in
    sym (append-nil c.args.indexes.now.items) ∙ ap (λ ns. c.args.indexes.now.items ++ ns) (sym (none_found q es off))

pub find_meeting-returns-then-not-reaches-clause-looked : goal.find_meeting-returns-then-not-reaches-clause-looked
find_meeting-returns-then-not-reaches-clause-looked g t c =
    let whole = g.I.OverlayInt.whole in
    let q = query_of whole c.args.query.now in
    let es = entries (tree_nodes whole c.args.nodes.now) in
    let off = none_reached q es (ap (λ h. is_reached h q.low) (sym c.greatest_in.ensures) ∙ sym c.reaches.ensures ∙ c.if-not-reaches.true) in
    looked_none q es c.args.looked.now (omega arith) off

pub find_meeting-returns-then-not-reaches-clause-dropped : goal.find_meeting-returns-then-not-reaches-clause-dropped
find_meeting-returns-then-not-reaches-clause-dropped g t c =
    let whole = g.I.OverlayInt.whole in
    let q = query_of whole c.args.query.now in
    let es = entries (tree_nodes whole c.args.nodes.now) in
    let off = none_reached q es (ap (λ h. is_reached h q.low) (sym c.greatest_in.ensures) ∙ sym c.reaches.ensures ∙ c.if-not-reaches.true) in
    sym (none_is_dropped q es off)

pub find_in_subtree-split_at_mut-left-requires : goal.find_in_subtree-split_at_mut-left-requires
find_in_subtree-split_at_mut-left-requires g t c = half_within _

pub find_in_subtree-returns-in_err-has_dropped-clause-entries : goal.find_in_subtree-returns-in_err-has_dropped-clause-entries
find_in_subtree-returns-in_err-has_dropped-clause-entries g t c = IfOk-from_err c.from_residual.result _ c.from_residual.ensures.0

pub find_in_subtree-returns-in_err-has_dropped-clause-summed : goal.find_in_subtree-returns-in_err-has_dropped-clause-summed
find_in_subtree-returns-in_err-has_dropped-clause-summed g t c = IfOk-from_err c.from_residual.result _ c.from_residual.ensures.0

pub find_in_subtree-returns-in_err-has_dropped-clause-found : goal.find_in_subtree-returns-in_err-has_dropped-clause-found
find_in_subtree-returns-in_err-has_dropped-clause-found g t c = IfOk-from_err c.from_residual.result _ c.from_residual.ensures.0

pub find_in_subtree-returns-in_err-has_dropped-clause-looked : goal.find_in_subtree-returns-in_err-has_dropped-clause-looked
find_in_subtree-returns-in_err-has_dropped-clause-looked g t c = IfOk-from_err c.from_residual.result _ c.from_residual.ensures.0

pub find_in_subtree-returns-in_err-has_dropped-clause-dropped : goal.find_in_subtree-returns-in_err-has_dropped-clause-dropped
find_in_subtree-returns-in_err-has_dropped-clause-dropped g t c = IfOk-from_err c.from_residual.result _ c.from_residual.ensures.0

pub find_in_subtree-returns-in_err-has_dropped-2-clause-entries : goal.find_in_subtree-returns-in_err-has_dropped-2-clause-entries
find_in_subtree-returns-in_err-has_dropped-2-clause-entries g t c = IfOk-from_err c.from_residual-in_err-has_dropped-2.result _ c.from_residual-in_err-has_dropped-2.ensures.0

pub find_in_subtree-returns-in_err-has_dropped-2-clause-summed : goal.find_in_subtree-returns-in_err-has_dropped-2-clause-summed
find_in_subtree-returns-in_err-has_dropped-2-clause-summed g t c = IfOk-from_err c.from_residual-in_err-has_dropped-2.result _ c.from_residual-in_err-has_dropped-2.ensures.0

pub find_in_subtree-returns-in_err-has_dropped-2-clause-found : goal.find_in_subtree-returns-in_err-has_dropped-2-clause-found
find_in_subtree-returns-in_err-has_dropped-2-clause-found g t c = IfOk-from_err c.from_residual-in_err-has_dropped-2.result _ c.from_residual-in_err-has_dropped-2.ensures.0

pub find_in_subtree-returns-in_err-has_dropped-2-clause-looked : goal.find_in_subtree-returns-in_err-has_dropped-2-clause-looked
find_in_subtree-returns-in_err-has_dropped-2-clause-looked g t c = IfOk-from_err c.from_residual-in_err-has_dropped-2.result _ c.from_residual-in_err-has_dropped-2.ensures.0

pub find_in_subtree-returns-in_err-has_dropped-2-clause-dropped : goal.find_in_subtree-returns-in_err-has_dropped-2-clause-dropped
find_in_subtree-returns-in_err-has_dropped-2-clause-dropped g t c = IfOk-from_err c.from_residual-in_err-has_dropped-2.result _ c.from_residual-in_err-has_dropped-2.ensures.0

pub find_in_subtree-returns-in_err-has_dropped-3-clause-entries : goal.find_in_subtree-returns-in_err-has_dropped-3-clause-entries
find_in_subtree-returns-in_err-has_dropped-3-clause-entries g t c = IfOk-from_err c.from_residual-in_err-has_dropped-3.result _ c.from_residual-in_err-has_dropped-3.ensures.0

pub find_in_subtree-returns-in_err-has_dropped-3-clause-summed : goal.find_in_subtree-returns-in_err-has_dropped-3-clause-summed
find_in_subtree-returns-in_err-has_dropped-3-clause-summed g t c = IfOk-from_err c.from_residual-in_err-has_dropped-3.result _ c.from_residual-in_err-has_dropped-3.ensures.0

pub find_in_subtree-returns-in_err-has_dropped-3-clause-found : goal.find_in_subtree-returns-in_err-has_dropped-3-clause-found
find_in_subtree-returns-in_err-has_dropped-3-clause-found g t c = IfOk-from_err c.from_residual-in_err-has_dropped-3.result _ c.from_residual-in_err-has_dropped-3.ensures.0

pub find_in_subtree-returns-in_err-has_dropped-3-clause-looked : goal.find_in_subtree-returns-in_err-has_dropped-3-clause-looked
find_in_subtree-returns-in_err-has_dropped-3-clause-looked g t c = IfOk-from_err c.from_residual-in_err-has_dropped-3.result _ c.from_residual-in_err-has_dropped-3.ensures.0

pub find_in_subtree-returns-in_err-has_dropped-3-clause-dropped : goal.find_in_subtree-returns-in_err-has_dropped-3-clause-dropped
find_in_subtree-returns-in_err-has_dropped-3-clause-dropped g t c = IfOk-from_err c.from_residual-in_err-has_dropped-3.result _ c.from_residual-in_err-has_dropped-3.ensures.0

pub find_in_subtree-is_above-requires : goal.find_in_subtree-is_above-requires
find_in_subtree-is_above-requires g t c κs = λ within. within

pub find_in_subtree-update_greatest-requires-clause-left : goal.find_in_subtree-update_greatest-requires-clause-left
find_in_subtree-update_greatest-requires-clause-left g t c = c.in_ok-has_dropped.ensures.summed

pub find_meeting-greatest_in-requires : goal.find_meeting-greatest_in-requires
find_meeting-greatest_in-requires g t c = c.requires.summed

pub find_meeting-reaches-requires : goal.find_meeting-reaches-requires
find_meeting-reaches-requires g t c κs = λ within. within

pub find_meeting-find_in_subtree-requires : goal.find_meeting-find_in_subtree-requires
find_meeting-find_in_subtree-requires g t c κs within =
    let less : 2 * length c.args.nodes.now < t = omega (arith, c.decreases) in
    (less, (within, (c.requires.rising, c.requires.summed)))

pub find_meeting-returns-then-not-reaches-clause-summed : goal.find_meeting-returns-then-not-reaches-clause-summed
find_meeting-returns-then-not-reaches-clause-summed g t c = c.requires.summed

pub find_in_subtree-returns-in_default-clause-entries : goal.find_in_subtree-returns-in_default-clause-entries
find_in_subtree-returns-in_default-clause-entries g t c =
    let none = no_nodes c.args.nodes.now c.split_at_mut-left.result.0.now c.split_at_mut-left.result.1.now c.split_at_mut-left.ensures.value c.split_at_mut-left.ensures.front_len c.in_default.ensures.cases in
    rw (← c.split_at_mut-left.ensures.value, none)

pub find_in_subtree-returns-in_default-clause-summed : goal.find_in_subtree-returns-in_default-clause-summed
find_in_subtree-returns-in_default-clause-summed g t c = rw (← c.split_at_mut-left.ensures.value) c.requires.summed

pub find_in_subtree-returns-in_default-clause-found : goal.find_in_subtree-returns-in_default-clause-found
find_in_subtree-returns-in_default-clause-found g t c =
    let none = no_nodes c.args.nodes.now c.split_at_mut-left.result.0.now c.split_at_mut-left.result.1.now c.split_at_mut-left.ensures.value c.split_at_mut-left.ensures.front_len c.in_default.ensures.cases in
    rw none (sym (append-nil c.args.indexes.now.items))

pub find_in_subtree-returns-in_default-clause-looked : goal.find_in_subtree-returns-in_default-clause-looked
find_in_subtree-returns-in_default-clause-looked g t c =
    let none = no_nodes c.args.nodes.now c.split_at_mut-left.result.0.now c.split_at_mut-left.result.1.now c.split_at_mut-left.ensures.value c.split_at_mut-left.ensures.front_len c.in_default.ensures.cases in
    rw none (looked_none (query_of g.I.OverlayInt.whole c.args.query.now) [] c.args.looked.now (omega arith) tt)

pub find_in_subtree-returns-in_default-clause-dropped : goal.find_in_subtree-returns-in_default-clause-dropped
find_in_subtree-returns-in_default-clause-dropped g t c =
    let none = no_nodes c.args.nodes.now c.split_at_mut-left.result.0.now c.split_at_mut-left.result.1.now c.split_at_mut-left.ensures.value c.split_at_mut-left.ensures.front_len c.in_default.ensures.cases in
    rw none

pub find_meeting-returns-then-nodes-le-MAX_SCANNED_NODES-clause-looked : goal.find_meeting-returns-then-nodes-le-MAX_SCANNED_NODES-clause-looked
find_meeting-returns-then-nodes-le-MAX_SCANNED_NODES-clause-looked g t c =
    let whole = g.I.OverlayInt.whole in
    let q = query_of whole c.args.query.now in
    let es = entries (tree_nodes whole c.args.nodes.now) in
    let reached : is_reached (greatest_height es) q.low ≡ true = ap (λ h. is_reached h q.low) (sym c.greatest_in.ensures) ∙ sym c.reaches.ensures ∙ c.if-not-reaches.false in
    let long = length-entries whole c.args.nodes.now in
    on_ok_weaker c.find_in_few_nodes.result
    (λ h. looked_among q es c.args.looked.now c.find_in_few_nodes.new.looked (omega (arith, long, c.if-nodes-le-MAX_SCANNED_NODES.true)) reached (h ∙ ap (λ (n : ℕ). min (c.args.looked.now + n) (2 ^ 128 - 1)) (sym long)))
    c.find_in_few_nodes.ensures.looked
