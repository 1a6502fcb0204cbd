use Rattle.std.proofs.Common.{◌≤◌, ap, get_or, ◌∙◌, length, arith}
use Rattle.overlay_tree.specs.steps.NodeOf.{query_of}
use Rattle.overlay_tree.proofs.laws.tree.FewNodes.{passes, passed_entries, passed_found, passed_dropped}
use Rattle.overlay_tree.proofs.split.interval_tree.find_in_few_nodes.Goals as goal

pub loop-place-preserved : goal.loop-place-preserved
loop-place-preserved g c =
    passes g.I.OverlayInt.whole (query_of g.I.OverlayInt.whole c.args.query.now) c.args.nodes.now c.loop-place.nodes c.loop-place.place c.args.indexes.now.items c.loop-place.indexes.items c.loop-place.has_dropped c.loop-place.invariant c.loop-place-test.true
    c.visit_any_node.new.indexes.items c.in_ok-has_dropped.field-0 (get_or c.loop-place.nodes c.loop-place.place c.index-nodes-place.result) c.visit_any_node.new.node (ap (get_or c.loop-place.nodes c.loop-place.place) c.index-nodes-place.is) c.in_ok-has_dropped.ensures.entry c.in_ok-has_dropped.ensures.greatest c.in_ok-has_dropped.ensures.found c.in_ok-has_dropped.ensures.dropped

pub returns-then-has_dropped-clause-entries : goal.returns-then-has_dropped-clause-entries
returns-then-has_dropped-clause-entries g c =
    let last = c.loop-place.auto.place-end in
    let test = c.loop-place-test.false in
    let past : length c.args.nodes.now ≤ c.loop-place.place = omega (arith, test) in
    c.sum_up.ensures.entries ∙ passed_entries g.I.OverlayInt.whole (query_of g.I.OverlayInt.whole c.args.query.now) c.args.nodes.now c.loop-place.nodes c.loop-place.place c.args.indexes.now.items c.loop-place.indexes.items c.loop-place.has_dropped c.loop-place.invariant past

pub returns-then-has_dropped-clause-found : goal.returns-then-has_dropped-clause-found
returns-then-has_dropped-clause-found g c =
    let last = c.loop-place.auto.place-end in
    let test = c.loop-place-test.false in
    let past : length c.args.nodes.now ≤ c.loop-place.place = omega (arith, test) in
    passed_found g.I.OverlayInt.whole (query_of g.I.OverlayInt.whole c.args.query.now) c.args.nodes.now c.loop-place.nodes c.loop-place.place c.args.indexes.now.items c.loop-place.indexes.items c.loop-place.has_dropped c.loop-place.invariant past

pub returns-then-has_dropped-clause-dropped : goal.returns-then-has_dropped-clause-dropped
returns-then-has_dropped-clause-dropped g c =
    let last = c.loop-place.auto.place-end in
    let test = c.loop-place-test.false in
    let past : length c.args.nodes.now ≤ c.loop-place.place = omega (arith, test) in
    passed_dropped g.I.OverlayInt.whole (query_of g.I.OverlayInt.whole c.args.query.now) c.args.nodes.now c.loop-place.nodes c.loop-place.place c.args.indexes.now.items c.loop-place.indexes.items c.loop-place.has_dropped c.loop-place.invariant past

pub returns-else-has_dropped-clause-entries : goal.returns-else-has_dropped-clause-entries
returns-else-has_dropped-clause-entries g c =
    let last = c.loop-place.auto.place-end in
    let test = c.loop-place-test.false in
    let past : length c.args.nodes.now ≤ c.loop-place.place = omega (arith, test) in
    passed_entries g.I.OverlayInt.whole (query_of g.I.OverlayInt.whole c.args.query.now) c.args.nodes.now c.loop-place.nodes c.loop-place.place c.args.indexes.now.items c.loop-place.indexes.items c.loop-place.has_dropped c.loop-place.invariant past

pub returns-else-has_dropped-clause-found : goal.returns-else-has_dropped-clause-found
returns-else-has_dropped-clause-found g c =
    let last = c.loop-place.auto.place-end in
    let test = c.loop-place-test.false in
    let past : length c.args.nodes.now ≤ c.loop-place.place = omega (arith, test) in
    passed_found g.I.OverlayInt.whole (query_of g.I.OverlayInt.whole c.args.query.now) c.args.nodes.now c.loop-place.nodes c.loop-place.place c.args.indexes.now.items c.loop-place.indexes.items c.loop-place.has_dropped c.loop-place.invariant past

pub returns-else-has_dropped-clause-dropped : goal.returns-else-has_dropped-clause-dropped
returns-else-has_dropped-clause-dropped g c =
    let last = c.loop-place.auto.place-end in
    let test = c.loop-place-test.false in
    let past : length c.args.nodes.now ≤ c.loop-place.place = omega (arith, test) in
    passed_dropped g.I.OverlayInt.whole (query_of g.I.OverlayInt.whole c.args.query.now) c.args.nodes.now c.loop-place.nodes c.loop-place.place c.args.indexes.now.items c.loop-place.indexes.items c.loop-place.has_dropped c.loop-place.invariant past

pub returns-then-has_dropped-clause-looked : goal.returns-then-has_dropped-clause-looked
returns-then-has_dropped-clause-looked g c = omega arith

pub returns-else-has_dropped-clause-looked : goal.returns-else-has_dropped-clause-looked
returns-else-has_dropped-clause-looked g c = omega arith
