use Rattle.std.proofs.Common.{◌≡◌, ◌∙◌, sym, ap, length, get_or, arith}
use Rattle.std.proofs.lemmas.List.{get_or_default}
use Rattle.overlay_shapes.specs.declared.classes.Join.{Join}
use Rattle.overlay_shapes.proofs.laws.Forests.{written_back}
use Rattle.overlay_shapes.proofs.laws.Leaders.{no_joins, one_join, none_led, one_led}
use Rattle.overlay_shapes.proofs.classes.leaders_of.Goals as goal

abbrev none : Join
none = record { a = 0; b = 0 }

pub loop-join-init : goal.loop-join-init
loop-join-init c = no_joins c.args.count c.args.joins.now c.in_ok-parents.parents.items c.in_ok-parents.ensures.each c.in_ok-parents.ensures.own

pub join_classes-requires-clause-a : goal.join_classes-requires-clause-a
join_classes-requires-clause-a c =
    let w = c.requires.within c.loop-join.join-index none c.loop-join-test.true in
    omega (arith, w.0, c.deref_mut.ensures.len, c.loop-join.parents.ok.0, c.loop-join.invariant.many)

pub join_classes-requires-clause-b : goal.join_classes-requires-clause-b
join_classes-requires-clause-b c =
    let w = c.requires.within c.loop-join.join-index none c.loop-join-test.true in
    omega (arith, w.1, c.deref_mut.ensures.len, c.loop-join.parents.ok.0, c.loop-join.invariant.many)

pub join_classes-requires-clause-low : goal.join_classes-requires-clause-low
join_classes-requires-clause-low c = rw c.deref_mut.ensures.value c.loop-join.invariant.low

pub loop-join-preserved : goal.loop-join-preserved
loop-join-preserved c =
    let before = c.loop-join in
    let now = c.join_classes.new.parents in
    let long : length now ≡ length before.parents.items = c.join_classes.auto.parents ∙ ap length c.deref_mut.ensures.value in
    let w = c.requires.within before.join-index none c.loop-join-test.true in
    let f = rw c.deref_mut.ensures.value at c.join_classes.ensures.joined in
    rw (written_back before.parents.len now before.parents.items (before.parents.ok.0 ∙ sym long))
    (one_join c.args.count before.join-index c.args.joins.now before.parents.items now (get_or c.args.joins.now before.join-index none) before.invariant c.loop-join-test.true (get_or_default c.args.joins.now before.join-index none (get_or c.args.joins.now before.join-index none) c.loop-join-test.true) w.0 w.1 long c.join_classes.ensures.low f)

pub loop-number-init : goal.loop-number-init
loop-number-init c = none_led c.args.count c.args.joins.now c.loop-join.parents.items c.new-leaders.result.items c.loop-join.join-index c.loop-join.invariant c.loop-join-test.false c.loop-join.auto.join-index-end (ap length c.new-leaders.ensures.items)

pub loop-number-preserved : goal.loop-number-preserved
loop-number-preserved c =
    let before = c.loop-number in
    let now = c.leader_of.new.parents in
    let long : length now ≡ length before.parents.items = c.leader_of.auto.parents ∙ ap length c.deref_mut-in-loop-number.ensures.value in
    let kept = rw c.deref_mut-in-loop-number.ensures.value at c.leader_of.ensures.kept in
    let leader = rw c.deref_mut-in-loop-number.ensures.value at c.leader_of.ensures.leader in
    rw (written_back before.parents.len now before.parents.items (before.parents.ok.0 ∙ sym long), c.in_ok-push.ensures.items)
    (one_led c.args.count before.number c.args.joins.now before.parents.items now before.leaders.items c.leader_of.result before.invariant c.loop-number-test.true long c.leader_of.ensures.low kept leader)
