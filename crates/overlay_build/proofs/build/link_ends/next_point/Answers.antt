use Rattle.std.proofs.Common.{arith}
use Rattle.overlay_build.specs.steps.EndOf.{ends_of}
use Rattle.overlay_build.proofs.laws.graphs.NodeLists.{end_point_at, length-ends, next-lesser, next-second}
use Rattle.overlay_build.proofs.laws.graphs.StartKeys.{next-of_first, none-left}
use Rattle.overlay_build.proofs.build.link_ends.next_point.Goals as goal

pub returns-then-end-ends-clause-point : goal.returns-then-end-ends-clause-point
returns-then-end-ends-clause-point c = next-of_first (ends_of c.args.ends.now) c.args.end c.args.start_key (rw length-ends c.if-end-ends.true)

pub returns-then-end-ends-clause-none : goal.returns-then-end-ends-clause-none
returns-then-end-ends-clause-none c = none-left c.args.start_key _ c.args.end c.if-end-ends.true

pub returns-in-Some-clause-point : goal.returns-in-Some-clause-point
returns-in-Some-clause-point c firsts start is =
    let there = is.found c.in-Some.first c.in-Some.is in
    rw c.min.ensures
    (next-lesser firsts (ends_of c.args.ends.now) start c.args.end _ _ there.0 there.1
    (rw length-ends c.if-end-ends.false)
    (λ d. end_point_at c.args.ends.now c.args.end (record { index = 0; key = 0 }) d c.if-end-ends.false))

pub returns-in-None-clause-point : goal.returns-in-None-clause-point
returns-in-None-clause-point c firsts start is =
    next-second firsts (ends_of c.args.ends.now) start c.args.end _ (rw length-ends c.if-end-ends.false)
    (λ d. end_point_at c.args.ends.now c.args.end (record { index = 0; key = 0 }) d c.if-end-ends.false)
    (λ d h. absurd (let over = is.over c.in-None.is in omega (arith, h, over)))
