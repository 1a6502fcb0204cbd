use Rattle.std.proofs.Common.{sym, subst, ◌∙◌}
use Rattle.overlay_base.specs.SegmentOf.{segments_of}
use Rattle.overlay_base.proofs.laws.joins.Maps.{are_ordered-map, join-map}
use Rattle.overlay_grid.specs.GridFor.{IsGridFor}
use Rattle.overlay_grid.specs.GroupsOf.{grid_in}
use Rattle.overlay_cuts.specs.Run.{after_passes}
use Rattle.overlay_cuts.proofs.laws.passes.GridRuns.{run_lies_inside}
use Rattle.overlay_cuts.proofs.laws.passes.Ready.{IsPairInRange-each, IsSortedByKey-is_map}
use Rattle.overlay_intersections.specs.MarkOf.{marks_of}
use Rattle.overlay_snapping.proofs.laws.batches.Existence.{cuts_exist}
use Rattle.overlay_snapping.proofs.laws.chains.MarkLists.{marks_for, cuts_for}
use Rattle.overlay_snapping.proofs.laws.cuts.ExactMarks.{exact_cuts}
use Rattle.overlay_snapping.proofs.snap.solver.SnapSolver.find_cuts.Goals as goal

pub new-requires : goal.new-requires
new-requires g c = IsPairInRange-each c.args.segments.now g.I.OverlayInt.MIN_COORD g.I.OverlayInt.MAX_COORD c.requires.splittable

pub find_marks-requires-clause-sorted : goal.find_marks-requires-clause-sorted
find_marks-requires-clause-sorted g c = IsSortedByKey-is_map c.args.segments.now c.requires.map

pub find_marks-requires-clause-in_range : goal.find_marks-requires-clause-in_range
find_marks-requires-clause-in_range g c = IsPairInRange-each c.args.segments.now g.I.OverlayInt.MIN_COORD g.I.OverlayInt.MAX_COORD c.requires.splittable

-- the list is its own join, and so that of a run of no passes
pub find_marks-requires-clause-inside : goal.find_marks-requires-clause-inside
unfolding after_passes
find_marks-requires-clause-inside g c =
    let segments = segments_of c.args.segments.now in
    let same = sym (join-map segments c.requires.map) in
    run_lies_inside c.args.solver.now.strategy (record { start = 0; progression = 0; cap = 0; limit = 0 }) segments segments (grid_in c.in_ok-pairs.pairs.grid) 0 (are_ordered-map segments c.requires.map)
    (subst (λ l. IsGridFor c.args.solver.now.strategy l (grid_in c.in_ok-pairs.pairs.grid)) same c.in_ok-pairs.ensures.grid) same

pub find_cuts-requires-clause-in_range : goal.find_cuts-requires-clause-in_range
find_cuts-requires-clause-in_range g c = IsPairInRange-each c.args.segments.now g.I.OverlayInt.MIN_COORD g.I.OverlayInt.MAX_COORD c.requires.splittable

-- where every crossing is a whole point the marks are the cuts
pub returns-clause-cuts : goal.returns-clause-cuts
returns-clause-cuts g c = λ listed.
    let segments = segments_of c.args.segments.now in
    let marks = marks_of g.I.OverlayInt.whole c.find_marks.new.marks.items in
    let found = c.in_ok-is_rounded.ensures in
    rw c.swap.ensures.x_after
    (exact_cuts segments marks (are_ordered-map segments c.requires.map) (sym found.rounded ∙ c.if-is_rounded.false) found.marks)

pub returns-clause-has_cuts : goal.returns-clause-has_cuts
returns-clause-has_cuts g c =
    let segments = segments_of c.args.segments.now in
    let marks = marks_of g.I.OverlayInt.whole c.find_marks.new.marks.items in
    let found = c.in_ok-is_rounded.ensures in
    let cuts = exact_cuts segments marks (are_ordered-map segments c.requires.map) (sym found.rounded ∙ c.if-is_rounded.false) found.marks in
    (cuts.decided, (marks_for segments marks 0, cuts_for segments marks cuts))

pub returns-then-is_rounded-clause-has_cuts : goal.returns-then-is_rounded-clause-has_cuts
returns-then-is_rounded-clause-has_cuts g c =
    let segments = segments_of c.args.segments.now in
    let known = c.in_ok-are_listed.ensures.known in
    (known.decided, cuts_exist segments (are_ordered-map segments c.requires.map) _ known)
