use Rattle.std.proofs.lemmas.Result.{on_ok_weaker}
use Rattle.i_overlay.proofs.laws.SplitData.{with_first_store}
use Rattle.i_overlay.specs.SplitterOf.{course_over}
use Rattle.i_overlay.proofs.splitter.Splitter.split_segments.Goals as goal

pub returns-clause-split : goal.returns-clause-split
returns-clause-split g c =
    let made = c.split_segments_with_store in
    on_ok_weaker made.result
    (with_first_store g.D.OverlayEdgeData g.D.Store.Default.is_default (course_over c.args.solver.now c.args.self.now made.new.self c.args.list.now) c.args.list.now made.new.list c.default-store.result c.default-store.ensures)
    made.ensures.split
