use Rattle.overlay_base.specs.SegmentOf.{segments_of}
use Rattle.overlay_text.proofs.Results.{if_err}
use Rattle.arrange.proofs.GraphAnswers.{stops_graph}
use Rattle.arrange.proofs.graph.graph.Goals as goal

pub returns-in_err-graph-clause-stop : goal.returns-in_err-graph-clause-stop
returns-in_err-graph-clause-stop g c =
    let stops = stops_graph g.I.OverlayInt.BITS c.args.settings (segments_of c.args.segments.items) c.in_err-graph.field-0.0 c.in_err-graph.ensures.out_of_range in
    if_err _ _ _ c.from_residual.ensures.1 stops
