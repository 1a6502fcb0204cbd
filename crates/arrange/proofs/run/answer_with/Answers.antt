use Rattle.std.proofs.Common.{◌≢◌, length, sym, ap, ◌∙◌}
use Rattle.std.proofs.lemmas.List.{length-map}
use Rattle.std.specs.Prelude.{IsErrOf}
use Rattle.overlay_base.specs.SegmentOf.{segment_of, segments_of}
use Rattle.overlay_text.specs.declared.stop.Stop.TheVariants.{NotTwoSegments}
use Rattle.overlay_text.specs.declared.settings.Command.TheVariants.{Graph, Split, Walks}
use Rattle.overlay_text.proofs.Results.{if_err}
use Rattle.arrange.proofs.Runs.{stops_at_fault, stops_at_crossing, stops_at_command}
use Rattle.arrange.proofs.run.answer_with.Goals as goal

pub returns-in_err-segments-clause-stop : goal.returns-in_err-segments-clause-stop
returns-in_err-segments-clause-stop g c =
    let stops = stops_at_fault (g.I.OverlayInt.whole g.I.OverlayInt.MIN_COORD) (g.I.OverlayInt.whole g.I.OverlayInt.MAX_COORD) g.I.OverlayInt.BITS c.args.settings c.args.bytes.now c.args.command c.in_err-segments.field-0.0 c.in_err-segments.ensures.faulty in
    if_err _ _ _ c.from_residual.ensures.1 stops

pub returns-in-Cross-clause-stop : goal.returns-in-Cross-clause-stop
returns-in-Cross-clause-stop g c =
    let given = segments_of c.in_ok-segments.segments.items in
    let other : IsErrOf c.cross.result NotTwoSegments → length given ≢ 2 = λ e two. c.cross.ensures.two.0 e (ap length c.as_slice.ensures.value ∙ (sym (length-map c.in_ok-segments.segments.items segment_of) ∙ two)) in
    rw c.in-Cross.is (stops_at_crossing (g.I.OverlayInt.whole g.I.OverlayInt.MIN_COORD) (g.I.OverlayInt.whole g.I.OverlayInt.MAX_COORD) g.I.OverlayInt.BITS c.args.settings c.args.bytes.now c.cross.result given c.in_ok-segments.ensures.segments other c.cross.ensures.refused)

pub returns-in-Split-clause-stop : goal.returns-in-Split-clause-stop
returns-in-Split-clause-stop g c =
    rw c.in-Split.is (stops_at_command (g.I.OverlayInt.whole g.I.OverlayInt.MIN_COORD) (g.I.OverlayInt.whole g.I.OverlayInt.MAX_COORD) g.I.OverlayInt.BITS c.args.settings c.args.bytes.now c.split.result Split (segments_of c.in_ok-segments.segments.items) c.in_ok-segments.ensures.segments c.split.ensures.stop)

pub returns-in-Graph-clause-stop : goal.returns-in-Graph-clause-stop
returns-in-Graph-clause-stop g c =
    rw c.in-Graph.is (stops_at_command (g.I.OverlayInt.whole g.I.OverlayInt.MIN_COORD) (g.I.OverlayInt.whole g.I.OverlayInt.MAX_COORD) g.I.OverlayInt.BITS c.args.settings c.args.bytes.now c.graph.result Graph (segments_of c.in_ok-segments.segments.items) c.in_ok-segments.ensures.segments c.graph.ensures.stop)

pub returns-in-Walks-clause-stop : goal.returns-in-Walks-clause-stop
returns-in-Walks-clause-stop g c =
    rw c.in-Walks.is (stops_at_command (g.I.OverlayInt.whole g.I.OverlayInt.MIN_COORD) (g.I.OverlayInt.whole g.I.OverlayInt.MAX_COORD) g.I.OverlayInt.BITS c.args.settings c.args.bytes.now c.walks.result Walks (segments_of c.in_ok-segments.segments.items) c.in_ok-segments.ensures.segments c.walks.ensures.stop)
