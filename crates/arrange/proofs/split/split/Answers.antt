use Rattle.std.proofs.Common.{rules, ◌≡◌, ℕ, ◌++◌, List, string_bytes, refl, inl}
use Rattle.overlay_base.specs.Segments.{WholeSegment}
use Rattle.overlay_base.specs.SegmentOf.{segments_of}
use Rattle.overlay_text.specs.Output.{segment_lines, flag_line, passes_line}
use Rattle.overlay_text.proofs.Results.{if_err}
use Rattle.i_overlay.specs.SplitterOf.{passes_in, reach_in}
use Rattle.arrange.proofs.GraphAnswers.{stops_split}
use Rattle.arrange.proofs.split.split.Goals as goal

pub returns-in_err-flag-clause-stop : goal.returns-in_err-flag-clause-stop
returns-in_err-flag-clause-stop g c =
    let stops = stops_split g.I.OverlayInt.BITS c.args.settings (segments_of c.args.segments.items) c.in_err-flag.field-0.0 c.in_err-flag.ensures.refused in
    if_err _ _ _ c.from_residual.ensures.1 stops

pub returns-clause-text : goal.returns-clause-text
returns-clause-text g c =
    let result : List WholeSegment = segments_of c.split_as_chosen.new.segments.items in
    let passes : ℕ = passes_in c.split_as_chosen.new.splitter in
    let text : string_bytes c.writeln-2.new.self ≡ segment_lines result ++ flag_line c.in_ok-flag.flag ++ passes_line passes = search rules in
    inl (
      string_bytes c.writeln-2.new.self,
      (result, passes, reach_in c.split_as_chosen.new.splitter, c.in_ok-flag.flag, c.in_ok-flag.ensures.left, c.in_ok-flag.ensures.changed, text),
      refl,
    )
