use Rattle.std.proofs.Common.{rules, ◌≡◌, ◌∷◌, ap, sym, ◌∙◌}
use Rattle.overlay_geometry.specs.PointOf.{point_of}
use Rattle.overlay_base.specs.SegmentOf.{segment_of}
use Rattle.overlay_text.specs.Text.{words_of, words_of_line}
use Rattle.overlay_text.proofs.Steps.{is_splittable-step}
use Rattle.overlay_text.proofs.TextSteps.{form_fault, step_is_faulty, asks_for_step}
use Rattle.overlay_text.proofs.lines.read_line.Goals as goal

pub returns-in_default-parse_line-clause-faulty : goal.returns-in_default-parse_line-clause-faulty
returns-in_default-parse_line-clause-faulty g c =
    let are : words_of_line c.args.line.now ≡ c.in-Some.letter.now ∷ words_of c.next.new.self.rest.now = sym c.of-words.ensures ∙ c.in-Some.ensures.steps in
    form_fault (g.I.OverlayInt.whole g.I.OverlayInt.MIN_COORD) (g.I.OverlayInt.whole g.I.OverlayInt.MAX_COORD) c.args.line.now c.in-Some.letter.now (words_of c.next.new.self.rest.now) are c.in_default-parse_line.ensures

pub returns-in_err-segment-clause-faulty : goal.returns-in_err-segment-clause-faulty
returns-in_err-segment-clause-faulty g c =
    let line = c.in-Some-parse_line.line in
    let are : words_of_line c.args.line.now ≡ c.in-Some.letter.now ∷ words_of c.next.new.self.rest.now = sym c.of-words.ensures ∙ c.in-Some.ensures.steps in
    let fault = step_is_faulty (g.I.OverlayInt.whole g.I.OverlayInt.MIN_COORD) (g.I.OverlayInt.whole g.I.OverlayInt.MAX_COORD) c.args.line.now c.in-Some.letter.now (words_of c.next.new.self.rest.now) are line.shape_type (point_of (λ z. z) line.a) (point_of (λ z. z) line.b) c.in-Some-parse_line.ensures c.in_err-segment.field-0.0 (sym c.in_err-segment.ensures.fault) in
    search (rules, fault)

pub returns-clause-segment : goal.returns-clause-segment
returns-clause-segment g c =
    let line = c.in-Some-parse_line.line in
    let are : words_of_line c.args.line.now ≡ c.in-Some.letter.now ∷ words_of c.next.new.self.rest.now = sym c.of-words.ensures ∙ c.in-Some.ensures.steps in
    asks_for_step (g.I.OverlayInt.whole g.I.OverlayInt.MIN_COORD) (g.I.OverlayInt.whole g.I.OverlayInt.MAX_COORD) c.args.line.now c.in-Some.letter.now (words_of c.next.new.self.rest.now) are line.shape_type (point_of (λ z. z) line.a) (point_of (λ z. z) line.b) c.in-Some-parse_line.ensures (segment_of c.in_ok-segment.field-0) (sym c.in_ok-segment.ensures.fault) c.in_ok-segment.ensures.segment

pub returns-clause-splittable : goal.returns-clause-splittable
returns-clause-splittable g c =
    let line = c.in-Some-parse_line.line in
    let step = is_splittable-step (g.I.OverlayInt.whole g.I.OverlayInt.MIN_COORD) (g.I.OverlayInt.whole g.I.OverlayInt.MAX_COORD) line.shape_type (point_of (λ z. z) line.a) (point_of (λ z. z) line.b) (sym c.in_ok-segment.ensures.fault) in
    rw c.in_ok-segment.ensures.segment step
