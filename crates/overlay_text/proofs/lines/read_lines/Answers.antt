use Rattle.std.proofs.Common.{◌≡◌, ◌+◌, ◌≤◌, length, arith, [], ◌∷◌, ap, sym, refl, ◌∙◌, inl, inr}
use Rattle.std.specs.Option.{option_map_or}
use Rattle.std.proofs.lemmas.List.{map-append}
use Rattle.overlay_base.specs.SegmentOf.{segment_of, segments_of}
use Rattle.overlay_base.specs.Planar.{is_splittable}
use Rattle.overlay_text.specs.Text.{lines_of, words_of_line}
use Rattle.overlay_text.proofs.Steps.{is_splittable-append}
use Rattle.overlay_text.proofs.TextSteps.{taken-blank, taken-one, first_fault, all_taken}
use Rattle.overlay_text.proofs.Parts.{lines_are_few}
use Rattle.overlay_text.proofs.lines.read_lines.Goals as goal

pub loop-index-init : goal.loop-index-init
unfolding is_splittable
loop-index-init g c = rw (c.new-segments.ensures.items, c.into_iter-index-iterator.ensures.into_iter_gives, c.enumerate-index-items.ensures.source, c.enumerate-index-items.ensures.count, c.of.ensures) (refl, ([], refl, refl, refl))

pub loop-index-init-derived : goal.loop-index-init-derived
loop-index-init-derived g c =
    let few = lines_are_few c.args.bytes.now in
    let started : length (option_map_or (λ rest. lines_of rest.now) c.into_iter-index-iterator.result.iter.rest []) ≤ length c.args.bytes.now + 1 =
    rw (c.into_iter-index-iterator.ensures.into_iter_gives, c.enumerate-index-items.ensures.source, c.of.ensures) few in
    let counted : c.into_iter-index-iterator.result.count ≡ 0 = rw c.into_iter-index-iterator.ensures.into_iter_gives c.enumerate-index-items.ensures.count in
    ((tt, tt, inl (omega (arith, started, counted))), tt)

pub loop-index-preserved : goal.loop-index-preserved
loop-index-preserved g c =
    let steps = c.in-Some.ensures.steps in
    let blank : words_of_line c.in-Some.line.now ≡ [] = rw c.in-Ok-None.field-0-is at c.in-Ok-None.ensures.blank in
    (c.loop-index.invariant.0, taken-blank _ _ _ _ _ _ _ _ c.loop-index.invariant.1 steps.0 steps.2 blank)

pub loop-index-preserved-in-Continue-1 : goal.loop-index-preserved-in-Continue-1
loop-index-preserved-in-Continue-1 g c =
    let least = g.I.OverlayInt.whole g.I.OverlayInt.MIN_COORD in
    let greatest = g.I.OverlayInt.whole g.I.OverlayInt.MAX_COORD in
    let steps = c.in-Some.ensures.steps in
    let next = rw c.in-Ok-Some.field-0-is at c.in-Ok-Some.ensures.splittable in
    let asks = rw c.in-Ok-Some.field-0-is at c.in-Ok-Some.ensures.segment in
    let both = is_splittable-append least greatest (segments_of c.loop-index.segments.items) (segment_of c.in-Ok-Some.segment ∷ []) c.loop-index.invariant.0 next in
    let taken = taken-one _ _ _ _ _ _ _ _ c.loop-index.invariant.1 steps.0 steps.2 (segment_of c.in-Ok-Some.segment) asks in
    rw (c.in_ok-push-in-Ok-Some.ensures.items, map-append) (both, taken)

pub returns-clause-segments : goal.returns-clause-segments
returns-clause-segments g c = all_taken _ _ _ _ _ c.loop-index.invariant.1 c.in-None.ensures.steps.0.0

pub returns-in-Err-clause-faulty : goal.returns-in-Err-clause-faulty
returns-in-Err-clause-faulty g c =
    let steps = c.in-Some.ensures.steps in
    let number : c.next.new.self.count ≡ c.in-Some.index + 1 = steps.2 ∙ ap (λ n. n + 1) (sym steps.1) in
    inr (rw (← number) (first_fault _ _ _ _ _ _ _ _ c.loop-index.invariant.1 steps.0 steps.2 _ c.in-Err.fault c.in-Err.ensures.faulty))
