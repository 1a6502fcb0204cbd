use Rattle.std.proofs.Common.{◌≡◌, ◌+◌, ◌≤◌, length, arith, [], ◌∷◌, ◌++◌, ap, sym, refl, ◌∙◌, inl, subst, flat_map}
use Rattle.std.specs.Option.{option_map_or}
use Rattle.overlay_text.specs.Text.{lines_of}
use Rattle.overlay_text.specs.Text.{words_of_line}
use Rattle.overlay_text.proofs.Parts.{lines_are_few}
use Rattle.overlay_text.proofs.Results.{if_err}
use Rattle.overlay_text.proofs.TextSteps.{taken-blank, taken-one}
use Rattle.polygons.specs.ContourText.{Keeps}
use Rattle.polygons.proofs.Adding.{flat_more}
use Rattle.polygons.proofs.Answering.{first_of_lines}
use Rattle.polygons.proofs.contour_lines.read_contours.Goals as goal

pub loop-index-init : goal.loop-index-init
loop-index-init g c =
    rw (c.into_iter-index-iterator.ensures.into_iter_gives, c.enumerate-index-items.ensures.source, c.enumerate-index-items.ensures.count, c.of.ensures)
    ([], ([], refl, refl, refl), (c.new-overlay.ensures.subject, c.new-overlay.ensures.clip))

pub loop-index-init-derived : goal.loop-index-init-derived
loop-index-init-derived g c =
    let few = lines_are_few c.args.bytes.now in
    let started : length (option_map_or (λ rest. lines_of rest.now) c.into_iter-index-iterator.result.iter.rest []) ≤ length c.args.bytes.now + 1 =
    rw (c.into_iter-index-iterator.ensures.into_iter_gives, c.enumerate-index-items.ensures.source, c.of.ensures) few in
    let counted : c.into_iter-index-iterator.result.count ≡ 0 = rw c.into_iter-index-iterator.ensures.into_iter_gives c.enumerate-index-items.ensures.count in
    ((tt, tt, inl (omega (arith, started, counted))), tt)

pub add_line-requires : goal.add_line-requires
add_line-requires g c = record {
  some = λ none. let e = ap (λ l. length l) (sym c.in-Some-next.ensures.steps ∙ (c.of-in-loop-index.ensures ∙ none)) in omega (arith, e);
}

pub returns-in_err-add_line-in-Some-next-clause-faulty : goal.returns-in_err-add_line-in-Some-next-clause-faulty
returns-in_err-add_line-in-Some-next-clause-faulty g c =
    let steps = c.in-Some.ensures.steps in
    let before = c.loop-index.invariant in
    let number : c.in-Some.index + 1 ≡ c.next.new.self.count = ap (λ n. n + 1) steps.1 ∙ sym steps.2 in
    if_err _ _ _ c.from_residual.ensures.1 (first_of_lines _ _ _ _ _ _ _ _ _ _ before.1 steps.0 number steps.2 _ c.in_err-add_line-in-Some-next.ensures.faulty)

pub loop-index-preserved : goal.loop-index-preserved
loop-index-preserved g c =
    let steps = c.in-Some.ensures.steps in
    let before = c.loop-index.invariant in
    let added = c.in_ok-add_line-in-Some-next.ensures.added in (
      before.0 ++ added.0 ∷ [],
      taken-one _ _ _ _ _ _ _ _ before.1 steps.0 steps.2 _ added.1,
      subst (Keeps c.add_line.new.overlay) (sym (flat_more before.0 added.0)) (added.2 (flat_map (λ cs. cs) before.0) before.2),
    )

pub loop-index-preserved-in-None-next : goal.loop-index-preserved-in-None-next
loop-index-preserved-in-None-next g c =
    let steps = c.in-Some.ensures.steps in
    let blank : words_of_line c.in-Some.line.now ≡ [] = sym c.of-in-loop-index.ensures ∙ c.in-None-next.ensures.steps.0 in
    let before = c.loop-index.invariant in
    (before.0, taken-blank _ _ _ _ _ _ _ _ before.1 steps.0 steps.2 blank, before.2)
