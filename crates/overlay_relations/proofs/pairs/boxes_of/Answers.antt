use Rattle.std.proofs.Common.{◌≡◌, ◌∙◌, ◌↔◌, ◌+◌, List, sym, ap, subst, length, arith}
use Rattle.std.specs.Prelude.{Contains}
use Rattle.std.proofs.lemmas.List.{get_or_default}
use Rattle.overlay_relations.specs.Pairs.{IsBoxOfSome}
use Rattle.overlay_relations.specs.declared.columns.NumberedBox.{NumberedBox}
use Rattle.overlay_relations.specs.declared.region.Region.{Region}
use Rattle.overlay_relations.proofs.laws.Partners.{with_box, without_box}
use Rattle.overlay_relations.proofs.pairs.boxes_of.Goals as goal
use Rattle.overlay_relations.proofs.pairs.boxes_of.Goals.{in-Some+in_ok-push, in_default}

pub loop-number-preserved : goal.loop-number-preserved
loop-number-preserved g c b =
    let regions = c.args.regions.now in
    let n = c.loop-number.number in
    let region = c.index-regions-number.result in
    elim c.match-bounds.branch [
      | in-Some+in_ok-push w ↦
          let is = λ (x : Region _ _ _ _ _). ap (λ (r : Region _ _ _ _ _). r.bounds) (get_or_default regions n x region c.loop-number-test.true ∙ sym c.index-regions-number.is) ∙ sym c.bounds.ensures ∙ w.in-Some.is in
          subst (λ (l : List (NumberedBox _)). Contains l b ↔ IsBoxOfSome (n + 1) regions b) (sym (ap (λ v. v.items) w.boxes-is ∙ w.in_ok-push.ensures.items))
          (with_box regions n c.loop-number.boxes.items c.loop-number.invariant w.in-Some.bounds is region b)
      | in_default w ↦
          let none = ap (λ (r : Region _ _ _ _ _). r.bounds) (sym c.index-regions-number.is) ∙ sym c.bounds.ensures ∙ w.in_default.is in
          subst (λ (l : List (NumberedBox _)). Contains l b ↔ IsBoxOfSome (n + 1) regions b) (sym (ap (λ v. v.items) w.boxes-is))
          (without_box regions n c.loop-number.boxes.items c.loop-number.invariant region none b)
    ]

pub returns : goal.returns
returns g c b =
    let all : c.loop-number.number ≡ length c.args.regions.now = omega (arith, c.loop-number-test.false, c.loop-number.auto.number-end) in
    subst (λ n. Contains c.loop-number.boxes.items b ↔ IsBoxOfSome n c.args.regions.now b) all (c.loop-number.invariant b)
