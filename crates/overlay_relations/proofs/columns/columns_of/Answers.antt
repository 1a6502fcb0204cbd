use Rattle.std.proofs.Common.{◌∙◌, ◌++◌, List, ap, ap₂, take, drop}
use Rattle.std.proofs.lemmas.List.{append_assoc, take-append-drop}
use Rattle.overlay_relations.specs.steps.Columns.{members_of}
use Rattle.overlay_relations.specs.declared.columns.NumberedBox.{NumberedBox}
use Rattle.overlay_relations.proofs.columns.columns_of.Goals as goal

pub loop-rest-preserved : goal.loop-rest-preserved
loop-rest-preserved g c =
    let rest = c.loop-rest.rest.now in
    let n = c.min.result in
    let before = members_of c.loop-rest.columns.items in (
      ap₂ (λ (a b : List (NumberedBox _)). a ++ b) (c.in_ok-add_column.ensures.members ∙ ap (λ (l : List (NumberedBox _)). before ++ l) c.split_at.ensures.front) c.split_at.ensures.back
          ∙ append_assoc before (take n rest) (drop n rest) ∙ ap (λ (l : List (NumberedBox _)). before ++ l) (take-append-drop n rest) ∙ c.loop-rest.invariant.0,
      c.in_ok-add_column.ensures.around c.loop-rest.invariant.1,
      c.loop-rest.invariant.2,
    )
