use Rattle.std.proofs.Common.{◌∙◌, ◌++◌, List, sym, ap, subst}
use Rattle.std.specs.Prelude.{All}
use Rattle.std.proofs.lemmas.List.Elements.{All-push}
use Rattle.overlay_geometry.specs.RangeOf.{rect_of}
use Rattle.overlay_relations.specs.steps.Columns.{IsBoxWithin, AreAround}
use Rattle.overlay_relations.specs.declared.columns.Column.{Column}
use Rattle.overlay_relations.specs.declared.columns.NumberedBox.{NumberedBox}
use Rattle.overlay_relations.proofs.columns.add_column.Goals as goal

pub returns-clause-around : goal.returns-clause-around
returns-clause-around g c old =
    let whole = g.I.OverlayInt.whole in
    let held = rw c.in-Some.is at c.bounds_of.ensures in
    let members = subst (λ (l : List (NumberedBox _)). All (λ (b : NumberedBox _). IsBoxWithin (rect_of whole b.bounds) (rect_of whole c.in-Some.bounds)) l) (sym (c.in_ok-extend_from_slice.ensures.items ∙ ap (λ (l : List (NumberedBox _)). l ++ c.args.part.now) c.new-members.ensures.items)) held in
    subst (λ (l : List (Column _)). All (AreAround whole) l) (sym c.in_ok-push.ensures.items) (All-push (AreAround whole) c.args.columns.now.items _ old members)
