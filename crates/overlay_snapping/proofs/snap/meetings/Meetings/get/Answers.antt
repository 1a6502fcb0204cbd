use Rattle.std.proofs.Common.{◌≡◌, ◌∙◌, sym, ap, subst, Some, List}
use Rattle.std.specs.Prelude.{slice_get, slice_range}
use Rattle.std.proofs.lemmas.Option.{slice_get-get_or}
use Rattle.overlay_snapping.specs.steps.Recorded.{part_of}
use Rattle.overlay_snapping.specs.declared.snap.meetings.Part.{Part}
use Rattle.overlay_snapping.proofs.laws.cells.Recorded.{if_some_from}
use Rattle.overlay_snapping.proofs.snap.meetings.Meetings.get.Goals as goal

pub returns : goal.returns
returns g c =
    let points = c.args.self.now.points.items in
    let p : Part = c.in_ok-part.part.now in
    let found = c.in_ok-part.ensures.lookup in
    let at : slice_get c.args.self.now.parts.items c.args.index ≡ Some p =
    subst (λ (l : List Part). slice_get l c.args.index ≡ Some p) c.deref.ensures.value (slice_get-get_or c.deref.result.now c.args.index p found.3.0 ∙ ap (λ q. Some q) (sym found.1)) in
    if_some_from _ c.get-2.result c.get-2.ensures.lookup.0 (λ x b. ap (λ o. part_of points o) at ∙ ap (λ l. Some (slice_range l p.start p.end)) (sym c.deref-2.ensures.value) ∙ ap (λ l. Some l) (sym b.2))
