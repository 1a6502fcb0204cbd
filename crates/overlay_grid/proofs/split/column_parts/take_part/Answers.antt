use Rattle.std.proofs.Common.{◌+◌, ◌++◌, ◌∙◌, sym, ap, subst, append-nil, List, [], ◌∷◌}
use Rattle.std.specs.Prelude.{ℤ, ◌≤ℤ◌}
use Rattle.std.proofs.lemmas.List.{map-append}
use Rattle.overlay_geometry.specs.PairOf.{pair_of}
use Rattle.overlay_geometry.specs.PointOf.{point_of}
use Rattle.overlay_geometry.specs.Points.{Point}
use Rattle.overlay_grid.specs.FragmentOf.{KeptFragment, fragment_of, fragments_of, layout_of}
use Rattle.overlay_grid.specs.steps.Entering.{KeptRest, rest_of, rests_of}
use Rattle.overlay_grid.proofs.laws.grid.GridAdding.{border_between, next_within}
use Rattle.overlay_grid.proofs.laws.grid.GridSizes.{laid_out, column_fits}
use Rattle.overlay_grid.proofs.laws.grid.GridSweeps.{goes_right, last_part, inner_part, ends_here, rest_goes_on}
use Rattle.overlay_grid.proofs.split.column_parts.take_part.Goals as goal

pub returns-then-not-goes_on-clause-group : goal.returns-then-not-goes_on-clause-group
returns-then-not-goes_on-clause-group g c =
    let whole = g.I.OverlayInt.whole in
    let l = layout_of c.args.layout.now in
    let s = pair_of whole c.args.rest.x_segment in
    let part = last_part l c.args.rest.index s c.args.column (point_of whole c.args.rest.corner) c.requires.order c.requires.inside.from c.requires.place (sym c.goes_on.ensures ∙ c.if-not-goes_on.true) in
    ap (fragments_of whole) c.in_ok-push.ensures.items ∙ map-append (fragment_of whole) c.args.group.now.items _
    ∙ ap (λ (fs : List KeptFragment). fragments_of whole c.args.group.now.items ++ fs) (ap (λ (f : KeptFragment). f ∷ []) c.between.ensures ∙ sym part)

pub returns-then-not-goes_on-clause-rests : goal.returns-then-not-goes_on-clause-rests
returns-then-not-goes_on-clause-rests g c =
    let whole = g.I.OverlayInt.whole in
    let l = layout_of c.args.layout.now in
    let s = pair_of whole c.args.rest.x_segment in
    sym (append-nil (rests_of whole c.args.rests.now.items))
    ∙ ap (λ (rs : List KeptRest). rests_of whole c.args.rests.now.items ++ rs) (sym (ends_here l c.args.rest.index s c.args.column (sym c.goes_on.ensures ∙ c.if-not-goes_on.true)))

pub pos-border-requires : goal.pos-border-requires
pos-border-requires g c =
    let l = layout_of c.args.layout.now in
    let s = pair_of g.I.OverlayInt.whole c.args.rest.x_segment in
    let on = goes_right l s c.args.column c.requires.order (sym c.goes_on.ensures ∙ c.if-not-goes_on.false) in
    next_within l s c.args.column on.runs c.requires.inside.from c.requires.inside.to on.past

pub heights_at-heights-requires-clause-forward : goal.heights_at-heights-requires-clause-forward
heights_at-heights-requires-clause-forward g c =
    let l = layout_of c.args.layout.now in
    let s = pair_of g.I.OverlayInt.whole c.args.rest.x_segment in
    (goes_right l s c.args.column c.requires.order (sym c.goes_on.ensures ∙ c.if-not-goes_on.false)).runs.forward

pub heights_at-heights-requires-clause-from : goal.heights_at-heights-requires-clause-from
heights_at-heights-requires-clause-from g c =
    let l = layout_of c.args.layout.now in
    let s = pair_of g.I.OverlayInt.whole c.args.rest.x_segment in
    let on = goes_right l s c.args.column c.requires.order (sym c.goes_on.ensures ∙ c.if-not-goes_on.false) in
    subst (λ (z : ℤ). s.a.x ≤ℤ z) (sym c.pos-border.ensures) (border_between l s c.args.column on.runs c.requires.inside.from c.requires.place.from on.past).0

pub heights_at-heights-requires-clause-to : goal.heights_at-heights-requires-clause-to
heights_at-heights-requires-clause-to g c =
    let l = layout_of c.args.layout.now in
    let s = pair_of g.I.OverlayInt.whole c.args.rest.x_segment in
    let on = goes_right l s c.args.column c.requires.order (sym c.goes_on.ensures ∙ c.if-not-goes_on.false) in
    subst (λ (z : ℤ). z ≤ℤ s.b.x) (sym c.pos-border.ensures) (border_between l s c.args.column on.runs c.requires.inside.from c.requires.place.from on.past).1

pub returns-clause-group : goal.returns-clause-group
returns-clause-group g c =
    let whole = g.I.OverlayInt.whole in
    let l = layout_of c.args.layout.now in
    let s = pair_of whole c.args.rest.x_segment in
    let on = goes_right l s c.args.column c.requires.order (sym c.goes_on.ensures ∙ c.if-not-goes_on.false) in
    let part = inner_part l c.args.rest.index s c.args.column (point_of whole c.args.rest.corner) (whole c.pos-border.result) (whole c.heights_at-heights.result.far) c.requires.inside.from c.requires.place on c.pos-border.ensures c.heights_at-heights.ensures.far in
    ap (fragments_of whole) c.in_ok-push-2.ensures.items ∙ map-append (fragment_of whole) c.args.group.now.items _
    ∙ ap (λ (fs : List KeptFragment). fragments_of whole c.args.group.now.items ++ fs) (ap (λ (f : KeptFragment). f ∷ []) c.between-2.ensures ∙ sym part)

pub returns-clause-rests : goal.returns-clause-rests
returns-clause-rests g c =
    let whole = g.I.OverlayInt.whole in
    let l = layout_of c.args.layout.now in
    let s = pair_of whole c.args.rest.x_segment in
    let on = goes_right l s c.args.column c.requires.order (sym c.goes_on.ensures ∙ c.if-not-goes_on.false) in
    let next : Point = record { x = whole c.pos-border.result; y = whole c.heights_at-heights.result.near } in
    let rest = rest_goes_on l c.args.rest.index s c.args.column next c.requires.inside.from c.requires.place.from on c.pos-border.ensures c.heights_at-heights.ensures.near in
    ap (rests_of whole) c.in_ok-push-3.ensures.items ∙ map-append (rest_of whole) c.args.rests.now.items _
    ∙ ap (λ (rs : List KeptRest). rests_of whole c.args.rests.now.items ++ rs) (sym rest)

pub overflow_add-column : goal.overflow_add-column
overflow_add-column g c =
    let l = c.args.layout.now in
    let s = pair_of g.I.OverlayInt.whole c.args.rest.x_segment in
    let on = goes_right (layout_of l) s c.args.column c.requires.order (sym c.goes_on.ensures ∙ c.if-not-goes_on.false) in
    let o = laid_out (g.I.OverlayInt.whole g.I.OverlayInt.MIN_COORD) (g.I.OverlayInt.whole g.I.OverlayInt.MAX_COORD) (layout_of l) g.met.I.OverlayInt.lowest g.met.I.OverlayInt.highest l.from l.to l.order l.fits in
    column_fits _ _ (layout_of l) (c.args.column + 1) o (next_within (layout_of l) s c.args.column on.runs c.requires.inside.from c.requires.inside.to on.past)
